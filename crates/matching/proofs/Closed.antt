-- A closed set blocks: a full setting that keeps what is fixed moves the holders of the rest of the set among themselves, so that nothing is left for an input that holds nothing.
use mathlib.Core.Path.{◌≡◌, refl, sym, ap, subst, ◌∙◌}
use mathlib.Core.Bool.{Bool, true, false, not, ◌&&◌}
use mathlib.Core.Logic.{◌≢◌, ⊎_elim}
use mathlib.Core.List.{List}
use Prim.Native.Nat.{ℕ, ◌-◌, ◌<◌}
use native.Mathlib.Omega.{arith}
use lib.Dec.{T, eqb, eqb→eq, eqb_refl, T_not, not_T}
use lib.ListN.{get_or}
use Rattle.counting.specs.Count.{ind, count}
use Rattle.counting.proofs.Sum.{sum-change}
use Rattle.counting.proofs.Count.{ind-true, ind-false}
use Rattle.counting.proofs.Pigeonhole.{pigeonhole}
use Rattle.sets.specs.Label.{digit, In, is_in}
use Rattle.rules.specs.First.{Fits}
use Rattle.search.specs.Tables.{Held, Holds, Matching}
use Rattle.search.specs.Search.{Stays, Closed}
use Rattle.matching.specs.Chosen.{AllHeld, Keeps}
use Rattle.search.proofs.Tables.{one-output, place}

both : (a b : Bool) → T (a && b) → T a × T b
both true true t = (tt, tt)
both true false t = absurd t
both false b t = absurd t

pair : (a b : Bool) → T a → T b → T (a && b)
pair true true s t = tt
pair true false s t = absurd t
pair false b s t = absurd s

-- S is a set of numbers below w, and g takes it into itself one to one: then no x of S is missed
pub none-missed : (w : ℕ) (S : ℕ → Bool) (g : ℕ → ℕ) → ((k : ℕ) → k < w → T (S k) → (g k < w) × T (S (g k)))
    → ((k l : ℕ) → k < w → l < w → T (S k) → T (S l) → g k ≡ g l → k ≡ l)
    → (x : ℕ) → x < w → T (S x) → ((k : ℕ) → k < w → T (S k) → g k ≢ x) → ⊥
unfolding count
none-missed w S g into one x l has missed =
    omega (arith, pigeonhole w w S rest g into' one, sum-change w (λ k. ind (S k)) (λ k. ind (rest k)) x l other, ind-true (S x) has, ind-false (rest x) gone)
  where
    rest : ℕ → Bool
    rest k = S k && not (eqb k x)

    into' : (k : ℕ) → k < w → T (S k) → (g k < w) × T (rest (g k))
    into' k q t = ((into k q t).0, pair (S (g k)) (not (eqb (g k) x)) (into k q t).1 (not_T (eqb (g k) x) (λ e. missed k q t (eqb→eq (g k) x e))))

    gone : T (rest x) → ⊥
    gone t = T_not (eqb x x) (both (S x) (not (eqb x x)) t).1 (eqb_refl x)

    same : (k : ℕ) → (a : Bool) → (eqb k x ≡ a) → k ≢ x → ind (S k) ≡ ind (S k && not a)
    same k true e f = absurd (f (eqb→eq k x (rw e tt)))
    same k false e f = ap ind (and_yes (S k))
      where
        and_yes : (b : Bool) → b ≡ (b && true)
        and_yes true = refl
        and_yes false = refl

    other : (k : ℕ) → k < w → k ≢ x → ind (S k) ≡ ind (rest k)
    other k q f = same k (eqb k x) refl f

-- ---- no full setting that keeps what is fixed joins i to an output of u

module _ (w n : ℕ) (E : ℕ → ℕ → Type 0) (by out : List ℕ) (fixed u i : ℕ) (o : ℕ → ℕ) (good : Matching w n E by out) (here : i < n)
    (idle : Holds by i → ⊥) (closed : Closed E by fixed u) (fits : Fits n E o) (held : AllHeld by fixed) (keeps : Keeps by fixed o) where
  -- tried, and not fixed
  abbrev new : ℕ → Bool
  new k = is_in u k && not (is_in fixed k)

  tried : (k : ℕ) → T (new k) → In u k
  tried k t = eqb→eq (digit u k) 1 (both (is_in u k) (not (is_in fixed k)) t).0

  loose : (k : ℕ) → T (new k) → In fixed k → ⊥
  loose k t f = T_not (is_in fixed k) (both (is_in u k) (not (is_in fixed k)) t).1 (rw f tt)

  is-new : (k : ℕ) → In u k → (In fixed k → ⊥) → T (new k)
  is-new k a f = pair (is_in u k) (not (is_in fixed k)) (rw a tt) (not_T (is_in fixed k) (λ e. f (eqb→eq (digit fixed k) 1 e)))

  holder : (k : ℕ) → T (new k) → Stays E by u k
  holder k t = ⊎_elim (λ (f : In fixed k). absurd (loose k t f)) (λ y. y) (closed k (tried k t))

  -- where the setting puts the holder of k
  abbrev next : ℕ → ℕ
  next k = o (get_or by k 0 - 1)

  next-is : (k m : ℕ) → Held by k m → next k ≡ o m
  next-is k m e = ap o (omega arith)

  -- two inputs that the setting puts to one output are one
  same : (k l m : ℕ) → Held by k l → m < n → o l ≡ o m → Held by k m
  same k l m e q p = subst (Held by k) (fits.full.once l m (good.port k l e) q p) e

  -- an output that the setting gives to m and that is fixed is held by m
  fixed-holds : (m : ℕ) → m < n → In fixed (o m) → Held by (o m) m
  fixed-holds m q f = let h = held (o m) f in same (o m) h.0 m h.1 q (keeps (o m) h.0 f h.1)

  stays : (k : ℕ) → k < w → T (new k) → (next k < w) × T (new (next k))
  stays k l t =
      let h = holder k t in
      let m = h.0 in
      let q = good.port k m h.1 in
      let a : T (new (o m)) = is-new (o m) (h.2 (o m) (fits.used m q)) (λ f. loose k t (subst (In fixed) (one-output w n E by out good (o m) k m (fixed-holds m q f) h.1) f)) in
      let b = holder (o m) a in
      rw (next-is k m h.1) (place w n E by out good (o m) b.0 b.1, a)

  one : (k l : ℕ) → k < w → l < w → T (new k) → T (new l) → next k ≡ next l → k ≡ l
  one k l _ _ s t e =
      let a = holder k s in
      let b = holder l t in
      let m = b.0 in
      one-output w n E by out good k l m (same k a.0 m a.1 (good.port l m b.1) (sym (next-is k a.0 a.1) ∙ e ∙ next-is l m b.1)) b.1

  missed : (k : ℕ) → k < w → T (new k) → next k ≢ o i
  missed k _ t e = let a = holder k t in idle (k, same k a.0 i a.1 here (sym (next-is k a.0 a.1) ∙ e))

  pub not_there : In u (o i) → ⊥
  not_there x =
      let a : T (new (o i)) = is-new (o i) x (λ f. idle (o i, fixed-holds i here f)) in
      let b = holder (o i) a in
      none-missed w new next stays one (o i) (place w n E by out good (o i) b.0 b.1) a missed
