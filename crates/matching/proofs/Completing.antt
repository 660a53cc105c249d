-- Inputs are seated one after the other: each that asks keeps the others seated, and one that is stuck shows that no full setting keeps what is fixed.
use Rattle.labels.specs.Ports.{Outputs}
use Rattle.std.specs.Prelude.{Err, Ok}
use mathlib.Core.Path.{◌≡◌, sym, subst, ◌∙◌}
use mathlib.Core.Logic.{◌⊎◌, inl, inr, ⊎_elim}
use mathlib.Core.List.{List}
use Prim.Native.Nat.{ℕ, ◌+◌, ◌<◌, ◌≤◌}
use native.Mathlib.Omega.{arith}
use lib.ListN.{get_or, set}
use lib.Seq.{get_or-set_other}
use Rattle.sets.specs.Label.{In, Marked, Cleared}
use Rattle.sets.proofs.Digits.{same_or}
use Rattle.search.specs.Tables.{Held, Holds, joined, Matching}
use Rattle.search.specs.Search.{Free, AskPre, Around, Gained, Moved, Unmoved}
use Rattle.matching.specs.Chosen.{Fixed, AllHeld, NoneKeeps, Seating, SeatPre}
use Rattle.std.specs.declared.result.Result.{Result}
use Rattle.search.proofs.Tables.{held-not-free, taken-good}
use Rattle.search.proofs.Search.{take-gains}
use Rattle.matching.proofs.Closed.{not_there}

abbrev is-ok : {A B : Type 0} → Result A B → Type 0
is-ok (Ok x) = Unit {0}
is-ok (Err x) = ⊥

pub ok-err : {A B : Type 0} {x : A} {y : B} → ◌≡◌ {A = Result A B} (Ok x) (Err y) → ⊥
ok-err e = subst is-ok e tt

-- below i + 1 is below i, or i
pub one_more : (P : ℕ → Type 0) (i : ℕ) → ((m : ℕ) → m < i → P m) → P i → (m : ℕ) → m < i + 1 → P m
one_more P i below at m l = go (same_or m i)
  where
    go : (m ≡ i) ⊎ (m ≡ i → ⊥) → P m
    go (inl e) = subst P (sym e) at
    go (inr f) = below m (omega arith)

pub fixed-none : (out : List ℕ) (f : ℕ) → ((k : ℕ) → In f k → ⊥) → Fixed out 0 f
fixed-none out f e = record { from = λ k x. absurd (e k x); got = λ m l. absurd (omega arith) }

pub fixed_more : (out : List ℕ) (i f f' : ℕ) → Fixed out i f → Marked f (joined out i) f' → Fixed out (i + 1) f'
fixed_more out i f f' p mk = record { from = λ k x. from k (mk.only k x); got = one_more (λ m. In f' (joined out m)) i (λ m l. mk.more (joined out m) (p.got m l)) mk.put }
  where
    from : (k : ℕ) → In f k ⊎ (k ≡ joined out i) → (m : ℕ) × (m < i + 1) × (joined out m ≡ k)
    from k (inl x) = let a = p.from k x in let l = a.1 in (a.0, omega arith, a.2)
    from k (inr e) = (i, omega arith, sym e)

-- what holds an output holds what the tables tell
pub told : (w n : ℕ) (E : ℕ → ℕ → Type 0) (by out : List ℕ) (i : ℕ) → Matching w n E by out → Holds by i → Held by (joined out i) i
told w n E by out i g x = subst (λ (k : ℕ). Held by k i) (sym (g.paired x.0 i x.1)) x.1

-- ---- input i is seated

module _ (w n : ℕ) (E : ℕ → ℕ → Type 0) (by out : List ℕ) (known fixed i : ℕ) (p : SeatPre w n E by out known fixed i) where
  -- it may ask: what is fixed is held, so that nothing that is free is tried
  pub seat-asks : AskPre w n E by out known fixed
  seat-asks = record { good = p.good; spare = λ k l h. let e = p.free k l h in (e, λ x. let y = p.held k x in held-not-free by k y.0 y.1 e) }

  module _ (row : ℕ) (may : (k : ℕ) → In row k → E i k) (shut : (k : ℕ) → E i k → In row k) where
    -- it is refused: no full setting keeps what is fixed
    pub seat-stuck : (by' out' : List ℕ) (u : ℕ) → Unmoved E by out fixed row by' out' u → (by' ≡ by) × (out' ≡ out) × NoneKeeps n E by fixed
    seat-stuck by' out' u m = (
      m.holders,
      m.outs,
      λ o f k. not_there w n E by out fixed u i o p.good p.here p.idle m.closed f p.held k (m.all (o i) (shut (o i) (f.used i p.here))),
    )

    -- it takes what was made free
    pub seat-taken : (j spent known' : ℕ) (by' out' by'' out'' : List ℕ) → n ≤ w → Moved w n E by out fixed row j spent by' out' → Marked known spent known'
        → by'' ≡ set by' j (i + 1) → out'' ≡ set out' i j → Matching w n E by'' out'' × Free w by'' known' × Gained n by out fixed i by'' out''
    seat-taken j spent known' by' out' by'' out'' few m mk eb eo = rw (eb, eo) (
      taken-good w n E by' out' m.good j i m.here p.here few (may j m.asked) (λ x. p.idle (m.moved.only i x)),
      free,
      take-gains n by out fixed j i by' out' (omega (arith, m.good.holders, m.here)) (omega (arith, m.good.outputs, p.here)) p.here m.new m.moved,
    )
      where
        free : Free w (set by' j (i + 1)) known'
        free k l h =
            let e = p.free k l (λ x. h (mk.more k x)) in
            let d : k ≡ spent → ⊥ = λ q. h (subst (In known') (sym q) mk.put) in
            get_or-set_other by' j k (i + 1) 0 (λ q. d (q ∙ m.same (subst (λ (a : ℕ). get_or by a 0 ≡ 0) q e))) ∙ m.others k e d

-- ---- one after the other

-- the first that waits may be seated
pub seats-next : (w n : ℕ) (E : ℕ → ℕ → Type 0) (by₀ out₀ by out : List ℕ) (known fixed rest i : ℕ) → AllHeld by₀ fixed → Around n by₀ out₀ fixed by out
    → Seating w n E by out known rest → In rest i → SeatPre w n E by out known fixed i
seats-next w n E by₀ out₀ by out known fixed rest i h a s x = record {
  good = s.good;
  free = s.free;
  held = λ k y. let z = h k y in (z.0, a.still k y ∙ z.1);
  here = (s.idle i x).0;
  idle = (s.idle i x).1;
}

-- it was, and waits no longer
pub seats-more : (w n : ℕ) (E : ℕ → ℕ → Type 0) (by out : List ℕ) (known fixed rest i : ℕ) → Seating w n E by out known rest → (by' out' : List ℕ) (known' rest' : ℕ)
    → Matching w n E by' out' → Free w by' known' → Gained n by out fixed i by' out' → Cleared rest i rest' → Seating w n E by' out' known' rest'
seats-more w n E by out known fixed rest i s by' out' known' rest' good free g c = record { good = good; free = free; begun = begun; idle = idle }
  where
    begun : (m : ℕ) → m < n → (In rest' m → ⊥) → Holds by' m
    begun m l f = go (same_or m i)
      where
        go : (m ≡ i) ⊎ (m ≡ i → ⊥) → Holds by' m
        go (inl e) = subst (Holds by') (sym e) (joined out' i, g.holds)
        go (inr d) = g.around.kept m (s.begun m l (λ x. f (c.kept m x d)))

    idle : (m : ℕ) → In rest' m → (m < n) × (Holds by' m → ⊥)
    idle m x =
        let y = s.idle m (c.less m x) in
        (y.0, λ h. ⊎_elim y.1 (λ e. c.gone (subst (In rest') e x)) (g.only m h))

-- one is refused: what is fixed is held as it was at the start
pub none-through : (n : ℕ) (E : ℕ → ℕ → Type 0) (by₀ out₀ by out : List ℕ) (fixed : ℕ) → Around n by₀ out₀ fixed by out → NoneKeeps n E by fixed → NoneKeeps n E by₀ fixed
none-through n E by₀ out₀ by out fixed a f o g k = f o g (λ j m x h. k j m x (sym (a.still j x) ∙ h))
