-- The inputs whose pairs are empty give their outputs up, from the first to the last, and no other input's pair is touched.
use mathlib.Core.Path.{◌≡◌, refl, sym, ap, subst, ◌∙◌}
use mathlib.Core.Logic.{◌⊎◌, inl, inr}
use mathlib.Core.List.{List}
use Prim.Native.Nat.{ℕ, ◌<◌}
use native.Mathlib.Omega.{arith}
use lib.ListN.{length, get_or, set, length-set}
use lib.Seq.{get_or-set_same, get_or-set_other}
use Rattle.sets.specs.Label.{In, Sub, Cleared}
use Rattle.sets.proofs.Digits.{same_or}
use Rattle.search.specs.Tables.{Held, joined, Matching}
use Rattle.search.proofs.Tables.{held_in, held-not-free, one-holder, freed-back, freed-other}
use Rattle.matching.specs.Chosen.{Seating}
use Rattle.peel.specs.Standing.{Giving, Released}

-- those that are not among the rest have given theirs up
pub record Partly (emptied : ℕ) (out by : List ℕ) (rest : ℕ) (by' : List ℕ) (known : ℕ) : Type 0 where
  pub size : length by' ≡ length by
  pub among : Sub rest emptied
  pub back : (j m : ℕ) → Held by' j m → Held by j m
  pub gone : (m : ℕ) → In emptied m → (In rest m → ⊥) → get_or by' (joined out m) 0 ≡ 0
  pub kept : (j m : ℕ) → Held by j m → (In emptied m → ⊥) → Held by' j m
  pub free : (k : ℕ) → k < 128 → (In known k → ⊥) → (m : ℕ) × In emptied m × (joined out m ≡ k)

module _ (emptied : ℕ) (out by : List ℕ) (g : Giving emptied out by) where
  pub partly-start : (known : ℕ) → ((k : ℕ) → k < 128 → In known k) → Partly emptied out by emptied by known
  partly-start known every = record {
    size = refl;
    among = λ k x. x;
    back = λ j m h. h;
    gone = λ m x f. absurd (f x);
    kept = λ j m h _. h;
    free = λ k l f. absurd (f (every k l));
  }

  module _ (rest : ℕ) (by' : List ℕ) (known i : ℕ) (p : Partly emptied out by rest by' known) (here : In rest i) where
    own : Held by (joined out i) i
    own = g.held i (p.among i here)

    pub given-place : joined out i < length by'
    given-place = omega (arith, held_in by (joined out i) i own, p.size)

    pub partly_more : (rest' known' : ℕ) → Cleared rest i rest' → Cleared known (joined out i) known' → Partly emptied out by rest' (set by' (joined out i) 0) known'
    partly_more rest' known' c d = record {
      size = length-set by' (joined out i) 0 ∙ p.size;
      among = λ k x. p.among k (c.less k x);
      back = λ j m h. p.back j m (freed-back by' (joined out i) j m given-place h).1;
      gone = λ m x f. gone m x f (same_or m i) (same_or (joined out m) (joined out i));
      kept = λ j m h f. freed-other by' (joined out i) j m (λ e. f (subst (In emptied) (sym (one-holder by (joined out i) m i (subst (λ (q : ℕ). Held by q m) e h) own)) (p.among i here))) (p.kept j m h f);
      free = λ k l f. free k l f (same_or k (joined out i));
    }
      where
        gone : (m : ℕ) → In emptied m → (In rest' m → ⊥) → (m ≡ i) ⊎ (m ≡ i → ⊥) → (joined out m ≡ joined out i) ⊎ (joined out m ≡ joined out i → ⊥) → get_or (set by' (joined out i) 0) (joined out m) 0 ≡ 0
        gone m x f s (inl e) = ap (λ (q : ℕ). get_or (set by' (joined out i) 0) q 0) e ∙ get_or-set_same by' (joined out i) 0 0 given-place
        gone m x f (inl e) (inr d) = absurd (d (ap (joined out) e))
        gone m x f (inr e) (inr d) = get_or-set_other by' (joined out i) (joined out m) 0 0 d ∙ p.gone m x (λ y. f (c.kept m y e))

        free : (k : ℕ) → k < 128 → (In known' k → ⊥) → (k ≡ joined out i) ⊎ (k ≡ joined out i → ⊥) → (m : ℕ) × In emptied m × (joined out m ≡ k)
        free k l f (inl e) = (i, p.among i here, sym e)
        free k l f (inr e) = p.free k l (λ x. f (d.kept k x e))

  pub partly-all : (rest : ℕ) (by' : List ℕ) (known : ℕ) → Partly emptied out by rest by' known → ((k : ℕ) → In rest k → ⊥) → Released emptied out by by' known
  partly-all rest by' known p none = record { size = p.size; back = p.back; gone = λ m x. p.gone m x (none m); kept = p.kept; free = p.free }

-- who still holds may have its output, and who gave it up waits
pub released : (N : ℕ) (E E' : ℕ → ℕ → Type 0) (emptied : ℕ) (out by by' : List ℕ) (known : ℕ) → Matching 128 N E by out → ((m : ℕ) → m < N → Held by (joined out m) m)
    → ((m : ℕ) → In emptied m → m < N) → ((m : ℕ) → m < N → (In emptied m → ⊥) → E' m (joined out m)) → Released emptied out by by' known → Seating 128 N E' by' out known emptied
released N E E' emptied out by by' known good held few still r = record {
  good = record {
    holders = r.size ∙ good.holders;
    outputs = good.outputs;
    port = λ j m h. good.port j m (r.back j m h);
    edge = λ j m h. let e = good.paired j m (r.back j m h) in subst (E' m) e (still m (good.port j m (r.back j m h)) (λ x. lost j m h x));
    paired = λ j m h. good.paired j m (r.back j m h);
  };
  free = λ k l f. let x = r.free k l f in subst (λ (q : ℕ). get_or by' q 0 ≡ 0) x.2 (r.gone x.0 x.1);
  begun = λ m l f. (joined out m, r.kept (joined out m) m (held m l) f);
  idle = λ m x. (few m x, λ h. lost h.0 m h.1 x);
}
  where
    lost : (j m : ℕ) → Held by' j m → In emptied m → ⊥
    lost j m h x = held-not-free by' j m h (subst (λ (q : ℕ). get_or by' q 0 ≡ 0) (good.paired j m (r.back j m h)) (r.gone m x))
