-- Comparing outputs one after the other tells whether two settings are the same, by induction on the first.
use mathlib.Core.Path.{◌≡◌, refl, sym, ap, ap₂, ◌∙◌}
use mathlib.Core.Bool.{Bool, true, false, ◌&&◌}
use mathlib.Core.List.{List, [], ◌∷◌}
use Prim.Native.Nat.{ℕ, ◌+◌, ◌<◌, ◌≤◌}
use native.Mathlib.Numerals.{add-one}
use native.Mathlib.Omega.{arith}
use lib.Dec.{eqb}
use lib.ListN.{length, get_or, drop, drop_of_length-le}
use lib.Seq.{drop-cons}
use borrow.Author.Tests.{eqb-true, eq-eqb}
use Rattle.tally.specs.Sums.{same_outputs}
use Rattle.records.proofs.Every.{and_l, and_r}

same_true : (a b : List ℕ) → same_outputs a b ≡ true → a ≡ b
unfolding same_outputs
same_true [] [] e = refl
same_true [] (y ∷ b) e = let z : ◌≡◌ {A = ℕ} 0 1 = cc in absurd (let f : ⊥ = omega arith in f)
same_true (x ∷ a) [] e = let z : ◌≡◌ {A = ℕ} 0 1 = cc in absurd (let f : ⊥ = omega arith in f)
same_true (x ∷ a) (y ∷ b) e =
    ap₂ ◌∷◌ (eqb-true x y (and_l (eqb x y) (same_outputs a b) e)) (same_true a b (and_r (eqb x y) (same_outputs a b) e))

same_self : (a : List ℕ) → same_outputs a a ≡ true
unfolding same_outputs
same_self [] = refl
same_self (x ∷ a) = rw (eq-eqb x x refl, same_self a)

pub same-yes : (a b : List ℕ) → a ≡ b → same_outputs a b ≡ true
same-yes a b e = ap (λ (x : List ℕ). same_outputs a x) (sym e) ∙ same_self a

-- two settings are the same or not
pub same? : (a b : List ℕ) → Dec (a ≡ b)
same? a b = by (same_outputs a b) refl
  where
    by : (t : Bool) → same_outputs a b ≡ t → Dec (a ≡ b)
    by true q = yes (same_true a b q)
    by false q = no (λ e. let f : true ≡ false = sym (same-yes a b e) ∙ q in let z : ◌≡◌ {A = ℕ} 0 1 = cc in let g : ⊥ = omega arith in g)

pub same-no : (a b : List ℕ) → (a ≡ b → ⊥) → same_outputs a b ≡ false
same-no a b n = by (same_outputs a b) refl
  where
    by : (t : Bool) → same_outputs a b ≡ t → same_outputs a b ≡ false
    by true q = absurd (n (same_true a b q))
    by false q = q

-- the outputs from i on: the same at i, and from i + 1 on
same_next : (a b : List ℕ) (i : ℕ) → i < length a → i < length b
    → same_outputs (drop i a) (drop i b) ≡ (eqb (get_or a i 0) (get_or b i 0) && same_outputs (drop (i + 1) a) (drop (i + 1) b))
unfolding same_outputs
same_next a b i l m = rw (add-one, drop-cons a i 0 l, drop-cons b i 0 m)

same_end : (a b : List ℕ) (i : ℕ) → length a ≤ i → length b ≤ i → same_outputs (drop i a) (drop i b) ≡ true
same_end a b i l m = rw (drop_of_length-le a {i = i} l, drop_of_length-le b {i = i} m) (same_self [])

-- the outputs below i are the same, or not, and so those below i + 1; and all of them
module _ (a b : List ℕ) (i : ℕ) where
  pub same_more : (t : Bool) → i < length a → i < length b → same_outputs a b ≡ (t && same_outputs (drop i a) (drop i b))
      → same_outputs a b ≡ ((t && eqb (get_or a i 0) (get_or b i 0)) && same_outputs (drop (i + 1) a) (drop (i + 1) b))
  same_more true l m e = e ∙ same_next a b i l m
  same_more false l m e = e

  pub same-all : (t : Bool) → length a ≤ i → length b ≤ i → same_outputs a b ≡ (t && same_outputs (drop i a) (drop i b)) → t ≡ same_outputs a b
  same-all true l m e = sym (e ∙ same_end a b i l m)
  same-all false l m e = sym e

pub told_same : (a b : List ℕ) (t : Bool) → t ≡ same_outputs a b → t ≡ true → a ≡ b
told_same a b t e q = same_true a b (sym e ∙ q)

pub told-other : (a b : List ℕ) (t : Bool) → t ≡ same_outputs a b → t ≡ false → a ≡ b → ⊥
told-other a b t e q s =
    let f : true ≡ false = sym (same-yes a b s) ∙ sym e ∙ q in
    let z : ◌≡◌ {A = ℕ} 0 1 = cc in
    let g : ⊥ = omega arith in
    g
