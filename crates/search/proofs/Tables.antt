-- A store changes one place of a table, so a matching stays one where an output is freed, and where an idle input takes a free output.
use mathlib.Core.Path.{◌≡◌, refl, sym, ap, subst, ◌∙◌}
use mathlib.Core.Logic.{◌⊎◌, inl, inr}
use mathlib.Core.List.{List, [], ◌∷◌}
use Prim.Native.Nat.{ℕ, zero, suc, ◌+◌, ◌<◌, ◌≤◌, zero-le, suc-le-suc}
use native.Mathlib.Nat.{not-suc-le-zero, le_of_suc-le-suc}
use native.Mathlib.Omega.{arith}
use lib.ListN.{length, get_or, set, length-set}
use lib.Seq.{get_or-set_same, get_or-set_other}
use Rattle.sets.proofs.Digits.{same_or}
use Rattle.search.specs.Tables.{Held, Holds, joined, Matching}

-- after a store at j, what stands at k is the value stored
pub record Here (h : List ℕ) (j v k : ℕ) : Type 0 where
  pub is : k ≡ j
  pub at : get_or (set h j v) k 0 ≡ v

-- or what stood there
pub record Other (h : List ℕ) (j v k : ℕ) : Type 0 where
  pub not : k ≡ j → ⊥
  pub at : get_or (set h j v) k 0 ≡ get_or h k 0

pub stored : (h : List ℕ) (j v k : ℕ) → j < length h → Here h j v k ⊎ Other h j v k
stored h j v k l = go (same_or k j)
  where
    go : (k ≡ j) ⊎ (k ≡ j → ⊥) → Here h j v k ⊎ Other h j v k
    go (inl p) = inl (record { is = p; at = subst (λ (m : ℕ). get_or (set h j v) m 0 ≡ v) (sym p) (get_or-set_same h j v 0 l) })
    go (inr f) = inr (record { not = f; at = get_or-set_other h j k v 0 f })

-- within a table it does not matter what stands past its end
pub in-range : (h : List ℕ) (k d e : ℕ) → k < length h → get_or h k d ≡ get_or h k e
in-range [] k d e l = absurd (not-suc-le-zero l)
in-range (x ∷ h) zero d e l = refl
in-range (x ∷ h) (suc k) d e l = in-range h k d e (le_of_suc-le-suc l)

-- a port of a switch of n ≤ w ports has a place
pub has-place : (w n i : ℕ) (h : List ℕ) → n ≤ w → i < n → length h ≡ w → i < length h
has-place w n i h few l e = omega arith

-- only a place of the table is held
pub held_in : (h : List ℕ) (k m : ℕ) → Held h k m → k < length h
held_in [] k m e = omega arith
held_in (x ∷ h) zero m e = suc-le-suc zero-le
held_in (x ∷ h) (suc k) m e = suc-le-suc (held_in h k m e)

-- a free place is nobody's
pub held-not-free : (h : List ℕ) (k m : ℕ) → Held h k m → get_or h k 0 ≡ 0 → ⊥
held-not-free h k m e z = omega arith

-- an output has one holder
pub one-holder : (h : List ℕ) (k m i : ℕ) → Held h k m → Held h k i → m ≡ i
one-holder h k m i e f = omega arith

-- who holds an output after j was freed held it before, and it is not j
pub freed-back : (h : List ℕ) (j k i : ℕ) → j < length h → Held (set h j 0) k i → (k ≡ j → ⊥) × Held h k i
freed-back h j k i l e = go (stored h j 0 k l)
  where
    go : Here h j 0 k ⊎ Other h j 0 k → (k ≡ j → ⊥) × Held h k i
    go (inl p) = absurd (held-not-free (set h j 0) k i e p.at)
    go (inr f) = (f.not, sym f.at ∙ e)

-- any other keeps its holder
pub freed-other : (h : List ℕ) (j k i : ℕ) → (k ≡ j → ⊥) → Held h k i → Held (set h j 0) k i
freed-other h j k i f e = get_or-set_other h j k 0 0 f ∙ e

-- a place that is stored to and given back what it had
pub set_back : (l : List ℕ) (i a : ℕ) → set (set l i a) i (get_or l i 0) ≡ l
set_back [] i a = refl
set_back (x ∷ xs) zero a = refl
set_back (x ∷ xs) (suc i) a = ap (λ (r : List ℕ). x ∷ r) (set_back xs i a)

module _ (w n : ℕ) (E : ℕ → ℕ → Type 0) (by out : List ℕ) (g : Matching w n E by out) where
  -- an input holds one output
  pub one-output : (j k i : ℕ) → Held by j i → Held by k i → j ≡ k
  one-output j k i e f = sym (g.paired j i e) ∙ g.paired k i f

  pub place : (j i : ℕ) → Held by j i → j < w
  place j i e = omega (arith, held_in by j i e, g.holders)

  pub freed-good : (j : ℕ) → j < w → Matching w n E (set by j 0) out
  freed-good j l = record {
    holders = length-set by j 0 ∙ g.holders;
    outputs = g.outputs;
    port = λ k i e. g.port k i (back k i e);
    edge = λ k i e. g.edge k i (back k i e);
    paired = λ k i e. g.paired k i (back k i e);
  }
    where
      back : (k i : ℕ) → Held (set by j 0) k i → Held by k i
      back k i e = (freed-back by j k i (omega (arith, g.holders)) e).1

  pub freed-idle : (j i : ℕ) → Held by j i → Holds (set by j 0) i → ⊥
  freed-idle j i e x = let b = freed-back by j x.0 i (held_in by j i e) x.1 in b.0 (one-output x.0 j i b.1 e)

  pub taken-good : (j i : ℕ) → j < w → i < n → n ≤ w → E i j → (Holds by i → ⊥) → Matching w n E (set by j (i + 1)) (set out i j)
  taken-good j i l li lw edge idle = record {
    holders = length-set by j (i + 1) ∙ g.holders;
    outputs = length-set out i j ∙ g.outputs;
    port = λ k m e. port k m e (stored by j (i + 1) k lj);
    edge = λ k m e. edges k m e (stored by j (i + 1) k lj);
    paired = λ k m e. pairs k m e (stored by j (i + 1) k lj);
  }
    where
      lj : j < length by
      lj = omega (arith, g.holders)

      port : (k m : ℕ) → Held (set by j (i + 1)) k m → Here by j (i + 1) k ⊎ Other by j (i + 1) k → m < n
      port k m e (inl p) = omega (arith, p.at)
      port k m e (inr f) = g.port k m (sym f.at ∙ e)

      edges : (k m : ℕ) → Held (set by j (i + 1)) k m → Here by j (i + 1) k ⊎ Other by j (i + 1) k → E m k
      edges k m e (inl p) = let q : i ≡ m = omega (arith, p.at) in subst (λ (a : ℕ). E a k) q (subst (λ (b : ℕ). E i b) (sym p.is) edge)
      edges k m e (inr f) = g.edge k m (sym f.at ∙ e)

      pairs : (k m : ℕ) → Held (set by j (i + 1)) k m → Here by j (i + 1) k ⊎ Other by j (i + 1) k → joined (set out i j) m ≡ k
      pairs k m e (inl p) =
          let q : m ≡ i = omega (arith, p.at) in
          ap (joined (set out i j)) q ∙ get_or-set_same out i j 255 (omega (arith, g.outputs)) ∙ sym p.is
      pairs k m e (inr f) =
          let h : Held by k m = sym f.at ∙ e in
          get_or-set_other out i m j 255 (λ q. idle (k, subst (Held by k) q h)) ∙ g.paired k m h
