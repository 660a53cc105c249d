-- Laying one list behind another is laying both at once; straight stores and a copying loop lay a list too.
use mathlib.Core.Path.{◌≡◌, refl, sym, ap, ap₂, ◌∙◌}
use mathlib.Core.List.{List, [], ◌∷◌, ◌++◌, append_assoc, append-nil}
use Prim.Native.Nat.{ℕ, suc, ◌+◌, ◌-◌, ◌<◌, ◌≤◌}
use native.Mathlib.Omega.{arith}
use native.Mathlib.Nat.{add-zero, zero-add}
use native.Mathlib.Numerals.{add-one}
use lib.ListN.{length, get_or, set, take, drop, length-set, length-append, length-take, length-drop, take-append-drop, drop_of_length-le}
use lib.Seq.{take_at, drop_at, drop-drop, take_all, length-take-le, sets-eq, paste, paste-suc}
use borrow.Rule.Slice.PartMut.{put_mid}
use Rattle.records.specs.Bytes.{laid}

pub laid_none : (d : List ℕ) (at : ℕ) → laid d at [] ≡ d
unfolding laid
laid_none d at = rw (add-zero at, append-nil (take at d)) (take-append-drop at d)

module _ (d : List ℕ) (at : ℕ) (s : List ℕ) (fits : at + length s ≤ length d) where
  head-length : length (take at d ++ s) ≡ at + length s
  head-length = simp (length-append, length-take) (omega arith)

  pub length-laid : length (laid d at s) ≡ length d
  unfolding laid
  length-laid = simp (length-append, length-take, length-drop) (omega arith)

  -- laid behind what was laid: laid at once
  pub laid_more : (t : List ℕ) → laid (laid d at s) (at + length s) t ≡ laid d at (s ++ t)
  unfolding laid
  laid_more t =
      ap₂ (λ (a b : List ℕ). a ++ t ++ b) (take_at (take at d ++ s) (drop (at + length s) d) (at + length s) head-length) tail
      ∙ ap (λ (a : List ℕ). a ++ drop (at + length (s ++ t)) d) (append_assoc (take at d) s t)
    where
      ends : at + length s + length t ≡ at + length (s ++ t)
      ends = omega (arith, length-append s t)

      tail : drop (at + length s + length t) (take at d ++ s ++ drop (at + length s) d) ≡ drop (at + length (s ++ t)) d
      tail =
          sym (drop-drop (length t) (at + length s) (take at d ++ s ++ drop (at + length s) d))
          ∙ ap (λ (l : List ℕ). drop (length t) l) (drop_at (take at d ++ s) (drop (at + length s) d) (at + length s) head-length)
          ∙ drop-drop (length t) (at + length s) d
          ∙ ap (λ (k : ℕ). drop k d) ends

-- four stores one after the other
module _ (d : List ℕ) (at v₀ v₁ v₂ v₃ : ℕ) (s : List ℕ) (fits : at + (length s + 4) ≤ length d) where
  stores : set (set (set (set d at v₀) (at + 1) v₁) (at + 2) v₂) (at + 3) v₃ ≡ laid d at (v₀ ∷ v₁ ∷ v₂ ∷ v₃ ∷ [])
  unfolding laid
  stores =
      let e₁ : at + 1 ≡ suc at = omega arith in
      let e₂ : at + 2 ≡ suc (suc at) = omega arith in
      let e₃ : at + 3 ≡ suc (suc (suc at)) = omega arith in
      rw (e₁, e₂, e₃) (sets-eq (v₀ ∷ v₁ ∷ v₂ ∷ v₃ ∷ []) d at (omega arith))

  -- and what is laid behind them
  pub laid-stores : laid (set (set (set (set d at v₀) (at + 1) v₁) (at + 2) v₂) (at + 3) v₃) (at + 4) s ≡ laid d at (v₀ ∷ v₁ ∷ v₂ ∷ v₃ ∷ s)
  laid-stores = ap (λ (l : List ℕ). laid l (at + 4) s) stores ∙ laid_more d at (v₀ ∷ v₁ ∷ v₂ ∷ v₃ ∷ []) (omega arith) s

-- the first i elements of s, laid
module _ (d : List ℕ) (at : ℕ) (s : List ℕ) where
  pub copy-none : d ≡ laid d at (take 0 s)
  copy-none = sym (laid_none d at)

  pasted : (i : ℕ) → i ≤ length s → laid d at (take i s) ≡ paste d at s i
  unfolding laid
  pasted i l = ap (λ (k : ℕ). take at d ++ take i s ++ drop (at + k) d) (length-take-le i s l)

  pub copy_more : (p : List ℕ) (i : ℕ) → at + i < length d → i < length s → p ≡ laid d at (take i s) → set p (at + i) (get_or s i 0) ≡ laid d at (take (i + 1) s)
  copy_more p i hd hs q =
      ap (λ (l : List ℕ). set l (at + i) (get_or s i 0)) (q ∙ pasted i (omega arith)) ∙ paste-suc d at s i 0 hd hs
      ∙ ap (paste d at s) (sym (add-one i)) ∙ sym (pasted (i + 1) (omega arith))

  pub copy-all : (p : List ℕ) (i : ℕ) → length s ≤ i → p ≡ laid d at (take i s) → p ≡ laid d at s
  copy-all p i l q = q ∙ ap (laid d at) (take_all i s l)

-- at the start of d
module _ (d s : List ℕ) where
  pub copy-start-more : (p : List ℕ) (i : ℕ) → i < length d → i < length s → p ≡ laid d 0 (take i s) → set p i (get_or s i 0) ≡ laid d 0 (take (i + 1) s)
  copy-start-more p i hd hs q = simp zero-add at (copy_more d 0 s p i (omega arith) hs q)

  pub copy-whole : (p : List ℕ) (i : ℕ) → length s ≡ length d → length s ≤ i → p ≡ laid d 0 (take i s) → p ≡ s
  unfolding laid
  copy-whole p i e l q =
      copy-all d 0 s p i l q
      ∙ ap (λ (r : List ℕ). s ++ r) (drop_of_length-le d {i = 0 + length s} (omega arith)) ∙ append-nil s

-- the first four bytes of a part: two copied, two stored
module _ (v₀ v₁ v₂ v₃ : ℕ) where
  head-stored : (p : List ℕ) → 4 ≤ length p → take 4 (set (set ((v₀ ∷ v₁ ∷ []) ++ drop 2 p) 2 v₂) 3 v₃) ≡ v₀ ∷ v₁ ∷ v₂ ∷ v₃ ∷ []
  head-stored [] l = absurd (omega (arith, l))
  head-stored (a ∷ []) l = absurd (omega (arith, l))
  head-stored (a ∷ b ∷ []) l = absurd (omega (arith, l))
  head-stored (a ∷ b ∷ c ∷ []) l = absurd (omega (arith, l))
  head-stored (a ∷ b ∷ c ∷ e ∷ p) l = refl

  -- the part of d that is lent, and what stands behind the head
  module _ (d : List ℕ) (at : ℕ) (o : List ℕ) (fits : at + (length o + 4) ≤ length d) where
    abbrev long : ℕ
    long = at + 4 + length o - at

    abbrev stored : List ℕ
    stored = set (set ((v₀ ∷ v₁ ∷ []) ++ drop 2 (take long (drop at d))) 2 v₂) 3 v₃

    part-size : length (take long (drop at d)) ≡ 4 + length o
    part-size = simp (length-take, length-drop) (omega arith)

    stored-size : length stored ≡ 4 + length o
    stored-size = simp (length-set, length-drop) (omega (arith, part-size))

    part-filled : put_mid 4 (length stored - 4) stored o ≡ v₀ ∷ v₁ ∷ v₂ ∷ v₃ ∷ o
    part-filled =
        ap₂ (λ (a b : List ℕ). a ++ (o ++ b)) (head-stored (take long (drop at d)) (omega (arith, part-size)))
        (drop_of_length-le (drop 4 stored) {i = length stored - 4} (rw length-drop (omega arith)))
        ∙ ap (λ (l : List ℕ). v₀ ∷ v₁ ∷ v₂ ∷ v₃ ∷ l) (append-nil o)

    pub part-laid : put_mid at long d (put_mid 4 (length stored - 4) stored o) ≡ laid d at (v₀ ∷ v₁ ∷ v₂ ∷ v₃ ∷ o)
    unfolding laid
    part-laid =
        ap (put_mid at long d) part-filled
        ∙ ap (λ (l : List ℕ). take at d ++ ((v₀ ∷ v₁ ∷ v₂ ∷ v₃ ∷ o) ++ l)) (drop-drop long at d ∙ ap (λ (k : ℕ). drop k d) (omega arith))
        ∙ sym (append_assoc (take at d) (v₀ ∷ v₁ ∷ v₂ ∷ v₃ ∷ o) (drop (at + length (v₀ ∷ v₁ ∷ v₂ ∷ v₃ ∷ o)) d))
