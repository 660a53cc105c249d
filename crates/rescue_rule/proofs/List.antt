-- The list names every dropped record and no other, in order, each with a reason from 1 to 6; a torn tail comes last.
use mathlib.Core.Path.{◌≡◌, refl, sym, ap, ◌∙◌}
use mathlib.Core.Bool.{Bool, true, not}
use mathlib.Core.Logic.{dite}
use mathlib.Core.List.{List, [], ◌∷◌, ◌++◌, append-nil}
use Prim.Native.Nat.{ℕ, ◌+◌, ◌*◌, ◌/◌, ◌%◌, ◌<◌, ◌≤◌}
use native.Mathlib.Nat.{div-add-mod', mul-le-mul_left}
use native.Mathlib.Decide.{ℕ_discrete}
use native.Mathlib.Omega.{arith}
use lib.ListN.{length, get_or}
use borrow.Author.Tests.{eq-eqb, ne_eqb}
use Rattle.records.specs.Bytes.{record_at, whole}
use Rattle.rescue_rule.specs.Reason.{reason_of}
use Rattle.rescue_rule.specs.Rescue.{fine, Entry, entry_of, dropped_to, torn_tail, dropped, entry_bytes}
use Rattle.rescue_rule.proofs.Reason.{none-fine}
use Rattle.rescue_rule.proofs.Those.{get_d_front, those-place, those-before, Comes, those-comes}
use mathlib.Core.Bool.{true≢false}

-- ---- the tail

module _ (W : ℕ) (plan : List ℕ) where
  pub torn-none : length plan % (W + 4) ≡ 0 → length (torn_tail W plan) ≡ 0
  unfolding torn_tail
  torn-none z = rw (eq-eqb (length plan % (W + 4)) 0 z)

  pub torn-one : (length plan % (W + 4) ≡ 0 → ⊥) → length (torn_tail W plan) ≡ 1
  unfolding torn_tail
  torn-one nz = rw (ne_eqb (length plan % (W + 4)) 0 nz)

  -- and back
  pub torn-even : length (torn_tail W plan) ≡ 0 → length plan % (W + 4) ≡ 0
  torn-even q = dite (ℕ_discrete (length plan % (W + 4)) 0) (λ z. z) (λ nz. absurd (omega (arith, torn-one nz)))

  -- there are no more records, a torn one counted, than bytes
  pub records-few : whole W plan + length (torn_tail W plan) ≤ length plan
  records-few =
      let l : 1 ≤ W + 4 = omega arith in
      let x = div-add-mod' (length plan) (W + 4) in
      let y = mul-le-mul_left (whole W plan) l in
      dite (ℕ_discrete (length plan % (W + 4)) 0) (λ z. omega (arith, x, y, torn-none z)) (λ nz. omega (arith, x, y, nz, torn-one nz))

-- ---- all that is dropped

module _ (W e N : ℕ) (plan : List ℕ) where
  -- not well formed
  abbrev pub bad : ℕ → Bool
  bad k = not (fine W e N plan k)

  -- without a torn tail
  pub dropped-whole : length plan % (W + 4) ≡ 0 → dropped W e N plan ≡ dropped_to W e N plan (whole W plan)
  unfolding dropped torn_tail
  dropped-whole z = rw (eq-eqb (length plan % (W + 4)) 0 z) (append-nil (dropped_to W e N plan (whole W plan)))

  -- with one: its number is the number of whole records, its reason 7
  pub dropped-torn : (length plan % (W + 4) ≡ 0 → ⊥) → dropped W e N plan ≡ dropped_to W e N plan (whole W plan) ++ record { number = whole W plan; reason = 7 } ∷ []
  unfolding dropped torn_tail
  dropped-torn nz = rw (ne_eqb (length plan % (W + 4)) 0 nz)

  module _ (z : Entry) where
    -- every dropped record is in the list, behind those dropped before it
    pub dropped-place : (k : ℕ) → k < whole W plan → bad k ≡ true → get_or (dropped W e N plan) (length (dropped_to W e N plan k)) z ≡ entry_of W e N plan k
    unfolding dropped
    dropped-place k l b =
        get_d_front (dropped_to W e N plan (whole W plan)) (torn_tail W plan) (length (dropped_to W e N plan k)) z (those-before bad (entry_of W e N plan) (whole W plan) k l b)
        ∙ those-place bad (entry_of W e N plan) z (whole W plan) k l b

    -- and no other
    pub dropped-comes : (j : ℕ) → j < length (dropped_to W e N plan (whole W plan)) → Comes bad (entry_of W e N plan) z (whole W plan) j
    dropped-comes j l = those-comes bad (entry_of W e N plan) z (whole W plan) j l

  -- no entry is without a reason
  pub dropped-reason : (k : ℕ) → bad k ≡ true → reason_of W e N (record_at W plan k) ≡ 0 → ⊥
  dropped-reason k b q = true≢false (sym b ∙ ap not (none-fine W e N (record_at W plan k) q))

-- 4 bytes for each entry
pub entries-size : (l : List Entry) → length (entry_bytes l) ≡ 4 * length l
unfolding entry_bytes
entries-size [] = refl
entries-size (x ∷ l) = omega (arith, entries-size l)

pub entries-append : (l m : List Entry) → entry_bytes (l ++ m) ≡ entry_bytes l ++ entry_bytes m
unfolding entry_bytes
entries-append [] m = refl
entries-append (x ∷ l) m = ap (λ (t : List ℕ). x.number % 256 ∷ x.number / 256 ∷ x.reason ∷ 0 ∷ t) (entries-append l m)
