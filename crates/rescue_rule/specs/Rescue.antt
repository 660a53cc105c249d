-- What is kept of a damaged plan, the list of what is dropped, and the plan that is written. Definitions only.
use Rattle.std.specs.Prelude.{◌≡◌, Bool, true, not, cond, List, [], ◌∷◌, ◌++◌, ℕ, zero, suc, ◌+◌, ◌*◌, ◌-◌, ◌/◌, ◌%◌, ◌<◌, length, get_or, eqb}
use Rattle.switch.specs.Plan.{Record, grant}
use Rattle.rules.specs.Exact.{tab, exact_plan}
use Rattle.records.specs.Record.{decoded, well_formed}
use Rattle.records.specs.Bytes.{record_at, whole}
use Rattle.rescue_rule.specs.Reason.{reason_of}

-- f k of those k below n that pass, in their order
unfoldable pub those {ℓ} : {A : Type ℓ} → (ℕ → Bool) → (ℕ → A) → ℕ → List A
those p f zero = []
those p f (suc k) = those p f k ++ cond (p k) (f k ∷ []) []

-- is record k of a plan well formed?
abbrev pub fine : (W e N : ℕ) (plan : List ℕ) (k : ℕ) → Bool
fine W e N plan k = well_formed W e N (record_at W plan k)

-- the well-formed ones among the first m records, in their order
abbrev pub kept_to : (W e N : ℕ) (plan : List ℕ) (m : ℕ) → List Record
kept_to W e N plan m = those (fine W e N plan) (λ k. decoded (record_at W plan k)) m

-- the well-formed records, in their order
abbrev pub kept : (W e N : ℕ) (plan : List ℕ) → List Record
kept W e N plan = kept_to W e N plan (whole W plan)

-- inner: record k alone, where it is well formed
unfoldable pub kept_at : (W e N : ℕ) (plan : List ℕ) (k : ℕ) → List Record
kept_at W e N plan k = cond (fine W e N plan k) (decoded (record_at W plan k) ∷ []) []

-- pieces one after the other
unfoldable pub chained : List (List ℕ) → List ℕ
chained [] = []
chained (b ∷ l) = b ++ chained l

-- the bytes of the well-formed ones among the first m records, as they stand in the plan
abbrev pub kept_bytes : (W e N : ℕ) (plan : List ℕ) (m : ℕ) → List ℕ
kept_bytes W e N plan m = chained (those (fine W e N plan) (record_at W plan) m)

-- ---- the list

-- a dropped record's number, and why
pub record Entry : Type 0 where
  pub number : ℕ
  pub reason : ℕ

-- the entry of record k
abbrev pub entry_of : (W e N : ℕ) (plan : List ℕ) (k : ℕ) → Entry
entry_of W e N plan k = record { number = k; reason = reason_of W e N (record_at W plan k) }

-- one per dropped record among the first m, in order
abbrev pub dropped_to : (W e N : ℕ) (plan : List ℕ) (m : ℕ) → List Entry
dropped_to W e N plan m = those (λ k. not (fine W e N plan k)) (entry_of W e N plan) m

-- inner: the entry of record k alone, where it is dropped
unfoldable pub dropped_at : (W e N : ℕ) (plan : List ℕ) (k : ℕ) → List Entry
dropped_at W e N plan k = cond (not (fine W e N plan k)) (entry_of W e N plan k ∷ []) []

-- a torn tail: reason 7, its only one; its number is the number of whole records
unfoldable pub torn_tail : (W : ℕ) (plan : List ℕ) → List Entry
torn_tail W plan = cond (eqb (length plan % (W + 4)) 0) [] (record { number = whole W plan; reason = 7 } ∷ [])

-- all that is dropped
unfoldable pub dropped : (W e N : ℕ) (plan : List ℕ) → List Entry
dropped W e N plan = dropped_to W e N plan (whole W plan) ++ torn_tail W plan

-- 4 bytes each: the number in two bytes, low first, the reason, a zero byte
unfoldable pub entry_bytes : List Entry → List ℕ
entry_bytes [] = []
entry_bytes (x ∷ l) = x.number % 256 ∷ x.number / 256 ∷ x.reason ∷ 0 ∷ entry_bytes l

-- ---- the plan that is written

-- what p leaves uncovered of d: at each pair the larger of 0 and asked less granted
unfoldable pub rest_of : (N : ℕ) (d : List ℕ) (p : List Record) → List ℕ
rest_of N d p = tab (N * N) 0 (λ k. get_or d k 0 - grant p (k / N) (k % N))

-- the exact plan of that
abbrev pub added : (W N : ℕ) (d : List ℕ) (p : List Record) → List Record
added W N d p = exact_plan W N (rest_of N d p)

-- the kept records, then the exact plan of the rest
unfoldable pub rescued : (W e N : ℕ) (d plan : List ℕ) → List Record
rescued W e N d plan = kept W e N plan ++ added W N d (kept W e N plan)

-- a plan that needs no rescue by itself: whole records only, all well formed
pub record Undamaged (W e N : ℕ) (plan : List ℕ) : Type 0 where
  pub even : length plan % (W + 4) ≡ 0
  pub fine : (k : ℕ) → k < whole W plan → well_formed W e N (record_at W plan k) ≡ true
