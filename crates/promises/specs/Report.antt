-- What the grating report of a plan comes to. Definitions only.
use Rattle.std.specs.Prelude.{Err, Ok}
use Rattle.std.specs.Prelude.{◌≡◌, List, ℕ, ◌<◌, ◌≤◌, length, get_or}
use Rattle.switch.specs.Outcome.{Outcome}
use Rattle.switch.specs.declared.Refusal.{Refusal}
use Rattle.switch.specs.Answer.{code_of, counts_of, plan_counts}
use Rattle.switch.specs.Plan.{total}
use Rattle.records.specs.Record.{decoded}
use Rattle.records.specs.Bytes.{record_at, whole, plan_of}
use Rattle.switch.specs.declared.Edition.{Edition}
use Rattle.wavelengths.specs.Shared.{MostShared}
use Rattle.promises.specs.Reading.{GoodPlan, Unwritten}

-- the answer r for a plan, and the report's buffer afterwards
pub record Reported (E : Edition) (N : ℕ) (plan buf : List ℕ) (r : Outcome) (after : List ℕ) : Type 0 where
  -- code 0 exactly when nothing is wrong with the plan and there is a byte for each record, with the plan's records and total
  pub taken : GoodPlan E N plan → whole E.width plan ≤ length buf → r ≡ Ok (plan_counts (whole E.width plan) 0 (total (plan_of E.width plan)))
  pub only_then : code_of r ≡ 0 → GoodPlan E N plan × (whole E.width plan ≤ length buf)
  -- then byte k is the most inputs of record k that share one wavelength, and no byte behind the records' is touched
  pub says : code_of r ≡ 0 → (k : ℕ) → k < (counts_of r).records → MostShared N (decoded (record_at E.width plan k)) (get_or after k 0)
  pub later : code_of r ≡ 0 → (k : ℕ) → (counts_of r).records ≤ k → get_or after k 0 ≡ get_or buf k 0
  pub size : length after ≡ length buf
  -- and else it has its reason, and no byte is
  pub refuses : (f : Refusal) → r ≡ Err f → Unwritten E N plan (length buf) (whole E.width plan) f
  pub unchanged : (code_of r ≡ 0 → ⊥) → after ≡ buf
