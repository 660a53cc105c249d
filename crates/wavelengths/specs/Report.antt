-- What the report of a plan answers, and the report buffer's bytes afterwards (§13.3, §13.4). Definitions only.
use Rattle.std.specs.Prelude.{Ok}
use Rattle.std.specs.Prelude.{List, ℕ, length, leb}
use Rattle.switch.specs.declared.Counts.{Counts}
use Rattle.switch.specs.declared.Refusal.TheVariants.{Room}
use Rattle.records.specs.Bytes.{plan_of, laid}
use Rattle.switch.specs.Result.{Result, refuses, unless, after_reading}
use Rattle.switch.specs.declared.Edition.{Edition}
use Rattle.plans.specs.Read.{checking}
use Rattle.wavelengths.specs.Shared.{grating_report}

-- one byte for each record from the buffer's start on, and nothing else touched; the counts are those of the plan read
abbrev pub reports : (E : Edition) (N : ℕ) (plan : List ℕ) (c : Counts) (buf : List ℕ) → Result
reports E N plan c buf = record { outcome = Ok c; bytes = laid buf 0 (grating_report N (plan_of E.width plan)) }

-- code 5: the report has fewer bytes than the plan has records
unfoldable pub report_in : (E : Edition) (N : ℕ) (plan : List ℕ) (c : Counts) (buf : List ℕ) → Result
report_in E N plan c buf = unless (leb c.records (length buf)) (refuses (Room c.records) buf) (reports E N plan c buf)

-- refusals 1, 9, 10, 11, then 5
unfoldable pub reported : (E : Edition) (N : ℕ) (plan buf : List ℕ) → Result
reported E N plan buf = after_reading (checking E N plan) buf (λ c. report_in E N plan c buf)
