-- Opening a plan, reading it record by record (§5.4 to §5.7), and checking it whole. Definitions only.
use Rattle.std.specs.Prelude.{Err, Ok}
use Rattle.std.specs.Prelude.{◌≡◌, cond, List, ℕ, zero, suc, ◌+◌, ◌%◌, length, replicate, ltb, leb, eqb}
use Rattle.switch.specs.Outcome.{Outcome}
use Rattle.switch.specs.declared.Refusal.TheVariants.{Ports, Torn, Records, Malformed}
use Rattle.switch.specs.Answer.{plan_counts}
use Rattle.switch.specs.Check.{ports_fine}
use Rattle.switch.specs.Result.{unless, by_outcome}
use Rattle.switch.specs.Plan.{total}
use Rattle.switch.specs.declared.Edition.{Edition}
use Rattle.plans.specs.declared.Step.{Step}
use Rattle.plans.specs.declared.Step.TheVariants as step
use Rattle.plans.specs.declared.Stepped.{Stepped}
use Rattle.records.specs.Record.{hold, outputs, well_formed}
use Rattle.records.specs.Bytes.{record_at, whole, plan_from}

-- opening refuses by codes 1, 9 and 10, and counts records only (§5.4)
unfoldable pub opening : (E : Edition) (N : ℕ) (plan : List ℕ) → Outcome
opening E N plan =
    unless (ports_fine E.ports N) (Err Ports)
    (unless (eqb (length plan % (E.width + 4)) 0) (Err (Torn (whole E.width plan)))
    (unless (leb (whole E.width plan) E.records) (Err (Records E.records)) (Ok (plan_counts (whole E.width plan) 0 0))))

-- a step's code on paper, and its place: only a damaged record has one
abbrev pub step_code : Step → ℕ
step_code step.Record = 0
step_code step.End = 0
step_code (step.Malformed k) = 11

abbrev pub step_place : Step → ℕ
step_place step.Record = 0
step_place step.End = 0
step_place (step.Malformed k) = k

-- what the end and code 11 come with: no hold, every output idle, and the place as it was (§5.6)
abbrev pub nothing : (E : Edition) (s : Step) (at : ℕ) → Stepped E.width
nothing E s at = record { step = s; hold = 0; outputs = replicate E.width 255; next = at }

-- the next record: its hold and all its outputs
abbrev pub given : {W : ℕ} (b : List ℕ) (next : ℕ) → Stepped W
given b next = record { step = step.Record; hold = hold b; outputs = outputs b; next = next }

-- of m records: the next, or code 11 with the record's number, or the end (§5.5)
unfoldable pub step_in : (E : Edition) (m N : ℕ) (plan : List ℕ) (at : ℕ) → Stepped E.width
step_in E m N plan at =
    cond (ltb at m)
    (cond (well_formed E.width E.byte N (record_at E.width plan at))
    (given (record_at E.width plan at) (at + 1))
    (nothing E (step.Malformed at) at))
    (nothing E step.End at)

-- the step at record `at` of a plan opened for N; where opening is refused all its steps are the end
unfoldable pub step_at : (E : Edition) (N : ℕ) (plan : List ℕ) (at : ℕ) → Stepped E.width
step_at E N plan at = by_outcome (opening E N plan) (λ r. nothing E step.End at) (λ c. step_in E c.records N plan at)

-- inner: a step is what is given, where the number of outputs is another in its type
pub record Took {V W : ℕ} (given : Stepped V) (took : Stepped W) : Type 0 where
  pub step : took.step ≡ given.step
  pub hold : took.hold ≡ given.hold
  pub outputs : took.outputs ≡ given.outputs
  pub next : took.next ≡ given.next

-- the first of m records from k on that is not well formed; k + m where all are
unfoldable pub malformed : ℕ → ℕ → ℕ → List ℕ → ℕ → ℕ → ℕ
malformed W e N plan zero k = k
malformed W e N plan (suc m) k = cond (well_formed W e N (record_at W plan k)) (malformed W e N plan m (suc k)) k

-- a whole plan: code 11 at its first record that is not well formed, else records and total
unfoldable pub checking_in : (m : ℕ) (E : Edition) (N : ℕ) (plan : List ℕ) → Outcome
checking_in m E N plan =
    cond (ltb (malformed E.width E.byte N plan m 0) m)
    (Err (Malformed (malformed E.width E.byte N plan m 0)))
    (Ok (plan_counts m 0 (total (plan_from E.width plan 0 m))))

-- who reads a whole plan refuses by 1, 9, 10 and 11
unfoldable pub checking : (E : Edition) (N : ℕ) (plan : List ℕ) → Outcome
checking E N plan = by_outcome (opening E N plan) Err (λ c. checking_in c.records E N plan)
