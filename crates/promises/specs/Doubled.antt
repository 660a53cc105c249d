-- What a caller of the doubled plan gets, by either rule. Definitions only.
use Rattle.std.specs.Prelude.{List, ℕ}
use Rattle.switch.specs.Outcome.{Outcome}
use Rattle.switch.specs.Plan.{Record}
use Rattle.rules.specs.Doubled.{every_rotation_plan, doubled_plan, Doubled}
use Rattle.switch.specs.declared.Edition.{Edition}
use Rattle.promises.specs.Planner.{Plans}

-- the two rules for the rotations: each held for its largest remainder, or every one for u - 1
pub data Rule : Type 0 where
  tight every : Rule

abbrev pub plan_by : Rule → ℕ → ℕ → List ℕ → List Record
plan_by tight = doubled_plan
plan_by every = every_rotation_plan

-- no line over 65,535 and room for the records of the rule asked for: then a plan that covers, of at most 2N records and a total of at most 2T - 1
abbrev pub PlansDoubled : (rule : Rule) (E : Edition) (N : ℕ) (d : List ℕ) → List ℕ → Outcome → List ℕ → Type 0
PlansDoubled rule E N d = Plans E 65535 N d (plan_by rule E.width N d) (Doubled N d)
