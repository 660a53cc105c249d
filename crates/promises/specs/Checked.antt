-- What a caller of the checker gets. Definitions only.
use Rattle.std.specs.Prelude.{Err}
use Rattle.std.specs.Prelude.{◌≡◌, List, ℕ, ◌≤◌}
use Rattle.switch.specs.Outcome.{Outcome}
use Rattle.switch.specs.declared.Refusal.{Refusal}
use Rattle.switch.specs.declared.Refusal.TheVariants.{Uncovered}
use Rattle.switch.specs.Answer.{code_of, counts_of, demand_counts}
use Rattle.switch.specs.Demand.{cell, longest}
use Rattle.switch.specs.Plan.{grant, total, Covers}
use Rattle.switch.specs.Empty.{empty_slots}
use Rattle.records.specs.Bytes.{whole, plan_of}
use Rattle.switch.specs.declared.Edition.{Edition}
use Rattle.checker.specs.Check.{Short}
use Rattle.promises.specs.Reading.{GoodPlan, Unread}
use Rattle.promises.specs.Planner.{Fair, Fault}

-- a demand that is fair, and a plan with nothing wrong that covers it
pub record Good (E : Edition) (N : ℕ) (d plan : List ℕ) : Type 0 where
  pub fair : Fair E 65535 N d
  pub formed : GoodPlan E N plan
  pub covers : Covers N (cell N d) (plan_of E.width plan)

-- why the checker refuses, each reason only where none before it holds
pub data Objects (E : Edition) (N : ℕ) (d plan : List ℕ) : Refusal → Type 0 where
  -- codes 1, 2 and 3
  faulty : {f : Refusal} → Fault E N d f → Objects E N d plan f
  -- codes 9, 10 and 11
  unread : {f : Refusal} → Fair E 65535 N d → Unread E N plan f → Objects E N d plan f
  -- code 13: cell k is the first that is granted less than it asks
  falls-short : Fair E 65535 N d → GoodPlan E N plan → (k : ℕ) → Short N (cell N d) (grant (plan_of E.width plan)) k → Objects E N d plan (Uncovered k)

-- what the checker promises of its outcome r: code 0 exactly when the plan is good; then the counts are the plan's own beside the demand's T,
-- and its total is no less than T; and a refusal has its reason
pub record Checks (E : Edition) (N : ℕ) (d plan : List ℕ) (r : Outcome) : Type 0 where
  pub good : code_of r ≡ 0 → Good E N d plan
  pub passes : Good E N d plan → code_of r ≡ 0
  pub counts : code_of r ≡ 0 → counts_of r
      ≡ demand_counts (whole E.width plan) (longest N (cell N d)) (total (plan_of E.width plan)) (empty_slots N (cell N d) (plan_of E.width plan))
  pub long : code_of r ≡ 0 → longest N (cell N d) ≤ total (plan_of E.width plan)
  pub refuses : (f : Refusal) → r ≡ Err f → Objects E N d plan f
