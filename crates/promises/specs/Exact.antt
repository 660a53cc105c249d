-- What a caller of the exact plan gets. Definitions only.
use Rattle.std.specs.Prelude.{List, ℕ}
use Rattle.switch.specs.Outcome.{Outcome}
use Rattle.rules.specs.Exact.{exact_plan, Exact}
use Rattle.switch.specs.declared.Edition.{Edition}
use Rattle.promises.specs.Planner.{Plans}

-- no line over 65,535 and room for the plan's records: then a plan that covers, whose total hold is T, and than which no plan that covers is shorter
abbrev pub PlansExactly : (E : Edition) (N : ℕ) (d : List ℕ) → List ℕ → Outcome → List ℕ → Type 0
PlansExactly E N d = Plans E 65535 N d (exact_plan E.width N d) (Exact N d)
