-- What a caller of the quick cover gets. Definitions only.
use Rattle.std.specs.Prelude.{List, ℕ}
use Rattle.switch.specs.Outcome.{Outcome}
use Rattle.rules.specs.Quick.{quick_plan, Quick}
use Rattle.switch.specs.declared.Edition.{Edition}
use Rattle.promises.specs.Planner.{Plans}

-- no line over 1,024 and room for the records: then a plan that grants every pair what it asks and nothing beyond, in T to 2T - 1 slots
abbrev pub PlansQuickly : (E : Edition) (N : ℕ) (d : List ℕ) → List ℕ → Outcome → List ℕ → Type 0
PlansQuickly E N d = Plans E 1024 N d (quick_plan E.width N d) (Quick N d)
