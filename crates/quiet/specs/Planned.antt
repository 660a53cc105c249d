-- What the call that writes the quiet plan answers, and the plan buffer's bytes afterwards. Definitions only.
use Rattle.std.specs.Prelude.{List, ℕ, ltb}
use Rattle.switch.specs.declared.Edition.{Edition}
use Rattle.switch.specs.declared.Refusal.TheVariants.{Limit}
use Rattle.switch.specs.Demand.{cell}
use Rattle.switch.specs.Empty.{empty_slots}
use Rattle.switch.specs.Plan.{Record}
use Rattle.switch.specs.Result.{Result, refuses, unless}
use Rattle.demand.specs.Check.{check_demand}
use Rattle.planner.specs.Planned.{room_for, after_check}
use Rattle.quiet_rule.specs.Quiet.{quiet_plan}

-- the plan p of a demand d, where the room decides
abbrev pub decides : (E : Edition) (N : ℕ) (d : List ℕ) (T : ℕ) (p : List Record) (buf : List ℕ) → Result
decides E N d T p buf = room_for E N T (empty_slots N (cell N d) p) p buf

-- a planner's refusals 1, 2, 3 and 5, and between 3 and 5 code 17: a limit of 0
unfoldable pub quiet_planned : (E : Edition) (N : ℕ) (d : List ℕ) (L : ℕ) (buf : List ℕ) → Result
quiet_planned E N d L buf =
    after_check (check_demand E.width N d) (λ T. unless (ltb 0 L) (refuses Limit buf) (decides E N d T (quiet_plan E.width N L d) buf)) buf
