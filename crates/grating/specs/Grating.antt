-- The doubled plan for the grating fabric (§13.5), and what the call that writes it answers. Definitions only.
use Rattle.std.specs.Prelude.{cond, List, [], map, ℕ, eqb}
use Rattle.switch.specs.declared.Edition.{Edition}
use Rattle.switch.specs.Demand.{cell, longest}
use Rattle.switch.specs.Plan.{Record}
use Rattle.demand.specs.Check.{check_demand}
use Rattle.rules.specs.Exact.{exact_plan}
use Rattle.rules.specs.Doubled.{unit, divide, stretch, opposite, turns, tight, doubled_by}
use Rattle.switch.specs.Result.{Result}
use Rattle.planner.specs.Planned.{room_for, after_check}

-- the doubled plan with anti-rotations for its second part, held by the tight rule
unfoldable pub grating_plan : (W N : ℕ) (d : List ℕ) → List Record
grating_plan W N d = doubled_by W N (opposite N) (tight N (opposite N) d) d

-- its first part: the exact plan of the quotients by u, held u times as long; empty if T is 0
unfoldable pub first_part : (W N : ℕ) (d : List ℕ) → List Record
first_part W N d =
    let u = unit N (longest N (cell N d)) in
    cond (eqb (longest N (cell N d)) 0) [] (map (stretch u) (exact_plan W N (divide u d)))

-- its second part; empty if T is 0
unfoldable pub second_part : (W N : ℕ) (d : List ℕ) → List Record
second_part W N d = cond (eqb (longest N (cell N d)) 0) [] (turns W (opposite N) (tight N (opposite N) d (unit N (longest N (cell N d)))) N 0)

-- the planner's refusals in its order, 1, 2, 3 and 5; else records and total of the plan that is written, no T and no empty slots
unfoldable pub grating_planned : (E : Edition) (N : ℕ) (d buf : List ℕ) → Result
grating_planned E N d buf = after_check (check_demand E.ports N d) (λ T. room_for E N 0 0 (grating_plan E.width N d) buf) buf
