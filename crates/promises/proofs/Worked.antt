-- The worked example of docs/GRATING.md holds, by computing its plan and the reports.
use mathlib.Core.Path.{◌≡◌, refl}
use mathlib.Core.List.{List, [], ◌∷◌}
use Prim.Native.Nat.{ℕ}
use Rattle.counting.specs.Sum.{sum, most}
use Rattle.counting.specs.Count.{ind, δ, count}
use Rattle.counting.specs.Matrix.{row, col}
use Rattle.switch.specs.Demand.{cell, longest}
use Rattle.switch.specs.Plan.{Record, output, total}
use Rattle.rules.specs.Fill.{fill, fill_to, fill_cell, lack}
use Rattle.rules.specs.Search.{put, pick, free, complete, first_setting}
use Rattle.rules.specs.Peel.{peel}
use Rattle.rules.specs.Exact.{tab, least, record_of, peels, exact_from, exact_plan}
use Rattle.rules.specs.Doubled.{unit, divide, stretch, rotate, opposite, held, turns, doubled_by, tight, doubled_plan}
use Rattle.wavelengths.specs.Shared.{wavelength, uses, sharing, most_shared, grating_report}
use Rattle.grating.specs.Grating.{grating_plan}
use Rattle.promises.specs.Papers.{rec}

-- five ports, T = 10
abbrev demand : List ℕ
demand =
    7 ∷ 2 ∷ 0 ∷ 0 ∷ 1
    ∷ 0 ∷ 6 ∷ 1 ∷ 2 ∷ 0
    ∷ 0 ∷ 0 ∷ 7 ∷ 1 ∷ 2
    ∷ 0 ∷ 1 ∷ 2 ∷ 7 ∷ 0
    ∷ 2 ∷ 1 ∷ 0 ∷ 0 ∷ 7 ∷ []

-- the plan of the first part, and of the second
abbrev plan : List Record
plan =
    rec 6 (0 ∷ 1 ∷ 2 ∷ 3 ∷ 4 ∷ [])
    ∷ rec 2 (1 ∷ 3 ∷ 4 ∷ 2 ∷ 0 ∷ [])
    ∷ rec 1 (0 ∷ 4 ∷ 3 ∷ 2 ∷ 1 ∷ [])
    ∷ rec 1 (1 ∷ 0 ∷ 4 ∷ 3 ∷ 2 ∷ [])
    ∷ rec 1 (3 ∷ 2 ∷ 1 ∷ 0 ∷ 4 ∷ [])
    ∷ rec 1 (4 ∷ 3 ∷ 2 ∷ 1 ∷ 0 ∷ [])
    ∷ []

pub worked-plan : grating_plan 64 5 demand ≡ plan
unfolding rec grating_plan opposite tight doubled_by turns held stretch divide unit
    exact_plan exact_from peels record_of least tab first_setting complete free pick put peel fill fill_to fill_cell lack longest most row col cell sum δ ind
worked-plan = refl

-- its total, and what the report says of each record
pub worked-report : (total plan ≡ 12) × (grating_report 5 plan ≡ 5 ∷ 2 ∷ 1 ∷ 1 ∷ 1 ∷ 1 ∷ [])
unfolding rec total grating_report most_shared sharing uses wavelength output count most sum ind
worked-report = (refl, refl)

-- and what it says of the doubled plan with rotations, of the same demand
pub rotations-report : grating_report 5 (doubled_plan 64 5 demand) ≡ 5 ∷ 2 ∷ 5 ∷ 5 ∷ 5 ∷ 5 ∷ 5 ∷ []
unfolding grating_report most_shared sharing uses wavelength output count
    doubled_plan rotate tight doubled_by turns held stretch divide unit
    exact_plan exact_from peels record_of least tab first_setting complete free pick put peel fill fill_to fill_cell lack longest most row col cell sum δ ind
rotations-report = refl
