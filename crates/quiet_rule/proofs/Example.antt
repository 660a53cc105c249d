-- A demand of three ports within limits 1 and 3, computed: the plans that the rule's words lead to by hand.
use mathlib.Core.Path.{◌≡◌, refl}
use mathlib.Core.List.{List, [], ◌∷◌}
use Prim.Native.Nat.{ℕ}
use Rattle.counting.specs.Sum.{sum, most}
use Rattle.counting.specs.Count.{ind, count, δ}
use Rattle.counting.specs.Matrix.{row, col}
use Rattle.switch.specs.Demand.{cell, longest}
use Rattle.switch.specs.Plan.{Record}
use Rattle.wavelengths.specs.Shared.{wavelength}
use Rattle.rules.specs.Search.{put}
use Rattle.rules.specs.Peel.{peel}
use Rattle.rules.specs.Exact.{tab}
use Rattle.rules.specs.Quick.{lowest, may, seat}
use Rattle.quiet_rule.specs.Limit.{lights, lit, band, busiest, least_within}
use Rattle.quiet_rule.specs.Quiet.{may_within, served, quiet_setting, lesser, smallest, joined_cell, quiet_hold, pairs, quiet_record, quiet_rest, quiets, quiet_from, quiet_plan}

-- input 0 asks 3 slots to output 0 and 1 to output 1, and so on
unfoldable pub three : List ℕ
three = 3 ∷ 1 ∷ 0 ∷ 0 ∷ 2 ∷ 2 ∷ 1 ∷ 0 ∷ 2 ∷ []

-- T is 4, and 7 slots are asked on wavelength 0
pub three-least : (longest 3 (cell 3 three) ≡ 4) × (busiest 3 (cell 3 three) ≡ 7) × (least_within 3 1 (cell 3 three) ≡ 7) × (least_within 3 3 (cell 3 three) ≡ 4)
unfolding three least_within longest busiest band most row col cell sum
three-least = (refl, refl, refl, refl)

abbrev pub held : ℕ → List ℕ → Record
held h o = record { hold = h; outputs = o }

-- wavelength 0 on one input at a time
pub three-once : quiet_plan 3 3 1 three
    ≡ held 2 (0 ∷ 2 ∷ 255 ∷ []) ∷ held 1 (0 ∷ 255 ∷ 255 ∷ []) ∷ held 1 (1 ∷ 255 ∷ 2 ∷ []) ∷ held 1 (255 ∷ 1 ∷ 0 ∷ []) ∷ held 1 (255 ∷ 1 ∷ 255 ∷ []) ∷ held 1 (255 ∷ 255 ∷ 2 ∷ []) ∷ []
unfolding three quiet_plan quiet_from quiets quiet_record quiet_rest quiet_hold quiet_setting served may_within may seat lowest put pairs smallest lesser joined_cell
    lit lights wavelength peel tab cell count sum δ ind
three-once = refl

-- and without bound, as three inputs are all there are
pub three-all : quiet_plan 3 3 3 three ≡ held 2 (0 ∷ 1 ∷ 2 ∷ []) ∷ held 1 (0 ∷ 2 ∷ 255 ∷ []) ∷ held 1 (1 ∷ 2 ∷ 0 ∷ []) ∷ []
unfolding three quiet_plan quiet_from quiets quiet_record quiet_rest quiet_hold quiet_setting served may_within may seat lowest put pairs smallest lesser joined_cell
    lit lights wavelength peel tab cell count sum δ ind
three-all = refl
