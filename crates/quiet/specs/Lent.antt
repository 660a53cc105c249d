-- Inner: what the planner is lent, and the working copy that it makes of a demand. Definitions only.
use Rattle.labels.specs.Ports.{Outputs}
use Rattle.std.specs.Prelude.{◌≡◌, Ok, Err, ⊤, List, ℕ, ◌*◌, ◌≤◌, ◌<◌, length}
use Rattle.std.specs.declared.result.Result.{Result}
use Rattle.switch.specs.declared.Refusal.{Refusal}
use Rattle.switch.specs.declared.Refusal.TheVariants.{Room}
use Rattle.switch.specs.Demand.{cell, longest}
use Rattle.board.specs.Level.{Sized}
use Rattle.quiet_rule.specs.Quiet.{quiet_plan}
use Rattle.quiet.specs.Taking.{Loaded}

-- room for the working copy of a demand of N ports and for its labels
pub record Space (N : ℕ) (w : List ℕ) (rows : List Outputs) : Type 0 where
  pub sized : Sized N w
  pub each : length rows ≡ N

-- a demand of N ports whose lines are no longer than a hold can be
pub record Small (N : ℕ) (d : List ℕ) : Type 0 where
  pub few : N ≤ 64
  pub size : length d ≡ N * N
  pub lines : longest N (cell N d) ≤ 65535

-- the working copy has the demand's cells
pub record Copied (N : ℕ) (d w' : List ℕ) (rows' : List Outputs) : Type 0 where
  pub copy : Loaded N w' rows'
  pub same : (i j : ℕ) → i < N → j < N → cell N w' i j ≡ cell N d i j

-- the plan's records have room, and the demand is copied in; or they have not, and there are so many
abbrev pub RoomChecked : (N L : ℕ) (d : List ℕ) (room : ℕ) (w' : List ℕ) (rows' : List Outputs) → Result ⊤ Refusal → Type 0
RoomChecked N L d room w' rows' (Ok _) = (length (quiet_plan 64 N L d) ≤ room) × Copied N d w' rows'
RoomChecked N L d room w' rows' (Err r) = (room < length (quiet_plan 64 N L d)) × (r ≡ Room (length (quiet_plan 64 N L d)))
