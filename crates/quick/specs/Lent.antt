-- Inner: what the planner is lent, and the working copy that it makes of a demand. Definitions only.
use Rattle.labels.specs.Ports.{Outputs}
use Rattle.std.specs.Prelude.{◌≡◌, Ok, Err, ⊤, List, ℕ, ◌*◌, ◌≤◌, ◌<◌, length, ◌^◌}
use Rattle.std.specs.declared.result.Result.{Result}
use Rattle.switch.specs.declared.Edition.{Edition}
use Rattle.switch.specs.declared.Refusal.{Refusal}
use Rattle.switch.specs.declared.Refusal.TheVariants.{Room}
use Rattle.switch.specs.Editions.{Bounded}
use Rattle.switch.specs.Demand.{cell}
use Rattle.demand.specs.Checked.{Checked}
use Rattle.demand.specs.Check.{check_demand}
use Rattle.records.specs.Bytes.{whole}
use Rattle.rules.specs.Quick.{quick_plan}
use Rattle.board.specs.Level.{Sized}

-- room for the working copy of a demand of N ports, for its labels and for the outputs of a slot
pub record Space (N : ℕ) (w : List ℕ) (rows : List Outputs) (out : List ℕ) : Type 0 where
  pub sized : Sized N w
  pub each : length rows ≡ N
  pub wide : length out ≤ 128
  pub seats : N ≤ length out

-- so many ports and cells are those of an edition's largest switch
pub record Lent (E : Edition) (ports cells : ℕ) : Type 0 where
  pub bounded : Bounded E
  pub squared : E.ports * E.ports ≤ cells
  pub few : cells < 2 ^ 61
  pub each : E.ports ≤ ports
  pub wide : ports ≡ E.width

-- the working copy has the demand's cells
abbrev pub Copied : (N : ℕ) (d w : List ℕ) → Type 0
Copied N d w = (i j : ℕ) → i < N → j < N → cell N w i j ≡ cell N d i j

-- the demand is checked, and where nothing refuses it by itself it is copied in
pub record CopyChecked (most N : ℕ) (d w' : List ℕ) (r : Checked) : Type 0 where
  pub checked : r ≡ check_demand most N d
  pub copied : (T : ℕ) → r ≡ Ok T → Copied N d w'

-- a demand that nothing but the room can refuse, and its working copy
pub record Asked (E : Edition) (N T : ℕ) (d w : List ℕ) : Type 0 where
  pub bounded : Bounded E
  pub fine : check_demand E.ports N d ≡ Ok T
  pub small : T ≤ 1024
  pub copied : Copied N d w

-- the plan's records have room, and the demand is copied in; or they have not, and there are so many
abbrev pub RoomChecked : (W N : ℕ) (d plan w' : List ℕ) → Result ⊤ Refusal → Type 0
RoomChecked W N d plan w' (Ok _) = (length (quick_plan W N d) ≤ whole W plan) × Copied N d w'
RoomChecked W N d plan w' (Err r) = (whole W plan < length (quick_plan W N d)) × (r ≡ Room (length (quick_plan W N d)))
