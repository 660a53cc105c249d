-- Inner: what a plan's first records grant each pair, as the code keeps it: a number for each cell. Definitions only.
use Rattle.std.specs.Prelude.{◌≡◌, List, ℕ, ◌+◌, ◌*◌, ◌<◌, ◌≤◌, length}
use Rattle.counting.specs.Count.{δ}
use Rattle.switch.specs.Demand.{cell}
use Rattle.switch.specs.Plan.{Record, output, grant}

-- g holds what the records p grant
pub record Grants (N : ℕ) (p : List Record) (g : List ℕ) : Type 0 where
  pub room : N * N ≤ length g
  pub is : (i j : ℕ) → i < N → j < N → cell N g i j ≡ grant p i j

-- a record with N outputs, a hold, and grants that do not wrap where the hold is added
pub record Granting (N : ℕ) (b : List ℕ) (h : ℕ) (g : List ℕ) : Type 0 where
  pub few : N ≤ 128
  pub size : N + 4 ≤ length b
  pub room : N * N ≤ length g
  pub small : (i j : ℕ) → i < N → j < N → cell N g i j + h < 4294967296

-- each pair that record r joins is granted h more
pub record Granted (N h : ℕ) (r : Record) (before after : List ℕ) : Type 0 where
  pub size : length after ≡ length before
  pub more : (i j : ℕ) → i < N → j < N → cell N after i j ≡ h * δ (output r i) j + cell N before i j
