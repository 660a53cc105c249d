-- Inner: a label of two words for each input, kept in step with the cells. Definitions only.
use Rattle.labels.specs.Ports.{Outputs}
use Rattle.std.specs.Prelude.{◌≡◌, List, ℕ, ◌+◌, ◌*◌, ◌-◌, ◌≤◌, ◌<◌, length, set}
use Rattle.switch.specs.Demand.{cell}
use Rattle.sets.specs.Label.{In}
use Rattle.labels.specs.Rows.{row_of}
use Rattle.rules.specs.Peel.{peel_to}
use Rattle.board.specs.Level.{Sized, Uses, out_of}

-- output j is in the label l of input i just where the cell is not zero
pub record RowOf (N : ℕ) (w : List ℕ) (i l : ℕ) : Type 0 where
  pub all : (j : ℕ) → j < N → 0 < cell N w i j → In l j
  pub only : (j : ℕ) → In l j → (j < N) × (0 < cell N w i j)

-- each input has its label
pub record Labelled (N : ℕ) (w : List ℕ) (rows : List Outputs) : Type 0 where
  pub each : length rows ≡ N
  pub row : (i : ℕ) → i < N → RowOf N w i (row_of rows i)

-- what can be taken off a pair
pub record TakePre (N : ℕ) (w : List ℕ) (rows : List Outputs) (i j hold : ℕ) : Type 0 where
  pub sized : Sized N w
  pub labels : Labelled N w rows
  pub input : i < N
  pub output : j < N
  pub enough : hold ≤ cell N w i j

-- the pair's cell is less by the hold, and the labels are in step again
pub record TakePost (N : ℕ) (w : List ℕ) (i j hold : ℕ) (w' : List ℕ) (rows' : List Outputs) : Type 0 where
  pub taken : w' ≡ set w (i * N + j) (cell N w i j - hold)
  pub labels : Labelled N w' rows'

-- what a setting can be taken off: it uses no cell below the hold
pub record SubtractPre (N : ℕ) (w : List ℕ) (rows : List Outputs) (out : List ℕ) (hold : ℕ) : Type 0 where
  pub uses : Uses N w out
  pub labels : Labelled N w rows
  pub enough : (i : ℕ) → i < N → hold ≤ cell N w i (out_of out i)

-- every cell that the setting uses is less by the hold, and the labels are in step again
pub record SubtractPost (N : ℕ) (w out : List ℕ) (hold : ℕ) (w' : List ℕ) (rows' : List Outputs) : Type 0 where
  pub taken : w' ≡ peel_to N hold (out_of out) w N
  pub labels : Labelled N w' rows'

-- of the inputs below k, those are in l whose own cell has nothing left, and no input from k on is
pub record Emptied (N : ℕ) (w out : List ℕ) (l k : ℕ) : Type 0 where
  pub few : (i : ℕ) → In l i → i < k
  pub none : (i : ℕ) → In l i → cell N w i (out_of out i) ≡ 0
  pub some : (i : ℕ) → i < k → (In l i → ⊥) → 0 < cell N w i (out_of out i)
