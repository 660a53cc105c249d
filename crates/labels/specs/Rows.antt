-- Inner: a label of outputs for each input. Definitions only.
use Rattle.std.specs.Prelude.{◌≡◌, ◌≢◌, List, ℕ, length, get_or}
use Rattle.labels.specs.Ports.{Outputs, outputs_of}

-- no output
abbrev pub nothing : Outputs
nothing = record { numbers = record { low = record { 0 = 0 }; high = record { 0 = 0 } }; of = record {} }

-- the label of input i
abbrev pub row_of : (rows : List Outputs) (i : ℕ) → ℕ
row_of rows i = outputs_of (get_or rows i nothing)

-- input i has the label l now, and every other input the one it had
pub record RowPut (i l : ℕ) (rows rows' : List Outputs) : Type 0 where
  pub size : length rows' ≡ length rows
  pub here : row_of rows' i ≡ l
  pub other : (k : ℕ) → k ≢ i → row_of rows' k ≡ row_of rows k
