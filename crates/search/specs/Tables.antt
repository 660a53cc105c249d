-- Inner: who holds which output: holders by output and outputs by input, two tables kept in step. Definitions only.
use Rattle.labels.specs.Ports.{Outputs}
use Rattle.std.specs.Prelude.{◌≡◌, List, ℕ, ◌+◌, ◌<◌, ◌≤◌, length, get_or}
use Rattle.sets.specs.Label.{In}
use Rattle.labels.specs.Ports.{outputs_of}
use Rattle.labels.specs.Rows.{row_of}
use Rattle.search.specs.declared.Tried.{Tried}

-- the set of outputs already tried
abbrev pub tried_of : (t : Tried) → ℕ
tried_of t = outputs_of t.outputs

-- input i may take output j: it is in the label of that input
abbrev pub Allowed : (rows : List Outputs) (i j : ℕ) → Type 0
Allowed rows i j = In (row_of rows i) j

-- a label for each input, and no more inputs than the tables have places
pub record Rows (w : ℕ) (rows : List Outputs) : Type 0 where
  pub few : length rows ≤ w

-- input i holds output j: the holders have i + 1 there, and 0 where nobody holds
abbrev pub Held : (by : List ℕ) (j i : ℕ) → Type 0
Held by j i = get_or by j 0 ≡ i + 1

-- input i holds an output
abbrev pub Holds : (by : List ℕ) (i : ℕ) → Type 0
Holds by i = (j : ℕ) × Held by j i

-- the setting that the outputs by input tell
abbrev pub joined : (out : List ℕ) (i : ℕ) → ℕ
joined out i = get_or out i 255

-- who holds an output is one of n inputs, may take it, and has it by input: so no input holds two
pub record Matching (w n : ℕ) (E : ℕ → ℕ → Type 0) (by out : List ℕ) : Type 0 where
  pub holders : length by ≡ w
  pub outputs : length out ≡ w
  pub port : (j i : ℕ) → Held by j i → i < n
  pub edge : (j i : ℕ) → Held by j i → E i j
  pub paired : (j i : ℕ) → Held by j i → joined out i ≡ j
