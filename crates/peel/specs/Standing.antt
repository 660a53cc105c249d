-- Inner: where the peeling of a working copy stands, what is left to plan of it, and what taking one setting off does. Definitions only.
use Rattle.labels.specs.Ports.{Outputs}
use Rattle.std.specs.Prelude.{◌≡◌, List, ◌∷◌, ℕ, ◌+◌, ◌*◌, ◌≤◌, ◌<◌, length, get_or, take, replicate}
use Rattle.counting.specs.Matrix.{row}
use Rattle.switch.specs.Demand.{cell, longest}
use Rattle.switch.specs.Plan.{Record}
use Rattle.rules.specs.Exact.{exact_from, exact_plan}
use Rattle.sets.specs.Label.{In}
use Rattle.labels.specs.Ports.{outputs_of, inputs_of}
use Rattle.search.specs.Tables.{Allowed, Held, joined}
use Rattle.matching.specs.Chosen.{Seating, Former}
use Rattle.matching.specs.declared.Seats.{Seats}
use Rattle.board.specs.Level.{Level}
use Rattle.board.specs.Labelled.{Labelled}

-- N × N cells at the list's start, their longest line T, which is no more than a hold can be
pub record Cells (N T : ℕ) (w : List ℕ) : Type 0 where
  pub some : 0 < N
  pub few : N ≤ 128
  pub room : N * N ≤ length w
  pub longest-is : T ≡ longest N (cell N w)
  pub small : T ≤ 65535

-- what every line of the working copy sums to
abbrev pub left : (N : ℕ) (w : List ℕ) → ℕ
left N w = row N (cell N w) 0

-- the records still to take off the working copy
abbrev pub rest : (W N : ℕ) (w : List ℕ) → List Record
rest W N w = exact_from W N (cell N w)

-- the cells are filled to T and labelled, and what is left to plan is the exact plan
pub record Started (N T : ℕ) (w w' : List ℕ) (rows' : List Outputs) : Type 0 where
  pub level : Level N T w'
  pub labels : Labelled N w' rows'
  pub plan : (W : ℕ) → rest W N w' ≡ exact_plan W N w

-- tables to start with: room for a label of each input, nobody holds an output, and every input is idle
pub record Tables (N : ℕ) (rows : List Outputs) (by out : List ℕ) : Type 0 where
  pub each : length rows ≡ N
  pub free : by ≡ replicate 128 0
  pub idle : out ≡ replicate 128 255

-- the lines are level, the labels in step with the cells, and the tables those of the setting of before, in which who waits holds nothing
pub record Standing (N : ℕ) (w : List ℕ) (rows : List Outputs) (by out : List ℕ) (seats : Seats) : Type 0 where
  pub level : Level N (left N w) w
  pub labels : Labelled N w rows
  pub seating : Seating 128 N (Allowed rows) by out (outputs_of seats.held) (inputs_of seats.waiting)
  pub former : (m : ℕ) → m < N → (In (inputs_of seats.waiting) m → ⊥) → Former N (Allowed rows) out
  pub idle : (m : ℕ) → N ≤ m → joined out m ≡ 255

-- tables in which the inputs of `emptied` hold the outputs that `out` tells
pub record Giving (emptied : ℕ) (out by : List ℕ) : Type 0 where
  pub holders : length by ≡ 128
  pub outputs : length out ≡ 128
  pub small : (m : ℕ) → In emptied m → m < 128
  pub held : (m : ℕ) → In emptied m → Held by (joined out m) m

-- they gave them up: of the outputs below 128 `known` has every one but theirs, and nobody else's changed
pub record Released (emptied : ℕ) (out by by' : List ℕ) (known : ℕ) : Type 0 where
  pub size : length by' ≡ length by
  pub back : (j m : ℕ) → Held by' j m → Held by j m
  pub gone : (m : ℕ) → In emptied m → get_or by' (joined out m) 0 ≡ 0
  pub kept : (j m : ℕ) → Held by j m → (In emptied m → ⊥) → Held by' j m
  pub free : (k : ℕ) → k < 128 → (In known k → ⊥) → (m : ℕ) × In emptied m × (joined out m ≡ k)

-- the first record of what is left was taken off: `out` has its outputs, and every line is less by its hold
pub record Taken (N : ℕ) (w w' : List ℕ) (rows' : List Outputs) (by' out' : List ℕ) (hold : ℕ) (seats : Seats) : Type 0 where
  pub standing : Standing N w' rows' by' out' seats
  pub some : 0 < hold
  pub falls : left N w' + hold ≡ left N w
  pub more : (W : ℕ) → N ≤ W → W ≤ 128 → rest W N w ≡ record { hold = hold; outputs = take W out' } ∷ rest W N w'
