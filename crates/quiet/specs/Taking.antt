-- Inner: a record taken off a working copy with a label of outputs for each input: what is assumed and what is promised. Definitions only.
use Rattle.labels.specs.Ports.{Outputs}
use Rattle.std.specs.declared.option.Option.{Option}
use Rattle.std.specs.Prelude.{◌≡◌, Some, None, List, [], ◌∷◌, ℕ, ◌+◌, ◌*◌, ◌-◌, ◌≤◌, ◌<◌, length, set}
use Rattle.switch.specs.Demand.{cell}
use Rattle.switch.specs.Plan.{Record, total}
use Rattle.rules.specs.Peel.{peel_to}
use Rattle.board.specs.Level.{Sized, out_of}
use Rattle.board.specs.Labelled.{Labelled}
use Rattle.quiet_rule.specs.Quiet.{quiet_from}

-- a working copy with its labels
pub record Loaded (N : ℕ) (w : List ℕ) (rows : List Outputs) : Type 0 where
  pub sized : Sized N w
  pub labels : Labelled N w rows

-- a hold, which is none where the number on paper is 0
abbrev pub HoldIs : (h : ℕ) → Option ℕ → Type 0
HoldIs h (Some x) = (x ≡ h) × (0 < x)
HoldIs h None = h ≡ 0

-- input i, where it is joined, has the hold to give
pub record Giving (N : ℕ) (w : List ℕ) (rows : List Outputs) (out : List ℕ) (i hold : ℕ) : Type 0 where
  pub copy : Loaded N w rows
  pub input : i < N
  pub wide : N ≤ length out
  pub enough : out_of out i < N → hold ≤ cell N w i (out_of out i)

-- and has given it
pub record Given (N : ℕ) (w out : List ℕ) (i hold : ℕ) (w' : List ℕ) (rows' : List Outputs) : Type 0 where
  pub copy : Loaded N w' rows'
  pub joined : out_of out i < N → w' ≡ set w (i * N + out_of out i) (cell N w i (out_of out i) - hold)
  pub idle : N ≤ out_of out i → w' ≡ w

-- every joined input has given the hold
pub record Subtracted (N hold : ℕ) (w out w' : List ℕ) (rows' : List Outputs) : Type 0 where
  pub copy : Loaded N w' rows'
  pub taken : w' ≡ peel_to N hold (out_of out) w N

-- what a step is lent
pub record Ready (N L : ℕ) (w : List ℕ) (rows : List Outputs) : Type 0 where
  pub copy : Loaded N w rows
  pub limit : 0 < L
  pub few : N ≤ 64

-- the records still to come of what is left in the working copy
abbrev pub leftover : (N L : ℕ) (w : List ℕ) → List Record
leftover N L w = quiet_from 64 N L (cell N w)

-- the record that was taken off: what was still to come is this record and what is still to come
pub record Took (N L : ℕ) (w w' : List ℕ) (rows' : List Outputs) (out' : List ℕ) (hold : ℕ) : Type 0 where
  pub copy : Loaded N w' rows'
  pub more : leftover N L w ≡ record { hold = hold; outputs = out' } ∷ leftover N L w'
  pub fits : (most : ℕ) → ((i j : ℕ) → i < N → j < N → cell N w i j ≤ most) → (hold ≤ most) × ((i j : ℕ) → i < N → j < N → cell N w' i j ≤ most)

-- nothing was left, and the working copy stands with its labels in step
pub record Ended (N L : ℕ) (w w' : List ℕ) (rows' : List Outputs) : Type 0 where
  pub copy : Loaded N w' rows'
  pub none : leftover N L w ≡ []
  pub fits : (most : ℕ) → ((i j : ℕ) → i < N → j < N → cell N w i j ≤ most) → (i j : ℕ) → i < N → j < N → cell N w' i j ≤ most

-- the next record was taken off; without a hold there was none
abbrev pub Stepped : (N L : ℕ) (w w' : List ℕ) (rows' : List Outputs) (out' : List ℕ) → Option ℕ → Type 0
Stepped N L w w' rows' out' (Some hold) = Took N L w w' rows' out' hold
Stepped N L w w' rows' out' None = Ended N L w w' rows'

-- no cell is longer than a hold can be, and all holds together are a number of 32 bits
pub record Short (N : ℕ) (w : List ℕ) (p : List Record) : Type 0 where
  pub cells : (i j : ℕ) → i < N → j < N → cell N w i j ≤ 65535
  pub holds : total p < 4294967296
