-- Inner: one slot on a working copy with a label for each input: what each turn may assume and what it promises. Definitions only.
use Rattle.labels.specs.Ports.{Outputs}
use Rattle.std.specs.Prelude.{◌≡◌, Bool, true, not, List, ◌∷◌, ℕ, ◌+◌, ◌≤◌, ◌<◌, length, get_or, set}
use Rattle.counting.specs.Sum.{sum}
use Rattle.counting.specs.Matrix.{row}
use Rattle.switch.specs.Demand.{cell}
use Rattle.switch.specs.Plan.{Record}
use Rattle.sets.specs.Label.{In, is_in, Sub, Cleared, LowestAt}
use Rattle.labels.specs.Ports.{inputs_of, outputs_of}
use Rattle.rules.specs.Search.{put}
use Rattle.rules.specs.Peel.{peel}
use Rattle.rules.specs.Quick.{lowest, may, quick_from}
use Rattle.slot.specs.declared.Rest.{Rest}
use Rattle.slot.specs.declared.Turn.{Turn}
use Rattle.board.specs.Level.{Sized}
use Rattle.board.specs.Labelled.{Labelled}

-- how many slots are left in all
unfoldable pub left_in : (N : ℕ) (w : List ℕ) → ℕ
left_in N w = sum N (row N (cell N w))

-- the records still to come, from slot s on, of what is left in the working copy
unfoldable pub leftover : (W N s : ℕ) (w : List ℕ) → List Record
leftover W N s w = quick_from W N s (cell N w)

-- a working copy with its labels, and what is left of it to serve
pub record Copy (N : ℕ) (rest : Rest) (w : List ℕ) (rows : List Outputs) : Type 0 where
  pub sized : Sized N w
  pub labels : Labelled N w rows
  pub all : rest.left ≡ left_in N w
  pub inside : (i : ℕ) → In (inputs_of rest.inputs) i → i < N
  pub others : (i : ℕ) → i < N → (In (inputs_of rest.inputs) i → ⊥) → (j : ℕ) → j < N → cell N w i j ≡ 0

-- the outputs of a slot have room for N inputs, and are idle past them
pub record Seats (N : ℕ) (out : List ℕ) : Type 0 where
  pub wide : N ≤ length out
  pub idle : (i : ℕ) → N ≤ i → get_or out i 255 ≡ 255

-- an output is taken where it is not free
abbrev pub taken_of : (free j : ℕ) → Bool
taken_of free j = not (is_in free j)

-- what input i takes on its turn, where some outputs are free: the lowest of them with slots left for that pair, 255 where there is none
unfoldable pub turn_of : (N : ℕ) (w : List ℕ) (free i : ℕ) → ℕ
turn_of N w free i = lowest N 0 (may (cell N w) (taken_of free) i)

-- input i has had its turn: what it takes stands among the outputs, one slot of that pair is subtracted, and the output is taken
pub record Turned (N i : ℕ) (w out : List ℕ) (turn : Turn) (w' : List ℕ) (rows' : List Outputs) (out' : List ℕ) (turn' : Turn) : Type 0 where
  pub copy : Copy N turn'.rest w' rows'
  pub seated : out' ≡ set out i (turn_of N w (outputs_of turn.free) i)
  pub cells : (a b : ℕ) → a < N → b < N → cell N w' a b ≡ peel 1 (put (λ _. 255) i (turn_of N w (outputs_of turn.free) i)) (cell N w) a b
  pub taken : (b : ℕ) → b < N → taken_of (outputs_of turn'.free) b ≡ put (taken_of (outputs_of turn.free)) (turn_of N w (outputs_of turn.free) i) true b

-- the inputs of l are of the switch, and idle so far
abbrev pub Waiting : (N l : ℕ) (out : List ℕ) → Type 0
Waiting N l out = (i : ℕ) → In l i → (i < N) × (get_or out i 255 ≡ 255)

-- the inputs of l have had their turns, the lowest first
pub data Visited (N : ℕ) : ℕ → List ℕ → List Outputs → List ℕ → Turn → List ℕ → List Outputs → List ℕ → Turn → Type 0 where
  none : {l : ℕ} {w : List ℕ} {rows : List Outputs} {out : List ℕ} {turn : Turn} → ((i : ℕ) → In l i → ⊥) → Visited N l w rows out turn w rows out turn
  next : {l i r : ℕ} {w : List ℕ} {rows : List Outputs} {out w₁ : List ℕ} {rows₁ : List Outputs} {out₁ w' : List ℕ} {rows' : List Outputs} {out' : List ℕ} {turn turn₁ turn' : Turn} → LowestAt 128 l i → Cleared l i r
      → Turned N i w out turn w₁ rows₁ out₁ turn₁ → Visited N r w₁ rows₁ out₁ turn₁ w' rows' out' turn' → Visited N l w rows out turn w' rows' out' turn'

-- r has the inputs of l, but i may be gone where its label is empty
pub record StillAsking (row i l r : ℕ) : Type 0 where
  pub less : Sub r l
  pub gone : (k : ℕ) → In l k → (In r k → ⊥) → (k ≡ i) × ((j : ℕ) → In row j → ⊥)

-- slot s is filled: what was still to come is its record and what is still to come
pub record Filled (N s : ℕ) (w w' : List ℕ) (rows' : List Outputs) (out' : List ℕ) (rest' : Rest) : Type 0 where
  pub copy : Copy N rest' w' rows'
  pub seats : Seats N out'
  pub more : leftover (length out') N s w ≡ record { hold = 1; outputs = out' } ∷ leftover (length out') N (s + 1) w'
