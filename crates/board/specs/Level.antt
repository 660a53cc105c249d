-- Inner: what the working copy is known to be, and the steps that fill it. Definitions only.
use Rattle.std.specs.Prelude.{◌≡◌, List, ℕ, ◌+◌, ◌*◌, ◌-◌, ◌≤◌, ◌<◌, min, length, get_or, set}
use Rattle.counting.specs.Matrix.{row, col}
use Rattle.switch.specs.Demand.{cell, line}
use Rattle.rules.specs.Fill.{fill_to}

-- at least one port, no more than the largest switch has, and room for N × N cells
pub record Sized (N : ℕ) (w : List ℕ) : Type 0 where
  pub some : 0 < N
  pub few : N ≤ 128
  pub room : N * N ≤ length w

-- no line is over T, and T is no more than a hold can be
pub record Within (N T : ℕ) (w : List ℕ) : Type 0 where
  pub sized : Sized N w
  pub rows : (i : ℕ) → i < N → row N (cell N w) i ≤ T
  pub cols : (j : ℕ) → j < N → col N (cell N w) j ≤ T
  pub small : T ≤ 65535

-- every line sums to T
pub record Level (N T : ℕ) (w : List ℕ) : Type 0 where
  pub sized : Sized N w
  pub rows : (i : ℕ) → i < N → row N (cell N w) i ≡ T
  pub cols : (j : ℕ) → j < N → col N (cell N w) j ≡ T
  pub small : T ≤ 65535

-- l has what each line lacks of T, inputs before outputs
pub record Lacking (N T : ℕ) (w l : List ℕ) : Type 0 where
  pub size : N + N ≤ length l
  pub is : (k : ℕ) → k < N + N → get_or l k 0 ≡ T - line N w k

-- the smaller of what row i and column j lack
abbrev pub both : (N : ℕ) (l : List ℕ) (i j : ℕ) → ℕ
both N l i j = min (get_or l i 0) (get_or l (N + j) 0)

-- the two lines lack so much less
abbrev pub less_both : (N : ℕ) (l : List ℕ) (i j : ℕ) → List ℕ
less_both N l i j = set (set l i (get_or l i 0 - both N l i j)) (N + j) (get_or l (N + j) 0 - both N l i j)

-- of a demand, the rows before row i are filled, and what each line lacks is noted
pub record RowsFilled (N T : ℕ) (d : List ℕ) (i : ℕ) (w l : List ℕ) : Type 0 where
  pub demand : Within N T d
  pub done : w ≡ fill_to N T d (i * N)
  pub lacks : Lacking N T w l

-- what a row can be filled with: there is such a demand
abbrev pub RowPre : (N : ℕ) (w l : List ℕ) (i : ℕ) → Type 0
RowPre N w l i = (i < N) × ((T : ℕ) × (d : List ℕ) × RowsFilled N T d i w l)

-- and of any such demand, row i is filled too
abbrev pub RowFilled : (N : ℕ) (w l : List ℕ) (i : ℕ) (w' l' : List ℕ) → Type 0
RowFilled N w l i w' l' = (T : ℕ) (d : List ℕ) → RowsFilled N T d i w l → RowsFilled N T d (i + 1) w' l'

-- what a cell can be filled with: a pair of ports, its two lines, and room for the sum
pub record FillPre (N : ℕ) (w l : List ℕ) (i j : ℕ) : Type 0 where
  pub sized : Sized N w
  pub input : i < N
  pub output : j < N
  pub lines : N + N ≤ length l
  pub fits : cell N w i j + both N l i j ≤ 65535

-- the output of input i, 255 past the list's end
abbrev pub out_of : (out : List ℕ) (i : ℕ) → ℕ
out_of out i = get_or out i 255

-- outputs by input, each inside
pub record Uses (N : ℕ) (w out : List ℕ) : Type 0 where
  pub sized : Sized N w
  pub long : N ≤ length out
  pub inside : (i : ℕ) → i < N → out_of out i < N
