-- The laws of cells and lines: a cell's index tells its pair, and the 2N lines are the rows and then the columns.
use mathlib.Core.Path.{◌≡◌, sym, ap, ap₂, ◌∙◌}
use mathlib.Core.List.{List, ◌++◌}
use mathlib.Core.Logic.{dite}
use Prim.Native.Nat.{ℕ, zero, suc, ◌+◌, ◌*◌, ◌-◌, ◌/◌, ◌%◌, ◌≤◌, ◌<◌, max}
use native.Mathlib.Omega.{arith}
use native.Mathlib.Decide.{dec_lt}
use native.Mathlib.Nat.{mul-le-mul, mod-lt, div-lt_iff_lt-mul}
use lib.ListN.{get_or, length, set, replicate, length-replicate, get_or-replicate, get_or-eq_default, get_or-append}
use lib.Seq.{get_or-set_same, get_or-set_other}
use lib.Arith.{digits_div, digits_mod, digits_lt}
use borrow.Author.Tests.{lt-ltb, le-ltb}
use Rattle.counting.specs.Sum.{most}
use Rattle.counting.specs.Matrix.{row, col}
use Rattle.counting.proofs.Most.{most-at, most-le, most-cong, most-split}
use Rattle.counting.proofs.Matrix.{Raised}
use Rattle.switch.specs.Demand.{cell, line, longest, Blank}

-- ---- cells

-- an index of a switch's largest demand is small
pub index-small : (n i : ℕ) → n ≤ 128 → i < n → i * n + n ≤ 16384
index-small n i l k = omega (arith, mul-le-mul k l, mul-le-mul l l)

-- a cell's index tells its row and column
pub index-inj : (N a b i j : ℕ) → b < N → j < N → a * N + b ≡ i * N + j → (a ≡ i) × (b ≡ j)
index-inj N a b i j l k e = (
  sym (digits_div a {m = N} l) ∙ ap (λ x. x / N) e ∙ digits_div i {m = N} k,
  sym (digits_mod a {m = N} l) ∙ ap (λ x. x % N) e ∙ digits_mod i {m = N} k,
)

-- a cell's index tells its pair, which is one of the switch
pub place_in : (N k : ℕ) → k < N * N → (k / N < N) × (k % N < N)
place_in zero k l = absurd (omega arith)
place_in (suc n) k l = ((div-lt_iff_lt-mul {k = suc n} (omega arith)).1 l, mod-lt k {m = suc n} (omega arith))

-- cells behind the N × N are none of the demand's
pub cell-append : (N : ℕ) (d z : List ℕ) → length d ≡ N * N → (i j : ℕ) → i < N → j < N → cell N (d ++ z) i j ≡ cell N d i j
unfolding cell
cell-append N d z s i j li lj = get_or-append d z 0 (i * N + j) (omega (arith, s, digits_lt {q = i} {m = N} {r = j} {c = N} li lj))

-- a store at a pair's index raises that cell and no other
pub set-raised : (N : ℕ) (d : List ℕ) → N * N ≤ length d → (i j v : ℕ) → i < N → j < N
    → Raised N (cell N d) (cell N (set d (i * N + j) (cell N d i j + v))) i j v
unfolding cell
set-raised N d s i j v li lj = record {
  at = get_or-set_same d (i * N + j) (get_or d (i * N + j) 0 + v) 0 (omega (arith, s, digits_lt li lj));
  off-row = λ a b la lb ne. get_or-set_other d (i * N + j) (a * N + b) (get_or d (i * N + j) 0 + v) 0 (λ e. ne (index-inj N a b i j lb lj e).0);
  off-col = λ a b la lb ne. get_or-set_other d (i * N + j) (a * N + b) (get_or d (i * N + j) 0 + v) 0 (λ e. ne (index-inj N a b i j lb lj e).1);
}

-- and a store of less lowers it
pub set-lowered : (N : ℕ) (d : List ℕ) → N * N ≤ length d → (i j v : ℕ) → i < N → j < N → v ≤ cell N d i j
    → Raised N (cell N (set d (i * N + j) (cell N d i j - v))) (cell N d) i j v
unfolding cell
set-lowered N d s i j v li lj h = record {
  at = omega (arith, get_or-set_same d (i * N + j) (get_or d (i * N + j) 0 - v) 0 (omega (arith, s, digits_lt li lj)));
  off-row = λ a b la lb ne. sym (get_or-set_other d (i * N + j) (a * N + b) (get_or d (i * N + j) 0 - v) 0 (λ e. ne (index-inj N a b i j lb lj e).0));
  off-col = λ a b la lb ne. sym (get_or-set_other d (i * N + j) (a * N + b) (get_or d (i * N + j) 0 - v) 0 (λ e. ne (index-inj N a b i j lb lj e).1));
}

-- ---- T

pub row-le-longest : (N : ℕ) (M : ℕ → ℕ → ℕ) (i : ℕ) → i < N → row N M i ≤ longest N M
unfolding longest
row-le-longest N M i l = omega (arith, most-at N (row N M) i l)

pub col-le-longest : (N : ℕ) (M : ℕ → ℕ → ℕ) (j : ℕ) → j < N → col N M j ≤ longest N M
unfolding longest
col-le-longest N M j l = omega (arith, most-at N (col N M) j l)

pub longest-le : (N c : ℕ) (M : ℕ → ℕ → ℕ) → ((i : ℕ) → i < N → row N M i ≤ c) → ((j : ℕ) → j < N → col N M j ≤ c) → longest N M ≤ c
unfolding longest
longest-le N c M r k = omega (arith, most-le N c (row N M) r, most-le N c (col N M) k)

-- ---- the lines, inputs before outputs

pub line_row : (N : ℕ) (d : List ℕ) (i : ℕ) → i < N → line N d i ≡ row N (cell N d) i
unfolding line
line_row N d i l = rw (lt-ltb _ _ l)

pub line-col : (N : ℕ) (d : List ℕ) (j : ℕ) → line N d (N + j) ≡ col N (cell N d) j
unfolding line
line-col N d j =
    let l : N ≤ N + j = omega arith in
    let e : N + j - N ≡ j = omega arith in
    rw (le-ltb _ _ l, e)

-- T is the largest of the 2N lines
pub longest-is : (N : ℕ) (d : List ℕ) → most (N + N) (line N d) ≡ longest N (cell N d)
unfolding longest
longest-is N d = most-split N N (line N d)
    ∙ ap₂ max (most-cong N (line N d) (row N (cell N d)) (line_row N d)) (most-cong N (λ j. line N d (N + j)) (col N (cell N d)) (λ j _. line-col N d j))

-- ---- lent room

-- an array of zeros is blank
pub blank-zeros : (m : ℕ) → Blank m (replicate m 0)
blank-zeros m = record {
  room = omega (arith, length-replicate {A = ℕ} m 0);
  clear = λ k. dite (dec_lt k m) (get_or-replicate m k 0 0) (λ g. get_or-eq_default (replicate m 0) 0 (omega (arith, g, length-replicate {A = ℕ} m 0)));
}
