-- The cells before that of the pair (i, j) are filled in order, and what each line still lacks is noted beside them.
use mathlib.Core.Path.{◌≡◌}
use mathlib.Core.List.{List}
use Prim.Native.Nat.{ℕ, ◌+◌, ◌*◌}
use Rattle.rules.specs.Fill.{fill_to}
use Rattle.board.specs.Level.{Lacking, RowsFilled}
use Rattle.board.proofs.fill_row.Given as goal

abbrev pub invariant-loop-j : goal.invariant-loop-j
invariant-loop-j l = (T : ℕ) (d : List ℕ) → RowsFilled l.n T d l.i.0 l.initial.cells l.initial.lacking
    → (l.cells ≡ fill_to l.n T d (l.i.0 * l.n + l.j)) × Lacking l.n T l.cells l.lacking
