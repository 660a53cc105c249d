-- A well formed record has a cell of the demand, and its slots go there.
use native.Mathlib.Omega.{arith}
use native.Mathlib.Nat.{lt_of_lt_of_le}
use lib.Arith.{digits_lt}
use Rattle.switch.proofs.Demand.{index-small}
use Rattle.wishes.specs.Wishes.{put}
use Rattle.wishes.proofs.Faults.{inside}
use Rattle.wishes.proofs.put.Goals as goal

pub cell_at-at-requires : goal.cell_at-at-requires
cell_at-at-requires c = let p = c.requires in let i = inside _ _ p.2 in (p.0, i.input, i.output)

pub offset_bounds-cells-at : goal.offset_bounds-cells-at
offset_bounds-cells-at c =
    let a = c.args in
    let p = c.requires in
    let i = inside a.n a.wanted p.2 in
    omega (arith, c.cell_at-at.ensures, index-small a.n a.wanted.input.0 p.0 i.input, i.output)

pub bounds-cells-at : goal.bounds-cells-at
bounds-cells-at c =
    let a = c.args in
    let p = c.requires in
    let i = inside a.n a.wanted p.2 in
    rw c.cell_at-at.ensures (lt_of_lt_of_le (digits_lt i.input i.output) p.1)

pub returns : goal.returns
unfolding put
returns c = rw (c.cell_at-at.ensures, c.slots_given.ensures)
