-- The bit of the pair is marked in its word.
use native.Mathlib.Nat.{mod-lt}
use Prim.Native.Nat.{◌/◌, ◌<◌}
use native.Mathlib.Omega.{arith}
use lib.ListN.{length}
use Rattle.switch.proofs.Demand.{index-small}
use Rattle.wishes.proofs.Pairs.{word-inside, marks-of}
use Rattle.wishes.proofs.mark.Goals as goal

pub offset_bounds-marks-at : goal.offset_bounds-marks-at
offset_bounds-marks-at c = let small : c.cell_at-at.result < 16384 = let p = c.requires in omega (arith, c.cell_at-at.ensures, index-small _ _ p.0 p.1, p.2) in
    omega (arith, small)

pub bounds-marks-at : goal.bounds-marks-at
bounds-marks-at c = let inside : (let a = c.args in c.cell_at-at.result / 64 < length a.marks.now) = let p = c.requires in rw c.cell_at-at.ensures (word-inside _ _ _ _ p.1 p.2 p.3) in
    inside

pub mark-marked-requires : goal.mark-marked-requires
mark-marked-requires c = mod-lt _ (omega arith)

pub offset_bounds-marks-at-2 : goal.offset_bounds-marks-at-2
offset_bounds-marks-at-2 c = let small : c.cell_at-at.result < 16384 = let p = c.requires in omega (arith, c.cell_at-at.ensures, index-small _ _ p.0 p.1, p.2) in
    omega (arith, small)

pub bounds-marks-at-2 : goal.bounds-marks-at-2
bounds-marks-at-2 c = let inside : (let a = c.args in c.cell_at-at.result / 64 < length a.marks.now) = let p = c.requires in rw c.cell_at-at.ensures (word-inside _ _ _ _ p.1 p.2 p.3) in
    inside

pub returns : goal.returns
returns c = let inside : (let a = c.args in c.cell_at-at.result / 64 < length a.marks.now) = let p = c.requires in rw c.cell_at-at.ensures (word-inside _ _ _ _ p.1 p.2 p.3) in
    rw (← c.cell_at-at.ensures) (marks-of _ _ _ inside c.mark-marked.ensures)
