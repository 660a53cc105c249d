-- After i turns it is the smallest of the joined cells of the inputs below i.
use mathlib.Core.Path.{◌≡◌, sym, ap, ap₂, ◌∙◌}
use Prim.Native.Nat.{ℕ}
use native.Mathlib.Omega.{arith}
use Rattle.switch.specs.Demand.{cell}
use Rattle.board.specs.Level.{out_of}
use Rattle.quiet_rule.specs.Quiet.{lesser, smallest, joined_cell}
use Rattle.quiet_rule.proofs.QuietFrom.{smallest-zero, smallest-next}
use Rattle.quiet.proofs.least_cell.Goals as goal

pub loop-i-init : goal.loop-i-init
loop-i-init c = (omega arith, sym (smallest-zero _))

pub cell_of-requires : goal.cell_of-requires
cell_of-requires c = (c.requires.0, c.loop-i-test.true, c.requires.1)

pub loop-i-preserved : goal.loop-i-preserved
loop-i-preserved c = (omega arith, c.lesser_of-hold.ensures ∙ ap₂ lesser c.loop-i.invariant.1 c.cell_of.ensures ∙ sym (smallest-next _ _))

pub returns : goal.returns
returns c = let l = c.loop-i in let a = c.args in let e : l.i ≡ a.n = omega arith in l.invariant.1 ∙ ap (λ (m : ℕ). smallest m (joined_cell a.n (cell a.n a.cells.now) (out_of a.out.now))) e
