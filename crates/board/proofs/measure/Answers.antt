-- Each turn notes what one line lacks; no line is over T, so nothing wraps.
use native.Mathlib.Omega.{arith}
use Rattle.board.proofs.Filling.{lacking-next, line-within}
use Rattle.board.proofs.measure.Goals as goal

pub line_sum-requires : goal.line_sum-requires
line_sum-requires c = let p = c.requires.0 in (record { few = p.sized.few; room = p.sized.room }, omega arith)

pub overflow_sub-lack : goal.overflow_sub-lack
overflow_sub-lack c = omega (arith, c.line_sum.ensures, line-within _ _ _ c.requires.0 c.loop-k.k (omega arith))

pub overflow_cast-lack : goal.overflow_cast-lack
overflow_cast-lack c = omega (arith, c.requires.0.small)

pub loop-k-preserved : goal.loop-k-preserved
loop-k-preserved c =
    let a = c.args in
    let l = c.loop-k in
    lacking-next a.n a.longest a.cells.now l.lacking l.k _ (omega arith) (omega (arith, c.line_sum.ensures)) l.invariant

pub returns : goal.returns
returns c = let l = c.loop-k in record { size = omega arith; is = λ k h. l.invariant k (omega arith) }
