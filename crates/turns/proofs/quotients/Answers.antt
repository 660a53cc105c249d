-- After k turns the first k cells are divided.
use mathlib.Core.Path.{refl}
use native.Mathlib.Omega.{arith}
use Rattle.rules.specs.Doubled.{divide}
use Rattle.records.proofs.Laid.{copy-none}
use Rattle.turns.proofs.Dividing.{quotient-store, quotients-whole}
use Rattle.turns.proofs.quotients.Goals as goal

pub loop-k-init : goal.loop-k-init
loop-k-init c =
    let a = c.args in
    (c.requires.0, copy-none a.work.now 0 (divide a.unit a.cells.now))

pub loop-k-preserved : goal.loop-k-preserved
loop-k-preserved c =
    let l = c.loop-k in
    (l.invariant.0, quotient-store _ _ _ l.invariant.0 l.work l.k _ (omega arith) refl l.invariant.1)

pub returns : goal.returns
returns c = let l = c.loop-k in quotients-whole _ _ _ l.invariant.0 l.work l.k (omega arith) l.invariant.1
