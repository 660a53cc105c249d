-- After k turns the first k settings have their holds.
use native.Mathlib.Omega.{arith}
use Rattle.rules.specs.Exact.{tab}
use Rattle.records.proofs.Laid.{copy-none}
use Rattle.turns.specs.Second.{holds_by}
use Rattle.turns.proofs.Turns.{tab-store, tab-whole}
use Rattle.turns.proofs.fill_holds.Goals as goal

pub loop-k-init : goal.loop-k-init
loop-k-init c =
    let a = c.args in
    (c.requires.1, copy-none a.holds.now 0 (tab a.n 0 (holds_by a.rule a.way a.n a.cells.now a.unit)))

pub loop-k-preserved : goal.loop-k-preserved
loop-k-preserved c =
    let l = c.loop-k in
    (l.invariant.0, tab-store _ _ _ l.invariant.0 l.holds l.k _ (omega arith) c.hold_of.ensures l.invariant.1)

pub returns : goal.returns
returns c = let l = c.loop-k in tab-whole _ _ _ l.invariant.0 l.holds l.k (omega arith) l.invariant.1
