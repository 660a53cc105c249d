-- After i turns the first i outputs are the setting's.
use mathlib.Core.Path.{refl}
use native.Mathlib.Omega.{arith}
use lib.ListN.{length}
use Rattle.rules.specs.Exact.{tab}
use Rattle.records.proofs.Laid.{copy-none}
use Rattle.turns.specs.Second.{turn}
use Rattle.turns.proofs.Turns.{tab-store, tab-whole}
use Rattle.turns.proofs.fill_outputs.Goals as goal

pub loop-i-init : goal.loop-i-init
loop-i-init c = let a = c.args in copy-none a.out.now 0 (tab (length a.out.now) 0 (turn a.way a.n a.k))

pub loop-i-preserved : goal.loop-i-preserved
loop-i-preserved c =
    let l = c.loop-i in
    tab-store _ _ _ refl l.out l.i _ (omega arith) c.output_byte.ensures l.invariant

pub returns : goal.returns
returns c = let l = c.loop-i in tab-whole _ _ _ refl l.out l.i (omega arith) l.invariant
