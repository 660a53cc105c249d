-- The cells before k have had their turn, those from k on have not.
use mathlib.Core.Path.{refl}
use native.Mathlib.Omega.{arith}
use Rattle.rescue.proofs.Uncovered.{leaving-none, leaving-more, leaving-all}
use Rattle.rescue.proofs.leave.Goals as goal

pub loop-k-init : goal.loop-k-init
loop-k-init c = (refl, omega arith, leaving-none _ _)

pub bounds-grants-k-in-loop-k : goal.bounds-grants-k-in-loop-k
bounds-grants-k-in-loop-k c = omega (arith, c.loop-k.invariant.2.size, c.requires)

pub loop-k-preserved : goal.loop-k-preserved
loop-k-preserved c =
    let l = c.loop-k in
    (l.invariant.0, omega arith, leaving-more _ _ _ l.k (omega (arith, c.requires)) l.invariant.2 _ c.saturating_sub.ensures)

pub returns : goal.returns
returns c = leaving-all _ _ _ _ (omega arith) c.loop-k.invariant.2
