-- Between two moments what is left to plan is the plan's; the time grows with each, so there is an end.
use native.Mathlib.Omega.{arith}
use Rattle.shop.proofs.Runs.{running_none, moment-pre, run-done, run_more}
use Rattle.shop.proofs.run.Goals as goal

pub loop-t-init : goal.loop-t-init
loop-t-init c = running_none _ _ _ _ _ _ _ c.requires

pub moment-begun-requires : goal.moment-begun-requires
moment-begun-requires c = moment-pre _ _ _ _ _ _ _ c.requires _ _ _ _ _ _ c.loop-t.invariant

pub next_finish-later-requires : goal.next_finish-later-requires
next_finish-later-requires c = omega (arith, c.requires.few, c.moment-begun.ensures.outs-size, c.loop-t.invariant.outs-size)

pub returns-then-later-t : goal.returns-then-later-t
returns-then-later-t c = run-done _ _ _ _ _ _ _ c.requires _ _ _ _ _ _ c.loop-t.invariant _ _ _ _ _ _ c.moment-begun.ensures c.next_finish-later.ensures c.if-later-t.true

pub loop-t-smaller : goal.loop-t-smaller
loop-t-smaller c = omega (arith, (run_more _ _ _ _ _ _ _ c.requires _ _ _ _ _ _ c.loop-t.invariant _ _ _ _ _ _ c.moment-begun.ensures c.next_finish-later.ensures c.if-later-t.false).0)

pub loop-t-preserved : goal.loop-t-preserved
loop-t-preserved c = (run_more _ _ _ _ _ _ _ c.requires _ _ _ _ _ _ c.loop-t.invariant _ _ _ _ _ _ c.moment-begun.ensures c.next_finish-later.ensures c.if-later-t.false).1
