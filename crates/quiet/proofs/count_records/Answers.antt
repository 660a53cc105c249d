-- Each turn takes one record off, and those that are done and those that are still to come are the whole plan.
use mathlib.Core.Path.{refl, ◌∙◌}
use native.Mathlib.Omega.{arith}
use Rattle.quiet.proofs.Running.{running-first, running-last, running-less, running-small, running-next}
use Rattle.quiet.proofs.count_records.Goals as goal

pub loop-records-init : goal.loop-records-init
loop-records-init c = let a = c.args in record { running = running-first a.n a.limit a.work.now a.rows.now c.requires; long = refl }

pub next_record-requires : goal.next_record-requires
next_record-requires c = (c.loop-records.invariant.running.ready, c.loop-records.invariant.long)

pub overflow_add-records : goal.overflow_add-records
overflow_add-records c = omega (arith, running-small _ _ _ _ _ _ c.loop-records.invariant.running _ _ _ _ c.in-Some.ensures)

pub loop-records-smaller : goal.loop-records-smaller
loop-records-smaller c = running-less _ _ _ _ _ _ c.loop-records.invariant.running _ _ _ _ c.in-Some.ensures

pub loop-records-preserved : goal.loop-records-preserved
loop-records-preserved c =
    record { running = running-next _ _ _ _ _ _ c.loop-records.invariant.running _ _ _ _ c.in-Some.ensures; long = c.next_record.auto.out ∙ c.loop-records.invariant.long }

pub returns : goal.returns
returns c = running-last _ _ _ _ _ _ c.loop-records.invariant.running c.in_default.ensures.none
