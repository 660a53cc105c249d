-- Each turn lays the record that it takes off behind those before it.
use mathlib.Core.Path.{◌≡◌, refl, ◌∙◌}
use native.Mathlib.Omega.{arith}
use lib.ListN.{length}
use Rattle.quiet.proofs.Running.{running-first, running-last, running-less, running-small, running-next, laying-first, laying-last, laying-hold, laying-room, laying-small, laying-next}
use Rattle.quiet.proofs.lay_records.Goals as goal

pub loop-hold-init : goal.loop-hold-init
loop-hold-init c =
    let a = c.args in
    record {
      running = running-first a.n a.limit a.work.now a.rows.now c.requires.0;
      laying = laying-first a.n a.limit a.plan.now a.work.now c.requires.1 c.requires.2;
      long = refl;
    }

pub next_record-requires : goal.next_record-requires
next_record-requires c = (c.loop-hold.invariant.running.ready, c.loop-hold.invariant.long)

pub overflow_cast-hold : goal.overflow_cast-hold
overflow_cast-hold c = omega (arith, laying-hold _ _ _ _ _ _ _ _ _ c.loop-hold.invariant.laying _ _ _ _ c.in-Some.ensures)

pub put_record-requires : goal.put_record-requires
put_record-requires c = (omega (arith, c.requires.0.few), laying-room _ _ _ _ _ _ _ _ _ c.loop-hold.invariant.laying _ _ _ _ c.in-Some.ensures)

pub overflow_add-at : goal.overflow_add-at
overflow_add-at c =
    let long : length c.next_record.new.out ≡ 64 = c.next_record.auto.out ∙ c.loop-hold.invariant.long in
    omega (arith, laying-room _ _ _ _ _ _ _ _ _ c.loop-hold.invariant.laying _ _ _ _ c.in-Some.ensures, long)

pub overflow_add-laid : goal.overflow_add-laid
overflow_add-laid c = omega (arith, laying-small _ _ _ _ _ _ _ _ _ c.loop-hold.invariant.laying _ _ _ _ c.in-Some.ensures)

pub overflow_add-laid-in-Some : goal.overflow_add-laid-in-Some
overflow_add-laid-in-Some c = omega (arith, running-small _ _ _ _ _ _ c.loop-hold.invariant.running _ _ _ _ c.in-Some.ensures)

pub loop-hold-smaller : goal.loop-hold-smaller
loop-hold-smaller c = running-less _ _ _ _ _ _ c.loop-hold.invariant.running _ _ _ _ c.in-Some.ensures

pub loop-hold-preserved : goal.loop-hold-preserved
loop-hold-preserved c =
    let long : length c.next_record.new.out ≡ 64 = c.next_record.auto.out ∙ c.loop-hold.invariant.long in
    record {
      running = running-next _ _ _ _ _ _ c.loop-hold.invariant.running _ _ _ _ c.in-Some.ensures;
      laying = laying-next _ _ _ _ _ _ _ _ _ c.loop-hold.invariant.laying _ _ _ _ c.in-Some.ensures long c.put_record.new.plan c.put_record.ensures;
      long = long;
    }

pub returns : goal.returns
returns c =
    let z = laying-last _ _ _ _ _ _ _ _ _ c.loop-hold.invariant.laying c.in_default.ensures.none in
    (running-last _ _ _ _ _ _ c.loop-hold.invariant.running c.in_default.ensures.none, z.0, z.1)
