-- Each turn of the loop is that of the lowest input ahead, and the turns of those that are left complete it.
use mathlib.Core.Path.{refl}
use native.Mathlib.Omega.{arith}
use Rattle.sets.specs.Label.{LowestAt}
use Rattle.labels.specs.Ports.{inputs_of}
use Rattle.sets.proofs.Digits.{fewer}
use Rattle.slot.specs.Filled.{none}
use Rattle.slot.proofs.Around.{ahead-next}
use Rattle.slot.proofs.visit_each.Goals as goal

pub loop-i-init : goal.loop-i-init
loop-i-init c = let p = c.requires in record { copy = p.0; waits = p.2; work = refl; long = refl; rest = λ _ _ _ _ k. k }

pub returns : goal.returns
returns c =
    let l = c.loop-i in
    l.invariant.rest _ _ _ _ (none c.in_default.ensures)

pub visit-turn-requires : goal.visit-turn-requires
visit-turn-requires c =
    let low : LowestAt 128 (inputs_of c.loop-i.ahead) c.in-Some.i.0 = c.in-Some.ensures in
    let g = c.loop-i.invariant in
    let w = g.waits _ low.here in
    (g.copy, w.0, omega (arith, c.requires.1, g.long), w.1)

pub loop-i-smaller : goal.loop-i-smaller
loop-i-smaller c = let l : LowestAt 128 (inputs_of c.loop-i.ahead) c.in-Some.i.0 = c.in-Some.ensures in fewer 128 _ _ _ l.small l.here (c.without_lowest-ahead.ensures.cleared _ l.here l.past)

pub loop-i-preserved : goal.loop-i-preserved
loop-i-preserved c =
    let l : LowestAt 128 (inputs_of c.loop-i.ahead) c.in-Some.i.0 = c.in-Some.ensures in
    ahead-next _ _ _ _ _ _ _ _ _ _ _ c.loop-i.invariant _ _ l (c.without_lowest-ahead.ensures.cleared _ l.here l.past)
    c.visit-turn.new.work c.visit-turn.new.rows c.visit-turn.new.out c.visit-turn.result c.visit-turn.ensures c.visit-turn.auto.work
