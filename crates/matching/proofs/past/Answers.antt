-- Each turn passes the lowest of the rest, so that what is passed last is the last.
use mathlib.Core.Path.{subst}
use mathlib.Core.Logic.{inl}
use native.Mathlib.Omega.{arith}
use Rattle.sets.specs.Label.{Lowest, LowestAt}
use Rattle.labels.specs.Ports.{inputs_of, input_found}
use Rattle.std.specs.declared.option.Option.{Option}
use Rattle.switch.specs.declared.InputPort.{InputPort}
use Rattle.sets.proofs.Digits.{fewer}
use Rattle.matching.proofs.Waiting.{passed-more, passed-all}
use Rattle.matching.proofs.past.Goals as goal

pub loop-i-init : goal.loop-i-init
loop-i-init c = record { all = λ m x. inl x; behind = λ m x. omega arith }

pub returns : goal.returns
returns c =
    let l = c.loop-i in
    passed-all _ _ _ l.invariant (subst (λ (f : (Option InputPort)). Lowest 128 (inputs_of l.rest) (input_found f)) c.in_default.is c.lowest.ensures)

pub overflow_add-last : goal.overflow_add-last
overflow_add-last c = let low : LowestAt 128 (inputs_of c.loop-i.rest) c.in-Some.i.0 = subst (λ (f : (Option InputPort)). Lowest 128 (inputs_of c.loop-i.rest) (input_found f)) c.in-Some.is c.lowest.ensures in
    omega (arith, low.small)

pub loop-i-smaller : goal.loop-i-smaller
loop-i-smaller c = let low : LowestAt 128 (inputs_of c.loop-i.rest) c.in-Some.i.0 = subst (λ (f : (Option InputPort)). Lowest 128 (inputs_of c.loop-i.rest) (input_found f)) c.in-Some.is c.lowest.ensures in
    let q = low in omega (arith, fewer 128 _ _ _ q.small q.here (c.without_lowest-rest.ensures.cleared _ q.here q.past))

pub loop-i-preserved : goal.loop-i-preserved
loop-i-preserved c = let low : LowestAt 128 (inputs_of c.loop-i.rest) c.in-Some.i.0 = subst (λ (f : (Option InputPort)). Lowest 128 (inputs_of c.loop-i.rest) (input_found f)) c.in-Some.is c.lowest.ensures in
    let q = low in passed-more _ _ _ _ _ c.loop-i.invariant q (c.without_lowest-rest.ensures.cleared _ q.here q.past)
