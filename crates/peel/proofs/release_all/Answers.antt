-- Each turn the first of those that are left gives its output up.
use mathlib.Core.Path.{refl, subst, ◌∙◌}
use Prim.Native.Nat.{ℕ}
use native.Mathlib.Omega.{arith}
use Rattle.sets.specs.Label.{Cleared, Lowest, LowestAt}
use Rattle.sets.proofs.Digits.{fewer}
use Rattle.labels.specs.Ports.{outputs_of, inputs_of, input_found}
use Rattle.std.specs.declared.option.Option.{Option}
use Rattle.switch.specs.declared.InputPort.{InputPort}
use Rattle.peel.proofs.Release.{partly-start, given-place, partly_more, partly-all}
use Rattle.peel.proofs.release_all.Goals as goal

pub loop-i-init : goal.loop-i-init
loop-i-init c = let a = c.args in (partly-start (inputs_of a.emptied) a.pairs.now.out a.pairs.now.by c.requires (outputs_of c.every-held.result) c.every-held.ensures, refl)

pub returns : goal.returns
returns c =
    let a = c.args in
    let l = c.loop-i in
    (partly-all (inputs_of a.emptied) a.pairs.now.out a.pairs.now.by c.requires (inputs_of l.rest) l.pairs.by (outputs_of l.held) l.invariant.0 (subst (λ (f : (Option InputPort)). Lowest 128 (inputs_of l.rest) (input_found f)) c.in_default.is c.lowest.ensures), l.invariant.1)

pub output_of-j-requires : goal.output_of-j-requires
output_of-j-requires c = let low : LowestAt 128 (inputs_of c.loop-i.rest) c.in-Some.i.0 = subst (λ (f : (Option InputPort)). Lowest 128 (inputs_of c.loop-i.rest) (input_found f)) c.in-Some.is c.lowest.ensures in
    low.small

pub release-requires : goal.release-requires
release-requires c =
    let low : LowestAt 128 (inputs_of c.loop-i.rest) c.in-Some.i.0 = subst (λ (f : (Option InputPort)). Lowest 128 (inputs_of c.loop-i.rest) (input_found f)) c.in-Some.is c.lowest.ensures in
    let a = c.args in
    let l = c.loop-i in
    let told = rw l.invariant.1 at c.output_of-j.ensures in
    omega (arith, low.small, told, given-place (inputs_of a.emptied) a.pairs.now.out a.pairs.now.by c.requires (inputs_of l.rest) l.pairs.by (outputs_of l.held) c.in-Some.i.0 l.invariant.0 low.here, l.invariant.0.size, c.requires.holders)

pub without-held-requires : goal.without-held-requires
without-held-requires c =
    let low : LowestAt 128 (inputs_of c.loop-i.rest) c.in-Some.i.0 = subst (λ (f : (Option InputPort)). Lowest 128 (inputs_of c.loop-i.rest) (input_found f)) c.in-Some.is c.lowest.ensures in
    let a = c.args in
    let l = c.loop-i in
    let told = rw l.invariant.1 at c.output_of-j.ensures in
    omega (arith, low.small, told, given-place (inputs_of a.emptied) a.pairs.now.out a.pairs.now.by c.requires (inputs_of l.rest) l.pairs.by (outputs_of l.held) c.in-Some.i.0 l.invariant.0 low.here, l.invariant.0.size, c.requires.holders)

pub loop-i-smaller : goal.loop-i-smaller
loop-i-smaller c = let q : LowestAt 128 (inputs_of c.loop-i.rest) c.in-Some.i.0 = subst (λ (f : (Option InputPort)). Lowest 128 (inputs_of c.loop-i.rest) (input_found f)) c.in-Some.is c.lowest.ensures in
    omega (arith, fewer 128 _ _ _ q.small q.here (c.without_lowest-rest.ensures.cleared _ q.here q.past))

pub loop-i-preserved : goal.loop-i-preserved
loop-i-preserved c =
    let q : LowestAt 128 (inputs_of c.loop-i.rest) c.in-Some.i.0 = subst (λ (f : (Option InputPort)). Lowest 128 (inputs_of c.loop-i.rest) (input_found f)) c.in-Some.is c.lowest.ensures in
    let a = c.args in
    let l = c.loop-i in
    let i = c.in-Some.i.0 in
    let more = partly_more (inputs_of a.emptied) a.pairs.now.out a.pairs.now.by c.requires (inputs_of l.rest) l.pairs.by (outputs_of l.held) i l.invariant.0 q.here (inputs_of c.without_lowest-rest.result) (outputs_of c.without-held.result) (c.without_lowest-rest.ensures.cleared i q.here q.past) in
    let read = rw l.invariant.1 at c.output_of-j.ensures in
    (rw c.release.ensures.0 (rw read (more (subst (λ (j : ℕ). Cleared (outputs_of l.held) j (outputs_of c.without-held.result)) read c.without-held.ensures))), c.release.ensures.1 ∙ l.invariant.1)
