-- An output whose holder may not take the wanted one is not what is looked for, so that one that is stays among the rest, and the loop ends at it.
use mathlib.Core.Path.{sym, subst, ◌∙◌}
use Prim.Native.Nat.{ℕ, ◌-◌}
use native.Mathlib.Omega.{arith}
use borrow.Author.Tests.{eqb-true, eqb-false}
use lib.ListN.{get_or}
use Rattle.std.specs.declared.option.Option.{Option}
use Rattle.switch.specs.declared.OutputPort.{OutputPort}
use Rattle.sets.specs.Label.{digit, In, Lowest, LowestAt}
use Rattle.labels.specs.Ports.{outputs_of, output_found}
use Rattle.sets.proofs.Digits.{fewer}
use Rattle.search.specs.Tables.{Allowed}
use Rattle.search.proofs.Waves.{holder-of, holder-port, not-mover}
use Rattle.search.proofs.mover.Goals as goal

pub loop-j-init : goal.loop-j-init
loop-j-init c = (λ k x. x, λ j m. m.0)

pub unreachable-requires : goal.unreachable-requires
unreachable-requires c =
    let m = c.requires.2.some in
    let l = c.loop-j in
    absurd (subst (λ (f : (Option OutputPort)). Lowest 128 (outputs_of l.rest) (output_found f)) c.in_default.is c.lowest.ensures m.0 (l.invariant.1 m.0 m.1))

pub bounds-pairs-k : goal.bounds-pairs-k
bounds-pairs-k c = let low : LowestAt 128 (outputs_of c.loop-j.rest) c.in-Some.j.0 = subst (λ (f : (Option OutputPort)). Lowest 128 (outputs_of c.loop-j.rest) (output_found f)) c.in-Some.is c.lowest.ensures in
    omega (arith, c.requires.2.ports.holders, low.small)

pub overflow_sub-v : goal.overflow_sub-v
overflow_sub-v c = let low : LowestAt 128 (outputs_of c.loop-j.rest) c.in-Some.j.0 = subst (λ (f : (Option OutputPort)). Lowest 128 (outputs_of c.loop-j.rest) (output_found f)) c.in-Some.is c.lowest.ensures in
    let asked : In (outputs_of c.args.wave) c.in-Some.j.0 = c.loop-j.invariant.0 c.in-Some.j.0 low.here in
    omega (arith, (c.requires.2.held c.in-Some.j.0 asked).1)

pub row_of-row-requires : goal.row_of-row-requires
row_of-row-requires c =
    let low : LowestAt 128 (outputs_of c.loop-j.rest) c.in-Some.j.0 = subst (λ (f : (Option OutputPort)). Lowest 128 (outputs_of c.loop-j.rest) (output_found f)) c.in-Some.is c.lowest.ensures in
    let asked : In (outputs_of c.args.wave) c.in-Some.j.0 = c.loop-j.invariant.0 c.in-Some.j.0 low.here in
    let a = c.args in
    let h = holder-port 128 _ (Allowed a.rows.now) a.pairs.now.by (outputs_of a.wave) a.wanted.0 c.requires.2 _ asked in
    h

pub has-requires : goal.has-requires
has-requires c = c.requires.1

pub returns-then-has : goal.returns-then-has
returns-then-has c =
    let low : LowestAt 128 (outputs_of c.loop-j.rest) c.in-Some.j.0 = subst (λ (f : (Option OutputPort)). Lowest 128 (outputs_of c.loop-j.rest) (output_found f)) c.in-Some.is c.lowest.ensures in
    let asked : In (outputs_of c.args.wave) c.in-Some.j.0 = c.loop-j.invariant.0 c.in-Some.j.0 low.here in
    let a = c.args in (
      asked,
      (
        get_or a.pairs.now.by c.in-Some.j.0 0 - 1,
        holder-of 128 _ (Allowed a.rows.now) a.pairs.now.by (outputs_of a.wave) a.wanted.0 c.requires.2 _ asked,
        subst (λ (q : ℕ). In q a.wanted.0) c.row_of-row.ensures (eqb-true (digit (outputs_of c.row_of-row.result) a.wanted.0) 1 (sym c.has.ensures ∙ c.if-has.true)),
      ),
    )

pub loop-j-smaller : goal.loop-j-smaller
loop-j-smaller c = let low : LowestAt 128 (outputs_of c.loop-j.rest) c.in-Some.j.0 = subst (λ (f : (Option OutputPort)). Lowest 128 (outputs_of c.loop-j.rest) (output_found f)) c.in-Some.is c.lowest.ensures in
    let l = low in fewer 128 _ _ _ l.small l.here (c.without_lowest-rest.ensures.cleared _ l.here l.past)

pub loop-j-preserved : goal.loop-j-preserved
loop-j-preserved c =
    let low : LowestAt 128 (outputs_of c.loop-j.rest) c.in-Some.j.0 = subst (λ (f : (Option OutputPort)). Lowest 128 (outputs_of c.loop-j.rest) (output_found f)) c.in-Some.is c.lowest.ensures in
    let asked : In (outputs_of c.args.wave) c.in-Some.j.0 = c.loop-j.invariant.0 c.in-Some.j.0 low.here in
    let a = c.args in
    let i = c.loop-j.invariant in
    let l = low in
    let cl = c.without_lowest-rest.ensures.cleared _ l.here l.past in
    let e = not-mover 128 _ (Allowed a.rows.now) a.pairs.now.by (outputs_of a.wave) a.wanted.0 c.requires.2 c.in-Some.j.0 asked
    (λ h. eqb-false (digit (outputs_of c.row_of-row.result) a.wanted.0) 1 (sym c.has.ensures ∙ c.if-has.false) (subst (λ (q : ℕ). In q a.wanted.0) (sym c.row_of-row.ensures) h)) in
    (λ k y. i.0 k (cl.less k y), λ j y. cl.kept j (i.1 j y) (λ q. e j q y))
