-- Each turn keeps one input fewer, or follows outputs that were not seen: so it ends; and what it follows is come to with those kept.
use mathlib.Core.Path.{subst}
use mathlib.Core.Logic.{inr}
use Prim.Native.Nat.{ℕ, ◌<◌}
use native.Mathlib.Omega.{arith}
use lib.ListN.{length}
use Rattle.sets.specs.Label.{Lowest}
use Rattle.labels.specs.Ports.{outputs_of, output_found}
use Rattle.std.specs.declared.option.Option.{Option}
use Rattle.switch.specs.declared.OutputPort.{OutputPort}
use Rattle.sets.proofs.Digits.{absent-most, absent-less}
use Rattle.search.specs.Tables.{tried_of, Allowed, joined}
use Rattle.search.proofs.Tables.{place}
use Rattle.search.proofs.Search.{ports-of, lowest-at}
use Rattle.matching.proofs.Giving.{giving-start, giving-fewer, giving-way, giving-on}
use Rattle.matching.proofs.give_way.Goals as goal

pub overflow_sub-firm : goal.overflow_sub-firm
overflow_sub-firm c = omega (arith, c.requires.1.some)

pub output_of-requires : goal.output_of-requires
output_of-requires c = let p = c.requires.1 in omega (arith, p.some, p.short, p.good.outputs)

pub without-seen-requires : goal.without-seen-requires
without-seen-requires c = let inside : (m : ℕ) → m < c.args.from → joined c.args.pairs.now.out m < 128 = (λ m l. let a = c.args in let p = c.requires.1 in place 128 (length a.rows.now) (Allowed a.rows.now) a.pairs.now.by a.pairs.now.out p.good (joined a.pairs.now.out m) m (p.held m l)) in
    rw c.output_of.ensures (inside _ (omega (arith, c.requires.1.some)))

pub loop-firm-init : goal.loop-firm-init
loop-firm-init c =
    let a = c.args in
    giving-start 128 (length a.rows.now) (Allowed a.rows.now) a.pairs.now.by a.pairs.now.out (outputs_of a.held) (tried_of a.fixed) (outputs_of a.first) a.from c.requires.1 _ _ c.output_of.ensures c.without-seen.ensures

pub output_of-requires-in-None : goal.output_of-requires-in-None
output_of-requires-in-None c = let p = c.requires.1 in omega (arith, c.loop-firm.invariant.less, p.short, p.good.outputs)

pub without-seen-requires-in-None : goal.without-seen-requires-in-None
without-seen-requires-in-None c = let inside : (m : ℕ) → m < c.args.from → joined c.args.pairs.now.out m < 128 = (λ m l. let a = c.args in let p = c.requires.1 in place 128 (length a.rows.now) (Allowed a.rows.now) a.pairs.now.by a.pairs.now.out p.good (joined a.pairs.now.out m) m (p.held m l)) in
    rw c.output_of-in-None.ensures (inside _ (omega (arith, c.loop-firm.invariant.less)))

pub loop-firm-smaller-in-None : goal.loop-firm-smaller-in-None
loop-firm-smaller-in-None c = omega (arith, absent-most 128 (outputs_of c.without-seen-in-None.result))

pub loop-firm-preserved-in-None : goal.loop-firm-preserved-in-None
loop-firm-preserved-in-None c =
    let a = c.args in
    let l = c.loop-firm in
    giving-fewer 128 (length a.rows.now) (Allowed a.rows.now) a.pairs.now.by a.pairs.now.out (outputs_of a.held) (tried_of a.fixed) (outputs_of a.first) a.from c.requires.1
    (outputs_of l.met) l.firm (outputs_of l.seen) l.invariant _ _ (omega arith) c.output_of-in-None.ensures c.without-seen-in-None.ensures

pub leads_to-w-requires : goal.leads_to-w-requires
leads_to-w-requires c =
    let a = c.args in
    (c.requires.0, ports-of 128 (length a.rows.now) (Allowed a.rows.now) a.pairs.now.by a.pairs.now.out c.requires.1.good)

pub returns-in-Some-lowest_untried : goal.returns-in-Some-lowest_untried
returns-in-Some-lowest_untried c =
    let a = c.args in
    let l = c.loop-firm in
    let further = outputs_of c.leads_to-w.result.outputs in
    record {
      less = l.invariant.less;
      way = inr (giving-way 128 (length a.rows.now) (Allowed a.rows.now) a.pairs.now.by a.pairs.now.out (outputs_of a.held) (tried_of a.fixed) (outputs_of a.first) a.from c.requires.1
          (outputs_of l.met) l.firm (outputs_of l.seen) l.invariant _ further c.but-wave.ensures c.leads_to-w.result.free c.leads_to-w.ensures _
          (lowest-at 128 further (outputs_of a.held) c.lowest_untried.result _ c.lowest_untried.ensures c.in-Some-lowest_untried.is));
    }

pub loop-firm-smaller : goal.loop-firm-smaller
loop-firm-smaller c =
    let u = c.with-seen.ensures in
    let l = subst (λ (f : (Option OutputPort)). Lowest 128 (outputs_of c.but-wave.result) (output_found f)) c.in-Some.is c.lowest.ensures in
    omega (arith, absent-less (outputs_of c.loop-firm.seen) (outputs_of c.with-seen.result) u.left 128 _ l.small (c.but-wave.ensures.gone _ l.here) (u.right _ l.here))

pub loop-firm-preserved : goal.loop-firm-preserved
loop-firm-preserved c =
    let a = c.args in
    let l = c.loop-firm in
    giving-on 128 (length a.rows.now) (Allowed a.rows.now) a.pairs.now.by a.pairs.now.out (outputs_of a.held) (tried_of a.fixed) (outputs_of a.first) a.from c.requires.1
    (outputs_of l.met) l.firm (outputs_of l.seen) l.invariant _ (outputs_of c.leads_to-w.result.outputs) c.but-wave.ensures c.leads_to-w.result.free c.leads_to-w.ensures _ _ c.with-seen.ensures c.with-met.ensures
