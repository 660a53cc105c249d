-- The flag says of the inputs passed whether their outputs are fine, and what was seen is just their ports.
use Rattle.std.proofs.Common.{◌≡◌, refl, ◌∙◌, ◌<◌, arith, take, get_or}
use Rattle.std.proofs.lemmas.List.{get_or-take, length-take}
use Rattle.records.specs.Record.{all}
use Rattle.records.proofs.Fine.{seen_none, seen_more, fine_more}
use Rattle.records.proofs.told_fine.Goals as goal

pub loop-b-init : goal.loop-b-init
unfolding all
loop-b-init c = (seen_none _ _, refl)

pub loop-b-preserved : goal.loop-b-preserved
loop-b-preserved c =
    let l = c.loop-b in
    let o = c.args.outputs.now in
    let n = c.args.n in
    let e : get_or (take n o) l.b-index 0 ≡ get_or o l.b-index 0 = get_or-take n o l.b-index 0 (let d : l.b-index < n = omega (arith, length-take n o) in d) in
    let w = c.from-j.ensures ∙ e in
    rw e (seen_more _ _ l.b-index _ w _ l.invariant.0 (omega (arith, w, c.type_inv.outputs l.b-index)), fine_more _ _ l.b-index _ w _ l.invariant.0 _ l.invariant.1)

pub returns : goal.returns
returns c =
    let e : c.loop-b.b-index ≡ c.args.n = omega (arith, length-take c.args.n c.args.outputs.now) in
    rw e at c.loop-b.invariant.1
