-- After j turns what is kept is the shop after the turns of the outputs below j.
use mathlib.Core.Path.{◌≡◌, refl, sym, ◌∙◌}
use native.Mathlib.Omega.{arith}
use Rattle.shop.proofs.Moments.{kept-none, kept_more, kept-all, turn-pre}
use Rattle.shop.proofs.moment.Goals as goal

pub idle_inputs-requires : goal.idle_inputs-requires
idle_inputs-requires c = (c.requires.few, omega (arith, c.requires.few, c.requires.ins-size))

pub loop-j-init : goal.loop-j-init
loop-j-init c =
    let a = c.args in
    (omega arith, refl, c.requires.waiting-size, c.requires.ins-size, c.requires.outs-size, kept-none a.clock.n a.cells.now a.clock.d a.clock.t _ _ _ _ _)

pub turn-so-requires : goal.turn-so-requires
turn-so-requires c =
    let l = c.loop-j in
    let k = l.invariant.5 c.requires.shop c.requires.before c.requires.held c.idle_inputs.ensures c.requires.wrote in
    turn-pre _ _ _ _ _ _ _ _ _ c.requires l.j (omega (arith, c.loop-j-test.true, l.invariant.1)) _ _ _ _ l.so.begun l.invariant.2 l.invariant.3 l.invariant.4 k.0 k.2

pub loop-j-preserved : goal.loop-j-preserved
loop-j-preserved c =
    let l = c.loop-j in
    let r = c.turn-so.ensures in
    (omega arith, l.invariant.1, r.waiting-size ∙ l.invariant.2, r.ins-size ∙ l.invariant.3, r.outs-size ∙ l.invariant.4, kept_more _ _ _ _ _ _ _ _ _ _ _ _ _ _ _ _ _ _ _ l.j l.invariant.5 r)

pub returns : goal.returns
returns c =
    let l = c.loop-j in
    let e : l.j ≡ c.args.clock.n = omega (arith, l.invariant.1) in
    record {
      waiting-size = l.invariant.2 ∙ sym c.requires.waiting-size;
      ins-size = l.invariant.3 ∙ sym c.requires.ins-size;
      outs-size = l.invariant.4 ∙ sym c.requires.outs-size;
      kept = λ x before h w. kept-all _ _ _ _ _ _ _ _ _ _ _ _ _ _ l.j e l.invariant.5 x before h c.idle_inputs.ensures w;
    }
