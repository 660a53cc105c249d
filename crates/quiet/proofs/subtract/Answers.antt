-- After i turns the inputs below i have given up the hold.
use mathlib.Core.Path.{◌≡◌, ap, ◌∙◌}
use native.Mathlib.Omega.{arith}
use Rattle.rules.specs.Peel.{peel_to}
use Rattle.rules.proofs.Peel.{peel_to-zero}
use Rattle.board.specs.Level.{out_of}
use Rattle.quiet.proofs.Taking.{still-whole, peeled-next}
use Rattle.quiet.proofs.subtract.Goals as goal

pub loop-i-init : goal.loop-i-init
loop-i-init c = (omega arith, c.requires.0, peel_to-zero _ _ _ _)

pub give-requires : goal.give-requires
give-requires c =
    let l = c.loop-i in
    record {
      copy = l.invariant.1;
      input = c.loop-i-test.true;
      wide = c.requires.1;
      enough = λ o. omega (arith, still-whole c.args.n c.args.hold c.args.work.now c.args.out.now c.requires.0.sized.room l.work l.i l.invariant.2 o, c.requires.2 l.i c.loop-i-test.true o);
    }

pub loop-i-preserved : goal.loop-i-preserved
loop-i-preserved c =
    let l = c.loop-i in
    let g = c.give.ensures in
    (omega arith, g.copy, peeled-next c.args.n c.args.hold c.args.work.now c.args.out.now c.requires.0.sized.room l.work l.i l.invariant.2 _ _ g)

pub returns : goal.returns
returns c =
    let a = c.args in
    let l = c.loop-i in
    let e : l.i ≡ a.n = omega arith in
    record { copy = l.invariant.1; taken = l.invariant.2 ∙ ap (peel_to a.n a.hold (out_of a.out.now) a.work.now) e }
