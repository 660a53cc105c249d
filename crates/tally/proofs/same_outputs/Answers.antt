-- What is left to compare decides, where what is passed is the same.
use mathlib.Core.Path.{refl}
use native.Mathlib.Omega.{arith}
use Rattle.tally.proofs.Same.{same_more, same-all}
use Rattle.std.proofs.Common.{rules}
use Rattle.tally.proofs.same_outputs.Goals as goal

pub loop-i-init : goal.loop-i-init
loop-i-init c = (search rules, refl, refl)

pub loop-i-preserved : goal.loop-i-preserved
loop-i-preserved c =
    let l = c.loop-i in
    (omega arith, refl, same_more _ _ l.i l.same (omega arith) (omega (arith, c.requires)) l.invariant.2)

pub returns : goal.returns
returns c = let l = c.loop-i in same-all _ _ l.i l.same (omega arith) (omega (arith, c.requires)) l.invariant.2
