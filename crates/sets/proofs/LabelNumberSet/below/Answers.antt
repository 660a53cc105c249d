-- What is left by 1 << j: the digits below j stay, and there are no others.
use native.Mathlib.Omega.{arith}
use lib.Pow.{pow_pos}
use Rattle.sets.proofs.Digits.{below, one_shifted}
use Rattle.sets.proofs.LabelNumberSet.below.Goals as goal

pub nonzero_rem-result : goal.nonzero_rem-result
nonzero_rem-result c = let j = c.args.j in omega (arith, one_shifted j c.requires, pow_pos j)

pub returns : goal.returns
returns c =
    let a = c.args in
    rw (one_shifted a.j c.requires) (below a.self.0 a.j)
