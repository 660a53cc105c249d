-- The set less what is left of it by 1 << j: the digits from j on stay, and there are no others.
use native.Mathlib.Omega.{arith}
use native.Mathlib.Nat.{mod-le}
use lib.Pow.{pow_pos}
use Rattle.sets.proofs.Digits.{from_on, one_shifted}
use Rattle.sets.proofs.LabelNumberSet.from.Goals as goal

pub nonzero_rem-result : goal.nonzero_rem-result
nonzero_rem-result c = let j = c.args.j in omega (arith, one_shifted j c.requires, pow_pos j)

pub overflow_sub-result : goal.overflow_sub-result
overflow_sub-result c = mod-le _ _

pub returns : goal.returns
returns c =
    let a = c.args in
    rw (one_shifted a.j c.requires) (from_on a.self.0 a.j)
