-- The digits that are 1 in both.
use Rattle.sets.proofs.Digits.{common}
use Rattle.sets.proofs.LabelNumberSet.common.Goals as goal

pub returns : goal.returns
returns c = let a = c.args in common a.self.0 a.other.0
