-- The digits of the one or of the other.
use Rattle.sets.proofs.Digits.{union}
use Rattle.sets.proofs.LabelNumberSet.with.Goals as goal

pub returns : goal.returns
returns c = let a = c.args in union a.self.0 a.other.0
