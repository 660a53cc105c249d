-- The digits of the one less those of the other.
use Rattle.sets.proofs.Digits.{but}
use Rattle.sets.proofs.LabelNumberSet.but.Goals as goal

pub returns : goal.returns
returns c = let a = c.args in but a.self.0 a.other.0
