-- The set less what it shares with 1 << j, or with 0 << j.
use Rattle.sets.proofs.Digits.{cleared-if}
use Rattle.sets.proofs.LabelNumberSet.without_if.Goals as goal

pub returns : goal.returns
returns c = let a = c.args in rw c.from.ensures (cleared-if a.gone a.self.0 a.j c.requires)
