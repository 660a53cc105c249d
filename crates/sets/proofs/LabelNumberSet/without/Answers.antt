-- The set less what it shares with 1 << j: digit j becomes 0 and no other changes.
use Rattle.sets.proofs.Digits.{cleared, one_shifted}
use Rattle.sets.proofs.LabelNumberSet.without.Goals as goal

pub returns : goal.returns
returns c =
    let a = c.args in
    rw (one_shifted a.j c.requires) (cleared a.self.0 a.j)
