-- The set or 1 << j: digit j becomes 1 and no other changes.
use Rattle.sets.proofs.Digits.{marked, one_shifted}
use Rattle.sets.proofs.LabelNumberSet.mark.Goals as goal

pub returns : goal.returns
returns c =
    let a = c.args in
    rw (one_shifted a.j c.requires) (marked a.self.0 a.j)
