-- Something is asked for, so u is at least 1, and at most T, which fits a hold.
use Rattle.turns.proofs.Holds.{unit-holding}
use Rattle.turns.proofs.split.Goals as goal

pub quotients-requires : goal.quotients-requires
quotients-requires c =
    let p = c.requires in
    (p.1, (unit-holding p.0 c.unit_of-unit.ensures).least)

pub fill_holds-requires : goal.fill_holds-requires
fill_holds-requires c =
    let p = c.requires in
    (unit-holding p.0 c.unit_of-unit.ensures, p.2)
