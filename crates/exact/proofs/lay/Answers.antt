-- What is to be written has its place.
use Rattle.records.specs.Laying.{laid_if}
use Rattle.exact.proofs.lay.Goals as goal

pub peel_all-requires : goal.peel_all-requires
peel_all-requires c = let p = c.requires in (p.0, record { narrow = p.1.narrow; fits = p.1.fits; wide = λ _. p.1.wide; room = λ _. p.1.room })

pub returns : goal.returns
unfolding laid_if
returns c =
    let p = c.requires.1 in
    let e = c.peel_all.ensures in
    (e.0 _ p.wide p.narrow, e.1)
