-- The fields are the bytes at their places.
use Rattle.wishes.specs.Record.{record_at}
use Rattle.wishes.proofs.record_at.Goals as goal

pub returns : goal.returns
unfolding record_at
returns c = rw (c.from.ensures, c.from-2.ensures, c.word_at.ensures)
