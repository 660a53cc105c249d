-- The first 4,096 bytes are listed, and all of a shorter input.
use Rattle.listing.proofs.Answers.{listed, list-part}
use Rattle.listing.proofs.listing.Goals as goal

pub returns : goal.returns
returns c = listed _ _ _ _ _ c.list_text.ensures (list-part _ _ c.min-end.ensures)
