-- The cells are filled to T, and then labelled.
use Rattle.peel.proofs.Starting.{within, sized-filled, started}
use Rattle.peel.proofs.start.Goals as goal

pub fill_up-requires : goal.fill_up-requires
fill_up-requires c = within _ _ _ c.requires.0

pub label_rows-requires : goal.label_rows-requires
label_rows-requires c = (sized-filled _ _ _ c.requires.0 _ c.fill_up.ensures, c.requires.1)

pub returns : goal.returns
returns c = started _ _ _ c.requires.0 _ _ c.fill_up.ensures c.label_rows.ensures
