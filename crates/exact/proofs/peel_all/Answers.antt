-- Fresh tables, with a label for each input, and then the settings.
use mathlib.Core.Path.{sym}
use Rattle.peel.proofs.Starting.{table-part}
use Rattle.exact.proofs.peel_all.Goals as goal

pub slice_bounds-peel_off-end : goal.slice_bounds-peel_off-end
slice_bounds-peel_off-end c = sym (table-part _ _ c.requires.0.few)

pub peel_off-requires : goal.peel_off-requires
peel_off-requires c = let p = c.requires in (p.0, record { each = table-part _ _ p.0.few; free = c.new-pairs.ensures.0; idle = c.new-pairs.ensures.1 }, p.1)
