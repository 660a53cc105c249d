-- The pair was marked where its bit is.
use native.Mathlib.Nat.{mod-lt}
use native.Mathlib.Omega.{arith}
use mathlib.Core.Path.{◌∙◌}
use Rattle.switch.proofs.Demand.{index-small}
use Rattle.wishes.specs.Seen.{bit_at, seen_pair}
use Rattle.wishes.proofs.Pairs.{word-inside}
use Rattle.wishes.proofs.seen.Goals as goal

pub offset_bounds-marks-at : goal.offset_bounds-marks-at
offset_bounds-marks-at c = let p = c.requires in omega (arith, c.cell_at-at.ensures, index-small _ _ p.0 p.1, p.2)

pub bounds-marks-at : goal.bounds-marks-at
bounds-marks-at c = let p = c.requires in rw c.cell_at-at.ensures (word-inside _ _ _ _ p.1 p.2 p.3)

pub has-requires : goal.has-requires
has-requires c = mod-lt _ (omega arith)

pub returns : goal.returns
unfolding seen_pair bit_at
returns c = c.has.ensures ∙ rw c.cell_at-at.ensures
