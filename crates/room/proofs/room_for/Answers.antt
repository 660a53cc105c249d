-- Each refusal is the definition's first test that fails.
use mathlib.Core.Path.{◌∙◌}
use native.Mathlib.Omega.{arith}
use Rattle.room.proofs.Room.{roomed-none, roomed-many, roomed-over, roomed-fine}
use Rattle.room.proofs.room_for.Goals as goal

pub returns-then-n-eq0 : goal.returns-then-n-eq0
returns-then-n-eq0 c = roomed-none _ _ _ _ c.if-n-eq0.true

pub returns-then-e-n : goal.returns-then-e-n
returns-then-e-n c = roomed-many _ _ _ _ c.if-e-n.true

pub returns-then-longest-gt-LONGEST : goal.returns-then-longest-gt-LONGEST
returns-then-longest-gt-LONGEST c = roomed-over _ _ _ _ (omega arith) c.if-e-n.false c.if-longest-gt-LONGEST.true

pub returns : goal.returns
returns c = c.room_of.ensures ∙ roomed-fine _ _ _ _ (omega arith) (omega arith) (omega arith)
