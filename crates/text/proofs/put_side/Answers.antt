-- A line has the word of its side, and what is no line has none.
use Rattle.std.proofs.Common.{◌≡◌, [], refl}
use Rattle.switch.specs.declared.Side.{Side}
use Rattle.switch.specs.declared.Refusal.{Refusal}
use Rattle.switch.specs.declared.Refusal.TheVariants.{Line}
use Rattle.switch.specs.Answer.{refusal_side}
use Rattle.text.specs.Line.{spaced}
use Rattle.text.specs.Text.{side_field}
use Rattle.text.proofs.Put.{put-none}
use Rattle.text.proofs.put_side.Goals as goal

no_side : (r : Refusal) → ((s : Side) → r ≡ Line s → ⊥) → spaced (side_field (refusal_side r)) ≡ []
unfolding spaced
no_side (Line s) h = absurd (h s refl)
no_side _ h = refl

pub returns-in_default : goal.returns-in_default
returns-in_default c = rw (no_side c.args.refusal c.in_default.not-Line) (put-none _ _)
