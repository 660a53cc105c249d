-- The first n outputs are judged, and then the later ones.
use mathlib.Core.Path.{sym, ◌∙◌}
use Rattle.records.proofs.Fine.{outputs-bad, later-decide}
use Rattle.records.proofs.outputs_fine.Goals as goal

pub returns-then-not-setting_fine : goal.returns-then-not-setting_fine
returns-then-not-setting_fine c = sym (outputs-bad _ _ _ (sym c.setting_fine.ensures ∙ c.if-not-setting_fine.true))

pub returns : goal.returns
returns c = c.later_idle.ensures ∙ sym (later-decide _ _ _ (sym c.setting_fine.ensures ∙ c.if-not-setting_fine.false))
