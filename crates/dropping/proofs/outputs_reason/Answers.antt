-- Each return is the test that fails; the last is the one that is left.
use mathlib.Core.Path.{sym, ◌∙◌}
use Rattle.rescue_rule.proofs.Reason.{outputs-range}
use Rattle.dropping.proofs.Outputs.{twice-first, past_first}
use Rattle.dropping.proofs.outputs_reason.Goals as goal

pub returns-then-not-in_range : goal.returns-then-not-in_range
returns-then-not-in_range c = sym (outputs-range _ _ _ (sym c.in_range.ensures ∙ c.if-not-in_range.true))

pub returns-then-not-setting_fine : goal.returns-then-not-setting_fine
returns-then-not-setting_fine c = sym (twice-first _ _ _ (sym c.in_range.ensures ∙ c.if-not-in_range.false) (sym c.setting_fine.ensures ∙ c.if-not-setting_fine.true))

pub returns : goal.returns
returns c = sym (past_first _ _ _ (sym c.in_range.ensures ∙ c.if-not-in_range.false) (sym c.setting_fine.ensures ∙ c.if-not-setting_fine.false) c.requires.2)
