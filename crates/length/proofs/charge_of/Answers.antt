-- The first record moves the mirrors; a later one does where its outputs are not those of the record before it.
use mathlib.Core.Path.{◌∙◌}
use native.Mathlib.Omega.{arith}
use Rattle.tally.proofs.Setting.{setting-long}
use Rattle.length.proofs.Length.{charged-first, charged-kept, charged-moved}
use Rattle.length.proofs.charge_of.Goals as goal

pub returns-then-k-eq0 : goal.returns-then-k-eq0
returns-then-k-eq0 c = (c.from-switching.ensures ∙ charged-first _ _ _ c.if-k-eq0.true, omega (arith, c.from-switching.ensures))

pub same_outputs-requires : goal.same_outputs-requires
same_outputs-requires c = grind (arith, setting-long)

pub returns-then-same_outputs : goal.returns-then-same_outputs
returns-then-same_outputs c =
    let p = c.requires in
    (charged-kept _ _ _ _ c.if-k-eq0.false p.1 _ _ c.setting_at-left.ensures c.setting_at-met.ensures _ c.same_outputs.ensures c.if-same_outputs.true, omega arith)

pub returns : goal.returns
returns c =
    let p = c.requires in
    (c.from-switching.ensures ∙ charged-moved _ _ _ _ c.if-k-eq0.false p.1 _ _ c.setting_at-left.ensures c.setting_at-met.ensures _ c.same_outputs.ensures c.if-same_outputs.false, omega (arith, c.from-switching.ensures))
