-- Each turn lays the pieces of one sum more behind those before it.
use mathlib.Core.Path.{subst}
use Rattle.joining.proofs.Sums.{cut-next, cut-none}
use Rattle.records.proofs.Laying.{Laying, laying-end, laying-room-all, laying-all}
use Rattle.joining.proofs.lay_sums.Goals as goal

pub lay_sum-at-requires : goal.lay_sum-at-requires
lay_sum-at-requires c =
    let l = c.loop-entry in
    (c.requires.0, laying-room-all _ _ _ _ _ _ _ _ _ (subst (Laying _ _ _ _ _ l.buffer l.at) (cut-next _ _ _ _ c.loop-entry-test.true _ c.from.ensures _ c.setting_at-setting.ensures) l.invariant))

pub loop-entry-preserved : goal.loop-entry-preserved
loop-entry-preserved c =
    let l = c.loop-entry in
    laying-all _ _ _ _ _ _ _ _ _ (subst (Laying _ _ _ _ _ l.buffer l.at) (cut-next _ _ _ _ c.loop-entry-test.true _ c.from.ensures _ c.setting_at-setting.ensures) l.invariant) _ c.lay_sum-at.ensures.1 _ c.lay_sum-at.ensures.0

pub returns : goal.returns
returns c =
    let l = c.loop-entry in
    (laying-end _ _ _ _ _ _ _ (subst (Laying _ _ _ _ _ l.buffer l.at) (cut-none _ _ _ _ c.loop-entry-test.false) l.invariant)).1
