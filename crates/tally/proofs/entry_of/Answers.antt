-- No entry from the link on has the setting; where the chain ends, none has it.
use mathlib.Core.Path.{sym, ◌∙◌}
use Prim.Native.Nat.{◌-◌}
use native.Mathlib.Omega.{arith}
use Rattle.tally.proofs.Same.{told_same, told-other}
use Rattle.tally.proofs.Setting.{setting-long}
use Rattle.tally.proofs.Chain.{read-entry, look-first, look-next}
use Rattle.tally.proofs.entry_of.Goals as goal

pub loop-link-init : goal.loop-link-init
loop-link-init c = let p = c.requires in look-first _ _ _ _ _ _ p.5 _ _ p.2 p.3 c.from-link.ensures

pub same_outputs-requires : goal.same_outputs-requires
same_outputs-requires c = setting-long _ _ _ (omega (arith, c.from.ensures, c.requires.5.inside (c.loop-link.link - 1) (omega (arith, c.loop-link.invariant.inside)))) _ c.setting_at.ensures ∙ sym c.requires.1

pub returns-then-same_outputs : goal.returns-then-same_outputs
returns-then-same_outputs c = (omega arith, sym (read-entry _ _ _ _ c.from.ensures _ c.setting_at.ensures) ∙ told_same _ _ _ c.same_outputs.ensures c.if-same_outputs.true)

pub loop-link-smaller : goal.loop-link-smaller
loop-link-smaller c =
    let l = c.loop-link in
    (look-next _ _ _ _ _ _ c.requires.5 l.link (omega arith) l.invariant
    (λ s. told-other _ _ _ c.same_outputs.ensures c.if-same_outputs.false (read-entry _ _ _ _ c.from.ensures _ c.setting_at.ensures ∙ s)) _ c.from-link-in-loop-link.ensures).0

pub loop-link-preserved : goal.loop-link-preserved
loop-link-preserved c =
    let l = c.loop-link in
    (look-next _ _ _ _ _ _ c.requires.5 l.link (omega arith) l.invariant
    (λ s. told-other _ _ _ c.same_outputs.ensures c.if-same_outputs.false (read-entry _ _ _ _ c.from.ensures _ c.setting_at.ensures ∙ s)) _ c.from-link-in-loop-link.ensures).1
