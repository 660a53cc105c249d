-- Each turn lays the next piece of the sum behind those before it.
use mathlib.Core.Path.{◌≡◌, ap, ◌∙◌, subst}
use native.Mathlib.Omega.{arith}
use Rattle.joining.specs.Join.{pieces}
use Rattle.joining.proofs.Pieces.{pieces_none, next-piece}
use Rattle.records.proofs.Laying.{Laying, laying-none, laying-end, laying-room, laying-more}
use Rattle.joining.proofs.lay_sum.Goals as goal

pub loop-left-init : goal.loop-left-init
loop-left-init c = laying-none _ _ _ _ _ c.requires.1

pub overflow_cast-hold : goal.overflow_cast-hold
overflow_cast-hold c = omega (arith, c.min-hold.ensures)

pub put_record-requires : goal.put_record-requires
put_record-requires c = (c.requires.0, laying-room _ _ _ _ _ _ _ _ _ (subst (Laying _ _ _ _ _ c.loop-left.buffer c.loop-left.next) (next-piece c.args.setting.now c.loop-left.left (omega arith) _ c.min-hold.ensures) c.loop-left.invariant))

pub overflow_add-next : goal.overflow_add-next
overflow_add-next c = omega (arith, laying-room _ _ _ _ _ _ _ _ _ (subst (Laying _ _ _ _ _ c.loop-left.buffer c.loop-left.next) (next-piece c.args.setting.now c.loop-left.left (omega arith) _ c.min-hold.ensures) c.loop-left.invariant))

pub overflow_add-next-in-loop-left : goal.overflow_add-next-in-loop-left
overflow_add-next-in-loop-left c = omega (arith, laying-room _ _ _ _ _ _ _ _ _ (subst (Laying _ _ _ _ _ c.loop-left.buffer c.loop-left.next) (next-piece c.args.setting.now c.loop-left.left (omega arith) _ c.min-hold.ensures) c.loop-left.invariant))

pub overflow_sub-left : goal.overflow_sub-left
overflow_sub-left c = omega (arith, c.min-hold.ensures)

pub loop-left-smaller : goal.loop-left-smaller
loop-left-smaller c = omega (arith, c.min-hold.ensures)

pub loop-left-preserved : goal.loop-left-preserved
loop-left-preserved c = laying-more _ _ _ _ _ _ _ _ _ (subst (Laying _ _ _ _ _ c.loop-left.buffer c.loop-left.next) (next-piece c.args.setting.now c.loop-left.left (omega arith) _ c.min-hold.ensures) c.loop-left.invariant) _ c.put_record.ensures

pub returns : goal.returns
returns c =
    let l = c.loop-left in
    let z : l.left ≡ 0 = omega arith in
    laying-end _ _ _ _ _ _ _ (subst (Laying _ _ _ _ _ l.buffer l.next) (ap (λ x. pieces x c.args.setting.now) z ∙ pieces_none _) l.invariant)
