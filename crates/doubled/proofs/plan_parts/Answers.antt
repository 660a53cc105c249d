-- The first part's total is the quotients' longest line times u, so both parts and their room are known before anything is laid.
use native.Mathlib.Omega.{arith}
use Rattle.turns.proofs.Divided.{asked, wide, holding, sized, within, small}
use Rattle.doubled.proofs.Divided.{quotient-cells}
use Rattle.doubled.proofs.Answer.{short-answer, ready, first-few, both-counted, both-answer}
use Rattle.doubled.proofs.plan_parts.Goals as goal

pub longest_line-first-requires : goal.longest_line-first-requires
longest_line-first-requires c = sized c.requires.0

pub needed-need-requires : goal.needed-need-requires
needed-need-requires c =
    let v = c.requires.0 in
    (quotient-cells v c.longest_line-first.ensures, v.quotients-are, (holding v).least, omega (arith, c.measure-second.ensures.few))

pub returns-then-room-need : goal.returns-then-room-need
returns-then-room-need c =
    let v = c.requires.0 in
    short-answer v c.measure-second.ensures _ (c.needed-need.ensures.1 c.args.e.width (wide v) v.bounded.width) c.if-room-need.true

pub lay_parts-records-requires : goal.lay_parts-records-requires
lay_parts-records-requires c =
    let v = c.requires.0 in
    let fits = c.needed-need.ensures.1 c.args.e.width (wide v) v.bounded.width in
    let r = ready v c.measure-second.ensures c.args.plan.now fits (omega arith) c.longest_line-first.ensures c.needed-need.ensures.0 in
    (r.0, c.requires.1, r.1)

pub overflow_mul-total : goal.overflow_mul-total
overflow_mul-total c =
    let v = c.requires.0 in
    omega (arith, within v c.longest_line-first.ensures, (asked v).small)

pub overflow_add-total : goal.overflow_add-total
overflow_add-total c =
    let v = c.requires.0 in
    omega (arith, within v c.longest_line-first.ensures, (asked v).small, c.measure-second.ensures.small, (holding v).few)

pub overflow_add-result : goal.overflow_add-result
overflow_add-result c =
    let v = c.requires.0 in
    let fits = c.needed-need.ensures.1 c.args.e.width (wide v) v.bounded.width in
    let m = c.measure-second.ensures in
    let l = c.longest_line-first.ensures in
    let few = first-few v m c.args.plan.now fits (omega arith) l c.needed-need.ensures.0 c.lay_parts-records.ensures.0 in
    omega (arith, few, small v l, m.few, (holding v).few)

pub empty_slots-requires : goal.empty_slots-requires
empty_slots-requires c =
    let v = c.requires.0 in
    let fits = c.needed-need.ensures.1 c.args.e.width (wide v) v.bounded.width in
    let m = c.measure-second.ensures in
    both-counted v m c.args.plan.now fits (omega arith) c.longest_line-first.ensures c.needed-need.ensures.0 c.requires.2

pub returns : goal.returns
returns c =
    let v = c.requires.0 in
    let fits = c.needed-need.ensures.1 c.args.e.width (wide v) v.bounded.width in
    let m = c.measure-second.ensures in
    let l = c.lay_parts-records.ensures in
    both-answer v m c.args.plan.now fits (omega arith) c.longest_line-first.ensures c.needed-need.ensures.0 c.requires.2 l.0 l.1 c.empty_slots.ensures
