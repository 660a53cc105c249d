-- The pass gives what is kept and granted; what is granted beyond the demand and what is left of it follow.
use native.Mathlib.Nat.{mul-le-mul}
use native.Mathlib.Omega.{arith}
use Rattle.records.specs.Bytes.{whole}
use Rattle.rescue.proofs.Keep.{kept-few}
use Rattle.rescue.proofs.Order.{entering}
use Rattle.rescue.proofs.Taking.{narrow, reads, blank, left-room, left-short, rest-small, taken}
use Rattle.rescue.proofs.take_stock.Goals as goal

pub keep_records-kept-requires : goal.keep_records-kept-requires
keep_records-kept-requires c =
    let n = entering _ _ _ _ _ c.requires.1 in
    (reads _ c.requires.0 _ _ _ _ n, blank _ c.requires.0 _ _ _ _ n _ c.requires.2)

pub surplus-over-requires : goal.surplus-over-requires
surplus-over-requires c =
    let n = entering _ _ _ _ _ c.requires.1 in
    ((narrow _ c.requires.0 _ _ _ _ n).1, n.asked.size, c.keep_records-kept.ensures.grants.room)

pub leave-requires : goal.leave-requires
leave-requires c =
    let n = entering _ _ _ _ _ c.requires.1 in
    omega (arith, n.asked.size, c.keep_records-kept.ensures.grants.room)

pub longest_line-rest-requires : goal.longest_line-rest-requires
longest_line-rest-requires c =
    let n = entering _ _ _ _ _ c.requires.1 in
    record { few = (narrow _ c.requires.0 _ _ _ _ n).1; room = left-room _ c.requires.0 _ _ _ _ n _ _ c.keep_records-kept.ensures _ c.leave.ensures }

pub overflow_sub-result : goal.overflow_sub-result
overflow_sub-result c =
    omega (arith, c.keep_records-kept.ensures.records, kept-few c.args.e.width c.args.e.byte c.args.n c.args.damaged.now (whole c.args.e.width c.args.damaged.now))

pub torn-requires : goal.torn-requires
torn-requires c = c.requires.0.width

pub overflow_add-result : goal.overflow_add-result
overflow_add-result c =
    let n = entering _ _ _ _ _ c.requires.1 in
    omega (arith, n.few, c.requires.0.records, c.torn.ensures)

pub overflow_add-result-2 : goal.overflow_add-result-2
overflow_add-result-2 c =
    let n = entering _ _ _ _ _ c.requires.1 in
    let k = c.keep_records-kept.ensures in
    omega (arith, k.small, n.few, c.requires.0.records, rest-small _ c.requires.0 _ _ _ _ n _ _ k _ c.leave.ensures _ c.longest_line-rest.ensures)

pub empty_slots-requires : goal.empty_slots-requires
empty_slots-requires c =
    let n = entering _ _ _ _ _ c.requires.1 in
    let k = c.keep_records-kept.ensures in
    let longest = c.longest_line-rest.ensures in (
      left-short _ c.requires.0 _ _ _ _ n _ _ k _ c.leave.ensures _ longest,
      omega (arith, longest),
      omega (arith, rest-small _ c.requires.0 _ _ _ _ n _ _ k _ c.leave.ensures _ longest),
    )

pub overflow_add-result-3 : goal.overflow_add-result-3
overflow_add-result-3 c =
    let n = entering _ _ _ _ _ c.requires.1 in
    let k = c.keep_records-kept.ensures in
    let l = (narrow _ c.requires.0 _ _ _ _ n).1 in
    let small = rest-small _ c.requires.0 _ _ _ _ n _ _ k _ c.leave.ensures _ c.longest_line-rest.ensures in
    omega (arith, c.surplus-over.ensures.1, mul-le-mul l l, mul-le-mul l small, c.empty_slots.ensures)

pub returns : goal.returns
returns c =
    let n = entering _ _ _ _ _ c.requires.1 in
    taken _ c.requires.0 _ _ _ _ n _ _ c.keep_records-kept.ensures _ c.leave.ensures _ c.longest_line-rest.ensures _ c.surplus-over.ensures.0 _ c.empty_slots.ensures _ c.torn.ensures
