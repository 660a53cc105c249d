-- A plan that is refused by itself changes nothing; the records are counted before the first is laid; and else the joined plan is laid.
use native.Mathlib.Omega.{arith}
use lib.ListN.{length-replicate}
use lib.Seq.{length-take-le}
use Rattle.std.proofs.lemmas.Result.{err_from_is_err_and}
use Rattle.joining.proofs.Answer.{answers-refused, records-whole, records-few, ports-few, first-inside, table-room, answers-short, answers-done}
use Rattle.joining.proofs.join_for.Goals as goal

pub returns-in_err-counts : goal.returns-in_err-counts
returns-in_err-counts g c =
    let p = err_from_is_err_and c.from_residual.result c.from_residual.ensures.1 in
    rw (p.1, p.2) (answers-refused _ _ _ c.args.buffer.now c.in_err-counts.ensures)

pub sum_up-count-requires : goal.sum_up-count-requires
sum_up-count-requires g c =
    let p = c.requires in
    let m = records-few _ _ _ c.args.buffer.now p.0 _ c.in_ok-counts.ensures in
    (p.0.width, records-whole _ _ _ c.args.buffer.now p.0 _ c.in_ok-counts.ensures, omega (arith, m.1, p.1), omega (arith, m.1, p.2, length-replicate g.row.M c.default-entries.result))

pub count_pieces-need-requires : goal.count_pieces-need-requires
count_pieces-need-requires g c =
    let p = c.requires in
    let m = records-few _ _ _ c.args.buffer.now p.0 _ c.in_ok-counts.ensures in
    let s = c.sum_up-count.ensures in
    omega (arith, length-take-le c.sum_up-count.result c.sum_up-count.new.entries s.room, s.few, m.1, p.1)

pub returns-then-buffer-e : goal.returns-then-buffer-e
returns-then-buffer-e g c =
    answers-short _ _ _ c.args.buffer.now c.requires.0 _ c.in_ok-counts.ensures _ _ c.sum_up-count.ensures _ (c.count_pieces-need.ensures _ _) c.if-buffer-e.true

pub lay_sums-requires : goal.lay_sums-requires
lay_sums-requires g c =
    let p = c.requires in
    let b = c.args.buffer.now in
    let d = c.in_ok-counts.ensures in (
      ports-few _ _ _ b p.0 _ d,
      p.0.width,
      first-inside _ _ _ b p.0 _ d _ _ c.sum_up-count.ensures,
      table-room _ _ _ b p.0 _ d _ _ c.sum_up-count.ensures _ (c.count_pieces-need.ensures _ _) (omega (arith, c.if-buffer-e.false)),
    )

pub returns : goal.returns
returns g c =
    answers-done _ _ _ c.args.buffer.now c.requires.0 _ c.in_ok-counts.ensures _ _ c.sum_up-count.ensures _ (c.count_pieces-need.ensures _ _) (omega (arith, c.if-buffer-e.false)) _ c.lay_sums.ensures
