-- Both parts are counted before anything is laid, and the second is laid behind the first.
use mathlib.Core.Path.{◌∙◌, subst}
use Prim.Native.Nat.{◌+◌, ◌≤◌}
use native.Mathlib.Omega.{arith}
use Rattle.records.specs.Bytes.{whole}
use Rattle.grating.specs.Parts.{First}
use Rattle.grating.proofs.Made.{made-records, made-total, made-first, made-second, made-laid}
use Rattle.grating.proofs.Answer.{short-answer, laid-answer}
use Rattle.grating.proofs.lay_parts.Goals as goal

pub measure-second-requires : goal.measure-second-requires
measure-second-requires c = let p = c.requires in (omega (arith, p.1, p.2), omega (arith, p.0.size))

pub overflow_add-need : goal.overflow_add-need
overflow_add-need c = let p = c.requires in omega (arith, p.3.few, p.1, p.2, c.measure-second.ensures.few)

pub returns-then-room-need : goal.returns-then-room-need
returns-then-room-need c =
    short-answer c.args.e c.args.n _ c.args.plan.now _ (made-records c.requires.3 c.measure-second.ensures) c.if-room-need.true

pub lay_first-requires : goal.lay_first-requires
lay_first-requires c =
    let f = c.requires.3 in (
      c.requires.1,
      c.requires.2,
      subst (First c.args.e.width c.args.unit c.args.first.now c.args.records) f.sum_is f,
      made-first f c.measure-second.ensures c.args.plan.now (omega (arith, c.if-room-need.false)),
    )

pub overflow_mul-records : goal.overflow_mul-records
overflow_mul-records c =
    omega (arith, made-first c.requires.3 c.measure-second.ensures c.args.plan.now (omega (arith, c.if-room-need.false)))

pub lay-requires : goal.lay-requires
lay-requires c =
    let e = c.lay_first.ensures in
    (c.requires.0, c.requires.1, c.requires.2, made-second c.requires.3 c.measure-second.ensures c.args.plan.now (omega (arith, c.if-room-need.false)) c.args.e.byte e)

pub overflow_mul-total : goal.overflow_mul-total
overflow_mul-total c = omega (arith, c.requires.3.small)

pub overflow_add-total : goal.overflow_add-total
overflow_add-total c =
    let p = c.requires in
    omega (arith, p.3.small, p.1, p.2, c.measure-second.ensures.small)

pub returns : goal.returns
returns c =
    let f = c.requires.3 in
    let m = c.measure-second.ensures in
    let fits : c.args.records + c.measure-second.result.records ≤ whole c.args.e.width c.args.plan.now = omega (arith, c.if-room-need.false) in
    let put = c.lay.ensures ∙ made-laid f m c.args.plan.now fits c.args.e.byte c.lay_first.ensures in
    let r = laid-answer c.args.e c.args.n _ c.args.plan.now (omega (arith, fits, made-records f m)) _ _ _ (made-records f m) (made-total f m) put in
    record { outcome = c.done.ensures ∙ r.outcome; bytes = r.bytes }
