-- Where the room is short of the plan's records they are answered, and else the plan is laid.
use Rattle.std.proofs.lemmas.Result.{err_from_is_err_and}
use mathlib.Core.Path.{◌≡◌, refl, ap, ◌∙◌}
use mathlib.Core.List.{List}
use lib.ListN.{length}
use Rattle.switch.specs.Plan.{Record, total}
use Rattle.records.specs.Bytes.{bytes, laid}
use Rattle.quiet_rule.specs.Quiet.{quiet_plan}
use Rattle.quiet.specs.Taking.{leftover}
use Rattle.quiet.proofs.Planning.{small_of, copied-plan, copied-fits, copied-short, gives-room, gives-plan}
use Rattle.quiet.proofs.plan_fine.Goals as goal

pub check_room-requires : goal.check_room-requires
check_room-requires c = (c.requires.0, small_of c.args.n c.args.longest c.args.cells.now c.requires.1, c.requires.2)

pub returns-in_err-check_room : goal.returns-in_err-check_room
returns-in_err-check_room c =
    let a = c.args in
    let p = err_from_is_err_and c.from_residual.result c.from_residual.ensures.1 in
    let r = c.in_err-check_room.ensures in
    rw (p.1, p.2, r.1) (gives-room a.n a.cells.now a.limit a.plan.now a.longest c.requires.1 c.requires.0 _ refl r.0)

pub lay_records-done-requires : goal.lay_records-done-requires
lay_records-done-requires c =
    let a = c.args in
    let r = c.in_ok-check_room.ensures in
    let m = small_of a.n a.longest a.cells.now c.requires.1 in (
      record { copy = r.1.copy; limit = c.requires.0; few = m.few },
      copied-short a.n a.cells.now m a.limit c.requires.0 _ _ r.1,
      copied-fits a.n a.limit a.cells.now _ _ r.1 m c.requires.0 a.plan.now r.0,
    )

pub returns : goal.returns
returns c =
    let a = c.args in
    let r = c.in_ok-check_room.ensures in
    let plan : leftover a.n a.limit c.check_room.new.work ≡ quiet_plan 64 a.n a.limit a.cells.now = copied-plan a.n a.limit a.cells.now _ _ r.1 in
    let d = c.lay_records-done.ensures in
    gives-plan a.n a.cells.now a.limit a.plan.now a.longest c.requires.1 c.requires.0 _ _ r.0 (d.0 ∙ ap length plan) (d.1 ∙ ap total plan) _
    (d.2 ∙ ap (λ (q : List Record). laid a.plan.now 0 (bytes 0 a.n q)) plan)
