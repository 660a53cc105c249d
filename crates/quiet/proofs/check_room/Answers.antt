-- Where the room is for as many records as there are cells that are not zero all fit; else they are counted, and only where all fit is the demand copied in
-- again.
use mathlib.Core.Path.{◌≡◌, ap, ◌∙◌}
use native.Mathlib.Omega.{arith}
use lib.ListN.{length}
use Rattle.switch.specs.declared.Refusal.TheVariants.{Room}
use Rattle.board.proofs.Cells.{sized-as}
use Rattle.quiet_rule.specs.Quiet.{quiet_plan}
use Rattle.quiet.proofs.Planning.{copied-plan, copied-enough}
use Rattle.quiet.proofs.check_room.Goals as goal

pub load-requires : goal.load-requires
load-requires c = let p = c.requires in (p.1, p.2)

pub asked_pairs-requires : goal.asked_pairs-requires
asked_pairs-requires c = c.load.ensures.copy.sized

pub returns-then-asked_pairs-room : goal.returns-then-asked_pairs-room
returns-then-asked_pairs-room c =
    let a = c.args in
    (copied-enough a.n a.limit a.cells.now c.load.new.work c.load.new.rows c.load.ensures c.requires.1 c.requires.0 _ _ c.asked_pairs.ensures c.if-asked_pairs-room.true, c.load.ensures)

pub count_records-need-requires : goal.count_records-need-requires
count_records-need-requires c = record { copy = c.load.ensures.copy; limit = c.requires.0; few = c.requires.1.few }

pub returns-then-room-need : goal.returns-then-room-need
returns-then-room-need c =
    let a = c.args in
    let counted : c.count_records-need.result ≡ length (quiet_plan 64 a.n a.limit a.cells.now) = c.count_records-need.ensures ∙ ap length (copied-plan a.n a.limit a.cells.now c.load.new.work c.load.new.rows c.load.ensures) in
    (omega (arith, counted, c.if-room-need.true), ap Room counted)

pub load-requires-2 : goal.load-requires-2
load-requires-2 c = (
  c.requires.1,
  record {
    sized = sized-as c.args.n c.args.work.now c.count_records-need.new.work (c.count_records-need.auto.work ∙ c.load.auto.work) c.requires.2.sized;
    each = c.count_records-need.auto.rows ∙ c.load.auto.rows ∙ c.requires.2.each;
  },
)

pub returns : goal.returns
returns c =
    let a = c.args in
    let counted : c.count_records-need.result ≡ length (quiet_plan 64 a.n a.limit a.cells.now) = c.count_records-need.ensures ∙ ap length (copied-plan a.n a.limit a.cells.now c.load.new.work c.load.new.rows c.load.ensures) in
    (omega (arith, counted, c.if-room-need.false), c.load-2.ensures)
