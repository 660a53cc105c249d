-- Where the room is short of the plan's records they are answered, and else as many are written.
use mathlib.Core.Path.{◌≡◌, refl, sym, ap, ◌∙◌, subst}
use mathlib.Core.List.{List}
use Prim.Native.Nat.{ℕ, ◌≤◌}
use native.Mathlib.Omega.{arith}
use lib.ListN.{length}
use Rattle.std.proofs.lemmas.Result.{err_from_is_err_and}
use Rattle.switch.specs.Plan.{Record}
use Rattle.demand.proofs.Check.{fine-asked}
use Rattle.records.specs.Bytes.{bytes, laid}
use Rattle.records.specs.Laying.{laid_if}
use Rattle.rules.specs.Quick.{quick_plan}
use Rattle.board.specs.Level.{Sized}
use Rattle.board.proofs.Cells.{sized-as}
use Rattle.slot.specs.Filled.{leftover}
use Rattle.quick.proofs.Loading.{copied-short, copied-plan}
use Rattle.quick.proofs.Planning.{plan-fits, gives-room, gives-plan}
use Rattle.quick.proofs.plan_checked.Goals as goal

pub returns-in_err-check_room : goal.returns-in_err-check_room
returns-in_err-check_room c =
    let a = c.args in
    let p = err_from_is_err_and c.from_residual.result c.from_residual.ensures.1 in
    let r = c.in_err-check_room.ensures.room in
    rw (p.1, p.2, c.in_err-check_room.ensures.same, r.1) (gives-room a.e a.n a.cells.now a.plan.now a.longest c.requires.0.fine c.requires.0.small _ refl r.0)

pub fill_slots-records-requires : goal.fill_slots-records-requires
fill_slots-records-requires c =
    let a = c.args in
    let p = c.requires.1 in
    let r = c.in_ok-check_room.ensures.room in
    let sized : Sized a.n c.check_room.new.work = sized-as _ _ _ c.check_room.auto.work p.sized in
    let plan : leftover (length c.check_room.new.out) a.n 0 c.check_room.new.work ≡ quick_plan a.e.width a.n a.cells.now = ap (λ (w : ℕ). leftover w a.n 0 c.check_room.new.work) (c.check_room.auto.out ∙ c.requires.2) ∙ copied-plan _ _ _ _ sized r.1 in (
      copied-short a.e.ports _ _ _ sized r.1 _ (fine-asked _ _ _ _ c.requires.0.fine),
      record { sized = sized; each = c.check_room.auto.rows ∙ p.each; wide = omega (arith, p.wide, c.check_room.auto.out); seats = omega (arith, p.seats, c.check_room.auto.out) },
      λ _. subst (λ (q : List Record). length (bytes a.e.byte a.n q) ≤ length c.check_room.new.plan) (sym plan)
          (omega (arith, plan-fits a.e.width a.e.byte a.n a.cells.now a.plan.now r.0, ap length c.in_ok-check_room.ensures.same)),
    )

pub returns : goal.returns
unfolding laid_if
returns c =
    let a = c.args in
    let r = c.in_ok-check_room.ensures.room in
    let sized : Sized a.n c.check_room.new.work = sized-as _ _ _ c.check_room.auto.work c.requires.1.sized in
    let plan : leftover (length c.check_room.new.out) a.n 0 c.check_room.new.work ≡ quick_plan a.e.width a.n a.cells.now = ap (λ (w : ℕ). leftover w a.n 0 c.check_room.new.work) (c.check_room.auto.out ∙ c.requires.2) ∙ copied-plan _ _ _ _ sized r.1 in
    gives-plan a.e a.n a.cells.now a.plan.now a.longest c.requires.0.fine c.requires.0.small _ (c.fill_slots-records.ensures.0 ∙ ap length plan) c.requires.0.bounded r.0 _
    (c.fill_slots-records.ensures.1 ∙ ap (λ (q : List ℕ). laid q 0 (bytes a.e.byte a.n (leftover (length c.check_room.new.out) a.n 0 c.check_room.new.work))) c.in_ok-check_room.ensures.same
    ∙ ap (λ (q : List Record). laid a.plan.now 0 (bytes a.e.byte a.n q)) plan)
