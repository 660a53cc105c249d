-- Where the room is for 2T - 1 records all fit; else they are counted, and only where all fit is the demand copied in again.
use mathlib.Core.Path.{◌≡◌, refl, sym, ap, ◌∙◌, subst}
use mathlib.Core.Bool.{true≢false}
use Prim.Native.Nat.{ℕ}
use native.Mathlib.Omega.{arith}
use lib.ListN.{length}
use Rattle.switch.specs.declared.Refusal.TheVariants.{Room}
use Rattle.switch.proofs.Demand.{cell-append}
use Rattle.demand.proofs.Check.{fine-asked}
use Rattle.records.specs.Bytes.{whole}
use Rattle.records.specs.Laying.{laid_if}
use Rattle.rules.specs.Quick.{quick_plan}
use Rattle.slot.specs.Filled.{leftover}
use Rattle.quick.specs.Lent.{Copied}
use Rattle.quick.proofs.Loading.{copied-short, copied-plan}
use Rattle.quick.proofs.Planning.{enough}
use Rattle.quick.proofs.check_room.Goals as goal

pub returns-then-quick_records-room : goal.returns-then-quick_records-room
returns-then-quick_records-room c =
    let a = c.args in
    record {
      same = refl;
      room = (enough a.e c.requires.0.bounded a.n a.longest (whole a.e.width a.plan.now) a.cells.now (fine-asked _ _ _ _ c.requires.0.fine) (omega (arith, c.quick_records.ensures, c.if-quick_records-room.true)), c.requires.0.copied);
    }

pub fill_slots-need-requires : goal.fill_slots-need-requires
fill_slots-need-requires c =
    (copied-short _ _ _ _ c.requires.1.sized c.requires.0.copied _ (fine-asked _ _ _ _ c.requires.0.fine), c.requires.1, λ e. absurd (true≢false (sym e)))

pub returns-then-room-need : goal.returns-then-room-need
unfolding laid_if
returns-then-room-need c =
    let counted : c.fill_slots-need.result ≡ length (quick_plan c.args.e.width c.args.n c.args.cells.now) = c.fill_slots-need.ensures.0 ∙ ap (λ (w : ℕ). length (leftover w c.args.n 0 c.args.work.now)) c.requires.2
    ∙ ap length (copied-plan _ _ _ _ c.requires.1.sized c.requires.0.copied) in
    record { same = c.fill_slots-need.ensures.1; room = (omega (arith, counted, c.if-room-need.true), ap Room counted) }

pub copy-requires : goal.copy-requires
copy-requires c =
    omega (arith, (fine-asked _ _ _ _ c.requires.0.fine).size, c.requires.1.sized.room, c.fill_slots-need.auto.work)

pub returns : goal.returns
unfolding laid_if
returns c =
    let counted : c.fill_slots-need.result ≡ length (quick_plan c.args.e.width c.args.n c.args.cells.now) = c.fill_slots-need.ensures.0 ∙ ap (λ (w : ℕ). length (leftover w c.args.n 0 c.args.work.now)) c.requires.2
    ∙ ap length (copied-plan _ _ _ _ c.requires.1.sized c.requires.0.copied) in
    record {
      same = c.fill_slots-need.ensures.1;
      room = (omega (arith, counted, c.if-room-need.false), subst (Copied c.args.n c.args.cells.now) (sym c.copy.ensures) (cell-append c.args.n c.args.cells.now _ (fine-asked _ _ _ _ c.requires.0.fine).size));
    }
