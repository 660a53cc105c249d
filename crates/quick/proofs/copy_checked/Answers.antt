-- What is checked are the demand's own cells, in the copy; more of them than the copy has room for are never fine.
use mathlib.Core.Path.{refl, sym, ap, ◌∙◌, subst}
use native.Mathlib.Nat.{mul-le-mul}
use native.Mathlib.Omega.{arith}
use lib.ListN.{length, take, drop}
use lib.Seq.{take_at, length-take-le}
use Rattle.switch.proofs.Demand.{cell-append}
use Rattle.demand.specs.Check.{check_demand}
use Rattle.demand.proofs.Check.{fine-asked}
use Rattle.quick.specs.Lent.{Copied}
use Rattle.quick.proofs.copy_checked.Goals as goal

pub returns-then-work-size : goal.returns-then-work-size
returns-then-work-size c =
    record {
      checked = c.check_demand.ensures;
      copied = λ T e.
          let k = fine-asked _ _ T _ (sym c.check_demand.ensures ∙ e) in
          absurd (omega (arith, k.size, mul-le-mul k.few k.few, c.requires.1, c.if-work-size.true));
    }

pub slice_bounds-check_demand-end-2 : goal.slice_bounds-check_demand-end-2
slice_bounds-check_demand-end-2 c = sym (length-take-le (length c.args.cells.now) c.copy.new.to (omega (arith, c.copy.auto.to, c.if-work-size.false)))

pub returns : goal.returns
returns c =
    let a = c.args in
    let d = a.cells.now in
    let e = ap (take (length d)) c.copy.ensures ∙ take_at d (drop (length d) a.work.now) (length d) refl in
    let g = c.check_demand-2.ensures ∙ ap (check_demand a.most a.n) e in
    record {
      checked = g;
      copied = λ T q. subst (Copied a.n d) (sym c.copy.ensures) (cell-append a.n d (drop (length d) a.work.now) (fine-asked _ _ T _ (sym g ∙ q)).size);
    }
