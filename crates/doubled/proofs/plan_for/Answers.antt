-- A demand that is refused by itself changes nothing; the rest is decided on a working copy of as many cells and a table of N holds.
use mathlib.Core.Path.{◌≡◌, refl, sym, ◌∙◌}
use Prim.Native.Nat.{ℕ, ◌≤◌}
use native.Mathlib.Omega.{arith}
use lib.ListN.{length, take, replicate, length-replicate}
use lib.Seq.{length-take-le}
use Rattle.switch.proofs.Result.{gives}
use Rattle.planner.proofs.Planned.{planned-faulty}
use Rattle.turns.specs.declared.Turning.TheVariants.{Forward}
use Rattle.turns.specs.Second.{doubled_rule}
use Rattle.turns.proofs.Divided.{cells_fit, holds-fit}
use Rattle.std.proofs.lemmas.Result.{err_from_is_err_and}
use Rattle.doubled.proofs.plan_for.Goals as goal

-- so many of an array's zeros
front : (room n : ℕ) → n ≤ room → length {A = ℕ} (take n (replicate room 0)) ≡ n
front room n l = length-take-le n (replicate room 0) (omega (arith, length-replicate {A = ℕ} room 0))

pub whole_as_front-plan_fine : goal.whole_as_front-plan_fine
whole_as_front-plan_fine g c = (cells_fit _ _ _ _ (sym c.check_demand.ensures ∙ c.in_ok-longest.was) g.row.C c.requires.1, omega arith)

pub whole_as_front-plan_fine-2 : goal.whole_as_front-plan_fine-2
whole_as_front-plan_fine-2 g c = (holds-fit _ _ _ _ (sym c.check_demand.ensures ∙ c.in_ok-longest.was) g.row.P c.requires.2, omega arith)

pub plan_fine-requires : goal.plan_fine-requires
plan_fine-requires g c =
    let p = c.requires in
    let e = sym c.check_demand.ensures ∙ c.in_ok-longest.was in (
      e,
      p.0,
      front g.row.C (length c.args.cells.now) (cells_fit _ _ _ _ e g.row.C p.1),
      front g.row.P c.args.n (holds-fit _ _ _ _ e g.row.P p.2),
    )

pub returns-in_err-longest : goal.returns-in_err-longest
returns-in_err-longest g c =
    let a = c.args in
    let q = planned-faulty a.e a.n a.cells.now (doubled_rule a.rule Forward a.e.width a.n a.cells.now) a.plan.now _ (sym c.check_demand.ensures ∙ c.in_err-longest.was) in
    let p = err_from_is_err_and c.from_residual.result c.from_residual.ensures.1 in
    rw (p.1, p.2) (gives q refl refl)

pub returns : goal.returns
returns g c = c.plan_fine.ensures
