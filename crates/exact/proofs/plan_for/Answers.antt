-- A demand that is refused by itself changes nothing; the rest is decided on a working copy.
use mathlib.Core.Path.{refl, sym, ◌∙◌}
use Prim.Native.Nat.{ℕ}
use lib.ListN.{length-replicate}
use native.Mathlib.Omega.{arith}
use native.Mathlib.Nat.{mul-le-mul}
use Rattle.std.proofs.lemmas.Result.{err_from_is_err_and}
use Rattle.demand.proofs.Check.{fine-asked}
use Rattle.rules.specs.Exact.{exact_plan}
use Rattle.switch.proofs.Result.{gives}
use Rattle.planner.proofs.Planned.{planned-faulty}
use Rattle.exact.proofs.plan_for.Goals as goal

pub whole_as_slice-lay_or_refuse : goal.whole_as_slice-lay_or_refuse
whole_as_slice-lay_or_refuse g c = omega (arith, c.requires.2)

pub lay_or_refuse-requires : goal.lay_or_refuse-requires
lay_or_refuse-requires g c =
    let p = c.requires in
    let e = sym c.check_demand.ensures ∙ c.in_ok-longest.was in
    let a = fine-asked _ _ _ _ e in
    (e, p.0, omega (arith, mul-le-mul a.few a.few, p.1, length-replicate {A = ℕ} g.row.ROOM 0))

pub returns-in_err-longest : goal.returns-in_err-longest
returns-in_err-longest g c =
    let a = c.args in
    let p = err_from_is_err_and c.from_residual.result c.from_residual.ensures.1 in
    let q = planned-faulty a.e a.n a.cells.now (exact_plan a.e.width a.n a.cells.now) a.plan.now _ (sym c.check_demand.ensures ∙ c.in_err-longest.was) in
    rw (p.1, p.2) (gives q refl refl)
