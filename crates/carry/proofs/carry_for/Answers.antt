-- Where nothing is refused before the sum, the grants of the first records give way to the new demand, which is judged and then written.
use Rattle.std.specs.Prelude.{Err}
use mathlib.Core.Path.{◌≡◌, refl, sym, ap, ◌∙◌}
use Prim.Native.Nat.{ℕ}
use native.Mathlib.Nat.{mul-le-mul}
use native.Mathlib.Omega.{arith}
use mathlib.Core.List.{List}
use lib.ListN.{length}
use lib.Seq.{length-take-le}
use Rattle.std.proofs.lemmas.Result.{err_from_is_err_and}
use Rattle.switch.specs.declared.About.TheVariants as about
use Rattle.switch.proofs.Demand.{blank-zeros}
use Rattle.plans.proofs.Plans.{checked}
use Rattle.carry.specs.Carry.{Carried, lines_of, new_cells, cells_after, Fit}
use Rattle.carry.proofs.Rest.{renewing, renewed-all}
use Rattle.carry.proofs.Carry.{lines-short, fit, first-formed, carry-fault, carry-sum}
use Rattle.carry.proofs.carry_for.Goals as goal

pub returns-in_err-fault_of : goal.returns-in_err-fault_of
returns-in_err-fault_of g c =
    let a = c.args in
    let p = err_from_is_err_and c.from_residual.result c.from_residual.ensures.1 in
    let e : c.from_residual.result ≡ Err c.in_err-fault_of.field-0.0 = rw (p.1, p.2) refl in
    record {
      answer = e ∙ carry-fault _ _ _ _ _ _ _ (sym c.in_err-fault_of.was ∙ c.fault_of.ensures);
      cells = sym (ap (λ (x : Carried). cells_after x (new_cells a.e a.n a.asked.now a.plan.now a.first a.wished.now) a.cells.now) e);
    }

pub grant_plan-requires : goal.grant_plan-requires
grant_plan-requires g c =
    let fits : let a = c.args in Fit a.e a.n a.asked.now a.plan.now a.first a.wished.now (length a.cells.now) = fit _ _ _ _ _ _ _ c.requires.0 (sym c.fault_of.ensures ∙ c.in_ok-fault_of.was) in
    let f = fits in
    let most = (checked _ _ _ c.requires.0 _ f.judged).most in
    let z = blank-zeros g.row.GRANTS in (
      record { bounded = c.requires.0; few = f.few; inside = f.inside; most = omega (arith, f.inside, most, c.requires.0.records) },
      record { room = omega (arith, c.requires.1, z.room, mul-le-mul f.few f.few); clear = z.clear },
    )

pub renew-requires : goal.renew-requires
renew-requires g c =
    let fits : let a = c.args in Fit a.e a.n a.asked.now a.plan.now a.first a.wished.now (length a.cells.now) = fit _ _ _ _ _ _ _ c.requires.0 (sym c.fault_of.ensures ∙ c.in_ok-fault_of.was) in
    let f = fits in
    let asked = lines-short _ _ _ f.asked-fine in
    let wished = lines-short _ _ _ f.wished-fine in
    let size = length-take-le _ _ c.grant_plan.ensures.granted.room in
    (renewing _ _ _ f.asked-size f.wished-size asked wished _ (omega (arith, size)), size ∙ sym f.asked-size)

pub write_sum-requires : goal.write_sum-requires
write_sum-requires g c =
    let fits : let a = c.args in Fit a.e a.n a.asked.now a.plan.now a.first a.wished.now (length a.cells.now) = fit _ _ _ _ _ _ _ c.requires.0 (sym c.fault_of.ensures ∙ c.in_ok-fault_of.was) in
    let f = fits in
    let size = c.renew.ensures.size ∙ length-take-le _ _ c.grant_plan.ensures.granted.room in
    (record { few = omega (arith, f.few, c.requires.0.ports, c.requires.0.width); room = omega (arith, size) }, omega (arith, size, f.room-size))

pub returns : goal.returns
returns g c =
    let fits : let a = c.args in Fit a.e a.n a.asked.now a.plan.now a.first a.wished.now (length a.cells.now) = fit _ _ _ _ _ _ _ c.requires.0 (sym c.fault_of.ensures ∙ c.in_ok-fault_of.was) in
    let a = c.args in
    let f = fits in
    let granted = rw (first-formed _ _ _ c.requires.0 _ f.judged _ f.inside) at c.grant_plan.ensures.granted in
    let new = renewed-all _ _ _ _ _ _ f.asked-size granted c.renew.ensures in
    record {
      answer = c.write_sum.ensures.0 ∙ ap (lines_of about.Sum a.n) new ∙ carry-sum _ _ _ _ _ _ _ (sym c.in_ok-fault_of.was ∙ c.fault_of.ensures);
      cells = c.write_sum.ensures.1 ∙ ap (λ (x : List ℕ). cells_after c.write_sum.result x a.cells.now) new;
    }
