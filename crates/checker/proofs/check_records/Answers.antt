-- Each return is the case of the definition whose tests led there; a pass that came to the end has granted what the plan grants.
use Rattle.std.specs.Prelude.{Ok}
use mathlib.Core.Path.{◌≡◌, sym, ◌∙◌}
use native.Mathlib.Nat.{mul-le-mul}
use native.Mathlib.Omega.{arith}
use Prim.Native.Nat.{ℕ}
use lib.ListN.{length-replicate}
use Rattle.std.proofs.Common.{rules}
use Rattle.std.proofs.lemmas.Result.{err_from_is_err_and}
use Rattle.switch.specs.Plan.{total}
use Rattle.switch.proofs.Demand.{blank-zeros}
use Rattle.plans.proofs.Reading.{reading-refused, reading-malformed, readable}
use Rattle.checker.proofs.Cover.{answers}
use Rattle.checker.proofs.Check.{check-met}
use Rattle.checker.proofs.check_records.Goals as goal

pub returns-in_err-records : goal.returns-in_err-records
returns-in_err-records g c =
    let p = err_from_is_err_and c.from_residual.result c.from_residual.ensures.1 in
    rw (p.1, p.2) (reading-refused _ _ _ _ (sym c.in_err-records.was ∙ c.open.ensures))

pub grant_plan-pass-requires : goal.grant_plan-pass-requires
grant_plan-pass-requires g c =
    let r = readable _ _ _ _ c.requires.0 (sym c.in_ok-records.was ∙ c.open.ensures) in
    let z = blank-zeros g.row.GRANTS in
    (r, record { room = omega (arith, c.requires.1, z.room, mul-le-mul r.few r.few); clear = z.clear })

pub returns-in_err-pass : goal.returns-in_err-pass
returns-in_err-pass g c =
    let p = err_from_is_err_and c.from_residual-in_err-pass.result c.from_residual-in_err-pass.ensures.1 in
    rw (p.1, p.2) (reading-malformed _ _ _ _ (λ q. tt) (sym c.in_ok-records.was ∙ c.open.ensures) (sym c.in_err-pass.was ∙ c.grant_plan-pass.ensures.end))

pub meet-requires : goal.meet-requires
meet-requires g c =
    let p = c.requires in
    let r = readable _ _ _ _ p.0 (sym c.in_ok-records.was ∙ c.open.ensures) in
    (omega (arith, r.few, p.0.ports, p.0.width), p.3, omega (arith, c.grant_plan-pass.auto.grants, length-replicate {A = ℕ} g.row.GRANTS 0, p.1, mul-le-mul r.few r.few))

pub returns-in_err-empty : goal.returns-in_err-empty
returns-in_err-empty g c =
    let e : c.from_residual-in_err-empty.result ≡ answers c.in_ok-records.field-0.records c.args.longest c.grant_plan-pass.result.total c.meet.result = search rules in
    let o = sym c.in_ok-records.was ∙ c.open.ensures in
    e ∙ check-met _ _ _ _ _ _ _ o _ (sym c.in_ok-pass.was ∙ c.grant_plan-pass.ensures.end) c.grant_plan-pass.ensures.held c.grant_plan-pass.ensures.granted _ c.meet.ensures

pub returns : goal.returns
returns g c =
    let e : c.meet.result ≡ Ok c.in_ok-empty.empty = search rules in
    let o = sym c.in_ok-records.was ∙ c.open.ensures in
    check-met _ _ _ _ _ _ _ o _ (sym c.in_ok-pass.was ∙ c.grant_plan-pass.ensures.end) c.grant_plan-pass.ensures.held c.grant_plan-pass.ensures.granted _ (sym e ∙ c.meet.ensures)
