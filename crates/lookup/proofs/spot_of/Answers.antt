-- N is judged first, and a plan that is refused then is named.
use Rattle.std.specs.Prelude.{Ok}
use mathlib.Core.Path.{◌≡◌, sym, ap, ◌∙◌}
use native.Mathlib.Omega.{arith}
use Rattle.std.proofs.Common.{rules}
use Rattle.switch.specs.declared.About.TheVariants as about
use Rattle.switch.specs.Outcome.{Outcome}
use Rattle.switch.proofs.Check.{no-ports, many-ports, some-ports}
use Rattle.lookup.specs.Lookup.{after_plan}
use Rattle.lookup.proofs.Lookup.{within, after, of-ports, of-plans, judged, plan-judged}
use Rattle.lookup.proofs.spot_of.Goals as goal

pub returns-then-n-eq0 : goal.returns-then-n-eq0
returns-then-n-eq0 c = rw c.about.ensures (of-ports _ _ _ _ _ (no-ports _ _ c.if-n-eq0.true))

pub returns-then-e-n : goal.returns-then-e-n
returns-then-e-n c = rw c.about-then-e-n.ensures (of-ports _ _ _ _ _ (many-ports _ _ c.if-e-n.true))

pub returns-in_err-first : goal.returns-in_err-first
returns-in_err-first c =
    let a = c.args in
    let rest = after a.e a.n a.tonight.now a.standby.now a.slot in
    let e : c.from_residual.result ≡ after_plan about.Tonight c.check_plan.result rest = search rules in
    e ∙ ap (λ (o : Outcome). after_plan about.Tonight o rest) c.check_plan.ensures
    ∙ of-plans _ _ _ _ _ (some-ports _ _ (omega (arith, c.if-n-eq0.false)) c.if-e-n.false)

pub returns-in_err-second : goal.returns-in_err-second
returns-in_err-second c =
    let a = c.args in
    let rest = within a.e a.n a.tonight.now a.standby.now a.slot in
    let first : c.check_plan.result ≡ Ok c.in_ok-first.first = search rules in
    let e : c.from_residual-in_err-second.result ≡ after_plan about.Standby c.check_plan-2.result rest = search rules in
    e ∙ ap (λ (o : Outcome). after_plan about.Standby o rest) c.check_plan-2.ensures
    ∙ plan-judged about.Tonight _ (sym first ∙ c.check_plan.ensures)
    ∙ of-plans _ _ _ _ _ (some-ports _ _ (omega (arith, c.if-n-eq0.false)) c.if-e-n.false)

pub spot_in-requires : goal.spot_in-requires
spot_in-requires c =
    let first : c.check_plan.result ≡ Ok c.in_ok-first.first = search rules in
    let second : c.check_plan-2.result ≡ Ok c.in_ok-second.second = search rules in
    (c.requires.width, judged _ _ _ c.requires _ (sym first ∙ c.check_plan.ensures), judged _ _ _ c.requires _ (sym second ∙ c.check_plan-2.ensures))

pub returns : goal.returns
returns c =
    let first : c.check_plan.result ≡ Ok c.in_ok-first.first = search rules in
    let second : c.check_plan-2.result ≡ Ok c.in_ok-second.second = search rules in
    c.spot_in.ensures
    ∙ plan-judged about.Standby _ (sym second ∙ c.check_plan-2.ensures) ∙ plan-judged about.Tonight _ (sym first ∙ c.check_plan.ensures)
    ∙ of-plans _ _ _ _ _ (some-ports _ _ (omega (arith, c.if-n-eq0.false)) c.if-e-n.false)
