-- Each return is the case of the definition whose tests led there; what is written is the report of the records that the check has passed.
use mathlib.Core.Path.{refl, sym, ap, ◌∙◌}
use mathlib.Core.List.{List, ◌++◌}
use Prim.Native.Nat.{ℕ}
use native.Mathlib.Omega.{arith}
use lib.ListN.{drop}
use lib.Seq.{length-take-le}
use Rattle.std.proofs.lemmas.Result.{err_from_is_err_and}
use Rattle.switch.specs.declared.Counts.{Counts}
use Rattle.records.specs.Bytes.{plan_from}
use Rattle.switch.proofs.Result.{gives}
use Rattle.switch.specs.declared.Edition.{Edition}
use Rattle.switch.specs.Editions.{first_edition}
use Rattle.plans.specs.Read.{checking}
use Rattle.wavelengths.specs.Shared.{grating_report}
use Rattle.wavelengths.proofs.Report.{report-refused, report-short, report-done, fine-plan, laid-first, length-report}
use Rattle.wavelengths.proofs.grating_report.Goals as goal

pub returns-in_err-counts : goal.returns-in_err-counts
returns-in_err-counts c =
    let a = c.args in
    let p = err_from_is_err_and c.from_residual.result c.from_residual.ensures.1 in
    let r = sym c.in_err-counts.was ∙ c.check_plan.ensures ∙ ap (λ (e : Edition). checking e a.n a.plan.now) c.first_edition.ensures in
    let q = report-refused first_edition a.n a.plan.now a.report.now r in
    gives (sym q) (rw (p.1, p.2) refl) refl

pub returns-then-report-records : goal.returns-then-report-records
returns-then-report-records c =
    let a = c.args in
    let f = sym c.in_ok-counts.was ∙ c.check_plan.ensures ∙ ap (λ (e : Edition). checking e a.n a.plan.now) c.first_edition.ensures in
    let q = report-short first_edition a.n a.plan.now a.report.now f c.if-report-records.true in
    gives (sym q) refl refl

pub report_records-requires : goal.report_records-requires
report_records-requires c =
    let a = c.args in
    let f = sym c.in_ok-counts.was ∙ c.check_plan.ensures ∙ ap (λ (e : Edition). checking e a.n a.plan.now) c.first_edition.ensures in
    let k = fine-plan a.n a.plan.now f in
    let e = ap (λ (x : Counts). x.records) k.counts in
    (k.some, k.few, omega arith, omega (arith, e, length-take-le _ _ c.if-report-records.false))

pub returns : goal.returns
returns c =
    let a = c.args in
    let f = sym c.in_ok-counts.was ∙ c.check_plan.ensures ∙ ap (λ (e : Edition). checking e a.n a.plan.now) c.first_edition.ensures in
    let k = fine-plan a.n a.plan.now f in
    let e = ap (λ (x : Counts). x.records) k.counts in
    let q = report-done first_edition a.n a.plan.now a.report.now f c.if-report-records.false in
    let s = c.report_records.ensures ∙ ap (λ (m : ℕ). grating_report a.n (plan_from 64 a.plan.now 0 m)) (length-take-le _ _ c.if-report-records.false ∙ e) in
    gives (sym q) refl
    (ap (λ (x : List ℕ). x ++ drop c.in_ok-counts.counts.records a.report.now) s ∙ laid-first _ _ _ (length-report 64 a.n a.plan.now 0 _ ∙ sym e))
