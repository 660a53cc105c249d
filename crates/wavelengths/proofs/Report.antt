-- The report case by case: each refusal is given exactly where its test is the first that fails, and else each byte is its record's number.
use Rattle.std.specs.Prelude.{Err, Ok}
use mathlib.Core.Path.{◌≡◌, sym, ap, ◌∙◌}
use mathlib.Core.List.{List, ◌++◌}
use Prim.Native.Nat.{ℕ, zero, suc, ◌+◌, ◌<◌, ◌≤◌}
use native.Mathlib.Omega.{arith}
use lib.ListN.{length, get_or, drop, length-map}
use lib.Seq.{ext_get_or}
use borrow.Author.Tests.{lt-leb, le-leb}
use Rattle.switch.specs.declared.Counts.{Counts}
use Rattle.switch.specs.Outcome.{Outcome}
use Rattle.switch.specs.declared.Refusal.{Refusal}
use Rattle.switch.specs.declared.Refusal.TheVariants.{Room}
use Rattle.records.specs.Record.{decoded}
use Rattle.records.specs.Bytes.{record_at, whole, plan_from, laid}
use Rattle.switch.specs.Result.{refuses, after_reading}
use Rattle.records.proofs.Part.{whole-fits, record-fits, record-size}
use Rattle.switch.specs.declared.Edition.{Edition}
use Rattle.switch.specs.Editions.{first_edition}
use Rattle.plans.specs.Read.{checking}
use Rattle.switch.proofs.Editions.{first-bounded}
use Rattle.plans.proofs.Plans.{Checked, checked, length-plan}
use Rattle.wavelengths.specs.Shared.{most_shared, grating_report}
use Rattle.wavelengths.specs.Report.{reports, report_in, reported}

-- ---- the answer

module _ (E : Edition) (N : ℕ) (plan buf : List ℕ) where
  -- codes 1, 9, 10 and 11
  pub report-refused : {r : Refusal} → Err r ≡ checking E N plan → refuses r buf ≡ reported E N plan buf
  unfolding reported
  report-refused e = ap (λ (o : Outcome). after_reading o buf (λ c. report_in E N plan c buf)) e

  module _ {c : Counts} (fine : Ok c ≡ checking E N plan) where
    report-fine : report_in E N plan c buf ≡ reported E N plan buf
    unfolding reported
    report-fine = ap (λ (o : Outcome). after_reading o buf (λ c. report_in E N plan c buf)) fine

    -- code 5
    pub report-short : length buf < c.records → refuses (Room c.records) buf ≡ reported E N plan buf
    unfolding report_in
    report-short l = (let e : refuses (Room c.records) buf ≡ report_in E N plan c buf = rw (lt-leb _ _ l) in e) ∙ report-fine

    pub report-done : c.records ≤ length buf → reports E N plan c buf ≡ reported E N plan buf
    unfolding report_in
    report-done l = (let e : reports E N plan c buf ≡ report_in E N plan c buf = rw (le-leb _ _ l) in e) ∙ report-fine

-- what is known of a plan that is not refused
pub fine-plan : (N : ℕ) (plan : List ℕ) {c : Counts} → Ok c ≡ checking first_edition N plan → Checked first_edition N plan c
fine-plan N plan {c} e = checked first_edition N plan first-bounded c e

-- ---- the bytes

-- a record has its width and its head
pub read-size : (W : ℕ) (plan : List ℕ) (k : ℕ) → k < whole W plan → length (record_at W plan k) ≡ W + 4
read-size W plan k l = record-size W plan k (record-fits W plan k (whole W plan) l (whole-fits W plan))

-- bytes laid at the start, before what follows them
pub laid-first : (d s : List ℕ) (m : ℕ) → length s ≡ m → s ++ drop m d ≡ laid d 0 s
unfolding laid
laid-first d s m size = ap (λ (n : ℕ). s ++ drop n d) (let e : m ≡ 0 + length s = omega (arith, size) in e)

module _ (W N : ℕ) (plan : List ℕ) where
  pub length-report : (k m : ℕ) → length (grating_report N (plan_from W plan k m)) ≡ m
  unfolding grating_report
  length-report k m = length-map (plan_from W plan k m) (most_shared N) ∙ length-plan W plan k m

  -- byte k is record k's number
  pub report-at : (a m k : ℕ) → k < m → get_or (grating_report N (plan_from W plan a m)) k 0 ≡ most_shared N (decoded (record_at W plan (a + k)))
  unfolding grating_report plan_from
  report-at a zero k l = absurd (let f : ⊥ = omega arith in f)
  report-at a (suc m) zero l = ap (λ (i : ℕ). most_shared N (decoded (record_at W plan i))) (let e : a ≡ a + 0 = omega arith in e)
  report-at a (suc m) (suc k) l =
      report-at (suc a) m k (let h : k < m = omega arith in h) ∙ ap (λ (i : ℕ). most_shared N (decoded (record_at W plan i))) (let e : suc a + k ≡ a + suc k = omega arith in e)

  -- bytes that are each its record's number
  pub report-each : (m : ℕ) (p : List ℕ) → length p ≡ m → ((k : ℕ) → k < m → get_or p k 0 ≡ most_shared N (decoded (record_at W plan k)))
      → p ≡ grating_report N (plan_from W plan 0 m)
  report-each m p size each =
      ext_get_or 0 p (grating_report N (plan_from W plan 0 m)) (size ∙ sym (length-report 0 m))
      (λ k l. let h : k < m = omega (arith, size) in
      each k h ∙ ap (λ (i : ℕ). most_shared N (decoded (record_at W plan i))) (let z : k ≡ 0 + k = omega arith in z) ∙ sym (report-at 0 m k h))
