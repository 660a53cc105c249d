-- The checker's answer is the plan's own: each refusal is given where its test is the first that fails, and the last scans all pairs.
use Rattle.std.specs.Prelude.{Err, Ok}
use mathlib.Core.Path.{◌≡◌, refl, sym, ap, ◌∙◌, subst}
use mathlib.Core.List.{List}
use Prim.Native.Nat.{ℕ, ◌*◌, ◌<◌}
use native.Mathlib.Decide.{dec_lt}
use native.Mathlib.Omega.{arith}
use Rattle.switch.specs.Outcome.{Outcome}
use Rattle.switch.specs.declared.Counts.{Counts}
use Rattle.plans.specs.Read.{checking}
use Rattle.switch.specs.declared.Refusal.{Refusal}
use Rattle.switch.specs.declared.Refusal.TheVariants.{Uncovered}
use Rattle.switch.specs.Answer.{code_of, counts_of}
use Rattle.switch.specs.Demand.{cell, longest}
use Rattle.switch.specs.Plan.{grant}
use Rattle.switch.proofs.Answer.{code-done}
use Rattle.switch.proofs.Plan.{least-total}
use Rattle.demand.specs.Checked.{Checked}
use Rattle.demand.specs.Check.{check_demand, Asked}
use Rattle.demand.proofs.Check.{fine-asked}
use Rattle.records.specs.Bytes.{plan_of}
use Rattle.switch.specs.declared.Edition.{Edition}
use Rattle.switch.specs.Editions.{first_edition, Bounded}
use Rattle.switch.proofs.Editions.{first-bounded}
use Rattle.plans.specs.Reading.{reading}
use Rattle.checker.specs.Check.{uncovered, covering, check_plan}
use Rattle.plans.proofs.Reading.{after-checking}
use Rattle.checker.proofs.Cover.{covered-end, uncovered-short, covering-short, covering-done}
use Rattle.checker.proofs.Check.{check-faulty, check-fine}
use Rattle.checker.proofs.Passes.{Reached, reached, Passes, passes}
use Rattle.promises.specs.Calls.{CheckPlan}
use Rattle.promises.specs.Planner.{Fair}
use Rattle.promises.specs.Checked.{Good, Objects, faulty, unread, falls-short, Checks}
use Rattle.promises.proofs.Outcomes.{never}
use Rattle.promises.proofs.Reading.{good-checks, checks-good}
use Rattle.promises.proofs.Reading as reading
use Rattle.promises.proofs.Fair.{fair-fine, fine-fair, faulty-fault}

module _ (E : Edition) (bounds : Bounded E) (N : ℕ) (d plan : List ℕ) where
  good-passes : Good E N d plan → code_of (check_plan E N d plan) ≡ 0
  good-passes g =
      let f = fair-fine E N d (omega arith) g.fair in
      let c = good-checks E N plan bounds g.formed in
      let p = plan_of E.width plan in
      ap code_of (sym (check-fine E N d plan f)
      ∙ sym (after-checking E N plan (covering (longest N (cell N d)) N d) (sym c))
      ∙ sym (covering-done (longest N (cell N d)) N d p (uncovered N (cell N d) (grant p)) refl (covered-end N (cell N d) (grant p) g.covers)))

  -- a refusal is the first whose reason holds
  module _ (f : Refusal) (e : Err f ≡ check_plan E N d plan) where
    it-is : (g : Refusal) → Err g ≡ check_plan E N d plan → Objects E N d plan g → Objects E N d plan f
    it-is g q = subst (Objects E N d plan) (same (q ∙ sym e))
      where
        same : {a b : Refusal} → ◌≡◌ {A = Outcome} (Err a) (Err b) → a ≡ b
        same z = cc

    module _ (T : ℕ) (asks : Ok T ≡ check_demand E.ports N d) where
      asked : Asked E.ports N T d
      asked = fine-asked E.ports N T d (sym asks)

      fair : Fair E 65535 N d
      fair = fine-fair E N d T 65535 asks asked.small

      abbrev place : ℕ
      place = uncovered N (cell N d) (grant (plan_of E.width plan))

      refused-in : {g : Refusal} → Err g ≡ reading E N plan (covering T N d) → Err g ≡ check_plan E N d plan
      refused-in q = q ∙ check-fine E N d plan asks

      by-cover : (c : Counts) → Ok c ≡ checking E N plan → Dec (place < N * N) → Objects E N d plan f
      by-cover c q (yes s) =
          it-is (Uncovered place)
          (refused-in (covering-short T N d (plan_of E.width plan) place refl s ∙ after-checking E N plan (covering T N d) q))
          (falls-short fair (checks-good E N plan bounds c (sym q)) place (uncovered-short N (cell N d) (grant (plan_of E.width plan)) s))
      by-cover c q (no s) =
          never (e ∙ sym (check-fine E N d plan asks) ∙ sym (after-checking E N plan (covering T N d) q)
          ∙ sym (covering-done T N d (plan_of E.width plan) place refl (omega (arith, s))))

      by-plan : (o : Outcome) → o ≡ checking E N plan → Objects E N d plan f
      by-plan (Ok c) q = by-cover c q (dec_lt place (N * N))
      by-plan (Err g) q = it-is g (refused-in (after-checking E N plan (covering T N d) q)) (unread fair (reading.unread E bounds N plan g (sym q)))

    objects : Objects E N d plan f
    objects = by-demand (check_demand E.ports N d) refl
      where
        by-demand : (o : Checked) → o ≡ check_demand E.ports N d → Objects E N d plan f
        by-demand (Err g) q = it-is g (check-faulty E N d plan q) (faulty (faulty-fault E N d g q))
        by-demand (Ok T) q = by-plan T q (checking E N plan) refl

  pub check-promise : (r : Outcome) → r ≡ check_plan E N d plan → Checks E N d plan r
  check-promise r e = record {
    good = λ z. let R = way z in let P = passed z in record {
      fair = fine-fair E N d R.longest 65535 R.demand (fine-asked E.ports N R.longest d (sym R.demand)).small;
      formed = checks-good E N plan bounds R.counts (sym R.plan);
      covers = P.covers;
    };
    passes = λ g. ap code_of e ∙ good-passes g;
    counts = λ z. (passed z).counts;
    long = λ z. least-total N (cell N d) (plan_of E.width plan) (passed z).plan (passed z).covers;
    refuses = λ f q. objects f (sym q ∙ e);
  }
    where
      done : code_of r ≡ 0 → Ok (counts_of r) ≡ check_plan E N d plan
      done z = sym (code-done r z) ∙ e

      way : code_of r ≡ 0 → Reached E N d plan (Ok (counts_of r))
      way z = reached E N d plan (Ok (counts_of r)) tt (done z)

      passed : code_of r ≡ 0 → Passes E N d plan (counts_of r)
      passed z = passes E N d plan bounds (counts_of r) (done z)

-- any outcome that satisfies the contract of checker::check_plan
pub check-plan-promise : (N : ℕ) (d plan : List ℕ) (r : Outcome) → CheckPlan N d plan r → Checks first_edition N d plan r
check-plan-promise = check-promise first_edition first-bounded
