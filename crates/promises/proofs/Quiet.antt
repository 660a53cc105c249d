-- Within a limit of at least 1 the call is a planner whose plan is the rule's, and the rule's laws are its worth; a limit of 0 leaves no case but a refusal.
use Rattle.std.specs.Prelude.{Err, Ok}
use mathlib.Core.Path.{◌≡◌, refl, sym, ap, ◌∙◌, subst}
use mathlib.Core.Bool.{Bool}
use mathlib.Core.List.{List}
use Prim.Native.Nat.{ℕ, ◌*◌, ◌<◌, ◌≤◌}
use native.Mathlib.Decide.{dec_lt}
use native.Mathlib.Nat.{mul-le-mul}
use native.Mathlib.Omega.{arith}
use lib.ListN.{length, get_or, take}
use lib.Dec.{ltb}
use borrow.Author.Tests.{lt-ltb, le-ltb}
use Rattle.switch.specs.declared.Counts.{Counts}
use Rattle.switch.specs.Outcome.{Outcome}
use Rattle.switch.specs.declared.Refusal.{Refusal}
use Rattle.switch.specs.declared.Refusal.TheVariants.{Limit}
use Rattle.switch.specs.Answer.{code_of, counts_of, plan_counts, demand_counts}
use Rattle.switch.specs.Demand.{cell, longest}
use Rattle.switch.specs.Editions.{first_edition}
use Rattle.switch.specs.Empty.{empty_slots}
use Rattle.switch.specs.Plan.{total}
use Rattle.switch.specs.Result.{Result, refuses, unless}
use Rattle.switch.proofs.Answer.{code-done}
use Rattle.demand.specs.Checked.{Checked}
use Rattle.demand.specs.Check.{check_demand}
use Rattle.demand.proofs.Check.{fine-asked}
use Rattle.records.specs.Bytes.{bytes, laid}
use Rattle.planner.specs.Planned.{writes, planned, after_check}
use Rattle.planner.proofs.Planned.{planned-done}
use Rattle.quiet_rule.specs.Limit.{least_within}
use Rattle.quiet_rule.specs.Quiet.{quiet_plan}
use Rattle.quiet_rule.proofs.Hold.{pairs-le}
use Rattle.quiet_rule.proofs.Limit.{least-within}
use Rattle.quiet_rule.proofs.Quiet.{quiet-plan, quiet_keeps, quiet-grants, quiet-covers, quiet-records, quiet-total, quiet-empty, quiet-near, quiet-thrice}
use Rattle.quiet_rule.proofs.Report.{quiet-report}
use Rattle.quiet_rule.proofs.Sound.{quiet-sound}
use Rattle.quiet.specs.Planned.{decides, quiet_planned}
use Rattle.least.specs.Least.{answer_after, least_of}
use Rattle.promises.specs.Calls.{GratingReport, QuietPlan, LeastWithin}
use Rattle.promises.specs.Planner.{Fair, Taken, Plans}
use Rattle.promises.specs.Quiet.{Quiet, Unlimited, faulty, no-limit, PlansQuietly, TellsLeast}
use Rattle.promises.proofs.Fair.{fair-fine, fine-fair, faulty-fault}
use Rattle.promises.proofs.Outcomes.{never, same-refusal}
use Rattle.promises.proofs.Planner.{Ready, planned-promise, first-serves}
use Rattle.promises.proofs.Reported.{written-report}

-- ---- what the plan is worth

module _ (N : ℕ) (d : List ℕ) (L : ℕ) (limit : 0 < L) (few : N ≤ 64) where
  top : N ≤ 255
  top = omega (arith, few)

  quiet-worth : Quiet N L d (quiet_plan 64 N L d)
  quiet-worth = record {
    keeps = quiet_keeps 64 N few top L limit d;
    grants = quiet-grants 64 N few top L limit d;
    records = quiet-records 64 N few top L limit d;
    short = quiet-total 64 N few top L limit d;
    empty = quiet-empty 64 N few top L limit d;
    least = least-within N L (cell N d) (quiet_plan 64 N L d) (quiet_keeps 64 N few top L limit d) (quiet-covers 64 N few top L limit d) limit (quiet-plan 64 N few top L limit d);
    near = quiet-near 64 N few top L limit d;
    thrice = quiet-thrice 64 N few top L limit d;
  }

  -- a reader takes so many records
  few-records : length (quiet_plan 64 N L d) ≤ 8192
  few-records = omega (arith, quiet-records 64 N few top L limit d, pairs-le N (cell N d), mul-le-mul few few)

  quiet-ready : Ready first_edition N d (quiet_plan 64 N L d) (Quiet N L d)
  quiet-ready = record { few = few-records; sound = quiet-sound 64 N few top L limit d; covers = quiet-covers 64 N few top L limit d; worth = quiet-worth }

-- ---- the call

module _ (N : ℕ) (d : List ℕ) (L : ℕ) (buf : List ℕ) where
  -- what is answered, by whether the limit is above 0
  by-limit : Bool → Result
  by-limit b = after_check (check_demand 64 N d) (λ T. unless b (refuses Limit buf) (decides first_edition N d T (quiet_plan 64 N L d) buf)) buf

  as-planned : 0 < L → quiet_planned first_edition N d L buf ≡ planned first_edition N d (quiet_plan 64 N L d) buf
  unfolding quiet_planned planned by-limit
  as-planned l = ap by-limit (lt-ltb 0 L l)

  not-planned : L ≡ 0 → quiet_planned first_edition N d L buf ≡ after_check (check_demand 64 N d) (λ _. refuses Limit buf) buf
  unfolding quiet_planned by-limit
  not-planned z = ap by-limit (le-ltb 0 L (omega arith))

  module _ (r : Outcome) (after : List ℕ) (met : QuietPlan N d L buf r after) where
    plans : 0 < L → Plans first_edition 65535 N d (quiet_plan 64 N L d) (Quiet N L d) buf r after
    plans l =
        planned-promise first_edition first-serves N d (quiet_plan 64 N L d) (Quiet N L d) buf (λ f. quiet-ready N d L l f.few) r after
        (met.outcome ∙ ap (λ (x : Result). x.outcome) (as-planned l)) (met.bytes ∙ ap (λ (x : Result). x.bytes) (as-planned l))

    -- a limit of 0 is code 17, unless the demand has a fault
    refused : L ≡ 0 → (f : Refusal) × (r ≡ Err f) × Unlimited N d L f × (after ≡ buf)
    refused z = by (check_demand 64 N d) refl
      where
        is : (x : Checked) → check_demand 64 N d ≡ x → quiet_planned first_edition N d L buf ≡ after_check x (λ _. refuses Limit buf) buf
        is x e = not-planned z ∙ ap (λ (y : Checked). after_check y (λ _. refuses Limit buf) buf) e

        by : (x : Checked) → check_demand 64 N d ≡ x → (f : Refusal) × (r ≡ Err f) × Unlimited N d L f × (after ≡ buf)
        by (Err f) e = (
          f,
          met.outcome ∙ ap (λ (x : Result). x.outcome) (is (Err f) e),
          faulty (faulty-fault first_edition N d f (sym e)),
          met.bytes ∙ ap (λ (x : Result). x.bytes) (is (Err f) e),
        )
        by (Ok T) e = (
          Limit,
          met.outcome ∙ ap (λ (x : Result). x.outcome) (is (Ok T) e),
          no-limit (fine-fair first_edition N d T 65535 (sym e) (fine-asked 64 N T d e).small) z,
          met.bytes ∙ ap (λ (x : Result). x.bytes) (is (Ok T) e),
        )

    -- where it is written, the report is the plan's
    module _ (l : 0 < L) (t : Taken first_edition 65535 N d (quiet_plan 64 N L d) buf) where
      written : quiet_planned first_edition N d L buf ≡ writes first_edition N (longest N (cell N d)) (empty_slots N (cell N d) (quiet_plan 64 N L d)) (quiet_plan 64 N L d) buf
      written = as-planned l ∙ planned-done first_edition N d (quiet_plan 64 N L d) buf (longest N (cell N d)) (sym (fair-fine first_edition N d (omega arith) t.fair)) t.room

      is : r ≡ Ok (demand_counts (length (quiet_plan 64 N L d)) (longest N (cell N d)) (total (quiet_plan 64 N L d)) (empty_slots N (cell N d) (quiet_plan 64 N L d)))
      is = met.outcome ∙ ap (λ (x : Result). x.outcome) written ∙ (unfold writes in refl)

      lays : after ≡ laid buf 0 (bytes 0 N (quiet_plan 64 N L d))
      lays = met.bytes ∙ ap (λ (x : Result). x.bytes) written ∙ (unfold writes in refl)

      says : (report : List ℕ) → length (quiet_plan 64 N L d) ≤ length report → (o : Outcome) (said : List ℕ)
          → GratingReport N (take (length (quiet_plan 64 N L d) * 68) after) report o said → (k : ℕ) → k < length (quiet_plan 64 N L d) → get_or said k 0 ≤ L
      says report fits o said e k to =
          let few : N ≤ 64 = t.fair.few in
          omega (
            arith,
            quiet-report 64 N few (omega (arith, few)) L l d k to,
            written-report N t.fair.some few (few-records N d L l few) (quiet-sound 64 N few (omega (arith, few)) L l d) buf after lays report fits o said e k to,
          )

      reported : (report : List ℕ) → (counts_of r).records ≤ length report → (o : Outcome) (said : List ℕ)
          → GratingReport N (take ((counts_of r).records * 68) after) report o said → (k : ℕ) → k < (counts_of r).records → get_or said k 0 ≤ L
      reported = subst (λ (x : Counts). (report : List ℕ) → x.records ≤ length report → (o : Outcome) (said : List ℕ)
          → GratingReport N (take (x.records * 68) after) report o said → (k : ℕ) → k < x.records → get_or said k 0 ≤ L) (sym (ap counts_of is)) says

    -- the quiet plan for the grating fabric
    pub quiet-promise : PlansQuietly N d L buf r after
    quiet-promise = record { plans = plans; reported = λ z. by z (dec_lt 0 L); refuses = refused }
      where
        by : code_of r ≡ 0 → Dec (0 < L) → (report : List ℕ) → (counts_of r).records ≤ length report → (o : Outcome) (said : List ℕ)
            → GratingReport N (take ((counts_of r).records * 68) after) report o said → (k : ℕ) → k < (counts_of r).records → get_or said k 0 ≤ L
        by z (yes l) = reported l ((plans l).taken z)
        by z (no l) = let f = refused (omega arith) in never (sym f.1 ∙ code-done r z)

-- ---- the least total

module _ (N : ℕ) (d : List ℕ) (L : ℕ) (r : Outcome) (met : LeastWithin N d L r) where
  abbrev tells : Outcome
  tells = Ok (plan_counts 0 (longest N (cell N d)) (least_within N L (cell N d)))

  by-case : (x : Checked) → check_demand 64 N d ≡ x → (b : Bool) → ltb 0 L ≡ b
      → r ≡ answer_after x (λ T. unless b (Err Limit) (Ok (plan_counts 0 T (least_within N L (cell N d)))))
  unfolding least_of
  by-case x e b q =
      met ∙ ap (λ (y : Checked). answer_after y (λ T. unless (ltb 0 L) (Err Limit) (Ok (plan_counts 0 T (least_within N L (cell N d)))))) e
      ∙ ap (λ (c : Bool). answer_after x (λ T. unless c (Err Limit) (Ok (plan_counts 0 T (least_within N L (cell N d)))))) q

  told : Fair first_edition 65535 N d → 0 < L → r ≡ tells
  told f l = by-case (Ok (longest N (cell N d))) (sym (fair-fine first_edition N d (omega arith) f)) _ (lt-ltb 0 L l)

  untold : (f : Refusal) → r ≡ Err f → Unlimited N d L f → TellsLeast N d L r
  untold f is why = record {
    taken = λ g l. never (sym is ∙ told g l);
    only_then = λ z. never (sym is ∙ code-done r z);
    least = λ z. never (sym is ∙ code-done r z);
    refuses = λ g q. subst (Unlimited N d L) (same-refusal (sym is ∙ q)) why;
  }

  pub least-promise : TellsLeast N d L r
  least-promise = by (check_demand 64 N d) refl (dec_lt 0 L)
    where
      by : (x : Checked) → check_demand 64 N d ≡ x → Dec (0 < L) → TellsLeast N d L r
      by (Err f) e l = untold f (by-case (Err f) e _ refl) (faulty (faulty-fault first_edition N d f (sym e)))
      by (Ok T) e (no l) =
          untold Limit (by-case (Ok T) e _ (le-ltb 0 L (omega arith))) (no-limit (fine-fair first_edition N d T 65535 (sym e) (fine-asked 64 N T d e).small) (omega arith))
      by (Ok T) e (yes l) =
          let fair : Fair first_edition 65535 N d = fine-fair first_edition N d T 65535 (sym e) (fine-asked 64 N T d e).small in
          let is : r ≡ tells = told fair l in record {
            taken = λ _ _. is;
            only_then = λ _. (fair, l);
            least = λ _ q plan keeps covers. subst (λ (c : Counts). c.total ≤ total q) (sym (ap counts_of is)) (least-within N L (cell N d) q keeps covers l plan);
            refuses = λ f q. never (sym q ∙ is);
          }
