-- Each byte of a report is its record's number, which is the most inputs that share one wavelength; a rotation's is N.
use Rattle.std.specs.Prelude.{Err, Ok}
use mathlib.Core.Path.{◌≡◌, refl, sym, ap, ◌∙◌, subst}
use mathlib.Core.List.{List}
use Prim.Native.Nat.{ℕ, ◌<◌, ◌≤◌}
use native.Mathlib.Decide.{dec_lt}
use native.Mathlib.Omega.{arith}
use lib.ListN.{length, get_or}
use Rattle.switch.specs.Outcome.{Outcome}
use Rattle.switch.specs.declared.Refusal.{Refusal}
use Rattle.switch.specs.declared.Refusal.TheVariants.{Room}
use Rattle.switch.specs.declared.Counts.{Counts}
use Rattle.switch.specs.Answer.{code_of}
use Rattle.switch.proofs.Answer.{code-done}
use Rattle.records.specs.Record.{decoded}
use Rattle.records.specs.Bytes.{record_at, whole}
use Rattle.switch.specs.Result.{Result, refuses, Gives}
use Rattle.switch.specs.declared.Edition.{Edition}
use Rattle.switch.specs.Editions.{first_edition, Bounded}
use Rattle.plans.specs.Read.{checking}
use Rattle.switch.proofs.Editions.{first-bounded}
use Rattle.plans.proofs.Plans.{checked}
use Rattle.rules.specs.Exact.{tab}
use Rattle.rules.specs.Doubled.{rotate}
use Rattle.rules.proofs.Doubled.{held-output}
use Rattle.rules.proofs.Rotate.{rotate-in}
use Rattle.wavelengths.specs.Shared.{most_shared, MostShared}
use Rattle.wavelengths.specs.Report.{reported}
use Rattle.wavelengths.proofs.Shared.{rotation-shares}
use Rattle.wavelengths.proofs.Report.{report-refused, report-short, report-done}
use Rattle.wavelengths.proofs.Promise.{says, later-untouched, same_size}
use Rattle.promises.specs.Calls.{GratingReport}
use Rattle.promises.specs.Reading.{GoodPlan, Unwritten, unread, no_room}
use Rattle.promises.specs.Report.{Reported}
use Rattle.promises.proofs.Outcomes.{never, same-counts, same-refusal}
use Rattle.promises.proofs.Reading as reading
use Rattle.promises.proofs.Reading.{good-checks, checks-good}

module _ (E : Edition) (bounds : Bounded E) (N : ℕ) (plan buf : List ℕ) (r : Outcome) (after : List ℕ)
    (met : Gives (reported E N plan buf) r after) where
  refused : (x : Refusal) → refuses x buf ≡ reported E N plan buf → (GoodPlan E N plan → whole E.width plan ≤ length buf → ⊥)
      → Unwritten E N plan (length buf) (whole E.width plan) x → Reported E N plan buf r after
  refused x e bad why =
      let is : r ≡ Err x = met.outcome ∙ ap (λ (y : Result). y.outcome) (sym e) in
      let same : after ≡ buf = met.bytes ∙ ap (λ (y : Result). y.bytes) (sym e) in
      record {
        taken = λ g l. absurd (bad g l);
        only_then = λ z. never (sym is ∙ code-done r z);
        says = λ z. never (sym is ∙ code-done r z);
        later = λ z. never (sym is ∙ code-done r z);
        size = ap length same;
        refuses = λ f q. subst (Unwritten E N plan (length buf) (whole E.width plan)) (same-refusal (sym is ∙ q)) why;
        unchanged = λ _. same;
      }

  module _ (o : Counts) (fine : checking E N plan ≡ Ok o) where
    count : o.records ≡ whole E.width plan
    count = ap (λ (x : Counts). x.records) (checked E N plan bounds o (sym fine)).counts

    module _ (room : o.records ≤ length buf) where
      is : r ≡ Ok o
      is = met.outcome ∙ ap (λ (y : Result). y.outcome) (sym (report-done E N plan buf (sym fine) room))

      done : Reported E N plan buf r after
      done = record {
        taken = λ g l. is ∙ sym fine ∙ good-checks E N plan bounds g;
        only_then = λ z. (checks-good E N plan bounds o fine, omega (arith, count));
        says = λ z k l. subst (λ (b : List ℕ). MostShared N (decoded (record_at E.width plan k)) (get_or b k 0)) (sym met.bytes)
            (says E bounds N plan buf (sym fine) room k (omega (arith, ap (λ (x : Counts). x.records) (same-counts (sym is ∙ code-done r z)))));
        later = λ z k l. ap (λ (b : List ℕ). get_or b k 0) met.bytes
            ∙ later-untouched E bounds N plan buf (sym fine) room k (omega (arith, ap (λ (x : Counts). x.records) (same-counts (sym is ∙ code-done r z))));
        size = ap length met.bytes ∙ same_size E bounds N plan buf (sym fine) room;
        refuses = λ f q. never (sym q ∙ is);
        unchanged = λ n. absurd (n (ap code_of is));
      }

  pub reports : Reported E N plan buf r after
  reports = by (checking E N plan) refl
    where
      by : (o : Outcome) → checking E N plan ≡ o → Reported E N plan buf r after
      by (Err x) e = refused x (report-refused E N plan buf (sym e)) (λ g l. never (sym e ∙ good-checks E N plan bounds g))
          (unread (reading.unread E bounds N plan x e))
      by (Ok o) e = room (dec_lt (length buf) o.records)
        where
          room : Dec (length buf < o.records) → Reported E N plan buf r after
          room (yes l) = refused _ (report-short E N plan buf (sym e) l) (λ g h. omega (arith, count o e))
              (subst (λ (n : ℕ). Unwritten E N plan (length buf) (whole E.width plan) (Room n)) (sym (count o e))
              (no_room (checks-good E N plan bounds o e) (omega (arith, count o e))))
          room (no l) = done o e (omega (arith, l))

-- the report of a plan
pub report-promise : (N : ℕ) (plan buf : List ℕ) (r : Outcome) (after : List ℕ) → GratingReport N plan buf r after → Reported first_edition N plan buf r after
report-promise N plan buf r after met = reports first_edition first-bounded N plan buf r after met

-- a rotation's number is N
pub rotation-report : (W N h k : ℕ) → N ≤ W → k < N → most_shared N (record { hold = h; outputs = tab W 0 (rotate N k) }) ≡ N
rotation-report W N h k top l = rotation-shares N _ k l (λ i li. held-output W (rotate N) (λ _. h) N top h (rotate N k) i li ∙ rotate-in N k i li)
