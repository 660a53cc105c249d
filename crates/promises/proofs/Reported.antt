-- The report of a plan that a planner wrote is the report of the plan, since what was written reads back.
use Rattle.std.specs.Prelude.{Ok}
use mathlib.Core.Path.{◌≡◌, sym, ap, ◌∙◌}
use mathlib.Core.List.{List}
use Prim.Native.Nat.{ℕ, ◌*◌, ◌<◌, ◌≤◌}
use native.Mathlib.Omega.{arith}
use lib.ListN.{length, get_or, take, length-map}
use Rattle.switch.specs.Outcome.{Outcome}
use Rattle.switch.specs.Answer.{plan_counts}
use Rattle.switch.specs.Editions.{first_edition}
use Rattle.switch.specs.Plan.{Record, total}
use Rattle.switch.specs.Result.{Result}
use Rattle.switch.specs.Sound.{Sound, Each}
use Rattle.switch.proofs.Editions.{first-bounded}
use Rattle.switch.proofs.Sound.{each_width}
use Rattle.records.specs.Bytes.{bytes, laid, plan_of}
use Rattle.records.proofs.Round.{plan_of-bytes}
use Rattle.plans.specs.Read.{checking}
use Rattle.plans.proofs.Plans.{bytes-pass}
use Rattle.wavelengths.specs.Shared.{most_shared, grating_report}
use Rattle.wavelengths.specs.Report.{reported}
use Rattle.wavelengths.proofs.Report.{report-done}
use Rattle.wavelengths.proofs.Promise.{laid-at}
use Rattle.promises.specs.Calls.{GratingReport}
use Rattle.promises.proofs.Laid.{plan-front}

pub report-length : (N : ℕ) (p : List Record) → length (grating_report N p) ≡ length p
unfolding grating_report
report-length N p = length-map p (most_shared N)

module _ (N : ℕ) (some : 0 < N) (top : N ≤ 64) {p : List Record} (few : length p ≤ 8192) (sound : Each (Sound 64 N) p) (buf after : List ℕ)
    (lays : after ≡ laid buf 0 (bytes 0 N p)) where
  front : take (length p * 68) after ≡ bytes 0 N p
  front = ap (take (length p * 68)) lays ∙ plan-front 0 N 64 (each_width 64 N sound) buf

  pub written-report : (report : List ℕ) → length p ≤ length report → (o : Outcome) (said : List ℕ) → GratingReport N (take (length p * 68) after) report o said
      → (k : ℕ) → k < length p → get_or said k 0 ≡ get_or (grating_report N p) k 0
  written-report report fits o said e k to =
      ap (λ (l : List ℕ). get_or l k 0) e.bytes ∙ ap (λ (l : List ℕ). get_or (reported first_edition N l report).bytes k 0) front
      ∙ ap (λ (w : Result). get_or w.bytes k 0) (sym (report-done first_edition N (bytes 0 N p) report (sym passed) fits))
      ∙ laid-at report (grating_report N (plan_of 64 (bytes 0 N p))) k (omega (arith, ap length same, report-length N p))
      ∙ ap (λ (l : List ℕ). get_or l k 0) same
    where
      passed : checking first_edition N (bytes 0 N p) ≡ Ok (plan_counts (length p) 0 (total p))
      passed = bytes-pass first_edition first-bounded N some top few sound

      same : grating_report N (plan_of 64 (bytes 0 N p)) ≡ grating_report N p
      same = ap (grating_report N) (plan_of-bytes 0 N 64 (each_width 64 N sound))
