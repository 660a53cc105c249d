-- The joined plan grants and totals what the plan did, in no more records; where nothing is refused it is what the second buffer starts with.
use Rattle.std.specs.Prelude.{Err, Ok}
use mathlib.Core.Path.{◌≡◌, refl, sym, ap, ◌∙◌, subst}
use mathlib.Core.List.{List}
use Prim.Native.Nat.{ℕ, ◌+◌, ◌*◌, ◌<◌, ◌≤◌}
use native.Mathlib.Decide.{dec_lt}
use native.Mathlib.Omega.{arith}
use lib.ListN.{length, get_or, drop}
use Rattle.switch.specs.Outcome.{Outcome}
use Rattle.switch.specs.declared.Refusal.{Refusal}
use Rattle.switch.specs.declared.Counts.{Counts}
use Rattle.switch.specs.Answer.{code_of, counts_of, plan_counts}
use Rattle.switch.proofs.Answer.{code-done}
use Rattle.switch.specs.Plan.{Record, total}
use Rattle.switch.specs.Sound.{Each, OfWidth}
use Rattle.records.specs.Bytes.{bytes, laid, whole, plan_of}
use Rattle.switch.proofs.Sound.{each_width}
use Rattle.switch.specs.declared.Edition.{Edition}
use Rattle.switch.specs.Editions.{first_edition, Bounded}
use Rattle.plans.specs.Read.{checking}
use Rattle.switch.proofs.Editions.{first-bounded}
use Rattle.plans.proofs.Plans.{checked, length-plan}
use Rattle.switch.specs.Result.{Result, refuses, Gives}
use Rattle.planner.specs.Planned.{writes}
use Rattle.tally.proofs.Sums.{sums-summed}
use Rattle.joining.specs.Join.{join_plan, joining}
use Rattle.joining.proofs.Joined.{join-grant, join-total, join-sound}
use Rattle.joining.proofs.Answer.{joining-refused, joining-short, joining-done}
use Rattle.joining.proofs.Twice.{no_longer, twice}
use Rattle.promises.specs.Calls.{JoinPlan}
use Rattle.promises.specs.Reading.{GoodPlan, Unwritten, unread, no_room}
use Rattle.promises.specs.Joined.{part, JoinOf, Joined}
use Rattle.promises.proofs.Outcomes.{never, same-counts, same-refusal}
use Rattle.promises.proofs.Reading.{good-checks, checks-good}
use Rattle.promises.proofs.Reading as reading
use Rattle.promises.proofs.Laid.{plan-reads, plan-behind}

module _ (E : Edition) (bounds : Bounded E) (N : ℕ) (plan : List ℕ) (byte : (i : ℕ) → get_or plan i 0 < 256) (buf : List ℕ)
    (r : Outcome) (after : List ℕ) (met : Gives (joining E N plan buf) r after) where
  abbrev p : List Record
  p = plan_of E.width plan

  -- what a refusal leaves to show
  refused : (x : Refusal) → refuses x buf ≡ joining E N plan buf → (GoodPlan E N plan → length (join_plan p) ≤ whole E.width buf → ⊥)
      → Unwritten E N plan (whole E.width buf) (length (join_plan p)) x → Joined E N plan buf r after
  refused x e bad why =
      let is : r ≡ Err x = met.outcome ∙ ap (λ (y : Result). y.outcome) (sym e) in
      record {
        taken = λ g l. absurd (bad g l);
        only_then = λ z. never (sym is ∙ code-done r z);
        joins = λ z. never (sym is ∙ code-done r z);
        later = λ z. never (sym is ∙ code-done r z);
        twice = λ z. never (sym is ∙ code-done r z);
        refuses = λ f q. subst (Unwritten E N plan (whole E.width buf) (length (join_plan p))) (same-refusal (sym is ∙ q)) why;
        unchanged = λ _. met.bytes ∙ ap (λ (y : Result). y.bytes) (sym e);
      }

  module _ (o : Counts) (fine : checking E N plan ≡ Ok o) (room : length (join_plan p) ≤ whole E.width buf) where
    abbrev counts : Counts
    counts = plan_counts (length (join_plan p)) 0 (total (join_plan p))

    is : r ≡ Ok counts
    unfolding writes
    is = met.outcome ∙ ap (λ (y : Result). y.outcome) (sym (joining-done E N plan buf (sym fine) room))

    lays : after ≡ laid buf 0 (bytes E.byte N (join_plan p))
    unfolding writes
    lays = met.bytes ∙ ap (λ (y : Result). y.bytes) (sym (joining-done E N plan buf (sym fine) room))

    widths : Each (OfWidth E.width) (join_plan p)
    widths = each_width E.width N (join-sound E.width N (checked E N plan bounds o (sym fine)).sound)

    reads : plan_of E.width (part E counts after) ≡ join_plan p
    reads = ap (λ (b : List ℕ). plan_of E.width (part E counts b)) lays ∙ plan-reads E.byte N E.width widths buf

    join-of : JoinOf p (join_plan p)
    join-of = record {
      grants = join-grant p;
      holds = join-total p;
      no_more = omega (arith, no_longer E bounds N plan byte (sym fine), length-plan E.width plan 0 (whole E.width plan));
      summed = sums-summed p;
      cuts = unfold join_plan in refl;
    }

    told : code_of r ≡ 0 → (P : Counts → Type 0) → P counts → P (counts_of r)
    told z P h = subst P (same-counts (sym is ∙ code-done r z)) h

    done : Joined E N plan buf r after
    done = record {
      taken = λ g l. is ∙ ap (λ (t : ℕ). Ok (plan_counts (length (join_plan p)) 0 t)) (join-total p);
      only_then = λ z. (checks-good E N plan bounds o fine, room);
      joins = λ z. told z (λ (x : Counts). JoinOf p (plan_of E.width (part E x after))) (subst (JoinOf p) (sym reads) join-of);
      later = λ z. told z (λ (x : Counts). drop (x.records * (E.width + 4)) after ≡ drop (x.records * (E.width + 4)) buf)
          (ap (drop (length (join_plan p) * (E.width + 4))) lays ∙ plan-behind E.byte N E.width widths buf);
      twice = λ z next. ap (λ (b : List ℕ). joining E N (part E (counts_of r) b) next) met.bytes
          ∙ twice E bounds N plan byte buf (counts_of r) (sym (code-done r z) ∙ met.outcome) next;
      refuses = λ f q. never (sym q ∙ is);
      unchanged = λ n. absurd (n (ap code_of is));
    }

  pub joined : Joined E N plan buf r after
  joined = by (checking E N plan) refl (dec_lt (whole E.width buf) (length (join_plan p)))
    where
      by : (o : Outcome) → checking E N plan ≡ o → Dec (whole E.width buf < length (join_plan p)) → Joined E N plan buf r after
      by (Err x) e _ = refused x (joining-refused E N plan buf (sym e)) (λ g l. never (sym e ∙ good-checks E N plan bounds g))
          (unread (reading.unread E bounds N plan x e))
      by (Ok o) e (yes l) = refused _ (joining-short E N plan buf (sym e) l) (λ g h. omega arith)
          (no_room (checks-good E N plan bounds o e) l)
      by (Ok o) e (no l) = done o e (omega (arith, l))

-- joining
pub join-promise : (N : ℕ) (plan : List ℕ) → ((i : ℕ) → get_or plan i 0 < 256) → (buf : List ℕ) (r : Outcome) (after : List ℕ) → JoinPlan N plan buf r after
    → Joined first_edition N plan buf r after
join-promise N plan byte buf r after met = joined first_edition first-bounded N plan byte buf r after met
