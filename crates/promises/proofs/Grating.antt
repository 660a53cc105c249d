-- The plan covers within both doubled bounds by the one law of doubled plans, since the anti-rotations join every pair; its second part spreads
-- the wavelengths; and what is written passes the checker and is reported so.
use Rattle.std.specs.Prelude.{Err, Ok}
use mathlib.Core.Path.{◌≡◌, refl, sym, ap, ap₂, ◌∙◌, subst}
use mathlib.Core.Bool.{cond}
use mathlib.Core.List.{List, [], ◌++◌, map, map-append}
use Prim.Native.Nat.{ℕ, zero, suc, ◌+◌, ◌*◌, ◌-◌, ◌≤◌, ◌<◌}
use native.Mathlib.Decide.{ℕ_discrete, dec_lt}
use native.Mathlib.Omega.{arith}
use native.Mathlib.Nat.{le_of_eq, not-suc-le-zero}
use lib.ListN.{length, get_or, take, drop, length-append}
use lib.Seq.{get_or-append-add}
use lib.Dec.{eqb}
use borrow.Author.Tests.{eq-eqb, ne_eqb}
use Rattle.counting.proofs.Most.{most-le}
use Rattle.switch.specs.Outcome.{Outcome}
use Rattle.switch.specs.declared.Refusal.{Refusal}
use Rattle.switch.specs.declared.Refusal.TheVariants.{Room}
use Rattle.switch.specs.declared.Counts.{Counts}
use Rattle.switch.specs.Answer.{code_of, counts_of, plan_counts, demand_counts}
use Rattle.switch.proofs.Answer.{code-done}
use Rattle.switch.specs.Empty.{empty_slots}
use Rattle.switch.specs.Demand.{cell, longest}
use Rattle.switch.specs.Plan.{Record, total}
use Rattle.demand.specs.Check.{check_demand, Asked}
use Rattle.demand.specs.Checked.{Checked}
use Rattle.demand.proofs.Check.{fine-asked}
use Rattle.rules.specs.Exact.{exact_plan}
use Rattle.rules.specs.Doubled.{unit, divide, stretch, opposite, turns, tight, doubled_by, Doubled}
use Rattle.rules.proofs.Opposite.{opposite-joins, opposite-idle}
use Rattle.rules.proofs.Tight.{doubled-tight}
use Rattle.switch.specs.Sound.{Sound, Each, none, more}
use Rattle.records.specs.Bytes.{bytes, laid, whole, plan_of}
use Rattle.switch.specs.Result.{Result, Gives}
use Rattle.switch.proofs.Sound.{each_width}
use Rattle.switch.specs.Editions.{first_edition}
use Rattle.switch.proofs.Editions.{first-bounded}
use Rattle.checker.specs.Check.{check_plan}
use Rattle.checker.proofs.Passes.{sound-passes}
use Rattle.rules.proofs.Sound.{doubled-by-sound}
use Rattle.wavelengths.specs.Shared.{sharing, most_shared, grating_report}
use Rattle.grating.specs.Grating.{grating_plan, first_part, second_part, grating_planned}
use Rattle.switch.proofs.Result.{gives_as}
use Rattle.grating.proofs.Answer.{short-answer, faulty-answer, fine-answer, done}
use Rattle.promises.specs.Spread.{allowed, Spread}
use Rattle.promises.proofs.Spread.{second-spread}
use Rattle.promises.specs.Calls.{CheckPlan, GratingReport, GratingDoubled}
use Rattle.promises.specs.Planner.{Taken, Why, faulty, no_room}
use Rattle.promises.proofs.Fair.{fair-fine, fine-fair, faulty-fault, not-fine}
use Rattle.promises.specs.Grating.{GratingGiven}
use Rattle.promises.proofs.Outcomes.{never, same-counts, same-refusal}
use Rattle.promises.proofs.Laid.{plan-front, plan-reads, plan-behind}
use Rattle.promises.proofs.Reported.{report-length, written-report}

-- ---- its parts

pub grating-parts : (W N : ℕ) (d : List ℕ) → grating_plan W N d ≡ first_part W N d ++ second_part W N d
unfolding grating_plan doubled_by first_part second_part
grating-parts W N d = go (ℕ_discrete T 0)
  where
    T : ℕ
    T = longest N (cell N d)

    first : List Record
    first = map (stretch (unit N T)) (exact_plan W N (divide (unit N T) d))

    second : List Record
    second = turns W (opposite N) (tight N (opposite N) d (unit N T)) N 0

    go : Dec (T ≡ 0) → cond (eqb T 0) [] (first ++ second) ≡ cond (eqb T 0) [] first ++ cond (eqb T 0) [] second
    go (yes e) = rw (eq-eqb T 0 e)
    go (no e) = rw (ne_eqb T 0 e)

-- the numbers of spread records
spread-number : (N : ℕ) (r : Record) → Spread N r → most_shared N r ≤ allowed N
unfolding most_shared
spread-number N r s = most-le N (allowed N) (sharing N r) (λ w _. s.uses w)

spread-report : (N : ℕ) {p : List Record} → Each (Spread N) p → (k : ℕ) → k < length p → get_or (grating_report N p) k 0 ≤ allowed N
unfolding grating_report
spread-report N none k l = absurd (not-suc-le-zero l)
spread-report N (more {r = r} s t) zero l = spread-number N r s
spread-report N (more s t) (suc k) l = spread-report N t k (omega arith)

report-append : (N : ℕ) (p q : List Record) → grating_report N (p ++ q) ≡ grating_report N p ++ grating_report N q
unfolding grating_report
report-append N p q = map-append (most_shared N) p q

module _ (W N : ℕ) (pos : 0 < N) (top : N ≤ W) (d : List ℕ) (cells : N * N ≤ length d) where
  -- at most 2N records, a total of at most 2T - 1, and it covers
  pub grating-doubled : Doubled N d (grating_plan W N d)
  unfolding grating_plan
  grating-doubled = doubled-tight W N pos top (opposite N) (opposite-joins N pos) d cells

  pub grating-sound : Each (Sound W N) (grating_plan W N d)
  unfolding grating_plan
  grating-sound = doubled-by-sound W N top pos (opposite N) (opposite-joins N pos) (opposite-idle N) (tight N (opposite N) d) d cells

  -- no record of the second part has a wavelength on two inputs where N is odd, or on three where N is even
  pub second-part-spread : Each (Spread N) (second_part W N d)
  unfolding second_part
  second-part-spread = go (ℕ_discrete T 0)
    where
      T : ℕ
      T = longest N (cell N d)

      H : ℕ → ℕ
      H = tight N (opposite N) d (unit N T)

      go : Dec (T ≡ 0) → Each (Spread N) (cond (eqb T 0) [] (turns W (opposite N) H N 0))
      go (yes e) = rw (eq-eqb T 0 e) none
      go (no e) = rw (ne_eqb T 0 e) (second-spread W N pos top H N 0)

  -- and so the report says of it, whatever it says of the first part
  pub plan-report : (k : ℕ) → length (first_part W N d) ≤ k → k < length (grating_plan W N d) → get_or (grating_report N (grating_plan W N d)) k 0 ≤ allowed N
  plan-report k from to = subst (λ (x : ℕ). x ≤ allowed N) (sym there) (spread-report N second-part-spread j inside)
    where
      a : ℕ
      a = length (first_part W N d)

      j : ℕ
      j = k - a

      inside : j < length (second_part W N d)
      inside = omega (arith, ap length (grating-parts W N d), length-append (first_part W N d) (second_part W N d))

      count : length (grating_report N (first_part W N d)) ≡ a
      count = report-length N (first_part W N d)

      there : get_or (grating_report N (grating_plan W N d)) k 0 ≡ get_or (grating_report N (second_part W N d)) j 0
      there =
          ap₂ (λ (p : List Record) (i : ℕ). get_or (grating_report N p) i 0) (grating-parts W N d)
          (let e : k ≡ length (grating_report N (first_part W N d)) + j = omega (arith, count) in e)
          ∙ ap (λ (s : List ℕ). get_or s (length (grating_report N (first_part W N d)) + j) 0) (report-append N (first_part W N d) (second_part W N d))
          ∙ get_or-append-add (grating_report N (first_part W N d)) (grating_report N (second_part W N d)) j 0

-- ---- the call

module _ (N : ℕ) (d buf : List ℕ) (r : Outcome) (after : List ℕ) (met : GratingDoubled N d buf r after) where
  abbrev plan : List Record
  plan = grating_plan 64 N d

  abbrev T : ℕ
  T = longest N (cell N d)

  refused : (x : Refusal) → Gives (grating_planned first_edition N d buf) (Err x) buf → (Taken first_edition 65535 N d plan buf → ⊥)
      → Why first_edition 65535 N d plan buf x → GratingGiven N d buf r after
  refused x e bad why =
      let is : r ≡ Err x = met.outcome ∙ sym e.outcome in
      record {
        taken = λ t. absurd (bad t);
        only_then = λ z. never (sym is ∙ code-done r z);
        reads-back = λ z. never (sym is ∙ code-done r z);
        worth = λ z. never (sym is ∙ code-done r z);
        later = λ z. never (sym is ∙ code-done r z);
        passes = λ z. never (sym is ∙ code-done r z);
        reported = λ z. never (sym is ∙ code-done r z);
        refuses = λ f q. subst (Why first_edition 65535 N d plan buf) (same-refusal (sym is ∙ q)) why;
        unchanged = λ _. met.bytes ∙ sym e.bytes;
      }

  module _ (asks : check_demand 64 N d ≡ Ok T) (room : length plan ≤ whole 64 buf) where
    asked : Asked 64 N T d
    asked = fine-asked 64 N T d asks

    enough : N * N ≤ length d
    enough = le_of_eq (sym asked.size)

    sound : Each (Sound 64 N) plan
    sound = grating-sound 64 N asked.some asked.few d enough

    worth : Doubled N d plan
    worth = grating-doubled 64 N asked.some asked.few d enough

    few : length plan ≤ 8192
    few = omega (arith, worth.few, asked.few)

    abbrev counts : Counts
    counts = plan_counts (length plan) 0 (total plan)

    is : r ≡ Ok counts
    is = met.outcome ∙ ap (λ (x : Result). x.outcome) (sym (done first_edition N plan buf room ∙ fine-answer first_edition N d buf T asks))

    lays : after ≡ laid buf 0 (bytes 0 N plan)
    lays = met.bytes ∙ ap (λ (x : Result). x.bytes) (sym (done first_edition N plan buf room ∙ fine-answer first_edition N d buf T asks))

    front : take (length plan * 68) after ≡ bytes 0 N plan
    front = ap (take (length plan * 68)) lays ∙ plan-front 0 N 64 (each_width 64 N sound) buf

    passes : (o : Outcome) → CheckPlan N d (take (length plan * 68) after) o
        → o ≡ Ok (demand_counts (length plan) T (total plan) (empty_slots N (cell N d) plan))
    passes o e = e ∙ ap (check_plan first_edition N d) front ∙ sound-passes first_edition first-bounded N T d (sym asks) few sound worth.covers

    -- what the report says of the second part
    reported-less : (report : List ℕ) → length plan ≤ length report → (o : Outcome) (said : List ℕ)
        → GratingReport N (take (length plan * 68) after) report o said
        → (k : ℕ) → length (first_part 64 N d) ≤ k → k < length plan → get_or said k 0 ≤ allowed N
    reported-less report fits o said e k from to = omega (
      arith,
      plan-report 64 N asked.some asked.few d enough k from to,
      written-report N asked.some asked.few few sound buf after lays report fits o said e k to,
    )

    given : GratingGiven N d buf r after
    given = record {
      taken = λ t. is;
      only_then = λ z. record { fair = fine-fair first_edition N d T 65535 (sym asks) asked.small; room = room };
      reads-back = λ z. told z (λ (x : Counts). plan_of 64 (take (x.records * 68) after) ≡ plan)
          (ap (λ (b : List ℕ). plan_of 64 (take (length plan * 68) b)) lays ∙ plan-reads 0 N 64 (each_width 64 N sound) buf);
      worth = λ z. record {
        doubled = worth;
        parts = grating-parts 64 N d;
        spread = second-part-spread 64 N asked.some asked.few d enough;
      };
      later = λ z. told z (λ (x : Counts). drop (x.records * 68) after ≡ drop (x.records * 68) buf)
          (ap (drop (length plan * 68)) lays ∙ plan-behind 0 N 64 (each_width 64 N sound) buf);
      passes = λ z. told z (λ (x : Counts). (o : Outcome) → CheckPlan N d (take (x.records * 68) after) o
          → o ≡ Ok (demand_counts x.records T x.total (empty_slots N (cell N d) plan))) passes;
      reported = λ z. told z (λ (x : Counts). (report : List ℕ) → x.records ≤ length report → (o : Outcome) (said : List ℕ)
          → GratingReport N (take (x.records * 68) after) report o said → (k : ℕ) → length (first_part 64 N d) ≤ k → k < x.records → get_or said k 0 ≤ allowed N)
          reported-less;
      refuses = λ f q. never (sym q ∙ is);
      unchanged = λ n. absurd (n (ap code_of is));
    }
      where
        told : code_of r ≡ 0 → (P : Counts → Type 0) → P counts → P (counts_of r)
        told z P h = subst P (same-counts (sym is ∙ code-done r z)) h

  -- the doubled plan for the grating fabric
  pub grating-promise : GratingGiven N d buf r after
  grating-promise = by (check_demand 64 N d) refl (dec_lt (whole 64 buf) (length plan))
    where
      by : (x : Checked) → check_demand 64 N d ≡ x → Dec (whole 64 buf < length plan) → GratingGiven N d buf r after
      by (Err x) e _ =
          refused x (faulty-answer first_edition N d buf x e) (λ t. not-fine first_edition N d (sym e ∙ sym (fair-fine first_edition N d (omega arith) t.fair)))
          (faulty (faulty-fault first_edition N d x (sym e)))
      by (Ok t) e (yes l) =
          let s = short-answer first_edition N plan buf (length plan) refl l in
          let f = fine-answer first_edition N d buf t e in
          refused (Room (length plan)) (gives_as (sym f) s)
          (λ q. omega (arith, q.room)) (no_room (fine-fair first_edition N d t 65535 (sym e) (fine-asked 64 N t d e).small) l)
      by (Ok t) e (no l) = given (e ∙ ap Ok (fine-asked 64 N t d e).longest-is) (omega (arith, l))
