-- A step gives the record at its place and goes on, up to the first that is damaged or the end, which it leaves no more.
use Rattle.std.specs.Prelude.{Err, Ok}
use mathlib.Core.Path.{◌≡◌, refl, sym, ap, ◌∙◌, subst}
use mathlib.Core.Bool.{Bool, true, false, true≢false}
use mathlib.Core.List.{List}
use mathlib.Core.Logic.{dite}
use Prim.Native.Nat.{ℕ, ◌+◌, ◌%◌, ◌<◌, ◌≤◌, min}
use native.Mathlib.Decide.{dec_lt, ℕ_discrete}
use native.Mathlib.Numerals.{add-one}
use native.Mathlib.Omega.{arith}
use lib.ListN.{length}
use denote.Ref.{Bor}
use Rattle.switch.specs.Outcome.{Outcome}
use Rattle.switch.specs.declared.Refusal.{Refusal}
use Rattle.switch.specs.declared.Refusal.TheVariants.{Ports, Malformed}
use Rattle.switch.specs.declared.Counts.{Counts}
use Rattle.switch.specs.Answer.{counts_of, plan_counts}
use Rattle.switch.proofs.Answer.{code-done}
use Rattle.switch.proofs.Check.{many-ports}
use Rattle.switch.proofs.Check as check
use Rattle.switch.specs.Plan.{total}
use Rattle.records.specs.Record.{WellFormed}
use Rattle.records.specs.Bytes.{record_at, whole, plan_of}
use Rattle.records.proofs.Meaning.{means, meant}
use Rattle.records.proofs.Part.{record-size, record-fits, whole-fits}
use Rattle.records.proofs.Sound.{fine}
use Rattle.switch.specs.declared.Edition.{Edition}
use Rattle.plans.specs.declared.Step.TheVariants as step
use Rattle.plans.specs.declared.Stepped.{Stepped}
use Rattle.switch.specs.Editions.{first_edition, Bounded}
use Rattle.plans.specs.Read.{opening, given, nothing, step_in, step_at, malformed, checking}
use Rattle.switch.proofs.Editions.{first-bounded}
use Rattle.plans.proofs.Read.{opening-ports, opening-torn, opening-many, opening-done, opened, opened-records}
use Rattle.plans.proofs.Read.{check-refused, check-opened, check-malformed}
use Rattle.plans.proofs.Read.{step_end, step-malformed, step-record, step-opened, step-refused}
use Rattle.plans.proofs.Plans.{passes, malformed-first, checked}
use Rattle.reader.specs.declared.Reader.{Reader}
use Rattle.reader.specs.declared.Opened.{Opened}
use Rattle.reader.specs.Reader.{starting, moved_to}
use Rattle.promises.specs.Calls.{OpenPlan, StepAt, OpenReader, ReaderStep}
use Rattle.promises.specs.Reading.{Openable, GoodPlan, FirstDamaged, Unread, no-ports, torn, many, damaged, Opens, StepGives, ReadStep, Steps, none, more}
use Rattle.promises.proofs.Outcomes.{never, same-refusal, not-zero}

-- ---- opening

module _ (E : Edition) (N : ℕ) (plan : List ℕ) where
  pub openable-opens : Openable E N plan → opening E N plan ≡ Ok (plan_counts (whole E.width plan) 0 0)
  openable-opens o = sym (opening-done E N plan o.some o.few o.even o.most)

  pub opens-openable : (c : Counts) → opening E N plan ≡ Ok c → Openable E N plan
  opens-openable c e = let o = opened E N plan c (sym e) in record { some = o.some; few = o.few; even = o.even; most = o.most }

  -- ---- records that are well formed, as a test and in plain statements

  module _ (bounds : Bounded E) (few : N ≤ E.ports) (k : ℕ) (l : k < whole E.width plan) where
    narrow : N ≤ E.width
    narrow = omega (arith, bounds.ports)

    size : length (record_at E.width plan k) ≡ E.width + 4
    size = record-size E.width plan k (record-fits E.width plan k (whole E.width plan) l (whole-fits E.width plan))

    pub fine-means : fine E.width E.byte N plan k ≡ true → WellFormed E.width E.byte N (record_at E.width plan k)
    fine-means e = means E.width E.byte N (record_at E.width plan k) size narrow (omega (arith, narrow, bounds.width)) e

    pub means-fine : WellFormed E.width E.byte N (record_at E.width plan k) → fine E.width E.byte N plan k ≡ true
    means-fine w = meant E.width E.byte N (record_at E.width plan k) size narrow (omega (arith, narrow, bounds.width)) w

  -- the first that the scan finds
  module _ (bounds : Bounded E) (few : N ≤ E.ports) where
    pub first-damaged : FirstDamaged E N plan (malformed E.width E.byte N plan (whole E.width plan) 0)
    first-damaged =
        let W = E.width in
        let f = malformed W E.byte N plan (whole W plan) 0 in
        let s = malformed-first W E.byte N plan (whole W plan) 0 in
        record {
          inside = omega (arith, s.to);
          before = λ k l. fine-means bounds few k (omega (arith, s.to)) (s.before k (omega arith) l);
          here = λ l w. true≢false (sym (means-fine bounds few f l w) ∙ s.here (omega arith));
        }

  -- ---- a whole plan

  module _ (bounds : Bounded E) where
    pub good-checks : GoodPlan E N plan → checking E N plan ≡ Ok (plan_counts (whole E.width plan) 0 (total (plan_of E.width plan)))
    good-checks g =
        sym (passes E N plan (sym (openable-opens g.opens)) (λ k l. means-fine bounds g.opens.few k l (g.each k l)))

    pub checks-good : (c : Counts) → checking E N plan ≡ Ok c → GoodPlan E N plan
    checks-good c e =
        let h = checked E N plan bounds c (sym e) in record {
          opens = record { some = h.some; few = h.few; even = h.even; most = h.most };
          each = λ k l. fine-means bounds h.few k l (h.formed k l);
        }

-- why a plan is refused: the first test that fails
module _ (E : Edition) (bounds : Bounded E) (N : ℕ) (plan : List ℕ) (f : Refusal) (e : checking E N plan ≡ Err f) where
  told : (g : Refusal) → Err g ≡ checking E N plan → Unread E N plan g → Unread E N plan f
  told g q = subst (Unread E N plan) (same-refusal (q ∙ e))

  abbrev fault : ℕ
  fault = malformed E.width E.byte N plan (whole E.width plan) 0

  by-records : Openable E N plan → Dec (fault < whole E.width plan) → Unread E N plan f
  by-records o (yes l) =
      told (Malformed fault) (check-malformed E N plan (whole E.width plan) fault refl l ∙ check-opened E N plan (sym (openable-opens E N plan o)))
      (damaged o fault l (first-damaged E N plan bounds o.few))
  by-records o (no l) =
      let all = first-damaged E N plan bounds o.few in
      never (sym e ∙ good-checks E N plan bounds (record { opens = o; each = λ k h. all.before k (omega (arith, l)) }))

  pub unread : Unread E N plan f
  unread =
      dite (dec_lt 0 N) (λ some. dite (dec_lt E.ports N)
      (λ l. told Ports (check-refused E N plan (opening-ports E N plan (many-ports _ _ l))) (no-ports (λ _ h. omega arith)))
      (λ g. let few : N ≤ E.ports = omega (arith, g) in dite (ℕ_discrete (length plan % (E.width + 4)) 0)
      (λ even. dite (dec_lt E.records (whole E.width plan))
      (λ l. told _ (check-refused E N plan (opening-many E N plan some few even l)) (many some few even l))
      (λ h. by-records (record { some = some; few = few; even = even; most = omega (arith, h) }) (dec_lt fault (whole E.width plan))))
      (λ t. told _ (check-refused E N plan (opening-torn E N plan some few t)) (torn some few t))))
      (λ z. told Ports (check-refused E N plan (opening-ports E N plan (check.no-ports _ _ (omega (arith, z))))) (no-ports (λ s _. z s)))

-- what opening answers
pub open-promise : (E : Edition) → Bounded E → (N : ℕ) (plan : List ℕ) (r : Outcome) → OpenPlan E N plan r → Opens E N plan r
open-promise E bounds N plan r met = record {
  taken = λ o. met ∙ openable-opens E N plan o;
  only_then = λ z. opens-openable E N plan (counts_of r) (sym met ∙ code-done r z);
  refuses = λ f e. unread E bounds N plan f (sym (check-refused E N plan (sym e ∙ met)));
  ends = λ n at. by (opening E N plan) refl (not-zero n) at;
}
  where
    by : (o : Outcome) → o ≡ opening E N plan → ((c : Counts) → r ≡ Ok c → ⊥) → (at : ℕ) → step_at E N plan at ≡ nothing E step.End at
    by (Ok c) e n at = absurd (n c (met ∙ sym e))
    by (Err x) e n at = sym (step-refused E N plan at e)

-- ---- step by step

module _ (E : Edition) (bounds : Bounded E) (N : ℕ) (plan : List ℕ) (c : Counts) (opens : opening E N plan ≡ Ok c) where
  abbrev m : ℕ
  m = whole E.width plan

  abbrev f : ℕ
  f = malformed E.width E.byte N plan m 0

  known : Openable E N plan
  known = opens-openable E N plan c opens

  scanned : FirstDamaged E N plan f
  scanned = first-damaged E N plan bounds known.few

  count : c.records ≡ m
  count = opened-records E N plan c (sym opens)

  -- one step
  pub step-promise : (at : ℕ) (s : Stepped E.width) → StepAt E N plan at s → StepGives E N plan at s
  step-promise at s met = record {
    gives = λ l w. met
        ∙ sym (step-record E c.records N plan at (omega (arith, count)) (means-fine E N plan bounds known.few at l w) ∙ there);
    damage = λ l w. met ∙ sym (step-malformed E c.records N plan at (omega (arith, count)) (not-fine l w (fine E.width E.byte N plan at) refl) ∙ there);
    end = λ l. met ∙ sym (step_end E c.records N plan at (omega (arith, count)) ∙ there);
  }
    where
      there : step_in E c.records N plan at ≡ step_at E N plan at
      there = step-opened E N plan at (sym opens)

      not-fine : at < m → (WellFormed E.width E.byte N (record_at E.width plan at) → ⊥) → (b : Bool) → fine E.width E.byte N plan at ≡ b → fine E.width E.byte N plan at ≡ false
      not-fine l w true e = absurd (w (fine-means E N plan bounds known.few at l e))
      not-fine l w false e = e

  -- the place of step k from the start, and what it gives there
  abbrev place : ℕ → ℕ
  place k = min k f

  here : (at : ℕ) → StepGives E N plan at (step_at E N plan at)
  here at = step-promise at (step_at E N plan at) refl

  at-record : (k : ℕ) → k < f → step_at E N plan k ≡ given (record_at E.width plan k) (k + 1)
  at-record k l = (here k).gives (omega (arith, scanned.inside)) (scanned.before k l)

  at-damage : f < m → step_at E N plan f ≡ nothing E (step.Malformed f) f
  at-damage l = (here f).damage l (scanned.here l)

  at-end : f ≡ m → step_at E N plan f ≡ nothing E step.End f
  at-end e = (here f).end (omega (arith, e))

  goes_on : (k : ℕ) → (step_at E N plan (place k)).next ≡ place (k + 1)
  goes_on k = by (dec_lt k f) (dec_lt f m)
    where
      from : (j : ℕ) → place k ≡ j → {s : Stepped E.width} → step_at E N plan j ≡ s → (step_at E N plan (place k)).next ≡ s.next
      from j e q = ap (λ (i : ℕ). (step_at E N plan i).next) e ∙ ap (λ (s : Stepped E.width). s.next) q

      by : Dec (k < f) → Dec (f < m) → (step_at E N plan (place k)).next ≡ place (k + 1)
      by (yes l) _ = from k (omega arith) (at-record k l) ∙ omega arith
      by (no g) (yes l) = from f (omega (arith, g)) (at-damage l) ∙ omega (arith, g)
      by (no g) (no h) = from f (omega (arith, g)) (at-end (omega (arith, h, scanned.inside))) ∙ omega (arith, g)

  read_step : (k : ℕ) (s : Stepped E.width) → s ≡ step_at E N plan (place k) → ReadStep E N plan k s
  read_step k s e = record {
    first = f;
    damaged = scanned;
    gives = λ l. e ∙ ap (step_at E N plan) (let q : place k ≡ k = omega arith in q) ∙ at-record k l;
    damage = λ l h. e ∙ ap (step_at E N plan) (let q : place k ≡ f = omega arith in q) ∙ at-damage h;
    end = λ l h. e ∙ ap (step_at E N plan) (let q : place k ≡ f = omega arith in q) ∙ at-end h;
  }

-- a reader that was opened, and step k of it
module _ (N : ℕ) (plan : Bor (List ℕ)) (o : Opened) (met : OpenReader N plan o) (c : Counts) (done : o.answer ≡ Ok c) where
  opens : opening first_edition N plan.now ≡ Ok c
  opens = sym met.0 ∙ done

  stands : {k : ℕ} {r : Reader} → Steps o.reader k r → r ≡ moved_to (starting N plan) (place first_edition first-bounded N plan.now c opens k)
  stands none = met.1 ∙ ap (moved_to (starting N plan)) (let e : 0 ≡ place first_edition first-bounded N plan.now c opens 0 = omega arith in e)
  stands (more {k} {r'} s t) =
      t.1 ∙ ap (λ (x : Stepped 64). moved_to r' x.next) t.0
      ∙ ap (λ (x : Reader). moved_to x (step_at first_edition x.n x.plan.now x.at).next) (stands s)
      ∙ ap (moved_to (starting N plan)) (goes_on first_edition first-bounded N plan.now c opens k ∙ ap (place first_edition first-bounded N plan.now c opens) (add-one k))

  pub reader-promise : {k : ℕ} {r r' : Reader} {s : Stepped 64} → Steps o.reader k r → ReaderStep r s r' → ReadStep first_edition N plan.now k s
  reader-promise {k} {s = s} before t = read_step first_edition first-bounded N plan.now c opens k s (t.0 ∙ ap (λ (x : Reader). step_at first_edition x.n x.plan.now x.at) (stands before))
