-- Opening, stepping and checking case by case; a step that gives no record leaves the place, so the next step is the same again.
use Rattle.std.specs.Prelude.{Err, Ok}
use mathlib.Core.Path.{◌≡◌, refl, sym, ap, subst, ◌∙◌}
use mathlib.Core.Bool.{Bool, true, false}
use mathlib.Core.Logic.{dite}
use mathlib.Core.List.{List}
use Prim.Native.Nat.{ℕ, suc, ◌+◌, ◌-◌, ◌%◌, ◌<◌, ◌≤◌}
use native.Mathlib.Decide.{ℕ_discrete, dec_lt}
use native.Mathlib.Numerals.{add-one}
use native.Mathlib.Omega.{arith}
use lib.ListN.{length}
use borrow.Author.Tests.{lt-ltb, le-ltb, le-leb, lt-leb, eq-eqb, ne_eqb}
use Rattle.switch.specs.declared.Counts.{Counts}
use Rattle.switch.specs.Outcome.{Outcome}
use Rattle.switch.specs.declared.Refusal.{Refusal}
use Rattle.switch.specs.declared.Refusal.TheVariants.{Ports, Torn, Records, Malformed}
use Rattle.switch.specs.Answer.{plan_counts}
use Rattle.switch.specs.Check.{ports_fine}
use Rattle.switch.specs.Result.{by_outcome}
use Rattle.switch.specs.Plan.{total}
use Rattle.switch.proofs.Check.{no-ports, many-ports, some-ports}
use Rattle.switch.specs.declared.Edition.{Edition}
use Rattle.plans.specs.declared.Step.TheVariants as step
use Rattle.plans.specs.declared.Stepped.{Stepped}
use Rattle.records.specs.Record.{well_formed}
use Rattle.records.specs.Bytes.{record_at, whole, plan_from}
use Rattle.plans.specs.Read.{opening, nothing, given, step_in, step_at, Took, malformed, checking_in, checking}

-- what is known of a plan that opening does not refuse
pub record Opened (E : Edition) (N : ℕ) (plan : List ℕ) (c : Counts) : Type 0 where
  pub some : 0 < N
  pub few : N ≤ E.ports
  pub even : length plan % (E.width + 4) ≡ 0
  pub most : whole E.width plan ≤ E.records
  pub counts : c ≡ plan_counts (whole E.width plan) 0 0

module _ (E : Edition) (N : ℕ) (plan : List ℕ) where
  pub opening-ports : ports_fine E.ports N ≡ false → Err Ports ≡ opening E N plan
  unfolding opening
  opening-ports e = rw e

  module _ (some : 0 < N) (few : N ≤ E.ports) where
    pub opening-torn : (length plan % (E.width + 4) ≡ 0 → ⊥) → Err (Torn (whole E.width plan)) ≡ opening E N plan
    unfolding opening
    opening-torn t = rw (some-ports _ _ some few, ne_eqb _ _ t)

    module _ (even : length plan % (E.width + 4) ≡ 0) where
      pub opening-many : E.records < whole E.width plan → Err (Records E.records) ≡ opening E N plan
      unfolding opening
      opening-many l = rw (some-ports _ _ some few, eq-eqb _ _ even, lt-leb _ _ l)

      pub opening-done : whole E.width plan ≤ E.records → Ok (plan_counts (whole E.width plan) 0 0) ≡ opening E N plan
      unfolding opening
      opening-done l = rw (some-ports _ _ some few, eq-eqb _ _ even, le-leb _ _ l)

  -- opening is not refused just where none of its tests fails
  pub opened : (c : Counts) → Ok c ≡ opening E N plan → Opened E N plan c
  opened c d =
      dite (dec_lt 0 N) (λ some. dite (dec_lt E.ports N)
      (λ l. refused (opening-ports (many-ports _ _ l)))
      (λ f. let few : N ≤ E.ports = omega (arith, f) in dite (ℕ_discrete (length plan % (E.width + 4)) 0)
      (λ even. dite (dec_lt E.records (whole E.width plan))
      (λ l. refused (opening-many some few even l))
      (λ g. let most : whole E.width plan ≤ E.records = omega (arith, g) in
      record { some = some; few = few; even = even; most = most; counts = same (d ∙ sym (opening-done some few even most)) }))
      (λ t. refused (opening-torn some few t))))
      (λ z. refused (opening-ports (no-ports _ _ (omega (arith, z)))))
    where
      same : {a b : Counts} → ◌≡◌ {A = Outcome} (Ok a) (Ok b) → a ≡ b
      same e = cc

      refused : {r : Refusal} {A : Type 0} → Err r ≡ opening E N plan → A
      refused {r} e = let q : Ok c ≡ Err r = d ∙ sym e in let z : ◌≡◌ {A = ℕ} 0 1 = cc in absurd (let f : ⊥ = omega arith in f)

  pub opened-records : (c : Counts) → Ok c ≡ opening E N plan → c.records ≡ whole E.width plan
  opened-records c d = ap (λ (x : Counts). x.records) (opened c d).counts

module _ (E : Edition) (m N : ℕ) (plan : List ℕ) (at : ℕ) where
  -- is the record at the place well formed?
  abbrev here : Bool
  here = well_formed E.width E.byte N (record_at E.width plan at)

  pub step_end : m ≤ at → nothing E step.End at ≡ step_in E m N plan at
  unfolding step_in
  step_end l = rw (le-ltb _ _ l)

  module _ (l : at < m) where
    pub step-malformed : here ≡ false → nothing E (step.Malformed at) at ≡ step_in E m N plan at
    unfolding step_in
    step-malformed w = rw (lt-ltb _ _ l, w)

    pub step-record : here ≡ true → given (record_at E.width plan at) (at + 1) ≡ step_in E m N plan at
    unfolding step_in
    step-record w = rw (lt-ltb _ _ l, w)

  -- a step gives the record, or leaves the place
  stays-in : ((step_in E m N plan at).step ≡ step.Record → ⊥) → (step_in E m N plan at).next ≡ at
  stays-in none =
      dite (dec_lt at m)
      (λ l. by-record l here refl)
      (λ g. sym (ap (λ (s : Stepped E.width). s.next) (step_end (omega (arith, g)))))
    where
      by-record : at < m → (t : Bool) → here ≡ t → (step_in E m N plan at).next ≡ at
      by-record l true w = absurd (none (sym (ap (λ (s : Stepped E.width). s.step) (step-record l w))))
      by-record l false w = sym (ap (λ (s : Stepped E.width). s.next) (step-malformed l w))

module _ (E : Edition) (N : ℕ) (plan : List ℕ) (at : ℕ) where
  abbrev stepped : Outcome → Stepped E.width
  stepped o = by_outcome o (λ r. nothing E step.End at) (λ c. step_in E c.records N plan at)

  pub step-refused : {r : Refusal} → Err r ≡ opening E N plan → nothing E step.End at ≡ step_at E N plan at
  unfolding step_at
  step-refused e = ap stepped e

  pub step-opened : {c : Counts} → Ok c ≡ opening E N plan → step_in E c.records N plan at ≡ step_at E N plan at
  unfolding step_at
  step-opened e = ap stepped e

  -- a step that gives no record leaves the place
  pub stays : ((step_at E N plan at).step ≡ step.Record → ⊥) → (step_at E N plan at).next ≡ at
  unfolding step_at
  stays none = by (opening E N plan) none
    where
      by : (o : Outcome) → ((stepped o).step ≡ step.Record → ⊥) → (stepped o).next ≡ at
      by (Ok c) f = stays-in E c.records N plan at f
      by (Err r) f = refl

  -- at the end, and at code 11, a reader's later steps are the same (§5.6)
  pub sticky : ((step_at E N plan at).step ≡ step.Record → ⊥) → step_at E N plan (step_at E N plan at).next ≡ step_at E N plan at
  sticky none = ap (step_at E N plan) (stays none)

-- a refused reader gives the end at each of its steps (§5.7)
pub refused-ends : (E : Edition) (N : ℕ) (plan : List ℕ) (r : Refusal) → Err r ≡ opening E N plan → (at : ℕ) → step_at E N plan at ≡ nothing E step.End at
refused-ends E N plan r e at = sym (step-refused E N plan at e)

-- a step whose parts are told is one step, and the edition by another name gives the same
pub took : {E F : Edition} (N : ℕ) (plan : List ℕ) (at : ℕ) → E ≡ F → {s : Stepped F.width} → Took (step_at E N plan at) s → s ≡ step_at F N plan at
took {E} {F} N plan at e {s} t =
    let u : Took (step_at F N plan at) s = subst (λ (X : Edition). Took (step_at X N plan at) s) e t in
    λ i. record { step = u.step i; hold = u.hold i; outputs = u.outputs i; next = u.next i }

-- the scan for the first record that is not well formed
module _ (W e N : ℕ) (plan : List ℕ) where
  pub scan-stop : (m k : ℕ) → k < m → well_formed W e N (record_at W plan k) ≡ false → malformed W e N plan (m - k) k ≡ k
  unfolding malformed
  scan-stop m k l w = let s : m - k ≡ suc (m - suc k) = omega arith in rw (s, w)

  pub scan-more : (m k : ℕ) → k < m → well_formed W e N (record_at W plan k) ≡ true → malformed W e N plan (m - k) k ≡ malformed W e N plan (m - (k + 1)) (k + 1)
  unfolding malformed
  scan-more m k l w = let s : m - k ≡ suc (m - suc k) = omega arith in rw (add-one, s, w)

  pub scan-end : (m k : ℕ) → m ≤ k → malformed W e N plan (m - k) k ≡ k
  unfolding malformed
  scan-end m k l = let s : m - k ≡ 0 = omega arith in rw s

module _ (E : Edition) (N : ℕ) (plan : List ℕ) where
  abbrev read : Outcome → Outcome
  read o = by_outcome o Err (λ c. checking_in c.records E N plan)

  pub check-refused : {r : Refusal} → Err r ≡ opening E N plan → Err r ≡ checking E N plan
  unfolding checking
  check-refused e = ap read e

  pub check-opened : {c : Counts} → Ok c ≡ opening E N plan → checking_in c.records E N plan ≡ checking E N plan
  unfolding checking
  check-opened e = ap read e

  module _ (m k : ℕ) (e : k ≡ malformed E.width E.byte N plan m 0) where
    pub check-malformed : k < m → Err (Malformed k) ≡ checking_in m E N plan
    unfolding checking_in
    check-malformed l = rw (← e, lt-ltb _ _ l)

    pub check_done : (t : ℕ) → m ≤ k → t ≡ total (plan_from E.width plan 0 m) → Ok (plan_counts m 0 t) ≡ checking_in m E N plan
    unfolding checking_in
    check_done t l s = rw (← e, le-ltb _ _ l, ← s)
