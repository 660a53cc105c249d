-- A plan that passes covers, and one that is refused with 13 does not: no refusal before 13 looks at a grant, and 13 is the last.
use Rattle.std.specs.Prelude.{Err, Ok}
use mathlib.Core.Path.{◌≡◌, refl, sym, ap, ◌∙◌, subst}
use mathlib.Core.Bool.{Bool, true, false, cond}
use mathlib.Core.List.{List}
use Prim.Native.Nat.{ℕ, ◌+◌, ◌*◌, ◌/◌, ◌%◌, ◌<◌, ◌≤◌}
use native.Mathlib.Decide.{dec_lt}
use native.Mathlib.Omega.{arith}
use lib.ListN.{length}
use lib.Dec.{ltb, leb, eqb}
use Rattle.switch.specs.declared.Counts.{Counts}
use Rattle.switch.specs.Outcome.{Outcome}
use Rattle.switch.specs.declared.Refusal.{Refusal}
use Rattle.switch.specs.declared.Refusal.TheVariants.{Ports, Cells, Line, Torn, Records, Malformed, Uncovered}
use Rattle.switch.specs.Answer.{refusal_code, plan_counts, demand_counts}
use Rattle.switch.specs.Check.{ports_fine}
use Rattle.switch.specs.Demand.{cell, longest}
use Rattle.switch.specs.Plan.{Record, Plan, grant, total, Covers}
use Rattle.switch.specs.Empty.{empty_slots}
use Rattle.switch.specs.Result.{by_outcome}
use Rattle.demand.specs.Checked.{Checked}
use Rattle.demand.specs.Lines.{line_over}
use Rattle.demand.specs.Check.{check_demand, Asked}
use Rattle.demand.proofs.Check.{fine-asked}
use Rattle.switch.specs.Sound.{Sound, Each}
use Rattle.records.specs.Bytes.{whole, plan_from, plan_of, bytes}
use Rattle.records.proofs.Round.{plan_of-bytes}
use Rattle.switch.proofs.Sound.{each-plan, each_width}
use Rattle.switch.specs.declared.Edition.{Edition}
use Rattle.switch.specs.Editions.{Bounded}
use Rattle.plans.specs.Read.{opening, malformed, checking_in, checking}
use Rattle.plans.proofs.Plans.{checked, bytes-pass}
use Rattle.switch.proofs.Demand.{place_in}
use Rattle.checker.specs.Check.{uncovered, Short, covering, check_plan}
use Rattle.plans.proofs.Reading.{after-checking}
use Rattle.plans.proofs.Plans.{length-plan}
use Rattle.checker.proofs.Cover.{uncovered-short, uncovered-none, covered-end, covering-short, covering-done}
use Rattle.checker.proofs.Check.{check-faulty, check-fine}

-- ---- which answers come before 13

abbrev EarlyFault : Checked → Type 0
EarlyFault (Ok T) = Unit {0}
EarlyFault (Err r) = refusal_code r < 13

abbrev Early : Outcome → Type 0
Early (Ok c) = Unit {0}
Early (Err r) = refusal_code r < 13

demand-early : (m N : ℕ) (d : List ℕ) → EarlyFault (check_demand m N d)
unfolding check_demand
demand-early m N d = by (ports_fine m N) (eqb (length d) (N * N)) (leb (longest N (cell N d)) 65535)
  where
    by : (p s l : Bool) → EarlyFault (cond p (cond s (cond l (Ok (longest N (cell N d))) (Err (Line (line_over N d)))) (Err (Cells (N * N)))) (Err Ports))
    by true true true = tt
    by true true false = omega arith
    by true false l = omega arith
    by false s l = omega arith

module _ (E : Edition) (N : ℕ) (plan : List ℕ) where
  opening-early : Early (opening E N plan)
  unfolding opening
  opening-early = by (ports_fine E.ports N) (eqb (length plan % (E.width + 4)) 0) (leb (whole E.width plan) E.records)
    where
      by : (p s l : Bool)
          → Early (cond p (cond s (cond l (Ok (plan_counts (whole E.width plan) 0 0)) (Err (Records E.records))) (Err (Torn (whole E.width plan)))) (Err Ports))
      by true true true = tt
      by true true false = omega arith
      by true false l = omega arith
      by false s l = omega arith

  checking-early : Early (checking E N plan)
  unfolding checking
  checking-early = by (opening E N plan) opening-early
    where
      in-records : (k : ℕ) (c : Counts) (b : Bool) → Early (cond b (Err (Malformed k)) (Ok c))
      in-records k c true = omega arith
      in-records k c false = tt

      by : (o : Outcome) → Early o → Early (by_outcome o Err (λ c. checking_in c.records E N plan))
      by (Ok c) e =
          let m = c.records in
          let k = malformed E.width E.byte N plan m 0 in
          unfold checking_in in in-records k (plan_counts m 0 (total (plan_from E.width plan 0 m))) (ltb k m)
      by (Err r) e = e

-- ---- which answers come last

abbrev pub Last : Outcome → Type 0
Last (Ok c) = Unit {0}
Last (Err r) = refusal_code r ≡ 13

-- a demand and a plan that are refused by nothing before 13
pub record Reached (E : Edition) (N : ℕ) (d bytes : List ℕ) (o : Outcome) : Type 0 where
  pub longest : ℕ
  pub counts : Counts
  pub demand : Ok longest ≡ check_demand E.ports N d
  pub plan : Ok counts ≡ checking E N bytes
  pub answer : o ≡ covering longest N d (plan_of E.width bytes)

module _ (E : Edition) (N : ℕ) (d plan : List ℕ) where
  pub reached : (o : Outcome) → Last o → o ≡ check_plan E N d plan → Reached E N d plan o
  reached o last e = by-demand (check_demand E.ports N d) refl
    where
      never : (r : Refusal) → refusal_code r < 13 → Err r ≡ check_plan E N d plan → Reached E N d plan o
      never r early q = let z : refusal_code r ≡ 13 = subst Last (e ∙ sym q) last in absurd (omega arith)

      by-plan : (T : ℕ) → Ok T ≡ check_demand E.ports N d → (x : Outcome) → x ≡ checking E N plan → Reached E N d plan o
      by-plan T f (Ok c) q =
          record { longest = T; counts = c; demand = f; plan = q; answer = e ∙ sym (check-fine E N d plan f) ∙ sym (after-checking E N plan (covering T N d) q) }
      by-plan T f (Err r) q =
          never r (subst Early (sym q) (checking-early E N plan)) (after-checking E N plan (covering T N d) q ∙ check-fine E N d plan f)

      by-demand : (x : Checked) → x ≡ check_demand E.ports N d → Reached E N d plan o
      by-demand (Ok T) q = by-plan T q (checking E N plan) refl
      by-demand (Err r) q = never r (subst EarlyFault (sym q) (demand-early E.ports N d)) (check-faulty E N d plan q)

-- ---- a plan that passes

-- its records are a plan that covers the demand, and the answer has its records, the demand's T, its total and its empty slots
pub record Passes (E : Edition) (N : ℕ) (d bytes : List ℕ) (c : Counts) : Type 0 where
  pub asked : Asked E.ports N (longest N (cell N d)) d
  pub sound : Each (Sound E.width N) (plan_of E.width bytes)
  pub plan : Plan N (plan_of E.width bytes)
  pub covers : Covers N (cell N d) (plan_of E.width bytes)
  pub counts : c ≡ demand_counts (whole E.width bytes) (longest N (cell N d)) (total (plan_of E.width bytes)) (empty_slots N (cell N d) (plan_of E.width bytes))

done-not-refused : {c : Counts} {r : Refusal} {A : Type 0} → Ok c ≡ Err r → A
done-not-refused e = let z : ◌≡◌ {A = ℕ} 0 1 = cc in absurd (let f : ⊥ = omega arith in f)

module _ (E : Edition) (N : ℕ) (d plan : List ℕ) where
  abbrev records : List Record
  records = plan_of E.width plan

  abbrev place : ℕ
  place = uncovered N (cell N d) (grant records)

  pub passes : Bounded E → (c : Counts) → Ok c ≡ check_plan E N d plan → Passes E N d plan c
  passes bounds c e = by (dec_lt place (N * N))
    where
      R : Reached E N d plan (Ok c)
      R = reached E N d plan (Ok c) tt e

      a : Asked E.ports N R.longest d
      a = fine-asked E.ports N R.longest d (sym R.demand)

      s : Each (Sound E.width N) records
      s = (checked E N plan bounds R.counts R.plan).sound

      same : {x y : Counts} → ◌≡◌ {A = Outcome} (Ok x) (Ok y) → x ≡ y
      same q = cc

      by : Dec (place < N * N) → Passes E N d plan c
      by (yes l) = done-not-refused (R.answer ∙ sym (covering-short R.longest N d records place refl l))
      by (no l) =
          let end : N * N ≤ place = omega (arith, l) in record {
            asked = subst (λ (t : ℕ). Asked E.ports N t d) a.longest-is a;
            sound = s;
            plan = each-plan E.width N s;
            covers = uncovered-none N (cell N d) (grant records) end;
            counts = same (R.answer ∙ sym (covering-done R.longest N d records place refl end))
                ∙ (λ i. demand_counts (length-plan E.width plan 0 (whole E.width plan) i) (a.longest-is i) (total records) (empty_slots N (cell N d) records));
          }

  -- ---- a plan that is refused with 13

  -- the place is the first cell, in cell order, that is granted less than asked
  pub refused-short : (k : ℕ) → Err (Uncovered k) ≡ check_plan E N d plan → Short N (cell N d) (grant records) k
  refused-short k e = by (dec_lt place (N * N))
    where
      R : Reached E N d plan (Err (Uncovered k))
      R = reached E N d plan (Err (Uncovered k)) refl e

      same : {x y : ℕ} → ◌≡◌ {A = Outcome} (Err (Uncovered x)) (Err (Uncovered y)) → x ≡ y
      same q = cc

      by : Dec (place < N * N) → Short N (cell N d) (grant records) k
      by (yes l) =
          subst (Short N (cell N d) (grant records)) (sym (same (R.answer ∙ sym (covering-short R.longest N d records place refl l)))) (uncovered-short N (cell N d) (grant records) l)
      by (no l) = done-not-refused (covering-done R.longest N d records place refl (omega (arith, l)) ∙ sym R.answer)

  -- so it does not cover
  pub refused-not-covers : (k : ℕ) → Err (Uncovered k) ≡ check_plan E N d plan → Covers N (cell N d) records → ⊥
  refused-not-covers k e h =
      let s = refused-short k e in
      let q = place_in N k s.inside in
      omega (arith, s.here, h (k / N) (k % N) q.0 q.1)

-- ---- every sound plan that covers its demand passes, with its own records, T, total and empty slots

pub sound-passes : (E : Edition) → Bounded E → (N T : ℕ) (d : List ℕ) → Ok T ≡ check_demand E.ports N d → {p : List Record}
    → length p ≤ E.records → Each (Sound E.width N) p → Covers N (cell N d) p → check_plan E N d (bytes E.byte N p) ≡ Ok (demand_counts (length p) T (total p) (empty_slots N (cell N d) p))
sound-passes E bounds N T d f {p} most s h =
    let a = fine-asked E.ports N T d (sym f) in
    sym (check-fine E N d (bytes E.byte N p) f)
    ∙ sym (after-checking E N (bytes E.byte N p) (covering T N d) (sym (bytes-pass E bounds N a.some a.few most s)))
    ∙ ap (covering T N d) (plan_of-bytes E.byte N E.width (each_width E.width N s))
    ∙ sym (covering-done T N d p (uncovered N (cell N d) (grant p)) refl (covered-end N (cell N d) (grant p) h))
