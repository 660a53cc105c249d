-- The checker case by case: each refusal is given exactly where its test is the first that fails.
use Rattle.std.specs.Prelude.{⊤, Err, Ok}
use mathlib.Core.Path.{◌≡◌, sym, ap, ◌∙◌}
use mathlib.Core.List.{List}
use Prim.Native.Nat.{ℕ, ◌≤◌}
use native.Mathlib.Omega.{arith}
use lib.ListN.{length}
use Rattle.switch.specs.declared.Counts.{Counts}
use Rattle.switch.specs.declared.Refusal.{Refusal}
use Rattle.switch.specs.Demand.{cell}
use Rattle.switch.specs.Plan.{grant, total}
use Rattle.demand.specs.Checked.{Checked}
use Rattle.demand.specs.Check.{check_demand}
use Rattle.switch.specs.declared.Edition.{Edition}
use Rattle.plans.specs.Read.{opening, malformed}
use Rattle.records.specs.Bytes.{whole, plan_from, plan_of}
use Rattle.plans.specs.Reading.{reading, passing}
use Rattle.std.specs.declared.result.Result.{Result}
use Rattle.checker.specs.Check.{meeting, covering, after_demand, check_plan}
use Rattle.grants.specs.Grants.{Grants}
use Rattle.plans.proofs.Reading.{reading-whole, passed-none}
use Rattle.plans.proofs.Read.{opened-records}
use Rattle.plans.proofs.Plans.{length-plan}
use Rattle.checker.proofs.Cover.{meeting-cong, answers, covering-meeting}

-- codes 1, 2 and 3, and a demand that is fine
module _ (E : Edition) (N : ℕ) (d plan : List ℕ) where
  after : {o : Checked} → o ≡ check_demand E.ports N d → after_demand o (λ T. reading E N plan (covering T N d)) ≡ check_plan E N d plan
  unfolding check_plan
  after e = ap (λ (o : Checked). after_demand o (λ T. reading E N plan (covering T N d))) e

  pub check-faulty : {r : Refusal} → Err r ≡ check_demand E.ports N d → Err r ≡ check_plan E N d plan
  check-faulty e = after e

  pub check-fine : {T : ℕ} → Ok T ≡ check_demand E.ports N d → reading E N plan (covering T N d) ≡ check_plan E N d plan
  check-fine e = after e

-- the pass came to the plan's end, and g is what its records grant
module _ (E : Edition) (N T : ℕ) (d plan g : List ℕ) (c : Counts) (start : Ok c ≡ opening E N plan)
    (t : ℕ) (passed : ◌≡◌ {A = Result ⊤ Refusal} (Ok tt) (passing E N plan c.records (λ q. tt)))
    (held : t ≡ total (plan_from E.width plan 0 (malformed E.width E.byte N plan c.records 0)))
    (grants : Grants N (plan_from E.width plan 0 (malformed E.width E.byte N plan c.records 0)) g) where
  all : c.records ≡ whole E.width plan
  all = opened-records E N plan c start

  granted : malformed E.width E.byte N plan c.records 0 ≡ whole E.width plan
  granted = passed-none E N plan (λ q. tt) start passed ∙ all

  holds : t ≡ total (plan_of E.width plan)
  holds = held ∙ ap (λ (i : ℕ). total (plan_from E.width plan 0 i)) granted

  records : c.records ≡ length (plan_of E.width plan)
  records = all ∙ sym (length-plan E.width plan 0 (whole E.width plan))

  met : (x : Result ℕ ℕ) → x ≡ meeting N (cell N d) (cell N g) → x ≡ meeting N (cell N d) (grant (plan_of E.width plan))
  met x is =
      is ∙ meeting-cong N (cell N d) (cell N g) (grant (plan_of E.width plan))
      (λ i j li lj. grants.is i j li lj ∙ ap (λ (m : ℕ). grant (plan_from E.width plan 0 m) i j) granted)

  -- code 13, or what the plan counts and the slots that it grants beyond the demand
  pub check-met : (x : Result ℕ ℕ) → x ≡ meeting N (cell N d) (cell N g) → answers c.records T t x ≡ reading E N plan (covering T N d)
  check-met x is =
      (λ i. answers (records i) T (holds i) (met x is i)) ∙ covering-meeting T N d (plan_of E.width plan)
      ∙ reading-whole E N plan (covering T N d) (λ q. tt) start passed
