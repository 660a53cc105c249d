-- What the length of a plan comes to. Definitions only.
use Rattle.std.specs.Prelude.{Err}
use Rattle.std.specs.Prelude.{◌≡◌, List, ℕ, suc, ◌+◌, ◌*◌, ◌≤◌, length}
use Rattle.counting.specs.Sum.{sum}
use Rattle.switch.specs.Outcome.{Outcome}
use Rattle.switch.specs.declared.Refusal.{Refusal}
use Rattle.switch.specs.declared.Counts.{Counts}
use Rattle.switch.specs.Answer.{code_of, counts_of}
use Rattle.switch.specs.Plan.{Record, total}
use Rattle.records.specs.Bytes.{plan_of}
use Rattle.switch.specs.declared.Edition.{Edition}
use Rattle.tally.specs.Sums.{setting_at}
use Rattle.promises.specs.Reading.{GoodPlan, Unread}

-- what each record of p is charged at a switching time of d: d for the first and where the mirrors move, and nothing where they stay
pub record Charges (d : ℕ) (p : List Record) (charge : ℕ → ℕ) : Type 0 where
  pub first : charge 0 ≡ d
  pub moved : (k : ℕ) → (setting_at p k ≡ setting_at p (suc k) → ⊥) → charge (suc k) ≡ d
  pub kept : (k : ℕ) → setting_at p k ≡ setting_at p (suc k) → charge (suc k) ≡ 0

-- what is counted of the plan p
pub record Lasts (d : ℕ) (p : List Record) (c : Counts) : Type 0 where
  pub records : c.records ≡ length p
  pub holds : c.total ≡ total p
  -- total hold, and what its records are charged
  pub charge : ℕ → ℕ
  pub charges : Charges d p charge
  pub lasts : c.length ≡ total p + sum (length p) charge
  -- no longer than total hold and d for every record; 0 when empty
  pub most : c.length ≤ c.total + d * c.records
  pub empty : c.records ≡ 0 → c.length ≡ 0

-- the answer r
pub record Measured (E : Edition) (N : ℕ) (plan : List ℕ) (d : ℕ) (r : Outcome) : Type 0 where
  -- code 0 exactly when nothing is wrong with the plan, and any other for its reason
  pub taken : GoodPlan E N plan → code_of r ≡ 0
  pub only_then : code_of r ≡ 0 → GoodPlan E N plan
  pub refuses : (f : Refusal) → r ≡ Err f → Unread E N plan f
  pub lasts : code_of r ≡ 0 → Lasts d (plan_of E.width plan) (counts_of r)
