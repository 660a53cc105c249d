-- Reading a whole plan: refusals 1, 9, 10 and 11, and else what is done with its records. Definitions only.
use Rattle.std.specs.Prelude.{Result, Ok, Err, cond, List, ℕ, ◌≤◌, ltb}
use Rattle.switch.specs.Outcome.{Outcome}
use Rattle.switch.specs.declared.Refusal.{Refusal}
use Rattle.switch.specs.declared.Refusal.TheVariants.{Malformed}
use Rattle.switch.specs.Plan.{Record}
use Rattle.switch.specs.Result.{by_outcome}
use Rattle.switch.specs.declared.Edition.{Edition}
use Rattle.records.specs.Bytes.{whole, plan_from, plan_of}
use Rattle.switch.specs.Editions.{Bounded}
use Rattle.plans.specs.Read.{malformed, checking}

-- refusals 1, 9, 10 and 11, and else what is done with the plan's records
unfoldable pub reading : (E : Edition) (N : ℕ) (plan : List ℕ) (go : List Record → Outcome) → Outcome
reading E N plan go = by_outcome (checking E N plan) Err (λ c. go (plan_of E.width plan))

-- inner: m records of a plan that opening does not refuse
pub record Readable (E : Edition) (N : ℕ) (plan : List ℕ) (m : ℕ) : Type 0 where
  pub bounded : Bounded E
  pub few : N ≤ E.ports
  pub inside : m ≤ whole E.width plan
  pub most : m ≤ 65536

-- inner: what a pass over the first m records of a plan answers: code 11 at the first that is not well formed, else what is told of all
unfoldable pub passing : {A : Type 0} (E : Edition) (N : ℕ) (plan : List ℕ) (m : ℕ) (told : List Record → A) → Result A Refusal
passing E N plan m told =
    cond (ltb (malformed E.width E.byte N plan m 0) m)
    (Err (Malformed (malformed E.width E.byte N plan m 0)))
    (Ok (told (plan_from E.width plan 0 m)))
