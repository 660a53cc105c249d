-- What a lookup comes to: the one record in force at the slot, or why there is none. Definitions only.
use Rattle.std.specs.Prelude.{Err}
use Rattle.std.specs.Prelude.{◌≡◌, List, [], ℕ, ◌+◌, ◌-◌, ◌%◌, ◌<◌, ◌≤◌}
use Rattle.switch.specs.declared.About.{About}
use Rattle.switch.specs.declared.About.TheVariants as about
use Rattle.switch.specs.declared.Edition.{Edition}
use Rattle.switch.specs.declared.Refusal.{Refusal}
use Rattle.switch.specs.declared.Refusal.TheVariants.{Ports, NotInForce}
use Rattle.switch.specs.Answer.{code_of}
use Rattle.switch.specs.Plan.{total}
use Rattle.records.specs.Bytes.{record_at, whole, plan_of}
use Rattle.lookup.specs.declared.Found.{Found}
use Rattle.lookup.specs.Force.{InForce}
use Rattle.lookup.specs.Lookup.{part_found}
use Rattle.promises.specs.Reading.{GoodPlan, Unread}

-- where the standby plan stands at slot t: it starts at tonight's total, and repeats
abbrev pub standby_at : (E : Edition) (tonight standby : List ℕ) (t : ℕ) → ℕ
standby_at E tonight standby t = (t - total (plan_of E.width tonight)) % total (plan_of E.width standby)

-- the record in force at slot t, k of tonight's plan or else of the standby plan: where it stands, and its own bytes
pub data Stands (E : Edition) (tonight standby : List ℕ) (t : ℕ) : Found → List ℕ → Type 0 where
  in-tonight : (k : ℕ) → InForce (plan_of E.width tonight) t k → Stands E tonight standby t (part_found 1 k (E.width + 4)) (record_at E.width tonight k)
  in-standby : (k : ℕ) → total (plan_of E.width tonight) ≤ t → InForce (plan_of E.width standby) (standby_at E tonight standby t) k
      → Stands E tonight standby t (part_found 2 k (E.width + 4)) (record_at E.width standby k)

-- why there is none, and which plan that is about, each reason only where none before it holds
pub data Unfound (E : Edition) (N : ℕ) (tonight standby : List ℕ) (t : ℕ) : About → Refusal → Type 0 where
  no-ports : (0 < N → N ≤ E.ports → ⊥) → Unfound E N tonight standby t about.Nothing Ports
  in-tonight : {f : Refusal} → 0 < N → N ≤ E.ports → Unread E N tonight f → Unfound E N tonight standby t about.Tonight f
  -- also where the slot falls in tonight's plan
  in-standby : {f : Refusal} → GoodPlan E N tonight → Unread E N standby f → Unfound E N tonight standby t about.Standby f
  -- code 14
  nothing : GoodPlan E N tonight → GoodPlan E N standby → total (plan_of E.width tonight) ≤ t → whole E.width standby ≡ 0
      → Unfound E N tonight standby t about.Nothing NotInForce

-- what is answered, r, and the part that is given back
pub record LooksUp (E : Edition) (N : ℕ) (tonight standby : List ℕ) (t : ℕ) (r : Found) (part : List ℕ) : Type 0 where
  pub stands : code_of r.outcome ≡ 0 → Stands E tonight standby t r part
  pub refuses : (f : Refusal) → r.outcome ≡ Err f → Unfound E N tonight standby t r.about f × (part ≡ [])
