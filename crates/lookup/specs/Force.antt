-- The record in force at a slot, slots counted from 0 and by holds alone (§23.1). Definitions only.
use Rattle.std.specs.Prelude.{cond, List, [], ◌∷◌, ℕ, suc, ◌-◌, ◌<◌, ◌≤◌, length, take, ltb}
use Rattle.switch.specs.Plan.{Record, total}

-- the number of the record in force at slot t; the number of records where all are over by then
unfoldable pub in_force : (plan : List Record) (t : ℕ) → ℕ
in_force [] t = 0
in_force (r ∷ p) t = cond (ltb t r.hold) 0 (suc (in_force p (t - r.hold)))

-- the same in plain statements: the records before k are over at slot t, and record k is not
pub record InForce (plan : List Record) (t k : ℕ) : Type 0 where
  pub inside : k < length plan
  pub begun : total (take k plan) ≤ t
  pub lasts : t < total (take (suc k) plan)
