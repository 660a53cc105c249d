-- Inner: a place for records in a plan. Definitions only.
use Rattle.std.specs.Prelude.{◌≡◌, Bool, true, List, ℕ, ◌+◌, ◌*◌, ◌<◌, ◌≤◌, length, Some, None}
use Rattle.std.specs.declared.option.Option.{Option}
use Rattle.switch.specs.Plan.{Record}
use Rattle.rules.specs.Exact.{exact_plan}

-- what a plan has, where it does not fit the room
abbrev pub Exceeds : ℕ → ℕ → (Option ℕ) → Type 0
Exceeds room need (Some k) = (room < need) × (k ≡ need)
Exceeds room need None = need ≤ room

-- room for the records of p in a plan, W outputs each, from `at` on; and T fits a hold when it is u times as long
pub record Place (N T u W at : ℕ) (p : List Record) (plan : List ℕ) : Type 0 where
  pub wide : N ≤ W
  pub narrow : W ≤ 128
  pub fits : T * u ≤ 65535
  pub room : at + length p * (W + 4) ≤ length plan

-- what the exact plan of the cells w needs where it is to be written, and what every count needs
pub record Goes (N T : ℕ) (writes : Bool) (W u at : ℕ) (w plan : List ℕ) : Type 0 where
  pub narrow : W ≤ 128
  pub fits : T * u ≤ 65535
  pub wide : writes ≡ true → N ≤ W
  pub room : writes ≡ true → at + length (exact_plan W N w) * (W + 4) ≤ length plan
