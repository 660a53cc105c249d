-- Small plans, by computing them: several finishes at once, one task ending where the next starts, and a pair that waits for its output.
use mathlib.Core.Path.{◌≡◌, refl}
use mathlib.Core.List.{[], ◌∷◌}
use Prim.Native.Nat.{ℕ}
use Rattle.switch.specs.Demand.{cell}
use Rattle.rules.specs.Search.{put}
use Rattle.rules.specs.Quick.{lowest}
use Rattle.shop_rule.specs.Task.{Task}
use Rattle.shop_rule.specs.Shop.{ready, begin, take, turn, turns, sooner, next, moments, closed, shop_plan}

abbrev task : ℕ → ℕ → ℕ → ℕ → Task
task i j a b = record { input = i; output = j; start = a; end = b }

pub two-by-two : shop_plan 2 1 (1 ∷ 2 ∷ 3 ∷ 1 ∷ []) ≡ task 0 0 0 2 ∷ task 1 1 0 2 ∷ task 1 0 2 6 ∷ task 0 1 2 5 ∷ []
unfolding shop_plan moments closed turns turn take begin ready next sooner lowest put cell
two-by-two = refl

pub one-waits : shop_plan 2 0 (1 ∷ 0 ∷ 3 ∷ 0 ∷ []) ≡ task 0 0 0 1 ∷ task 1 0 1 4 ∷ []
unfolding shop_plan moments closed turns turn take begin ready next sooner lowest put cell
one-waits = refl

pub nothing-asked : shop_plan 2 9 (0 ∷ 0 ∷ 0 ∷ 0 ∷ []) ≡ []
unfolding shop_plan moments closed turns turn take begin ready next sooner lowest put cell
nothing-asked = refl
