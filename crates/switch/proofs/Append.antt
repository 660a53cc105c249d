-- Of two plans one after the other holds and grants add up, and both are plans, record by record.
use mathlib.Core.Path.{◌≡◌}
use mathlib.Core.List.{List, [], ◌∷◌, ◌++◌}
use Prim.Native.Nat.{ℕ, ◌+◌}
use native.Mathlib.Omega.{arith}
use Rattle.switch.specs.Plan.{Record, Plan, none, more, grant, total}

pub total-append : (p q : List Record) → total (p ++ q) ≡ total p + total q
unfolding total
total-append [] q = omega arith
total-append (r ∷ p) q = omega (arith, total-append p q)

pub grant-append : (p q : List Record) (i j : ℕ) → grant (p ++ q) i j ≡ grant p i j + grant q i j
unfolding grant
grant-append [] q i j = omega arith
grant-append (r ∷ p) q i j = omega (arith, grant-append p q i j)

pub plan-append : {N : ℕ} {p q : List Record} → Plan N p → Plan N q → Plan N (p ++ q)
plan-append none t = t
plan-append (more h x s) t = more h x (plan-append s t)
