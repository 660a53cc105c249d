-- The laws of schedules: what a task added at the end must satisfy, and that a bound on each end is one on the latest.
use mathlib.Core.Path.{◌≡◌}
use mathlib.Core.List.{List, [], ◌∷◌, ◌++◌}
use Prim.Native.Nat.{ℕ, ◌+◌, ◌*◌, ◌≤◌, max}
use native.Mathlib.Omega.{arith}
use Rattle.counting.specs.Count.{δ}
use Rattle.shop_rule.specs.Task.{Task, Each, none, more, Ordered, nothing, before, times, latest}

pub each_map : {P Q : Task → Type 0} {p : List Task} → ((x : Task) → P x → Q x) → Each P p → Each Q p
each_map h none = none
each_map h (more a e) = more (h _ a) (each_map h e)

pub each_both : {P Q : Task → Type 0} {p : List Task} → Each P p → Each Q p → Each (λ x. P x × Q x) p
each_both none none = none
each_both (more a e) (more b f) = more (a, b) (each_both e f)

pub each_last : {P : Task → Type 0} {p : List Task} (y : Task) → Each P p → P y → Each P (p ++ (y ∷ []))
each_last y none b = more b none
each_last y (more a e) b = more a (each_last y e b)

pub ordered-map : {R S : Task → Task → Type 0} {p : List Task} → ((x y : Task) → R x y → S x y) → Ordered R p → Ordered S p
ordered-map h nothing = nothing
ordered-map h (before a o) = before (each_map (h _) a) (ordered-map h o)

pub ordered-last : {R : Task → Task → Type 0} {p : List Task} (y : Task) → Ordered R p → Each (λ x. R x y) p → Ordered R (p ++ (y ∷ []))
ordered-last y nothing none = before none nothing
ordered-last y (before a o) (more b e) = before (each_last y a b) (ordered-last y o e)

pub times-last : (p : List Task) (y : Task) (i j : ℕ) → times (p ++ (y ∷ [])) i j ≡ times p i j + δ y.input i * δ y.output j
unfolding times
times-last [] y i j = omega arith
times-last (x ∷ p) y i j = omega (arith, times-last p y i j)

pub latest-le : (c : ℕ) {p : List Task} → Each (λ x. x.end ≤ c) p → latest p ≤ c
unfolding latest
latest-le c none = omega arith
latest-le c (more a e) = omega (arith, latest-le c e)

pub latest-last : (p : List Task) (y : Task) → latest (p ++ (y ∷ [])) ≡ max (latest p) y.end
unfolding latest
latest-last [] y = omega arith
latest-last (x ∷ p) y = omega (arith, latest-last p y)
