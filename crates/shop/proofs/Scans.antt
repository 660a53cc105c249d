-- Port by port: the inputs that are idle, one more at a time, and the next finish, which is the sooner of that before and one output's.
use mathlib.Core.Path.{◌≡◌, refl, subst}
use mathlib.Core.Logic.{◌⊎◌, inl, inr}
use mathlib.Core.List.{List}
use Prim.Native.Nat.{ℕ, ◌+◌, ◌≤◌, ◌<◌}
use native.Mathlib.Decide.{ℕ_discrete}
use native.Mathlib.Numerals.{add-one}
use native.Mathlib.Omega.{arith}
use lib.ListN.{get_or}
use Rattle.sets.specs.declared.Label.{Label}
use Rattle.sets.specs.Label.{In, Marked, Common, Lowest}
use Rattle.labels.specs.Ports.{input_found}
use Rattle.switch.specs.declared.InputPort.{InputPort}
use Rattle.std.specs.declared.option.Option.{Option}
use Rattle.std.specs.Prelude.{None, Some}
use Rattle.shop_rule.specs.Shop.{sooner, next}
use Rattle.shop.specs.Sets.{LowestCommon}
use Rattle.shop.specs.Kept.{Idle}

module _ (t : ℕ) (ins : List ℕ) where
  pub idle-none : (l : ℕ) → ((k : ℕ) → In l k → ⊥) → Idle 0 t ins l
  idle-none l h = record { small = λ i z. absurd (h i z); free = λ i z. absurd (h i z); all = λ i li _. absurd (omega arith) }

  module _ (i l : ℕ) (b : Idle i t ins l) where
    pub idle-mark : (m : ℕ) → get_or ins i 0 ≤ t → Marked l i m → Idle (i + 1) t ins m
    idle-mark m r k = record { small = λ a z. small a (k.only a z); free = λ a z. free a (k.only a z); all = λ a la z. all a la z (ℕ_discrete a i) }
      where
        small : (a : ℕ) → In l a ⊎ (a ≡ i) → a < i + 1
        small a (inl z) = omega (arith, b.small a z)
        small a (inr q) = omega arith

        free : (a : ℕ) → In l a ⊎ (a ≡ i) → get_or ins a 0 ≤ t
        free a (inl z) = b.free a z
        free a (inr q) = rw q r

        all : (a : ℕ) → a < i + 1 → get_or ins a 0 ≤ t → Dec (a ≡ i) → In m a
        all a la z (yes q) = rw q k.put
        all a la z (no q) = k.more a (b.all a (omega arith) z)

    pub idle-skip : t < get_or ins i 0 → Idle (i + 1) t ins l
    idle-skip r = record { small = λ a z. omega (arith, b.small a z); free = b.free; all = λ a la z. all a la z (ℕ_discrete a i) }
      where
        all : (a : ℕ) → a < i + 1 → get_or ins a 0 ≤ t → Dec (a ≡ i) → In l a
        all a la z (yes q) = absurd (let v : get_or ins i 0 ≤ t = rw q at z in let f : ⊥ = omega arith in f)
        all a la z (no q) = b.all a (omega arith) z

pub lowest-common : {s w : Label} {m b : ℕ} → s ≡ w → Common s.0 m b → (f : Option InputPort) → Lowest 64 b (input_found f) → LowestCommon w.0 m f
lowest-common {m} {b} e c f h = subst (λ (w : Label). LowestCommon w.0 m f) e (found c f h)
  where
    found : {l : ℕ} → Common l m b → (f : Option InputPort) → Lowest 64 b (input_found f) → LowestCommon l m f
    found c (Some i) o = record { small = o.small; left = c.left i.0 o.here; right = c.right i.0 o.here; past = λ a la p q. o.past a la (c.all a p q) }
    found c None h = λ k p q. h k (c.all k p q)

pub next-none : (t : ℕ) (f : ℕ → ℕ) → t ≡ next 0 t f
unfolding next
next-none t f = refl

pub next_more : (j t : ℕ) (f : ℕ → ℕ) → sooner t (next j t f) (f j) ≡ next (j + 1) t f
unfolding next
next_more j t f = rw (add-one j)
