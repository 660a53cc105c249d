-- Summing holds by setting keeps every grant and the total: a setting that is met again joins the pairs that it joined before.
use mathlib.Core.Path.{◌≡◌, refl, ap, ◌∙◌}
use mathlib.Core.List.{List, [], ◌∷◌}
use Prim.Native.Nat.{ℕ, ◌+◌, ◌*◌}
use native.Mathlib.Nat.{add-mul}
use native.Mathlib.Omega.{arith}
use lib.ListN.{get_or}
use Rattle.counting.specs.Count.{δ}
use Rattle.switch.specs.Plan.{Record, output, grant, total}
use Rattle.switch.specs.Sound.{Each, none, more}
use Rattle.tally.specs.Sums.{add_hold, sums_onto, sums}
use Rattle.tally.proofs.Same.{same?}
use Rattle.tally.proofs.Sums.{add-here, add-later}

same-output : (r s : Record) (i : ℕ) → r.outputs ≡ s.outputs → output r i ≡ output s i
unfolding output
same-output r s i e = ap (λ (o : List ℕ). get_or o i 255) e

grant-add : (q : List Record) (r : Record) (i j : ℕ) → grant (add_hold q r) i j ≡ grant q i j + r.hold * δ (output r i) j
unfolding grant add_hold
grant-add [] r i j = omega arith
grant-add (s ∷ q) r i j = by (same? s.outputs r.outputs) (grant-add q r i j)
  where
    by : Dec (s.outputs ≡ r.outputs) → grant (add_hold q r) i j ≡ grant q i j + r.hold * δ (output r i) j → grant (add_hold (s ∷ q) r) i j ≡ grant (s ∷ q) i j + r.hold * δ (output r i) j
    by (yes e) h =
        let grown : Record = record { hold = s.hold + r.hold; outputs = s.outputs } in
        ap (λ (t : List Record). grant t i j) (add-here s q r e)
        ∙ omega (arith, add-mul s.hold r.hold (δ (output s i) j), ap (λ (x : ℕ). r.hold * δ x j) (same-output s r i e), ap (λ (x : ℕ). (s.hold + r.hold) * δ x j) (same-output grown s i refl))
    by (no n) h = ap (λ (t : List Record). grant t i j) (add-later s q r n) ∙ omega (arith, h)

grant-onto : (q p : List Record) (i j : ℕ) → grant (sums_onto q p) i j ≡ grant q i j + grant p i j
unfolding grant sums_onto
grant-onto q [] i j = omega arith
grant-onto q (r ∷ p) i j = omega (arith, grant-onto (add_hold q r) p i j, grant-add q r i j)

pub grant-sums : (p : List Record) (i j : ℕ) → grant (sums p) i j ≡ grant p i j
unfolding grant
grant-sums p i j = omega (arith, grant-onto [] p i j)

total-add : (q : List Record) (r : Record) → total (add_hold q r) ≡ total q + r.hold
unfolding total add_hold
total-add [] r = omega arith
total-add (s ∷ q) r = by (same? s.outputs r.outputs) (total-add q r)
  where
    by : Dec (s.outputs ≡ r.outputs) → total (add_hold q r) ≡ total q + r.hold → total (add_hold (s ∷ q) r) ≡ total (s ∷ q) + r.hold
    by (yes e) h = ap total (add-here s q r e) ∙ omega arith
    by (no n) h = ap total (add-later s q r n) ∙ omega (arith, h)

total-onto : (q p : List Record) → total (sums_onto q p) ≡ total q + total p
unfolding total sums_onto
total-onto q [] = omega arith
total-onto q (r ∷ p) = omega (arith, total-onto (add_hold q r) p, total-add q r)

pub total-sums : (p : List Record) → total (sums p) ≡ total p
unfolding total
total-sums p = omega (arith, total-onto [] p)

-- what holds of each record, however long it is held, holds of each sum
module _ (P : Record → Type 0) (longer : (r : Record) (h : ℕ) → P r → P (record { hold = r.hold + h; outputs = r.outputs })) where
  each-add : {q : List Record} → Each P q → (r : Record) → P r → Each P (add_hold q r)
  unfolding add_hold
  each-add none r x = more x none
  each-add (more {r = s} {p = q} y t) r x = by (same? s.outputs r.outputs) (each-add t r x)
    where
      by : Dec (s.outputs ≡ r.outputs) → Each P (add_hold q r) → Each P (add_hold (s ∷ q) r)
      by (yes e) h = rw (add-here s q r e) (more (longer s r.hold y) t)
      by (no n) h = rw (add-later s q r n) (more y h)

  each-onto : {q p : List Record} → Each P q → Each P p → Each P (sums_onto q p)
  unfolding sums_onto
  each-onto a none = a
  each-onto {q = q} a (more {r = r} x t) = each-onto {q = add_hold q r} (each-add a r x) t

  pub each-sums : {p : List Record} → Each P p → Each P (sums p)
  each-sums t = each-onto none t
