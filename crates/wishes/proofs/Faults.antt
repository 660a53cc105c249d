-- The first fault is the first: a scan that stops at a faulty record has passed none, and one that reaches the end has found none.
use Rattle.std.specs.Prelude.{Err, Ok}
use Prim.Native.Nat.{ℕ, zero, suc, ◌+◌, ◌<◌, ◌≤◌}
use native.Mathlib.Nat.{le_of_suc-le-suc, eq-or-lt_of_le}
use native.Mathlib.Numerals.{add-one}
use native.Mathlib.Omega.{arith}
use mathlib.Core.Path.{◌≡◌, refl, sym, ap, ◌∙◌}
use mathlib.Core.Bool.{Bool, true, false, ◌&&◌, true≢false}
use mathlib.Core.List.{List}
use mathlib.Core.Logic.{inl, inr}
use lib.Dec.{ltb}
use borrow.Author.Tests.{ltb-true}
use Rattle.switch.specs.declared.Refusal.{Refusal}
use Rattle.switch.specs.declared.Refusal.TheVariants.{Malformed, Named}
use Rattle.wish.specs.declared.Unfit.TheVariants.{NotFinite, BelowZero, AboveMost}
use Rattle.wish.specs.Wish.{Wish, wish_bits, code_of}
use Rattle.wishes.specs.declared.WishRecord.{WishRecord}
use Rattle.wishes.specs.Fault.{Fault}
use Rattle.wishes.specs.Record.{well_formed, record_at}
use Rattle.wishes.specs.Fault.{named, wish_fault, fault_of, fault_at, or_else, first_fault, FirstAt}

-- ---- one record

module _ (N k : ℕ) (before : Bool) (r : WishRecord) where
  pub malformed : well_formed N r ≡ false → fault_of N k before r ≡ Err (Malformed k)
  unfolding fault_of
  malformed e = rw e

  pub twice : well_formed N r ≡ true → before ≡ true → fault_of N k before r ≡ Err (Named k)
  unfolding fault_of
  twice e b = rw (e, b)

  pub its-wish : well_formed N r ≡ true → before ≡ false → fault_of N k before r ≡ wish_fault k (wish_bits r.bits)
  unfolding fault_of
  its-wish e b = rw (e, b)

-- whether the pair was named before matters only for a record that is well formed
pub fault-agree : (N k : ℕ) (a b : Bool) (r : WishRecord) → (well_formed N r ≡ true → a ≡ b) → fault_of N k a r ≡ fault_of N k b r
unfolding fault_of
fault-agree N k a b r h = go (well_formed N r) refl
  where
    go : (w : Bool) → well_formed N r ≡ w → fault_of N k a r ≡ fault_of N k b r
    go true e = ap (λ x. fault_of N k x r) (h e)
    go false e = malformed N k a r e ∙ sym (malformed N k b r e)

-- a wish without a fault is not refused
no-wish-fault : (k : ℕ) (w : Wish) → wish_fault k w ≡ Ok tt → code_of w ≡ 0
no-wish-fault k (Ok n) h = refl
no-wish-fault k (Err NotFinite) h = absurd (let z : ◌≡◌ {A = ℕ} 0 1 = cc in omega arith)
no-wish-fault k (Err BelowZero) h = absurd (let z : ◌≡◌ {A = ℕ} 0 1 = cc in omega arith)
no-wish-fault k (Err AboveMost) h = absurd (let z : ◌≡◌ {A = ℕ} 0 1 = cc in omega arith)

-- what a record without a fault is
pub record Sound (N : ℕ) (before : Bool) (r : WishRecord) : Type 0 where
  pub formed : well_formed N r ≡ true
  pub fresh : before ≡ false
  pub given : code_of (wish_bits r.bits) ≡ 0

pub sound : (N k : ℕ) (before : Bool) (r : WishRecord) → fault_of N k before r ≡ Ok tt → Sound N before r
sound N k before r h = go (well_formed N r) before refl refl
  where
    go : (w b : Bool) → well_formed N r ≡ w → before ≡ b → Sound N before r
    go false b e f = absurd (let z : ◌≡◌ {A = ℕ} 0 1 = cc (malformed N k before r e) in omega arith)
    go true true e f = absurd (let z : ◌≡◌ {A = ℕ} 0 1 = cc (twice N k before r e f) in omega arith)
    go true false e f = record { formed = e; fresh = f; given = no-wish-fault k (wish_bits r.bits) (sym (its-wish N k before r e f) ∙ h) }

-- a well formed record's ports are below N
pub record Inside (N : ℕ) (r : WishRecord) : Type 0 where
  pub input : r.input.0 < N
  pub output : r.output.0 < N

pub inside : (N : ℕ) (r : WishRecord) → well_formed N r ≡ true → Inside N r
unfolding well_formed
inside N r h =
    let a = and_both (ltb r.input.0 N) _ h in
    let b = and_both (ltb r.output.0 N) _ a.1 in
    record { input = ltb-true r.input.0 N a.0; output = ltb-true r.output.0 N b.0 }
  where
    and_both : (a b : Bool) → (a && b) ≡ true → (a ≡ true) × (b ≡ true)
    and_both true b p = (refl, p)
    and_both false b p = absurd (true≢false (sym p))

-- ---- the scan

module _ (N : ℕ) (s : List ℕ) where
  -- there is none before the first record
  pub fault-none : first_fault N s 0 ≡ Ok tt
  unfolding first_fault
  fault-none = refl

  -- past records without a fault the first is the next record's, if it has one
  pub fault-next : (k : ℕ) → first_fault N s k ≡ Ok tt → first_fault N s (k + 1) ≡ fault_at N s k
  unfolding first_fault
  fault-next k e = rw (add-one, e)

  -- a fault found stays the first however far the list goes on
  pub fault-stays : (r : Refusal) (m d : ℕ) → m ≤ d → first_fault N s m ≡ Err r → first_fault N s d ≡ Err r
  unfolding first_fault
  fault-stays r m zero l e = let z : m ≡ 0 = omega arith in rw z at e
  fault-stays r m (suc d) l e = elim (eq-or-lt_of_le l) [
    | inl q ↦ rw q at e
    | inr g ↦ rw (fault-stays r m d (le_of_suc-le-suc g) e)
  ]

  -- where none is found, no record has one
  pub no-fault : (m k : ℕ) → first_fault N s m ≡ Ok tt → k < m → fault_at N s k ≡ Ok tt
  unfolding first_fault
  no-fault zero k e l = absurd (omega arith)
  no-fault (suc m) k e l = go (first_fault N s m) e (no-fault m k)
    where
      go : (f : Fault) → or_else f (fault_at N s m) ≡ Ok tt → (f ≡ Ok tt → k < m → fault_at N s k ≡ Ok tt) → fault_at N s k ≡ Ok tt
      go (Err r) q before = absurd (let z : ◌≡◌ {A = ℕ} 0 1 = cc in omega arith)
      go (Ok u) q before = elim (eq-or-lt_of_le (le_of_suc-le-suc l)) [
        | inl c ↦ rw c q
        | inr g ↦ before refl g
      ]

  pub all_sound : (m k : ℕ) → first_fault N s m ≡ Ok tt → k < m → Sound N (named s k (record_at s k).input.0 (record_at s k).output.0) (record_at s k)
  all_sound m k e l = unfold fault_at in sound N k _ (record_at s k) (no-fault m k e l)

  -- where one is found, it is the first record's that has any
  pub first-at : (m : ℕ) (r : Refusal) → first_fault N s m ≡ Err r → FirstAt N s m r
  unfolding first_fault
  first-at zero r e = absurd (let z : ◌≡◌ {A = ℕ} 0 1 = cc in omega arith)
  first-at (suc m) r e = go (first_fault N s m) refl e (first-at m r)
    where
      go : (f : Fault) → first_fault N s m ≡ f → or_else f (fault_at N s m) ≡ Err r → (first_fault N s m ≡ Err r → FirstAt N s m r) → FirstAt N s (suc m) r
      go (Ok u) p q earlier = record { which = m; inside = omega arith; here = q; before = λ k l. no-fault m k p l }
      go (Err t) p q earlier =
          let f = earlier (p ∙ q) in
          record { which = f.which; inside = omega (arith, f.inside); here = f.here; before = f.before }

  none_yet : (m : ℕ) → ((k : ℕ) → k < m → fault_at N s k ≡ Ok tt) → first_fault N s m ≡ Ok tt
  unfolding first_fault
  none_yet zero h = refl
  none_yet (suc m) h = rw (none_yet m (λ k l. h k (omega arith))) (h m (omega arith))

  -- and a fault that is such is the one found
  pub at_first : (m : ℕ) (r : Refusal) → FirstAt N s m r → first_fault N s m ≡ Err r
  at_first m r f = fault-stays r (f.which + 1) m (omega (arith, f.inside)) (fault-next f.which (none_yet f.which f.before) ∙ f.here)
