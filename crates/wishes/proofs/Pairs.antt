-- Just the pairs that the records passed name are marked: a mark goes to the cell of one pair, and a record names one pair.
use Prim.Native.Nat.{ℕ, zero, suc, ◌+◌, ◌*◌, ◌/◌, ◌%◌, ◌<◌, ◌≤◌}
use native.Mathlib.Nat.{le_of_suc-le-suc, eq-or-lt_of_le, le_trans, mul-le-mul, div-lt_iff_lt-mul, div-add-mod'}
use native.Mathlib.Numerals.{add-one}
use native.Mathlib.Decide.{ℕ_discrete, dec_lt}
use native.Mathlib.Omega.{arith}
use mathlib.Core.Path.{◌≡◌, refl, sym, ap, ◌∙◌}
use mathlib.Core.Bool.{Bool, true, false, ◌&&◌, ◌||◌, or-true, true≢false}
use mathlib.Core.List.{List}
use mathlib.Core.Logic.{inl, inr}
use lib.Arith.{digits_lt}
use lib.Dec.{eqb}
use lib.ListN.{length, get_or, set, replicate, length-set, length-replicate, get_or-replicate, get_or-eq_default}
use lib.Seq.{get_or-set_same, get_or-set_other}
use borrow.Author.Tests.{eqb-true, eqb-false, eq-eqb, ne_eqb}
use Rattle.sets.specs.Label.{digit, is_in, Marked}
use Rattle.sets.proofs.Digits.{none-digit}
use Rattle.switch.proofs.Demand.{index-inj}
use Rattle.wishes.specs.declared.WishRecord.{WishRecord}
use Rattle.wishes.specs.Record.{record_at, same_pair, names}
use Rattle.wishes.specs.Fault.{named, NamedBy, fault_of, fault_at}
use Rattle.wishes.specs.Seen.{bit_at, seen_pair, Seen, Empty, Marks}
use Rattle.wishes.proofs.Faults.{Inside, fault-agree, inside}

-- ---- marking

-- in a word after a mark: the number marked, and what was in it before
has-marked : (l j r b : ℕ) → Marked l j r → is_in r b ≡ (eqb j b || is_in l b)
has-marked l j r b m = go (eqb j b) (is_in l b) refl refl
  where
    go : (e h : Bool) → eqb j b ≡ e → is_in l b ≡ h → is_in r b ≡ (e || h)
    go true h p q = eq-eqb (digit r b) 1 (rw (eqb-true j b p) at m.put)
    go false true p q = eq-eqb (digit r b) 1 (m.more b (eqb-true (digit l b) 1 q))
    go false false p q = ne_eqb (digit r b) 1 (λ i. elim (m.only b i) [
      | inl x ↦ eqb-false (digit l b) 1 q x
      | inr x ↦ eqb-false j b p (sym x)
    ])

-- the word of a place of which there is room
pub word-inside : (N i j size : ℕ) → i < N → j < N → N * N ≤ 64 * size → (i * N + j) / 64 < size
word-inside N i j size li lj room = (div-lt_iff_lt-mul {k = 64} (omega arith)).1 (omega (arith, digits_lt li lj))

-- a mark in the word of a place is that place's alone
pub marks-of : (at : ℕ) (marks : List ℕ) (r : ℕ) → at / 64 < length marks → Marked (get_or marks (at / 64) 0) (at % 64) r → Marks at marks (set marks (at / 64) r)
marks-of at marks r l m = record { size = length-set marks (at / 64) r; bits = λ p. bit p (ℕ_discrete (at / 64) (p / 64)) }
  where
    bit : (p : ℕ) → Dec (at / 64 ≡ p / 64) → bit_at (set marks (at / 64) r) p ≡ (eqb at p || bit_at marks p)
    bit p (no z) = unfold bit_at in
        rw (ne_eqb at p (λ e. z (ap (λ (x : ℕ). x / 64) e)), get_or-set_other marks (at / 64) (p / 64) r 0 (λ e. z (sym e)))
    bit p (yes z) = unfold bit_at in
        rw (← z, get_or-set_same marks (at / 64) r 0 l) (has-marked _ (at % 64) r (p % 64) m ∙ ap (λ (x : Bool). x || is_in (get_or marks (at / 64) 0) (p % 64)) (go (eqb at p) refl))
      where
        go : (e : Bool) → eqb at p ≡ e → eqb (at % 64) (p % 64) ≡ e
        go true q = eq-eqb _ _ (ap (λ (x : ℕ). x % 64) (eqb-true at p q))
        go false q = ne_eqb (at % 64) (p % 64) (λ e. eqb-false at p q (omega (arith, div-add-mod' at 64, div-add-mod' p 64)))

-- a place is its pair's alone
pair_place : (N i j a b : ℕ) → j < N → b < N → eqb (i * N + j) (a * N + b) ≡ same_pair i j a b
unfolding same_pair
pair_place N i j a b lj lb = go (eqb i a) (eqb j b) refl refl
  where
    go : (p q : Bool) → eqb i a ≡ p → eqb j b ≡ q → eqb (i * N + j) (a * N + b) ≡ (p && q)
    go true true p q = eq-eqb (i * N + j) (a * N + b) (rw (eqb-true i a p, eqb-true j b q))
    go true false p q = ne_eqb _ _ (λ e. eqb-false j b q (index-inj N i j a b lj lb e).1)
    go false q p r = ne_eqb _ _ (λ e. eqb-false i a p (index-inj N i j a b lj lb e).0)

-- ---- which pairs are marked

-- zeros are no mark
pub zeros-empty : (N words : ℕ) → N * N ≤ 64 * words → Empty N (replicate words 0)
zeros-empty N words l = record { room = rw length-replicate l; zero = λ k. go k (dec_lt k words) }
  where
    go : (k : ℕ) → Dec (k < words) → ◌≡◌ {A = ℕ} (get_or (replicate words 0) k 0) 0
    go k (yes a) = get_or-replicate words k 0 0 a
    go k (no b) = get_or-eq_default (replicate words 0) 0 (rw length-replicate (omega (arith, b)))

-- room for many ports is room for fewer
pub empty-less : (N most : ℕ) (marks : List ℕ) → N ≤ most → Empty most marks → Empty N marks
empty-less N most marks l e = record { room = le_trans (mul-le-mul l l) e.room; zero = e.zero }

-- nothing, to begin with
pub seen_none : (N : ℕ) (s marks : List ℕ) → Empty N marks → Seen N s 0 marks
unfolding named seen_pair bit_at
seen_none N s marks e i j a b = rw (e.zero ((i * N + j) / 64)) (ne_eqb (digit 0 ((i * N + j) % 64)) 1 (λ x. omega (arith, none-digit ((i * N + j) % 64))))

module _ (N : ℕ) (s : List ℕ) (k : ℕ) (r : WishRecord) (is : r ≡ record_at s k) (marks : List ℕ) (h : Seen N s k marks) where
  -- and record k's pair more with its mark
  pub seen_more : (marks' : List ℕ) → Inside N r → Marks (r.input.0 * N + r.output.0) marks marks' → Seen N s (k + 1) marks'
  unfolding named seen_pair
  seen_more marks' l m i j a b = m.bits (i * N + j) ∙ rw (h i j a b, pair_place N r.input.0 r.output.0 i j l.output b, is, add-one)

  -- so what is marked says of record k's pair whether it was named before
  pub judged : fault_of N k (seen_pair N marks r.input.0 r.output.0) r ≡ fault_at N s k
  unfolding fault_at
  judged = rw is (fault-agree N k _ _ (record_at s k) (λ w. let i = inside N (record_at s k) w in h _ _ i.input i.output))

-- ---- what it means that a pair is named

-- one of the first m records is one of the first m + 1
pub named-later : (s : List ℕ) (m i j : ℕ) → NamedBy s m i j → NamedBy s (suc m) i j
named-later s m i j n = record { which = n.which; earlier = omega (arith, n.earlier); input = n.input; output = n.output }

pub by-named : (s : List ℕ) (m i j : ℕ) → NamedBy s m i j → named s m i j ≡ true
unfolding named same_pair
by-named s zero i j n = absurd (omega (arith, n.earlier))
by-named s (suc m) i j n = elim (eq-or-lt_of_le (le_of_suc-le-suc n.earlier)) [
  | inl e ↦ rw (eq-eqb _ _ (sym (ap (λ x. (record_at s x).input.0) e) ∙ n.input), eq-eqb _ _ (sym (ap (λ x. (record_at s x).output.0) e) ∙ n.output))
  | inr g ↦ rw (by-named s m i j (record { which = n.which; earlier = g; input = n.input; output = n.output })) (or-true (names (record_at s m) i j))
]

pub named_by : (s : List ℕ) (m i j : ℕ) → named s m i j ≡ true → NamedBy s m i j
unfolding named same_pair
named_by s zero i j h = absurd (true≢false (sym h))
named_by s (suc m) i j h = go (eqb (record_at s m).input.0 i) (eqb (record_at s m).output.0 j) refl refl h (λ q. named-later s m i j (named_by s m i j q))
  where
    go : (a b : Bool) → eqb (record_at s m).input.0 i ≡ a → eqb (record_at s m).output.0 j ≡ b → (a && b || named s m i j) ≡ true → (named s m i j ≡ true → NamedBy s (suc m) i j) → NamedBy s (suc m) i j
    go true true p q h rest = record { which = m; earlier = omega arith; input = eqb-true _ _ p; output = eqb-true _ _ q }
    go true false p q h rest = rest h
    go false b p q h rest = rest h
