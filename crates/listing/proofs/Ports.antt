-- The number of ports is above every port of a record, and one above some, by induction over the records.
use mathlib.Core.Path.{◌≡◌, refl, ap, ◌∙◌, subst}
use mathlib.Core.Logic.{◌⊎◌, inl, inr, ⊎_elim, dite}
use mathlib.Core.List.{List, []}
use Prim.Native.Nat.{ℕ, zero, suc, ◌+◌, ◌*◌, ◌<◌, ◌≤◌, max}
use native.Mathlib.Numerals.{add-one}
use native.Mathlib.Omega.{arith}
use native.Mathlib.Decide.{dec_lt, dec_le}
use lib.ListN.{get_or, drop}
use lib.Seq.{get_or-take, get_or-drop}
use Rattle.std.specs.Simd.{first_chunks}
use Rattle.wishes.specs.Record.{record_at}
use Rattle.listing.specs.Listing.{ports_in, PortsIn}

-- byte j of the k-th of q pieces of eight
pub piece-byte : (q k j : ℕ) (s : List ℕ) → k < q → j < 8 → get_or (get_or (first_chunks 8 q s) k []) j 0 ≡ get_or s (8 * k + j) 0
piece-byte zero k j s l m = absurd (omega arith)
piece-byte (suc q) zero j s l m = get_or-take 8 s j 0 m ∙ ap (λ (i : ℕ). get_or s i 0) (let e : j ≡ 8 * 0 + j = omega arith in e)
piece-byte (suc q) (suc k) j s l m =
    piece-byte q k j (drop 8 s) (omega arith) m ∙ get_or-drop 8 s (8 * k + j) 0 ∙ ap (λ (i : ℕ). get_or s i 0) (let e : 8 + (8 * k + j) ≡ 8 * suc k + j = omega arith in e)

-- one record more
pub ports-next : (s : List ℕ) (k i j : ℕ) → i ≡ get_or s (8 * k) 0 + 1 → j ≡ get_or s (8 * k + 1) 0 + 1 → max (max (ports_in s k) i) j ≡ ports_in s (k + 1)
unfolding ports_in record_at
ports-next s k i j a b = rw (add-one k, a, b)

pub ports-none : (s : List ℕ) → ports_in s 0 ≡ 0
unfolding ports_in
ports-none s = refl

-- what it means, of one record more
module _ (s : List ℕ) (m N : ℕ) (q : PortsIn s m N) where
  abbrev i : ℕ
  i = (record_at s m).input.0

  abbrev j : ℕ
  j = (record_at s m).output.0

  -- the record whose port is N - 1
  abbrev Met : ℕ → ℕ → Type 0
  Met n N = (k : ℕ) × (k < n) × (((record_at s k).input.0 + 1 ≡ N) ⊎ ((record_at s k).output.0 + 1 ≡ N))

  met : Dec (max N (i + 1) ≤ j + 1) → Dec (N ≤ i + 1) → (N ≡ 0) ⊎ Met m N → Met (suc m) (max (max N (i + 1)) (j + 1))
  met (yes a) b c = (m, omega arith, inr (omega arith))
  met (no a) (yes b) c = (m, omega arith, inl (omega arith))
  met (no a) (no b) (inl c) = absurd (omega (arith, b))
  met (no a) (no b) (inr c) =
      let e : N ≡ max (max N (i + 1)) (j + 1) = omega (arith, a, b) in
      (c.0, omega (arith, c.1), subst (λ (n : ℕ). ((record_at s c.0).input.0 + 1 ≡ n) ⊎ ((record_at s c.0).output.0 + 1 ≡ n)) e c.2)

  ports-more : PortsIn s (suc m) (max (max N (i + 1)) (j + 1))
  ports-more = record {
    inputs = λ k l. dite (dec_lt k m) (λ b. omega (arith, q.inputs k b)) (λ g. let e : k ≡ m = omega (arith, g) in rw e (omega arith));
    outputs = λ k l. dite (dec_lt k m) (λ b. omega (arith, q.outputs k b)) (λ g. let e : k ≡ m = omega (arith, g) in rw e (omega arith));
    least = inr (met (dec_le (max N (i + 1)) (j + 1)) (dec_le N (i + 1)) q.least);
  }

pub ports-are : (s : List ℕ) (m : ℕ) → PortsIn s m (ports_in s m)
unfolding ports_in
ports-are s zero = record { inputs = λ k l. absurd (omega arith); outputs = λ k l. absurd (omega arith); least = inl refl }
ports-are s (suc m) = ports-more s m (ports_in s m) (ports-are s m)

-- and of no other number
pub ports-only : (s : List ℕ) (m N K : ℕ) → PortsIn s m N → PortsIn s m K → N ≡ K
ports-only s m N K q p = omega (arith, below N K q p, below K N p q)
  where
    below : (N K : ℕ) → PortsIn s m N → PortsIn s m K → N ≤ K
    below N K q p = ⊎_elim (λ z. omega (arith, z)) (λ w. ⊎_elim (λ e. omega (arith, e, p.inputs w.0 w.1)) (λ e. omega (arith, e, p.outputs w.0 w.1)) w.2) q.least
