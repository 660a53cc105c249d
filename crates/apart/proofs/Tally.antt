-- A word has at most as many places set as outputs were put there, and where it has as many, no two outputs share a place.
use mathlib.Core.Path.{◌≡◌, refl, sym, ap, ◌∙◌, subst}
use mathlib.Core.Bool.{Bool, true, false, ◌&&◌, ◌||◌, true≢false}
use mathlib.Core.Logic.{◌⊎◌, inl, inr}
use mathlib.Core.List.{List}
use Prim.Native.Nat.{ℕ, zero, suc, ◌+◌, ◌-◌, ◌*◌, ◌/◌, ◌%◌, ◌^◌, ◌<◌, ◌≤◌}
use native.Mathlib.Nat.{le_of_suc-le-suc, eq-or-lt_of_le, mod-lt, mod-one, mod-eq_of_lt, lt_of_lt_of_le, add-zero, add_comm}
use native.Mathlib.Numerals.{add-one, one-add}
use native.Mathlib.Decide.{ℕ_discrete, dec_lt}
use native.Mathlib.Omega.{arith}
use lib.Bits.{bit_or}
use lib.Count.{ones, ones_cat, ones-ones}
use lib.Dec.{ltb, eqb}
use lib.ListN.{get_or, take}
use lib.Pow.{pow_pos, pow_mono, mod-pow-add, ones_split, ones_lt, high}
use mir.Val.{bool_byte}
use borrow.Author.Tests.{lt-ltb, le-ltb, ltb-true, eq-eqb, ne_eqb, eqb-true}
use Rattle.std.proofs.lemmas.List.{get_or-take}
use Rattle.sets.specs.Label.{digit, In, Marked}
use Rattle.sets.proofs.Digits.{digit_lt, none-digit, one_shifted, marked}
use Rattle.apart.specs.Fine.{Ports, Fine}
use Rattle.apart.specs.Places.{place, places_of, placed_below, Once, Apart}

-- ---- how many of the first w bits of a number are set

unfoldable members : ℕ → ℕ → ℕ
members zero l = 0
members (suc w) l = members w l + digit l w

bit-ones : (d : ℕ) → d < 2 → ones d ≡ d
unfolding ones
bit-ones zero h = refl
bit-ones (suc zero) h = refl
bit-ones (suc (suc d)) h = absurd (omega arith)

-- a count of set bits counts them
ones-members : (w l : ℕ) → ones (l % 2 ^ w) ≡ members w l
unfolding members
ones-members zero l = unfold ones in rw mod-one
ones-members (suc w) l =
    ap (λ (x : ℕ). ones (l % 2 ^ x)) (sym (one-add w))
    ∙ ap ones (mod-pow-add l 1 w)
    ∙ ones_cat w (l / 2 ^ w % 2) (l % 2 ^ w) (mod-lt l (pow_pos w))
    ∙ rw (bit-ones (l / 2 ^ w % 2) (mod-lt (l / 2 ^ w) (omega arith)), ones-members w l) (unfold digit in add_comm (l / 2 ^ w % 2) (members w l))

module _ (l j r : ℕ) (m : Marked l j r) where
  -- a mark changes no other bit
  other-bit : (k : ℕ) → (k ≡ j → ⊥) → digit r k ≡ digit l k
  other-bit k ne = go (ℕ_discrete (digit l k) 1) (ℕ_discrete (digit r k) 1)
    where
      go : Dec (digit l k ≡ 1) → Dec (digit r k ≡ 1) → digit r k ≡ digit l k
      go (yes a) b = m.more k a ∙ sym a
      go (no a) (no b) = omega (arith, digit_lt l k, digit_lt r k, a, b)
      go (no a) (yes b) = elim (m.only k b) [
        | inl x ↦ absurd (a x)
        | inr x ↦ absurd (ne x)
      ]

  -- nor how many are set where it is one of them
  members-same : (w : ℕ) → (j < w → In l j) → members w r ≡ members w l
  unfolding members
  members-same zero h = refl
  members-same (suc w) h = rw (members-same w (λ g. h (omega arith)), bit (ℕ_discrete w j))
    where
      bit : Dec (w ≡ j) → digit r w ≡ digit l w
      bit (no ne) = other-bit w ne
      bit (yes e) = rw e (m.put ∙ sym (h (omega arith)))

  -- and else one more is set
  members-more : (w : ℕ) → j < w → (In l j → ⊥) → members w r ≡ suc (members w l)
  unfolding members
  members-more zero h n = absurd (omega arith)
  members-more (suc w) h n = go (ℕ_discrete w j) (λ g. members-more w g n)
    where
      go : Dec (w ≡ j) → (j < w → members w r ≡ suc (members w l)) → members w r + digit r w ≡ suc (members w l + digit l w)
      go (no ne) before = rw (before (omega (arith, ne)), other-bit w ne) (omega arith)
      go (yes e) before =
          let free : digit l w ≡ 1 → ⊥ = λ q. n (rw e at q) in
          let none : digit l w ≡ 0 = omega (arith, digit_lt l w, free) in
          let one : digit r w ≡ 1 = rw e m.put in
          rw (members-same w (λ g. absurd (omega (arith, g))), one, none) (omega arith)

-- ---- the places of the first k outputs

module _ (o : List ℕ) where
  step : (k : ℕ) → Marked (places_of o k) (place o k) (places_of o (suc k))
  unfolding places_of
  step k = marked (places_of o k) (place o k)

  -- each output's place is set
  has-place : (k i : ℕ) → i < k → In (places_of o k) (place o i)
  has-place zero i l = absurd (omega arith)
  has-place (suc k) i l = elim (eq-or-lt_of_le (le_of_suc-le-suc l)) [
    | inl e ↦ rw e (step k).put
    | inr g ↦ (step k).more (place o i) (has-place k i g)
  ]

  no_place : (w : ℕ) → members w (places_of o 0) ≡ 0
  unfolding members places_of
  no_place zero = refl
  no_place (suc w) = rw (no_place w, none-digit w)

  module _ (w : ℕ) where
    -- the law, of the first k outputs
    record Counted (k : ℕ) : Type 0 where
      few : members w (places_of o k) ≤ placed_below w o k
      apart : members w (places_of o k) ≡ placed_below w o k → Apart w o k

    module _ (k : ℕ) (c : Counted k) where
      -- an output whose place does not count
      past : w ≤ place o k → Counted (suc k)
      unfolding placed_below
      past h =
          let same = members-same _ _ _ (step k) w (λ g. absurd (omega arith)) in
          let none : bool_byte (ltb (place o k) w) ≡ 0 = rw (le-ltb (place o k) w h) in
          record { few = omega (arith, c.few); apart = λ e i j li lj small q. last i j li lj small q (c.apart (omega arith)) (eq-or-lt_of_le (le_of_suc-le-suc li)) }
        where
          last : (i j : ℕ) → i < suc k → j < i → place o i < w → place o j ≡ place o i → Apart w o k → (i ≡ k) ⊎ (i < k) → ⊥
          last i j li lj small q before (inl e) = omega (arith, rw e at small)
          last i j li lj small q before (inr g) = before i j g lj small q

      -- one whose place is set already
      again : place o k < w → In (places_of o k) (place o k) → Counted (suc k)
      unfolding placed_below
      again h has =
          let same = members-same _ _ _ (step k) w (λ g. has) in
          let one : bool_byte (ltb (place o k) w) ≡ 1 = rw (lt-ltb (place o k) w h) in
          record { few = omega (arith, c.few); apart = λ e. absurd (omega (arith, c.few)) }

      -- and one with a place of its own
      fresh : place o k < w → (In (places_of o k) (place o k) → ⊥) → Counted (suc k)
      unfolding placed_below
      fresh h free =
          let same = members-more _ _ _ (step k) w h free in
          let one : bool_byte (ltb (place o k) w) ≡ 1 = rw (lt-ltb (place o k) w h) in
          record { few = omega (arith, c.few); apart = λ e i j li lj small q. last i j li lj small q (c.apart (omega arith)) (eq-or-lt_of_le (le_of_suc-le-suc li)) }
        where
          last : (i j : ℕ) → i < suc k → j < i → place o i < w → place o j ≡ place o i → Apart w o k → (i ≡ k) ⊎ (i < k) → ⊥
          last i j li lj small q before (inl e) = free (subst (λ (x : ℕ). In (places_of o k) x) (q ∙ ap (place o) e) (has-place k j (rw e at lj)))
          last i j li lj small q before (inr g) = before i j g lj small q

    counted : (k : ℕ) → Counted k
    unfolding placed_below
    counted zero = record { few = omega (arith, no_place w); apart = λ e i j li lj small q. omega arith }
    counted (suc k) = go (counted k) (dec_lt (place o k) w) (ℕ_discrete (digit (places_of o k) (place o k)) 1)
      where
        go : Counted k → Dec (place o k < w) → Dec (In (places_of o k) (place o k)) → Counted (suc k)
        go c (no h) has = past k c (omega (arith, h))
        go c (yes h) (yes has) = again k c h has
        go c (yes h) (no free) = fresh k c h free

-- ---- the loops of the check

-- one output more that is a port or idle
pub ports-more : (N : ℕ) (o : List ℕ) (i : ℕ) (fine : Bool) → (fine ≡ true → Ports N o i) → (fine && (ltb (get_or o i 0) N || eqb (get_or o i 0) 255)) ≡ true → Ports N o (i + 1)
ports-more N o i true h e j l ne = go (eq-or-lt_of_le (le_of_suc-le-suc (rw add-one at l)))
  where
    port : (a b : Bool) → ltb (get_or o i 0) N ≡ a → eqb (get_or o i 0) 255 ≡ b → (a || b) ≡ true → (get_or o i 0 ≡ 255 → ⊥) → get_or o i 0 < N
    port true b p q t n = ltb-true _ _ p
    port false true p q t n = absurd (n (eqb-true _ _ q))
    port false false p q t n = absurd (true≢false (sym t))

    go : (j ≡ i) ⊎ (j < i) → get_or o j 0 < N
    go (inl x) = rw x (port _ _ refl refl e (λ q. ne (rw x q)))
    go (inr g) = h refl j g ne
ports-more N o i false h e j l ne = absurd (true≢false (sym e))

pub places-more : (o : List ℕ) (i v : ℕ) → v ≡ get_or o i 0 → bit_or (places_of o i) ((1 * 2 ^ (v % 64)) % 2 ^ 64) ≡ places_of o (i + 1)
unfolding places_of
places-more o i v e = rw (e, one_shifted (place o i) (mod-lt (get_or o i 0) (omega arith)), add-one)

pub placed-more : (w : ℕ) (o : List ℕ) (i v : ℕ) → v ≡ get_or o i 0 → placed_below w o i + bool_byte (ltb (v % 64) w) ≡ placed_below w o (i + 1)
unfolding placed_below
placed-more w o i v e = rw (e, add-one)

pub bit_le : (b : Bool) → bool_byte b ≤ 1
bit_le true = omega arith
bit_le false = omega arith

pub placed-le : (w : ℕ) (o : List ℕ) (k : ℕ) → placed_below w o k ≤ k
unfolding placed_below
placed-le w o zero = omega arith
placed-le w o (suc k) = omega (arith, placed-le w o k, bit_le (ltb (place o k) w))

-- c of the first k outputs are v: so none is where that is 0, and no two are where it is at most 1
pub record Tallied (v : ℕ) (o : List ℕ) (k c : ℕ) : Type 0 where
  pub few : c ≤ k
  pub none : c ≡ 0 → (i : ℕ) → i < k → get_or o i 0 ≡ v → ⊥
  pub once : c ≤ 1 → Once v o k

pub tallied-none : (v : ℕ) (o : List ℕ) → Tallied v o 0 0
tallied-none v o = record { few = omega arith; none = λ e i l. absurd (omega arith); once = λ e i j l. absurd (omega arith) }

module _ (v : ℕ) (o : List ℕ) (k c : ℕ) (t : Tallied v o k c) where
  tallied-same : (get_or o k 0 ≡ v → ⊥) → Tallied v o (suc k) c
  tallied-same ne = record { few = omega (arith, t.few); none = λ e i l q. none e i q (split l); once = λ e i j l g q r. once e i j g q r (split l) }
    where
      split : {i : ℕ} → i < suc k → (i ≡ k) ⊎ (i < k)
      split l = eq-or-lt_of_le (le_of_suc-le-suc l)

      none : c ≡ 0 → (i : ℕ) → get_or o i 0 ≡ v → (i ≡ k) ⊎ (i < k) → ⊥
      none e i q (inl x) = ne (rw x at q)
      none e i q (inr g) = t.none e i g q

      once : c ≤ 1 → (i j : ℕ) → j < i → get_or o i 0 ≡ v → get_or o j 0 ≡ v → (i ≡ k) ⊎ (i < k) → ⊥
      once e i j g q r (inl x) = ne (rw x at q)
      once e i j g q r (inr l) = t.once e i j l g q r

  tallied-one : Tallied v o (suc k) (suc c)
  tallied-one = record { few = omega (arith, t.few); none = λ e. absurd (omega arith); once = λ e i j l g q r. t.none (omega arith) j (omega arith) r }

  pub tallied-more : (w : ℕ) → w ≡ get_or o k 0 → Tallied v o (k + 1) (c + bool_byte (eqb w v))
  tallied-more w is = rw add-one (go (ℕ_discrete w v))
    where
      go : Dec (w ≡ v) → Tallied v o (suc k) (c + bool_byte (eqb w v))
      go (yes e) = rw (eq-eqb w v e, add-one) tallied-one
      go (no ne) = rw (ne_eqb w v ne, add-zero) (tallied-same (λ q. ne (is ∙ q)))

-- ---- what the check concludes

-- a word of n places set, from the first on
full-word : (n : ℕ) → n ≤ 64 → (2 ^ 64 - 1) / 2 ^ (64 - n) ≡ 2 ^ n - 1
full-word n h =
    ap (λ (x : ℕ). (2 ^ x - 1) / 2 ^ (64 - n)) (let e : 64 ≡ n + (64 - n) = omega arith in e)
    ∙ ap (λ (x : ℕ). x / 2 ^ (64 - n)) (ones_split n (64 - n)) ∙ high (2 ^ n - 1) (64 - n) (ones_lt (64 - n))

full-members : (n : ℕ) → n ≤ 64 → members 64 (2 ^ n - 1) ≡ n
full-members n h =
    sym (ones-members 64 (2 ^ n - 1)) ∙ ap ones (mod-eq_of_lt (lt_of_lt_of_le (ones_lt n) (pow_mono h))) ∙ ones-ones n

all_placed : (o : List ℕ) (k : ℕ) → placed_below 64 o k ≡ k
unfolding placed_below
all_placed o zero = refl
all_placed o (suc k) = rw (all_placed o k, lt-ltb (place o k) 64 (mod-lt (get_or o k 0) (omega arith))) (add-one k)

-- as many places as outputs
pub fine-full : (o : List ℕ) (n : ℕ) → n ≤ 64 → Ports n o n → places_of o n ≡ (2 ^ 64 - 1) / 2 ^ (64 - n) → Fine n o
fine-full o n h ports e =
    let many : members 64 (places_of o n) ≡ placed_below 64 o n = ap (members 64) (e ∙ full-word n h) ∙ full-members n h ∙ sym (all_placed o n) in
    let apart = (counted o 64 n).apart many in
    record { ports = ports; apart = λ i j li lj ne q. apart i j li lj (mod-lt (get_or o i 0) (omega arith)) (ap (λ (x : ℕ). x % 64) q) }

-- as many places but for the last one as outputs with such a place, and port 63 once at most
pub fine-part : (o : List ℕ) (n : ℕ) → n ≤ 64 → Ports n o n → (n ≡ 64 → Once 63 o n) → ones (places_of o n % 2 ^ 63) ≡ placed_below 63 o n → Fine n o
fine-part o n h ports once e = record { ports = ports; apart = λ i j li lj ne q. apart i j li lj ne q (dec_lt (get_or o i 0) 63) }
  where
    apart : (i j : ℕ) → i < n → j < i → (get_or o i 0 ≡ 255 → ⊥) → get_or o j 0 ≡ get_or o i 0 → Dec (get_or o i 0 < 63) → ⊥
    apart i j li lj ne q (yes g) =
        let own : place o i ≡ get_or o i 0 = mod-eq_of_lt (omega arith) in
        (counted o 63 n).apart (sym (ones-members 63 (places_of o n)) ∙ e) i j li lj (omega arith) (ap (λ (x : ℕ). x % 64) q)
    apart i j li lj ne q (no g) =
        let last : get_or o i 0 ≡ 63 = omega (arith, ports i li ne, g) in
        once (omega (arith, ports i li ne)) i j li lj last (q ∙ last)

-- what is fine of the first outputs alone is so of all of them
pub fine-own : (o : List ℕ) (n : ℕ) → Fine n (take n o) → Fine n o
fine-own o n f = record {
  ports = λ i l ne. rw (same i l) at (f.ports i l (λ e. ne (sym (same i l) ∙ e)));
  apart = λ i j l g ne e. f.apart i j l g (λ q. ne (sym (same i l) ∙ q)) (same j (omega (arith, l, g)) ∙ e ∙ sym (same i l));
}
  where
    same : (i : ℕ) → i < n → get_or (take n o) i 0 ≡ get_or o i 0
    same i l = get_or-take n o i 0 l
