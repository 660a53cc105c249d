-- The settings of the second part, one after the other: what is left from setting k on is setting k, where it is held at all, and what is
-- left from the next on. For any settings and any holds.
use mathlib.Core.Path.{◌≡◌, refl, sym, ap, ◌∙◌, subst}
use mathlib.Core.List.{List, [], ◌∷◌, ◌++◌, append-nil}
use Prim.Native.Nat.{ℕ, zero, suc, ◌+◌, ◌*◌, ◌-◌, ◌≤◌, ◌<◌}
use native.Mathlib.Omega.{arith}
use native.Mathlib.Numerals.{add-one}
use lib.ListN.{length, get_or, set, take, length-append}
use Rattle.switch.specs.Plan.{Record, total}
use Rattle.rules.specs.Exact.{tab}
use Rattle.rules.specs.Doubled.{held, turns}
use Rattle.rules.proofs.Peels.{length-tab, get_or-tab}
use Rattle.switch.proofs.Append.{total-append}
use Rattle.rules.proofs.Doubled.{length-held, total-held}
use Rattle.switch.specs.Sound.{Each, OfWidth}
use Rattle.records.specs.Bytes.{encode, bytes, laid}
use Rattle.records.proofs.Laid.{laid_none, copy-start-more, copy-whole}
use Rattle.records.proofs.Bytes.{bytes-none, bytes-more, bytes-size, encode-size}
use Rattle.records.proofs.Parts.{part_room, part_length, part-fits, part-laid}

-- ---- one setting

pub held_none : (W : ℕ) (o : ℕ → ℕ) → held W 0 o ≡ []
unfolding held
held_none W o = refl

pub held_one : (W h : ℕ) (o : ℕ → ℕ) → 0 < h → held W h o ≡ record { hold = h; outputs = tab W 0 o } ∷ []
unfolding held
held_one W zero o l = absurd (omega arith)
held_one W (suc h) o l = refl

-- it is at most one record
pub one_at_most : (r h : ℕ) → ((W : ℕ) (o : ℕ → ℕ) → r ≡ length (held W h o)) → r ≤ 1
one_at_most r h e = omega (arith, e 0 (λ i. i), length-held 0 (λ k i. i) (λ k. k) h (λ i. i))

module _ (e N W h : ℕ) (o : ℕ → ℕ) where
  pub held-no-bytes : h ≡ 0 → bytes e N (held W h o) ≡ []
  held-no-bytes z = ap (λ (x : ℕ). bytes e N (held W x o)) z ∙ ap (bytes e N) (held_none W o) ∙ bytes-none e N

  pub held_bytes : 0 < h → bytes e N (held W h o) ≡ encode e h N (tab W 0 o)
  held_bytes l = ap (bytes e N) (held_one W h o l) ∙ bytes-more e N (record { hold = h; outputs = tab W 0 o }) []
      ∙ ap (λ (s : List ℕ). encode e h N (tab W 0 o) ++ s) (bytes-none e N) ∙ append-nil (encode e h N (tab W 0 o))

  pub held-size : 0 < h → length (bytes e N (held W h o)) ≡ W + 4
  held-size l = ap length (held_bytes l) ∙ encode-size e h N W (tab W 0 o) (length-tab W 0 o)

-- its outputs, stored one after the other
module _ (W : ℕ) (o : ℕ → ℕ) (d : List ℕ) (size : length d ≡ W) where
  pub tab-store : (p : List ℕ) (i v : ℕ) → i < W → v ≡ o i → p ≡ laid d 0 (take i (tab W 0 o))
      → set p i v ≡ laid d 0 (take (i + 1) (tab W 0 o))
  tab-store p i v l e q = ap (set p i) (e ∙ sym there) ∙ copy-start-more d (tab W 0 o) p i (omega arith) (omega (arith, length-tab W 0 o)) q
    where
      there : get_or (tab W 0 o) i 0 ≡ o i
      there = get_or-tab W 0 o i 0 l ∙ ap o (omega arith)

  pub tab-whole : (p : List ℕ) (i : ℕ) → W ≤ i → p ≡ laid d 0 (take i (tab W 0 o)) → p ≡ tab W 0 o
  tab-whole p i l q = copy-whole d (tab W 0 o) p i (length-tab W 0 o ∙ sym size) (omega (arith, length-tab W 0 o)) q

-- ---- the same holds make the same settings

pub turns_same : (W : ℕ) (τ : ℕ → ℕ → ℕ) (H G : ℕ → ℕ) (n k : ℕ) → ((c : ℕ) → k ≤ c → c < n + k → H c ≡ G c) → turns W τ H n k ≡ turns W τ G n k
unfolding turns
turns_same W τ H G zero k e = refl
turns_same W τ H G (suc n) k e =
    ap (λ (h : ℕ). held W h (τ k) ++ turns W τ H n (suc k)) (e k (omega arith) (omega arith))
    ∙ ap (λ (p : List Record). held W (G k) (τ k) ++ p) (turns_same W τ H G n (suc k) (λ c a b. e c (omega arith) (omega arith)))

-- ---- setting k and those after it

module _ (τ : ℕ → ℕ → ℕ) (H : ℕ → ℕ) (N : ℕ) where
  -- what is left from setting k on
  abbrev pub rest : ℕ → ℕ → List Record
  rest W k = turns W τ H (N - k) k

  pub rest_all : (W : ℕ) → rest W 0 ≡ turns W τ H N 0
  rest_all W = ap (λ n. turns W τ H n 0) (omega arith)

  pub rest_more : (W k : ℕ) → k < N → rest W k ≡ held W (H k) (τ k) ++ rest W (k + 1)
  rest_more W k l = go (N - k) (N - (k + 1)) (omega arith)
    where
      go : (m m' : ℕ) → m ≡ suc m' → turns W τ H m k ≡ held W (H k) (τ k) ++ turns W τ H m' (k + 1)
      go m m' e = unfold turns in rw (e, add-one k)

  pub rest-none : (W k : ℕ) → N ≤ k → rest W k ≡ []
  rest-none W k l = go (N - k) (omega arith)
    where
      go : (m : ℕ) → m ≡ 0 → turns W τ H m k ≡ []
      go m e = unfold turns in rw e

  pub turns-width : (W n k : ℕ) → Each (OfWidth W) (turns W τ H n k)
  unfolding turns
  turns-width W zero k = Each.none
  turns-width W (suc n) k = one (H k) (turns-width W n (suc k))
    where
      one : (h : ℕ) {p : List Record} → Each (OfWidth W) p → Each (OfWidth W) (held W h (τ k) ++ p)
      one zero s = unfold held in s
      one (suc h) s = unfold held in Each.more (length-tab W 0 (τ k)) s

  -- room for so many records is room for their bytes
  pub turns-room : (e P W from : ℕ) (d : List ℕ) → from + length (turns W τ H N 0) * (W + 4) ≤ length d → from + length (bytes e P (turns W τ H N 0)) ≤ length d
  turns-room e P W from d l = omega (arith, bytes-size e P W (turns-width W N 0))

  -- the settings before k have been counted, and their holds summed
  pub record Counted (k records sum : ℕ) : Type 0 where
    pub few : records ≤ k
    pub small : sum ≤ k * 65535
    pub count : (W : ℕ) → records + length (rest W k) ≡ length (turns W τ H N 0)
    pub held-for : (W : ℕ) → sum + total (rest W k) ≡ total (turns W τ H N 0)

  pub counted_none : Counted 0 0 0
  counted_none = record {
    few = omega arith;
    small = omega arith;
    count = λ W. omega (arith, ap length (rest_all W));
    held-for = λ W. omega (arith, ap total (rest_all W));
  }

  -- the settings before k have been laid, and there is room for those left: together they are all of them
  pub record Laying (e P W : ℕ) (d₀ : List ℕ) (from : ℕ) (d : List ℕ) (at k : ℕ) : Type 0 where
    pub size : length d ≡ length d₀
    pub room : at + length (bytes e P (rest W k)) ≤ length d
    pub whole : laid d at (bytes e P (rest W k)) ≡ laid d₀ from (bytes e P (turns W τ H N 0))

  pub laying-none : {e P W : ℕ} {d : List ℕ} {from : ℕ} → from + length (bytes e P (turns W τ H N 0)) ≤ length d → Laying e P W d from d from 0
  laying-none {e} {P} {W} {d} {from} l = record {
    size = refl;
    room = omega (arith, ap (λ (p : List Record). length (bytes e P p)) (rest_all W));
    whole = ap (λ (p : List Record). laid d from (bytes e P p)) (rest_all W);
  }

-- ---- counted

module _ {τ : ℕ → ℕ → ℕ} {H : ℕ → ℕ} {N k records sum : ℕ} (c : Counted τ H N k records sum) where
  pub counted_next : {r h : ℕ} → k < N → h ≡ H k → h ≤ 65535 → ((W : ℕ) (o : ℕ → ℕ) → r ≡ length (held W h o)) → Counted τ H N (k + 1) (records + r) (sum + h)
  counted_next {r} {h} l same small e = record {
    few = omega (arith, c.few, one_at_most r h e);
    small = omega (arith, c.small);
    count = λ W. omega (
      arith,
      c.count W,
      e W (τ k),
      ap (λ x. length (held W x (τ k))) same,
      ap length (rest_more τ H N W k l),
      length-append (held W (H k) (τ k)) (rest τ H N W (k + 1)),
    );
    held-for = λ W. omega (
      arith,
      same,
      c.held-for W,
      ap total (rest_more τ H N W k l),
      total-append (held W (H k) (τ k)) (rest τ H N W (k + 1)),
      total-held W τ H (H k) (τ k),
    );
  }

  pub counted-all : N ≤ k → (W : ℕ) → (records ≡ length (turns W τ H N 0)) × (sum ≡ total (turns W τ H N 0))
  unfolding total
  counted-all l W = (omega (arith, c.count W, ap length (rest-none τ H N W k l)), omega (arith, c.held-for W, ap total (rest-none τ H N W k l)))

-- ---- laid

module _ {τ : ℕ → ℕ → ℕ} {H : ℕ → ℕ} {N e P W from at k : ℕ} {d₀ d : List ℕ} (s : Laying τ H N e P W d₀ from d at k) where
  pub laying-all : N ≤ k → d ≡ laid d₀ from (bytes e P (turns W τ H N 0))
  laying-all l = sym (laid_none d at) ∙ ap (laid d at) (sym (ap (bytes e P) (rest-none τ H N W k l) ∙ bytes-none e P)) ∙ s.whole

  -- setting k, held for h
  module _ (l : k < N) {h : ℕ} (same : h ≡ H k) where
    after : List Record
    after = rest τ H N W (k + 1)

    more : rest τ H N W k ≡ held W h (τ k) ++ after
    unfolding after
    more = rest_more τ H N W k l ∙ ap (λ (x : ℕ). held W x (τ k) ++ rest τ H N W (k + 1)) (sym same)

    fits : at + length (bytes e P (held W h (τ k) ++ after)) ≤ length d
    fits = subst (λ (p : List Record). at + length (bytes e P p) ≤ length d) more s.room

    pub laying-room : at + length (bytes e P (held W h (τ k))) ≤ length d
    laying-room = part_room e P d at (held W h (τ k)) after fits

    pub laying-next : {d' : List ℕ} {at' : ℕ} → at' ≡ at + length (bytes e P (held W h (τ k))) → d' ≡ laid d at (bytes e P (held W h (τ k)))
        → Laying τ H N e P W d₀ from d' at' (k + 1)
    unfolding after
    laying-next {d'} a q = record {
      size = part_length e P d at (held W h (τ k)) after fits d' q ∙ s.size;
      room = omega (arith, a, part-fits e P d at (held W h (τ k)) after fits d' q);
      whole = ap (λ (x : ℕ). laid d' x (bytes e P after)) a
          ∙ part-laid e P d at (held W h (τ k)) after fits d' q
          ∙ ap (λ (p : List Record). laid d at (bytes e P p)) (sym more)
          ∙ s.whole;
    }
