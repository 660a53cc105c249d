-- The laws of sets of two words: k is in the low word, or k - 64 in the high one.
use mathlib.Core.Path.{◌≡◌, sym, ap, ◌∙◌, subst}
use mathlib.Core.Logic.{◌⊎◌, inl, inr, ⊎_elim}
use Prim.Native.Nat.{ℕ, ◌+◌, ◌-◌, ◌^◌, ◌≤◌, ◌<◌}
use native.Mathlib.Decide.{dec_lt}
use native.Mathlib.Omega.{arith}
use Rattle.sets.specs.Label.{digit, In, Marked, Cleared, Lowered, Union, But, Common, Below, From, LowestAt, Upto}
use Rattle.sets.proofs.Digits.{digit_lt, same_or, all-zero, digit-in, cat-low, cat-high}
use Rattle.sets.specs.Wide.{two}

pub low : (a r k : ℕ) → k < 64 → digit (two a r) k ≡ digit r k
unfolding two
low a r k h = cat-low 64 a r k h

pub high : (a r k : ℕ) → r < 2 ^ 64 → digit (two a r) (64 + k) ≡ digit a k
unfolding two
high a r k h = cat-high 64 a r k h

-- what holds of the numbers of either word holds of all
by_word : (P : ℕ → Type 0) → ((k : ℕ) → k < 64 → P k) → ((i : ℕ) → P (64 + i)) → (k : ℕ) → P k
by_word P l h k = go (dec_lt k 64)
  where
    go : Dec (k < 64) → P k
    go (yes q) = l k q
    go (no q) = let e : 64 + (k - 64) ≡ k = omega arith in subst P e (h (k - 64))

pub none : (a r : ℕ) → r < 2 ^ 64 → ((k : ℕ) → In a k → ⊥) → ((k : ℕ) → In r k → ⊥) → (k : ℕ) → In (two a r) k → ⊥
none a r hr na nr = by_word (λ k. In (two a r) k → ⊥) (λ k l h. nr k (sym (low a r k l) ∙ h)) (λ i h. na i (sym (high a r i hr) ∙ h))

-- a change of the low word
module _ (a r s j : ℕ) (hr : r < 2 ^ 64) (hs : s < 2 ^ 64) (hj : j < 64) where
  same-high : (i : ℕ) → digit (two a r) (64 + i) ≡ digit (two a s) (64 + i)
  same-high i = high a r i hr ∙ sym (high a s i hs)

  pub marked-low : Marked r j s → Marked (two a r) j (two a s)
  marked-low m = record {
    put = low a s j hj ∙ m.put;
    more = by_word (λ k. In (two a r) k → In (two a s) k) (λ k l h. low a s k l ∙ m.more k (sym (low a r k l) ∙ h)) (λ i h. sym (same-high i) ∙ h);
    only = by_word (λ k. In (two a s) k → In (two a r) k ⊎ (k ≡ j)) (λ k l h. ⊎_elim (λ x. inl (low a r k l ∙ x)) (λ x. inr x) (m.only k (sym (low a s k l) ∙ h))) (λ i h. inl (same-high i ∙ h));
  }

  pub cleared-low : Cleared r j s → Cleared (two a r) j (two a s)
  cleared-low m = record {
    gone = λ h. m.gone (sym (low a s j hj) ∙ h);
    less = by_word (λ k. In (two a s) k → In (two a r) k) (λ k l h. low a r k l ∙ m.less k (sym (low a s k l) ∙ h)) (λ i h. same-high i ∙ h);
    kept = by_word (λ k. In (two a r) k → (k ≡ j → ⊥) → In (two a s) k) (λ k l h d. low a s k l ∙ m.kept k (sym (low a r k l) ∙ h) d) (λ i h d. sym (same-high i) ∙ h);
  }

-- a change of the high word
module _ (a b r i : ℕ) (hr : r < 2 ^ 64) where
  same_low : (k : ℕ) → k < 64 → digit (two a r) k ≡ digit (two b r) k
  same_low k l = low a r k l ∙ sym (low b r k l)

  pub marked-high : Marked a i b → Marked (two a r) (64 + i) (two b r)
  marked-high m = record {
    put = high b r i hr ∙ m.put;
    more = by_word (λ k. In (two a r) k → In (two b r) k) (λ k l h. sym (same_low k l) ∙ h) (λ k h. high b r k hr ∙ m.more k (sym (high a r k hr) ∙ h));
    only = by_word (λ k. In (two b r) k → In (two a r) k ⊎ (k ≡ 64 + i)) (λ k l h. inl (same_low k l ∙ h)) (λ k h. ⊎_elim (λ x. inl (high a r k hr ∙ x)) (λ x. inr (ap (λ (y : ℕ). 64 + y) x)) (m.only k (sym (high b r k hr) ∙ h)));
  }

  pub cleared-high : Cleared a i b → Cleared (two a r) (64 + i) (two b r)
  cleared-high m = record {
    gone = λ h. m.gone (sym (high b r i hr) ∙ h);
    less = by_word (λ k. In (two b r) k → In (two a r) k) (λ k l h. same_low k l ∙ h) (λ k h. high a r k hr ∙ m.less k (sym (high b r k hr) ∙ h));
    kept = by_word (λ k. In (two a r) k → (k ≡ 64 + i → ⊥) → In (two b r) k) (λ k l h d. sym (same_low k l) ∙ h) (λ k h d. high b r k hr ∙ m.kept k (sym (high a r k hr) ∙ h) (λ e. d (ap (λ (y : ℕ). 64 + y) e)));
  }

pub lowest-low : (a r : ℕ) (j : ℕ) → LowestAt 64 r j → LowestAt 128 (two a r) j
lowest-low a r j m = record {
  small = omega (arith, m.small);
  here = low a r j m.small ∙ m.here;
  past = λ k l h. m.past k l (sym (low a r k (omega (arith, m.small))) ∙ h);
}

pub lowest-high : (a r : ℕ) → r < 2 ^ 64 → ((k : ℕ) → In r k → ⊥) → (j : ℕ) → LowestAt 64 a j → LowestAt 128 (two a r) (64 + j)
lowest-high a r hr nr j m = record {
  small = omega (arith, m.small);
  here = high a r j hr ∙ m.here;
  past = by_word (λ k. k < 64 + j → In (two a r) k → ⊥) (λ k l _ h. nr k (sym (low a r k l) ∙ h)) (λ k l h. m.past k (omega arith) (sym (high a r k hr) ∙ h));
}

pub union : (a r b t c s : ℕ) → r < 2 ^ 64 → t < 2 ^ 64 → s < 2 ^ 64 → Union a b c → Union r t s → Union (two a r) (two b t) (two c s)
union a r b t c s hr ht hs h l = record {
  left = by_word (λ k. In (two a r) k → In (two c s) k) (λ k q x. low c s k q ∙ l.left k (sym (low a r k q) ∙ x)) (λ i x. high c s i hs ∙ h.left i (sym (high a r i hr) ∙ x));
  right = by_word (λ k. In (two b t) k → In (two c s) k) (λ k q x. low c s k q ∙ l.right k (sym (low b t k q) ∙ x)) (λ i x. high c s i hs ∙ h.right i (sym (high b t i ht) ∙ x));
  only = by_word (λ k. In (two c s) k → In (two a r) k ⊎ In (two b t) k)
      (λ k q x. ⊎_elim (λ y. inl (low a r k q ∙ y)) (λ y. inr (low b t k q ∙ y)) (l.only k (sym (low c s k q) ∙ x)))
      (λ i x. ⊎_elim (λ y. inl (high a r i hr ∙ y)) (λ y. inr (high b t i ht ∙ y)) (h.only i (sym (high c s i hs) ∙ x)));
}

pub but : (a r b t c s : ℕ) → r < 2 ^ 64 → t < 2 ^ 64 → s < 2 ^ 64 → But a b c → But r t s → But (two a r) (two b t) (two c s)
but a r b t c s hr ht hs h l = record {
  less = by_word (λ k. In (two c s) k → In (two a r) k) (λ k q x. low a r k q ∙ l.less k (sym (low c s k q) ∙ x)) (λ i x. high a r i hr ∙ h.less i (sym (high c s i hs) ∙ x));
  gone = by_word (λ k. In (two c s) k → In (two b t) k → ⊥) (λ k q x y. l.gone k (sym (low c s k q) ∙ x) (sym (low b t k q) ∙ y)) (λ i x y. h.gone i (sym (high c s i hs) ∙ x) (sym (high b t i ht) ∙ y));
  kept = by_word (λ k. In (two a r) k → (In (two b t) k → ⊥) → In (two c s) k)
      (λ k q x f. low c s k q ∙ l.kept k (sym (low a r k q) ∙ x) (λ y. f (low b t k q ∙ y)))
      (λ i x f. high c s i hs ∙ h.kept i (sym (high a r i hr) ∙ x) (λ y. f (high b t i ht ∙ y)));
}

pub common : (a r b t c s : ℕ) → r < 2 ^ 64 → t < 2 ^ 64 → s < 2 ^ 64 → Common a b c → Common r t s → Common (two a r) (two b t) (two c s)
common a r b t c s hr ht hs h l = record {
  left = by_word (λ k. In (two c s) k → In (two a r) k) (λ k q x. low a r k q ∙ l.left k (sym (low c s k q) ∙ x)) (λ i x. high a r i hr ∙ h.left i (sym (high c s i hs) ∙ x));
  right = by_word (λ k. In (two c s) k → In (two b t) k) (λ k q x. low b t k q ∙ l.right k (sym (low c s k q) ∙ x)) (λ i x. high b t i ht ∙ h.right i (sym (high c s i hs) ∙ x));
  all = by_word (λ k. In (two a r) k → In (two b t) k → In (two c s) k)
      (λ k q x y. low c s k q ∙ l.all k (sym (low a r k q) ∙ x) (sym (low b t k q) ∙ y))
      (λ i x y. high c s i hs ∙ h.all i (sym (high a r i hr) ∙ x) (sym (high b t i ht) ∙ y));
}

pub below-low : (a r c s j : ℕ) → r < 2 ^ 64 → s < 2 ^ 64 → j < 64 → ((k : ℕ) → In c k → ⊥) → Below r j s → Below (two a r) j (two c s)
below-low a r c s j hr hs hj nc b = record {
  less = by_word (λ k. In (two c s) k → In (two a r) k) (λ k q x. low a r k q ∙ b.less k (sym (low c s k q) ∙ x)) (λ i x. absurd (nc i (sym (high c s i hs) ∙ x)));
  small = by_word (λ k. In (two c s) k → k < j) (λ k q x. b.small k (sym (low c s k q) ∙ x)) (λ i x. absurd (nc i (sym (high c s i hs) ∙ x)));
  all = λ k q x. let l : k < 64 = omega arith in low c s k l ∙ b.all k q (sym (low a r k l) ∙ x);
}

pub below-high : (a r c j : ℕ) → r < 2 ^ 64 → Below a j c → Below (two a r) (64 + j) (two c r)
below-high a r c j hr b = record {
  less = by_word (λ k. In (two c r) k → In (two a r) k) (λ k q x. low a r k q ∙ sym (low c r k q) ∙ x) (λ i x. high a r i hr ∙ b.less i (sym (high c r i hr) ∙ x));
  small = by_word (λ k. In (two c r) k → k < 64 + j) (λ k q x. omega arith) (λ i x. let l : i < j = b.small i (sym (high c r i hr) ∙ x) in omega arith);
  all = by_word (λ k. k < 64 + j → In (two a r) k → In (two c r) k) (λ k q l x. low c r k q ∙ sym (low a r k q) ∙ x) (λ i l x. high c r i hr ∙ b.all i (omega arith) (sym (high a r i hr) ∙ x));
}

pub from_low : (a r s j : ℕ) → r < 2 ^ 64 → s < 2 ^ 64 → j < 64 → From r j s → From (two a r) j (two a s)
from_low a r s j hr hs hj f = record {
  less = by_word (λ k. In (two a s) k → In (two a r) k) (λ k q x. low a r k q ∙ f.less k (sym (low a s k q) ∙ x)) (λ i x. high a r i hr ∙ sym (high a s i hs) ∙ x);
  large = by_word (λ k. In (two a s) k → j ≤ k) (λ k q x. f.large k (sym (low a s k q) ∙ x)) (λ i x. omega arith);
  all = by_word (λ k. j ≤ k → In (two a r) k → In (two a s) k) (λ k q l x. low a s k q ∙ f.all k l (sym (low a r k q) ∙ x)) (λ i l x. high a s i hs ∙ sym (high a r i hr) ∙ x);
}

pub from-high : (a r c s j : ℕ) → r < 2 ^ 64 → s < 2 ^ 64 → ((k : ℕ) → In s k → ⊥) → From a j c → From (two a r) (64 + j) (two c s)
from-high a r c s j hr hs ns f = record {
  less = by_word (λ k. In (two c s) k → In (two a r) k) (λ k q x. absurd (ns k (sym (low c s k q) ∙ x))) (λ i x. high a r i hr ∙ f.less i (sym (high c s i hs) ∙ x));
  large = by_word (λ k. In (two c s) k → 64 + j ≤ k) (λ k q x. absurd (ns k (sym (low c s k q) ∙ x))) (λ i x. let l : j ≤ i = f.large i (sym (high c s i hs) ∙ x) in omega arith);
  all = by_word (λ k. 64 + j ≤ k → In (two a r) k → In (two c s) k) (λ k q l x. absurd (omega arith)) (λ i l x. high c s i hs ∙ f.all i (omega arith) (sym (high a r i hr) ∙ x));
}

-- the lowest number stands in the low word where that has one
pub lowered-low : (a r s : ℕ) → r < 2 ^ 64 → s < 2 ^ 64 → (r ≡ 0 → ⊥) → Lowered r s → Lowered (two a r) (two a s)
lowered-low a r s hr hs some m = record {
  cleared = by_word (λ j. In (two a r) j → ((k : ℕ) → k < j → In (two a r) k → ⊥) → Cleared (two a r) j (two a s)) here past;
  same = λ n. ap (two a) (m.same (λ k h. n k (low a r k (digit-in 64 r k hr h) ∙ h)));
}
  where
    here : (j : ℕ) → j < 64 → In (two a r) j → ((k : ℕ) → k < j → In (two a r) k → ⊥) → Cleared (two a r) j (two a s)
    here j q e f = cleared-low a r s j hr hs q (m.cleared j (sym (low a r j q) ∙ e) (λ k l h. f k l (low a r k (omega arith) ∙ h)))

    past : (i : ℕ) → In (two a r) (64 + i) → ((k : ℕ) → k < 64 + i → In (two a r) k → ⊥) → Cleared (two a r) (64 + i) (two a s)
    past i e f = absurd (some (all-zero 64 r hr (λ k q. ⊎_elim (λ z. absurd (f k (omega arith) (low a r k q ∙ z))) (λ z. omega (arith, digit_lt r k)) (same_or (digit r k) 1))))

pub lowered-high : (a b r : ℕ) → r < 2 ^ 64 → ((k : ℕ) → In r k → ⊥) → Lowered a b → Lowered (two a r) (two b r)
lowered-high a b r hr nr m = record {
  cleared = by_word (λ j. In (two a r) j → ((k : ℕ) → k < j → In (two a r) k → ⊥) → Cleared (two a r) j (two b r)) (λ j q e f. absurd (nr j (sym (low a r j q) ∙ e)))
      (λ i e f. cleared-high a b r i hr (m.cleared i (sym (high a r i hr) ∙ e) (λ k l h. f (64 + k) (omega arith) (high a r k hr ∙ h))));
  same = λ n. ap (λ (x : ℕ). two x r) (m.same (λ k h. n (64 + k) (high a r k hr ∙ h)));
}

-- a set of two words has nothing from 128 on
pub in_words : (a r k : ℕ) → a < 2 ^ 64 → r < 2 ^ 64 → In (two a r) k → k < 128
in_words a r k ha hr = by_word (λ k. In (two a r) k → k < 128) (λ k q _. omega arith) (λ i h. omega (arith, digit-in 64 a i ha (sym (high a r i hr) ∙ h))) k

pub every : (a r : ℕ) → a < 2 ^ 64 → r < 2 ^ 64 → Upto 64 a → Upto 64 r → Upto 128 (two a r)
every a r ha hr fa fr = record {
  only = λ k h. in_words a r k ha hr h;
  all = by_word (λ k. k < 128 → In (two a r) k) (λ k q l. low a r k q ∙ fr.all k q) (λ i l. high a r i hr ∙ fa.all i (omega arith));
}
