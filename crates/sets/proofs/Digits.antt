-- The laws of sets as numbers: each operation on words works digit by digit, and the trailing zeros end at the lowest digit that is 1.
use mathlib.Core.Path.{◌≡◌, refl, sym, ap, ◌∙◌, subst}
use mathlib.Core.Bool.{Bool, true, false, true≢false}
use mathlib.Core.Logic.{◌⊎◌, inl, inr, ⊎_elim}
use Prim.Native.Nat.{ℕ, zero, suc, ◌+◌, ◌-◌, ◌*◌, ◌/◌, ◌%◌, ◌^◌, ◌≤◌, ◌<◌, min, max, zero-le, suc-le-suc}
use native.Mathlib.Nat.{mod-lt, zero-lt-suc, not-suc-le-zero, le_of_suc-le-suc, div-add-mod', pow-suc, mul-mod_left, suc-mul, zero-mul, div-one, zero-div, one-mul}
use native.Mathlib.Numerals.{add-one, one-add}
use native.Mathlib.Decide.{ℕ_discrete}
use native.Mathlib.Omega.{arith}
use lib.Arith.{digits_mod, lt-one}
use lib.Pow.{shr-shr, shr_lt, high, shl_exact, pow_pos}
use lib.Bits.{bit_and, bit_or, bit_xor, differ, and_step, or_step, xor_step, and_shr, or_shr, xor_shr, and_mask, and_zero_r, xor_zero_r, block_half, block_odd, shifted_half}
use mir.Val.{bool_byte}
use lib.Count.{count_trailing_zeros, under, trailing_le}
use Rattle.sets.specs.Label.{Lowered, digit, In, Sub, Marked, Cleared, ClearedIf, Union, But, Common, Below, From, LowestAt, absent}

two_pos : zero < 2
two_pos = zero-lt-suc 1

pub digit_lt : (l j : ℕ) → digit l j < 2
unfolding digit
digit_lt l j = mod-lt (l / 2 ^ j) two_pos

pub digit-zero : (l : ℕ) → digit l 0 ≡ l % 2
unfolding digit
digit-zero l = ap (λ (x : ℕ). x % 2) (div-one l)

pub digit-suc : (l j : ℕ) → digit l (suc j) ≡ digit (l / 2) j
unfolding digit
digit-suc l j = ap (λ (x : ℕ). l / 2 ^ x % 2) (sym (one-add j)) ∙ ap (λ (x : ℕ). x % 2) (sym (shr-shr l 1 j))

pub none-digit : (j : ℕ) → digit 0 j ≡ 0
unfolding digit
none-digit j = ap (λ (x : ℕ). x % 2) (zero-div (2 ^ j))

-- what holds of the four pairs of digits holds of any two
pairs : (P : ℕ → ℕ → Type 0) → P 0 0 → P 0 1 → P 1 0 → P 1 1 → (x y : ℕ) → x < 2 → y < 2 → P x y
pairs P a b c d zero zero hx hy = a
pairs P a b c d zero (suc zero) hx hy = b
pairs P a b c d (suc zero) zero hx hy = c
pairs P a b c d (suc zero) (suc zero) hx hy = d
pairs P a b c d (suc (suc x)) y hx hy = absurd (not-suc-le-zero (le_of_suc-le-suc (le_of_suc-le-suc hx)))
pairs P a b c d zero (suc (suc y)) hx hy = absurd (not-suc-le-zero (le_of_suc-le-suc (le_of_suc-le-suc hy)))
pairs P a b c d (suc zero) (suc (suc y)) hx hy = absurd (not-suc-le-zero (le_of_suc-le-suc (le_of_suc-le-suc hy)))

small : (f : ℕ → ℕ → ℕ) → f 0 0 < 2 → f 0 1 < 2 → f 1 0 < 2 → f 1 1 < 2 → (x y : ℕ) → x < 2 → y < 2 → f x y < 2
small f = pairs (λ x y. f x y < 2)

pub and-digit : (a b j : ℕ) → digit (bit_and a b) j ≡ min (digit a j) (digit b j)
unfolding digit
and-digit a b j =
    ap (λ (x : ℕ). x % 2) (and_shr a b j ∙ and_step (a / 2 ^ j) (b / 2 ^ j))
    ∙ digits_mod _ (small min (omega arith) (omega arith) (omega arith) (omega arith) _ _ (digit_lt a j) (digit_lt b j))

pub or-digit : (a b j : ℕ) → digit (bit_or a b) j ≡ max (digit a j) (digit b j)
unfolding digit
or-digit a b j =
    ap (λ (x : ℕ). x % 2) (or_shr a b j ∙ or_step (a / 2 ^ j) (b / 2 ^ j))
    ∙ digits_mod _ (small max (omega arith) (omega arith) (omega arith) (omega arith) _ _ (digit_lt a j) (digit_lt b j))

pub xor-digit : (a b j : ℕ) → digit (bit_xor a b) j ≡ differ (digit a j) (digit b j)
unfolding digit
xor-digit a b j =
    ap (λ (x : ℕ). x % 2) (xor_shr a b j ∙ xor_step (a / 2 ^ j) (b / 2 ^ j))
    ∙ digits_mod _ (small differ (omega arith) (omega arith) (omega arith) (omega arith) _ _ (digit_lt a j) (digit_lt b j))

pub one_same : (j : ℕ) → digit (2 ^ j) j ≡ 1
unfolding digit
one_same zero = refl
one_same (suc j) = digit-suc (2 ^ suc j) j ∙ ap (λ (x : ℕ). digit x j) (ap (λ (x : ℕ). x / 2) (sym (mul-one-l (suc j))) ∙ shifted_half 1 j ∙ mul-one-l j) ∙ one_same j
  where
    mul-one-l : (k : ℕ) → 1 * 2 ^ k ≡ 2 ^ k
    mul-one-l k = omega arith

pub one-other : (j k : ℕ) → (k ≡ j → ⊥) → digit (2 ^ j) k ≡ 0
unfolding digit
one-other zero zero h = absurd (h refl)
one-other zero (suc k) h = digit-suc 1 k ∙ none-digit k
one-other (suc j) zero h = digit-zero (2 ^ suc j) ∙ ap (λ (x : ℕ). x % 2) (pow-suc 2 j) ∙ mul-mod_left (2 ^ j) 2
one-other (suc j) (suc k) h =
    digit-suc (2 ^ suc j) k ∙ ap (λ (x : ℕ). digit x k) (ap (λ (x : ℕ). x / 2) (sym (mul-one-l (suc j))) ∙ shifted_half 1 j ∙ mul-one-l j)
    ∙ one-other j k (λ e. h (ap suc e))
  where
    mul-one-l : (k : ℕ) → 1 * 2 ^ k ≡ 2 ^ k
    mul-one-l k = omega arith

-- what is in a and not in b: a ^ (a & b)
pub less-digit : (a b j : ℕ) → digit (bit_xor a (bit_and a b)) j ≡ digit a j - digit b j
less-digit a b j =
    xor-digit a (bit_and a b) j ∙ ap (differ (digit a j)) (and-digit a b j)
    ∙ pairs (λ x y. differ x (min x y) ≡ x - y) refl refl refl refl _ _ (digit_lt a j) (digit_lt b j)

-- ---- the sets, by omega over their digits

pub same_or : (k j : ℕ) → (k ≡ j) ⊎ (k ≡ j → ⊥)
same_or k j = go (ℕ_discrete k j)
  where
    go : Dec (k ≡ j) → (k ≡ j) ⊎ (k ≡ j → ⊥)
    go (yes p) = inl p
    go (no f) = inr f

-- 1 << j, where j is below the width
pub one_shifted : (j : ℕ) → j < 64 → (1 * 2 ^ j) % 2 ^ 64 ≡ 2 ^ j
one_shifted j h = shl_exact 1 j 64 (omega arith) (omega arith) ∙ one-mul (2 ^ j)

pub marked : (l j : ℕ) → Marked l j (bit_or l (2 ^ j))
marked l j = record {
  put = omega (arith, or-digit l (2 ^ j) j, one_same j, digit_lt l j);
  more = λ k h. omega (arith, or-digit l (2 ^ j) k, digit_lt (2 ^ j) k);
  only = λ k h. ⊎_elim (λ e. inr e) (λ d. inl (omega (arith, or-digit l (2 ^ j) k, one-other j k d))) (same_or k j);
}

pub cleared : (l j : ℕ) → Cleared l j (bit_xor l (bit_and l (2 ^ j)))
cleared l j = record {
  gone = λ h. omega (arith, less-digit l (2 ^ j) j, one_same j, digit_lt l j);
  less = λ k h. omega (arith, less-digit l (2 ^ j) k, digit_lt l k);
  kept = λ k h d. omega (arith, less-digit l (2 ^ j) k, one-other j k d);
}

-- the same where the shifted bit is 1 only if the number is gone
pub cleared-if : (gone : Bool) (l j : ℕ) → j < 64 → ClearedIf gone l j (bit_xor l (bit_and l ((bool_byte gone * 2 ^ j) % 2 ^ 64)))
cleared-if true l j h = record { cleared = λ _. rw (one_shifted j h) (cleared l j); same = λ e. absurd (true≢false e) }
cleared-if false l j h = record { cleared = λ e. absurd (true≢false (sym e)); same = λ _. ap (λ (x : ℕ). bit_xor l (bit_and l (x % 2 ^ 64))) (zero-mul (2 ^ j)) ∙ ap (bit_xor l) (and_zero_r l) ∙ xor_zero_r l }

pub union : (l m : ℕ) → Union l m (bit_or l m)
union l m = record {
  left = λ k h. omega (arith, or-digit l m k, digit_lt m k);
  right = λ k h. omega (arith, or-digit l m k, digit_lt l k);
  only = λ k h. ⊎_elim (λ e. inl e) (λ f. inr (omega (arith, or-digit l m k, digit_lt l k, f))) (same_or (digit l k) 1);
}

pub but : (l m : ℕ) → But l m (bit_xor l (bit_and l m))
but l m = record {
  less = λ k h. omega (arith, less-digit l m k, digit_lt l k);
  gone = λ k h g. omega (arith, less-digit l m k, digit_lt l k);
  kept = λ k h d. omega (arith, less-digit l m k, digit_lt m k, d);
}

pub common : (l m : ℕ) → Common l m (bit_and l m)
common l m = record {
  left = λ k h. omega (arith, and-digit l m k, digit_lt l k);
  right = λ k h. omega (arith, and-digit l m k, digit_lt m k);
  all = λ k h g. omega (arith, and-digit l m k);
}

pub has-digit : (l j : ℕ) → bit_and (l / 2 ^ j) 1 ≡ digit l j
unfolding digit
has-digit l j = and_mask (l / 2 ^ j) 1

-- ---- the lowest digit that is set

pub trailing : (d n : ℕ) → ((i : ℕ) → i < count_trailing_zeros d n → digit n i ≡ 0) × (count_trailing_zeros d n < d → digit n (count_trailing_zeros d n) ≡ 1)
unfolding count_trailing_zeros
trailing zero n = (λ i h. absurd (not-suc-le-zero h), λ h. absurd (not-suc-le-zero h))
trailing (suc d) n = go (n % 2) refl (trailing d (n / 2)) (mod-lt n two_pos)
  where
    go : (r : ℕ) → n % 2 ≡ r → ((i : ℕ) → i < count_trailing_zeros d (n / 2) → digit (n / 2) i ≡ 0) × (count_trailing_zeros d (n / 2) < d → digit (n / 2) (count_trailing_zeros d (n / 2)) ≡ 1) → n % 2 < 2
        → ((i : ℕ) → i < under r (count_trailing_zeros d (n / 2)) → digit n i ≡ 0) × (under r (count_trailing_zeros d (n / 2)) < suc d → digit n (under r (count_trailing_zeros d (n / 2))) ≡ 1)
    go zero e ih l = (low, λ h. digit-suc n (count_trailing_zeros d (n / 2)) ∙ ih.1 (le_of_suc-le-suc h))
      where
        low : (i : ℕ) → i < suc (count_trailing_zeros d (n / 2)) → digit n i ≡ 0
        low zero h = digit-zero n ∙ e
        low (suc i) h = digit-suc n i ∙ ih.0 i (le_of_suc-le-suc h)
    go (suc r) e ih l = (λ i h. absurd (not-suc-le-zero h), λ h. omega (arith, digit-zero n, e, l))

pub all-zero : (d n : ℕ) → n < 2 ^ d → ((i : ℕ) → i < d → digit n i ≡ 0) → n ≡ 0
all-zero zero n h f = lt-one h
all-zero (suc d) n h f =
    omega (arith, div-add-mod' n 2, digit-zero n, f 0 (zero-lt-suc d), all-zero d (n / 2) (shr_lt d 1 (subst (λ (x : ℕ). n < 2 ^ x) (sym (add-one d)) h)) (λ i l. sym (digit-suc n i) ∙ f (suc i) (suc-le-suc l)))

-- sets with the same numbers are the same
pub same_set : (d n m : ℕ) → n < 2 ^ d → m < 2 ^ d → ((i : ℕ) → i < d → digit n i ≡ digit m i) → n ≡ m
same_set zero n m h k f = lt-one h ∙ sym (lt-one k)
same_set (suc d) n m h k f =
    omega (
      arith,
      div-add-mod' n 2,
      div-add-mod' m 2,
      digit-zero n,
      digit-zero m,
      f 0 (zero-lt-suc d),
      same_set d (n / 2) (m / 2) (half n h) (half m k) (λ i l. sym (digit-suc n i) ∙ f (suc i) (suc-le-suc l) ∙ digit-suc m i),
    )
  where
    half : (x : ℕ) → x < 2 ^ suc d → x / 2 < 2 ^ d
    half x l = shr_lt d 1 (subst (λ (y : ℕ). x < 2 ^ y) (sym (add-one d)) l)

pub trailing-in : (d n : ℕ) → n < 2 ^ d → (n ≡ 0 → ⊥) → count_trailing_zeros d n < d
trailing-in d n h z = ⊎_elim (λ e. absurd (z (all-zero d n h (λ i l. (trailing d n).0 i (subst (λ (x : ℕ). i < x) (sym e) l))))) (λ e. omega (arith, trailing_le d n)) (same_or (count_trailing_zeros d n) d)

pub lowest : (l : ℕ) → l < 2 ^ 64 → (l ≡ 0 → ⊥) → LowestAt 64 l (count_trailing_zeros 64 l)
lowest l h z = let t = trailing-in 64 l h z in record { small = t; here = (trailing 64 l).1 t; past = λ k q e. omega (arith, (trailing 64 l).0 k q) }

-- ---- the measure

pub absent-most : (d l : ℕ) → absent d l ≤ d
unfolding absent
absent-most zero l = zero-le
absent-most (suc d) l = omega (arith, absent-most d l)

module _ (l m : ℕ) (s : Sub l m) where
  one_less : (k : ℕ) → 1 - digit m k ≤ 1 - digit l k
  one_less k = go (digit l k) refl (digit_lt l k)
    where
      go : (x : ℕ) → digit l k ≡ x → x < 2 → 1 - digit m k ≤ 1 - x
      go zero e h = omega arith
      go (suc zero) e h = omega (arith, s k e)
      go (suc (suc x)) e h = omega arith

  pub absent-le : (d : ℕ) → absent d m ≤ absent d l
  unfolding absent
  absent-le zero = zero-le
  absent-le (suc d) = omega (arith, absent-le d, one_less d)

  pub absent-less : (d j : ℕ) → j < d → (In l j → ⊥) → In m j → absent d m < absent d l
  unfolding absent
  absent-less zero j h new put = absurd (not-suc-le-zero h)
  absent-less (suc d) j h new put = ⊎_elim
      (λ e. omega (arith, absent-le d, ap (digit m) e, ap (digit l) e, put, zero_of (digit_lt l j)))
      (λ e. omega (arith, one_less d, absent-less d j (lt_of e) new put)) (same_or j d)
    where
      zero_of : digit l j < 2 → digit l j ≡ 0
      zero_of b = ⊎_elim (λ q. absurd (new q)) (λ q. omega arith) (same_or (digit l j) 1)

      lt_of : (j ≡ d → ⊥) → j < d
      lt_of e = omega arith

-- where a number is taken out, fewer are left
pub fewer : (d l j r : ℕ) → j < d → In l j → Cleared l j r → d - absent d r < d - absent d l
fewer d l j r h e c = omega (arith, absent-most d r, absent-less r l c.less d j h c.gone e)

-- ---- two words: the digits of high stand above the w digits of low

pub cat-low : (w a r j : ℕ) → j < w → digit (a * 2 ^ w + r) j ≡ digit r j
cat-low zero a r j h = absurd (not-suc-le-zero h)
cat-low (suc w) a r zero h = digit-zero (a * 2 ^ suc w + r) ∙ block_odd a w r ∙ sym (digit-zero r)
cat-low (suc w) a r (suc j) h =
    digit-suc (a * 2 ^ suc w + r) j ∙ ap (λ (x : ℕ). digit x j) (block_half a w r) ∙ cat-low w a (r / 2) j (le_of_suc-le-suc h) ∙ sym (digit-suc r j)

pub cat-high : (w a r j : ℕ) → r < 2 ^ w → digit (a * 2 ^ w + r) (w + j) ≡ digit a j
unfolding digit
cat-high w a r j h = ap (λ (x : ℕ). x % 2) (sym (shr-shr (a * 2 ^ w + r) w j) ∙ ap (λ (x : ℕ). x / 2 ^ j) (high a w h))

-- a digit of a number below 2 ^ w stands below w
pub digit-in : (w r j : ℕ) → r < 2 ^ w → In r j → j < w
digit-in w r j h e = go (same_or (j - w + w) j)
  where
    alone : r ≡ 0 * 2 ^ w + r
    alone = omega arith

    over : (i : ℕ) → digit r (w + i) ≡ 0
    over i = ap (λ (x : ℕ). digit x (w + i)) alone ∙ cat-high w 0 r i h ∙ none-digit i

    go : (j - w + w ≡ j) ⊎ (j - w + w ≡ j → ⊥) → j < w
    go (inl q) = let z : w + (j - w) ≡ j = omega arith in omega (arith, over (j - w), ap (digit r) z)
    go (inr q) = omega arith

-- what is left of l by 2 ^ j has the digits of l below j
pub below : (l j : ℕ) → Below l j (l % 2 ^ j)
below l j = record {
  less = λ k h. same k (digit-in j (l % 2 ^ j) k small h) ∙ h;
  small = λ k h. digit-in j (l % 2 ^ j) k small h;
  all = λ k q h. sym (same k q) ∙ h;
}
  where
    small : l % 2 ^ j < 2 ^ j
    small = mod-lt l (pow_pos j)

    same : (k : ℕ) → k < j → digit l k ≡ digit (l % 2 ^ j) k
    same k q = ap (λ (x : ℕ). digit x k) (sym (div-add-mod' l (2 ^ j))) ∙ cat-low j (l / 2 ^ j) (l % 2 ^ j) k q

-- l less what is left of it by 2 ^ j has the digits of l from j on
pub from_on : (l j : ℕ) → From l j (l - l % 2 ^ j)
from_on l j = record {
  less = λ k h. high_part (λ x. In (l - l % 2 ^ j) x → In l x) (λ x q h. absurd (omega (arith, low x q))) (λ i h. above i ∙ h) k h;
  large = λ k h. high_part (λ x. In (l - l % 2 ^ j) x → j ≤ x) (λ x q h. absurd (omega (arith, low x q))) (λ i h. omega arith) k h;
  all = λ k q h. high_part (λ x. j ≤ x → In l x → In (l - l % 2 ^ j) x) (λ x q l h. absurd (omega arith)) (λ i _ h. sym (above i) ∙ h) k q h;
}
  where
    whole : l - l % 2 ^ j ≡ l / 2 ^ j * 2 ^ j + 0
    whole = omega (arith, div-add-mod' l (2 ^ j))

    low : (k : ℕ) → k < j → digit (l - l % 2 ^ j) k ≡ 0
    low k q = ap (λ (x : ℕ). digit x k) whole ∙ cat-low j (l / 2 ^ j) 0 k q ∙ none-digit k

    above : (i : ℕ) → digit l (j + i) ≡ digit (l - l % 2 ^ j) (j + i)
    above i = ap (λ (x : ℕ). digit x (j + i)) (sym (div-add-mod' l (2 ^ j))) ∙ cat-high j (l / 2 ^ j) (l % 2 ^ j) i (mod-lt l (pow_pos j))
        ∙ sym (ap (λ (x : ℕ). digit x (j + i)) whole ∙ cat-high j (l / 2 ^ j) 0 i (pow_pos j))

    -- what holds of the digits below j and of those from j on holds of all
    high_part : (P : ℕ → Type 0) → ((k : ℕ) → k < j → P k) → ((i : ℕ) → P (j + i)) → (k : ℕ) → P k
    high_part P f g k = ⊎_elim (λ e. subst P e (g (k - j))) (λ e. f k (omega arith)) (same_or (j + (k - j)) k)

-- l & (l - 1), where j is the lowest digit that is 1: no digit above j changes
pub lowered-at : (l j : ℕ) → In l j → ((k : ℕ) → k < j → In l k → ⊥) → Cleared l j (bit_and l (l - 1))
lowered-at l j e f = record {
  gone = λ h. omega (arith, and-digit l (l - 1) j, at_j);
  less = λ k h. omega (arith, and-digit l (l - 1) k, digit_lt l k);
  kept = λ k h d. omega (arith, and-digit l (l - 1) k, h, above k (over k h d) ∙ h);
}
  where
    q : ℕ
    q = l / 2 ^ j

    bare : l % 2 ^ j ≡ 0
    bare = all-zero j (l % 2 ^ j) (mod-lt l (pow_pos j)) (λ i h. ⊎_elim (λ z. absurd (f i h ((below l j).less i z))) (λ z. omega (arith, digit_lt (l % 2 ^ j) i)) (same_or (digit (l % 2 ^ j) i) 1))

    whole : l ≡ q * 2 ^ j + 0
    whole = omega (arith, div-add-mod' l (2 ^ j), bare)

    upper : (i : ℕ) → digit l (j + i) ≡ digit q i
    upper i = ap (λ (x : ℕ). digit x (j + i)) whole ∙ cat-high j q 0 i (pow_pos j)

    odd : q % 2 ≡ 1
    odd = sym (digit-zero q) ∙ sym (upper 0) ∙ ap (digit l) (let z : j + 0 ≡ j = omega arith in z) ∙ e

    less_one : l - 1 ≡ (q - 1) * 2 ^ j + (2 ^ j - 1)
    less_one = ap (λ (x : ℕ). x - 1) whole ∙ borrowed q odd
      where
        borrowed : (x : ℕ) → x % 2 ≡ 1 → x * 2 ^ j + 0 - 1 ≡ (x - 1) * 2 ^ j + (2 ^ j - 1)
        borrowed zero z = absurd (omega arith)
        borrowed (suc x) z = omega (arith, pow_pos j, suc-mul x (2 ^ j), ap (λ (y : ℕ). y * 2 ^ j) (let y : suc x - 1 ≡ x = omega arith in y))

    lower : (i : ℕ) → digit (l - 1) (j + i) ≡ digit (q - 1) i
    lower i = ap (λ (x : ℕ). digit x (j + i)) less_one ∙ cat-high j (q - 1) (2 ^ j - 1) i (omega (arith, pow_pos j))

    at_j : digit (l - 1) j ≡ 0
    at_j = ap (digit (l - 1)) (let z : j ≡ j + 0 = omega arith in z) ∙ lower 0 ∙ digit-zero (q - 1) ∙ omega (arith, odd)

    above : (k : ℕ) → j < k → digit (l - 1) k ≡ digit l k
    above k h =
        let z : k ≡ j + suc (k - j - 1) = omega arith in
        ap (digit (l - 1)) z ∙ lower (suc (k - j - 1)) ∙ digit-suc (q - 1) (k - j - 1) ∙ ap (λ (x : ℕ). digit x (k - j - 1)) (let y : (q - 1) / 2 ≡ q / 2 = omega (arith, odd) in y)
        ∙ sym (digit-suc q (k - j - 1)) ∙ sym (upper (suc (k - j - 1))) ∙ sym (ap (digit l) z)

    over : (k : ℕ) → In l k → (k ≡ j → ⊥) → j < k
    over k h d = ⊎_elim (λ z. absurd (f k (omega arith) h)) (λ z. omega (arith, d)) (same_or (suc k - j) 0)

-- l & (l - 1) in a word, where 0 - 1 is the last number: nothing shares a digit with 0
pub lowered : (l : ℕ) → l < 2 ^ 64 → Lowered l (bit_and l ((l + 18446744073709551615) % 18446744073709551616))
lowered zero h = record { cleared = λ j e _. absurd (omega (arith, e, none-digit j)); same = λ _. refl }
lowered (suc l) h =
    let e : (suc l + 18446744073709551615) % 18446744073709551616 ≡ suc l - 1 = omega (arith, h) in
    subst (λ (x : ℕ). Lowered (suc l) (bit_and (suc l) x)) (sym e)
    (record { cleared = λ j i f. lowered-at (suc l) j i f; same = λ n. absurd (n _ (lowest (suc l) h (omega arith)).here) })

-- every digit below w of the last number below 2 ^ w
pub every : (w k : ℕ) → k < w → In (2 ^ w - 1) k
every zero k h = absurd (not-suc-le-zero h)
every (suc w) zero h = digit-zero (2 ^ suc w - 1) ∙ omega (arith, pow-suc 2 w, pow_pos w)
every (suc w) (suc k) h = digit-suc (2 ^ suc w - 1) k ∙ ap (λ (x : ℕ). digit x k) (omega (arith, pow-suc 2 w, pow_pos w)) ∙ every w k (le_of_suc-le-suc h)
