-- Going on by one place: twice what stands below the last place, and what stands there; digit by digit that is the place before, around N.
use mathlib.Core.Path.{◌≡◌, sym, ap, ◌∙◌}
use mathlib.Core.Logic.{◌⊎◌, inl, inr}
use Prim.Native.Nat.{ℕ, zero, suc, ◌+◌, ◌-◌, ◌*◌, ◌/◌, ◌%◌, ◌^◌, ◌≤◌, ◌<◌}
use native.Mathlib.Nat.{mod-lt, mod-eq_of_lt, add-mod_right, mod-add-mod, div-add-mod', div-lt_iff_lt-mul, pow-suc, pow-le-pow_right}
use native.Mathlib.Omega.{arith}
use lib.Pow.{pow_pos}
use Rattle.sets.specs.Label.{digit, In}
use Rattle.sets.proofs.Digits.{digit_lt, digit-zero, digit-suc, digit-in, cat-low, same_set, same_or, below}
use Rattle.wavelengths.specs.Shared.{wavelength}
use Rattle.quiet_setting.specs.Choosing.{Around}

-- a set of outputs below N is below 2 ^ N
pub set-small : (N l : ℕ) → N ≤ 64 → l < 2 ^ 64 → ((k : ℕ) → In l k → k < N) → l < 2 ^ N
set-small N l few h inside = omega (arith, same, mod-lt l (pow_pos N))
  where
    same : l ≡ l % 2 ^ N
    same = same_set 64 l (l % 2 ^ N) h (omega (arith, mod-lt l (pow_pos N), div-add-mod' l (2 ^ N))) alike
      where
        alike : (k : ℕ) → k < 64 → digit l k ≡ digit (l % 2 ^ N) k
        alike k _ = go (same_or (digit l k) 1) (same_or (digit (l % 2 ^ N) k) 1)
          where
            go : (digit l k ≡ 1) ⊎ (digit l k ≡ 1 → ⊥) → (digit (l % 2 ^ N) k ≡ 1) ⊎ (digit (l % 2 ^ N) k ≡ 1 → ⊥) → digit l k ≡ digit (l % 2 ^ N) k
            go (inl e) d = e ∙ sym ((below l N).all k (inside k e) e)
            go (inr f) (inl e) = absurd (f ((below l N).less k e))
            go (inr f) (inr g) = omega (arith, digit_lt l k, digit_lt (l % 2 ^ N) k, f, g)

module _ (m l : ℕ) (h : l < 2 ^ suc m) where
  abbrev r : ℕ
  r = l % 2 ^ m * 2 + l / 2 ^ m

  last : l / 2 ^ m < 2
  last = (div-lt_iff_lt-mul (pow_pos m)).1 (omega (arith, pow-suc 2 m))

  pub turned-small : r < 2 ^ suc m
  turned-small = omega (arith, last, mod-lt l (pow_pos m), pow-suc 2 m)

  turned-first : digit r 0 ≡ digit l m
  turned-first = digit-zero r ∙ (unfold digit in omega (arith, last))

  turned-later : (k : ℕ) → k < m → digit r (suc k) ≡ digit l k
  turned-later k lk =
      let half : r / 2 ≡ l % 2 ^ m = omega (arith, last) in
      digit-suc r k ∙ ap (λ (x : ℕ). digit x k) half ∙ sym (cat-low m (l / 2 ^ m) (l % 2 ^ m) k lk) ∙ ap (λ (x : ℕ). digit x k) (div-add-mod' l (2 ^ m))

  pub turned-around : Around (suc m) l r
  turned-around = record { inside = λ k e. digit-in (suc m) r k turned-small e; turns = turns }
    where
      turns : (j : ℕ) → j < suc m → digit r j ≡ digit l ((j + (suc m - 1)) % suc m)
      turns zero lj = turned-first ∙ ap (digit l) (sym (mod-eq_of_lt (let q : m < suc m = omega arith in q)) ∙ ap (λ (x : ℕ). x % suc m) (let e : m ≡ 0 + (suc m - 1) = omega arith in e))
      turns (suc k) lj = turned-later k (omega arith)
          ∙ ap (digit l) (sym (mod-eq_of_lt (let e : k < suc m = omega arith in e)) ∙ sym (add-mod_right k (suc m)) ∙ ap (λ (x : ℕ). x % suc m) (let e : k + suc m ≡ suc k + (suc m - 1) = omega arith in e))

-- the next input reaches an output by the wavelength that reaches the output before from this one
pub wavelength-next : (N v j : ℕ) → v < N → wavelength N (v + 1) j ≡ wavelength N v ((j + (N - 1)) % N)
unfolding wavelength
wavelength-next N v j l =
    sym (add-mod_right (j + (N - (v + 1))) N) ∙ ap (λ (x : ℕ). x % N) (let e : j + (N - (v + 1)) + N ≡ j + (N - 1) + (N - v) = omega arith in e)
    ∙ sym (mod-add-mod (j + (N - 1)) N (N - v))

-- the same on a word, whose first place past the last is 1 << (N - 1)
pub turned-word : (N l : ℕ) → 0 < N → N ≤ 64 → l < 2 ^ 64 → ((k : ℕ) → In l k → k < N) → (f : ℕ) → f ≡ 2 ^ (N - 1)
    → (0 < f) × (l % f * 2 + l / f < 2 ^ 64) × Around N l (l % f * 2 + l / f)
turned-word zero l pos few h inside f e = absurd (omega arith)
turned-word (suc m) l pos few h inside f e =
    let q : f ≡ 2 ^ m = e ∙ ap (λ (x : ℕ). 2 ^ x) (let z : suc m - 1 ≡ m = omega arith in z) in
    let s : l < 2 ^ suc m = set-small (suc m) l few h inside in
    rw q (pow_pos m, omega (arith, turned-small m l s, pow-le-pow_right {n = 2} (omega arith) few), turned-around m l s)
