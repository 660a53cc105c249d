-- A line is N cells, side by side or N apart, and the scan for a line over a limit stops at the first.
use mathlib.Core.Path.{◌≡◌, refl, ap, ◌∙◌}
use mathlib.Core.Bool.{cond}
use mathlib.Core.List.{List}
use Prim.Native.Nat.{ℕ, zero, suc, ◌+◌, ◌*◌, ◌-◌, ◌≤◌, ◌<◌}
use native.Mathlib.Omega.{arith}
use native.Mathlib.Nat.{mul-one, add_comm}
use native.Mathlib.Numerals.{add-one}
use native.Mathlib.Decide.{dec_lt}
use lib.ListN.{get_or}
use lib.Dec.{ltb}
use borrow.Author.Tests.{lt-ltb, le-ltb}
use Rattle.counting.specs.Matrix.{row, col}
use Rattle.std.specs.Prelude.{map}
use Rattle.std.specs.List.{sum_by, range_with_len}
use Rattle.std.proofs.lemmas.List.{map-id}
use Rattle.std.proofs.lemmas.List.FromFn.{sum_by-map-range_with_len_more}
use Rattle.counting.specs.Sum.{sum}
use Rattle.counting.proofs.Sum.{sum-cong, sum-const, sum_mono}
use Rattle.switch.specs.Demand.{cell, line}
use Rattle.switch.specs.declared.Side.TheVariants.{Input, Output}
use Rattle.demand.specs.Lines.{over, line_side}

-- ---- what a chain over 0, 1, .., n - 1 sums

pub range-sum : (f : ℕ → ℕ) (n : ℕ) → sum_by f (range_with_len 0 n) ≡ sum n f
unfolding sum
range-sum f zero = refl
range-sum f (suc m) =
    let more : sum_by f (map (λ (x : ℕ). x) (range_with_len 0 (m + 1))) ≡ sum_by f (map (λ (x : ℕ). x) (range_with_len 0 m)) + f m = sum_by-map-range_with_len_more f (λ (x : ℕ). x) 0 m m (omega arith) in
    let plain = rw (map-id (range_with_len 0 (m + 1)), map-id (range_with_len 0 m), add-one m) at more in
    plain ∙ ap (λ (x : ℕ). x + f m) (range-sum f m)

-- no number of them is over c, so neither is the sum over n of these
pub range-small : (f : ℕ → ℕ) (n c : ℕ) → ((i : ℕ) → i < n → f i ≤ c) → sum_by f (range_with_len 0 n) ≤ n * c
range-small f n c h = rw (range-sum f n) (omega (arith, sum_mono n f (λ _. c) h, sum-const n c))

-- a row is N cells side by side, a column N cells N apart
pub row-strided : (N : ℕ) (d : List ℕ) (k : ℕ) → k < N → sum_by (λ b. get_or d (k * N + b * 1) 0) (range_with_len 0 N) ≡ line N d k
unfolding line row cell
row-strided N d k l = rw (lt-ltb _ _ l) (range-sum (λ b. get_or d (k * N + b * 1) 0) N ∙ sum-cong N (λ b. get_or d (k * N + b * 1) 0) (λ b. get_or d (k * N + b) 0) (λ b _. ap (λ (x : ℕ). get_or d (k * N + x) 0) (mul-one b)))

pub col-strided : (N : ℕ) (d : List ℕ) (k : ℕ) → N ≤ k → sum_by (λ b. get_or d (k - N + b * N) 0) (range_with_len 0 N) ≡ line N d k
unfolding line col cell
col-strided N d k l = rw (le-ltb _ _ l) (range-sum (λ b. get_or d (k - N + b * N) 0) N ∙ sum-cong N (λ b. get_or d (k - N + b * N) 0) (λ b. get_or d (b * N + (k - N)) 0) (λ b _. ap (λ (x : ℕ). get_or d x 0) (add_comm (k - N) (b * N))))

pub input-side : (N k : ℕ) → k < N → Input (record { 0 = k }) ≡ line_side N k
unfolding line_side
input-side N k l = rw (lt-ltb _ _ l)

pub output-side : (N k : ℕ) → N ≤ k → Output (record { 0 = k - N }) ≡ line_side N k
unfolding line_side
output-side N k l = rw (le-ltb _ _ l)

-- ---- the first over a limit, with n the end of the scan

module _ (c : ℕ) (f : ℕ → ℕ) where
  pub over-start : (n : ℕ) → over c f n 0 ≡ over c f (n - 0) 0
  over-start n = ap (λ m. over c f m 0) (omega arith)

  pub over-here : (n k : ℕ) → k < n → c < f k → over c f (n - k) k ≡ k
  over-here n k l h = go (n - k) (omega arith)
    where
      go : (m : ℕ) → 0 < m → over c f m k ≡ k
      go zero p = absurd (omega arith)
      go (suc m) p = unfold over in rw (lt-ltb _ _ h)

  pub over-next : (n k : ℕ) → k < n → f k ≤ c → over c f (n - k) k ≡ over c f (n - (k + 1)) (k + 1)
  over-next n k l h = go (n - k) (n - (k + 1)) (omega arith)
    where
      go : (m m' : ℕ) → m ≡ suc m' → over c f m k ≡ over c f m' (k + 1)
      go m m' e = unfold over in rw (e, le-ltb _ _ h, add-one k)

  pub over-end : (n k : ℕ) → n ≤ k → over c f (n - k) k ≡ k
  over-end n k l = go (n - k) (omega arith)
    where
      go : (m : ℕ) → m ≡ 0 → over c f m k ≡ k
      go m e = unfold over in rw e

  -- it is the first: f is over c there, and nowhere before
  pub record FirstOver (k m at : ℕ) : Type 0 where
    pub inside : at < k + m
    pub here : c < f at
    pub before : (i : ℕ) → k ≤ i → i < at → f i ≤ c

  pub over_first : (m k i : ℕ) → k ≤ i → i < k + m → c < f i → FirstOver k m (over c f m k)
  unfolding over
  over_first zero k i a b h = absurd (omega arith)
  over_first (suc m) k i a b h = go (dec_lt c (f k)) (λ q. over_first m (suc k) i q (omega arith) h)
    where
      go : Dec (c < f k) → (suc k ≤ i → FirstOver (suc k) m (over c f m (suc k))) → FirstOver k (suc m) (cond (ltb c (f k)) k (over c f m (suc k)))
      go (yes p) r = rw (lt-ltb _ _ p) (record { inside = omega arith; here = p; before = λ j x y. absurd (omega arith) })
      go (no p) r =
          let q : f k ≤ c = omega (arith, p) in
          let s : FirstOver (suc k) m (over c f m (suc k)) = r (later (dec_lt k i)) in
          rw (le-ltb _ _ q) (record { inside = omega (arith, s.inside); here = s.here; before = λ j x y. past s j x y (dec_lt k j) })
        where
          later : Dec (k < i) → suc k ≤ i
          later (yes z) = z
          later (no z) = let e : k ≡ i = omega (arith, z) in absurd (p (rw e h))

          past : FirstOver (suc k) m (over c f m (suc k)) → (j : ℕ) → k ≤ j → j < over c f m (suc k) → Dec (k < j) → f j ≤ c
          past s j x y (yes z) = s.before j z y
          past s j x y (no z) = let e : k ≡ j = omega (arith, z) in rw (← e) (omega (arith, p))
