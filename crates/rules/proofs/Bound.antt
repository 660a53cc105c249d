-- The 2 ^ K sums of subsets of K settings, each with a cell no later one uses, differ modulo 2; and such a sum is told by (N - 1)² + 1 bits.
use mathlib.Core.Path.{◌≡◌, ap, ◌∙◌}
use mathlib.Core.Logic.{◌≢◌}
use mathlib.Core.Bool.{true}
use Prim.Native.Nat.{ℕ, zero, suc, ◌+◌, ◌*◌, ◌/◌, ◌%◌, ◌^◌, ◌≤◌, ◌<◌}
use native.Mathlib.Decide.{ℕ_discrete, dec_lt}
use native.Mathlib.Omega.{arith}
use lib.Arith.{digits_div, digits_mod, digits_lt}
use lib.Pow.{pow-lt}
use Rattle.counting.specs.Sum.{sum}
use Rattle.counting.specs.Count.{count, ind, δ}
use Rattle.counting.proofs.Sum.{sum-cong, sum-mul, sum-swap, sum-const, sum-change}
use Rattle.counting.proofs.Count.{δ-same, δ-other}
use Rattle.counting.proofs.Pigeonhole.{pigeonhole}
use Rattle.switch.specs.Plan.{Full}
use Rattle.switch.proofs.Plan.{full-row, full-col}
use Rattle.rules.proofs.Parity.{bit, bit-lt, bits-tell, code, code_lt, code-tells, sum-parity, cancel-parity}

-- the settings o 0 .. o (K - 1), each taken s k times, added up
unfoldable pub mix : ℕ → (ℕ → ℕ → ℕ) → (ℕ → ℕ) → ℕ → ℕ → ℕ
mix K o s i j = sum K (λ k. s k * δ (o k i) j)

-- a cell of setting k that no later one uses
pub record Own (N K : ℕ) (o : ℕ → ℕ → ℕ) (k : ℕ) : Type 0 where
  pub place : ℕ
  pub inside : place < N
  pub later : (l : ℕ) → k < l → l < K → o l place ≢ o k place

module _ (n K : ℕ) (o : ℕ → ℕ → ℕ) (full : (k : ℕ) → k < K → Full (suc n) (o k)) where
  mix-row : (s : ℕ → ℕ) (i : ℕ) → i < suc n → sum (suc n) (λ j. mix K o s i j) ≡ sum K s
  unfolding mix
  mix-row s i l = sum-swap (suc n) K (λ j k. s k * δ (o k i) j)
      ∙ sum-cong K (λ k. sum (suc n) (λ j. s k * δ (o k i) j)) s (λ k q. omega (arith, sum-mul (suc n) (s k) (λ j. δ (o k i) j), ap (λ x. s k * x) (full-row (suc n) (o k) (full k q) i l)))

  mix-col : (s : ℕ → ℕ) (j : ℕ) → j < suc n → sum (suc n) (λ i. mix K o s i j) ≡ sum K s
  unfolding mix
  mix-col s j l = sum-swap (suc n) K (λ i k. s k * δ (o k i) j)
      ∙ sum-cong K (λ k. sum (suc n) (λ i. s k * δ (o k i) j)) s (λ k q. omega (arith, sum-mul (suc n) (s k) (λ i. δ (o k i) j), ap (λ x. s k * x) (full-col (suc n) (o k) (full k q) j l)))

  -- two mixes that agree, modulo 2, in the sum and in the first n rows and columns, agree everywhere
  module _ (s t : ℕ → ℕ) (es : sum K s % 2 ≡ sum K t % 2)
      (e : (i j : ℕ) → i < n → j < n → mix K o s i j % 2 ≡ mix K o t i j % 2) where
    last-col : (i : ℕ) → i < n → mix K o s i n % 2 ≡ mix K o t i n % 2
    unfolding sum
    last-col i l = cancel-parity _ _ _ _ _ _ (mix-row s i (omega arith)) (mix-row t i (omega arith)) es (sum-parity n (λ j. mix K o s i j) (λ j. mix K o t i j) (λ j k. e i j l k))

    upper : (i j : ℕ) → i < n → j < suc n → mix K o s i j % 2 ≡ mix K o t i j % 2
    upper i j l k = go (ℕ_discrete j n)
      where
        go : Dec (j ≡ n) → mix K o s i j % 2 ≡ mix K o t i j % 2
        go (yes q) = rw q (last-col i l)
        go (no q) = e i j l (omega arith)

    last_row : (j : ℕ) → j < suc n → mix K o s n j % 2 ≡ mix K o t n j % 2
    unfolding sum
    last_row j k = cancel-parity _ _ _ _ _ _ (mix-col s j k) (mix-col t j k) es (sum-parity n (λ i. mix K o s i j) (λ i. mix K o t i j) (λ i l. upper i j l k))

    everywhere : (i j : ℕ) → i < suc n → j < suc n → mix K o s i j % 2 ≡ mix K o t i j % 2
    everywhere i j l k = go (ℕ_discrete i n)
      where
        go : Dec (i ≡ n) → mix K o s i j % 2 ≡ mix K o t i j % 2
        go (yes q) = rw q (last_row j k)
        go (no q) = upper i j (omega arith) k

  module _ (own : (k : ℕ) → k < K → Own (suc n) K o k) where
    -- so the coefficients agree, one after the other
    module _ (s t : ℕ → ℕ) (bs : (k : ℕ) → s k < 2) (bt : (k : ℕ) → t k < 2)
        (e : (i j : ℕ) → i < suc n → j < suc n → mix K o s i j % 2 ≡ mix K o t i j % 2) where
      next : (k : ℕ) → k < K → ((l : ℕ) → l < k → s l ≡ t l) → s k ≡ t k
      unfolding mix
      next k q ih =
          omega (arith, bs k, bt k, e a b la lb, change, here s, here t)
        where
          a : ℕ
          a = (own k q).place

          la : a < suc n
          la = (own k q).inside

          b : ℕ
          b = o k a

          lb : b < suc n
          lb = (full k q).inside a la

          here : (u : ℕ → ℕ) → u k * δ (o k a) b ≡ u k
          here u = omega (arith, ap (λ x. u k * x) (δ-same b))

          off : (l : ℕ) → l < K → l ≢ k → s l * δ (o l a) b ≡ t l * δ (o l a) b
          off l r ne = go (dec_lt l k)
            where
              go : Dec (l < k) → s l * δ (o l a) b ≡ t l * δ (o l a) b
              go (yes p) = ap (λ x. x * δ (o l a) b) (ih l p)
              go (no p) =
                  let z : δ (o l a) b ≡ 0 = δ-other (o l a) b ((own k q).later l (omega arith) r) in
                  omega (arith, ap (λ x. s l * x) z, ap (λ x. t l * x) z)

          change : sum K (λ l. s l * δ (o l a) b) + t k * δ (o k a) b ≡ sum K (λ l. t l * δ (o l a) b) + s k * δ (o k a) b
          change = sum-change K (λ l. s l * δ (o l a) b) (λ l. t l * δ (o l a) b) k q off

      upto : (k : ℕ) → k ≤ K → (l : ℕ) → l < k → s l ≡ t l
      upto zero h l q = absurd (omega arith)
      upto (suc k) h l q = go (ℕ_discrete l k) (upto k (omega arith))
        where
          go : Dec (l ≡ k) → ((m : ℕ) → m < k → s m ≡ t m) → s l ≡ t l
          go (yes p) r = rw p (next k h r)
          go (no p) r = r l (omega arith)

    -- what tells a mix: its sum, then the n × n cells
    tell : (ℕ → ℕ) → ℕ → ℕ
    tell s zero = sum K s
    tell s (suc c) = mix K o s (c / n) (c % n)

    told : (s t : ℕ → ℕ) → ((c : ℕ) → c < suc (n * n) → tell s c % 2 ≡ tell t c % 2)
        → (i j : ℕ) → i < n → j < n → mix K o s i j % 2 ≡ mix K o t i j % 2
    unfolding tell
    told s t h i j l k = rw (digits_div i k, digits_mod i k) at (h (suc (i * n + j)) (omega (arith, digits_lt l k)))

    number : ℕ → ℕ
    number m = code (suc (n * n)) (tell (bit m))

    number-inj : (m m' : ℕ) → m < 2 ^ K → m' < 2 ^ K → number m ≡ number m' → m ≡ m'
    unfolding number tell
    number-inj m m' l l' e =
        bits-tell K m m' l l' (upto (bit m) (bit m') (bit-lt m) (bit-lt m') (everywhere (bit m) (bit m') (same 0 (omega arith)) (told (bit m) (bit m') same)) K (omega arith))
      where
        same : (c : ℕ) → c < suc (n * n) → tell (bit m) c % 2 ≡ tell (bit m') c % 2
        same = code-tells (suc (n * n)) (tell (bit m)) (tell (bit m')) e

    pub settings-bound : K ≤ suc (n * n)
    unfolding number count ind
    settings-bound = go (dec_lt (suc (n * n)) K)
      where
        all : 2 ^ K ≤ 2 ^ suc (n * n)
        all = omega (
          arith,
          pigeonhole (2 ^ K) (2 ^ suc (n * n)) (λ _. true) (λ _. true) number
              (λ m l _. (code_lt (suc (n * n)) (tell (bit m)), tt)) (λ m m' l l' _ _ e. number-inj m m' l l' e),
          sum-const (2 ^ K) 1,
          sum-const (2 ^ suc (n * n)) 1,
        )

        go : Dec (suc (n * n) < K) → K ≤ suc (n * n)
        go (yes p) = absurd (omega (arith, pow-lt p, all))
        go (no p) = omega arith
