-- A number below 2 ^ K is told by its K binary digits, D digits make a number below 2 ^ D, and parities add like numbers.
use mathlib.Core.Path.{◌≡◌, refl, sym, ap, ap₂, ◌∙◌}
use Prim.Native.Nat.{ℕ, zero, suc, ◌+◌, ◌*◌, ◌/◌, ◌%◌, ◌^◌, ◌<◌}
use native.Mathlib.Nat.{two-pow-succ}
use native.Mathlib.Omega.{arith}
use Rattle.counting.specs.Sum.{sum}

-- digit k of m
unfoldable pub bit : ℕ → ℕ → ℕ
bit m zero = m % 2
bit m (suc k) = bit (m / 2) k

pub bit-lt : (m k : ℕ) → bit m k < 2
unfolding bit
bit-lt m zero = omega arith
bit-lt m (suc k) = bit-lt (m / 2) k

pub bits-tell : (K m n : ℕ) → m < 2 ^ K → n < 2 ^ K → ((k : ℕ) → k < K → bit m k ≡ bit n k) → m ≡ n
unfolding bit
bits-tell zero m n a b h = omega arith
bits-tell (suc K) m n a b h =
    omega (arith, h 0 (omega arith), bits-tell K (m / 2) (n / 2) (omega (arith, two-pow-succ K)) (omega (arith, two-pow-succ K)) (λ k l. h (suc k) (omega arith)))

-- the number whose digits are x 0 % 2, x 1 % 2, ..
unfoldable pub code : ℕ → (ℕ → ℕ) → ℕ
code zero x = 0
code (suc D) x = x 0 % 2 + 2 * code D (λ c. x (suc c))

pub code_lt : (D : ℕ) (x : ℕ → ℕ) → code D x < 2 ^ D
unfolding code
code_lt zero x = omega arith
code_lt (suc D) x = omega (arith, two-pow-succ D, code_lt D (λ c. x (suc c)))

pub code-tells : (D : ℕ) (x y : ℕ → ℕ) → code D x ≡ code D y → (c : ℕ) → c < D → x c % 2 ≡ y c % 2
unfolding code
code-tells zero x y e c l = omega arith
code-tells (suc D) x y e zero l = omega arith
code-tells (suc D) x y e (suc c) l = code-tells D (λ c. x (suc c)) (λ c. y (suc c)) (omega arith) c (omega arith)

pub sum-parity : (n : ℕ) (f g : ℕ → ℕ) → ((i : ℕ) → i < n → f i % 2 ≡ g i % 2) → sum n f % 2 ≡ sum n g % 2
unfolding sum
sum-parity zero f g h = refl
sum-parity (suc n) f g h = omega (arith, sum-parity n f g (λ i l. h i (omega arith)), h n (omega arith))

-- the parity of a summand from the parities of the sum and of the other summand
rest-parity : (a b : ℕ) → b % 2 ≡ ((a + b) % 2 + a % 2) % 2
rest-parity a b = omega arith

pub cancel-parity : (a b s a' b' s' : ℕ) → a + b ≡ s → a' + b' ≡ s' → s % 2 ≡ s' % 2 → a % 2 ≡ a' % 2 → b % 2 ≡ b' % 2
cancel-parity a b s a' b' s' p q e f =
    rest-parity a b ∙ ap₂ (λ x y. (x + y) % 2) (ap (λ x. x % 2) p ∙ e ∙ sym (ap (λ x. x % 2) q)) f ∙ sym (rest-parity a' b')
