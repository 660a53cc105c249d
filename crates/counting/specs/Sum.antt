-- Finite sums, and the largest of finitely many numbers. Definitions only.
use Rattle.std.specs.Prelude.{ℕ, zero, suc, ◌+◌, max}

-- f 0 + f 1 + .. + f (n - 1)
unfoldable pub sum : ℕ → (ℕ → ℕ) → ℕ
sum zero f = 0
sum (suc n) f = sum n f + f n

-- the largest of f 0 .. f (n - 1), and 0 where n is 0
unfoldable pub most : ℕ → (ℕ → ℕ) → ℕ
most zero f = 0
most (suc n) f = max (most n f) (f n)
