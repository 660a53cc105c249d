-- A set of ports is a test, and its size a sum of ones. Definitions only.
use Rattle.std.specs.Prelude.{Bool, true, false, ℕ, eqb}
use Rattle.counting.specs.Sum.{sum}

-- 1 where the test holds, and 0 elsewhere
unfoldable pub ind : Bool → ℕ
ind true = 1
ind false = 0

-- how many of 0 .. n - 1 are in A
unfoldable pub count : (n : ℕ) (A : ℕ → Bool) → ℕ
count n A = sum n (λ i. ind (A i))

-- 1 where the two numbers are equal, and 0 elsewhere
unfoldable pub δ : (i j : ℕ) → ℕ
δ i j = ind (eqb i j)
