-- A number as its decimal digits, in ASCII bytes, and what such bytes say. Definitions only.
use Rattle.std.specs.Prelude.{◌≡◌, cond, List, [], ◌∷◌, ◌++◌, ℕ, zero, suc, ◌+◌, ◌*◌, ◌-◌, ◌/◌, ◌%◌, ◌<◌, ◌≤◌, length, get_or, ltb}

-- the byte of a digit
abbrev pub digit : (d : ℕ) → ℕ
digit d = 48 + d

-- the digits of n, the most significant first, where k of them are enough
unfoldable pub digits_in : ℕ → ℕ → List ℕ
digits_in zero n = []
digits_in (suc k) n = cond (ltb n 10) (digit n ∷ []) (digits_in k (n / 10) ++ (digit (n % 10) ∷ []))

-- the digits of n: n has no more than n + 1 of them
unfoldable pub decimal : (n : ℕ) → List ℕ
decimal n = digits_in (suc n) n

-- the number that digits say which follow those of v
unfoldable pub value_after : ℕ → List ℕ → ℕ
value_after v [] = v
value_after v (d ∷ s) = value_after (10 * v + (d - 48)) s

-- what it means that s is n in decimal: digits alone, that say n, with no zero in front but that of 0 itself
pub record Decimal (n : ℕ) (s : List ℕ) : Type 0 where
  pub some : 0 < length s
  pub digits : (i : ℕ) → i < length s → (48 ≤ get_or s i 0) × (get_or s i 0 ≤ 57)
  pub says : value_after 0 s ≡ n
  pub shortest : 1 < length s → 48 < get_or s 0 0
