-- Inner: a set of two words is the number high × 2^64 + low, so that every law of a set serves it. Definitions only.
use Rattle.std.specs.Prelude.{ℕ, ◌+◌, ◌*◌, ◌^◌}
use Rattle.sets.specs.declared.Wide.{Wide}

-- two words as one number
unfoldable pub two : (high low : ℕ) → ℕ
two high low = high * 2 ^ 64 + low

-- the set of a label of two words
abbrev pub numbers_of : (w : Wide) → ℕ
numbers_of w = two w.high.0 w.low.0
