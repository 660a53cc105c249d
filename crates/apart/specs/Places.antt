-- Inner: the places of outputs in a word of 64. Definitions only.
use Rattle.std.specs.Prelude.{◌≡◌, List, ℕ, zero, suc, ◌+◌, ◌%◌, ◌^◌, ◌<◌, ltb, get_or}
use Rattle.std.specs.Int.Bits.{bit_or}
use mir.Val.{bool_byte}

-- the place of the output of input i: a port's number, and the last one for idle
abbrev pub place : (o : List ℕ) (i : ℕ) → ℕ
place o i = get_or o i 0 % 64

-- the places that the first k outputs have, as bits
unfoldable pub places_of : (o : List ℕ) (k : ℕ) → ℕ
places_of o zero = 0
places_of o (suc k) = bit_or (places_of o k) (2 ^ place o k)

-- how many of the first k outputs have a place below w
unfoldable pub placed_below : (w : ℕ) (o : List ℕ) (k : ℕ) → ℕ
placed_below w o zero = 0
placed_below w o (suc k) = placed_below w o k + bool_byte (ltb (place o k) w)

-- no two of the first k outputs are v
abbrev pub Once : (v : ℕ) (o : List ℕ) (k : ℕ) → Type 0
Once v o k = (i j : ℕ) → i < k → j < i → get_or o i 0 ≡ v → get_or o j 0 ≡ v → ⊥

-- of the first k outputs no two have the same place below w
abbrev pub Apart : (w : ℕ) (o : List ℕ) (k : ℕ) → Type 0
Apart w o k = (i j : ℕ) → i < k → j < i → place o i < w → place o j ≡ place o i → ⊥
