-- The table of bits in §4.4 holds, by computing it.
use Rattle.std.specs.Prelude.{Err, Ok}
use Prim.Native.Nat.{ℕ}
use mathlib.Core.Path.{◌≡◌, refl}
use mathlib.Core.List.{List, [], ◌∷◌, map}
use lib.Ieee.{of_bits}
use Rattle.wish.specs.Wish.{wish_bits, wish_of, finite, worth, ceil}
use Rattle.wish.specs.Wish.{Wish}
use Rattle.wish.specs.declared.Unfit.TheVariants.{NotFinite, BelowZero, AboveMost}

-- the table's first column, and its second
abbrev pub bits : List ℕ
bits = 0x00000000 ∷ 0x80000000 ∷ 0x00000001 ∷ 0x3F800000 ∷ 0x3FC00000 ∷ 0x477FFF00 ∷ 0x477FFF01 ∷ 0x80000001 ∷ 0x7FC00000 ∷ 0x7F800000 ∷ 0xFF800000 ∷ []

abbrev pub answers : List Wish
answers = Ok 0 ∷ Ok 0 ∷ Ok 2 ∷ Ok 2 ∷ Ok 2 ∷ Ok 65535 ∷ Err AboveMost ∷ Err BelowZero ∷ Err NotFinite ∷ Err NotFinite ∷ Err NotFinite ∷ []

pub table : map wish_bits bits ≡ answers
unfolding wish_bits of_bits wish_of finite worth ceil
table = refl
