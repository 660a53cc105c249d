-- Words as bytes, in ASCII. Definitions only.
use Rattle.std.specs.Prelude.{List, ℕ}
use mathlib.Core.List as list
use Prim.Native.Char.{code}
use Prim.Native.String.{String, [], ◌∷◌}

-- a byte for each character
abbrev pub ascii : String → List ℕ
ascii [] = list.[]
ascii (c ∷ s) = list.◌∷◌ (code c) (ascii s)
