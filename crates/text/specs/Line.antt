-- A line of text: one space between fields, a line feed at the end (§14.3). Definitions only.
use Rattle.std.specs.Prelude.{List, [], ◌∷◌, ◌++◌, ℕ}

abbrev pub space : ℕ
space = 32

abbrev pub feed : ℕ
feed = 10

-- fields, each after one space
unfoldable pub spaced : List (List ℕ) → List ℕ
spaced [] = []
spaced (f ∷ fs) = space ∷ (f ++ spaced fs)

-- a line of a first field and others
unfoldable pub line : (f : List ℕ) (fs : List (List ℕ)) → List ℕ
line f fs = f ++ spaced fs ++ (feed ∷ [])
