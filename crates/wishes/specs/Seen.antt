-- Inner: the pairs that the records passed name, as a bit for each pair. Definitions only.
use Rattle.std.specs.Prelude.{ℕ, ◌+◌, ◌*◌, ◌/◌, ◌%◌, ◌<◌, ◌≤◌, Bool, ◌||◌, List, ◌≡◌, eqb, length, get_or}
use Rattle.sets.specs.Label.{is_in}
use Rattle.wishes.specs.Fault.{named}

-- bit p of the words, each of which has 64
unfoldable pub bit_at : (marks : List ℕ) (p : ℕ) → Bool
bit_at marks p = is_in (get_or marks (p / 64) 0) (p % 64)

-- the bit of input i and output j
unfoldable pub seen_pair : (N : ℕ) (marks : List ℕ) (i j : ℕ) → Bool
seen_pair N marks i j = bit_at marks (i * N + j)

-- the pairs that the first m records name are marked, and no other
abbrev pub Seen : (N : ℕ) (s : List ℕ) (m : ℕ) (marks : List ℕ) → Type 0
Seen N s m marks = (i j : ℕ) → i < N → j < N → seen_pair N marks i j ≡ named s m i j

-- room for the pairs of N ports, and no mark
pub record Empty (N : ℕ) (marks : List ℕ) : Type 0 where
  pub room : N * N ≤ 64 * length marks
  pub zero : (k : ℕ) → get_or marks k 0 ≡ 0

-- bit `at` is marked besides, and nothing else changes
pub record Marks (at : ℕ) (marks marks' : List ℕ) : Type 0 where
  pub size : length marks' ≡ length marks
  pub bits : (p : ℕ) → bit_at marks' p ≡ (eqb at p || bit_at marks p)
