-- A word in bytes. Definitions only.
use Rattle.std.specs.Prelude.{List, ℕ, ◌+◌, ◌*◌, get_or}

-- four bytes from `at` on as a number, low byte first
unfoldable pub word : (s : List ℕ) (at : ℕ) → ℕ
word s at = get_or s at 0 + 256 * get_or s (at + 1) 0 + 65536 * get_or s (at + 2) 0 + 16777216 * get_or s (at + 3) 0
