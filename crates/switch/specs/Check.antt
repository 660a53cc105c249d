-- How many ports a switch may have (§3.1). Definitions only.
use Rattle.std.specs.Prelude.{Bool, ◌&&◌, ℕ, ltb, leb}

-- N is 1 to most
unfoldable pub ports_fine : (most N : ℕ) → Bool
ports_fine most N = ltb 0 N && leb N most
