-- How often an anti-rotation uses a wavelength. Definitions only.
use Rattle.std.specs.Prelude.{cond, ℕ, ◌%◌, ◌≤◌, eqb}
use Rattle.switch.specs.Plan.{Record}
use Rattle.wavelengths.specs.Shared.{sharing}

-- how often one of them may use a wavelength: once when N is odd, twice when N is even (§13.6)
unfoldable pub allowed : (N : ℕ) → ℕ
allowed N = cond (eqb (N % 2) 0) 2 1

-- a record that uses no wavelength more often
pub record Spread (N : ℕ) (r : Record) : Type 0 where
  pub uses : (w : ℕ) → sharing N r w ≤ allowed N
