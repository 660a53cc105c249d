-- Wavelengths on the grating fabric (§13.1), and how many inputs of a record share one. Definitions only.
use Rattle.std.specs.Prelude.{◌≡◌, Bool, ◌&&◌, List, map, ℕ, ◌+◌, ◌-◌, ◌%◌, ◌≤◌, ◌<◌, length, get_or, ltb, eqb}
use Rattle.counting.specs.Sum.{most}
use Rattle.counting.specs.Count.{count}
use Rattle.switch.specs.Plan.{Record, output}

-- the wavelength that leads from input i to output j (§13.1)
unfoldable pub wavelength : (N i j : ℕ) → ℕ
wavelength N i j = (j + (N - i)) % N

-- input i is joined by wavelength w; an idle input is not
unfoldable pub uses : (N : ℕ) (r : Record) (w i : ℕ) → Bool
uses N r w i = ltb (output r i) N && eqb (wavelength N i (output r i)) w

-- how many inputs share wavelength w
unfoldable pub sharing : (N : ℕ) (r : Record) (w : ℕ) → ℕ
sharing N r w = count N (uses N r w)

-- the most inputs that share one wavelength (§13.3)
unfoldable pub most_shared : (N : ℕ) (r : Record) → ℕ
most_shared N r = most N (sharing N r)

-- one number for each record of a plan, in order
unfoldable pub grating_report : (N : ℕ) (p : List Record) → List ℕ
grating_report N p = map (most_shared N) p

-- the same in plain statements: some wavelength has that many inputs, unless it is 0, and none has more
pub record MostShared (N : ℕ) (r : Record) (m : ℕ) : Type 0 where
  pub some : 0 < m → (w : ℕ) × (w < N) × (sharing N r w ≡ m)
  pub no_more : (w : ℕ) → sharing N r w ≤ m

-- inner: what the code is told of its counts: each is how many inputs of record r share that wavelength
pub record Shares (N : ℕ) (r : Record) (s : List ℕ) : Type 0 where
  pub room : N ≤ length s
  pub is : (w : ℕ) → w < N → get_or s w 0 ≡ sharing N r w
