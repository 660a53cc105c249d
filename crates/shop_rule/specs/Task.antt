-- A task joins an input to an output from its start on, and is over at its end (§21.5). A schedule is a list of tasks. Definitions only.
use Rattle.std.specs.Prelude.{◌≡◌, ◌⊎◌, List, [], ◌∷◌, ℕ, ◌+◌, ◌*◌, ◌-◌, ◌≤◌, ◌<◌, max}
use Rattle.counting.specs.Count.{δ}

pub record Task : Type 0 where
  pub input : ℕ
  pub output : ℕ
  pub start : ℕ
  pub end : ℕ

-- every task passes
pub data Each (P : Task → Type 0) : List Task → Type 0 where
  none : Each P []
  more : {x : Task} {p : List Task} → P x → Each P p → Each P (x ∷ p)

-- every task and each that stands behind it are so related
pub data Ordered (R : Task → Task → Type 0) : List Task → Type 0 where
  nothing : Ordered R []
  before : {x : Task} {p : List Task} → Each (R x) p → Ordered R p → Ordered R (x ∷ p)

-- y starts after x, or with it at a higher output
abbrev pub Rises : (x y : Task) → Type 0
Rises x y = (x.start < y.start) ⊎ ((x.start ≡ y.start) × (x.output < y.output))

-- x is over when y starts, if they share a port
pub record Apart (x y : Task) : Type 0 where
  pub input : x.input ≡ y.input → x.end ≤ y.start
  pub output : x.output ≡ y.output → x.end ≤ y.start

-- how many tasks join input i to output j
unfoldable pub times : List Task → ℕ → ℕ → ℕ
times [] i j = 0
times (x ∷ p) i j = δ x.input i * δ x.output j + times p i j

-- how long they do, all together
unfoldable pub spent : List Task → ℕ → ℕ → ℕ
spent [] i j = 0
spent (x ∷ p) i j = (x.end - x.start) * (δ x.input i * δ x.output j) + spent p i j

-- a list of tasks in order, no port with two at a time, that joins each pair for the time M asks at least
pub record Schedule (N : ℕ) (M : ℕ → ℕ → ℕ) (p : List Task) : Type 0 where
  pub apart : Ordered Apart p
  pub forward : Each (λ x. x.start ≤ x.end) p
  pub served : (i j : ℕ) → i < N → j < N → M i j ≤ spent p i j

-- the latest end, or 0
unfoldable pub latest : List Task → ℕ
latest [] = 0
latest (x ∷ p) = max x.end (latest p)
