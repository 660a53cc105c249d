-- The full settings that use only pairs that E allows, and the first of them in dictionary order (§6.3). Definitions only.
use Rattle.std.specs.Prelude.{◌≡◌, ℕ, ◌<◌}
use Rattle.switch.specs.Plan.{Full}

-- the pairs whose cell is not zero
abbrev pub NonZero : (M : ℕ → ℕ → ℕ) (i j : ℕ) → Type 0
NonZero M i j = 0 < M i j

-- o is a full setting that uses only pairs of E
pub record Fits (N : ℕ) (E : ℕ → ℕ → Type 0) (o : ℕ → ℕ) : Type 0 where
  pub full : Full N o
  pub used : (i : ℕ) → i < N → E i (o i)

-- o and p agree at the inputs below k
abbrev pub Agree : (k : ℕ) (o p : ℕ → ℕ) → Type 0
Agree k o p = (i : ℕ) → i < k → o i ≡ p i

-- o comes before p in dictionary order: at the first input where they differ, o has the lower output
pub record Before (N : ℕ) (o p : ℕ → ℕ) : Type 0 where
  pub place : ℕ
  pub inside : place < N
  pub agree : Agree place o p
  pub lower : o place < p place

-- o fits, and none that fits comes before it
pub record First (N : ℕ) (E : ℕ → ℕ → Type 0) (o : ℕ → ℕ) : Type 0 where
  pub fits : Fits N E o
  pub first : (p : ℕ → ℕ) → Fits N E p → Before N p o → ⊥
