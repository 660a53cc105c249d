-- Inner: a record that is laid over a plan only where it is to be written, so that one loop counts records or writes them. Definitions only.
use Rattle.std.specs.Prelude.{◌≡◌, Bool, true, false, cond, List, ℕ, ◌+◌, length}
use Rattle.records.specs.Bytes.{encode, laid}

-- the plan with a string laid over it from a place on, where that is to be written
unfoldable pub laid_if : (writes : Bool) (plan : List ℕ) (at : ℕ) (s : List ℕ) → List ℕ
laid_if writes plan at s = cond writes (laid plan at s) plan

-- one record is laid where it is to be written, and the next one goes behind it
pub record LaidOne (writes : Bool) (edition hold N : ℕ) (out plan : List ℕ) (at : ℕ) (plan' : List ℕ) (at' : ℕ) : Type 0 where
  pub written : writes ≡ true → (plan' ≡ laid plan at (encode edition hold N out)) × (at' ≡ at + (length out + 4))
  pub same : writes ≡ false → (plan' ≡ plan) × (at' ≡ at)
