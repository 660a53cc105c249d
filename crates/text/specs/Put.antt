-- Inner: putting bytes into a lent text, one after the other. Definitions only.
use Rattle.std.specs.Prelude.{◌≡◌, List, ℕ, ◌+◌, length}
use Rattle.records.specs.Bytes.{laid}

-- s stands in the text from `at` on, nothing else is touched, and `next` is the place after it
pub record Put (s before : List ℕ) (at : ℕ) (after : List ℕ) (next : ℕ) : Type 0 where
  pub place : next ≡ at + length s
  pub text : after ≡ laid before at s
