-- What it means that a contract determines what a call gives. Definitions only.
use Rattle.std.specs.Prelude.{◌≡◌}

-- any two answers that meet the contract C are equal
abbrev pub OneAnswer : {A : Type 0} → (A → Type 0) → Type 0
OneAnswer {A} C = (a b : A) → C a → C b → a ≡ b

-- any two answers are, and so is every byte of lent memory afterwards
abbrev pub OneResult : {A B : Type 0} → (A → B → Type 0) → Type 0
OneResult {A} {B} C = (a b : A) (l m : B) → C a l → C b m → (a ≡ b) × (l ≡ m)
