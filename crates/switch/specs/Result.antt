-- What a call that writes lent memory gives: its outcome, and the memory's contents afterwards. Definitions only.
use Rattle.std.specs.Prelude.{Err, Ok}
use Rattle.std.specs.Prelude.{◌≡◌, Bool, cond, List, ℕ}
use Rattle.switch.specs.declared.Refusal.{Refusal}
use Rattle.switch.specs.declared.Counts.{Counts}
use Rattle.switch.specs.Outcome.{Outcome}

pub record Result : Type 0 where
  pub outcome : Outcome
  pub bytes : List ℕ

-- a refusal changes nothing that is lent
abbrev pub refuses : (r : Refusal) (lent : List ℕ) → Result
refuses r lent = record { outcome = Err r; bytes = lent }

-- refusals in the order in which they are tried: refused where the test fails, and else what follows
abbrev pub unless : {A : Type 0} → Bool → A → A → A
unless fine refused next = cond fine next refused

-- what follows an outcome: one thing for its refusal, another for its counts
abbrev pub by_outcome : {A : Type 0} → Outcome → (Refusal → A) → (Counts → A) → A
by_outcome (Ok c) refused go = go c
by_outcome (Err r) refused go = refused r

-- what is read is refused by itself, and else what is done with its counts
abbrev pub after_reading : (o : Outcome) (lent : List ℕ) (go : Counts → Result) → Result
after_reading o lent go = by_outcome o (λ r. refuses r lent) go

-- what a call answers, and what it leaves in the lent memory, is what is given
pub record Gives (given : Result) (answer : Outcome) (after : List ℕ) : Type 0 where
  pub outcome : answer ≡ given.outcome
  pub bytes : after ≡ given.bytes
