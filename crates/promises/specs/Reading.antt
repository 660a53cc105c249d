-- What opening a plan and reading it step by step come to. Definitions only.
use Rattle.std.specs.Prelude.{Err, Ok}
use Rattle.std.specs.Prelude.{◌≡◌, List, ℕ, zero, suc, ◌+◌, ◌%◌, ◌<◌, ◌≤◌, length}
use Rattle.switch.specs.Outcome.{Outcome}
use Rattle.switch.specs.declared.Refusal.{Refusal}
use Rattle.switch.specs.declared.Refusal.TheVariants.{Ports, Room, Torn, Records, Malformed}
use Rattle.switch.specs.Answer.{code_of, plan_counts}
use Rattle.records.specs.Record.{WellFormed}
use Rattle.records.specs.Bytes.{record_at, whole}
use Rattle.switch.specs.declared.Edition.{Edition}
use Rattle.plans.specs.declared.Step.TheVariants as step
use Rattle.plans.specs.declared.Stepped.{Stepped}
use Rattle.plans.specs.Read.{given, nothing, step_at}
use Rattle.reader.specs.declared.Reader.{Reader}
use Rattle.promises.specs.Calls.{ReaderStep}

-- a plan that can be opened for N: whole records, and not too many
pub record Openable (E : Edition) (N : ℕ) (plan : List ℕ) : Type 0 where
  pub some : 0 < N
  pub few : N ≤ E.ports
  pub even : length plan % (E.width + 4) ≡ 0
  pub most : whole E.width plan ≤ E.records

-- a plan with nothing wrong: it can be opened, and each of its records is well formed
pub record GoodPlan (E : Edition) (N : ℕ) (plan : List ℕ) : Type 0 where
  pub opens : Openable E N plan
  pub each : (k : ℕ) → k < whole E.width plan → WellFormed E.width E.byte N (record_at E.width plan k)

-- f is the first damaged record of a plan, or the number of its records where none is damaged
pub record FirstDamaged (E : Edition) (N : ℕ) (plan : List ℕ) (f : ℕ) : Type 0 where
  pub inside : f ≤ whole E.width plan
  pub before : (k : ℕ) → k < f → WellFormed E.width E.byte N (record_at E.width plan k)
  pub here : f < whole E.width plan → WellFormed E.width E.byte N (record_at E.width plan f) → ⊥

-- why a plan is not opened, or not read to its end, each reason only where none before it holds
pub data Unread (E : Edition) (N : ℕ) (plan : List ℕ) : Refusal → Type 0 where
  -- code 1: N is 0 or over the edition's most
  no-ports : (0 < N → N ≤ E.ports → ⊥) → Unread E N plan Ports
  -- code 9: the bytes are not whole records
  torn : 0 < N → N ≤ E.ports → (length plan % (E.width + 4) ≡ 0 → ⊥) → Unread E N plan (Torn (whole E.width plan))
  -- code 10: there are more records than the edition takes
  many : 0 < N → N ≤ E.ports → length plan % (E.width + 4) ≡ 0 → E.records < whole E.width plan → Unread E N plan (Records E.records)
  -- code 11: record k is the first that is damaged
  damaged : Openable E N plan → (k : ℕ) → k < whole E.width plan → FirstDamaged E N plan k → Unread E N plan (Malformed k)

-- why a plan is read and nothing of it written, where `room` is there and `need` is needed
pub data Unwritten (E : Edition) (N : ℕ) (plan : List ℕ) (room need : ℕ) : Refusal → Type 0 where
  unread : {f : Refusal} → Unread E N plan f → Unwritten E N plan room need f
  -- code 5
  no_room : GoodPlan E N plan → room < need → Unwritten E N plan room need (Room need)

-- what opening answers
pub record Opens (E : Edition) (N : ℕ) (plan : List ℕ) (r : Outcome) : Type 0 where
  -- code 0 exactly when the plan can be opened, with its records alone
  pub taken : Openable E N plan → r ≡ Ok (plan_counts (whole E.width plan) 0 0)
  pub only_then : code_of r ≡ 0 → Openable E N plan
  -- and else it has its reason, and every step is the end
  pub refuses : (f : Refusal) → r ≡ Err f → Unread E N plan f
  pub ends : (code_of r ≡ 0 → ⊥) → (at : ℕ) → step_at E N plan at ≡ nothing E step.End at

-- the step at a record of a plan that can be opened: the record, or its damage, or the end; the last two leave the place, and so come again
pub record StepGives (E : Edition) (N : ℕ) (plan : List ℕ) (at : ℕ) (s : Stepped E.width) : Type 0 where
  pub gives : at < whole E.width plan → WellFormed E.width E.byte N (record_at E.width plan at) → s ≡ given (record_at E.width plan at) (at + 1)
  pub damage : at < whole E.width plan → (WellFormed E.width E.byte N (record_at E.width plan at) → ⊥) → s ≡ nothing E (step.Malformed at) at
  pub end : whole E.width plan ≤ at → s ≡ nothing E step.End at

-- step k of a plan that is read from its start
pub record ReadStep (E : Edition) (N : ℕ) (plan : List ℕ) (k : ℕ) (s : Stepped E.width) : Type 0 where
  pub first : ℕ
  pub damaged : FirstDamaged E N plan first
  -- the records in order
  pub gives : k < first → s ≡ given (record_at E.width plan k) (k + 1)
  -- then the damage, or the end, for ever
  pub damage : first ≤ k → first < whole E.width plan → s ≡ nothing E (step.Malformed first) first
  pub end : first ≤ k → first ≡ whole E.width plan → s ≡ nothing E step.End first

-- k steps of a reader r, one after the other, lead to another
pub data Steps (r : Reader) : ℕ → Reader → Type 0 where
  none : Steps r zero r
  more : {k : ℕ} {r' r'' : Reader} {s : Stepped 64} → Steps r k r' → ReaderStep r' s r'' → Steps r (suc k) r''
