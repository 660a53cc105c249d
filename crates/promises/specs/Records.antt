-- What writing one record comes to, and writing one that was read. Definitions only.
use Rattle.std.specs.Prelude.{Err, Ok}
use Rattle.std.specs.Prelude.{◌≡◌, List, ℕ, ◌+◌, ◌<◌, ◌≤◌, length, take, drop}
use Rattle.switch.specs.declared.Edition.{Edition}
use Rattle.switch.specs.Outcome.{Outcome}
use Rattle.switch.specs.declared.Refusal.{Refusal}
use Rattle.switch.specs.declared.Refusal.TheVariants.{Ports, Room, Malformed}
use Rattle.switch.specs.Answer.{code_of, plan_counts}
use Rattle.switch.specs.Sound.{Sound}
use Rattle.records.specs.Bytes.{record_at}
use Rattle.plans.specs.declared.Step.TheVariants as step
use Rattle.plans.specs.declared.Stepped.{Stepped}
use Rattle.plans.specs.Read.{step_at}

-- a hold and outputs that can be written for N ports into so many bytes
pub record GoodRecord (E : Edition) (hold N : ℕ) (outputs : List ℕ) (size : ℕ) : Type 0 where
  pub some : 0 < N
  pub few : N ≤ E.ports
  pub room : E.width + 4 ≤ size
  pub sound : Sound E.width N (record { hold = hold; outputs = outputs })

-- why a record is not written, each reason only where none before it holds
pub data Unwritable (E : Edition) (hold N : ℕ) (outputs : List ℕ) (size : ℕ) : Refusal → Type 0 where
  -- code 1: N is 0 or more than the edition's ports
  no-ports : (0 < N → N ≤ E.ports → ⊥) → Unwritable E hold N outputs size Ports
  -- code 5: fewer bytes are lent than a record has
  no_room : 0 < N → N ≤ E.ports → size < E.width + 4 → Unwritable E hold N outputs size (Room 1)
  -- code 11: the hold or the outputs are not well formed
  unsound : 0 < N → N ≤ E.ports → E.width + 4 ≤ size → (Sound E.width N (record { hold = hold; outputs = outputs }) → ⊥) → Unwritable E hold N outputs size (Malformed 0)

-- the answer r, and the buffer afterwards
pub record RecordWritten (E : Edition) (hold N : ℕ) (outputs buf : List ℕ) (r : Outcome) (after : List ℕ) : Type 0 where
  -- code 0 exactly when nothing is wrong, with 1 record and its hold as total
  pub taken : GoodRecord E hold N outputs (length buf) → r ≡ Ok (plan_counts 1 0 hold)
  pub only_then : code_of r ≡ 0 → GoodRecord E hold N outputs (length buf)
  -- then a step over the start gives this hold and these outputs, and no byte behind the record is touched
  pub reads-back : code_of r ≡ 0 → step_at E N (take (E.width + 4) after) 0 ≡ record { step = step.Record; hold = hold; outputs = outputs; next = 1 }
  pub later : code_of r ≡ 0 → drop (E.width + 4) after ≡ drop (E.width + 4) buf
  -- and else it has its reason, and no byte is
  pub refuses : (f : Refusal) → r ≡ Err f → Unwritable E hold N outputs (length buf) f
  pub unchanged : (code_of r ≡ 0 → ⊥) → after ≡ buf

-- record `at` of a plan, read as s and written again
pub record WrittenAgain (E : Edition) (plan : List ℕ) (at : ℕ) (s : Stepped E.width) (buf : List ℕ) (r : Outcome) (after : List ℕ) : Type 0 where
  pub taken : r ≡ Ok (plan_counts 1 0 s.hold)
  pub same : take (E.width + 4) after ≡ record_at E.width plan at
  pub later : drop (E.width + 4) after ≡ drop (E.width + 4) buf
