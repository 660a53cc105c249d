-- What a planner's call answers, and the plan buffer's bytes afterwards, in any edition. Definitions only.
use Rattle.std.specs.Prelude.{Err, Ok}
use Rattle.std.specs.Prelude.{cond, List, ℕ, length, ltb, leb}
use Rattle.switch.specs.declared.Refusal.TheVariants.{Longest, Room}
use Rattle.switch.specs.declared.Edition.{Edition}
use Rattle.switch.specs.Answer.{demand_counts}
use Rattle.switch.specs.Demand.{cell}
use Rattle.switch.specs.Plan.{Record, total}
use Rattle.switch.specs.Empty.{empty_slots}
use Rattle.switch.specs.Result.{Result, refuses, unless}
use Rattle.demand.specs.Checked.{Checked}
use Rattle.demand.specs.Check.{check_demand}
use Rattle.records.specs.Bytes.{whole, bytes, laid}

-- the plan's records at the buffer's start, and nothing else touched; T and the empty slots are those for the demand, and 0 where there is none
unfoldable pub writes : (E : Edition) (N T empty : ℕ) (p : List Record) (buf : List ℕ) → Result
writes E N T empty p buf = record { outcome = Ok (demand_counts (length p) T (total p) empty); bytes = laid buf 0 (bytes E.byte N p) }

-- code 5: there is room for fewer whole records than the plan has (§9.7)
unfoldable pub room_for : (E : Edition) (N T empty : ℕ) (p : List Record) (buf : List ℕ) → Result
room_for E N T empty p buf = unless (leb (length p) (whole E.width buf)) (refuses (Room (length p)) buf) (writes E N T empty p buf)

-- a demand that is refused by itself, and else what is done with its longest line
abbrev pub after_check : Checked → (go : ℕ → Result) (buf : List ℕ) → Result
after_check (Ok T) go buf = go T
after_check (Err r) go buf = refuses r buf

-- a planner whose rule makes the plan p of the demand d: codes 1, 2, 3, then 5
unfoldable pub planned : (E : Edition) (N : ℕ) (d : List ℕ) (p : List Record) (buf : List ℕ) → Result
planned E N d p buf = after_check (check_demand E.ports N d) (λ T. room_for E N T (empty_slots N (cell N d) p) p buf) buf

-- the same for a rule that takes no T over a limit: code 4 before 5
unfoldable pub planned_up_to : (limit : ℕ) (E : Edition) (N : ℕ) (d : List ℕ) (p : List Record) (buf : List ℕ) → Result
planned_up_to limit E N d p buf =
    after_check (check_demand E.ports N d) (λ T. unless (leb T limit) (refuses Longest buf) (room_for E N T (empty_slots N (cell N d) p) p buf)) buf

-- inner: by how many records a plan does not fit the room: all that it has; and 0 where it fits
unfoldable pub shortage : (room need : ℕ) → ℕ
shortage room need = cond (ltb room need) need 0
