-- The length of a plan where switching takes d slots (§11). Definitions only.
use Rattle.std.specs.Prelude.{Ok}
use Rattle.std.specs.Prelude.{Bool, true, not, cond, List, ℕ, zero, suc, ◌+◌, length}
use Rattle.counting.specs.Sum.{sum}
use Rattle.switch.specs.declared.Counts.{Counts}
use Rattle.switch.specs.Outcome.{Outcome}
use Rattle.switch.specs.Plan.{Record, total}
use Rattle.switch.specs.declared.Edition.{Edition}
use Rattle.tally.specs.Sums.{same_outputs, setting_at}
use Rattle.plans.specs.Reading.{reading}

-- the mirrors move for the first record, and wherever outputs are not those of the record before (§11.2)
unfoldable pub moves : List Record → ℕ → Bool
moves p zero = true
moves p (suc k) = not (same_outputs (setting_at p k) (setting_at p (suc k)))

-- what record k of plan p is charged: the switching time where the mirrors move
unfoldable pub charge : (d : ℕ) (p : List Record) (k : ℕ) → ℕ
charge d p k = cond (moves p k) d 0

-- total hold, and what the records are charged
unfoldable pub length_of : (d : ℕ) (p : List Record) → ℕ
length_of d p = total p + sum (length p) (charge d p)

-- length gives the length, records and total
abbrev pub length_counts : (d : ℕ) (p : List Record) → Counts
length_counts d p = record { records = length p; longest = 0; total = total p; length = length_of d p; empty = 0 }

-- codes 1, 9, 10, 11 in this order (§9.9)
unfoldable pub plan_length : (E : Edition) (d N : ℕ) (plan : List ℕ) → Outcome
plan_length E d N plan = reading E N plan (λ p. Ok (length_counts d p))
