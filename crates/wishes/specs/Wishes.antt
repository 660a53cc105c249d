-- What the call on a wish list answers, and what the cells are then (§4.6). Definitions only.
use Rattle.std.specs.Prelude.{Err, Ok}
use Rattle.std.specs.Prelude.{ℕ, zero, suc, ◌+◌, ◌*◌, ◌/◌, ◌%◌, ◌<◌, List, ◌≡◌, eqb, length, set, replicate}
use Rattle.switch.specs.Check.{ports_fine}
use Rattle.switch.specs.Answer.{plan_counts}
use Rattle.switch.specs.Result.{Result, unless}
use Rattle.switch.specs.Demand.{cell}
use Rattle.switch.specs.declared.Refusal.TheVariants.{Ports, Cells, Torn}
use Rattle.switch.specs.declared.Edition.{Edition}
use Rattle.switch.specs.Outcome.{Outcome}
use Rattle.wish.specs.Wish.{wish_bits, slots_of}
use Rattle.wishes.specs.declared.WishRecord.{WishRecord}
use Rattle.wishes.specs.Fault.{Fault}
use Rattle.wishes.specs.Record.{record_at}
use Rattle.wishes.specs.Fault.{NamedBy, first_fault}

-- the cells with a record's slots put in
unfoldable pub put : (N : ℕ) (r : WishRecord) (cells : List ℕ) → List ℕ
put N r cells = set cells (r.input.0 * N + r.output.0) (slots_of (wish_bits r.bits))

-- the demand of the first m records: a pair not named has 0 slots
unfoldable pub demand_of : ℕ → List ℕ → ℕ → List ℕ
demand_of N s zero = replicate (N * N) 0
demand_of N s (suc m) = put N (record_at s m) (demand_of N s m)

-- what that demand is: each named pair's cell is its wish's slots, and every other cell is 0
pub record Demanded (N : ℕ) (s : List ℕ) (m : ℕ) (d : List ℕ) : Type 0 where
  pub size : length d ≡ N * N
  pub named : (k : ℕ) → k < m → cell N d (record_at s k).input.0 (record_at s k).output.0 ≡ slots_of (wish_bits (record_at s k).bits)
  pub other : (i j : ℕ) → i < N → j < N → (NamedBy s m i j → ⊥) → cell N d i j ≡ 0

-- the number of wish records, or the first fault (§9.2)
abbrev pub of_fault : ℕ → Fault → Outcome
of_fault count (Ok u) = Ok (plan_counts count 0 0)
of_fault count (Err r) = Err r

-- codes 1, 2 and 9, then the first fault (§9.9); for a list s and len cells, of a switch of up to `most` ports
unfoldable pub outcome : (most N : ℕ) (s : List ℕ) (len : ℕ) → Outcome
outcome most N s len =
    unless (ports_fine most N) (Err Ports)
    (unless (eqb len (N * N)) (Err (Cells (N * N)))
    (unless (eqb (length s % 8) 0) (Err (Torn (length s / 8))) (of_fault (length s / 8) (first_fault N s (length s / 8)))))

-- a refusal changes no cell
abbrev pub cells_of : ℕ → List ℕ → List ℕ → Outcome → List ℕ
cells_of N s cells (Ok c) = demand_of N s (length s / 8)
cells_of N s cells (Err r) = cells

-- the cells after the call
unfoldable pub cells_after : (most N : ℕ) (s cells : List ℕ) → List ℕ
cells_after most N s cells = cells_of N s cells (outcome most N s (length cells))

-- both, for an edition's switches: a wish list knows no more of an edition than how many ports it has
abbrev pub wishing : Edition → (N : ℕ) (s cells : List ℕ) → Result
wishing E N s cells = record { outcome = outcome E.ports N s (length cells); bytes = cells_after E.ports N s cells }
