-- What the lister prints for the bytes at its standard input (§14). Definitions only.
use Rattle.std.specs.Prelude.{Err, Ok}
use Rattle.std.specs.Prelude.{◌≡◌, ◌⊎◌, List, ℕ, zero, suc, ◌+◌, ◌*◌, ◌/◌, ◌<◌, max, length, take}
use Rattle.switch.specs.Outcome.{Outcome}
use Rattle.switch.specs.Answer.{demand_counts}
use Rattle.switch.specs.Demand.{cell}
use Rattle.switch.specs.Plan.{Record, total}
use Rattle.switch.specs.Empty.{empty_slots}
use Rattle.demand.specs.Checked.{Checked}
use Rattle.demand.specs.Check.{check_demand}
use Rattle.rules.specs.Exact.{exact_plan}
use Rattle.wishes.specs.Record.{record_at}
use Rattle.wishes.specs.Wishes.{demand_of, outcome}
use Rattle.text.specs.Text.{plan_text, refused_line}

-- one more than the largest port in the first m records; 0 if there is none
unfoldable pub ports_in : List ℕ → ℕ → ℕ
ports_in s zero = 0
ports_in s (suc m) = max (max (ports_in s m) ((record_at s m).input.0 + 1)) ((record_at s m).output.0 + 1)

-- what that means
pub record PortsIn (s : List ℕ) (m N : ℕ) : Type 0 where
  pub inputs : (k : ℕ) → k < m → (record_at s k).input.0 < N
  pub outputs : (k : ℕ) → k < m → (record_at s k).output.0 < N
  pub least : (N ≡ 0) ⊎ ((k : ℕ) × (k < m) × (((record_at s k).input.0 + 1 ≡ N) ⊎ ((record_at s k).output.0 + 1 ≡ N)))

-- how many ports a list names (§14.2)
abbrev pub ports_of : (s : List ℕ) → ℕ
ports_of s = ports_in s (length s / 8)

-- a plan with what its planner counts: records, T, total and empty slots
abbrev pub counted_text : (N T : ℕ) (d : List ℕ) (p : List Record) → List ℕ
counted_text N T d p = plan_text N (demand_counts (length p) T (total p) (empty_slots N (cell N d) p)) p

-- It prints the exact plan, or what the planner refuses
abbrev pub checked_text : ℕ → List ℕ → Checked → List ℕ
checked_text N d (Ok T) = counted_text N T d (exact_plan 64 N d)
checked_text N d (Err r) = refused_line r

-- of a demand
unfoldable pub demand_text : (N : ℕ) (d : List ℕ) → List ℕ
demand_text N d = checked_text N d (check_demand 64 N d)

-- what the wish list is refused for, or the text of its demand
abbrev pub wished_text : ℕ → List ℕ → Outcome → List ℕ
wished_text N s (Ok c) = demand_text N (demand_of N s (length s / 8))
wished_text N s (Err r) = refused_line r

-- of a wish list for N ports; N 0 or over 16 is code 1
unfoldable pub wish_text : (N : ℕ) (s : List ℕ) → List ℕ
wish_text N s = wished_text N s (outcome 16 N s (N * N))

-- bytes behind the first 4,096 do not count (§14.1)
unfoldable pub listing_of : (s : List ℕ) → List ℕ
listing_of s = let w = take 4096 s in wish_text (ports_of w) w
