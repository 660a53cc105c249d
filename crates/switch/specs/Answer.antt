-- The numbers on paper for each case of an answer: code, place, side, records, T, total, length and empty slots; and what a refusal is about. Definitions only.
use Rattle.std.specs.Prelude.{Err, Ok}
use Rattle.std.specs.Prelude.{ℕ}
use Rattle.switch.specs.declared.Side.{Side}
use Rattle.switch.specs.declared.Side.TheVariants.{Input, Output}
use Rattle.switch.specs.declared.Refusal.{Refusal}
use Rattle.switch.specs.declared.Refusal.TheVariants.{Ports, Cells, Line, Longest, Room, NotFinite, BelowZero, AboveMost}
use Rattle.switch.specs.declared.Refusal.TheVariants.{Torn, Records, Malformed, Named, Uncovered}
use Rattle.switch.specs.declared.Refusal.TheVariants.{LongestOver, NotInForce, FirstOver, ListRoom, Limit}
use Rattle.switch.specs.declared.About.{About}
use Rattle.switch.specs.declared.About.TheVariants as about
use Rattle.switch.specs.declared.Blamed.{Blamed}
use Rattle.switch.specs.declared.Numbers.{Numbers}
use Rattle.switch.specs.declared.Counts.{Counts}
use Rattle.switch.specs.Outcome.{Outcome}

-- the table of codes (§9.7)
abbrev pub refusal_code : Refusal → ℕ
refusal_code Ports = 1
refusal_code (Cells k) = 2
refusal_code (Line s) = 3
refusal_code Longest = 4
refusal_code (Room k) = 5
refusal_code (NotFinite k) = 6
refusal_code (BelowZero k) = 7
refusal_code (AboveMost k) = 8
refusal_code (Torn k) = 9
refusal_code (Records k) = 10
refusal_code (Malformed k) = 11
refusal_code (Named k) = 12
refusal_code (Uncovered k) = 13
refusal_code LongestOver = 3
refusal_code NotInForce = 14
refusal_code (FirstOver k) = 15
refusal_code (ListRoom k) = 16
refusal_code Limit = 17

-- a line's number on its side
abbrev pub line_number : Side → ℕ
line_number (Input p) = p.0
line_number (Output p) = p.0

-- the table of places (§9.7)
abbrev pub refusal_place : Refusal → ℕ
refusal_place Ports = 0
refusal_place (Cells k) = k
refusal_place (Line s) = line_number s
refusal_place Longest = 0
refusal_place (Room k) = k
refusal_place (NotFinite k) = k
refusal_place (BelowZero k) = k
refusal_place (AboveMost k) = k
refusal_place (Torn k) = k
refusal_place (Records k) = k
refusal_place (Malformed k) = k
refusal_place (Named k) = k
refusal_place (Uncovered k) = k
refusal_place LongestOver = 0
refusal_place NotInForce = 0
refusal_place (FirstOver k) = k
refusal_place (ListRoom k) = k
refusal_place Limit = 0

-- the side's number: 1 input, 2 output (§9.8)
abbrev pub side_number : Side → ℕ
side_number (Input p) = 1
side_number (Output p) = 2

-- the side of the line that is refused; 0 where no line is
abbrev pub refusal_side : Refusal → ℕ
refusal_side Ports = 0
refusal_side (Cells k) = 0
refusal_side (Line s) = side_number s
refusal_side Longest = 0
refusal_side (Room k) = 0
refusal_side (NotFinite k) = 0
refusal_side (BelowZero k) = 0
refusal_side (AboveMost k) = 0
refusal_side (Torn k) = 0
refusal_side (Records k) = 0
refusal_side (Malformed k) = 0
refusal_side (Named k) = 0
refusal_side (Uncovered k) = 0
refusal_side LongestOver = 0
refusal_side NotInForce = 0
refusal_side (FirstOver k) = 0
refusal_side (ListRoom k) = 0
refusal_side Limit = 0

-- a refusal with what it is about
abbrev pub blamed : About → Refusal → Blamed
blamed a r = record { about = a; refusal = r }

-- code 0: nothing refused
abbrev pub code_of : Outcome → ℕ
code_of (Ok c) = 0
code_of (Err r) = refusal_code r

abbrev pub place_of : Outcome → ℕ
place_of (Ok c) = 0
place_of (Err r) = refusal_place r

abbrev pub side_of : Outcome → ℕ
side_of (Ok c) = 0
side_of (Err r) = refusal_side r

-- a refusal counts nothing (§9.6)
abbrev pub no_counts : Counts
no_counts = record { records = 0; longest = 0; total = 0; length = 0; empty = 0 }

abbrev pub counts_of : Outcome → Counts
counts_of (Ok c) = c
counts_of (Err r) = no_counts

-- inner: what a call answers on paper; what does not apply is 0
abbrev pub numbers_of : (o : Outcome) → Numbers
numbers_of o = record { code = code_of o; place = place_of o; side = side_of o; counts = counts_of o }

-- the number of what a refusal is about; 0 where there is nothing to tell apart
abbrev pub about_number : About → ℕ
about_number about.Nothing = 0
about_number about.Tonight = 1
about_number about.Standby = 2
about_number about.Plan = 3
about_number about.Demand = 4
about_number about.Wished = 5
about_number about.Sum = 6

-- what the planners and the checker count: records, T, total and empty slots (§9.2)
abbrev pub demand_counts : (records longest total empty : ℕ) → Counts
demand_counts records longest total empty = record { records = records; longest = longest; total = total; length = 0; empty = empty }

-- what a call counts that sets no plan against a demand: no empty slots (§9.4)
abbrev pub plan_counts : (records longest total : ℕ) → Counts
plan_counts records longest total = demand_counts records longest total 0
