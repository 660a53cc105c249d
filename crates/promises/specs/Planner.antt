-- What a caller of a planner gets, whichever rule makes the plan. Definitions only.
use Rattle.std.specs.Prelude.{Err}
use Rattle.std.specs.Prelude.{◌≡◌, List, ℕ, ◌+◌, ◌*◌, ◌<◌, ◌≤◌, length, take, drop}
use Rattle.counting.specs.Matrix.{row, col}
use Rattle.switch.specs.Outcome.{Outcome}
use Rattle.switch.specs.declared.Refusal.{Refusal}
use Rattle.switch.specs.declared.Refusal.TheVariants.{Ports, Cells, Line, Longest, Room}
use Rattle.switch.specs.Answer.{code_of, counts_of, no_counts, demand_counts}
use Rattle.switch.specs.Demand.{cell, line, longest}
use Rattle.switch.specs.Plan.{Record, total}
use Rattle.switch.specs.Sound.{Each, Sound}
use Rattle.switch.specs.Empty.{empty_slots}
use Rattle.demand.specs.Lines.{line_side}
use Rattle.records.specs.Bytes.{whole, plan_of}
use Rattle.switch.specs.declared.Edition.{Edition}
use Rattle.switch.specs.Editions.{Bounded}
use Rattle.checker.specs.Check.{check_plan}

-- an edition for the planners: a plan may have as many records as any planner writes, which are N² - 2N + 2, 2N, and 2T - 1 with T at most 1,024
pub record Serves (E : Edition) : Type 0 where
  pub bounded : Bounded E
  pub roomy : E.ports * E.ports + 2048 ≤ E.records

-- a demand that a planner takes: N is 1 to the edition's most ports, there are N² cells, and no row and no column sums over `most`
pub record Fair (E : Edition) (most N : ℕ) (d : List ℕ) : Type 0 where
  pub some : 0 < N
  pub few : N ≤ E.ports
  pub cells : length d ≡ N * N
  pub rows : (i : ℕ) → i < N → row N (cell N d) i ≤ most
  pub columns : (j : ℕ) → j < N → col N (cell N d) j ≤ most

-- what a demand is refused for, each fault only where none before it is
pub data Fault (E : Edition) (N : ℕ) (d : List ℕ) : Refusal → Type 0 where
  -- code 1: N is 0 or over the edition's most
  bad-ports : (0 < N → N ≤ E.ports → ⊥) → Fault E N d Ports
  -- code 2: the cells are not N²
  bad-cells : 0 < N → N ≤ E.ports → (length d ≡ N * N → ⊥) → Fault E N d (Cells (N * N))
  -- code 3: line k, the inputs' rows before the outputs' columns, is the first that sums over 65,535
  long-line : 0 < N → N ≤ E.ports → length d ≡ N * N → (k : ℕ) → k < N + N → 65535 < line N d k → ((j : ℕ) → j < k → line N d j ≤ 65535)
      → Fault E N d (Line (line_side N k))

-- a demand that is taken, and a buffer that holds as many whole records as the plan p has
pub record Taken (E : Edition) (most N : ℕ) (d : List ℕ) (p : List Record) (buf : List ℕ) : Type 0 where
  pub fair : Fair E most N d
  pub room : length p ≤ whole E.width buf

-- why a planner refuses
pub data Why (E : Edition) (most N : ℕ) (d : List ℕ) (p : List Record) (buf : List ℕ) : Refusal → Type 0 where
  faulty : {f : Refusal} → Fault E N d f → Why E most N d p buf f
  -- code 4: no line is over 65,535, and T is over the planner's own limit
  over-limit : Fair E 65535 N d → most < longest N (cell N d) → Why E most N d p buf Longest
  -- code 5: there is room for fewer whole records than the plan has
  no_room : Fair E most N d → whole E.width buf < length p → Why E most N d p buf (Room (length p))

-- the bytes of the records that an answer counts
abbrev pub counted : (E : Edition) (r : Outcome) → ℕ
counted E r = (counts_of r).records * (E.width + 4)

-- the part of the buffer that an answer speaks of, and its records as every reader reads them
abbrev pub part_of : (E : Edition) (r : Outcome) (after : List ℕ) → List ℕ
part_of E r after = take (counted E r) after

abbrev pub plan_in : (E : Edition) (r : Outcome) (after : List ℕ) → List Record
plan_in E r after = plan_of E.width (part_of E r after)

-- what code 0 brings: the records read back are a plan that is worth what `Worth` says, the answer's counts are that plan's own beside the
-- demand's T, the checker passes the written part with the same answer, and no byte behind it is touched
pub record Delivers (E : Edition) (N : ℕ) (d buf : List ℕ) (Worth : List Record → Type 0) (r : Outcome) (after : List ℕ) : Type 0 where
  pub sound : Each (Sound E.width N) (plan_in E r after)
  pub worth : Worth (plan_in E r after)
  pub counts : counts_of r
      ≡ demand_counts (length (plan_in E r after)) (longest N (cell N d)) (total (plan_in E r after)) (empty_slots N (cell N d) (plan_in E r after))
  pub passes : check_plan E N d (part_of E r after) ≡ r
  pub size : length after ≡ length buf
  pub behind : drop (counted E r) after ≡ drop (counted E r) buf

-- what a planner promises of its outcome r and of the buffer `after` it, where its rule makes the plan p: code 0 exactly when the demand and the
-- buffer are taken; then it delivers, and what reads back is p; and a refusal has its reason, counts nothing and changes no byte of the buffer
pub record Plans (E : Edition) (most N : ℕ) (d : List ℕ) (p : List Record) (Worth : List Record → Type 0) (buf : List ℕ) (r : Outcome) (after : List ℕ)
    : Type 0 where
  pub taken : code_of r ≡ 0 → Taken E most N d p buf
  pub takes : Taken E most N d p buf → code_of r ≡ 0
  pub delivers : code_of r ≡ 0 → Delivers E N d buf Worth r after
  pub reads-back : code_of r ≡ 0 → plan_in E r after ≡ p
  pub refuses : (f : Refusal) → r ≡ Err f → Why E most N d p buf f × (counts_of r ≡ no_counts) × (after ≡ buf)
