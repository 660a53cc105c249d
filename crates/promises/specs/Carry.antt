-- What a carry-over comes to: the books balance at every pair and over all, and a refusal has its reason and leaves the cells as they were.
-- Definitions only.
use Rattle.std.specs.Prelude.{◌≡◌, List, ℕ, ◌+◌, ◌-◌, ◌*◌, ◌<◌, ◌≤◌, min, length}
use Rattle.switch.specs.declared.About.{About}
use Rattle.switch.specs.declared.About.TheVariants as about
use Rattle.switch.specs.declared.Edition.{Edition}
use Rattle.switch.specs.declared.Refusal.{Refusal}
use Rattle.switch.specs.declared.Refusal.TheVariants.{Ports, Cells, FirstOver}
use Rattle.switch.specs.Demand.{cell, longest}
use Rattle.switch.specs.Plan.{Record, grant, Covers}
use Rattle.switch.specs.Empty.{all_slots}
use Rattle.records.specs.Bytes.{whole, plan_from, plan_of}
use Rattle.carry.specs.Carry.{Carried, done, refused, new_cells}
use Rattle.promises.specs.Planner.{Fair, Fault}
use Rattle.promises.specs.Reading.{GoodPlan, Unread}

-- the cells `new`, of a batch whose records p were run
pub record Renews (N : ℕ) (asked wished : List ℕ) (p : List Record) (new : List ℕ) : Type 0 where
  pub size : length new ≡ N * N
  -- what is left of what was asked, and the new wish on top
  pub each : (i j : ℕ) → i < N → j < N → cell N new i j ≡ (cell N asked i j - grant p i j) + cell N wished i j
  -- old asked and new asked are the new demand and what was granted usefully
  pub balance : (i j : ℕ) → i < N → j < N → cell N asked i j + cell N wished i j ≡ cell N new i j + min (cell N asked i j) (grant p i j)
  pub balance-all : all_slots N (cell N asked) + all_slots N (cell N wished) ≡ all_slots N (cell N new) + all_slots N (λ i j. min (cell N asked i j) (grant p i j))
  -- no line is over 65,535, so a planner takes it
  pub lines : longest N (cell N new) ≤ 65535

-- N is 1 to the edition's most ports, and each of the three rows of cells has N², of which `room` are lent
pub record Square (E : Edition) (N : ℕ) (asked wished : List ℕ) (room : ℕ) : Type 0 where
  pub some : 0 < N
  pub few : N ≤ E.ports
  pub asks : length asked ≡ N * N
  pub wishes : length wished ≡ N * N
  pub lent : room ≡ N * N

-- and there is nothing wrong with the plan, of which so many records can have been run
pub record Stopped (E : Edition) (N : ℕ) (asked plan : List ℕ) (first : ℕ) (wished : List ℕ) (room : ℕ) : Type 0 where
  pub square : Square E N asked wished room
  pub good : GoodPlan E N plan
  pub inside : first ≤ whole E.width plan

-- why a carry-over is refused, and what that is about, each reason only where none before it holds
pub data Uncarried (E : Edition) (N : ℕ) (asked plan : List ℕ) (first : ℕ) (wished : List ℕ) (room : ℕ) : About → Refusal → Type 0 where
  -- code 1
  no-ports : (0 < N → N ≤ E.ports → ⊥) → Uncarried E N asked plan first wished room about.Nothing Ports
  -- code 2: one row of cells is not N²
  no-square : 0 < N → N ≤ E.ports → (length asked ≡ N * N → length wished ≡ N * N → room ≡ N * N → ⊥)
      → Uncarried E N asked plan first wished room about.Nothing (Cells (N * N))
  -- codes 9, 10 and 11, of the whole plan
  in-plan : {f : Refusal} → Square E N asked wished room → Unread E N plan f → Uncarried E N asked plan first wished room about.Plan f
  -- code 15: the plan has fewer records
  past_the_end : Square E N asked wished room → GoodPlan E N plan → whole E.width plan < first
      → Uncarried E N asked plan first wished room about.Nothing (FirstOver (whole E.width plan))
  -- code 3: the demand, the new wishes and the new demand in turn
  in-demand : {f : Refusal} → Stopped E N asked plan first wished room → Fault E N asked f → Uncarried E N asked plan first wished room about.Demand f
  in-wishes : {f : Refusal} → Stopped E N asked plan first wished room → Fair E 65535 N asked → Fault E N wished f
      → Uncarried E N asked plan first wished room about.Wished f
  in_sum : {f : Refusal} → Stopped E N asked plan first wished room → Fair E 65535 N asked → Fair E 65535 N wished
      → Fault E N (new_cells E N asked plan first wished) f → Uncarried E N asked plan first wished room about.Sum f

-- the answer r, and the lent cells before and after
pub record CarriesOn (E : Edition) (N : ℕ) (asked plan : List ℕ) (first : ℕ) (wished before : List ℕ) (r : Carried) (after : List ℕ) : Type 0 where
  -- done exactly when nothing is wrong with what is lent, and no line of the demand, of the wishes or of the new demand is over 65,535
  pub taken : Stopped E N asked plan first wished (length before) → Fair E 65535 N asked → Fair E 65535 N wished
      → Fair E 65535 N (new_cells E N asked plan first wished) → r ≡ done
  pub only_then : r ≡ done → Stopped E N asked plan first wished (length before)
  pub renews : r ≡ done → Renews N asked wished (plan_from E.width plan 0 first) after
  -- a plan that covers and was run to its end leaves the new wishes
  pub at-the-end : r ≡ done → first ≡ whole E.width plan → Covers N (cell N asked) (plan_of E.width plan) → after ≡ wished
  -- and else it has its reason, and no cell is changed
  pub refuses : (a : About) (f : Refusal) → r ≡ refused a f → Uncarried E N asked plan first wished (length before) a f
  pub unchanged : (a : About) (f : Refusal) → r ≡ refused a f → after ≡ before
