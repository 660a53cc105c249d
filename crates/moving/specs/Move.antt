-- A plan moved from one edition to another (§18). Definitions only.
use Rattle.std.specs.Prelude.{Ok}
use Rattle.std.specs.Prelude.{List, ◌++◌, map, ℕ, ◌+◌, ◌*◌, ◌-◌, ◌≤◌, length, take, replicate, leb}
use Rattle.switch.specs.declared.Counts.{Counts}
use Rattle.switch.specs.declared.Edition.{Edition}
use Rattle.switch.specs.declared.Refusal.TheVariants.{Room}
use Rattle.switch.specs.Editions.{Bounded}
use Rattle.switch.specs.Plan.{Record}
use Rattle.switch.specs.Result.{Result, refuses, unless, after_reading}
use Rattle.records.specs.Bytes.{whole, plan_of, bytes, laid}
use Rattle.plans.specs.Read.{checking}

-- what can be moved to the first edition: records of the second, N and as many records as the first takes
abbrev pub movable : Edition
movable = record { width = 128; byte = 2; ports = 64; records = 8192 }

-- the outputs of the N inputs, and idle ones up to W
unfoldable pub moved_record : (W N : ℕ) → Record → Record
moved_record W N r = record { hold = r.hold; outputs = take N r.outputs ++ replicate (W - N) 255 }

-- each record in its place
unfoldable pub moved_plan : (W N : ℕ) → List Record → List Record
moved_plan W N p = map (moved_record W N) p

-- the moved records at the buffer's start, and nothing else touched; they are as many as were read, and their total is the same
abbrev pub moves : (T : Edition) (N : ℕ) → List Record → Counts → List ℕ → Result
moves T N p c buf = record { outcome = Ok c; bytes = laid buf 0 (bytes T.byte N (moved_plan T.width N p)) }

-- of a plan of S written as one of T: refusals 1, 9, 10 and 11 as S reads it, then 5 where its records of T have no room
unfoldable pub moving : (S T : Edition) (N : ℕ) (plan buf : List ℕ) → Result
moving S T N plan buf =
    after_reading (checking S N plan) buf
    (λ c. unless (leb c.records (whole T.width buf)) (refuses (Room c.records) buf) (moves T N (plan_of S.width plan) c buf))

-- ---- what the code is told: so many records of a width, and room for each of them

pub record Moving (N : ℕ) (plan : List ℕ) (W : ℕ) (T : Edition) (m : ℕ) (moved : List ℕ) : Type 0 where
  pub bounded : Bounded T
  pub width : W ≤ 128
  pub ports : N ≤ W
  pub few : N ≤ T.width
  pub inside : m ≤ whole W plan
  pub room : m * (T.width + 4) ≤ length moved
