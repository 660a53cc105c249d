-- Joining equal settings. Definitions only.
use Rattle.std.specs.Prelude.{List, [], ◌∷◌, ◌++◌, ℕ, zero, suc, ◌/◌, ◌%◌, replicate}
use Rattle.switch.specs.Plan.{Record}
use Rattle.records.specs.Bytes.{plan_of}
use Rattle.switch.specs.declared.Edition.{Edition}
use Rattle.plans.specs.Read.{checking}
use Rattle.switch.specs.Result.{Result, after_reading}
use Rattle.planner.specs.Planned.{room_for}
use Rattle.tally.specs.Sums.{sums}

-- a setting o held for h
abbrev pub held : (h : ℕ) (o : List ℕ) → Record
held h o = record { hold = h; outputs = o }

-- what is left, if any
unfoldable pub rest : ℕ → List ℕ → List Record
rest zero o = []
rest (suc h) o = held (suc h) o ∷ []

-- a sum as records of at most 65,535, of which only the last is shorter (§12.2)
unfoldable pub pieces : (h : ℕ) (o : List ℕ) → List Record
pieces h o = replicate (h / 65535) (held 65535 o) ++ rest (h % 65535) o

-- each sum as records
unfoldable pub cut : List Record → List Record
cut [] = []
cut (s ∷ q) = pieces s.hold s.outputs ++ cut q

-- the settings by first appearance, each with the sum of its holds (§12.2)
unfoldable pub join_plan : (p : List Record) → List Record
join_plan p = cut (sums p)

-- refusals 1, 9, 10, 11, 5; records and total of the plan that is written, no T and no empty slots
unfoldable pub joining : (E : Edition) (N : ℕ) (plan buf : List ℕ) → Result
joining E N plan buf =
    after_reading (checking E N plan) buf (λ c. room_for E N 0 0 (join_plan (plan_of E.width plan)) buf)
