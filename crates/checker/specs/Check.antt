-- The checker (§10): whether a plan from anywhere covers a demand. Definitions only.
use Rattle.std.specs.Prelude.{Err, Ok}
use Rattle.std.specs.Prelude.{cond, List, ℕ, ◌*◌, ◌-◌, ◌/◌, ◌%◌, ◌<◌, ◌≤◌, length, ltb}
use Rattle.switch.specs.Outcome.{Outcome}
use Rattle.switch.specs.declared.Refusal.TheVariants.{Uncovered}
use Rattle.switch.specs.Answer.{demand_counts}
use Rattle.switch.specs.Demand.{cell}
use Rattle.switch.specs.Plan.{Record, grant, total}
use Rattle.switch.specs.Empty.{beyond, empty_slots}
use Rattle.demand.specs.Checked.{Checked}
use Rattle.demand.specs.Lines.{over}
use Rattle.demand.specs.Check.{check_demand}
use Rattle.switch.specs.declared.Edition.{Edition}
use Rattle.std.specs.declared.result.Result.{Result}
use Rattle.plans.specs.Reading.{reading}

-- the slots of cell k that M asks and G does not grant
unfoldable pub missing : (N : ℕ) (M G : ℕ → ℕ → ℕ) (k : ℕ) → ℕ
missing N M G k = M (k / N) (k % N) - G (k / N) (k % N)

-- the first cell, in cell order, that is granted less than asked; N² where there is none
unfoldable pub uncovered : (N : ℕ) (M G : ℕ → ℕ → ℕ) → ℕ
uncovered N M G = over 0 (missing N M G) (N * N) 0

-- the same in plain statements: cell k is granted less than asked, and no cell before it
pub record Short (N : ℕ) (M G : ℕ → ℕ → ℕ) (k : ℕ) : Type 0 where
  pub inside : k < N * N
  pub here : G (k / N) (k % N) < M (k / N) (k % N)
  pub before : (j : ℕ) → j < k → M (j / N) (j % N) ≤ G (j / N) (j % N)

-- inner: how grants G meet what M asks: the first cell that falls short, or what is granted beyond all that is asked
unfoldable pub meeting : (N : ℕ) (M G : ℕ → ℕ → ℕ) → (Result ℕ ℕ)
meeting N M G = cond (ltb (uncovered N M G) (N * N)) (Err (uncovered N M G)) (Ok (beyond N M G))

-- code 13: some pair not covered; else records, T, total and empty slots
unfoldable pub covering : (T N : ℕ) (d : List ℕ) (p : List Record) → Outcome
covering T N d p =
    cond (ltb (uncovered N (cell N d) (grant p)) (N * N))
    (Err (Uncovered (uncovered N (cell N d) (grant p))))
    (Ok (demand_counts (length p) T (total p) (empty_slots N (cell N d) p)))

-- a demand that is refused by itself, and else what is done with its longest line
abbrev pub after_demand : Checked → (ℕ → Outcome) → Outcome
after_demand (Ok T) go = go T
after_demand (Err r) go = Err r

-- codes 1, 2, 3, 9, 10, 11, 13 in this order (§9.9)
unfoldable pub check_plan : (E : Edition) (N : ℕ) (d plan : List ℕ) → Outcome
check_plan E N d plan = after_demand (check_demand E.ports N d) (λ T. reading E N plan (covering T N d))
