-- What joining equal settings comes to. Definitions only.
use Rattle.std.specs.Prelude.{Err, Ok}
use Rattle.std.specs.Prelude.{◌≡◌, List, ℕ, ◌+◌, ◌*◌, ◌≤◌, length, take, drop}
use Rattle.switch.specs.Outcome.{Outcome}
use Rattle.switch.specs.declared.Refusal.{Refusal}
use Rattle.switch.specs.declared.Counts.{Counts}
use Rattle.switch.specs.Answer.{code_of, counts_of, plan_counts}
use Rattle.switch.specs.Plan.{Record, grant, total}
use Rattle.records.specs.Bytes.{whole, plan_of}
use Rattle.switch.specs.declared.Edition.{Edition}
use Rattle.tally.specs.Sums.{sums, Summed}
use Rattle.joining.specs.Join.{cut, join_plan, joining}
use Rattle.promises.specs.Reading.{GoodPlan, Unwritten}

-- the plan q does what p did, with no more records; its records are the settings of p in order of first appearance, each with its holds summed
-- and the sums cut into records of at most 65,535
pub record JoinOf (p q : List Record) : Type 0 where
  pub grants : (i j : ℕ) → grant q i j ≡ grant p i j
  pub holds : total q ≡ total p
  pub no_more : length q ≤ length p
  pub summed : Summed p (sums p)
  pub cuts : q ≡ cut (sums p)

-- the plan that is joined of a plan's bytes, and the part of a buffer that c records take
abbrev pub joined_of : (E : Edition) (plan : List ℕ) → List Record
joined_of E plan = join_plan (plan_of E.width plan)

abbrev pub part : (E : Edition) (c : Counts) (b : List ℕ) → List ℕ
part E c b = take (c.records * (E.width + 4)) b

-- the answer r, and the second buffer afterwards
pub record Joined (E : Edition) (N : ℕ) (plan buf : List ℕ) (r : Outcome) (after : List ℕ) : Type 0 where
  -- code 0 exactly when nothing is wrong with the plan and there is room for the joined one, with the joined one's records and the plan's total
  pub taken : GoodPlan E N plan → length (joined_of E plan) ≤ whole E.width buf
      → r ≡ Ok (plan_counts (length (joined_of E plan)) 0 (total (plan_of E.width plan)))
  pub only_then : code_of r ≡ 0 → GoodPlan E N plan × (length (joined_of E plan) ≤ whole E.width buf)
  -- then the records written are the join, and no byte behind them is touched
  pub joins : code_of r ≡ 0 → JoinOf (plan_of E.width plan) (plan_of E.width (part E (counts_of r) after))
  pub later : code_of r ≡ 0 → drop ((counts_of r).records * (E.width + 4)) after ≡ drop ((counts_of r).records * (E.width + 4)) buf
  -- joined once more, into any buffer, they give there what the plan itself gives
  pub twice : code_of r ≡ 0 → (next : List ℕ) → joining E N (part E (counts_of r) after) next ≡ joining E N plan next
  -- and else it has its reason, and no byte is touched
  pub refuses : (f : Refusal) → r ≡ Err f → Unwritten E N plan (whole E.width buf) (length (joined_of E plan)) f
  pub unchanged : (code_of r ≡ 0 → ⊥) → after ≡ buf
