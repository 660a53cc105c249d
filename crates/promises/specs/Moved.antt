-- What moving a plan from one edition to the other comes to. Definitions only.
use Rattle.std.specs.Prelude.{Err, Ok}
use Rattle.std.specs.Prelude.{◌≡◌, List, ℕ, ◌+◌, ◌*◌, ◌≤◌, drop}
use Rattle.switch.specs.declared.Counts.{Counts}
use Rattle.switch.specs.declared.Edition.{Edition}
use Rattle.switch.specs.Outcome.{Outcome}
use Rattle.switch.specs.declared.Refusal.{Refusal}
use Rattle.switch.specs.Answer.{code_of, counts_of, plan_counts}
use Rattle.switch.specs.Plan.{grant, total}
use Rattle.records.specs.Bytes.{whole, plan_of, laid}
use Rattle.checker.specs.Check.{check_plan}
use Rattle.moving.specs.Move.{moving}
use Rattle.promises.specs.Reading.{GoodPlan, Unwritten}
use Rattle.promises.specs.Joined.{part}

-- a plan of S written as one of T: the answer r, and the second buffer afterwards.
pub record Moved (S T : Edition) (N : ℕ) (plan buf : List ℕ) (r : Outcome) (after : List ℕ) : Type 0 where
  -- code 0 exactly when nothing is wrong with the plan and there is room for its records, with its own records and total
  pub taken : GoodPlan S N plan → whole S.width plan ≤ whole T.width buf → r ≡ Ok (plan_counts (whole S.width plan) 0 (total (plan_of S.width plan)))
  pub only_then : code_of r ≡ 0 → GoodPlan S N plan × (whole S.width plan ≤ whole T.width buf)
  -- then what is written grants what the plan granted, and no byte behind it is touched
  pub grants : code_of r ≡ 0 → (i j : ℕ) → grant (plan_of T.width (part T (counts_of r) after)) i j ≡ grant (plan_of S.width plan) i j
  pub later : code_of r ≡ 0 → drop ((counts_of r).records * (T.width + 4)) after ≡ drop ((counts_of r).records * (T.width + 4)) buf
  -- where the plan passes the checker of its edition, what is written passes that of the other, with the same counts
  pub passes : code_of r ≡ 0 → (d : List ℕ) (c : Counts) → check_plan S N d plan ≡ Ok c → check_plan T N d (part T (counts_of r) after) ≡ Ok c
  -- and moved back, by whoever takes as much and into any buffer with room, it is the plan itself, byte for byte
  pub back : code_of r ≡ 0 → (next : List ℕ) → (counts_of r).records ≤ whole S.width next
      → moving (record { width = T.width; byte = T.byte; ports = S.ports; records = S.records }) S N (part T (counts_of r) after) next ≡ record { outcome = r; bytes = laid next 0 plan }
  -- and else it has its reason, and no byte is touched
  pub refuses : (f : Refusal) → r ≡ Err f → Unwritten S N plan (whole T.width buf) (whole S.width plan) f
  pub unchanged : (code_of r ≡ 0 → ⊥) → after ≡ buf
