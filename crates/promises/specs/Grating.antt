-- What the doubled plan for the grating fabric comes to. Definitions only.
use Rattle.std.specs.Prelude.{Err, Ok}
use Rattle.std.specs.Prelude.{◌≡◌, List, ◌++◌, ℕ, ◌*◌, ◌<◌, ◌≤◌, length, get_or, take, drop}
use Rattle.switch.specs.Outcome.{Outcome}
use Rattle.switch.specs.declared.Refusal.{Refusal}
use Rattle.switch.specs.Editions.{first_edition}
use Rattle.switch.specs.Answer.{code_of, counts_of, plan_counts, demand_counts}
use Rattle.switch.specs.Demand.{cell, longest}
use Rattle.switch.specs.Plan.{Record, total}
use Rattle.switch.specs.Empty.{empty_slots}
use Rattle.switch.specs.Sound.{Each}
use Rattle.rules.specs.Doubled.{Doubled}
use Rattle.records.specs.Bytes.{plan_of}
use Rattle.grating.specs.Grating.{grating_plan, first_part, second_part}
use Rattle.promises.specs.Spread.{allowed, Spread}
use Rattle.promises.specs.Planner.{Taken, Why}
use Rattle.promises.specs.Calls.{CheckPlan, GratingReport}

-- what the plan p is worth for the demand d
pub record Spreads (N : ℕ) (d : List ℕ) (p : List Record) : Type 0 where
  -- it covers, with at most 2N records and a total of at most 2T - 1
  pub doubled : Doubled N d p
  -- it has two parts, and each record of the second uses a wavelength once at most where N is odd, and twice at most where N is even
  pub parts : p ≡ first_part 64 N d ++ second_part 64 N d
  pub spread : Each (Spread N) (second_part 64 N d)

-- the answer r for a demand, and the plan's buffer afterwards
pub record GratingGiven (N : ℕ) (d buf : List ℕ) (r : Outcome) (after : List ℕ) : Type 0 where
  -- code 0 exactly when the demand is fine and there is room for the plan, with its records and its total
  pub taken : Taken first_edition 65535 N d (grating_plan 64 N d) buf
      → r ≡ Ok (plan_counts (length (grating_plan 64 N d)) 0 (total (grating_plan 64 N d)))
  pub only_then : code_of r ≡ 0 → Taken first_edition 65535 N d (grating_plan 64 N d) buf
  -- then the records written read back as the plan, which is worth all that, and no byte behind them is touched
  pub reads-back : code_of r ≡ 0 → plan_of 64 (take ((counts_of r).records * 68) after) ≡ grating_plan 64 N d
  pub worth : code_of r ≡ 0 → Spreads N d (grating_plan 64 N d)
  pub later : code_of r ≡ 0 → drop ((counts_of r).records * 68) after ≡ drop ((counts_of r).records * 68) buf
  -- the checker passes them, with the demand's T and the plan's empty slots
  pub passes : code_of r ≡ 0 → (o : Outcome) → CheckPlan N d (take ((counts_of r).records * 68) after) o
      → o ≡ Ok (demand_counts (counts_of r).records (longest N (cell N d)) (counts_of r).total (empty_slots N (cell N d) (grating_plan 64 N d)))
  -- and a report of them says no more than 1, or 2, of each record of the second part
  pub reported : code_of r ≡ 0 → (report : List ℕ) → (counts_of r).records ≤ length report → (o : Outcome) (said : List ℕ)
      → GratingReport N (take ((counts_of r).records * 68) after) report o said
      → (k : ℕ) → length (first_part 64 N d) ≤ k → k < (counts_of r).records → get_or said k 0 ≤ allowed N
  -- and else it has its reason, and no byte is touched
  pub refuses : (f : Refusal) → r ≡ Err f → Why first_edition 65535 N d (grating_plan 64 N d) buf f
  pub unchanged : (code_of r ≡ 0 → ⊥) → after ≡ buf
