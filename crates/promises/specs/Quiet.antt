-- What a caller of the quiet plan gets, and of the least total within a wavelength limit. Definitions only.
use Rattle.std.specs.Prelude.{Err, Ok}
use Rattle.std.specs.Prelude.{◌≡◌, List, [], ℕ, ◌+◌, ◌*◌, ◌-◌, ◌/◌, ◌<◌, ◌≤◌, length, get_or}
use Rattle.switch.specs.Outcome.{Outcome}
use Rattle.switch.specs.declared.Refusal.{Refusal}
use Rattle.switch.specs.declared.Refusal.TheVariants.{Limit}
use Rattle.switch.specs.Answer.{code_of, counts_of, plan_counts}
use Rattle.switch.specs.Demand.{cell, longest}
use Rattle.switch.specs.Editions.{first_edition}
use Rattle.switch.specs.Plan.{Record, Plan, grant, total, Covers}
use Rattle.quiet_rule.specs.Limit.{busiest, Keeps, least_within}
use Rattle.quiet_rule.specs.Quiet.{pairs, quiet_plan}
use Rattle.promises.specs.Calls.{GratingReport}
use Rattle.promises.specs.Planner.{Fair, Fault, part_of, Plans}

-- what the plan p is worth for the demand d within the limit L
pub record Quiet (N L : ℕ) (d : List ℕ) (p : List Record) : Type 0 where
  -- every record uses each wavelength at most L times, and every pair is granted exactly its cell
  pub keeps : Keeps N L p
  pub grants : (i j : ℕ) → i < N → j < N → grant p i j ≡ cell N d i j
  -- there are at most as many records as cells that are not zero
  pub records : length p ≤ pairs N (cell N d)
  -- with W the most slots asked on one wavelength, the total is at most 2T - 1 + (W - 1) / L; and there is no record where T is 0
  pub short : total p ≤ 2 * longest N (cell N d) - 1 + (busiest N (cell N d) - 1) / L
  pub empty : longest N (cell N d) ≡ 0 → p ≡ []
  -- no plan within the limit has less than the least, and this one has less than three times the least
  pub least : least_within N L (cell N d) ≤ total p
  pub near : 0 < longest N (cell N d) → total p < 3 * least_within N L (cell N d)
  pub thrice : 0 < longest N (cell N d) → (q : List Record) → Plan N q → Keeps N L q → Covers N (cell N d) q → total p < 3 * total q

-- why a demand and a limit are refused, each reason only where none before it holds
pub data Unlimited (N : ℕ) (d : List ℕ) (L : ℕ) : Refusal → Type 0 where
  -- codes 1, 2 and 3
  faulty : {f : Refusal} → Fault first_edition N d f → Unlimited N d L f
  -- code 17: nothing is wrong with the demand, and the limit is 0
  no-limit : Fair first_edition 65535 N d → L ≡ 0 → Unlimited N d L Limit

-- the answer r for a demand and a limit, and the plan's buffer afterwards
pub record PlansQuietly (N : ℕ) (d : List ℕ) (L : ℕ) (buf : List ℕ) (r : Outcome) (after : List ℕ) : Type 0 where
  -- within a limit of at least 1 it is a planner, whose plan is worth all that
  pub plans : 0 < L → Plans first_edition 65535 N d (quiet_plan 64 N L d) (Quiet N L d) buf r after
  -- and a report of the records written never says more than L
  pub reported : code_of r ≡ 0 → (report : List ℕ) → (counts_of r).records ≤ length report → (o : Outcome) (said : List ℕ)
      → GratingReport N (part_of first_edition r after) report o said → (k : ℕ) → k < (counts_of r).records → get_or said k 0 ≤ L
  -- a limit of 0 is refused, and no byte is touched
  pub refuses : L ≡ 0 → (f : Refusal) × (r ≡ Err f) × Unlimited N d L f × (after ≡ buf)

-- the answer r of the call that tells the least total
pub record TellsLeast (N : ℕ) (d : List ℕ) (L : ℕ) (r : Outcome) : Type 0 where
  -- code 0 exactly when the demand is fine and the limit at least 1, with T and the least total
  pub taken : Fair first_edition 65535 N d → 0 < L → r ≡ Ok (plan_counts 0 (longest N (cell N d)) (least_within N L (cell N d)))
  pub only_then : code_of r ≡ 0 → Fair first_edition 65535 N d × (0 < L)
  -- then no plan that covers the demand within the limit, of any length, full or part-filled, has a smaller total
  pub least : code_of r ≡ 0 → (q : List Record) → Plan N q → Keeps N L q → Covers N (cell N d) q → (counts_of r).total ≤ total q
  -- and else it has its reason
  pub refuses : (f : Refusal) → r ≡ Err f → Unlimited N d L f
