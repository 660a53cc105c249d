-- Planners that are wrong in an easy way, each told by what it answers and leaves: what no planner's promise lets through. Definitions only.
use Rattle.std.specs.Prelude.{Err}
use Rattle.std.specs.Prelude.{◌≡◌, List, ◌∷◌, ℕ, ◌*◌, ◌-◌, ◌<◌, ◌≤◌, length, get_or}
use Rattle.switch.specs.Outcome.{Outcome}
use Rattle.switch.specs.declared.Refusal.{Refusal}
use Rattle.switch.specs.Answer.{counts_of}
use Rattle.switch.specs.Demand.{cell, longest}
use Rattle.switch.specs.Plan.{Record, Plan, grant, total, Covers}
use Rattle.rules.specs.Doubled.{rotate, turns}
use Rattle.switch.specs.declared.Edition.{Edition}
use Rattle.promises.specs.Planner.{plan_in}

-- what every planner's plan is worth, whatever the rule: it covers, and its total is at most 2T - 1, and 0 where T is 0
pub record Modest (N : ℕ) (d : List ℕ) (p : List Record) : Type 0 where
  pub plan : Plan N p
  pub covers : Covers N (cell N d) p
  pub short : total p ≤ 2 * longest N (cell N d) - 1

-- all N rotations, each held for T
abbrev pub all_rotations : (W N T : ℕ) → List Record
all_rotations W N T = turns W (rotate N) (λ _. T) N 0

-- the first setting is held for T, and the rest grant nothing that is asked
pub record FirstCarriesAll (N : ℕ) (d : List ℕ) (p : List Record) : Type 0 where
  pub first : Record
  pub rest : List Record
  pub is : p ≡ first ∷ rest
  pub held : first.hold ≡ longest N (cell N d)
  pub filler : (i j : ℕ) → i < N → j < N → 0 < cell N d i j → grant rest i j ≡ 0

-- a demand of two ports or more in which some input asks two outputs, and a buffer of zeros
pub record Telling (N : ℕ) (d buf : List ℕ) : Type 0 where
  pub ports : 1 < N
  pub input : ℕ
  pub one : ℕ
  pub other : ℕ
  pub inside : (input < N) × (one < N) × (other < N)
  pub apart : one ≡ other → ⊥
  pub asked : (0 < cell N d input one) × (0 < cell N d input other)
  pub zeros : (k : ℕ) → get_or buf k 0 ≡ 0

-- what a planner then does not do: it does not refuse; it does not write what it would for a demand of nothing, so that no plan serves always; it does
-- not write all rotations at hold T; it does not leave the buffer as it was; its first setting does not carry all; and its records and total are
-- those of the plan that it wrote
pub record Right (E : Edition) (N : ℕ) (d buf : List ℕ) (r : Outcome) (after : List ℕ) : Type 0 where
  pub not-refused : (f : Refusal) → r ≡ Err f → ⊥
  pub not-the-same : (e : List ℕ) → longest N (cell N e) ≡ 0 → Modest N e (plan_in E r after) → ⊥
  pub not-all-rotations : plan_in E r after ≡ all_rotations E.width N (longest N (cell N d)) → ⊥
  pub not-nothing : after ≡ buf → ⊥
  pub not-the-first : FirstCarriesAll N d (plan_in E r after) → ⊥
  pub records : (counts_of r).records ≡ length (plan_in E r after)
  pub total : (counts_of r).total ≡ total (plan_in E r after)
