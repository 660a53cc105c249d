-- Inner: what a pass over a damaged plan has kept, what is left of a demand, and what is known before anything is written. Definitions only.
use Rattle.std.specs.Prelude.{◌≡◌, ◌⊎◌, List, ℕ, ◌+◌, ◌*◌, ◌-◌, ◌<◌, ◌≤◌, length, get_or}
use Rattle.switch.specs.declared.Edition.{Edition}
use Rattle.switch.specs.Demand.{cell}
use Rattle.switch.specs.Plan.{total}
use Rattle.switch.specs.Empty.{empty_slots}
use Rattle.rules.specs.Exact.{exact_plan}
use Rattle.records.specs.Bytes.{whole}
use Rattle.plans.specs.Reading.{Readable}
use Rattle.grants.specs.Grants.{Grants}
use Rattle.peel.specs.Standing.{Cells}
use Rattle.rescue_rule.specs.Rescue.{kept_to, kept, torn_tail, dropped, added, rescued}
use Rattle.rescue.specs.declared.Kept.{Kept}
use Rattle.rescue.specs.declared.Stock.{Stock}

-- the first k records have been gone over: how many are kept, their holds summed, and what they grant
pub record Keeping (W e N : ℕ) (plan : List ℕ) (k : ℕ) (c : Kept) (g : List ℕ) : Type 0 where
  pub records : c.records ≡ length (kept_to W e N plan k)
  pub holds : c.total ≡ total (kept_to W e N plan k)
  pub small : c.total ≤ 65535 * k
  pub grants : Grants N (kept_to W e N plan k) g

-- of m cells, at each the larger of 0 and asked less granted; what stands behind them is not touched
pub record Left (m : ℕ) (d g after : List ℕ) : Type 0 where
  pub size : length after ≡ length g
  pub is : (k : ℕ) → k < m → get_or after k 0 ≡ get_or d k 0 - get_or g k 0

-- what is known of a plan that is to be rescued, w being what its kept records leave uncovered
pub record Stocked (E : Edition) (N : ℕ) (damaged : List ℕ) (s : Stock) (w : List ℕ) : Type 0 where
  pub reads : Readable E N damaged (whole E.width damaged)
  pub few : whole E.width damaged + length (torn_tail E.width damaged) ≤ 65536
  pub stays : s.kept ≡ length (kept E.width E.byte N damaged)
  pub goes : s.dropped ≡ length (dropped E.width E.byte N damaged)
  pub held : s.total ≡ total (kept E.width E.byte N damaged) + s.left
  pub cells : Cells N s.left w

-- and of a demand d with it: w is what is left of d, so that its exact plan is what is added
pub record Taken (E : Edition) (N T : ℕ) (d damaged : List ℕ) (s : Stock) (w : List ℕ) : Type 0 where
  pub longest : s.longest ≡ T
  pub stock : Stocked E N damaged s w
  pub plan : exact_plan E.width N w ≡ added E.width N d (kept E.width E.byte N damaged)
  pub empty : s.empty ≡ empty_slots N (cell N d) (rescued E.width E.byte N d damaged)

-- r is all, or neither is more than most
abbrev pub Known : (most all r : ℕ) → Type 0
Known most all r = (r ≡ all) ⊎ ((r ≤ most) × (all ≤ most))
