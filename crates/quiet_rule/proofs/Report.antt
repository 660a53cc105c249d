-- The report of the quiet plan never says more than L, since each of its numbers is how many inputs of a record share one wavelength.
use mathlib.Core.List.{List}
use Prim.Native.Nat.{ℕ, zero, suc, ◌≤◌, ◌<◌}
use native.Mathlib.Omega.{arith}
use lib.ListN.{length, get_or}
use Rattle.counting.proofs.Most.{most-le}
use Rattle.switch.specs.Plan.{Record}
use Rattle.wavelengths.specs.Shared.{sharing, most_shared, grating_report}
use Rattle.quiet_rule.specs.Limit.{Keeps, none, more}
use Rattle.quiet_rule.specs.Quiet.{quiet_plan}
use Rattle.quiet_rule.proofs.Quiet.{quiet_keeps}

-- so of any plan within the limit
pub keeps-report : (N L : ℕ) {p : List Record} → Keeps N L p → (k : ℕ) → k < length p → get_or (grating_report N p) k 0 ≤ L
unfolding grating_report
keeps-report N L none k l = omega arith
keeps-report N L (more {r = r} s ks) zero l = unfold most_shared in most-le N L (sharing N r) (λ w _. s w)
keeps-report N L (more s ks) (suc k) l = keeps-report N L ks k (omega arith)

pub quiet-report : (W N : ℕ) → N ≤ W → N ≤ 255 → (L : ℕ) → 0 < L → (d : List ℕ) (k : ℕ) → k < length (quiet_plan W N L d) → get_or (grating_report N (quiet_plan W N L d)) k 0 ≤ L
quiet-report W N wide top L limit d = keeps-report N L (quiet_keeps W N wide top L limit d)
