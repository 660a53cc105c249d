-- A working copy with the demand's cells has no longer lines than the demand, and what is still to come of it from slot 0 on is the demand's quick cover.
use mathlib.Core.Path.{◌≡◌}
use mathlib.Core.List.{List}
use Prim.Native.Nat.{ℕ}
use native.Mathlib.Omega.{arith}
use Rattle.switch.specs.Demand.{cell}
use Rattle.demand.specs.Check.{Asked}
use Rattle.demand.specs.Lines.{Short}
use Rattle.rules.specs.Quick.{quick_plan}
use Rattle.rules.proofs.Exact.{longest-cong}
use Rattle.rules.proofs.QuickFrom.{quick-cong}
use Rattle.board.specs.Level.{Sized}
use Rattle.slot.specs.Filled.{leftover}
use Rattle.quick.specs.Lent.{Copied}

module _ (W N : ℕ) (d w : List ℕ) (z : Sized N w) (same : Copied N d w) where
  pub copied-short : (T : ℕ) → Asked W N T d → Short N w
  copied-short T k = record { sized = record { few = z.few; room = z.room }; lines = omega (arith, k.longest-is, k.small, longest-cong N (cell N w) (cell N d) same) }

  pub copied-plan : leftover W N 0 w ≡ quick_plan W N d
  unfolding leftover quick_plan
  copied-plan = quick-cong W N z.some (omega (arith, z.few)) 0 (cell N w) (cell N d) same
