-- A shift brings digit j to the front, and the mask keeps it.
use mathlib.Core.Path.{ap}
use Prim.Native.Nat.{ℕ}
use lib.Dec.{eqb}
use Rattle.sets.proofs.Digits.{has-digit}
use Rattle.sets.proofs.LabelNumberSet.has.Goals as goal

pub returns : goal.returns
returns c = ap (λ (x : ℕ). eqb x 1) (has-digit c.args.self.0 c.args.j)
