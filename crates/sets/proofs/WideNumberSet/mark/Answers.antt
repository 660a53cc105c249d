-- The word that j stands in does it, and the other stays.
use native.Mathlib.Omega.{arith}
use Rattle.sets.proofs.Words.{marked-low, marked-high}
use mathlib.Core.Path.{◌≡◌, subst}
use Prim.Native.Nat.{ℕ, ◌+◌, ◌-◌}
use Rattle.sets.specs.Label.{Marked}
use Rattle.sets.specs.Wide.{two}
use Rattle.sets.proofs.WideNumberSet.mark.Goals as goal

pub returns-then-j-lt64 : goal.returns-then-j-lt64
returns-then-j-lt64 c =
    let a = c.args in
    marked-low a.self.high.0 a.self.low.0 c.mark.result.0 a.j (omega arith) (omega arith) (omega arith) c.mark.ensures

pub returns : goal.returns
returns c =
    let a = c.args in
    let e : 64 + (a.j - 64) ≡ a.j = omega arith in
    subst (λ (k : ℕ). Marked (two a.self.high.0 a.self.low.0) k (two c.mark-2.result.0 a.self.low.0)) e
    (marked-high a.self.high.0 c.mark-2.result.0 a.self.low.0 (a.j - 64) (omega arith) c.mark-2.ensures)
