-- The word that j stands in does it, and the other stays.
use native.Mathlib.Omega.{arith}
use Rattle.sets.proofs.Words.{cleared-low, cleared-high}
use mathlib.Core.Path.{◌≡◌, subst}
use Prim.Native.Nat.{ℕ, ◌+◌, ◌-◌}
use Rattle.sets.specs.Label.{Cleared}
use Rattle.sets.specs.Wide.{two}
use Rattle.sets.proofs.WideNumberSet.without.Goals as goal

pub returns-then-j-lt64 : goal.returns-then-j-lt64
returns-then-j-lt64 c =
    let a = c.args in
    cleared-low a.self.high.0 a.self.low.0 c.without.result.0 a.j (omega arith) (omega arith) (omega arith) c.without.ensures

pub returns : goal.returns
returns c =
    let a = c.args in
    let e : 64 + (a.j - 64) ≡ a.j = omega arith in
    subst (λ (k : ℕ). Cleared (two a.self.high.0 a.self.low.0) k (two c.without-2.result.0 a.self.low.0)) e
    (cleared-high a.self.high.0 c.without-2.result.0 a.self.low.0 (a.j - 64) (omega arith) c.without-2.ensures)
