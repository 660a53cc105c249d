-- The word that j stands in is cut there: the low one stays below the high one, and there is nothing of the high one above the low one.
use mathlib.Core.Path.{◌≡◌, subst}
use Prim.Native.Nat.{ℕ, ◌+◌, ◌-◌}
use native.Mathlib.Omega.{arith}
use Rattle.sets.specs.Label.{Below}
use Rattle.sets.specs.Wide.{two}
use Rattle.sets.proofs.Words.{below-low, below-high}
use Rattle.sets.proofs.WideNumberSet.below.Goals as goal

pub returns-then-j-lt64 : goal.returns-then-j-lt64
returns-then-j-lt64 c =
    let a = c.args in
    below-low a.self.high.0 a.self.low.0 c.none.result.0 c.below.result.0 a.j (omega arith) (omega arith) (omega arith) c.none.ensures c.below.ensures

pub returns : goal.returns
returns c =
    let a = c.args in
    let e : 64 + (a.j - 64) ≡ a.j = omega arith in
    subst (λ (k : ℕ). Below (two a.self.high.0 a.self.low.0) k (two c.below-2.result.0 a.self.low.0)) e
    (below-high a.self.high.0 a.self.low.0 c.below-2.result.0 (a.j - 64) (omega arith) c.below-2.ensures)
