-- The word that j stands in is cut there: the high one stays above the low one, and there is nothing of the low one below the high one.
use mathlib.Core.Path.{◌≡◌, subst}
use Prim.Native.Nat.{ℕ, ◌+◌, ◌-◌}
use native.Mathlib.Omega.{arith}
use Rattle.sets.specs.Label.{From}
use Rattle.sets.specs.Wide.{two}
use Rattle.sets.proofs.Words.{from_low, from-high}
use Rattle.sets.proofs.WideNumberSet.from.Goals as goal

pub returns-then-j-lt64 : goal.returns-then-j-lt64
returns-then-j-lt64 c =
    let a = c.args in
    from_low a.self.high.0 a.self.low.0 c.from.result.0 a.j (omega arith) (omega arith) (omega arith) c.from.ensures

pub returns : goal.returns
returns c =
    let a = c.args in
    let e : 64 + (a.j - 64) ≡ a.j = omega arith in
    subst (λ (k : ℕ). From (two a.self.high.0 a.self.low.0) k (two c.from-2.result.0 c.none.result.0)) e
    (from-high a.self.high.0 a.self.low.0 c.from-2.result.0 c.none.result.0 (a.j - 64) (omega arith) (omega arith) c.none.ensures c.from-2.ensures)
