-- The word that j stands in does it, and the other stays.
use native.Mathlib.Omega.{arith}
use Rattle.sets.proofs.Words.{low, high}
use mathlib.Core.Path.{◌≡◌, sym, ap, ◌∙◌}
use Prim.Native.Nat.{ℕ, ◌+◌, ◌-◌}
use lib.Dec.{eqb}
use Rattle.sets.specs.Label.{digit}
use Rattle.sets.specs.Wide.{two}
use Rattle.sets.proofs.WideNumberSet.has.Goals as goal

pub returns-then-j-lt64 : goal.returns-then-j-lt64
returns-then-j-lt64 c =
    let a = c.args in
    c.has.ensures ∙ sym (ap (λ (x : ℕ). eqb x 1) (low a.self.high.0 a.self.low.0 a.j (omega arith)))

pub returns : goal.returns
returns c =
    let a = c.args in
    let e : 64 + (a.j - 64) ≡ a.j = omega arith in
    c.has-2.ensures
    ∙ sym (ap (λ (x : ℕ). eqb x 1) (ap (digit (two a.self.high.0 a.self.low.0)) (sym e) ∙ high a.self.high.0 a.self.low.0 (a.j - 64) (omega arith)))
