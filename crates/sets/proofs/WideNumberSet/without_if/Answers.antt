-- The word that j stands in does it, and the other stays.
use mathlib.Core.Path.{◌≡◌, ap, subst}
use Prim.Native.Nat.{ℕ, ◌+◌, ◌-◌}
use native.Mathlib.Omega.{arith}
use Rattle.sets.specs.Label.{Cleared}
use Rattle.sets.specs.Wide.{two}
use Rattle.sets.proofs.Words.{cleared-low, cleared-high}
use Rattle.sets.proofs.WideNumberSet.without_if.Goals as goal

pub returns-then-j-lt64 : goal.returns-then-j-lt64
returns-then-j-lt64 c =
    let a = c.args in
    record {
      cleared = λ g. cleared-low a.self.high.0 a.self.low.0 c.without_if.result.0 a.j (omega arith) (omega arith) (omega arith) (c.without_if.ensures.cleared g);
      same = λ g. ap (two a.self.high.0) (c.without_if.ensures.same g);
    }

pub returns : goal.returns
returns c =
    let a = c.args in
    let e : 64 + (a.j - 64) ≡ a.j = omega arith in
    record {
      cleared = λ g. subst (λ (k : ℕ). Cleared (two a.self.high.0 a.self.low.0) k (two c.without_if-2.result.0 a.self.low.0)) e
          (cleared-high a.self.high.0 c.without_if-2.result.0 a.self.low.0 (a.j - 64) (omega arith) (c.without_if-2.ensures.cleared g));
      same = λ g. ap (λ (x : ℕ). two x a.self.low.0) (c.without_if-2.ensures.same g);
    }
