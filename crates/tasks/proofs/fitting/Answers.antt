-- Each return is the test that decides; the ports of a record that is fine by itself are places of the times kept.
use Prim.Native.Nat.{ℕ}
use lib.ListN.{get_or}
use lib.Dec.{leb}
use Rattle.tasks.specs.Read.{follows}
use mathlib.Core.Path.{sym, ap, ap₂, ◌∙◌}
use native.Mathlib.Omega.{arith}
use Rattle.tasks.proofs.Pass.{alone-is}
use Rattle.tasks.proofs.Fine.{not-alone, not-rising, input-busy, output-decides}
use Rattle.tasks.proofs.fitting.Goals as goal

pub returns-then-not-fine_alone : goal.returns-then-not-fine_alone
returns-then-not-fine_alone c = not-alone _ _ _ _ _ _ (sym c.fine_alone.ensures ∙ c.if-not-fine_alone.true)

pub returns-then-not-rising : goal.returns-then-not-rising
returns-then-not-rising c =
    let a = c.args in
    not-rising _ _ _ _ _ _ (sym (c.rising.ensures ∙ ap₂ (follows a.start a.least) c.word_at-begin.ensures c.from-j.ensures) ∙ c.if-not-rising.true)

pub bounds-ins-i : goal.bounds-ins-i
bounds-ins-i c =
    let a = alone-is _ _ (sym c.fine_alone.ensures ∙ c.if-not-fine_alone.false) in
    omega (arith, a.0, c.from-i.ensures)

pub returns-then-begin-ins : goal.returns-then-begin-ins
returns-then-begin-ins c =
    let a = c.args in
    input-busy _ _ _ _ _ _ (omega (arith, c.if-begin-ins.true, c.word_at-begin.ensures, ap (λ (x : ℕ). get_or a.ins.now x 0) c.from-i.ensures))

pub bounds-outs-j : goal.bounds-outs-j
bounds-outs-j c =
    let a = alone-is _ _ (sym c.fine_alone.ensures ∙ c.if-not-fine_alone.false) in
    omega (arith, a.1, c.from-j.ensures)

pub returns : goal.returns
returns c =
    let a = c.args in
    ap₂ leb (ap (λ (x : ℕ). get_or a.outs.now x 0) c.from-j.ensures) c.word_at-begin.ensures
    ∙ output-decides _ _ _ _ _ _
    (sym c.fine_alone.ensures ∙ c.if-not-fine_alone.false)
    (sym (c.rising.ensures ∙ ap₂ (follows a.start a.least) c.word_at-begin.ensures c.from-j.ensures) ∙ c.if-not-rising.false)
    (omega (arith, c.if-begin-ins.false, c.word_at-begin.ensures, ap (λ (x : ℕ). get_or a.ins.now x 0) c.from-i.ensures))
