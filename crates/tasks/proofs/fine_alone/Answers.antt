-- Each return is the test that decides.
use mathlib.Core.Path.{ap₂, ◌∙◌}
use native.Mathlib.Omega.{arith}
use lib.Dec.{ltb}
use Rattle.tasks.proofs.Fine.{bad-input, bad-output, bad-third, bad-fourth, times-decide}
use Rattle.tasks.proofs.fine_alone.Goals as goal

pub returns-then-n-from : goal.returns-then-n-from
returns-then-n-from c = bad-input _ _ (omega (arith, c.from.ensures, c.if-n-from.true))

pub returns-then-n-from-2 : goal.returns-then-n-from-2
returns-then-n-from-2 c = bad-output _ _ (omega (arith, c.from-2.ensures, c.if-n-from-2.true))

pub returns-then-rec-ne0 : goal.returns-then-rec-ne0
returns-then-rec-ne0 c = bad-third _ _ c.if-rec-ne0.true

pub returns-then-rec-ne0-2 : goal.returns-then-rec-ne0-2
returns-then-rec-ne0-2 c = bad-fourth _ _ c.if-rec-ne0-2.true

pub returns : goal.returns
returns c =
    ap₂ ltb c.word_at.ensures c.word_at-2.ensures
    ∙ times-decide _ _
    (omega (arith, c.from.ensures, c.if-n-from.false))
    (omega (arith, c.from-2.ensures, c.if-n-from-2.false))
    c.if-rec-ne0.false
    c.if-rec-ne0-2.false
