-- Each rule's hold is what its definition says, and below u.
use mathlib.Core.Path.{sym, ap, ◌∙◌}
use native.Mathlib.Omega.{arith}
use Rattle.rules.specs.Doubled.{alike}
use Rattle.turns.specs.declared.Rule.{Rule}
use Rattle.turns.specs.Second.{turn, holds_by}
use Rattle.turns.proofs.Holds.{tight-small}
use Rattle.turns.proofs.hold_of.Goals as goal

pub overflow_cast-result : goal.overflow_cast-result
overflow_cast-result c =
    let a = c.args in
    let h = c.requires.0 in
    omega (arith, c.largest_remainder.ensures, tight-small a.n (turn a.way a.n) a.cells.now a.unit a.k h.least, h.most)

pub returns-in-Tight : goal.returns-in-Tight
returns-in-Tight c =
    let a = c.args in
    c.largest_remainder.ensures ∙ ap (λ (r : Rule). holds_by r a.way a.n a.cells.now a.unit a.k) (sym c.in-Tight.is)

pub returns-in-Every : goal.returns-in-Every
unfolding alike
returns-in-Every c =
    let a = c.args in
    ap (λ (r : Rule). holds_by r a.way a.n a.cells.now a.unit a.k) (sym c.in-Every.is)
