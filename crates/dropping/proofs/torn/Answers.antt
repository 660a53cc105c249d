-- A remainder or none.
use mathlib.Core.Path.{sym, ◌∙◌}
use mathlib.Core.Logic.{dite}
use native.Mathlib.Decide.{ℕ_discrete}
use borrow.Author.Tests.{eq-eqb, ne_eqb}
use Rattle.rescue_rule.proofs.List.{torn-none, torn-one}
use Rattle.dropping.proofs.torn.Goals as goal

pub returns : goal.returns
returns c =
    dite (ℕ_discrete _ 0)
    (λ z. rw (eq-eqb _ _ z) at c.from.ensures ∙ sym (torn-none c.args.width c.args.damaged.now z))
    (λ n. rw (ne_eqb _ _ n) at c.from.ensures ∙ sym (torn-one c.args.width c.args.damaged.now n))
