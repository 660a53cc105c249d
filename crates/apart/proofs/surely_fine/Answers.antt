-- As many places as outputs, or as many as the outputs that have another place than the last, tell all of them apart.
use mathlib.Core.Path.{sym, ◌∙◌}
use borrow.Author.Tests.{eqb-true}
use Rattle.std.proofs.lemmas.List.{length-take-le}
use Rattle.apart.proofs.Tally.{fine-full, fine-part, fine-own}
use Rattle.apart.proofs.surely_fine.Goals as goal

pub returns-then-seen-n : goal.returns-then-seen-n
returns-then-seen-n c e =
    let whole = length-take-le c.args.n c.args.outputs.now c.requires in
    fine-own _ _ (fine-full _ _ c.if-n-gt-WORD.false (rw whole at (c.all_inside.ensures c.if-not-all_inside.false)) (sym (rw whole at c.places-seen.ensures) ∙ c.if-seen-n.true))

pub returns : goal.returns
returns c e =
    let whole = length-take-le c.args.n c.args.outputs.now c.requires in
    fine-own _ _
    (fine-part _ _ c.if-n-gt-WORD.false (rw whole at (c.all_inside.ensures c.if-not-all_inside.false)) (rw whole at (c.last_twice.ensures c.if-last_twice.false))
    (rw (← (rw whole at c.places-seen.ensures), ← (rw whole at c.placed.ensures), ← c.from.ensures) (eqb-true _ _ e)))
