-- Each return is the first of the faults of §4.7 that the record has, in their order.
use mathlib.Core.Path.{sym, ap, ◌∙◌}
use Rattle.wishes.specs.Fault.{wish_fault}
use Rattle.wishes.proofs.Faults.{malformed, twice, its-wish, inside}
use Rattle.wishes.proofs.fault_of.Goals as goal

pub returns-then-not-well_formed : goal.returns-then-not-well_formed
returns-then-not-well_formed c = sym (malformed _ _ _ _ (sym c.well_formed-2.ensures ∙ c.if-not-well_formed.true))

pub seen-requires : goal.seen-requires
seen-requires c =
    let p = c.requires in
    let i = inside _ _ (sym c.well_formed-2.ensures ∙ c.if-not-well_formed.false) in
    (p.0, i.input, i.output, p.1)

pub returns-then-seen : goal.returns-then-seen
returns-then-seen c = sym (twice _ _ _ _ (sym c.well_formed-2.ensures ∙ c.if-not-well_formed.false) (sym c.seen.ensures ∙ c.if-seen.true))

pub returns : goal.returns
returns c =
    c.wish_fault.ensures ∙ ap (wish_fault _) c.of_bits.ensures
    ∙ sym (its-wish _ _ _ _ (sym c.well_formed-2.ensures ∙ c.if-not-well_formed.false) (sym c.seen.ensures ∙ c.if-seen.false))
