-- The entries of the whole records, and then that of a tail.
use mathlib.Core.Path.{sym, ap, ◌∙◌}
use native.Mathlib.Omega.{arith}
use Rattle.records.specs.Bytes.{laid}
use Rattle.dropping.proofs.Listing.{wholes-fit, tail_none, tail-room, tail-laid}
use Rattle.dropping.proofs.list_dropped.Goals as goal

pub list_whole-next-requires : goal.list_whole-next-requires
list_whole-next-requires c =
    (c.requires.0, wholes-fit _ c.args.e.byte _ _ c.args.list.now c.requires.2)

pub returns-then-torn-eq0 : goal.returns-then-torn-eq0
returns-then-torn-eq0 c =
    c.list_whole-next.ensures.1 ∙ ap (laid _ 0) (sym (tail_none _ c.args.e.byte _ _ (sym c.torn.ensures ∙ c.if-torn-eq0.true)))

pub put_entry-requires : goal.put_entry-requires
put_entry-requires c =
    let told = c.list_whole-next.ensures in
    let tail = c.torn.ensures in (
      omega (arith, c.requires.1, tail, c.if-torn-eq0.false),
      tail-room _ c.args.e.byte _ _ (λ z. c.if-torn-eq0.false (tail ∙ z)) _ _ _ c.requires.2 told.1 told.0,
    )

pub returns : goal.returns
returns c =
    let told = c.list_whole-next.ensures in
    let tail = c.torn.ensures in
    tail-laid _ c.args.e.byte _ _ (λ z. c.if-torn-eq0.false (tail ∙ z)) _ _ _ c.requires.2 told.1 told.0 _ c.put_entry.ensures
