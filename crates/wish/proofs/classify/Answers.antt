-- Each way out of `wish::classify` is one of the cases of §4: past the three tests for what is not finite, comparisons over whole numbers decide.
use mathlib.Core.Bool.{true, false}
use lib.Ieee.{of_bits, neg, div}
use Rattle.wish.proofs.Floats.{Finite, at-nan, at-inf, at-below-zero, at-above-most, in-range, at_slots}
use Rattle.wish.proofs.classify.Goals as goal

pub returns-then-x : goal.returns-then-x
returns-then-x c = at-nan c.args.x c.if-x.true

pub returns-then-x-infinite : goal.returns-then-x-infinite
unfolding of_bits div
returns-then-x-infinite c = at-inf c.args.x false c.if-x-infinite.true

pub returns-then-x-infinite-2 : goal.returns-then-x-infinite-2
unfolding of_bits neg div
returns-then-x-infinite-2 c = at-inf c.args.x true c.if-x-infinite-2.true

pub returns-then-x-2 : goal.returns-then-x-2
unfolding of_bits div neg
returns-then-x-2 c = at-below-zero c.args.x (record { number = c.if-x.false; not-plus = c.if-x-infinite.false; not-minus = c.if-x-infinite-2.false }) c.if-x-2.true

pub returns-then-x-3 : goal.returns-then-x-3
unfolding of_bits div neg
returns-then-x-3 c = at-above-most c.args.x (record { number = c.if-x.false; not-plus = c.if-x-infinite.false; not-minus = c.if-x-infinite-2.false }) c.if-x-3.true

pub rounded_up-requires : goal.rounded_up-requires
unfolding of_bits div neg
rounded_up-requires c = in-range c.args.x (record { number = c.if-x.false; not-plus = c.if-x-infinite.false; not-minus = c.if-x-infinite-2.false }) c.if-x-2.false c.if-x-3.false

pub returns : goal.returns
unfolding of_bits div neg
returns c =
    let known : Finite c.args.x = record { number = c.if-x.false; not-plus = c.if-x-infinite.false; not-minus = c.if-x-infinite-2.false } in
    rw (c.worth_of.ensures, c.rounded_up.ensures)
    (at_slots c.args.x (in-range c.args.x known c.if-x-2.false c.if-x-3.false))
