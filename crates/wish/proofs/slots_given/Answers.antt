-- Bits that are not refused are no NaN's, and their float is in range; so the ceiling's worth is what the wish is given.
use mathlib.Core.Path.{ap, ◌∙◌}
use lib.Ieee.{binary32, of_bits}
use lib.Ieee.Bits.{nan_bits_is}
use Rattle.wish.specs.Wish.{wish_of, wish_bits, slots_of}
use Rattle.wish.proofs.Floats.{range-of, no_nan, at_slots}
use Rattle.wish.proofs.slots_given.Goals as goal

pub float_from_bits-bits : goal.float_from_bits-bits
unfolding wish_of wish_bits
float_from_bits-bits c = rw (nan_bits_is binary32 c.args.bits ∙ no_nan _ (range-of (of_bits binary32 c.args.bits) c.requires)) tt

pub rounded_up-requires : goal.rounded_up-requires
unfolding wish_of wish_bits
rounded_up-requires c = (range-of (of_bits binary32 c.args.bits) c.requires)

pub returns : goal.returns
unfolding wish_of wish_bits
returns c = rw (c.worth_of.ensures, c.rounded_up.ensures) (ap slots_of (at_slots _ (range-of (of_bits binary32 c.args.bits) c.requires)))
