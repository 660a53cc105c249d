-- `wish::of_bits` makes no float of a NaN's pattern: without its sign such a pattern is above the infinity's, and every other one is a float.
use borrow.Author.Tests.{lt-ltb, le-ltb}
use mathlib.Core.Path.{sym, ◌∙◌}
use Prim.Native.Nat.{◌%◌}
use lib.Ieee.{binary32, of_bits}
use lib.Ieee.Bits.{nan_bits_is, nan_bits_above}
use Rattle.wish.specs.Wish.{wish_bits}
use Rattle.wish.proofs.Floats.{of_nan}
use Rattle.wish.proofs.of_bits.Goals as goal

pub returns-then-bits-gt-INFINITE : goal.returns-then-bits-gt-INFINITE
unfolding wish_bits
returns-then-bits-gt-INFINITE c =
    let b = c.args.bits in
    of_nan (of_bits binary32 b) (sym (nan_bits_is binary32 b) ∙ nan_bits_above binary32 b ∙ lt-ltb 0x7f80_0000 (b % 0x8000_0000) c.if-bits-gt-INFINITE.true)

pub float_from_bits-bits : goal.float_from_bits-bits
float_from_bits-bits c =
    let b = c.args.bits in
    rw (nan_bits_above binary32 b ∙ le-ltb 0x7f80_0000 (b % 0x8000_0000) c.if-bits-gt-INFINITE.false) tt

pub returns : goal.returns
unfolding wish_bits
returns c = c.classify.ensures
