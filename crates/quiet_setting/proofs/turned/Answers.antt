-- 1 << (n - 1) is the last place, so the two parts are what stands below it and what stands there.
use Prim.Native.Nat.{◌+◌, ◌-◌, ◌*◌, ◌/◌, ◌%◌, ◌^◌, ◌<◌}
use native.Mathlib.Omega.{arith}
use Rattle.sets.proofs.Digits.{one_shifted}
use Rattle.quiet_setting.specs.Choosing.{Around}
use Rattle.quiet_setting.proofs.Turning.{turned-word}
use Rattle.quiet_setting.proofs.turned.Goals as goal

pub nonzero_rem-result : goal.nonzero_rem-result
nonzero_rem-result c = let word : (0 < ((1 * 2 ^ (c.args.n - 1)) % 2 ^ 64)) × (c.args.full.0 % ((1 * 2 ^ (c.args.n - 1)) % 2 ^ 64) * 2 + c.args.full.0 / ((1 * 2 ^ (c.args.n - 1)) % 2 ^ 64) < 2 ^ 64) × Around c.args.n c.args.full.0 (c.args.full.0 % ((1 * 2 ^ (c.args.n - 1)) % 2 ^ 64) * 2 + c.args.full.0 / ((1 * 2 ^ (c.args.n - 1)) % 2 ^ 64)) = turned-word c.args.n c.args.full.0 c.requires.0 c.requires.1 (omega arith) c.requires.2 ((1 * 2 ^ (c.args.n - 1)) % 2 ^ 64) (one_shifted (c.args.n - 1) (omega (arith, c.requires.0, c.requires.1))) in
    word.0

pub overflow_mul-result : goal.overflow_mul-result
overflow_mul-result c = let word : (0 < ((1 * 2 ^ (c.args.n - 1)) % 2 ^ 64)) × (c.args.full.0 % ((1 * 2 ^ (c.args.n - 1)) % 2 ^ 64) * 2 + c.args.full.0 / ((1 * 2 ^ (c.args.n - 1)) % 2 ^ 64) < 2 ^ 64) × Around c.args.n c.args.full.0 (c.args.full.0 % ((1 * 2 ^ (c.args.n - 1)) % 2 ^ 64) * 2 + c.args.full.0 / ((1 * 2 ^ (c.args.n - 1)) % 2 ^ 64)) = turned-word c.args.n c.args.full.0 c.requires.0 c.requires.1 (omega arith) c.requires.2 ((1 * 2 ^ (c.args.n - 1)) % 2 ^ 64) (one_shifted (c.args.n - 1) (omega (arith, c.requires.0, c.requires.1))) in
    omega (arith, word.1)

pub nonzero_div-result : goal.nonzero_div-result
nonzero_div-result c = let word : (0 < ((1 * 2 ^ (c.args.n - 1)) % 2 ^ 64)) × (c.args.full.0 % ((1 * 2 ^ (c.args.n - 1)) % 2 ^ 64) * 2 + c.args.full.0 / ((1 * 2 ^ (c.args.n - 1)) % 2 ^ 64) < 2 ^ 64) × Around c.args.n c.args.full.0 (c.args.full.0 % ((1 * 2 ^ (c.args.n - 1)) % 2 ^ 64) * 2 + c.args.full.0 / ((1 * 2 ^ (c.args.n - 1)) % 2 ^ 64)) = turned-word c.args.n c.args.full.0 c.requires.0 c.requires.1 (omega arith) c.requires.2 ((1 * 2 ^ (c.args.n - 1)) % 2 ^ 64) (one_shifted (c.args.n - 1) (omega (arith, c.requires.0, c.requires.1))) in
    word.0

pub overflow_add-result : goal.overflow_add-result
overflow_add-result c = let word : (0 < ((1 * 2 ^ (c.args.n - 1)) % 2 ^ 64)) × (c.args.full.0 % ((1 * 2 ^ (c.args.n - 1)) % 2 ^ 64) * 2 + c.args.full.0 / ((1 * 2 ^ (c.args.n - 1)) % 2 ^ 64) < 2 ^ 64) × Around c.args.n c.args.full.0 (c.args.full.0 % ((1 * 2 ^ (c.args.n - 1)) % 2 ^ 64) * 2 + c.args.full.0 / ((1 * 2 ^ (c.args.n - 1)) % 2 ^ 64)) = turned-word c.args.n c.args.full.0 c.requires.0 c.requires.1 (omega arith) c.requires.2 ((1 * 2 ^ (c.args.n - 1)) % 2 ^ 64) (one_shifted (c.args.n - 1) (omega (arith, c.requires.0, c.requires.1))) in
    omega (arith, word.1)

pub returns : goal.returns
returns c = let word : (0 < ((1 * 2 ^ (c.args.n - 1)) % 2 ^ 64)) × (c.args.full.0 % ((1 * 2 ^ (c.args.n - 1)) % 2 ^ 64) * 2 + c.args.full.0 / ((1 * 2 ^ (c.args.n - 1)) % 2 ^ 64) < 2 ^ 64) × Around c.args.n c.args.full.0 (c.args.full.0 % ((1 * 2 ^ (c.args.n - 1)) % 2 ^ 64) * 2 + c.args.full.0 / ((1 * 2 ^ (c.args.n - 1)) % 2 ^ 64)) = turned-word c.args.n c.args.full.0 c.requires.0 c.requires.1 (omega arith) c.requires.2 ((1 * 2 ^ (c.args.n - 1)) % 2 ^ 64) (one_shifted (c.args.n - 1) (omega (arith, c.requires.0, c.requires.1))) in
    word.2
