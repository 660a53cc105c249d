-- N is 1 to most exactly where neither test on it fails.
use mathlib.Core.Path.{◌≡◌}
use mathlib.Core.Bool.{true, false, and-false}
use Prim.Native.Nat.{ℕ, ◌<◌, ◌≤◌}
use native.Mathlib.Omega.{arith}
use borrow.Author.Tests.{lt-ltb, le-ltb, le-leb, lt-leb}
use Rattle.switch.specs.Check.{ports_fine}

module _ (most N : ℕ) where
  pub no-ports : N ≡ 0 → ports_fine most N ≡ false
  unfolding ports_fine
  no-ports e = rw (le-ltb 0 N (omega arith))

  pub many-ports : most < N → ports_fine most N ≡ false
  unfolding ports_fine
  many-ports l = rw (lt-leb _ _ l, and-false)

  pub some-ports : 0 < N → N ≤ most → ports_fine most N ≡ true
  unfolding ports_fine
  some-ports p l = rw (lt-ltb _ _ p, le-leb _ _ l)
