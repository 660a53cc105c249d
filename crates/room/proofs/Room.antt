-- Each answer is the case of the definition whose tests led there.
use Rattle.std.specs.Prelude.{Err}
use mathlib.Core.Path.{◌≡◌}
use Prim.Native.Nat.{ℕ, zero, suc, ◌+◌, ◌*◌, ◌≤◌, ◌<◌}
use native.Mathlib.Omega.{arith}
use native.Mathlib.Nat.{mul-le-mul}
use borrow.Author.Tests.{le-leb, lt-leb}
use Rattle.switch.specs.declared.Edition.{Edition}
use Rattle.switch.specs.declared.Refusal.TheVariants.{Ports, LongestOver}
use Rattle.switch.proofs.Check.{no-ports, many-ports, some-ports}
use Rattle.room.specs.declared.Planner.{Planner}
use Rattle.room.specs.Room.{room_of, roomed}

-- N² - 2N + 2 is not below zero
pub twice-small : (n : ℕ) → 2 * n ≤ n * n + 2
twice-small zero = omega arith
twice-small (suc zero) = omega arith
twice-small (suc (suc m)) =
    let a : 2 ≤ suc (suc m) = omega arith in
    let b : suc (suc m) ≤ suc (suc m) = omega arith in
    omega (arith, mul-le-mul a b)

module _ (E : Edition) (p : Planner) (N T : ℕ) where
  pub roomed-none : N ≡ 0 → Err Ports ≡ roomed E p N T
  unfolding roomed
  roomed-none e = rw (no-ports E.ports N e)

  pub roomed-many : E.ports < N → Err Ports ≡ roomed E p N T
  unfolding roomed
  roomed-many l = rw (many-ports E.ports N l)

  module _ (some : 0 < N) (few : N ≤ E.ports) where
    pub roomed-over : 65535 < T → Err LongestOver ≡ roomed E p N T
    unfolding roomed
    roomed-over l = rw (some-ports E.ports N some few, lt-leb T 65535 l)

    pub roomed-fine : T ≤ 65535 → room_of p N T ≡ roomed E p N T
    unfolding roomed
    roomed-fine l = rw (some-ports E.ports N some few, le-leb T 65535 l)
