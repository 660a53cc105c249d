-- A setting is one record where it is held, and none where its hold is 0.
use mathlib.Core.Path.{◌≡◌, refl, ◌∙◌}
use Prim.Native.Nat.{ℕ, zero, suc}
use native.Mathlib.Omega.{arith}
use lib.ListN.{length}
use borrow.Author.Tests.{lt-ltb}
use lib.Dec.{ltb}
use mir.Val.{bool_byte}
use Rattle.rules.specs.Doubled.{held}
use Rattle.turns.proofs.records_of.Goals as goal

one : (W h : ℕ) (o : ℕ → ℕ) → bool_byte (ltb 0 h) ≡ length (held W h o)
unfolding held
one W zero o = refl
one W (suc h) o = rw (lt-ltb 0 (suc h) (omega arith))

pub returns : goal.returns
returns c = λ W o. c.from.ensures ∙ one W c.args.hold o
