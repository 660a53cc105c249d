-- Nothing is written, so nothing is asked of the place.
use mathlib.Core.Path.{sym}
use mathlib.Core.Bool.{true≢false}
use native.Mathlib.Omega.{arith}
use Rattle.exact.proofs.count.Goals as goal

pub peel_all-requires : goal.peel_all-requires
peel_all-requires c = (
  c.requires,
  record { narrow = omega arith; fits = omega arith; wide = λ e. absurd (true≢false (sym e)); room = λ e. absurd (true≢false (sym e)) },
)

pub returns : goal.returns
returns c = c.peel_all.ensures.0
