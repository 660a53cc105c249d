-- Either way a setting takes each port from its start k places on, so it has every output once; and between them the N settings join every pair.
use mathlib.Core.Path.{◌≡◌, ap, ◌∙◌}
use Prim.Native.Nat.{ℕ, ◌+◌, ◌-◌, ◌%◌, ◌≤◌, ◌<◌}
use native.Mathlib.Omega.{arith}
use Rattle.rules.specs.Doubled.{Joins}
use Rattle.rules.proofs.Rotate.{rotate-in, rotate-idle, rotate-joins}
use Rattle.rules.proofs.Opposite.{opposite-in, opposite-idle, opposite-joins}
use Rattle.turns.specs.declared.Turning.{Turning}
use Rattle.turns.specs.declared.Turning.TheVariants.{Forward, Backward}
use Rattle.turns.specs.Second.{turn, ahead}

pub turn_in : (t : Turning) (N k i : ℕ) → i < N → turn t N k i ≡ (ahead t N i + k) % N
turn_in Forward N k i l = rotate-in N k i l
turn_in Backward N k i l = opposite-in N k i l ∙ ap (λ x. x % N) (let e : k + (N - i) ≡ N - i + k = omega arith in e)

pub turn-idle : (t : Turning) (N k i : ℕ) → N ≤ i → turn t N k i ≡ 255
turn-idle Forward = rotate-idle
turn-idle Backward = opposite-idle

pub turn-joins : (t : Turning) (N : ℕ) → 0 < N → Joins N (turn t N)
turn-joins Forward = rotate-joins
turn-joins Backward = opposite-joins

pub ahead-most : (t : Turning) (N i : ℕ) → i < N → ahead t N i ≤ N
ahead-most Forward N i l = omega arith
ahead-most Backward N i l = omega arith
