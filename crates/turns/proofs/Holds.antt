-- A setting's largest remainder is below u, and so fits two bytes; the pairs that it is the largest of are the setting's; and a table of
-- holds stands for the rule that filled it.
use mathlib.Core.Path.{◌≡◌, sym, ap, ◌∙◌}
use mathlib.Core.List.{List}
use Prim.Native.Nat.{ℕ, zero, suc, ◌+◌, ◌*◌, ◌<◌}
use native.Mathlib.Omega.{arith}
use lib.Arith.{digits_lt}
use lib.ListN.{length, get_or}
use Rattle.switch.specs.Demand.{cell}
use Rattle.rules.specs.Exact.{tab}
use Rattle.rules.specs.Doubled.{unit, tight, turns}
use Rattle.rules.proofs.Peels.{get_or-tab}
use Rattle.rules.proofs.Doubled.{unit-some, unit-small}
use Rattle.rules.proofs.Tight.{tight-most}
use Rattle.turns.specs.declared.Turning.{Turning}
use Rattle.turns.specs.Second.{turn, second, Asks, Holding}
use Rattle.turns.proofs.Turns.{turns_same}

pub tight-small : (N : ℕ) (τ : ℕ → ℕ → ℕ) (d : List ℕ) (u k : ℕ) → 0 < u → tight N τ d u k < u
tight-small N τ d zero k l = absurd (omega arith)
tight-small N τ d (suc v) k l = omega (arith, tight-most N τ d v k)

-- u is at least 1, and the holds below it fit two bytes
pub unit-holding : {N T u : ℕ} {d : List ℕ} → Asks N T d → u ≡ unit N T → Holding N u d
unit-holding {N} {T} a e = record {
  some = a.some;
  few = a.few;
  room = a.room;
  least = omega (arith, e, unit-some N T a.some a.least);
  most = omega (arith, e, a.most, unit-small N T a.some a.least);
}

-- the cell of the pair (i, j)
module _ {N u : ℕ} {d : List ℕ} (h : Holding N u d) (i j : ℕ) {at : ℕ} (place : at ≡ i * N + j) where
  pub pair_inside : i < N → j < N → at < length d
  pair_inside li lj = omega (arith, place, h.room, digits_lt {q = i} {m = N} {r = j} {c = N} li lj)

  pub pair-cell : {o : ℕ} → j ≡ o → get_or d at 0 ≡ cell N d i o
  unfolding cell
  pair-cell e = ap (λ (x : ℕ). get_or d x 0) (place ∙ ap (λ (x : ℕ). i * N + x) e)

-- the settings by a table that has every hold
pub table-turns : (t : Turning) (W N : ℕ) (f : ℕ → ℕ) (H : List ℕ) → H ≡ tab N 0 f → turns W (turn t N) f N 0 ≡ second t W N H
table-turns t W N f H e =
    turns_same W (turn t N) f (λ k. get_or H k 0) N 0 (λ c _ l. sym (ap (λ (x : List ℕ). get_or x c 0) e ∙ get_or-tab N 0 f c 0 (omega arith) ∙ ap f (omega arith)))
