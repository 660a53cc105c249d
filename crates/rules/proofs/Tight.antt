-- The largest remainder modulo u is at most u - 1 and no pair's remainder is above it, so the tight rule is one of those that the law allows.
use mathlib.Core.Path.{◌≡◌, ap}
use mathlib.Core.List.{List, []}
use Prim.Native.Nat.{ℕ, suc, ◌*◌, ◌%◌, ◌≤◌, ◌<◌}
use native.Mathlib.Omega.{arith}
use native.Mathlib.Nat.{mod-lt}
use lib.ListN.{length}
use borrow.Author.Tests.{eq-eqb}
use Rattle.counting.proofs.Most.{most-at, most-le}
use Rattle.switch.specs.Demand.{cell, longest}
use Rattle.rules.specs.Doubled.{rotate, tight, doubled_by, doubled_plan, Joins, Doubled}
use Rattle.rules.proofs.Doubled.{doubled-any}
use Rattle.rules.proofs.Rotate.{rotate-joins}

-- no hold is above u - 1
pub tight-most : (N : ℕ) (τ : ℕ → ℕ → ℕ) (d : List ℕ) (v k : ℕ) → tight N τ d (suc v) k ≤ v
unfolding tight
tight-most N τ d v k = most-le N v (λ i. cell N d i (τ k i) % suc v) (λ i _. omega (arith, mod-lt (cell N d i (τ k i)) {m = suc v} (omega arith)))

-- the setting that joins a pair is held for its remainder
pub tight-meets : (N : ℕ) (τ : ℕ → ℕ → ℕ) (d : List ℕ) (u i j k : ℕ) → i < N → τ k i ≡ j → cell N d i j % u ≤ tight N τ d u k
unfolding tight
tight-meets N τ d u i j k l e = omega (arith, most-at N (λ i. cell N d i (τ k i) % u) i l, ap (λ x. cell N d i x % u) e)

-- the promises of the doubled plan, for any N settings that join every pair
pub doubled-tight : (W N : ℕ) → 0 < N → N ≤ W → (τ : ℕ → ℕ → ℕ) → Joins N τ → (d : List ℕ) → N * N ≤ length d → Doubled N d (doubled_by W N τ (tight N τ d) d)
doubled-tight W N pos top τ J d s = doubled-any W N pos top τ J d s (tight N τ d) (tight-most N τ d)
    (λ v i j li lj. tight-meets N τ d (suc v) i j (J.which i j) li (J.joins i j li lj))

-- and so for the rotations
pub tight-doubled : (W N : ℕ) → 0 < N → N ≤ W → (d : List ℕ) → N * N ≤ length d → Doubled N d (doubled_plan W N d)
unfolding doubled_plan
tight-doubled W N pos top d s = doubled-tight W N pos top (rotate N) (rotate-joins N pos) d s

pub by-empty : (W N : ℕ) (τ H : ℕ → ℕ → ℕ) (d : List ℕ) → longest N (cell N d) ≡ 0 → doubled_by W N τ H d ≡ []
unfolding doubled_by
by-empty W N τ H d e = rw (eq-eqb (longest N (cell N d)) 0 e)
