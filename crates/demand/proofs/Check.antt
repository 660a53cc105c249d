-- The checks of a demand case by case: each refusal is given exactly where its test is the first that fails.
use Rattle.std.specs.Prelude.{Err, Ok}
use mathlib.Core.Path.{◌≡◌, refl, ◌∙◌}
use mathlib.Core.Bool.{Bool, true, false, cond, ◌&&◌}
use mathlib.Core.List.{List}
use Prim.Native.Nat.{ℕ, ◌*◌, ◌<◌, ◌≤◌}
use lib.ListN.{length}
use borrow.Author.Tests.{le-leb, lt-leb, eq-eqb, ne_eqb, ltb-true, leb-true, eqb-true}
use lib.Dec.{ltb, leb, eqb}
use native.Mathlib.Omega.{arith}
use Rattle.switch.specs.declared.Refusal.{Refusal}
use Rattle.switch.specs.Demand.{cell, longest}
use Rattle.switch.specs.Check.{ports_fine}
use Rattle.switch.specs.declared.Refusal.TheVariants.{Ports, Cells, Line}
use Rattle.demand.specs.Lines.{line_over}
use Rattle.demand.specs.Check.{check_lines, check_demand, Asked}

-- code 3
module _ (N : ℕ) (d : List ℕ) where
  pub lines_long : 65535 < longest N (cell N d) → Err (Line (line_over N d)) ≡ check_lines N d
  lines_long l = rw (lt-leb _ _ l)

  pub lines-fine : longest N (cell N d) ≤ 65535 → Ok (longest N (cell N d)) ≡ check_lines N d
  lines-fine l = rw (le-leb _ _ l)

module _ (most N : ℕ) (d : List ℕ) where
  -- code 1
  pub bad-ports : ports_fine most N ≡ false → Err Ports ≡ check_demand most N d
  unfolding check_demand
  bad-ports e = rw e

  module _ (ports : ports_fine most N ≡ true) where
    -- code 2
    pub bad-cells : (length d ≡ N * N → ⊥) → Err (Cells (N * N)) ≡ check_demand most N d
    unfolding check_demand
    bad-cells h = rw (ports, ne_eqb _ _ h)

    module _ (s : length d ≡ N * N) where
      pub lines_left : check_lines N d ≡ check_demand most N d
      unfolding check_demand
      lines_left = rw (ports, eq-eqb _ _ s)

      pub fine : longest N (cell N d) ≤ 65535 → Ok (longest N (cell N d)) ≡ check_demand most N d
      fine l = lines-fine N d l ∙ lines_left

-- a demand that is not refused has 1 to `most` ports, N² cells, and its longest line is T, at most 65,535
pub fine-asked : (most N T : ℕ) (d : List ℕ) → check_demand most N d ≡ Ok T → Asked most N T d
unfolding check_demand ports_fine
fine-asked most N T d e = ports (ltb 0 N) (leb N most) refl refl e
  where
    never : {x : Refusal} → Err x ≡ Ok T → Asked most N T d
    never q = let z : ◌≡◌ {A = ℕ} 0 1 = cc in absurd (omega arith)

    inner : 0 < N → N ≤ most → (b : Bool) → eqb (length d) (N * N) ≡ b → (c : Bool) → leb (longest N (cell N d)) 65535 ≡ c
        → cond b (cond c (Ok (longest N (cell N d))) (Err (Line (line_over N d)))) (Err (Cells (N * N))) ≡ Ok T → Asked most N T d
    inner s f true p true q h = record { some = s; few = f; size = eqb-true _ _ p; longest-is = same; small = omega (arith, leb-true (longest N (cell N d)) 65535 q, same) }
      where
        same : T ≡ longest N (cell N d)
        same = cc
    inner s f true p false q h = never h
    inner s f false p c q h = never h

    ports : (a b : Bool) → ltb 0 N ≡ a → leb N most ≡ b
        → cond (a && b) (cond (eqb (length d) (N * N)) (cond (leb (longest N (cell N d)) 65535) (Ok (longest N (cell N d))) (Err (Line (line_over N d)))) (Err (Cells (N * N)))) (Err Ports) ≡ Ok T
        → Asked most N T d
    ports true true p q h = inner (ltb-true _ _ p) (leb-true _ _ q) (eqb (length d) (N * N)) refl (leb (longest N (cell N d)) 65535) refl h
    ports true false p q h = never h
    ports false b p q h = never h
