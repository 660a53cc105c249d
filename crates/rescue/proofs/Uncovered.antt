-- What is left uncovered, cell by cell, in the place of the grants; and the exact plan of it is the exact plan of the rest on paper.
use mathlib.Core.Path.{◌≡◌, refl, sym, ap, ap₂, ◌∙◌}
use mathlib.Core.Logic.{dite}
use mathlib.Core.List.{List}
use Prim.Native.Nat.{ℕ, ◌+◌, ◌*◌, ◌-◌, ◌<◌, ◌≤◌}
use native.Mathlib.Decide.{ℕ_discrete}
use native.Mathlib.Omega.{arith}
use lib.ListN.{length, get_or, set, length-set}
use lib.Seq.{get_or-set_same, get_or-set_other}
use lib.Arith.{digits_lt}
use Rattle.switch.specs.Demand.{cell, longest}
use Rattle.switch.specs.Plan.{Record}
use Rattle.rules.specs.Exact.{exact_plan}
use Rattle.rules.proofs.Exact.{exact-cong, longest-cong}
use Rattle.grants.specs.Grants.{Grants}
use Rattle.rescue_rule.specs.Rescue.{rest_of, added}
use Rattle.rescue_rule.proofs.Rescue.{rest-size, rest-cell}
use Rattle.rescue.specs.Keeping.{Left}

-- the cells below k have had their turn
pub record Leaving (d g after : List ℕ) (k : ℕ) : Type 0 where
  pub size : length after ≡ length g
  pub done : (x : ℕ) → x < k → get_or after x 0 ≡ get_or d x 0 - get_or g x 0
  pub rest : (x : ℕ) → k ≤ x → get_or after x 0 ≡ get_or g x 0

pub leaving-none : (d g : List ℕ) → Leaving d g g 0
leaving-none d g = record { size = refl; done = λ x l. absurd (omega arith); rest = λ x l. refl }

pub leaving-more : (d g after : List ℕ) (k : ℕ) → k < length g → Leaving d g after k → (v : ℕ) → v ≡ get_or d k 0 - get_or after k 0 → Leaving d g (set after k v) (k + 1)
leaving-more d g after k l p v e = record {
  size = length-set after k v ∙ p.size;
  done = λ x b. dite (ℕ_discrete x k)
      (λ q. ap (λ (y : ℕ). get_or (set after k v) y 0) q ∙ get_or-set_same after k v 0 (omega (arith, p.size)) ∙ e ∙ ap₂ (λ (y z : ℕ). get_or d y 0 - z) (sym q) (p.rest k (omega arith) ∙ ap (λ (y : ℕ). get_or g y 0) (sym q)))
      (λ ne. get_or-set_other after k x v 0 ne ∙ p.done x (omega (arith, ne)));
  rest = λ x b. get_or-set_other after k x v 0 (λ q. omega arith) ∙ p.rest x (omega arith);
}

pub leaving-all : (d g after : List ℕ) (k : ℕ) → length d ≤ k → Leaving d g after k → Left (length d) d g after
leaving-all d g after k l p = record { size = p.size; is = λ x b. p.done x (omega arith) }

-- what is left of the grants of p is what p leaves uncovered
module _ (N : ℕ) (d g after : List ℕ) (p : List Record) (left : Left (N * N) d g after) (grants : Grants N p g) where
  pub left-cell : (i j : ℕ) → i < N → j < N → cell N after i j ≡ cell N (rest_of N d p) i j
  unfolding cell
  left-cell i j li lj =
      left.is (i * N + j) (digits_lt {q = i} {m = N} {r = j} {c = N} li lj)
      ∙ ap (λ (x : ℕ). get_or d (i * N + j) 0 - x) (grants.is i j li lj) ∙ sym (rest-cell N d p i j li lj)

  -- so its longest line is the rest's,
  pub left-longest : longest N (cell N after) ≡ longest N (cell N (rest_of N d p))
  left-longest = longest-cong N (cell N after) (cell N (rest_of N d p)) left-cell

  -- and its exact plan what is added
  pub left-added : (W : ℕ) → 0 < N → N ≤ W → exact_plan W N after ≡ added W N d p
  left-added W pos few = exact-cong W N pos few after (rest_of N d p) (omega (arith, left.size, grants.room)) (omega (arith, rest-size N d p)) left-cell
