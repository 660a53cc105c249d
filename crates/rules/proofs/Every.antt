-- The rule of every rotation: each is held for u - 1, which leaves none out when u is at least 2 and all of them when u is 1.
use mathlib.Core.Path.{◌≡◌, refl, ap, ap₂, ◌∙◌}
use mathlib.Core.List.{List, [], ◌∷◌, ◌++◌, map}
use Prim.Native.Nat.{ℕ, zero, suc, ◌+◌, ◌-◌, ◌≤◌, ◌<◌}
use native.Mathlib.Nat.{not-suc-le-zero}
use native.Mathlib.Omega.{arith}
use lib.ListN.{length, get_or}
use borrow.Author.Tests.{ne_eqb}
use Rattle.switch.specs.Demand.{cell, longest}
use Rattle.switch.specs.Plan.{Record}
use Rattle.rules.specs.Exact.{tab, exact_plan}
use Rattle.rules.specs.Doubled.{unit, divide, stretch, rotate, turns, held, doubled_by, alike, every_rotation_plan}

-- the rotations of a doubled plan by that rule
abbrev pub every_rotation : ℕ → ℕ → ℕ → List Record
every_rotation W N u = turns W (rotate N) (alike u) N 0

-- none where u is 1
turns-none : (W : ℕ) (τ : ℕ → ℕ → ℕ) (n k : ℕ) → turns W τ (alike 1) n k ≡ []
unfolding turns held alike
turns-none W τ zero k = refl
turns-none W τ (suc n) k = turns-none W τ n (suc k)

-- all of them where each is held for h at least 1, each in its place
module _ (W : ℕ) (τ : ℕ → ℕ → ℕ) (H : ℕ → ℕ) (h : ℕ) (all : (k : ℕ) → H k ≡ suc h) where
  turns_next : (n k : ℕ) → turns W τ H (suc n) k ≡ record { hold = suc h; outputs = tab W 0 (τ k) } ∷ turns W τ H n (suc k)
  unfolding turns held
  turns_next n k = rw (all k)

  turns-all : (n k : ℕ) → length (turns W τ H n k) ≡ n
  turns-all zero k = unfold turns in refl
  turns-all (suc n) k = ap length (turns_next n k) ∙ ap suc (turns-all n (suc k))

  turns_at : (n k i : ℕ) → i < n → (r : Record) → get_or (turns W τ H n k) i r ≡ record { hold = suc h; outputs = tab W 0 (τ (k + i)) }
  turns_at zero k i l r = absurd (not-suc-le-zero l)
  turns_at (suc n) k zero l r =
      ap (λ (p : List Record). get_or p 0 r) (turns_next n k)
      ∙ ap {B = Record} (λ (j : ℕ). record { hold = suc h; outputs = tab W 0 (τ j) }) (let e : k ≡ k + 0 = omega arith in e)
  turns_at (suc n) k (suc i) l r =
      ap (λ (p : List Record). get_or p (suc i) r) (turns_next n k) ∙ turns_at n (suc k) i (omega arith) r
      ∙ ap {B = Record} (λ (j : ℕ). record { hold = suc h; outputs = tab W 0 (τ j) }) (let e : suc k + i ≡ k + suc i = omega arith in e)

module _ (W N u : ℕ) where
  pub no-rotation : u ≡ 1 → every_rotation W N u ≡ []
  no-rotation e = ap (every_rotation W N) e ∙ turns-none W (rotate N) N 0

  held-less : 2 ≤ u → (k : ℕ) → alike u k ≡ suc (u - 2)
  unfolding alike
  held-less l k = omega arith

  pub all-rotations : 2 ≤ u → length (every_rotation W N u) ≡ N
  all-rotations l = turns-all W (rotate N) (alike u) (u - 2) (held-less l) N 0

  -- rotation k stands at place k
  pub rotation-at : 2 ≤ u → (k : ℕ) → k < N → (r : Record) → get_or (every_rotation W N u) k r ≡ record { hold = u - 1; outputs = tab W 0 (rotate N k) }
  rotation-at l k lk r =
      turns_at W (rotate N) (alike u) (u - 2) (held-less l) N 0 k lk r
      ∙ ap₂ {C = Record} (λ (h j : ℕ). record { hold = h; outputs = tab W 0 (rotate N j) })
      (let e : suc (u - 2) ≡ u - 1 = omega arith in e) (let e : 0 + k ≡ k = omega arith in e)

-- they are the second part of the plan
pub every-parts : (W N : ℕ) (d : List ℕ) → 0 < longest N (cell N d) → (u : ℕ) → u ≡ unit N (longest N (cell N d))
    → every_rotation_plan W N d ≡ map (stretch u) (exact_plan W N (divide u d)) ++ every_rotation W N u
unfolding every_rotation_plan doubled_by
every-parts W N d some u e = rw (ne_eqb (longest N (cell N d)) 0 (λ z. omega (arith, z)), e)
