-- The exact plan goes on record by record: what a record leaves has equal lines again, and a plan made by the rules is the only one.
use mathlib.Core.Path.{◌≡◌}
use mathlib.Core.List.{[], ◌∷◌}
use Prim.Native.Nat.{ℕ, ◌-◌, ◌≤◌, ◌<◌}
use native.Mathlib.Omega.{arith}
use Rattle.counting.specs.Matrix.{row, col}
use Rattle.counting.proofs.Matrix.{row-cong, col-cong}
use Rattle.switch.specs.Plan.{Record, output}
use Rattle.rules.specs.First.{NonZero, First}
use Rattle.rules.specs.Peel.{peel, Least, Tidy, Peels, more}
use Rattle.rules.specs.Exact.{peels, exact_from}
use Rattle.rules.proofs.Peel.{peel-full-row, peel-full-col}
use Rattle.rules.proofs.Peels.{peels-are, peels-unique, peels-cong}

-- where a line sums to 0, nothing is left
pub exact-end : (W N : ℕ) (M : ℕ → ℕ → ℕ) → row N M 0 ≡ 0 → exact_from W N M ≡ []
unfolding exact_from peels
exact-end W N M e = rw e

module _ (W N : ℕ) (pos : 0 < N) (top : N ≤ W) where
  pub from-peels : (t : ℕ) (M : ℕ → ℕ → ℕ) → ((i : ℕ) → i < N → row N M i ≡ t) → ((j : ℕ) → j < N → col N M j ≡ t) → Peels W N M (exact_from W N M)
  unfolding exact_from
  from-peels t M rows cols = peels-are W N pos top (row N M 0) t M (omega (arith, rows 0 pos)) rows cols

  -- the first setting, held for its smallest cell, and then the rest: M' is what it leaves
  pub exact-step : (t : ℕ) (M M' : ℕ → ℕ → ℕ) (r : Record) → ((i : ℕ) → i < N → row N M i ≡ t) → ((j : ℕ) → j < N → col N M j ≡ t)
      → First N (NonZero M) (output r) → Tidy W N r.outputs → Least N M (output r) r.hold
      → ((i j : ℕ) → i < N → j < N → M' i j ≡ peel r.hold (output r) M i j) → exact_from W N M ≡ r ∷ exact_from W N M'
  exact-step t M M' r rows cols f y l e =
      peels-unique N pos (from-peels t M rows cols) (more f y l (peels-cong N (from-peels (t - r.hold) M' rows' cols') (peel r.hold (output r) M) e))
    where
      rows' : (i : ℕ) → i < N → row N M' i ≡ t - r.hold
      rows' i li = omega (arith, rows i li, row-cong N M' (peel r.hold (output r) M) e i li, peel-full-row N r.hold (output r) M (λ i li _. l.below i li) f.fits.full i li)

      cols' : (j : ℕ) → j < N → col N M' j ≡ t - r.hold
      cols' j lj = omega (arith, cols j lj, col-cong N M' (peel r.hold (output r) M) e j lj, peel-full-col N r.hold (output r) M (λ i li _. l.below i li) f.fits.full j lj)
