-- The least total hold: a line gets at most the hold from each setting, since no setting joins an output twice; and full settings.
use mathlib.Core.Path.{◌≡◌, sym, ◌∙◌}
use mathlib.Core.List.{List, [], ◌∷◌}
use Prim.Native.Nat.{ℕ, ◌≤◌, ◌<◌, ◌*◌}
use native.Mathlib.Nat.{mul-le-mul_left}
use native.Mathlib.Omega.{arith}
use Rattle.counting.specs.Sum.{sum}
use Rattle.counting.specs.Count.{δ}
use Rattle.counting.specs.Matrix.{row, col}
use Rattle.counting.proofs.Sum.{sum-cong, sum_mono, sum-add, sum-mul, sum-const, sum-swap, sum-most, sum-tight}
use Rattle.counting.proofs.Count.{sum-δ, sum-δ-le, δ-pos, δ-le}
use Rattle.switch.specs.Demand.{longest}
use Rattle.switch.specs.Plan.{Setting, Full, Record, output, Plan, none, more, grant, total, Covers}
use Rattle.switch.proofs.Demand.{longest-le}

module _ (N : ℕ) (o : ℕ → ℕ) where
  pub setting-col : Setting N o → (j : ℕ) → j < N → sum N (λ i. δ (o i) j) ≤ 1
  setting-col s j lj = sum-most N 1 (λ i. δ (o i) j) (λ i l. δ-le (o i) j)
      (λ i k li lk p q. s.once i k li lk (rw (δ-pos (o i) j p) lj) (δ-pos (o i) j p ∙ sym (δ-pos (o k) j q)))

  pub full-setting : Full N o → Setting N o
  full-setting f = record { once = λ i k li lk _ e. f.once i k li lk e }

  pub full-row : Full N o → (i : ℕ) → i < N → sum N (λ j. δ (o i) j) ≡ 1
  full-row f i l = sum-δ N (o i) (f.inside i l)

  -- every output is joined too
  pub full-col : Full N o → (j : ℕ) → j < N → sum N (λ i. δ (o i) j) ≡ 1
  full-col f = sum-tight N (λ j. sum N (λ i. δ (o i) j)) (λ _. 1) (setting-col (full-setting f))
      (omega (arith, sum-swap N N (λ i j. δ (o i) j), sum-cong N (λ i. sum N (λ j. δ (o i) j)) (λ _. 1) (full-row f)))

grant-row : (N : ℕ) (p : List Record) (i : ℕ) → row N (grant p) i ≤ total p
unfolding row grant total
grant-row N [] i = omega (arith, sum-const N 0)
grant-row N (r ∷ p) i =
    omega (
      arith,
      sum-add N (λ j. r.hold * δ (output r i) j) (λ j. grant p i j),
      sum-mul N r.hold (λ j. δ (output r i) j),
      mul-le-mul_left r.hold (sum-δ-le N (output r i)),
      grant-row N p i,
    )

grant-col : (N : ℕ) (p : List Record) → Plan N p → (j : ℕ) → j < N → col N (grant p) j ≤ total p
unfolding col grant total
grant-col N [] none j l = omega (arith, sum-const N 0)
grant-col N (r ∷ p) (more h s ss) j l =
    omega (
      arith,
      sum-add N (λ i. r.hold * δ (output r i) j) (λ i. grant p i j),
      sum-mul N r.hold (λ i. δ (output r i) j),
      mul-le-mul_left r.hold (setting-col N (output r) s j l),
      grant-col N p ss j l,
    )

-- no plan that covers a demand, of any length, with full or part-filled settings, has a total hold below T
pub least-total : (N : ℕ) (M : ℕ → ℕ → ℕ) (p : List Record) → Plan N p → Covers N M p → longest N M ≤ total p
unfolding row col
least-total N M p s c = longest-le N (total p) M
    (λ i l. omega (arith, grant-row N p i, sum_mono N (λ j. M i j) (λ j. grant p i j) (λ j k. c i j l k)))
    (λ j k. omega (arith, grant-col N p s j k, sum_mono N (λ i. M i j) (λ i. grant p i j) (λ i l. c i j l k)))
