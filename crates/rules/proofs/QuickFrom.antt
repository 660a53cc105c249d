-- The quick cover goes on slot by slot: what a slot leaves is planned as any other demand, since slots that serve nobody are never reached.
use mathlib.Core.Path.{◌≡◌, refl, sym, ap, ◌∙◌}
use mathlib.Core.Logic.{◌≢◌}
use mathlib.Core.Bool.{cond}
use mathlib.Core.List.{[], ◌∷◌}
use Prim.Native.Nat.{ℕ, zero, suc, ◌+◌, ◌%◌, ◌≤◌, ◌<◌}
use native.Mathlib.Decide.{ℕ_discrete}
use native.Mathlib.Omega.{arith}
use native.Mathlib.Nat.{mod-lt}
use native.Mathlib.Numerals.{add-one}
use lib.ListN.{length}
use lib.Dec.{eqb}
use borrow.Author.Tests.{eq-eqb, ne_eqb}
use Rattle.counting.specs.Sum.{sum}
use Rattle.counting.specs.Matrix.{row}
use Rattle.counting.proofs.Sum.{sum-cong}
use Rattle.counting.proofs.Matrix.{row-cong}
use Rattle.rules.specs.Peel.{peel}
use Rattle.rules.specs.Exact.{tab}
use Rattle.rules.specs.Quick.{lowest, Slot, may, seat, visits, slot, slots, quick_from}
use Rattle.rules.proofs.Peels.{peel-cong}
use Rattle.rules.proofs.Slot.{lowest-cong, may-cong, slot-maximal}
use Rattle.rules.proofs.Quick.{fewer, some_left}

-- ---- as a loop over the visits runs

pub visits-next : (N : ℕ) (M : ℕ → ℕ → ℕ) (s v : ℕ)
    → visits N M s (v + 1) ≡ seat (visits N M s v) ((v + s) % N) (lowest N 0 (may M (visits N M s v).taken ((v + s) % N)))
unfolding visits
visits-next N M s v = rw (add-one v)

-- ---- as a loop over the slots runs

module _ (W N : ℕ) (pos : 0 < N) (top : N ≤ 255) where
  leaves-fewer : (M : ℕ → ℕ → ℕ) (s : ℕ) → sum N (row N M) ≢ 0 → sum N (row N (peel 1 (slot N M s) M)) < sum N (row N M)
  leaves-fewer M s ne = let x = some_left N M ne in fewer N M (slot N M s) (slot-maximal N pos top M s) x.0 x.2.0 x.1 x.2.1 x.2.2

  slots-none : (k s : ℕ) (M : ℕ → ℕ → ℕ) → sum N (row N M) ≡ 0 → slots W k N s M ≡ []
  unfolding slots
  slots-none zero s M e = refl
  slots-none (suc k) s M e = rw (eq-eqb (sum N (row N M)) 0 e)

  slots-more : (k s : ℕ) (M : ℕ → ℕ → ℕ) → sum N (row N M) ≢ 0 → slots W (suc k) N s M ≡ record { hold = 1; outputs = tab W 0 (slot N M s) } ∷ slots W k N (suc s) (peel 1 (slot N M s) M)
  unfolding slots
  slots-more k s M ne = rw (ne_eqb (sum N (row N M)) 0 ne)

  -- any number of slots that is enough gives the same
  slots-enough : (k l s : ℕ) (M : ℕ → ℕ → ℕ) → sum N (row N M) ≤ k → sum N (row N M) ≤ l → slots W k N s M ≡ slots W l N s M
  slots-enough zero l s M a b = slots-none zero s M (omega arith) ∙ sym (slots-none l s M (omega arith))
  slots-enough (suc k) zero s M a b = slots-none (suc k) s M (omega arith) ∙ sym (slots-none zero s M (omega arith))
  slots-enough (suc k) (suc l) s M a b = go (ℕ_discrete (sum N (row N M)) 0) (λ p q. slots-enough k l (suc s) (peel 1 (slot N M s) M) p q)
    where
      go : Dec (sum N (row N M) ≡ 0)
          → (sum N (row N (peel 1 (slot N M s) M)) ≤ k → sum N (row N (peel 1 (slot N M s) M)) ≤ l → slots W k N (suc s) (peel 1 (slot N M s) M) ≡ slots W l N (suc s) (peel 1 (slot N M s) M))
          → slots W (suc k) N s M ≡ slots W (suc l) N s M
      go (yes e) r = slots-none (suc k) s M e ∙ sym (slots-none (suc l) s M e)
      go (no ne) r = slots-more k s M ne ∙ ap (λ p. record { hold = 1; outputs = tab W 0 (slot N M s) } ∷ p) (r (omega (arith, leaves-fewer M s ne)) (omega (arith, leaves-fewer M s ne))) ∙ sym (slots-more l s M ne)

  -- no more slots than are asked for
  slots-short : (k s : ℕ) (M : ℕ → ℕ → ℕ) → length (slots W k N s M) ≤ k
  slots-short zero s M = unfold slots in omega arith
  slots-short (suc k) s M = go (ℕ_discrete (sum N (row N M)) 0) (slots-short k (suc s) (peel 1 (slot N M s) M))
    where
      go : Dec (sum N (row N M) ≡ 0) → length (slots W k N (suc s) (peel 1 (slot N M s) M)) ≤ k → length (slots W (suc k) N s M) ≤ suc k
      go (yes e) l = omega (arith, ap length (slots-none (suc k) s M e))
      go (no ne) l = omega (arith, ap length (slots-more k s M ne))

  pub quick-short : (s : ℕ) (M : ℕ → ℕ → ℕ) → length (quick_from W N s M) ≤ sum N (row N M)
  unfolding quick_from
  quick-short s M = slots-short (sum N (row N M)) s M

  -- nothing is left
  pub quick-end : (s : ℕ) (M : ℕ → ℕ → ℕ) → sum N (row N M) ≡ 0 → quick_from W N s M ≡ []
  unfolding quick_from
  quick-end s M e = slots-none (sum N (row N M)) s M e

  -- one slot more, and then the rest
  pub quick-step : (s : ℕ) (M : ℕ → ℕ → ℕ) → sum N (row N M) ≢ 0
      → quick_from W N s M ≡ record { hold = 1; outputs = tab W 0 (slot N M s) } ∷ quick_from W N (suc s) (peel 1 (slot N M s) M)
  unfolding quick_from
  quick-step s M ne = go (sum N (row N M)) refl
    where
      go : (k : ℕ) → sum N (row N M) ≡ k → slots W k N s M ≡ record { hold = 1; outputs = tab W 0 (slot N M s) } ∷ slots W (sum N (row N (peel 1 (slot N M s) M))) N (suc s) (peel 1 (slot N M s) M)
      go zero e = absurd (ne e)
      go (suc k) e = slots-more k s M ne ∙ ap (λ p. record { hold = 1; outputs = tab W 0 (slot N M s) } ∷ p)
          (slots-enough k (sum N (row N (peel 1 (slot N M s) M))) (suc s) (peel 1 (slot N M s) M) (omega (arith, leaves-fewer M s ne)) (omega arith))

  -- ---- matrices that agree cell by cell have the same quick cover

  module _ (M M' : ℕ → ℕ → ℕ) (e : (i j : ℕ) → i < N → j < N → M i j ≡ M' i j) where
    visits-cong : (s v : ℕ) → visits N M s v ≡ visits N M' s v
    unfolding visits
    visits-cong s zero = refl
    visits-cong s (suc v) =
        ap (λ (x : Slot). seat x ((v + s) % N) (lowest N 0 (may M x.taken ((v + s) % N)))) (visits-cong s v)
        ∙ ap (seat (visits N M' s v) ((v + s) % N)) (lowest-cong N 0 _ _ (λ j _ l. may-cong M M' (visits N M' s v).taken (visits N M' s v).taken ((v + s) % N) j (e ((v + s) % N) j (mod-lt (v + s) pos) (omega arith)) refl))

    pub slot-cong : (s : ℕ) → slot N M s ≡ slot N M' s
    unfolding slot
    slot-cong s = ap (λ (x : Slot). x.outputs) (visits-cong s N)

    all-cong : sum N (row N M) ≡ sum N (row N M')
    all-cong = sum-cong N (row N M) (row N M') (row-cong N M M' e)

  slots-cong : (k s : ℕ) (M M' : ℕ → ℕ → ℕ) → ((i j : ℕ) → i < N → j < N → M i j ≡ M' i j) → slots W k N s M ≡ slots W k N s M'
  unfolding slots
  slots-cong zero s M M' e = refl
  slots-cong (suc k) s M M' e =
      let a : sum N (row N M) ≡ sum N (row N M') = all-cong M M' e in
      let o : slot N M s ≡ slot N M' s = slot-cong M M' e s in
      let p = slots-cong k (suc s) (peel 1 (slot N M s) M) (peel 1 (slot N M' s) M') (λ i j li lj. peel-cong N M M' e 1 (slot N M s) i j li lj ∙ ap (λ (q : ℕ → ℕ). peel 1 q M' i j) o) in
      λ x. cond (eqb (a x) 0) [] (record { hold = 1; outputs = tab W 0 (o x) } ∷ p x)

  pub quick-cong : (s : ℕ) (M M' : ℕ → ℕ → ℕ) → ((i j : ℕ) → i < N → j < N → M i j ≡ M' i j) → quick_from W N s M ≡ quick_from W N s M'
  unfolding quick_from
  quick-cong s M M' e = ap (λ k. slots W k N s M) (all-cong M M' e) ∙ slots-cong (sum N (row N M')) s M M' e
