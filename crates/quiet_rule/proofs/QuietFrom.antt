-- The quiet plan goes on record by record: what a record leaves is planned as any other demand, since records past the last non-zero cell are never reached.
use mathlib.Core.Path.{◌≡◌, refl, sym, ap, ◌∙◌}
use mathlib.Core.Logic.{◌≢◌}
use mathlib.Core.Bool.{Bool, false, cond, ◌&&◌, not}
use mathlib.Core.List.{List, [], ◌∷◌}
use Prim.Native.Nat.{ℕ, zero, suc, ◌+◌, ◌≤◌, ◌<◌}
use native.Mathlib.Decide.{ℕ_discrete, dec_lt}
use native.Mathlib.Omega.{arith}
use native.Mathlib.Numerals.{add-one}
use lib.Dec.{ltb, eqb}
use borrow.Author.Tests.{eq-eqb, ne_eqb}
use Rattle.counting.specs.Count.{ind, count}
use Rattle.counting.proofs.Sum.{sum-cong}
use Rattle.switch.specs.Plan.{Record}
use Rattle.wavelengths.specs.Shared.{wavelength}
use Rattle.rules.specs.Peel.{peel}
use Rattle.rules.specs.Exact.{tab}
use Rattle.rules.specs.Quick.{lowest, Slot, may, seat}
use Rattle.rules.proofs.Peels.{peel-cong}
use Rattle.rules.proofs.Slot.{lowest-cong}
use Rattle.quiet_rule.specs.Limit.{lit}
use Rattle.quiet_rule.specs.Quiet.{may_within, served, quiet_setting, lesser, smallest, joined_cell, quiet_hold, pairs, quiet_record, quiet_rest, quiets, quiet_from}
use Rattle.quiet_rule.proofs.Hold.{joined-cell, idle-cell}
use Rattle.quiet_rule.proofs.Quiet.{leaves-fewer}

-- ---- as a loop over the inputs runs

pub served-zero : (N L : ℕ) (M : ℕ → ℕ → ℕ) → served N L M 0 ≡ record { outputs = λ _. 255; taken = λ _. false }
unfolding served
served-zero N L M = refl

pub served-next : (N L : ℕ) (M : ℕ → ℕ → ℕ) (v : ℕ) → served N L M (v + 1) ≡ seat (served N L M v) v (lowest N 0 (may_within N L M (served N L M v) v))
unfolding served
served-next N L M v = rw (add-one v)

pub smallest-zero : (f : ℕ → ℕ) → smallest 0 f ≡ 0
unfolding smallest
smallest-zero f = refl

pub smallest-next : (n : ℕ) (f : ℕ → ℕ) → smallest (n + 1) f ≡ lesser (smallest n f) (f n)
unfolding smallest
smallest-next n f = rw (add-one n)

-- ---- as a loop over the records runs

module _ (W N : ℕ) (wide : N ≤ W) (top : N ≤ 255) (L : ℕ) (limit : 0 < L) where
  quiets-none : (k : ℕ) (M : ℕ → ℕ → ℕ) → pairs N M ≡ 0 → quiets W k N L M ≡ []
  unfolding quiets
  quiets-none zero M e = refl
  quiets-none (suc k) M e = rw (eq-eqb (pairs N M) 0 e)

  quiets-more : (k : ℕ) (M : ℕ → ℕ → ℕ) → pairs N M ≢ 0 → quiets W (suc k) N L M ≡ quiet_record W N L M ∷ quiets W k N L (quiet_rest N L M)
  unfolding quiets
  quiets-more k M ne = rw (ne_eqb (pairs N M) 0 ne)

  -- any number of records that is enough gives the same
  quiets-enough : (k l : ℕ) (M : ℕ → ℕ → ℕ) → pairs N M ≤ k → pairs N M ≤ l → quiets W k N L M ≡ quiets W l N L M
  quiets-enough zero l M a b = quiets-none zero M (omega arith) ∙ sym (quiets-none l M (omega arith))
  quiets-enough (suc k) zero M a b = quiets-none (suc k) M (omega arith) ∙ sym (quiets-none zero M (omega arith))
  quiets-enough (suc k) (suc l) M a b = go (ℕ_discrete (pairs N M) 0) (λ p q. quiets-enough k l (quiet_rest N L M) p q)
    where
      go : Dec (pairs N M ≡ 0)
          → (pairs N (quiet_rest N L M) ≤ k → pairs N (quiet_rest N L M) ≤ l → quiets W k N L (quiet_rest N L M) ≡ quiets W l N L (quiet_rest N L M))
          → quiets W (suc k) N L M ≡ quiets W (suc l) N L M
      go (yes e) r = quiets-none (suc k) M e ∙ sym (quiets-none (suc l) M e)
      go (no ne) r =
          let f : pairs N (quiet_rest N L M) < pairs N M = leaves-fewer W N wide top L limit M ne in
          quiets-more k M ne ∙ ap (λ (p : List Record). quiet_record W N L M ∷ p) (r (omega arith) (omega arith)) ∙ sym (quiets-more l M ne)

  -- nothing is left
  pub quiet-end : (M : ℕ → ℕ → ℕ) → pairs N M ≡ 0 → quiet_from W N L M ≡ []
  unfolding quiet_from
  quiet-end M e = quiets-none (pairs N M) M e

  -- one record more, and then the rest
  pub quiet_step : (M : ℕ → ℕ → ℕ) → pairs N M ≢ 0 → quiet_from W N L M ≡ quiet_record W N L M ∷ quiet_from W N L (quiet_rest N L M)
  unfolding quiet_from
  quiet_step M ne = go (pairs N M) refl
    where
      go : (k : ℕ) → pairs N M ≡ k → quiets W k N L M ≡ quiet_record W N L M ∷ quiets W (pairs N (quiet_rest N L M)) N L (quiet_rest N L M)
      go zero e = absurd (ne e)
      go (suc k) e = quiets-more k M ne ∙ ap (λ (p : List Record). quiet_record W N L M ∷ p)
          (quiets-enough k (pairs N (quiet_rest N L M)) (quiet_rest N L M) (omega (arith, leaves-fewer W N wide top L limit M ne)) (omega arith))

-- ---- matrices that are zero in the same places have the same setting

module _ (N L : ℕ) (M M' : ℕ → ℕ → ℕ) (e : (i j : ℕ) → i < N → j < N → ltb 0 (M i j) ≡ ltb 0 (M' i j)) where
  served-cong : (v : ℕ) → v ≤ N → served N L M v ≡ served N L M' v
  unfolding served may_within may
  served-cong zero l = refl
  served-cong (suc v) l =
      ap (λ (x : Slot). seat x v (lowest N 0 (may_within N L M x v))) (served-cong v (omega arith))
      ∙ ap (seat (served N L M' v) v) (lowest-cong N 0 _ _ (λ j _ q.
      ap (λ (b : Bool). (b && not ((served N L M' v).taken j)) && ltb (lit N (served N L M' v).outputs (wavelength N v j)) L) (e v j l (omega arith))))

  pub setting_same : quiet_setting N L M ≡ quiet_setting N L M'
  unfolding quiet_setting
  setting_same = ap (λ (x : Slot). x.outputs) (served-cong N (omega arith))

-- ---- matrices that agree cell by cell have the same quiet plan

module _ (N L : ℕ) (M M' : ℕ → ℕ → ℕ) (e : (i j : ℕ) → i < N → j < N → M i j ≡ M' i j) where
  setting-cong : quiet_setting N L M ≡ quiet_setting N L M'
  setting-cong = setting_same N L M M' (λ i j li lj. ap (ltb 0) (e i j li lj))

  pub pairs-cong : pairs N M ≡ pairs N M'
  unfolding pairs count
  pairs-cong = sum-cong N _ _ (λ i li. sum-cong N (λ j. ind (ltb 0 (M i j))) (λ j. ind (ltb 0 (M' i j))) (λ j lj. ap (λ (x : ℕ). ind (ltb 0 x)) (e i j li lj)))

  joined-cong : (o : ℕ → ℕ) (i : ℕ) → i < N → joined_cell N M o i ≡ joined_cell N M' o i
  joined-cong o i li = go (dec_lt (o i) N)
    where
      go : Dec (o i < N) → joined_cell N M o i ≡ joined_cell N M' o i
      go (yes l) = joined-cell N M o i l ∙ e i (o i) li l ∙ sym (joined-cell N M' o i l)
      go (no l) = idle-cell N M o i (omega arith) ∙ sym (idle-cell N M' o i (omega arith))

smallest-cong : (n : ℕ) (f g : ℕ → ℕ) → ((i : ℕ) → i < n → f i ≡ g i) → smallest n f ≡ smallest n g
unfolding smallest
smallest-cong zero f g h = refl
smallest-cong (suc n) f g h = cc (smallest-cong n f g (λ i l. h i (omega arith)), h n (omega arith))

hold-cong : (N L : ℕ) (M M' : ℕ → ℕ → ℕ) → ((i j : ℕ) → i < N → j < N → M i j ≡ M' i j) → quiet_hold N L M ≡ quiet_hold N L M'
unfolding quiet_hold
hold-cong N L M M' e = ap (λ (o : ℕ → ℕ). smallest N (joined_cell N M o)) (setting-cong N L M M' e)
    ∙ smallest-cong N (joined_cell N M (quiet_setting N L M')) (joined_cell N M' (quiet_setting N L M')) (joined-cong N L M M' e (quiet_setting N L M'))

rest-cong : (N L : ℕ) (M M' : ℕ → ℕ → ℕ) → ((i j : ℕ) → i < N → j < N → M i j ≡ M' i j) → (i j : ℕ) → i < N → j < N → quiet_rest N L M i j ≡ quiet_rest N L M' i j
unfolding quiet_rest
rest-cong N L M M' e i j li lj =
    peel-cong N M M' e (quiet_hold N L M) (quiet_setting N L M) i j li lj
    ∙ ap (λ (h : ℕ). peel h (quiet_setting N L M) M' i j) (hold-cong N L M M' e) ∙ ap (λ (o : ℕ → ℕ). peel (quiet_hold N L M') o M' i j) (setting-cong N L M M' e)

record-cong : (W N L : ℕ) (M M' : ℕ → ℕ → ℕ) → ((i j : ℕ) → i < N → j < N → M i j ≡ M' i j) → quiet_record W N L M ≡ quiet_record W N L M'
unfolding quiet_record
record-cong W N L M M' e =
    let h = hold-cong N L M M' e in
    let o = setting-cong N L M M' e in
    λ x. record { hold = h x; outputs = tab W 0 (o x) }

quiets-cong : (W k N L : ℕ) (M M' : ℕ → ℕ → ℕ) → ((i j : ℕ) → i < N → j < N → M i j ≡ M' i j) → quiets W k N L M ≡ quiets W k N L M'
unfolding quiets
quiets-cong W zero N L M M' e = refl
quiets-cong W (suc k) N L M M' e =
    let a = pairs-cong N L M M' e in
    let r = record-cong W N L M M' e in
    let p = quiets-cong W k N L (quiet_rest N L M) (quiet_rest N L M') (rest-cong N L M M' e) in
    λ x. cond (eqb (a x) 0) [] (r x ∷ p x)

pub quiet-cong : (W N L : ℕ) (M M' : ℕ → ℕ → ℕ) → ((i j : ℕ) → i < N → j < N → M i j ≡ M' i j) → quiet_from W N L M ≡ quiet_from W N L M'
unfolding quiet_from
quiet-cong W N L M M' e = ap (λ (k : ℕ). quiets W k N L M) (pairs-cong N L M M' e) ∙ quiets-cong W (pairs N M') N L M M' e
