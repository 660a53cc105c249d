-- Every record of the quiet plan is sound: each input takes an output below N or is idle, no input past N is visited, and the hold is a cell that is not zero.
use mathlib.Core.Path.{◌≡◌, refl, sym, ap, ◌∙◌, subst}
use mathlib.Core.Logic.{◌≢◌, ◌⊎◌, inl, inr}
use mathlib.Core.Bool.{cond}
use mathlib.Core.List.{List, [], ◌∷◌}
use Prim.Native.Nat.{ℕ, zero, suc, ◌≤◌, ◌<◌}
use native.Mathlib.Decide.{ℕ_discrete}
use native.Mathlib.Omega.{arith}
use lib.Dec.{eqb}
use borrow.Author.Tests.{eq-eqb, ne_eqb}
use Rattle.switch.specs.Demand.{cell}
use Rattle.switch.specs.Plan.{Setting}
use Rattle.switch.specs.Sound.{Each, none, more, Sound}
use Rattle.rules.specs.Search.{put}
use Rattle.rules.specs.Quick.{lowest, seat}
use Rattle.rules.proofs.Ports.{put_same, put_other}
use Rattle.rules.proofs.Peels.{length-tab, output-tab}
use Rattle.rules.proofs.Slot.{Low, at, nowhere, lowest-low}
use Rattle.quiet_rule.specs.Quiet.{may_within, served, quiet_setting, quiet_hold, pairs, quiet_record, quiet_rest, quiets, quiet_from, quiet_plan}
use Rattle.quiet_rule.proofs.Setting.{setting-greedy, setting-idle}
use Rattle.quiet_rule.proofs.Quiet.{setting-hold}

module _ (N L : ℕ) (M : ℕ → ℕ → ℕ) where
  served-places : (v i : ℕ) → ((served N L M v).outputs i < N) ⊎ ((served N L M v).outputs i ≡ 255)
  unfolding served seat
  served-places zero i = inr refl
  served-places (suc v) i = go (ℕ_discrete i v) (served-places v i)
    where
      o : ℕ → ℕ
      o = (served N L M v).outputs

      j : ℕ
      j = lowest N 0 (may_within N L M (served N L M v) v)

      place : (y : ℕ) → Low N 0 (may_within N L M (served N L M v) v) y → (y < N) ⊎ (y ≡ 255)
      place y (at y' a b t h) = inl (omega arith)
      place y (nowhere h) = inr refl

      go : Dec (i ≡ v) → (o i < N) ⊎ (o i ≡ 255) → (put o v j i < N) ⊎ (put o v j i ≡ 255)
      go (yes e) r = rw (e, put_same o v j) (place j (lowest-low N 0 (may_within N L M (served N L M v) v)))
      go (no e) r = rw (put_other o v j i e) r

module _ (W N : ℕ) (wide : N ≤ W) (top : N ≤ 255) (L : ℕ) (limit : 0 < L) where
  record-sound : (M : ℕ → ℕ → ℕ) → pairs N M ≢ 0 → Sound W N (quiet_record W N L M)
  unfolding quiet_record quiet_setting
  record-sound M ne =
      let e = output-tab W N (quiet_hold N L M) wide (quiet_setting N L M) (setting-idle N top L M) in record {
        held = (setting-hold W N wide top L limit M ne).up;
        size = length-tab W 0 (quiet_setting N L M);
        inside = subst (λ (f : ℕ → ℕ). (k : ℕ) → k < N → (f k < N) ⊎ (f k ≡ 255)) (sym e) (λ k _. served-places N L M N k);
        setting = subst (Setting N) (sym e) (setting-greedy N top L M).setting;
        later = λ k n _. ap (λ (f : ℕ → ℕ). f k) e ∙ setting-idle N top L M k n;
      }

  quiets-sound : (k : ℕ) (M : ℕ → ℕ → ℕ) → Each (Sound W N) (quiets W k N L M)
  unfolding quiets
  quiets-sound zero M = none
  quiets-sound (suc k) M = go (ℕ_discrete (pairs N M) 0) (quiets-sound k (quiet_rest N L M))
    where
      go : Dec (pairs N M ≡ 0) → Each (Sound W N) (quiets W k N L (quiet_rest N L M))
          → Each (Sound W N) (cond (eqb (pairs N M) 0) [] (quiet_record W N L M ∷ quiets W k N L (quiet_rest N L M)))
      go (yes e) r = rw (eq-eqb (pairs N M) 0 e) none
      go (no ne) r = rw (ne_eqb (pairs N M) 0 ne) (more (record-sound M ne) r)

  pub quiet-sound : (d : List ℕ) → Each (Sound W N) (quiet_plan W N L d)
  unfolding quiet_plan quiet_from
  quiet-sound d = quiets-sound (pairs N (cell N d)) (cell N d)
