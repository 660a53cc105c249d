-- Every record of the rules' plans is sound: a setting below N, held at least 1, with all later outputs idle.
use mathlib.Core.Path.{◌≡◌, refl, sym, ap, ◌∙◌, subst}
use mathlib.Core.Logic.{◌⊎◌, inl, inr}
use mathlib.Core.Bool.{Bool, cond}
use mathlib.Core.List.{List, [], ◌∷◌, ◌++◌, map}
use Prim.Native.Nat.{ℕ, zero, suc, ◌+◌, ◌*◌, ◌%◌, ◌<◌, ◌≤◌}
use native.Mathlib.Nat.{mul-le-mul_right}
use native.Mathlib.Decide.{ℕ_discrete}
use native.Mathlib.Omega.{arith}
use lib.ListN.{length}
use lib.Dec.{eqb}
use borrow.Author.Tests.{eq-eqb, ne_eqb}
use Rattle.counting.specs.Sum.{sum}
use Rattle.counting.specs.Matrix.{row}
use Rattle.switch.specs.Demand.{cell, longest}
use Rattle.switch.specs.Plan.{Setting, Record, output}
use Rattle.switch.specs.Sound.{Each, none, more, Sound}
use Rattle.switch.proofs.Plan.{full-setting}
use Rattle.switch.proofs.Sound.{each_append, full-sound}
use Rattle.rules.specs.Search.{put}
use Rattle.rules.specs.Peel as rule
use Rattle.rules.specs.Peel.{Peels, peel}
use Rattle.rules.specs.Exact.{tab, exact_plan}
use Rattle.rules.specs.Doubled.{unit, divide, stretch, held, turns, rotate, alike, tight, doubled_by, every_rotation_plan, doubled_plan, Joins}
use Rattle.rules.specs.Quick.{lowest, may, seat, visits, slot, slots, quick_from, quick_plan}
use Rattle.rules.proofs.Peels.{length-tab, output-tab}
use Rattle.rules.proofs.Ports.{put_same, put_other}
use Rattle.rules.proofs.Exact.{exact-peels}
use Rattle.rules.proofs.Doubled.{length-divide, unit-above}
use Rattle.rules.proofs.Rotate.{rotate-joins, rotate-idle}
use Rattle.rules.proofs.Slot.{Low, lowest-low, slot-maximal, slot-idle}
use Rattle.rules.proofs.Slot as low

module _ (W N : ℕ) where
  -- ---- the exact plan

  peels-sound : {M : ℕ → ℕ → ℕ} {p : List Record} → Peels W N M p → Each (Sound W N) p
  unfolding output
  peels-sound (rule.none c) = none
  peels-sound (rule.more {r = r} f t l s) =
      more (full-sound W N r (omega (arith, f.fits.used l.place l.inside, l.met)) t.size f.fits.full (λ i n _. t.rest i n)) (peels-sound s)

  -- ---- the doubled plan

  stretch-sound : (u : ℕ) → 0 < u → {p : List Record} → Each (Sound W N) p → Each (Sound W N) (map (stretch u) p)
  unfolding stretch output
  stretch-sound u l none = none
  stretch-sound u l (more {r = r} s t) =
      more {r = stretch u r} (record { held = omega (arith, mul-le-mul_right u s.held); size = s.size; inside = s.inside; setting = s.setting; later = s.later }) (stretch-sound u l t)

  module _ (top : N ≤ W) where
    -- the record of a setting o that is idle past N
    tab-sound : (h : ℕ) → 0 < h → (o : ℕ → ℕ) → Setting N o → ((i : ℕ) → i < N → (o i < N) ⊎ (o i ≡ 255)) → ((i : ℕ) → N ≤ i → o i ≡ 255) → Sound W N (record { hold = h; outputs = tab W 0 o })
    tab-sound h l o s i past =
        let e = output-tab W N h top o past in record {
          held = l;
          size = length-tab W 0 o;
          inside = subst (λ (f : ℕ → ℕ). (k : ℕ) → k < N → (f k < N) ⊎ (f k ≡ 255)) (sym e) i;
          setting = subst (Setting N) (sym e) s;
          later = λ k n _. ap (λ (f : ℕ → ℕ). f k) e ∙ past k n;
        }

    -- the settings τ of the second part, each held for at most its time
    module _ (τ : ℕ → ℕ → ℕ) (J : Joins N τ) (past : (k i : ℕ) → N ≤ i → τ k i ≡ 255) (H : ℕ → ℕ) where
      held-sound : (k : ℕ) → k < N → (h : ℕ) → Each (Sound W N) (held W h (τ k))
      unfolding held
      held-sound k l zero = none
      held-sound k l (suc h) = more (tab-sound (suc h) (omega arith) (τ k) (full-setting N (τ k) (J.full k l)) (λ i li. inl ((J.full k l).inside i li)) (past k)) none

      turns-sound : (n k : ℕ) → n + k ≤ N → Each (Sound W N) (turns W τ H n k)
      unfolding turns
      turns-sound zero k l = none
      turns-sound (suc n) k l = each_append (held-sound k (omega arith) (H k)) (turns-sound n (suc k) (omega arith))

    -- ---- the quick cover

    lowest-inside : (P : ℕ → Bool) (j : ℕ) → Low N 0 P j → (j < N) ⊎ (j ≡ 255)
    lowest-inside P j (low.at x a b t h) = inl (omega arith)
    lowest-inside P j (low.nowhere h) = inr refl

    visits-inside : (M : ℕ → ℕ → ℕ) (s v i : ℕ) → ((visits N M s v).outputs i < N) ⊎ ((visits N M s v).outputs i ≡ 255)
    unfolding visits seat
    visits-inside M s zero i = inr refl
    visits-inside M s (suc v) i = go (ℕ_discrete i ((v + s) % N)) (visits-inside M s v i)
      where
        j : ℕ
        j = lowest N 0 (may M (visits N M s v).taken ((v + s) % N))

        go : Dec (i ≡ (v + s) % N) → ((visits N M s v).outputs i < N) ⊎ ((visits N M s v).outputs i ≡ 255)
            → (put (visits N M s v).outputs ((v + s) % N) j i < N) ⊎ (put (visits N M s v).outputs ((v + s) % N) j i ≡ 255)
        go (yes e) before = rw (e, put_same (visits N M s v).outputs ((v + s) % N) j) (lowest-inside (may M (visits N M s v).taken ((v + s) % N)) j (lowest-low N 0 (may M (visits N M s v).taken ((v + s) % N))))
        go (no ne) before = rw (put_other (visits N M s v).outputs ((v + s) % N) j i ne) before

    slots-sound : 0 < N → N ≤ 255 → (k s : ℕ) (M : ℕ → ℕ → ℕ) → Each (Sound W N) (slots W k N s M)
    unfolding slots
    slots-sound pos few zero s M = none
    slots-sound pos few (suc k) s M = go (ℕ_discrete (sum N (row N M)) 0) (slots-sound pos few k (suc s) (peel 1 (slot N M s) M))
      where
        here : Sound W N (record { hold = 1; outputs = tab W 0 (slot N M s) })
        here = unfold slot in tab-sound 1 (omega arith) (slot N M s) (slot-maximal N pos few M s).setting (λ i _. visits-inside M s N i) (slot-idle N pos few M s)

        go : Dec (sum N (row N M) ≡ 0) → Each (Sound W N) (slots W k N (suc s) (peel 1 (slot N M s) M))
            → Each (Sound W N) (cond (eqb (sum N (row N M)) 0) [] (record { hold = 1; outputs = tab W 0 (slot N M s) } ∷ slots W k N (suc s) (peel 1 (slot N M s) M)))
        go (yes e) rest = rw (eq-eqb (sum N (row N M)) 0 e) none
        go (no ne) rest = rw (ne_eqb (sum N (row N M)) 0 ne) (more here rest)

    -- ---- the plans

    module _ (pos : 0 < N) where
      pub exact-sound : (d : List ℕ) → N * N ≤ length d → Each (Sound W N) (exact_plan W N d)
      exact-sound d s = peels-sound (exact-peels W N pos top d s)

      -- whatever the settings of the second part, and however long they are held
      pub doubled-by-sound : (τ : ℕ → ℕ → ℕ) → Joins N τ → ((k i : ℕ) → N ≤ i → τ k i ≡ 255) → (H : ℕ → ℕ → ℕ) (d : List ℕ) → N * N ≤ length d → Each (Sound W N) (doubled_by W N τ H d)
      unfolding doubled_by
      doubled-by-sound τ J past H d s = go (ℕ_discrete T 0)
        where
          T : ℕ
          T = longest N (cell N d)

          u : ℕ
          u = unit N T

          plan : List Record
          plan = map (stretch u) (exact_plan W N (divide u d)) ++ turns W τ (H u) N 0

          go : Dec (T ≡ 0) → Each (Sound W N) (cond (eqb T 0) [] plan)
          go (yes e) = rw (eq-eqb T 0 e) none
          go (no ne) =
              rw (ne_eqb T 0 ne)
              (each_append (stretch-sound u some (exact-sound (divide u d) (omega (arith, s, length-divide u d)))) (turns-sound τ J past (H u) N 0 (omega arith)))
            where
              some : 0 < u
              some = by (ℕ_discrete u 0)
                where
                  by : Dec (u ≡ 0) → 0 < u
                  by (yes z) = absurd (omega (arith, unit-above N T pos, ap (λ (x : ℕ). x * N) z))
                  by (no z) = omega arith

      -- rotations, by any rule
      rotations-sound : (H : ℕ → ℕ → ℕ) (d : List ℕ) → N * N ≤ length d → Each (Sound W N) (doubled_by W N (rotate N) H d)
      rotations-sound = doubled-by-sound (rotate N) (rotate-joins N pos) (rotate-idle N)

      pub doubled-sound : (d : List ℕ) → N * N ≤ length d → Each (Sound W N) (every_rotation_plan W N d)
      unfolding every_rotation_plan
      doubled-sound = rotations-sound alike

      pub tight-sound : (d : List ℕ) → N * N ≤ length d → Each (Sound W N) (doubled_plan W N d)
      unfolding doubled_plan
      tight-sound d = rotations-sound (tight N (rotate N) d) d

      pub quick-sound : N ≤ 255 → (d : List ℕ) → Each (Sound W N) (quick_plan W N d)
      unfolding quick_plan quick_from
      quick-sound few d = slots-sound pos few (sum N (row N (cell N d))) 0 (cell N d)
