-- The empty slots of each rule's plan: the exact and the doubled plan have full settings only, and the quick cover grants no pair more than its cell.
use mathlib.Core.Path.{◌≡◌, sym, ap, ◌∙◌}
use mathlib.Core.Bool.{Bool, true, false, cond}
use mathlib.Core.List.{List, [], ◌++◌, map}
use Prim.Native.Nat.{ℕ, zero, suc, ◌+◌, ◌*◌, ◌-◌, ◌≤◌, ◌<◌}
use native.Mathlib.Omega.{arith}
use lib.ListN.{length}
use lib.Dec.{eqb}
use Rattle.switch.specs.Demand.{cell, longest}
use Rattle.switch.specs.Plan.{Full, Record, output, total, Covers}
use Rattle.switch.specs.Empty.{all_slots, empty_slots, AllFull}
use Rattle.switch.proofs.Empty.{full-empty, empty-none}
use Rattle.rules.specs.Peel.{Peels, none, more}
use Rattle.rules.specs.Exact.{tab, exact_plan}
use Rattle.rules.specs.Doubled.{unit, divide, stretch, held, turns, doubled_by, Joins}
use Rattle.rules.specs.Quick.{quick_plan}
use Rattle.rules.proofs.Exact.{exact-peels, exact-covers, exact-total}
use Rattle.rules.proofs.Doubled.{length-divide, held-output}
use Rattle.rules.proofs.Quick.{quick-grants}

-- ---- full settings

peels-full : {W N : ℕ} {M : ℕ → ℕ → ℕ} {p : List Record} → Peels W N M p → AllFull N p
peels-full (none c) = AllFull.none
peels-full (more f t l s) = AllFull.more f.fits.full (peels-full s)

stretch-full : {N : ℕ} (u : ℕ) {p : List Record} → AllFull N p → AllFull N (map (stretch u) p)
unfolding stretch output
stretch-full u AllFull.none = AllFull.none
stretch-full u (AllFull.more {r = r} f fs) = AllFull.more {r = stretch u r} f (stretch-full u fs)

append-full : {N : ℕ} {p q : List Record} → AllFull N p → AllFull N q → AllFull N (p ++ q)
append-full AllFull.none t = t
append-full (AllFull.more f fs) t = AllFull.more f (append-full fs t)

module _ (W N : ℕ) (top : N ≤ W) (τ : ℕ → ℕ → ℕ) (J : Joins N τ) (H : ℕ → ℕ) where
  held-full : (h : ℕ) (o : ℕ → ℕ) → Full N o → AllFull N (held W h o)
  unfolding held
  held-full zero o f = AllFull.none
  held-full (suc h) o f = AllFull.more {r = record { hold = suc h; outputs = tab W 0 o }} (record {
    inside = λ i l. rw (held-output W τ H N top (suc h) o i l) (f.inside i l);
    once = λ a b la lb e. f.once a b la lb (sym (held-output W τ H N top (suc h) o a la) ∙ e ∙ held-output W τ H N top (suc h) o b lb);
  }) AllFull.none

  turns-full : (n k : ℕ) → n + k ≤ N → AllFull N (turns W τ H n k)
  unfolding turns
  turns-full zero k l = AllFull.none
  turns-full (suc n) k l = append-full (held-full (H k) (τ k) (J.full k (omega arith))) (turns-full n (suc k) (omega arith))

-- the two parts of a doubled plan, with quotients q
pub parts-full : (W N : ℕ) → 0 < N → N ≤ W → (q : List ℕ) → N * N ≤ length q → (τ : ℕ → ℕ → ℕ) → Joins N τ → (u : ℕ) (H : ℕ → ℕ)
    → AllFull N (map (stretch u) (exact_plan W N q) ++ turns W τ H N 0)
parts-full W N pos top q s τ J u H = append-full (stretch-full u (peels-full (exact-peels W N pos top q s))) (turns-full W N top τ J H N 0 (omega arith))

-- ---- the rules

module _ (W N : ℕ) (pos : 0 < N) (top : N ≤ W) (d : List ℕ) (s : N * N ≤ length d) where
  exact-full : AllFull N (exact_plan W N d)
  exact-full = peels-full (exact-peels W N pos top d s)

  -- of the exact plan: what N × T has beyond all cells (§6.8)
  pub exact-empty-slots : empty_slots N (cell N d) (exact_plan W N d) ≡ N * longest N (cell N d) - all_slots N (cell N d)
  exact-empty-slots = omega (
    arith,
    full-empty N (cell N d) exact-full (exact-covers W N pos top d s),
    ap (λ (t : ℕ). N * t) (exact-total W N pos top d s),
  )

  -- a doubled plan, whatever its second part and however long that is held, where it covers: N × total less the sum of all cells
  module _ (τ : ℕ → ℕ → ℕ) (J : Joins N τ) (H : ℕ → ℕ → ℕ) where
    doubled-full : AllFull N (doubled_by W N τ H d)
    unfolding doubled_by
    doubled-full = go (eqb (longest N (cell N d)) 0) (unit N (longest N (cell N d)))
      where
        go : (b : Bool) (u : ℕ) → AllFull N (cond b [] (map (stretch u) (exact_plan W N (divide u d)) ++ turns W τ (H u) N 0))
        go true u = AllFull.none
        go false u = parts-full W N pos top (divide u d) (omega (arith, s, length-divide u d)) τ J u (H u)

    pub doubled-empty-slots : Covers N (cell N d) (doubled_by W N τ H d)
        → empty_slots N (cell N d) (doubled_by W N τ H d) ≡ N * total (doubled_by W N τ H d) - all_slots N (cell N d)
    doubled-empty-slots c = omega (arith, full-empty N (cell N d) doubled-full c)

-- the quick cover grants every pair exactly its cell
pub quick-empty-slots : (W N : ℕ) → 0 < N → N ≤ W → N ≤ 255 → (d : List ℕ) → empty_slots N (cell N d) (quick_plan W N d) ≡ 0
quick-empty-slots W N pos wide top d =
    empty-none N (cell N d) (quick_plan W N d) (λ i j li lj. omega (arith, quick-grants W N pos wide top d i j li lj))
