-- A larger batch has the same settings: fill, the pairs that are not zero, the first setting over them and its smallest cell all keep
-- their place when every cell is multiplied by k, and what is left after a setting is k times what was left before.
use mathlib.Core.Path.{◌≡◌, refl, sym, ap, ap₂, ◌∙◌}
use mathlib.Core.List.{List, [], ◌∷◌, map}
use Prim.Native.Nat.{ℕ, zero, suc, ◌+◌, ◌*◌, ◌-◌, ◌/◌, ◌%◌, ◌≤◌, ◌<◌, min, max}
use native.Mathlib.Decide.{dec_le}
use native.Mathlib.Omega.{arith}
use native.Mathlib.Nat.{mul-le-mul_left}
use lib.ListN.{get_or, length, set, length-map, get_or-map}
use Rattle.counting.specs.Sum.{sum, most}
use Rattle.counting.specs.Count.{ind, δ}
use Rattle.counting.specs.Matrix.{row, col}
use Rattle.counting.proofs.Sum.{sum-mul, sum-cong}
use Rattle.counting.proofs.Most.{most-cong}
use Rattle.switch.specs.Demand.{cell, longest}
use Rattle.switch.specs.Plan.{Record, output}
use Rattle.rules.specs.First.{NonZero, Fits}
use Rattle.rules.specs.Fill.{lack, fill_cell, fill_to, fill, filled}
use Rattle.rules.specs.Search.{put, pick, free, complete, first_setting}
use Rattle.rules.specs.Peel.{peel, Clear, Least, Peels}
use Rattle.rules.specs.Exact.{tab, least, record_of, peels, exact_from, exact_plan}
use Rattle.rules.specs.Doubled.{unit, divide, stretch, rotate, held, turns, doubled_by, alike, every_rotation_plan, tight, doubled_plan}
use Rattle.rules.specs.Quick.{lowest, may, seat, visits, slot, slots, quick_from, quick_plan}
use Rattle.rules.specs.Larger.{multiplied, LargerBatch}
use Rattle.rules.proofs.Peels.{peels-cong}
use Rattle.rules.proofs.Exact.{exact-peels, exact-only}

-- ---- products with k

pub mul-sub : (k a b : ℕ) → a * k - b * k ≡ (a - b) * k
mul-sub k a b = go (dec_le b a)
  where
    go : Dec (b ≤ a) → a * k - b * k ≡ (a - b) * k
    go (yes h) = let c : ℕ = a - b in let e : a ≡ b + c = omega arith in omega (arith, ap (λ x. x * k) e)
    go (no h) = let e : a - b ≡ 0 = omega arith in let g : a ≤ b = omega arith in rw e (omega (arith, mul-le-mul_left k g))

mul-max : (k a b : ℕ) → max (a * k) (b * k) ≡ max a b * k
mul-max k a b = go (dec_le a b)
  where
    go : Dec (a ≤ b) → max (a * k) (b * k) ≡ max a b * k
    go (yes h) = let e : max a b ≡ b = omega arith in rw e (omega (arith, mul-le-mul_left k h))
    go (no h) = let e : max a b ≡ a = omega arith in let g : b ≤ a = omega arith in rw e (omega (arith, mul-le-mul_left k g))

mul-min : (k a b : ℕ) → min (a * k) (b * k) ≡ min a b * k
mul-min k a b = go (dec_le a b)
  where
    go : Dec (a ≤ b) → min (a * k) (b * k) ≡ min a b * k
    go (yes h) = let e : min a b ≡ a = omega arith in rw e (omega (arith, mul-le-mul_left k h))
    go (no h) = let e : min a b ≡ b = omega arith in let g : b ≤ a = omega arith in rw e (omega (arith, mul-le-mul_left k g))

pos-up : (k m : ℕ) → 0 < k → 0 < m → 0 < m * k
pos-up (suc k) m p q = omega arith
pos-up zero m p q = omega arith

pos-down : (k m : ℕ) → 0 < m * k → 0 < m
pos-down k zero p = omega arith
pos-down k (suc m) p = omega arith

-- ---- lines

pub sum-times : (n k : ℕ) (f : ℕ → ℕ) → sum n (λ i. f i * k) ≡ sum n f * k
sum-times n k f = omega (arith, sum-mul n k f, sum-cong n (λ i. f i * k) (λ i. k * f i) (λ i _. omega arith))

most-times : (n k : ℕ) (f : ℕ → ℕ) → most n (λ i. f i * k) ≡ most n f * k
unfolding most
most-times zero k f = omega arith
most-times (suc n) k f = ap (λ x. max x (f n * k)) (most-times n k f) ∙ mul-max k (most n f) (f n)

module _ (N k : ℕ) (d : List ℕ) where
  -- a cell of the larger batch
  pub cell-multiplied : (i j : ℕ) → cell N (multiplied k d) i j ≡ cell N d i j * k
  unfolding cell multiplied
  cell-multiplied i j = ap (λ (z : ℕ). get_or (map (λ x. x * k) d) (i * N + j) z) (omega arith) ∙ get_or-map (λ x. x * k) d (i * N + j) 0

  row-multiplied : (i : ℕ) → row N (cell N (multiplied k d)) i ≡ row N (cell N d) i * k
  unfolding row
  row-multiplied i = sum-cong N _ _ (λ j _. cell-multiplied i j) ∙ sum-times N k (cell N d i)

  col-multiplied : (j : ℕ) → col N (cell N (multiplied k d)) j ≡ col N (cell N d) j * k
  unfolding col
  col-multiplied j = sum-cong N _ _ (λ i _. cell-multiplied i j) ∙ sum-times N k (λ i. cell N d i j)

  -- T of the larger batch
  pub longest-multiplied : longest N (cell N (multiplied k d)) ≡ longest N (cell N d) * k
  unfolding longest
  longest-multiplied =
      ap₂ max (most-cong N _ _ (λ i _. row-multiplied i) ∙ most-times N k (row N (cell N d)))
      (most-cong N _ _ (λ j _. col-multiplied j) ∙ most-times N k (col N (cell N d)))
      ∙ mul-max k (most N (row N (cell N d))) (most N (col N (cell N d)))

  lack-multiplied : (t i j : ℕ) → lack N (t * k) (cell N (multiplied k d)) i j ≡ lack N t (cell N d) i j * k
  unfolding lack
  lack-multiplied t i j =
      ap₂ (λ x y. min (t * k - x) (t * k - y)) (row-multiplied i) (col-multiplied j)
      ∙ ap₂ min (mul-sub k t (row N (cell N d) i)) (mul-sub k t (col N (cell N d) j))
      ∙ mul-min k (t - row N (cell N d) i) (t - col N (cell N d) j)

-- ---- fill

map-set : (f : ℕ → ℕ) (l : List ℕ) (i v : ℕ) → map f (set l i v) ≡ set (map f l) i (f v)
map-set f [] i v = refl
map-set f (x ∷ l) zero v = refl
map-set f (x ∷ l) (suc i) v = ap (λ z. f x ∷ z) (map-set f l i v)

module _ (N k t : ℕ) (d : List ℕ) where
  fill_cell-multiplied : (i j : ℕ) → fill_cell N (t * k) (multiplied k d) i j ≡ multiplied k (fill_cell N t d i j)
  unfolding fill_cell
  fill_cell-multiplied i j =
      ap (set (multiplied k d) (i * N + j)) more ∙ sym (unfold multiplied in map-set (λ x. x * k) d (i * N + j) (cell N d i j + lack N t (cell N d) i j))
    where
      more : cell N (multiplied k d) i j + lack N (t * k) (cell N (multiplied k d)) i j ≡ (cell N d i j + lack N t (cell N d) i j) * k
      more = omega (arith, cell-multiplied N k d i j, lack-multiplied N k d t i j)

fill_to-multiplied : (N k t : ℕ) (d : List ℕ) (m : ℕ) → fill_to N (t * k) (multiplied k d) m ≡ multiplied k (fill_to N t d m)
unfolding fill_to
fill_to-multiplied N k t d zero = refl
fill_to-multiplied N k t d (suc m) =
    ap (λ (e : List ℕ). fill_cell N (t * k) e (m / N) (m % N)) (fill_to-multiplied N k t d m)
    ∙ fill_cell-multiplied N k t (fill_to N t d m) (m / N) (m % N)

filled-multiplied : (N k : ℕ) (d : List ℕ) (i j : ℕ) → filled N (multiplied k d) i j ≡ filled N d i j * k
unfolding fill
filled-multiplied N k d i j =
    rw (longest-multiplied N k d, fill_to-multiplied N k (longest N (cell N d)) d (N * N)) (cell-multiplied N k (fill_to N (longest N (cell N d)) d (N * N)) i j)

-- ---- peel

abbrev times : ℕ → (ℕ → ℕ → ℕ) → ℕ → ℕ → ℕ
times k M i j = M i j * k

module _ (N k : ℕ) (pos : 0 < k) where
  fits-times : {M : ℕ → ℕ → ℕ} {o : ℕ → ℕ} → Fits N (NonZero M) o → Fits N (NonZero (times k M)) o
  fits-times {M} {o} f = record { full = f.full; used = λ i l. pos-up k (M i (o i)) pos (f.used i l) }

  fits-once : {M : ℕ → ℕ → ℕ} {o : ℕ → ℕ} → Fits N (NonZero (times k M)) o → Fits N (NonZero M) o
  fits-once {M} {o} f = record { full = f.full; used = λ i l. pos-down k (M i (o i)) (f.used i l) }

  peel-times : (h : ℕ) (o : ℕ → ℕ) (M : ℕ → ℕ → ℕ) (i j : ℕ) → times k (peel h o M) i j ≡ peel (h * k) o (times k M) i j
  unfolding peel
  peel-times h o M i j = sym (mul-sub k (M i j) (h * δ (o i) j)) ∙ ap (λ x. M i j * k - x) (omega arith)

  least-times : {M : ℕ → ℕ → ℕ} {o : ℕ → ℕ} {h : ℕ} → Least N M o h → Least N (times k M) o (h * k)
  least-times l =
      record { below = λ i li. omega (arith, mul-le-mul_left k (l.below i li)); place = l.place; inside = l.inside; met = ap (λ x. x * k) l.met }

  clear-times : {M : ℕ → ℕ → ℕ} → Clear N M → Clear N (times k M)
  clear-times c i j li lj = omega (arith, ap (λ x. x * k) (c i j li lj))

  -- what is taken off k times the cells is what is taken off the cells, held k times as long
  pub peels-times : {W : ℕ} {M : ℕ → ℕ → ℕ} {p : List Record} → Peels W N M p → Peels W N (times k M) (map (stretch k) p)
  unfolding stretch output
  peels-times {M} (Peels.none c) = Peels.none (clear-times c)
  peels-times {M} (Peels.more {r = r} f t l s) =
      Peels.more (record { fits = fits-times f.fits; first = λ q g. f.first q (fits-once g) }) t (least-times l)
      (peels-cong N (peels-times s) (peel (r.hold * k) (output r) (times k M)) (λ i j _ _. peel-times r.hold (output r) M i j))

-- k times the demand: the exact plan keeps its settings and their order, and each is held k times as long
pub exact-multiplied : LargerBatch
exact-multiplied W N k some top pos d s =
    sym (exact-only W N some top (multiplied k d) size (map (stretch k) (exact_plan W N d))
    (peels-cong N (peels-times N k pos (exact-peels W N some top d s)) (filled N (multiplied k d)) (λ i j _ _. sym (filled-multiplied N k d i j))))
  where
    size : N * N ≤ length (multiplied k d)
    size = unfold multiplied in rw (length-map d (λ x. x * k)) s

-- ---- only the exact plan is so: the smallest demands whose other plans are not the same settings held longer

-- one slot doubled: the quick cover has a second record, and no longer hold
pub quick-differs : quick_plan 1 1 (multiplied 2 (1 ∷ [])) ≡ map (stretch 2) (quick_plan 1 1 (1 ∷ [])) → ⊥
unfolding multiplied stretch quick_plan quick_from slots slot visits seat may lowest put peel tab row cell sum δ ind
quick-differs e = let z : ◌≡◌ {A = ℕ} 2 1 = ap length e in omega arith

-- one slot doubled: by the rule of every rotation there is a rotation, since u is 2 in the place of 1
pub every-differs : every_rotation_plan 1 1 (multiplied 2 (1 ∷ [])) ≡ map (stretch 2) (every_rotation_plan 1 1 (1 ∷ [])) → ⊥
unfolding multiplied every_rotation_plan doubled_by alike turns held rotate stretch divide unit
    exact_plan exact_from peels record_of least tab first_setting complete free pick put peel fill fill_to fill_cell lack longest most row col cell sum δ ind
every-differs e = let z : ◌≡◌ {A = ℕ} 2 1 = ap length e in omega arith

-- one slot of two ports tripled: u is 2, which leaves a remainder of 1 to a rotation
pub tight-differs : doubled_plan 2 2 (multiplied 3 (1 ∷ 0 ∷ 0 ∷ 0 ∷ [])) ≡ map (stretch 3) (doubled_plan 2 2 (1 ∷ 0 ∷ 0 ∷ 0 ∷ [])) → ⊥
unfolding multiplied doubled_plan tight doubled_by turns held rotate stretch divide unit
    exact_plan exact_from peels record_of least tab first_setting complete free pick put peel fill fill_to fill_cell lack longest most row col cell sum δ ind
tight-differs e = let z : ◌≡◌ {A = ℕ} 2 1 = ap length e in omega arith
