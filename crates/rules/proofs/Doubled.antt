-- The quotients' lines are at most T / u ≤ N, so the first part has at most N records and total at most T; the second at most N of at most
-- u - 1 each, less than T together; and a cell is u times its quotient and a remainder that its one setting of the second part holds.
use mathlib.Core.Path.{◌≡◌, refl, sym, ap, ◌∙◌}
use mathlib.Core.Bool.{cond}
use mathlib.Core.List.{List, [], ◌∷◌, ◌++◌, map}
use Prim.Native.Nat.{ℕ, zero, suc, ◌+◌, ◌*◌, ◌-◌, ◌/◌, ◌%◌, ◌≤◌, ◌<◌}
use native.Mathlib.Decide.{ℕ_discrete}
use native.Mathlib.Omega.{arith}
use native.Mathlib.Nat.{zero-div, div-mul-le_self, lt-div-mul-add, le-div_iff_mul-le, div-add-mod', le_of_mul-le-mul_right, le-mul_of_pos_right, mul-le-mul_right}
use lib.ListN.{get_or, length, length-map, length-append, get_or-map}
use lib.Dec.{eqb}
use borrow.Author.Tests.{ne_eqb}
use Rattle.counting.specs.Sum.{sum}
use Rattle.counting.specs.Count.{δ}
use Rattle.counting.specs.Matrix.{row, col}
use Rattle.counting.proofs.Sum.{sum-at, sum_mono, sum-mul}
use Rattle.counting.proofs.Count.{δ-same}
use Rattle.switch.specs.Demand.{cell, longest}
use Rattle.switch.specs.Plan.{Full, Record, output, Plan, none, more, grant, total, Covers}
use Rattle.switch.proofs.Append.{total-append, grant-append, plan-append}
use Rattle.switch.proofs.Demand.{longest-le, row-le-longest, col-le-longest}
use Rattle.rules.specs.Exact.{tab, exact_plan}
use Rattle.rules.specs.Doubled.{unit, divide, stretch, held, turns, doubled_by, Joins, Doubled}
use Rattle.rules.proofs.Peels.{get_or-tab}
use Rattle.rules.proofs.Room.{length-le-total}
use Rattle.rules.proofs.Exact.{exact-covers, exact-total, exact-plan}

-- ---- lists of records

pub total-stretch : (u : ℕ) (p : List Record) → total (map (stretch u) p) ≡ total p * u
unfolding total stretch
total-stretch u [] = omega arith
total-stretch u (r ∷ p) = omega (arith, total-stretch u p)

pub grant-stretch : (u : ℕ) (p : List Record) (i j : ℕ) → grant (map (stretch u) p) i j ≡ grant p i j * u
unfolding grant stretch output
grant-stretch u [] i j = omega arith
grant-stretch u (r ∷ p) i j = omega (arith, grant-stretch u p i j)

pub plan-stretch : {N : ℕ} (u : ℕ) → 0 < u → {p : List Record} → Plan N p → Plan N (map (stretch u) p)
unfolding stretch output
plan-stretch u l none = none
plan-stretch u l (more {r = r} h s ss) = more {r = stretch u r} (omega (arith, mul-le-mul_right u h)) s (plan-stretch u l ss)

-- ---- quotients

pub length-divide : (u : ℕ) (d : List ℕ) → length (divide u d) ≡ length d
unfolding divide
length-divide u d = length-map d (λ x. x / u)

pub cell-divide : (N u : ℕ) (d : List ℕ) (i j : ℕ) → cell N (divide u d) i j ≡ cell N d i j / u
unfolding cell divide
cell-divide N u d i j = ap (λ (z : ℕ). get_or (map (λ x. x / u) d) (i * N + j) z) (sym (zero-div u)) ∙ get_or-map (λ x. x / u) d (i * N + j) 0

sum-divide : (n u : ℕ) (f g : ℕ → ℕ) → ((i : ℕ) → i < n → g i ≡ f i / u) → sum n g * u ≤ sum n f
sum-divide n u f g e = omega (arith, sum-mul n u g, sum_mono n (λ i. u * g i) f (λ i l. omega (arith, div-mul-le_self (f i) u, ap (λ x. x * u) (e i l))))

-- the quotients' T
pub longest-divide : (N u : ℕ) (d : List ℕ) → 0 < u → longest N (cell N (divide u d)) ≤ longest N (cell N d) / u
unfolding row col
longest-divide N u d p = longest-le N (longest N (cell N d) / u) (cell N (divide u d))
    (λ i l. (le-div_iff_mul-le p).1 (omega (arith, row-le-longest N (cell N d) i l, sum-divide N u (cell N d i) (cell N (divide u d) i) (λ j _. cell-divide N u d i j))))
    (λ j l. (le-div_iff_mul-le p).1 (omega (arith, col-le-longest N (cell N d) j l, sum-divide N u (λ i. cell N d i j) (λ i. cell N (divide u d) i j) (λ i _. cell-divide N u d i j))))

-- ---- u

pub unit-above : (N T : ℕ) → 0 < N → T ≤ unit N T * N
unfolding unit
unit-above N T pos = omega (arith, lt-div-mul-add {a = T + (N - 1)} pos)

pub unit-below : (N T : ℕ) → unit N T * N ≤ T + (N - 1)
unfolding unit
unit-below N T = div-mul-le_self (T + (N - 1)) N

-- T is at least 1
module _ (N T : ℕ) (pos : 0 < N) (some : 0 < T) where
  pub unit-some : 0 < unit N T
  unit-some = go (unit N T) refl
    where
      go : (u : ℕ) → unit N T ≡ u → 0 < u
      go zero e = absurd (omega (arith, unit-above N T pos, ap (λ y. y * N) e))
      go (suc v) e = omega arith

  pub unit-small : unit N T ≤ T
  unit-small = go (unit N T) refl
    where
      go : (u : ℕ) → unit N T ≡ u → u ≤ T
      go zero e = omega arith
      go (suc v) e = omega (arith, unit-below N T, ap (λ y. y * N) e, le-mul_of_pos_right v pos)

-- ---- the second part

module _ (W : ℕ) (τ : ℕ → ℕ → ℕ) (H : ℕ → ℕ) where
  pub length-held : (h : ℕ) (o : ℕ → ℕ) → length (held W h o) ≤ 1
  unfolding held
  length-held zero o = omega arith
  length-held (suc h) o = omega arith

  length-turns : (n k : ℕ) → length (turns W τ H n k) ≤ n
  unfolding turns
  length-turns zero k = omega arith
  length-turns (suc n) k = omega (arith, length-append (held W (H k) (τ k)) (turns W τ H n (suc k)), length-held (H k) (τ k), length-turns n (suc k))

  pub total-held : (h : ℕ) (o : ℕ → ℕ) → total (held W h o) ≡ h
  unfolding held total
  total-held zero o = refl
  total-held (suc h) o = omega arith

  total-turns : (v n k : ℕ) → ((c : ℕ) → H c ≤ v) → total (turns W τ H n k) ≤ n * v
  unfolding turns
  total-turns v zero k b = unfold total in omega arith
  total-turns v (suc n) k b = omega (arith, total-append (held W (H k) (τ k)) (turns W τ H n (suc k)), total-held (H k) (τ k), b k, total-turns v n (suc k) b)

  module _ (N : ℕ) (top : N ≤ W) where
    pub held-output : (h : ℕ) (o : ℕ → ℕ) (i : ℕ) → i < N → output (record { hold = h; outputs = tab W 0 o }) i ≡ o i
    unfolding output
    held-output h o i l = get_or-tab W 0 o i 255 (omega arith) ∙ ap o (omega arith)

    grant-held : (h : ℕ) (o : ℕ → ℕ) (i j : ℕ) → i < N → grant (held W h o) i j ≡ h * δ (o i) j
    unfolding held grant
    grant-held zero o i j l = omega arith
    grant-held (suc h) o i j l = omega (arith, ap (λ x. suc h * δ x j) (held-output (suc h) o i l))

    plan-held : (h : ℕ) (o : ℕ → ℕ) → Full N o → Plan N (held W h o)
    unfolding held
    plan-held zero o f = none
    plan-held (suc h) o f = more {r = record { hold = suc h; outputs = tab W 0 o }} (omega arith) (record { once = λ a b la lb _ e. f.once a b la lb (sym (held-output (suc h) o a la) ∙ e ∙ held-output (suc h) o b lb) }) none

    plan-turns : Joins N τ → (n k : ℕ) → n + k ≤ N → Plan N (turns W τ H n k)
    unfolding turns
    plan-turns J zero k l = none
    plan-turns J (suc n) k l = plan-append (plan-held (H k) (τ k) (J.full k (omega arith))) (plan-turns J n (suc k) (omega arith))

    -- setting c, one of these, joins i to j
    turn-grants : (n k c i j : ℕ) → i < N → k ≤ c → c < n + k → τ c i ≡ j → H c ≤ grant (turns W τ H n k) i j
    unfolding turns
    turn-grants zero k c i j li a b e = absurd (omega arith)
    turn-grants (suc n) k c i j li a b e = go (ℕ_discrete k c) (λ l. turn-grants n (suc k) c i j li l (omega arith) e)
      where
        both : grant (held W (H k) (τ k) ++ turns W τ H n (suc k)) i j ≡ H k * δ (τ k i) j + grant (turns W τ H n (suc k)) i j
        both = omega (arith, grant-append (held W (H k) (τ k)) (turns W τ H n (suc k)) i j, grant-held (H k) (τ k) i j li)

        go : Dec (k ≡ c) → (suc k ≤ c → H c ≤ grant (turns W τ H n (suc k)) i j) → H c ≤ grant (held W (H k) (τ k) ++ turns W τ H n (suc k)) i j
        go (yes x) r = omega (arith, both, ap H x, ap (λ y. H k * δ y j) (ap (λ y. τ y i) x ∙ e), ap (λ y. H k * y) (δ-same j))
        go (no x) r = omega (arith, both, r (omega arith))

-- ---- the plan

module _ (W N : ℕ) (pos : 0 < N) (top : N ≤ W) (τ : ℕ → ℕ → ℕ) (J : Joins N τ) (d : List ℕ) (s : N * N ≤ length d) where
  -- T is at least 1, and u is v + 1
  module _ (H : ℕ → ℕ) (t v : ℕ) (et : longest N (cell N d) ≡ t) (eu : unit N t ≡ suc v)
      (at_most : (k : ℕ) → H k ≤ v) (meets : (i j : ℕ) → i < N → j < N → cell N d i j % suc v ≤ H (J.which i j)) where
    abbrev quotients : List ℕ
    quotients = divide (suc v) d

    abbrev first : List Record
    first = map (stretch (suc v)) (exact_plan W N quotients)

    abbrev second : List Record
    second = turns W τ H N 0

    room : N * N ≤ length quotients
    room = omega (arith, s, length-divide (suc v) d)

    first-total : total first ≡ longest N (cell N quotients) * suc v
    first-total = total-stretch (suc v) (exact_plan W N quotients) ∙ ap (λ x. x * suc v) (exact-total W N pos top quotients room)

    -- the quotients' T, times u, is at most T
    within : longest N (cell N quotients) * suc v ≤ t
    within = omega (arith, et, div-mul-le_self (longest N (cell N d)) (suc v), mul-le-mul_right (suc v) (longest-divide N (suc v) d (omega arith)))

    plan-few : length (first ++ second) ≤ 2 * N
    plan-few = omega (
      arith,
      length-append first second,
      length-map (exact_plan W N quotients) (stretch (suc v)),
      length-le-total (exact-plan W N pos top quotients room),
      exact-total W N pos top quotients room,
      le_of_mul-le-mul_right {m = longest N (cell N quotients)} {n = N} {k = suc v} (omega (arith, within, unit-above N t pos, ap (λ y. y * N) eu)) (omega arith),
      length-turns W τ H N 0,
    )

    plan-short : total (first ++ second) < 2 * t
    plan-short = omega (arith, total-append first second, first-total, within, total-turns W τ H v N 0 at_most, unit-below N t, ap (λ y. y * N) eu)

    plan-covers : Covers N (cell N d) (first ++ second)
    plan-covers i j li lj = omega (
      arith,
      grant-append first second i j,
      grant-stretch (suc v) (exact_plan W N quotients) i j,
      mul-le-mul_right (suc v) (exact-covers W N pos top quotients room i j li lj),
      ap (λ x. x * suc v) (cell-divide N (suc v) d i j),
      turn-grants W τ H N top N 0 (J.which i j) i j li (omega arith) (omega (arith, J.inside i j li lj)) (J.joins i j li lj),
      meets i j li lj,
      div-add-mod' (cell N d i j) (suc v),
    )

    plan-is : Plan N (first ++ second)
    plan-is = plan-append (plan-stretch (suc v) (omega arith) (exact-plan W N pos top quotients room)) (plan-turns W τ H N top J N 0 (omega arith))

  -- if T is 0, nothing is asked
  nothing-asked : longest N (cell N d) ≡ 0 → Covers N (cell N d) []
  unfolding row
  nothing-asked e i j li lj = omega (arith, e, row-le-longest N (cell N d) i li, sum-at N (cell N d i) j lj)

  -- the promises hold for any holds between the remainders and u - 1
  pub doubled-any : (H : ℕ → ℕ → ℕ) → ((v k : ℕ) → H (suc v) k ≤ v) → ((v i j : ℕ) → i < N → j < N → cell N d i j % suc v ≤ H (suc v) (J.which i j))
      → Doubled N d (doubled_by W N τ H d)
  doubled-any H at_most meets = unfold doubled_by in go (longest N (cell N d)) refl
    where
      go : (t : ℕ) → longest N (cell N d) ≡ t
          → Doubled N d (cond (eqb t 0) [] (map (stretch (unit N t)) (exact_plan W N (divide (unit N t) d)) ++ turns W τ (H (unit N t)) N 0))
      go zero e = unfold total in record { plan = none; few = omega arith; short = omega arith; covers = nothing-asked e }
      go (suc t) e = rw (ne_eqb (suc t) 0 (omega arith)) (two (unit N (suc t)) refl)
        where
          two : (u : ℕ) → unit N (suc t) ≡ u → Doubled N d (map (stretch u) (exact_plan W N (divide u d)) ++ turns W τ (H u) N 0)
          two zero x = absurd (omega (arith, unit-above N (suc t) pos, ap (λ y. y * N) x))
          two (suc v) x = record {
            plan = plan-is (H (suc v)) (suc t) v e x (at_most v) (meets v);
            few = plan-few (H (suc v)) (suc t) v e x (at_most v) (meets v);
            short = omega (arith, e, plan-short (H (suc v)) (suc t) v e x (at_most v) (meets v));
            covers = plan-covers (H (suc v)) (suc t) v e x (at_most v) (meets v);
          }
