-- The tasks of a port come one after the other, so no schedule is over before a port's task times together; the plan's last end is under twice that.
use mathlib.Core.Path.{◌≡◌, refl, sym, ap, ap₂, ◌∙◌}
use mathlib.Core.List.{List, [], ◌∷◌}
use Prim.Native.Nat.{ℕ, ◌+◌, ◌*◌, ◌-◌, ◌≤◌, ◌<◌, max}
use native.Mathlib.Nat.{mul-le-mul_left, mul_comm, mul-add}
use native.Mathlib.Decide.{ℕ_discrete, dec_lt}
use native.Mathlib.Omega.{arith}
use Rattle.counting.specs.Sum.{sum}
use Rattle.counting.specs.Count.{δ}
use Rattle.counting.specs.Matrix.{row, col}
use Rattle.counting.proofs.Sum.{sum-add, sum-mul, sum_mono, sum-cong, sum-const}
use Rattle.counting.proofs.Count.{sum-δ-le, δ-same, δ-other}
use Rattle.switch.specs.Demand.{cell, longest}
use Rattle.switch.proofs.Demand.{longest-le}
use Rattle.shop_rule.specs.Task.{Task, Each, none, more, Ordered, nothing, before, times, spent, Schedule, latest}
use Rattle.shop_rule.specs.Shop.{pairs, lasting, timed, Runs, shop_plan}
use Rattle.shop_rule.proofs.Task.{each_map, ordered-map}
use Rattle.shop_rule.proofs.Begin.{lasting-none, lasting-some, pairs-none, pairs-one}
use Rattle.shop_rule.proofs.Shop.{shop-once, shop-runs, shop-apart, shop-soon}

-- ---- one port, an input or an output by what `port` reads off a task

module _ (port : Task → ℕ) (k : ℕ) where
  -- how long the tasks of the port k last together
  unfoldable load : List Task → ℕ
  load [] = 0
  load (x ∷ p) = (x.end - x.start) * δ (port x) k + load p

  -- where they start at a or later, they take until the latest end
  span : (p : List Task) (a : ℕ) → Ordered (λ x y. port x ≡ port y → x.end ≤ y.start) p → Each (λ x. x.start ≤ x.end) p
      → Each (λ x. port x ≡ k → a ≤ x.start) p → a + load p ≤ max a (latest p)
  unfolding load latest
  span [] a nothing none none = omega arith
  span (x ∷ p) a (before after o) (more f fs) (more h hs) = go (ℕ_discrete (port x) k) (λ b. span p b o fs)
    where
      go : Dec (port x ≡ k) → ((b : ℕ) → Each (λ y. port y ≡ k → b ≤ y.start) p → b + load p ≤ max b (latest p)) → a + load (x ∷ p) ≤ max a (max x.end (latest p))
      go (yes e) deeper = omega (
        arith,
        h e,
        deeper x.end (each_map (λ y r q. r (e ∙ sym q)) after),
        ap (λ z. (x.end - x.start) * z) (ap (λ z. δ z k) e ∙ δ-same k),
      )
      go (no e) deeper = omega (arith, deeper a hs, ap (λ z. (x.end - x.start) * z) (δ-other (port x) k e))

-- ---- its line

row-load : (N : ℕ) (p : List Task) (i : ℕ) → row N (spent p) i ≤ load (λ x. x.input) i p
unfolding row spent load
row-load N [] i = omega (arith, sum-const N 0)
row-load N (x ∷ p) i = omega (
  arith,
  sum-add N (λ j. (x.end - x.start) * (δ x.input i * δ x.output j)) (spent p i),
  sum-mul N (x.end - x.start) (λ j. δ x.input i * δ x.output j),
  mul-le-mul_left (x.end - x.start) one,
  row-load N p i,
)
  where
    one : sum N (λ j. δ x.input i * δ x.output j) ≤ δ x.input i
    one = omega (arith, sum-mul N (δ x.input i) (λ j. δ x.output j), mul-le-mul_left (δ x.input i) (sum-δ-le N x.output))

col-load : (N : ℕ) (p : List Task) (j : ℕ) → col N (spent p) j ≤ load (λ x. x.output) j p
unfolding col spent load
col-load N [] j = omega (arith, sum-const N 0)
col-load N (x ∷ p) j = omega (
  arith,
  sum-add N (λ i. (x.end - x.start) * (δ x.input i * δ x.output j)) (λ i. spent p i j),
  sum-mul N (x.end - x.start) (λ i. δ x.input i * δ x.output j),
  mul-le-mul_left (x.end - x.start) one,
  col-load N p j,
)
  where
    one : sum N (λ i. δ x.input i * δ x.output j) ≤ δ x.output j
    one = omega (
      arith,
      sum-cong N (λ i. δ x.input i * δ x.output j) (λ i. δ x.output j * δ x.input i) (λ i _. mul_comm (δ x.input i) (δ x.output j)),
      sum-mul N (δ x.output j) (λ i. δ x.input i),
      mul-le-mul_left (δ x.output j) (sum-δ-le N x.input),
    )

-- ---- any schedule

pub least-end : (N : ℕ) (M : ℕ → ℕ → ℕ) (p : List Task) → Schedule N M p → longest N M ≤ latest p
unfolding row col
least-end N M p c = longest-le N (latest p) M
    (λ i li. omega (
      arith,
      sum_mono N (λ j. M i j) (λ j. spent p i j) (λ j lj. c.served i j li lj),
      row-load N p i,
      span (λ x. x.input) i p 0 (ordered-map (λ x y a. a.input) c.apart) c.forward (each_map (λ x _ _. omega arith) c.forward),
    ))
    (λ j lj. omega (
      arith,
      sum_mono N (λ i. M i j) (λ i. spent p i j) (λ i li. c.served i j li lj),
      col-load N p j,
      span (λ x. x.output) j p 0 (ordered-map (λ x y a. a.output) c.apart) c.forward (each_map (λ x _ _. omega arith) c.forward),
    ))

-- ---- the plan is one, and its last end is under twice that of any other

-- tasks that last as long as their pairs take
each_spent : (N s : ℕ) (M : ℕ → ℕ → ℕ) (i j : ℕ) {p : List Task} → Each (Runs N s M) p → spent p i j ≡ (s + M i j) * times p i j
unfolding spent times
each_spent N s M i j none = omega arith
each_spent N s M i j (more {x = x} {p = p} r e) = omega (arith, each_spent N s M i j e, own (ℕ_discrete x.input i) (ℕ_discrete x.output j), mul-add (s + M i j) (δ x.input i * δ x.output j) (times p i j))
  where
    zeros : (a b : ℕ) → δ x.input i * δ x.output j ≡ 0 → a * (δ x.input i * δ x.output j) ≡ b * (δ x.input i * δ x.output j)
    zeros a b z = rw z (omega arith)

    own : Dec (x.input ≡ i) → Dec (x.output ≡ j) → (x.end - x.start) * (δ x.input i * δ x.output j) ≡ (s + M i j) * (δ x.input i * δ x.output j)
    own (yes u) (yes w) = let l : x.end - x.start ≡ s + M i j = omega (arith, r.lasts, ap₂ M u w) in rw l refl
    own (no u) w = zeros _ _ (omega (arith, ap (λ z. z * δ x.output j) (δ-other x.input i u)))
    own (yes u) (no w) = zeros _ _ (omega (arith, ap (λ z. δ x.input i * z) (δ-other x.output j w)))

module _ (N s : ℕ) (top : N ≤ 255) (d : List ℕ) where
  pub shop-schedule : Schedule N (timed s (cell N d)) (shop_plan N s d)
  shop-schedule = record {
    apart = shop-apart N s top d;
    forward = each_map (λ x r. omega (arith, r.lasts)) (shop-runs N s top d);
    served = λ i j li lj. omega (arith, each_spent N s (cell N d) i j (shop-runs N s top d), served (cell N d i j), ap (λ z. (s + cell N d i j) * z) (shop-once N s top d i j li lj));
  }
    where
      served : (c : ℕ) → lasting s c ≡ (s + c) * pairs c
      served c = go (dec_lt 0 c)
        where
          go : Dec (0 < c) → lasting s c ≡ (s + c) * pairs c
          go (yes q) = omega (arith, lasting-some s c q, ap (λ z. (s + c) * z) (pairs-one c q))
          go (no q) = let z : c ≡ 0 = omega arith in rw (z, lasting-none s, pairs-none) (omega arith)

  pub shop-twice : (p : List Task) → Schedule N (timed s (cell N d)) p → latest (shop_plan N s d) ≤ 2 * latest p - 1
  shop-twice p c = omega (arith, shop-soon N s top d, least-end N (timed s (cell N d)) p c)
