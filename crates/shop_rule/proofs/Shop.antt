-- The plan's promises: while something runs there is a next finish, and each ends a task at least, so the moments suffice; when nothing
-- runs all ports are idle, and then no pair is left that was not started.
use mathlib.Core.Path.{◌≡◌, refl}
use mathlib.Core.Logic.{◌⊎◌, inl, inr}
use mathlib.Core.Bool.{cond}
use mathlib.Core.List.{List}
use Prim.Native.Nat.{ℕ, zero, suc, ◌*◌, ◌-◌, ◌≤◌, ◌<◌}
use native.Mathlib.Decide.{dec_lt}
use native.Mathlib.Omega.{arith}
use lib.Dec.{ltb}
use borrow.Author.Tests.{lt-ltb, le-ltb}
use Rattle.counting.specs.Sum.{sum}
use Rattle.counting.specs.Matrix.{row}
use Rattle.counting.proofs.Sum.{sum_mono, sum-const, sum-none}
use Rattle.switch.specs.Demand.{cell, longest}
use Rattle.switch.proofs.Demand.{row-le-longest, col-le-longest}
use Rattle.shop_rule.specs.Task.{Task, Each, none, Ordered, nothing, Rises, Apart, times, latest}
use Rattle.shop_rule.specs.Shop.{pairs, timed, Runs, Shop, turns, next, moments, closed, shop_plan}
use Rattle.shop_rule.proofs.Task.{each_map, latest-le}
use Rattle.shop_rule.proofs.Begin.{pairs-none, pairs-le, ahead, undone}
use Rattle.shop_rule.proofs.Next.{Next, next-is}
use Rattle.shop_rule.proofs.Going.{Going, fewer, move-going, turns-going}

module _ (N s : ℕ) (top : N ≤ 255) (M : ℕ → ℕ → ℕ) where
  -- ---- all moments

  record Done (p : List Task) : Type 0 where
    counted : (a b : ℕ) → a < N → b < N → times p a b ≡ pairs (M a b)
    runs : Each (Runs N s M) p
    apart : Ordered Apart p
    rising : Ordered Rises p

  -- nothing runs after t
  rest-done : (k t u : ℕ) (x : Shop) → Going N s M k t N x → Next N t x.outs u → u ≤ t → Done x.begun
  rest-done k t u x g n stop = record {
    counted = λ a b la lb. omega (arith, g.counted a b, all a b la lb (dec_lt 0 (x.left a b)));
    runs = each_map (λ y r. r.runs) g.ran;
    apart = g.apart;
    rising = g.rising;
  }
    where
      idle : (b : ℕ) → b < N → t < x.outs b → ⊥
      idle b lb l = omega (arith, n.after b lb l)

      all : (a b : ℕ) → a < N → b < N → Dec (0 < x.left a b) → pairs (x.left a b) ≡ 0
      all a b la lb (no q) = let z : x.left a b ≡ 0 = omega arith in rw (z, pairs-none) refl
      all a b la lb (yes q) = absurd (go (g.settled a b la lb q))
        where
          go : (t < x.ins a) ⊎ (t < x.outs b) → ⊥
          go (inl l) = let r = g.held a la l in idle r.0 r.1 (omega (arith, r.2))
          go (inr l) = idle b lb l

  moments-done : (k t : ℕ) (x : Shop) → Going N s M k t 0 x → Done (moments k N s t x).begun
  unfolding moments
  moments-done zero t x g = absurd (omega (arith, g.few))
  moments-done (suc k) t x g = go (turns N s t x N) (turns-going N s M top (suc k) t N (omega arith) x g) (λ u y. moments-done k u y)
    where
      go : (y : Shop) → Going N s M (suc k) t N y → ((u : ℕ) (y : Shop) → Going N s M k u 0 y → Done (moments k N s u y).begun)
          → Done (cond (ltb t (next N t y.outs)) (moments k N s (next N t y.outs) y) y).begun
      go y h deeper = two (next N t y.outs) (next-is N t y.outs) (dec_lt t (next N t y.outs))
        where
          two : (u : ℕ) → Next N t y.outs u → Dec (t < u) → Done (cond (ltb t u) (moments k N s u y) y).begun
          two u n (yes q) = rw (lt-ltb t u q) (deeper u y (move-going N s M (suc k) t u y h n q k (omega (arith, h.few, fewer N s M (suc k) t u y h n q))))
          two u n (no q) = rw (le-ltb t u (omega arith)) (rest-done (suc k) t u y h n (omega arith))

  pub closed-going : Going N s M (suc (N * N)) 0 0 (closed M)
  unfolding closed times ahead undone row
  closed-going = record {
    kept = λ a b l. refl;
    counted = λ a b. omega arith;
    ran = none;
    apart = nothing;
    rising = nothing;
    held = λ a la l. absurd (omega arith);
    within = λ a b la lb l. omega arith;
    settled = λ a b la lb l. absurd (omega arith);
    few = omega (
      arith,
      sum_mono N (λ a. sum N (λ b. pairs (M a b))) (λ _. N) (λ a _. omega (arith, sum_mono N (λ b. pairs (M a b)) (λ _. 1) (λ b _. pairs-le (M a b)), sum-const N 1)),
      sum-const N N,
      sum-none N (λ b. pairs (0 - 0)) (λ b _. pairs-none),
    );
  }

-- ---- the promises

module _ (N s : ℕ) (top : N ≤ 255) (d : List ℕ) where
  plan-done : Done N s top (cell N d) (shop_plan N s d)
  unfolding shop_plan
  plan-done = moments-done N s top (cell N d) (suc (N * N)) 0 (closed (cell N d)) (closed-going N s top (cell N d))

  -- each pair with slots has one task, and no other pair has any (§21.4)
  pub shop-once : (i j : ℕ) → i < N → j < N → times (shop_plan N s d) i j ≡ pairs (cell N d i j)
  shop-once = plan-done.counted

  -- a task takes its pair's slots and one switching, and is over within its ports' task times (§21.1, §21.4)
  pub shop-runs : Each (Runs N s (cell N d)) (shop_plan N s d)
  shop-runs = plan-done.runs

  -- a port is in one task at most at any time (§21.4)
  pub shop-apart : Ordered Apart (shop_plan N s d)
  shop-apart = plan-done.apart

  -- sorted by start, and by output among those that start together (§21.3)
  pub shop-rising : Ordered Rises (shop_plan N s d)
  shop-rising = plan-done.rising

  -- so the last end is under twice the largest port's task time, if there is any task
  pub shop-soon : latest (shop_plan N s d) ≤ 2 * longest N (timed s (cell N d)) - 1
  shop-soon = latest-le (2 * longest N (timed s (cell N d)) - 1) (each_map within shop-runs)
    where
      within : (y : Task) → Runs N s (cell N d) y → y.end ≤ 2 * longest N (timed s (cell N d)) - 1
      within y r = omega (
        arith,
        r.soon,
        r.slots,
        row-le-longest N (timed s (cell N d)) y.input r.input-in,
        col-le-longest N (timed s (cell N d)) y.output r.output-in,
      )
