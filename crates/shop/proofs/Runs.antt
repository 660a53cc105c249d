-- The moments one after the other: what is left to plan stays the plan's, and whatever is not started has time, since it is over within its
-- ports' task times, and room, since it is one more of the plan's tasks.
use mathlib.Core.Path.{◌≡◌, refl, sym, ap, subst, ◌∙◌}
use mathlib.Core.List.{List}
use Prim.Native.Nat.{ℕ, zero, suc, ◌+◌, ◌*◌, ◌≤◌, ◌<◌}
use native.Mathlib.Nat.{mul-le-mul}
use native.Mathlib.Omega.{arith}
use lib.ListN.{length, get_or}
use borrow.Author.Tests.{lt-ltb, le-ltb}
use Rattle.counting.specs.Sum.{sum}
use Rattle.counting.specs.Matrix.{row}
use Rattle.counting.proofs.Sum.{sum-add, sum-at, sum_mono, sum-cong, sum-const}
use Rattle.switch.specs.Demand.{cell, longest}
use Rattle.switch.proofs.Demand.{row-le-longest, col-le-longest}
use Rattle.records.specs.Bytes.{laid}
use Rattle.records.proofs.Laid.{laid_none}
use Rattle.shop_rule.specs.Task.{Task, times, latest}
use Rattle.shop_rule.specs.Shop.{pairs, timed, Shop, turns, next, moments, closed, shop_plan}
use Rattle.shop_rule.proofs.Task.{each_map}
use Rattle.shop_rule.proofs.Begin.{pairs-one, pairs-le, lasting-some, ahead}
use Rattle.shop_rule.proofs.Next.{Next, next-is, next-cong}
use Rattle.shop_rule.proofs.Going.{Going, turns-going, move-going, fewer}
use Rattle.shop_rule.proofs.Shop.{closed-going}
use Rattle.shop_rule.proofs.Count.{times-all, timed-row, timed-col, shop-length}
use Rattle.tasks.specs.Bytes.{bytes}
use Rattle.shop.specs.declared.Begun.{Begun}
use Rattle.shop.specs.Kept.{Held, Wrote, MomentPre, MomentPost, RunPre, RunPost}
use Rattle.shop.proofs.Moments.{wrote-size}

-- ---- time and room for what is not started

module _ (n d : ℕ) (few : n ≤ 64) (cells : List ℕ) (k t v : ℕ) (x : Shop) (g : Going n d (cell n cells) k t v x) where
  -- the tasks started and the pairs not started are the plan's tasks
  all-tasks : length x.begun + sum n (row n (λ i j. pairs (x.left i j))) ≡ length (shop_plan n d cells)
  unfolding row
  all-tasks = omega (
    arith,
    times-all n (each_map (λ y r. (r.runs.input-in, r.runs.output-in)) g.ran),
    shop-length n d (omega arith) cells,
    sum-add n (λ i. sum n (times x.begun i)) (λ i. sum n (λ j. pairs (x.left i j))),
    sum-cong n (λ i. sum n (times x.begun i) + sum n (λ j. pairs (x.left i j))) (λ i. sum n (λ j. pairs (cell n cells i j))) (λ i _. omega (
      arith,
      sum-add n (times x.begun i) (λ j. pairs (x.left i j)),
      sum-cong n (λ j. times x.begun i j + pairs (x.left i j)) (λ j. pairs (cell n cells i j)) (λ j _. g.counted i j),
    )),
  )

  all-few : length x.begun ≤ 4096
  unfolding row
  all-few = omega (
    arith,
    all-tasks,
    shop-length n d (omega arith) cells,
    sum_mono n (λ i. sum n (λ j. pairs (cell n cells i j))) (λ _. n) (λ i _. omega (arith, sum_mono n (λ j. pairs (cell n cells i j)) (λ _. 1) (λ j _. pairs-le (cell n cells i j)), sum-const n 1)),
    sum-const n n,
    mul-le-mul few few,
  )

  module _ (i j : ℕ) (li : i < n) (lj : j < n) (p : 0 < x.left i j) where
    one_more : length x.begun < length (shop_plan n d cells)
    unfolding row
    one_more = omega (
      arith,
      all-tasks,
      pairs-one (x.left i j) p,
      sum-at n (λ a. sum n (λ b. pairs (x.left a b))) i li,
      sum-at n (λ b. pairs (x.left i b)) j lj,
    )

    in-time : longest n (cell n cells) ≤ 65535 → d ≤ 65535 → t + (d + cell n cells i j) < 4294967296
    unfolding ahead row
    in-time lines switching = omega (
      arith,
      g.within i j li lj p,
      g.kept i j p,
      lasting-some d (x.left i j) p,
      sum-at n (timed d x.left i) j lj,
      timed-row n d (cell n cells) i,
      timed-col n d (cell n cells) j,
      row-le-longest n (cell n cells) i li,
      col-le-longest n (cell n cells) j lj,
      mul-le-mul few switching,
    )

-- ---- between two moments

moments-last : (n d k t : ℕ) (x : Shop) → 0 < k → next n t (turns n d t x n).outs ≤ t → (moments k n d t x).begun ≡ (turns n d t x n).begun
unfolding moments
moments-last n d zero t x p l = absurd (omega arith)
moments-last n d (suc k) t x p l = rw (le-ltb t (next n t (turns n d t x n).outs) l)

moments-next : (n d k t : ℕ) (x : Shop) → t < next n t (turns n d t x n).outs
    → (moments (suc k) n d t x).begun ≡ (moments k n d (next n t (turns n d t x n).outs) (turns n d t x n)).begun
unfolding moments
moments-next n d k t x l = rw (lt-ltb t (next n t (turns n d t x n).outs) l)

pub record Running (n : ℕ) (cells : List ℕ) (d t : ℕ) (begun : Begun) (waiting ins outs buffer before : List ℕ) : Type 0 where
  pub waiting-size : length waiting ≡ 64
  pub ins-size : length ins ≡ 64
  pub outs-size : length outs ≡ 64
  pub left : ℕ
  pub shop : Shop
  pub going : Going n d (cell n cells) left t 0 shop
  pub held : Held n cells shop waiting ins outs
  pub wrote : Wrote shop before begun buffer
  pub rest : (moments left n d t shop).begun ≡ shop_plan n d cells

module _ (n : ℕ) (cells : List ℕ) (d : ℕ) (waiting₀ ins₀ outs₀ before : List ℕ) (p : RunPre n cells d waiting₀ ins₀ outs₀ before) where
  pub running_none : Running n cells d 0 (record { records = 0; latest = 0 }) waiting₀ ins₀ outs₀ before before
  unfolding shop_plan closed bytes latest
  running_none = record {
    waiting-size = p.waiting-size;
    ins-size = p.ins-size;
    outs-size = p.outs-size;
    left = suc (n * n);
    shop = closed (cell n cells);
    going = closed-going n d (omega (arith, p.few)) (cell n cells);
    held = p.held;
    wrote = record { laid-is = sym (laid_none before 0); records = refl; latest-is = refl; room = omega arith };
    rest = refl;
  }

  module _ (t : ℕ) (begun : Begun) (waiting ins outs buffer : List ℕ) (r : Running n cells d t begun waiting ins outs buffer before) where
    after : (v : ℕ) → v ≤ n → Going n d (cell n cells) r.left t v (turns n d t r.shop v)
    after v l = turns-going n d (cell n cells) (omega (arith, p.few)) r.left t v l r.shop r.going

    pub moment-pre : MomentPre n cells d t begun waiting ins outs buffer
    moment-pre = record {
      few = p.few;
      sized = p.sized;
      waiting-size = r.waiting-size;
      ins-size = r.ins-size;
      outs-size = r.outs-size;
      shop = r.shop;
      before = before;
      held = r.held;
      wrote = r.wrote;
      safe = record {
        time = λ v l i li q. in-time n d p.few cells r.left t v (turns n d t r.shop v) (after v (omega arith)) i v li l q p.lines p.switching;
        space = λ v l i li q. omega (arith, p.room, one_more n d p.few cells r.left t v (turns n d t r.shop v) (after v (omega arith)) i v li l q);
        few = λ v l. all-few n d p.few cells r.left t v (turns n d t r.shop v) (after v (omega arith));
      };
    }

    -- the moment is over, and u is the next finish
    module _ (u : ℕ) (begun' : Begun) (waiting' ins' outs' buffer' : List ℕ)
        (m : MomentPost n cells d t begun waiting ins outs buffer begun' waiting' ins' outs' buffer') (e : u ≡ next n t (λ j. get_or outs' j 0)) where
      abbrev y : Shop
      y = turns n d t r.shop n

      held : Held n cells y waiting' ins' outs'
      held = (m.kept r.shop before r.held r.wrote).0

      wrote : Wrote y before begun' buffer'
      wrote = (m.kept r.shop before r.held r.wrote).1

      same : u ≡ next n t y.outs
      same = e ∙ sym (next-cong n t y.outs (λ j. get_or outs' j 0) held.outs-is)

      is-next : Next n t y.outs u
      is-next = subst (Next n t y.outs) (sym same) (next-is n t y.outs)

      pub run-size : length buffer' ≡ length before
      run-size = wrote-size y before begun' buffer' wrote

      pub run-done : u ≡ t → RunPost n cells d before begun' buffer'
      run-done q = record { laid-is = wrote.laid-is ∙ ap (λ (p : List Task). laid before 0 (bytes p)) f; records = wrote.records ∙ ap length f; latest-is = wrote.latest-is ∙ ap latest f }
        where
          f : y.begun ≡ shop_plan n d cells
          f = sym (moments-last n d r.left t r.shop (omega (arith, r.going.few)) (omega (arith, same, q))) ∙ r.rest

      pub run_more : (u ≡ t → ⊥) → (t < u) × Running n cells d u begun' waiting' ins' outs' buffer' before
      run_more q = (later, go r.left (after n (omega arith)) r.rest)
        where
          later : t < u
          later = omega (arith, is-next.from, q)

          go : (k : ℕ) → Going n d (cell n cells) k t n y → (moments k n d t r.shop).begun ≡ shop_plan n d cells → Running n cells d u begun' waiting' ins' outs' buffer' before
          go zero g s = absurd (omega (arith, g.few))
          go (suc k) g s = record {
            waiting-size = m.waiting-size ∙ r.waiting-size;
            ins-size = m.ins-size ∙ r.ins-size;
            outs-size = m.outs-size ∙ r.outs-size;
            left = k;
            shop = y;
            going = move-going n d (cell n cells) (suc k) t u y g is-next later k (omega (arith, g.few, fewer n d (cell n cells) (suc k) t u y g is-next later));
            held = held;
            wrote = wrote;
            rest = ap (λ (z : ℕ). (moments k n d z y).begun) same ∙ sym (moments-next n d k t r.shop (omega (arith, same, later))) ∙ s;
          }
