-- What holds of the shop at every moment, and that a start, a turn and the move to the next finish keep it. At time t, t is at most the
-- started and finished work of the two ports of any pair not started: after all turns one of the two is running, and it runs until the next finish.
use mathlib.Core.Path.{◌≡◌, refl, sym, ap, ap₂, ◌∙◌}
use mathlib.Core.Logic.{◌⊎◌, inl, inr}
use mathlib.Core.Bool.{Bool, true, false, cond, ◌&&◌}
use Prim.Native.Nat.{ℕ, zero, suc, ◌+◌, ◌*◌, ◌-◌, ◌≤◌, ◌<◌}
use native.Mathlib.Decide.{ℕ_discrete, dec_lt}
use native.Mathlib.Omega.{arith}
use lib.Dec.{T, ltb, leb}
use borrow.Author.Tests.{lt-ltb, le-ltb, le-leb, lt-leb}
use Rattle.counting.specs.Sum.{sum}
use Rattle.counting.specs.Count.{δ}
use Rattle.counting.specs.Matrix.{row, col}
use Rattle.counting.proofs.Sum.{sum-at, sum-tight}
use Rattle.counting.proofs.Count.{δ-same, δ-other}
use Rattle.rules.specs.Search.{put}
use Rattle.rules.specs.Quick.{lowest}
use Rattle.rules.proofs.Ports.{put_same, put_other}
use Rattle.rules.proofs.Slot.{Low, at, nowhere, lowest-low}
use Rattle.shop_rule.specs.Task.{Task, Each, Ordered, Rises, Apart, times}
use Rattle.shop_rule.specs.Shop.{pairs, timed, Runs, Shop, ready, begin, take, turn, turns}
use Rattle.shop_rule.proofs.Task.{each_map, each_last, ordered-last, times-last}
use Rattle.shop_rule.proofs.Begin.{lasting-some, pairs-none, pairs-one, without, without_at, without-row, without-col, without-left, ahead, undone, begin-ahead, begin-undone}
use Rattle.shop_rule.proofs.Next.{Next}

-- a time set no earlier than before
put_up : (f : ℕ → ℕ) (i v : ℕ) → f i ≤ v → (a : ℕ) → f a ≤ put f i v a
put_up f i v l a = go (ℕ_discrete a i)
  where
    go : Dec (a ≡ i) → f a ≤ put f i v a
    go (yes e) = rw (e, put_same f i v) l
    go (no e) = rw (put_other f i v a e) (omega arith)

-- ---- an input that is ready

pub is-ready : (t : ℕ) (x : Shop) (j a : ℕ) → 0 < x.left a j → x.ins a ≤ t → T (ready t x j a)
unfolding ready
is-ready t x j a u w = rw (lt-ltb 0 (x.left a j) u, le-leb (x.ins a) t w) tt

pub ready-is : (t : ℕ) (x : Shop) (j a : ℕ) → T (ready t x j a) → (0 < x.left a j) × (x.ins a ≤ t)
unfolding ready
ready-is t x j a r = go (dec_lt 0 (x.left a j)) (dec_lt t (x.ins a))
  where
    and-false : (b : Bool) → T (b && false) → ⊥
    and-false true r = r
    and-false false r = r

    go : Dec (0 < x.left a j) → Dec (t < x.ins a) → (0 < x.left a j) × (x.ins a ≤ t)
    go (yes u) (no w) = (u, omega arith)
    go (yes u) (yes w) = absurd (and-false (ltb 0 (x.left a j)) (rw (lt-leb (x.ins a) t w) at r))
    go (no u) w = absurd (rw (le-ltb 0 (x.left a j) (omega arith)) at r)

-- ---- what holds throughout

module _ (N s : ℕ) (M : ℕ → ℕ → ℕ) where
  -- a task that is started: before t, or at t by an output below v; its ports are not idle before its end
  pub record Ran (t v : ℕ) (x : Shop) (y : Task) : Type 0 where
    pub runs : Runs N s M y
    pub past : (y.start < t) ⊎ ((y.start ≡ t) × (y.output < v))
    pub in-over : y.end ≤ x.ins y.input
    pub out-over : y.end ≤ x.outs y.output

  -- at time t, when the outputs below v have had their turn; fewer than k are undone
  pub record Going (k t v : ℕ) (x : Shop) : Type 0 where
    pub kept : (a b : ℕ) → 0 < x.left a b → x.left a b ≡ M a b
    pub counted : (a b : ℕ) → times x.begun a b + pairs (x.left a b) ≡ pairs (M a b)
    pub ran : Each (Ran t v x) x.begun
    pub apart : Ordered Apart x.begun
    pub rising : Ordered Rises x.begun
    pub held : (a : ℕ) → a < N → t < x.ins a → (b : ℕ) × (b < N) × (x.outs b ≡ x.ins a)
    pub within : (a b : ℕ) → a < N → b < N → 0 < x.left a b → t + ahead N s t x a b ≤ row N (timed s M) a + col N (timed s M) b
    pub settled : (a b : ℕ) → a < N → b < v → 0 < x.left a b → (t < x.ins a) ⊎ (t < x.outs b)
    pub few : undone N t x < k

  -- ---- output j starts its task with input i

  module _ (k t j : ℕ) (x : Shop) (g : Going k t j x) (i : ℕ) (li : i < N) (lj : j < N) (p : 0 < x.left i j) (idle-in : x.ins i ≤ t) (idle-out : x.outs j ≤ t) where
    abbrev e : ℕ
    e = t + (s + x.left i j)

    abbrev new : Task
    new = record { input = i; output = j; start = t; end = e }

    same : x.left i j ≡ M i j
    same = g.kept i j p

    ins-up : (a : ℕ) → x.ins a ≤ put x.ins i e a
    ins-up = put_up x.ins i e (omega arith)

    outs-up : (b : ℕ) → x.outs b ≤ put x.outs j e b
    outs-up = put_up x.outs j e (omega arith)

    -- both ports are idle, so the time is at most that of their other tasks started
    new-runs : Runs N s M new
    new-runs = record {
      input-in = li;
      output-in = lj;
      slots = rw (← same) p;
      lasts = omega (arith, same);
      soon = unfold ahead row col in omega (
        arith,
        same,
        g.within i j li lj p,
        lasting-some s (x.left i j) p,
        sum-at N (timed s x.left i) j lj,
        sum-at N (λ a. timed s x.left a j) i li,
      );
    }

    new-ran : Ran t (suc j) (begin s t x i j) new
    unfolding begin
    new-ran = record {
      runs = new-runs;
      past = inr (refl, omega arith);
      in-over = omega (arith, put_same x.ins i e);
      out-over = omega (arith, put_same x.outs j e);
    }

    old-ran : (y : Task) → Ran t j x y → Ran t (suc j) (begin s t x i j) y
    unfolding begin
    old-ran y r = record {
      runs = r.runs;
      past = past r.past;
      in-over = omega (arith, r.in-over, ins-up y.input);
      out-over = omega (arith, r.out-over, outs-up y.output);
    }
      where
        past : (y.start < t) ⊎ ((y.start ≡ t) × (y.output < j)) → (y.start < t) ⊎ ((y.start ≡ t) × (y.output < suc j))
        past (inl l) = inl l
        past (inr q) = inr (q.0, omega (arith, q.1))

    old_apart : (y : Task) → Ran t j x y → Apart y new
    old_apart y r = record {
      input = λ q. omega (arith, r.in-over, ap x.ins q);
      output = λ q. omega (arith, r.out-over, ap x.outs q);
    }

    counted : (a b : ℕ) → times (begin s t x i j).begun a b + pairs ((begin s t x i j).left a b) ≡ pairs (M a b)
    unfolding begin
    counted a b = go (ℕ_discrete a i) (ℕ_discrete b j)
      where
        other : δ i a * δ j b ≡ 0 → without x.left i j a b ≡ x.left a b → times (begin s t x i j).begun a b + pairs ((begin s t x i j).left a b) ≡ pairs (M a b)
        other z w = omega (arith, times-last x.begun new a b, z, ap pairs w, g.counted a b)

        go : Dec (a ≡ i) → Dec (b ≡ j) → times (begin s t x i j).begun a b + pairs ((begin s t x i j).left a b) ≡ pairs (M a b)
        go (yes u) (yes w) = rw (u, w) (omega (arith, times-last x.begun new i j, ap₂ ◌*◌ (δ-same i) (δ-same j), ap pairs (without_at x.left i j), pairs-none, pairs-one (x.left i j) p, g.counted i j))
        go (no u) w = other (omega (arith, ap (λ z. z * δ j b) (δ-other i a (λ z. u (sym z))))) (without-row x.left i j a b u)
        go (yes u) (no w) = other (omega (arith, ap (λ z. δ i a * z) (δ-other j b (λ z. w (sym z))))) (without-col x.left i j a b w)

    held : (a : ℕ) → a < N → t < (begin s t x i j).ins a → (b : ℕ) × (b < N) × ((begin s t x i j).outs b ≡ (begin s t x i j).ins a)
    unfolding begin
    held a la l = go (ℕ_discrete a i)
      where
        go : Dec (a ≡ i) → (b : ℕ) × (b < N) × (put x.outs j e b ≡ put x.ins i e a)
        go (yes q) = (j, lj, put_same x.outs j e ∙ sym (ap (put x.ins i e) q ∙ put_same x.ins i e))
        go (no q) =
            let w : put x.ins i e a ≡ x.ins a = put_other x.ins i e a q in
            let r = g.held a la (omega (arith, w, l)) in
            (r.0, r.1, put_other x.outs j e r.0 (λ z. omega (arith, r.2, w, l, ap x.outs z)) ∙ r.2 ∙ sym w)

    settled : (a b : ℕ) → a < N → b < suc j → 0 < (begin s t x i j).left a b → (t < (begin s t x i j).ins a) ⊎ (t < (begin s t x i j).outs b)
    unfolding begin
    settled a b la lb l = go (ℕ_discrete b j)
      where
        old : (t < x.ins a) ⊎ (t < x.outs b) → (t < put x.ins i e a) ⊎ (t < put x.outs j e b)
        old (inl q) = inl (omega (arith, ins-up a))
        old (inr q) = inr (omega (arith, outs-up b))

        go : Dec (b ≡ j) → (t < put x.ins i e a) ⊎ (t < put x.outs j e b)
        go (yes q) = inr (rw (q, put_same x.outs j e) (omega arith))
        go (no q) = old (g.settled a b la (omega arith) (rw (without-left x.left i j a b l).1 at l))

    begin-going : Going k t (suc j) (begin s t x i j)
    unfolding begin
    begin-going = record {
      kept = λ a b l. let w = (without-left x.left i j a b l).1 in w ∙ g.kept a b (rw w at l);
      counted = counted;
      ran = each_last new (each_map old-ran g.ran) new-ran;
      apart = ordered-last new g.apart (each_map old_apart g.ran);
      rising = ordered-last new g.rising (each_map (λ y r. r.past) g.ran);
      held = held;
      within = λ a b la lb l. let w = (without-left x.left i j a b l).1 in
          omega (arith, begin-ahead N s t x i j li lj p idle-in idle-out a b la lb, g.within a b la lb (rw w at l));
      settled = settled;
      few = omega (arith, g.few, begin-undone N s t x i j li lj p idle-in idle-out);
    }

  -- ---- output j starts none: it is running, or has no input that is ready

  module _ (k t j : ℕ) (x : Shop) (g : Going k t j x) where
    stay-going : ((a : ℕ) → a < N → 0 < x.left a j → (t < x.ins a) ⊎ (t < x.outs j)) → Going k t (suc j) x
    stay-going h = record {
      kept = g.kept;
      counted = g.counted;
      ran = each_map (λ y r. record { runs = r.runs; past = past y r.past; in-over = r.in-over; out-over = r.out-over }) g.ran;
      apart = g.apart;
      rising = g.rising;
      held = g.held;
      within = g.within;
      settled = λ a b la lb l. settled a b la lb l (ℕ_discrete b j);
      few = g.few;
    }
      where
        past : (y : Task) → (y.start < t) ⊎ ((y.start ≡ t) × (y.output < j)) → (y.start < t) ⊎ ((y.start ≡ t) × (y.output < suc j))
        past y (inl l) = inl l
        past y (inr q) = inr (q.0, omega (arith, q.1))

        settled : (a b : ℕ) → a < N → b < suc j → 0 < x.left a b → Dec (b ≡ j) → (t < x.ins a) ⊎ (t < x.outs b)
        settled a b la lb l (yes q) = rw q (h a la (rw q at l))
        settled a b la lb l (no q) = g.settled a b la (omega arith) l

  -- ---- the next finish

  -- whoever is running at t runs until the next finish at least
  module _ (k t u : ℕ) (x : Shop) (g : Going k t N x) (n : Next N t x.outs u) (later : t < u) where
    until : (a : ℕ) → a < N → t < x.ins a → u ≤ x.ins a
    until a la l = let r = g.held a la l in omega (arith, r.2, n.first r.0 r.1 (omega (arith, r.2, l)))

    -- so, for a pair not started, as the time grows what its ports still have to run falls by as much
    within : (a b : ℕ) → a < N → b < N → 0 < x.left a b → u + ahead N s u x a b ≤ row N (timed s M) a + col N (timed s M) b
    unfolding ahead
    within a b la lb l = go (g.settled a b la lb l)
      where
        go : (t < x.ins a) ⊎ (t < x.outs b) → u + ahead N s u x a b ≤ row N (timed s M) a + col N (timed s M) b
        go (inl q) = omega (arith, until a la q, g.within a b la lb l)
        go (inr q) = omega (arith, n.first b lb q, g.within a b la lb l)

    -- one at least is over
    pub fewer : undone N u x < undone N t x
    unfolding undone
    fewer = go (dec_lt (sum N (λ b. pairs (x.outs b - u))) (sum N (λ b. pairs (x.outs b - t))))
      where
        less : (b : ℕ) → pairs (x.outs b - u) ≤ pairs (x.outs b - t)
        less b = two (dec_lt u (x.outs b))
          where
            two : Dec (u < x.outs b) → pairs (x.outs b - u) ≤ pairs (x.outs b - t)
            two (yes q) = omega (arith, pairs-one (x.outs b - u) (omega arith), pairs-one (x.outs b - t) (omega arith))
            two (no q) = let z : x.outs b - u ≡ 0 = omega arith in rw (z, pairs-none) (omega arith)

        go : Dec (sum N (λ b. pairs (x.outs b - u)) < sum N (λ b. pairs (x.outs b - t))) → undone N u x < undone N t x
        go (yes q) = omega arith
        go (no q) =
            let r = n.one later in
            let z : x.outs r.0 - u ≡ 0 = omega (arith, r.2) in
            absurd (omega (
              arith,
              sum-tight N (λ b. pairs (x.outs b - u)) (λ b. pairs (x.outs b - t)) (λ b _. less b) (omega (arith, q)) r.0 r.1,
              ap pairs z,
              pairs-none,
              pairs-one (x.outs r.0 - t) (omega (arith, r.2)),
            ))

    pub move-going : (m : ℕ) → undone N u x < m → Going m u 0 x
    move-going m f = record {
      kept = g.kept;
      counted = g.counted;
      ran = each_map (λ y r. record { runs = r.runs; past = inl (past y r.past); in-over = r.in-over; out-over = r.out-over }) g.ran;
      apart = g.apart;
      rising = g.rising;
      held = λ a la l. g.held a la (omega arith);
      within = within;
      settled = λ a b la lb l. absurd (omega arith);
      few = f;
    }
      where
        past : (y : Task) → (y.start < t) ⊎ ((y.start ≡ t) × (y.output < N)) → y.start < u
        past y (inl l) = omega arith
        past y (inr q) = omega (arith, q.0)

  -- ---- all turns of a moment

  module _ (top : N ≤ 255) (k t : ℕ) where
    turn-going : (j : ℕ) → j < N → (x : Shop) → Going k t j x → Going k t (suc j) (turn N s t x j)
    unfolding turn take
    turn-going j lj x g = go (dec_lt t (x.outs j))
      where
        taken : x.outs j ≤ t → (i : ℕ) → Low N 0 (ready t x j) i → Going k t (suc j) (take N s t x j i)
        taken idle i (at i' a b r h) = let w = ready-is t x j i' r in
            let li : i' < N = omega arith in
            rw (lt-ltb i' N li) (begin-going k t j x g i' li lj w.0 w.1 idle)
        taken idle i (nowhere h) = rw (le-ltb 255 N top) (stay-going k t j x g (λ a la l. inl (busy a la l (dec_lt t (x.ins a)))))
          where
            busy : (a : ℕ) → a < N → 0 < x.left a j → Dec (t < x.ins a) → t < x.ins a
            busy a la l (yes q) = q
            busy a la l (no q) = absurd (h a (omega arith) (omega arith) (is-ready t x j a l (omega arith)))

        go : Dec (t < x.outs j) → Going k t (suc j) (cond (leb (x.outs j) t) (take N s t x j (lowest N 0 (ready t x j))) x)
        go (yes q) = rw (lt-leb (x.outs j) t q) (stay-going k t j x g (λ a la l. inr q))
        go (no q) = rw (le-leb (x.outs j) t (omega arith)) (taken (omega arith) (lowest N 0 (ready t x j)) (lowest-low N 0 (ready t x j)))

    pub turns-going : (v : ℕ) → v ≤ N → (x : Shop) → Going k t 0 x → Going k t v (turns N s t x v)
    unfolding turns
    turns-going zero l x g = g
    turns-going (suc v) l x g = turn-going v l (turns N s t x v) (turns-going v (omega arith) x g)
