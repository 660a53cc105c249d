-- The setting of one slot leaves no pair out: when an input is visited and stays idle, every output with slots left for it is taken already.
use mathlib.Core.Path.{◌≡◌, refl, sym, ap, ap₂, ◌∙◌, subst}
use mathlib.Core.Logic.{◌≢◌, ◌⊎◌, inl, inr}
use mathlib.Core.Bool.{Bool, true, false, cond, ◌&&◌, not}
use Prim.Native.Nat.{ℕ, zero, suc, ◌+◌, ◌%◌, ◌≤◌, ◌<◌}
use native.Mathlib.Decide.{ℕ_discrete, dec_lt}
use native.Mathlib.Omega.{arith}
use lib.Dec.{T, ltb}
use borrow.Author.Tests.{lt-ltb, le-ltb}
use Rattle.switch.specs.Plan.{Setting}
use Rattle.rules.specs.Search.{put}
use Rattle.rules.specs.Quick.{lowest, Slot, may, seat, visits, slot}
use Rattle.rules.proofs.Ports.{put_same, put_other, put-setting, put-used, put-widens, is_true_or_not}
use Rattle.rules.proofs.Rotate.{around-full, around-reach}

-- ---- the lowest that passes

-- x passes, and none before it; or none passes, and x is 255
pub data Low (r j : ℕ) (P : ℕ → Bool) : ℕ → Type 0 where
  at : (x : ℕ) → j ≤ x → x < r + j → T (P x) → ((y : ℕ) → j ≤ y → y < x → T (P y) → ⊥) → Low r j P x
  nowhere : ((y : ℕ) → j ≤ y → y < r + j → T (P y) → ⊥) → Low r j P 255

pub lowest-low : (r j : ℕ) (P : ℕ → Bool) → Low r j P (lowest r j P)
unfolding lowest
lowest-low zero j P = nowhere (λ y a b _. omega arith)
lowest-low (suc r) j P = go (P j) refl (lowest-low r (suc j) P)
  where
    go : (b : Bool) → P j ≡ b → Low r (suc j) P (lowest r (suc j) P) → Low (suc r) j P (cond b j (lowest r (suc j) P))
    go true e s = at j (omega arith) (omega arith) (rw e tt) (λ y a b _. omega arith)
    go false e s = later (lowest r (suc j) P) s
      where
        -- j does not pass
        past : (y : ℕ) → j ≤ y → T (P y) → suc j ≤ y
        past y a t = two (ℕ_discrete y j)
          where
            two : Dec (y ≡ j) → suc j ≤ y
            two (yes z) = absurd (subst T (ap P z ∙ e) t)
            two (no z) = omega arith

        later : (x : ℕ) → Low r (suc j) P x → Low (suc r) j P x
        later x (at x' a b t h) = at x' (omega arith) (omega arith) t (λ y c d u. h y (past y c u) d u)
        later x (nowhere h) = nowhere (λ y c d u. h y (past y c u) (omega arith) u)

-- there is one lowest
pub lowest-at : (r j : ℕ) (P : ℕ → Bool) (x : ℕ) → j ≤ x → x < r + j → T (P x) → ((y : ℕ) → j ≤ y → y < x → T (P y) → ⊥) → lowest r j P ≡ x
lowest-at r j P x a b t h = go (lowest r j P) (lowest-low r j P)
  where
    go : (z : ℕ) → Low r j P z → z ≡ x
    go z (nowhere g) = absurd (g x a b t)
    go z (at z' c d u g) = two (dec_lt z' x) (dec_lt x z')
      where
        two : Dec (z' < x) → Dec (x < z') → z' ≡ x
        two (yes l) k = absurd (h z' c l u)
        two (no l) (yes k) = absurd (g x a k t)
        two (no l) (no k) = omega arith

pub lowest-none : (r j : ℕ) (P : ℕ → Bool) → ((y : ℕ) → j ≤ y → y < r + j → T (P y) → ⊥) → lowest r j P ≡ 255
lowest-none r j P h = go (lowest r j P) (lowest-low r j P)
  where
    go : (z : ℕ) → Low r j P z → z ≡ 255
    go z (nowhere g) = refl
    go z (at z' c d u g) = absurd (h z' c d u)

-- two tests that agree have one lowest
pub lowest-cong : (r j : ℕ) (P Q : ℕ → Bool) → ((y : ℕ) → j ≤ y → y < r + j → P y ≡ Q y) → lowest r j P ≡ lowest r j Q
unfolding lowest
lowest-cong zero j P Q e = refl
lowest-cong (suc r) j P Q e = ap₂ (λ (b : Bool) (x : ℕ). cond b j x) (e j (omega arith) (omega arith)) (lowest-cong r (suc j) P Q (λ y a b. e y (omega arith) (omega arith)))

-- ---- what an input may take

pub may-cong : (M M' : ℕ → ℕ → ℕ) (B B' : ℕ → Bool) (i j : ℕ) → M i j ≡ M' i j → B j ≡ B' j → may M B i j ≡ may M' B' i j
unfolding may
may-cong M M' B B' i j = ap₂ (λ (x : ℕ) (b : Bool). ltb 0 x && not b)

pub may-yes : (M : ℕ → ℕ → ℕ) (B : ℕ → Bool) (i j : ℕ) → 0 < M i j → (T (B j) → ⊥) → T (may M B i j)
unfolding may
may-yes M B i j p n = rw (lt-ltb 0 (M i j) p) (go (B j) n)
  where
    go : (b : Bool) → (T b → ⊥) → T (not b)
    go true x = x tt
    go false x = tt

pub may-is : (M : ℕ → ℕ → ℕ) (B : ℕ → Bool) (i j : ℕ) → T (may M B i j) → (0 < M i j) × (T (B j) → ⊥)
unfolding may
may-is M B i j t = go (dec_lt 0 (M i j)) (is_true_or_not (B j))
  where
    bad : (a b : Bool) → T b → T (a && not b) → ⊥
    bad true true x y = y
    bad false b x y = y
    bad true false x y = x

    go : Dec (0 < M i j) → Dec (T (B j)) → (0 < M i j) × (T (B j) → ⊥)
    go (yes p) (no q) = (p, q)
    go (yes p) (yes q) = absurd (bad (ltb 0 (M i j)) (B j) q t)
    go (no p) q = absurd (rw (le-ltb 0 (M i j) (omega arith)) at t)

-- ---- one slot

-- a setting over cells that are not 0, to which no pair with slots left can be added
pub record Maximal (N : ℕ) (M : ℕ → ℕ → ℕ) (o : ℕ → ℕ) : Type 0 where
  pub setting : Setting N o
  pub used : (i : ℕ) → i < N → o i < N → 0 < M i (o i)
  pub none_left : (i j : ℕ) → i < N → j < N → 0 < M i j → (o i < N) ⊎ ((a : ℕ) × (a < N) × (o a ≡ j))

module _ (N : ℕ) (pos : 0 < N) (top : N ≤ 255) (M : ℕ → ℕ → ℕ) (s : ℕ) where
  -- the v-th visited
  abbrev ord : ℕ → ℕ
  ord v = (v + s) % N

  record Visited (v : ℕ) (x : Slot) : Type 0 where
    setting : Setting N x.outputs
    used : (i : ℕ) → i < N → x.outputs i < N → 0 < M i (x.outputs i)
    marked : (i : ℕ) → i < N → x.outputs i < N → T (x.taken (x.outputs i))
    holder : (j : ℕ) → j < N → T (x.taken j) → (a : ℕ) × (a < N) × (x.outputs a ≡ j)
    left : (w : ℕ) → w < v → (j : ℕ) → j < N → 0 < M (ord w) j → (x.outputs (ord w) < N) ⊎ T (x.taken j)
    idle : (i : ℕ) → ((w : ℕ) → w < v → ord w ≢ i) → x.outputs i ≡ 255

  visited-none : Visited 0 (record { outputs = λ _. 255; taken = λ _. false })
  visited-none = record {
    setting = record { once = λ i k _ _ l _. absurd (omega arith) };
    used = λ i _ l. absurd (omega arith);
    marked = λ i _ l. absurd (omega arith);
    holder = λ j _ t. absurd t;
    left = λ w l. absurd (omega arith);
    idle = λ i _. refl;
  }

  -- the next input takes j, the lowest that it may, or none
  module _ (v : ℕ) (lv : v < N) (x : Slot) (g : Visited v x) (j : ℕ) (low : Low N 0 (may M x.taken (ord v)) j) where
    abbrev i : ℕ
    i = ord v

    abbrev o : ℕ → ℕ
    o = put x.outputs i j

    li : i < N
    li = (around-full N pos s).inside v lv

    later : (w : ℕ) → w < v → ord w ≢ i
    later w l e = omega (arith, (around-full N pos s).once w v (omega arith) lv e)

    idle-i : x.outputs i ≡ 255
    idle-i = g.idle i later

    -- an output that is taken has slots left, and was free
    fresh : j < N → (0 < M i j) × (T (x.taken j) → ⊥)
    fresh l = go j low l
      where
        go : (y : ℕ) → Low N 0 (may M x.taken i) y → y < N → (0 < M i y) × (T (x.taken y) → ⊥)
        go y (at y' a b t h) l = may-is M x.taken i y' t
        go y (nowhere h) l = absurd (omega arith)

    -- whoever holds an output holds one that is taken
    new : j < N → (k : ℕ) → k < N → k ≢ i → x.outputs k ≢ j
    new l k lk _ e = (fresh l).1 (subst (λ (z : ℕ). T (x.taken z)) e (g.marked k lk (rw e l)))

    marked : (a : ℕ) → a < N → o a < N → T (put x.taken j true (o a))
    marked a la q = go (ℕ_discrete a i)
      where
        go : Dec (a ≡ i) → T (put x.taken j true (o a))
        go (yes y) = rw (y, put_same x.outputs i j, put_same x.taken j true) tt
        go (no y) = rw (put_other x.outputs i j a y) (put-widens x.taken j (x.outputs a) (g.marked a la (rw (put_other x.outputs i j a y) at q)))

    holder : (c : ℕ) → c < N → T (put x.taken j true c) → (a : ℕ) × (a < N) × (o a ≡ c)
    holder c lc t = go (ℕ_discrete c j)
      where
        go : Dec (c ≡ j) → (a : ℕ) × (a < N) × (o a ≡ c)
        go (yes y) = (i, li, put_same x.outputs i j ∙ sym y)
        go (no y) =
            let r : (a : ℕ) × (a < N) × (x.outputs a ≡ c) = g.holder c lc (rw (put_other x.taken j true c y) at t) in
            (r.0, r.1, put_other x.outputs i j r.0 (λ e. omega (arith, r.2, ap x.outputs e, idle-i)) ∙ r.2)

    -- i takes an output, or all that it may take is taken
    left_here : (c : ℕ) → c < N → 0 < M i c → (o i < N) ⊎ T (put x.taken j true c)
    left_here c lc p = go j low
      where
        go : (y : ℕ) → Low N 0 (may M x.taken i) y → (put x.outputs i y i < N) ⊎ T (put x.taken y true c)
        go y (at y' a b t h) = inl (rw (put_same x.outputs i y') (omega arith))
        go y (nowhere h) = two (is_true_or_not (x.taken c))
          where
            two : Dec (T (x.taken c)) → (put x.outputs i 255 i < N) ⊎ T (put x.taken 255 true c)
            two (yes t) = inr (put-widens x.taken 255 c t)
            two (no t) = absurd (h c (omega arith) (omega arith) (may-yes M x.taken i c p t))

    left : (w : ℕ) → w < suc v → (c : ℕ) → c < N → 0 < M (ord w) c → (o (ord w) < N) ⊎ T (put x.taken j true c)
    left w l c lc p = go (ℕ_discrete w v)
      where
        old : w < v → (x.outputs (ord w) < N) ⊎ T (x.taken c) → (o (ord w) < N) ⊎ T (put x.taken j true c)
        old lw (inl y) = inl (rw (put_other x.outputs i j (ord w) (later w lw)) y)
        old lw (inr t) = inr (put-widens x.taken j c t)

        go : Dec (w ≡ v) → (o (ord w) < N) ⊎ T (put x.taken j true c)
        go (yes e) = rw e (left_here c lc (rw e at p))
        go (no e) = old (omega arith) (g.left w (omega arith) c lc p)

    visited-next : Visited (suc v) (seat x i j)
    unfolding seat
    visited-next = record {
      setting = put-setting N x.outputs g.setting i j new;
      used = put-used N M x.outputs g.used i j (λ l. (fresh l).0);
      marked = marked;
      holder = holder;
      left = left;
      idle = λ a h. put_other x.outputs i j a (λ e. h v (omega arith) (sym e)) ∙ g.idle a (λ w l. h w (omega arith));
    }

  visited : (v : ℕ) → v ≤ N → Visited v (visits N M s v)
  unfolding visits
  visited zero l = visited-none
  visited (suc v) l = visited-next v l (visits N M s v) (visited v (omega arith)) (lowest N 0 (may M (visits N M s v).taken (ord v))) (lowest-low N 0 (may M (visits N M s v).taken (ord v)))

  pub slot-maximal : Maximal N M (slot N M s)
  unfolding slot
  slot-maximal = record { setting = g.setting; used = g.used; none_left = none_left }
    where
      g : Visited N (visits N M s N)
      g = visited N (omega arith)

      none_left : (i c : ℕ) → i < N → c < N → 0 < M i c → (slot N M s i < N) ⊎ ((a : ℕ) × (a < N) × (slot N M s a ≡ c))
      none_left i c li lc p =
          let r : (w : ℕ) × (w < N) × (ord w ≡ i) = around-reach N pos s i li in
          go (subst (λ (z : ℕ). ((visits N M s N).outputs z < N) ⊎ T ((visits N M s N).taken c)) r.2 (g.left r.0 r.1 c lc (rw r.2 p)))
        where
          go : ((visits N M s N).outputs i < N) ⊎ T ((visits N M s N).taken c) → ((visits N M s N).outputs i < N) ⊎ ((a : ℕ) × (a < N) × ((visits N M s N).outputs a ≡ c))
          go (inl y) = inl y
          go (inr t) = inr (g.holder c lc t)

  -- past N all is idle
  pub slot-idle : (i : ℕ) → N ≤ i → slot N M s i ≡ 255
  unfolding slot
  slot-idle i l = (visited N (omega arith)).idle i (λ w z e. omega (arith, (around-full N pos s).inside w z))

  -- and so is every input that is not visited yet
  pub visits-idle : (v : ℕ) → v ≤ N → (i : ℕ) → ((w : ℕ) → w < v → (w + s) % N ≢ i) → (visits N M s v).outputs i ≡ 255
  visits-idle v l = (visited v l).idle
