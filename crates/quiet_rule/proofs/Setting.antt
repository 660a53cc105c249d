-- The quiet setting keeps the limit, and leaves no pair out that it allows: when an input is visited and stays idle, every output with slots left for it
-- is taken already, or its wavelength is full.
use mathlib.Core.Path.{◌≡◌, refl, sym, ap, ◌∙◌, subst}
use mathlib.Core.Logic.{◌≢◌, ◌⊎◌, inl, inr}
use mathlib.Core.Bool.{Bool, true, false, ◌&&◌}
use Prim.Native.Nat.{ℕ, zero, suc, ◌+◌, ◌≤◌, ◌<◌}
use native.Mathlib.Decide.{ℕ_discrete, dec_lt}
use native.Mathlib.Nat.{eq-zero-or-pos}
use native.Mathlib.Omega.{arith}
use lib.Dec.{T, ltb}
use borrow.Author.Tests.{lt-ltb, le-ltb}
use Rattle.counting.specs.Count.{ind}
use Rattle.counting.proofs.Count.{ind-le, δ-pos}
use Rattle.switch.specs.Plan.{Setting}
use Rattle.wavelengths.specs.Shared.{wavelength}
use Rattle.rules.specs.Search.{put}
use Rattle.rules.specs.Quick.{lowest, Slot, may, seat}
use Rattle.rules.proofs.Ports.{put_same, put_other, put-setting, put-used, put-widens, is_true_or_not}
use Rattle.rules.proofs.Slot.{Low, at, nowhere, lowest-low, may-yes, may-is}
use Rattle.quiet_rule.specs.Limit.{lights, lit}
use Rattle.quiet_rule.specs.Quiet.{may_within, served, quiet_setting}
use Rattle.quiet_rule.proofs.Limit.{lights-idle, lights-joined, lit-put, lit-none}

-- ---- what an input may take

module _ (N L : ℕ) (M : ℕ → ℕ → ℕ) (x : Slot) (i j : ℕ) where
  pub within-is : T (may_within N L M x i j) → T (may M x.taken i j) × (lit N x.outputs (wavelength N i j) < L)
  unfolding may_within
  within-is t = go (may M x.taken i j) (dec_lt (lit N x.outputs (wavelength N i j)) L) t
    where
      go : (b : Bool) → Dec (lit N x.outputs (wavelength N i j) < L) → T (b && ltb (lit N x.outputs (wavelength N i j)) L)
          → T b × (lit N x.outputs (wavelength N i j) < L)
      go true (yes l) u = (tt, l)
      go true (no l) u = absurd (rw (le-ltb (lit N x.outputs (wavelength N i j)) L (omega arith)) at u)
      go false d u = absurd u

  pub within-yes : T (may M x.taken i j) → lit N x.outputs (wavelength N i j) < L → T (may_within N L M x i j)
  unfolding may_within
  within-yes t l = rw (lt-ltb (lit N x.outputs (wavelength N i j)) L l) (go (may M x.taken i j) t)
    where
      go : (b : Bool) → T b → T (b && true)
      go true u = tt
      go false u = u

-- ---- one setting

-- why a pair with slots left is not joined: its input is, or its output, or its wavelength is full
pub data Held (N L : ℕ) (o : ℕ → ℕ) (i j : ℕ) : Type 0 where
  input : o i < N → Held N L o i j
  output : (a : ℕ) → a < N → o a ≡ j → Held N L o i j
  full : L ≤ lit N o (wavelength N i j) → Held N L o i j

-- a setting over cells that are not 0, within the limit, to which no pair with slots left can be added
pub record Greedy (N L : ℕ) (M : ℕ → ℕ → ℕ) (o : ℕ → ℕ) : Type 0 where
  pub setting : Setting N o
  pub used : (i : ℕ) → i < N → o i < N → 0 < M i (o i)
  pub quiet : (w : ℕ) → lit N o w ≤ L
  pub none_left : (i j : ℕ) → i < N → j < N → 0 < M i j → Held N L o i j

module _ (N : ℕ) (top : N ≤ 255) (L : ℕ) (M : ℕ → ℕ → ℕ) where
  record Visited (v : ℕ) (x : Slot) : Type 0 where
    setting : Setting N x.outputs
    used : (i : ℕ) → i < N → x.outputs i < N → 0 < M i (x.outputs i)
    marked : (i : ℕ) → i < N → x.outputs i < N → T (x.taken (x.outputs i))
    holder : (j : ℕ) → j < N → T (x.taken j) → (a : ℕ) × (a < N) × (x.outputs a ≡ j)
    quiet : (w : ℕ) → lit N x.outputs w ≤ L
    left : (i : ℕ) → i < v → (j : ℕ) → j < N → 0 < M i j → Held N L x.outputs i j
    idle : (i : ℕ) → v ≤ i → x.outputs i ≡ 255

  visited-none : Visited 0 (record { outputs = λ _. 255; taken = λ _. false })
  visited-none = record {
    setting = record { once = λ i k _ _ l _. absurd (omega arith) };
    used = λ i _ l. absurd (omega arith);
    marked = λ i _ l. absurd (omega arith);
    holder = λ j _ t. absurd t;
    quiet = λ w. omega (arith, lit-none N (λ _. 255) (λ i _. top) w);
    left = λ i l. absurd (omega arith);
    idle = λ i _. refl;
  }

  -- the next input takes j, the lowest that it may, or none
  module _ (i : ℕ) (li : i < N) (x : Slot) (g : Visited i x) (j : ℕ) (low : Low N 0 (may_within N L M x i) j) where
    abbrev o : ℕ → ℕ
    o = put x.outputs i j

    idle-i : x.outputs i ≡ 255
    idle-i = g.idle i (omega arith)

    -- an output that is taken has slots left, and was free; and its wavelength had room
    fresh : j < N → ((0 < M i j) × (T (x.taken j) → ⊥)) × (lit N x.outputs (wavelength N i j) < L)
    fresh l = go j low l
      where
        go : (y : ℕ) → Low N 0 (may_within N L M x i) y → y < N → ((0 < M i y) × (T (x.taken y) → ⊥)) × (lit N x.outputs (wavelength N i y) < L)
        go y (at y' a b t h) l = let r = within-is N L M x i y' t in (may-is M x.taken i y' r.0, r.1)
        go y (nowhere h) l = absurd (omega arith)

    -- whoever holds an output holds one that is taken
    new : j < N → (k : ℕ) → k < N → k ≢ i → x.outputs k ≢ j
    new l k lk _ e = (fresh l).0.1 (subst (λ (z : ℕ). T (x.taken z)) e (g.marked k lk (rw e l)))

    marked : (a : ℕ) → a < N → o a < N → T (put x.taken j true (o a))
    marked a la q = go (ℕ_discrete a i)
      where
        go : Dec (a ≡ i) → T (put x.taken j true (o a))
        go (yes y) = rw (y, put_same x.outputs i j, put_same x.taken j true) tt
        go (no y) = rw (put_other x.outputs i j a y) (put-widens x.taken j (x.outputs a) (g.marked a la (rw (put_other x.outputs i j a y) at q)))

    -- whoever held an output holds it still
    keeps : (c a : ℕ) → c < N → x.outputs a ≡ c → o a ≡ c
    keeps c a lc e = put_other x.outputs i j a (λ y. omega (arith, e, ap x.outputs y, idle-i)) ∙ e

    holder : (c : ℕ) → c < N → T (put x.taken j true c) → (a : ℕ) × (a < N) × (o a ≡ c)
    holder c lc t = go (ℕ_discrete c j)
      where
        go : Dec (c ≡ j) → (a : ℕ) × (a < N) × (o a ≡ c)
        go (yes y) = (i, li, put_same x.outputs i j ∙ sym y)
        go (no y) =
            let r : (a : ℕ) × (a < N) × (x.outputs a ≡ c) = g.holder c lc (rw (put_other x.taken j true c y) at t) in
            (r.0, r.1, keeps c r.0 lc r.2)

    grown : (w : ℕ) → lit N o w ≡ lit N x.outputs w + ind (lights N w i j)
    grown w = lit-put N x.outputs i j w li (omega (arith, idle-i))

    -- where the input uses w, w had room
    quiet : (w : ℕ) → lit N o w ≤ L
    quiet w = go (dec_lt j N) (eq-zero-or-pos (ind (lights N w i j)))
      where
        go : Dec (j < N) → (ind (lights N w i j) ≡ 0) ⊎ (0 < ind (lights N w i j)) → lit N o w ≤ L
        go d (inl z) = omega (arith, grown w, g.quiet w)
        go (no d) (inr p) = absurd (omega (arith, lights-idle N w i j (omega arith)))
        go (yes l) (inr p) =
            let e : wavelength N i j ≡ w = δ-pos (wavelength N i j) w (omega (arith, lights-joined N w i j l)) in
            omega (arith, grown w, ind-le (lights N w i j), (fresh l).1, ap (lit N x.outputs) e)

    -- i takes an output, or each that has slots left for it is taken or its wavelength full
    left_here : (c : ℕ) → c < N → 0 < M i c → Held N L o i c
    left_here c lc p = go j refl low
      where
        go : (y : ℕ) → j ≡ y → Low N 0 (may_within N L M x i) y → Held N L o i c
        go y e (at y' a b t h) = input (rw (put_same x.outputs i j) (omega arith))
        go y e (nowhere h) = two (is_true_or_not (x.taken c)) (dec_lt (lit N x.outputs (wavelength N i c)) L)
          where
            two : Dec (T (x.taken c)) → Dec (lit N x.outputs (wavelength N i c) < L) → Held N L o i c
            two (yes t) d = let r = g.holder c lc t in output r.0 r.1 (keeps c r.0 lc r.2)
            two (no t) (yes l) = absurd (h c (omega arith) (omega arith) (within-yes N L M x i c (may-yes M x.taken i c p t) l))
            two (no t) (no l) = full (omega (arith, grown (wavelength N i c)))

    left : (a : ℕ) → a < suc i → (c : ℕ) → c < N → 0 < M a c → Held N L o a c
    left a l c lc p = go (ℕ_discrete a i)
      where
        old : a < i → Held N L x.outputs a c → Held N L o a c
        old la (input y) = input (rw (put_other x.outputs i j a (omega arith)) y)
        old la (output b lb e) = output b lb (keeps c b lc e)
        old la (full y) = full (omega (arith, grown (wavelength N a c)))

        go : Dec (a ≡ i) → Held N L o a c
        go (yes e) = rw e (left_here c lc (rw e at p))
        go (no e) = old (omega arith) (g.left a (omega arith) c lc p)

    visited-next : Visited (suc i) (seat x i j)
    unfolding seat
    visited-next = record {
      setting = put-setting N x.outputs g.setting i j new;
      used = put-used N M x.outputs g.used i j (λ l. (fresh l).0.0);
      marked = marked;
      holder = holder;
      quiet = quiet;
      left = left;
      idle = λ a l. put_other x.outputs i j a (omega arith) ∙ g.idle a (omega arith);
    }

  visited : (v : ℕ) → v ≤ N → Visited v (served N L M v)
  unfolding served
  visited zero l = visited-none
  visited (suc v) l = visited-next v l (served N L M v) (visited v (omega arith)) (lowest N 0 (may_within N L M (served N L M v) v)) (lowest-low N 0 (may_within N L M (served N L M v) v))

  pub setting-greedy : Greedy N L M (quiet_setting N L M)
  unfolding quiet_setting
  setting-greedy = let g = visited N (omega arith) in record { setting = g.setting; used = g.used; quiet = g.quiet; none_left = λ i j li. g.left i li j }

  -- past N all is idle
  pub setting-idle : (i : ℕ) → N ≤ i → quiet_setting N L M i ≡ 255
  unfolding quiet_setting
  setting-idle = (visited N (omega arith)).idle

  -- and so is every input that is not visited yet
  pub served-idle : (v : ℕ) → v ≤ N → (i : ℕ) → v ≤ i → (served N L M v).outputs i ≡ 255
  served-idle v l = (visited v l).idle
