-- If an input stays unjoined, it and the inputs that could make way for it are one more than the outputs they can reach: against Hall.
use mathlib.Core.Path.{◌≡◌, refl, sym, ap, ◌∙◌, subst}
use mathlib.Core.Logic.{◌≢◌, ◌⊎◌, inl, inr}
use mathlib.Core.Bool.{Bool, true, false}
use Prim.Native.Nat.{ℕ, zero, suc, ◌+◌, ◌≤◌, ◌<◌}
use native.Mathlib.Decide.{ℕ_discrete, dec_lt}
use native.Mathlib.Omega.{arith}
use lib.Dec.{T}
use Rattle.counting.specs.Count.{count}
use Rattle.counting.specs.Matrix.{row, col}
use Rattle.counting.proofs.Pigeonhole.{pigeonhole}
use Rattle.counting.proofs.Hall.{hall}
use Rattle.switch.specs.Plan.{Setting}
use Rattle.rules.specs.First.{NonZero, Fits}
use Rattle.rules.specs.Search.{put}
use Rattle.rules.proofs.Ports.{put_same, put_other, put-setting, put-used, put-widens, count-put, count-le, is_true_or_not, find}

module _ (N : ℕ) (M : ℕ → ℕ → ℕ) where
  -- m joins some inputs to outputs over cells that are not 0; an input whose m i is not below N is not joined
  record Match (m : ℕ → ℕ) : Type 0 where
    setting : Setting N m
    used : (i : ℕ) → i < N → m i < N → 0 < M i (m i)

  -- input a lets go of its output, where v is not below N, or takes v, which no other has
  put-match : (m : ℕ → ℕ) → Match m → (a v : ℕ) → (v < N → 0 < M a v) → (v < N → (k : ℕ) → k < N → k ≢ a → m k ≢ v) → Match (put m a v)
  put-match m s a v cell free = record { setting = put-setting N m s.setting a v free; used = put-used N M m s.used a v cell }

  -- ---- input i is not joined by m

  module _ (m : ℕ → ℕ) (s : Match m) (i : ℕ) (li : i < N) (idle : N ≤ m i) where
    -- the inputs that are to be joined
    abbrev Wanted : ℕ → Type 0
    Wanted k = (k ≡ i) ⊎ (m k < N)

    -- all of them joined but a, by outputs that m uses; only i and holders of outputs in B are joined otherwise
    record Freed (B : ℕ → Bool) (a : ℕ) : Type 0 where
      next : ℕ → ℕ
      match : Match next
      free : N ≤ next a
      joined : (k : ℕ) → k < N → k ≢ a → Wanted k → next k < N
      apart : (k : ℕ) → k < N → k ≢ i → (T (B (m k)) → ⊥) → next k ≡ m k
      among : (k : ℕ) → k < N → next k < N → (h : ℕ) × (h < N) × (m h ≡ next k)

    -- all of them joined
    record Joined : Type 0 where
      next : ℕ → ℕ
      match : Match next
      joined : (k : ℕ) → k < N → Wanted k → next k < N

    -- at first i itself
    freed-start : (B : ℕ → Bool) → Freed B i
    freed-start B = record { next = m; match = s; free = idle; joined = joined; apart = λ k _ _ _. refl; among = λ k lk _. (k, lk, refl) }
      where
        joined : (k : ℕ) → k < N → k ≢ i → Wanted k → m k < N
        joined k lk ne (inl e) = absurd (ne e)
        joined k lk ne (inr q) = q

    freed-wider : (B : ℕ → Bool) (c a : ℕ) → Freed B a → Freed (put B c true) a
    freed-wider B c a f = record {
      next = f.next;
      match = f.match;
      free = f.free;
      joined = f.joined;
      apart = λ k lk ne out. f.apart k lk ne (λ t. out (put-widens B c (m k) t));
      among = f.among;
    }

    -- a can be freed, and has a cell that is not 0 at an output c outside B
    module _ (B : ℕ → Bool) (a : ℕ) (f : Freed B a) (c : ℕ) (lc : c < N) (p : 0 < M a c) where
      -- c is free: a takes it
      take-free : ((h : ℕ) → h < N → m h ≢ c) → Joined
      take-free none_has = record { next = put f.next a c; match = put-match f.next f.match a c (λ _. p) free; joined = joined }
        where
          free : c < N → (k : ℕ) → k < N → k ≢ a → f.next k ≢ c
          free _ k lk _ e = let r : (h : ℕ) × (h < N) × (m h ≡ f.next k) = f.among k lk (rw e lc) in none_has r.0 r.1 (r.2 ∙ e)

          joined : (k : ℕ) → k < N → Wanted k → put f.next a c k < N
          joined k lk w = go (ℕ_discrete k a)
            where
              go : Dec (k ≡ a) → put f.next a c k < N
              go (yes x) = rw (x, put_same f.next a c) lc
              go (no x) = rw (put_other f.next a c k x) (f.joined k lk x w)

      -- h has it: a takes it from h, and h is free instead
      take-held : (a ≡ i) ⊎ T (B (m a)) → (T (B c) → ⊥) → (h : ℕ) → h < N → m h ≡ c → Freed (put B c true) h
      take-held from new h lh e = record { next = next; match = match; free = rw next-h (omega arith); joined = joined; apart = apart; among = among }
        where
          old : ℕ → ℕ
          old = f.next

          next : ℕ → ℕ
          next = put (put old h N) a c

          old-h : old h ≡ c
          old-h = f.apart h lh (λ x. omega (arith, ap m x, e)) (λ t. new (subst (λ (z : ℕ). T (B z)) e t)) ∙ e

          h≢a : h ≢ a
          h≢a x = omega (arith, f.free, ap old x, old-h)

          next-a : next a ≡ c
          next-a = put_same (put old h N) a c

          next-h : next h ≡ N
          next-h = put_other (put old h N) a c h h≢a ∙ put_same old h N

          next-other : (k : ℕ) → k ≢ a → k ≢ h → next k ≡ old k
          next-other k x y = put_other (put old h N) a c k x ∙ put_other old h N k y

          match : Match next
          match = put-match (put old h N) (put-match old f.match h N (λ l. absurd (omega arith)) (λ l. absurd (omega arith))) a c (λ _. p) free
            where
              free : c < N → (k : ℕ) → k < N → k ≢ a → put old h N k ≢ c
              free _ k lk _ q = go (ℕ_discrete k h)
                where
                  go : Dec (k ≡ h) → ⊥
                  go (yes x) = omega (arith, q, ap (put old h N) x ∙ put_same old h N)
                  go (no x) = let w : old k ≡ c = sym (put_other old h N k x) ∙ q in
                      x (f.match.setting.once k h lk lh (rw w lc) (w ∙ sym old-h))

          joined : (k : ℕ) → k < N → k ≢ h → Wanted k → next k < N
          joined k lk y w = go (ℕ_discrete k a)
            where
              go : Dec (k ≡ a) → next k < N
              go (yes x) = rw (x, next-a) lc
              go (no x) = rw (next-other k x y) (f.joined k lk x w)

          apart : (k : ℕ) → k < N → k ≢ i → (T (put B c true (m k)) → ⊥) → next k ≡ m k
          apart k lk ne out = next-other k k≢a k≢h ∙ f.apart k lk ne (λ t. out (put-widens B c (m k) t))
            where
              k≢h : k ≢ h
              k≢h x = out (rw (ap m x ∙ e, put_same B c true) tt)

              k≢a : k ≢ a
              k≢a x = go from
                where
                  go : (a ≡ i) ⊎ T (B (m a)) → ⊥
                  go (inl y) = ne (x ∙ y)
                  go (inr t) = out (put-widens B c (m k) (rw x t))

          among : (k : ℕ) → k < N → next k < N → (g : ℕ) × (g < N) × (m g ≡ next k)
          among k lk q = go (ℕ_discrete k a) (ℕ_discrete k h)
            where
              go : Dec (k ≡ a) → Dec (k ≡ h) → (g : ℕ) × (g < N) × (m g ≡ next k)
              go (yes x) y = (h, lh, e ∙ sym (ap next x ∙ next-a))
              go (no x) (yes y) = absurd (omega (arith, q, ap next y ∙ next-h))
              go (no x) (no y) =
                  let r : (g : ℕ) × (g < N) × (m g ≡ old k) = f.among k lk (rw (next-other k x y) at q) in
                  (r.0, r.1, r.2 ∙ sym (next-other k x y))

    -- outputs in B are held; their holders, and i, can be freed
    record Reached (B : ℕ → Bool) : Type 0 where
      holder : ℕ → ℕ
      held : (j : ℕ) → T (B j) → (j < N) × (holder j < N) × (m (holder j) ≡ j)
      freed : (a : ℕ) → a < N → (a ≡ i) ⊎ T (B (m a)) → Freed B a

    reached-none : Reached (λ _. false)
    reached-none = record { holder = λ j. j; held = λ j t. absurd t; freed = freed }
      where
        freed : (a : ℕ) → a < N → (a ≡ i) ⊎ T false → Freed (λ _. false) a
        freed a la (inl e) = rw e (freed-start (λ _. false))
        freed a la (inr t) = absurd t

    -- c, that h holds, is reached too
    reached-more : (B : ℕ → Bool) → Reached B → (c h : ℕ) → c < N → h < N → m h ≡ c → Freed (put B c true) h → Reached (put B c true)
    reached-more B r c h lc lh e f = record { holder = put r.holder c h; held = held; freed = freed }
      where
        held : (j : ℕ) → T (put B c true j) → (j < N) × (put r.holder c h j < N) × (m (put r.holder c h j) ≡ j)
        held j t = go (ℕ_discrete j c)
          where
            go : Dec (j ≡ c) → (j < N) × (put r.holder c h j < N) × (m (put r.holder c h j) ≡ j)
            go (yes x) = rw (x, put_same r.holder c h) (lc, lh, e)
            go (no x) = rw (put_other r.holder c h j x) (r.held j (rw (put_other B c true j x) at t))

        freed : (a : ℕ) → a < N → (a ≡ i) ⊎ T (put B c true (m a)) → Freed (put B c true) a
        freed a la (inl x) = freed-wider B c a (r.freed a la (inl x))
        freed a la (inr t) = go (ℕ_discrete (m a) c)
          where
            go : Dec (m a ≡ c) → Freed (put B c true) a
            go (yes x) = subst (Freed (put B c true)) (s.setting.once h a lh la (rw e lc) (e ∙ sym x)) f
            go (no x) = freed-wider B c a (r.freed a la (inr (rw (put_other B c true (m a) x) at t)))

    -- ---- all lines sum to t, and so a cell of i or of a holder leads out of B

    module _ (t : ℕ) (pos : 0 < t) (rows : (a : ℕ) → a < N → row N M a ≡ t) (cols : (b : ℕ) → b < N → col N M b ≡ t) where
      -- i and the holders of B
      unfoldable asking : (ℕ → Bool) → ℕ → Bool
      asking B = put (λ a. B (m a)) i true

      asking-is : (B : ℕ → Bool) (a : ℕ) → T (asking B a) → (a ≡ i) ⊎ T (B (m a))
      unfolding asking
      asking-is B a x = go (ℕ_discrete a i)
        where
          go : Dec (a ≡ i) → (a ≡ i) ⊎ T (B (m a))
          go (yes e) = inl e
          go (no e) = inr (rw (put_other (λ a. B (m a)) i true a e) at x)

      abbrev Out : (ℕ → Bool) → ℕ → ℕ → Type 0
      Out B a c = T (asking B a) × (0 < M a c) × (T (B c) → ⊥)

      out? : (B : ℕ → Bool) (a c : ℕ) → Dec (Out B a c)
      out? B a c = go (is_true_or_not (asking B a)) (dec_lt 0 (M a c)) (is_true_or_not (B c))
        where
          go : Dec (T (asking B a)) → Dec (0 < M a c) → Dec (T (B c)) → Dec (Out B a c)
          go (no x) y z = no (λ r. x r.0)
          go (yes x) (no y) z = no (λ r. y r.1)
          go (yes x) (yes y) (yes z) = no (λ r. r.2 z)
          go (yes x) (yes y) (no z) = yes (x, y, z)

      -- i and the holders are one more than B, so it is not so that none leads out
      leads-out : (B : ℕ → Bool) → Reached B → ((a c : ℕ) → a < N → c < N → Out B a c → ⊥) → ⊥
      unfolding asking
      leads-out B r none_out = omega (arith, fit, count-put N (λ a. B (m a)) i li (λ x. omega (arith, (r.held (m i) x).0)), holders)
        where
          fit : count N (asking B) ≤ count N B
          fit = hall N t M (asking B) B pos rows cols support
            where
              support : (a j : ℕ) → a < N → j < N → T (asking B a) → M a j ≢ 0 → T (B j)
              support a j la lj x ne = go (is_true_or_not (B j))
                where
                  go : Dec (T (B j)) → T (B j)
                  go (yes y) = y
                  go (no y) = absurd (none_out a j la lj (x, omega arith, y))

          holders : count N B ≤ count N (λ a. B (m a))
          holders = pigeonhole N N B (λ a. B (m a)) r.holder (λ j l x. ((r.held j x).1, subst (λ (z : ℕ). T (B z)) (sym (r.held j x).2) x))
              (λ j k _ _ x y e. sym (r.held j x).2 ∙ ap m e ∙ (r.held k y).2)

      -- a free output is reached, or one more that is held
      step : (B : ℕ → Bool) → Reached B → Joined ⊎ ((c : ℕ) × (c < N) × (T (B c) → ⊥) × Reached (put B c true))
      step B r = go (find N (λ a. (c : ℕ) × (c < N) × Out B a c) (λ a. find N (Out B a) (out? B a)))
        where
          go : Dec ((a : ℕ) × (a < N) × ((c : ℕ) × (c < N) × Out B a c)) → Joined ⊎ ((c : ℕ) × (c < N) × (T (B c) → ⊥) × Reached (put B c true))
          go (no x) = absurd (leads-out B r (λ a c la lc o. x (a, la, (c, lc, o))))
          go (yes x) = two x.0 x.1 x.2.0 x.2.1 x.2.2
            where
              two : (a : ℕ) → a < N → (c : ℕ) → c < N → Out B a c → Joined ⊎ ((c : ℕ) × (c < N) × (T (B c) → ⊥) × Reached (put B c true))
              two a la c lc o = three (find N (λ h. m h ≡ c) (λ h. ℕ_discrete (m h) c))
                where
                  from : (a ≡ i) ⊎ T (B (m a))
                  from = asking-is B a o.0

                  three : Dec ((h : ℕ) × (h < N) × (m h ≡ c)) → Joined ⊎ ((c : ℕ) × (c < N) × (T (B c) → ⊥) × Reached (put B c true))
                  three (no y) = inl (take-free B a (r.freed a la from) c lc o.1 (λ h lh e. y (h, lh, e)))
                  three (yes y) = inr (c, lc, o.2, reached-more B r c y.0 lc y.1 y.2 (take-held B a (r.freed a la from) c lc o.1 from o.2 y.0 y.1 y.2))

      grow : (u : ℕ) (B : ℕ → Bool) → N ≤ count N B + u → Reached B → Joined
      grow zero B fuel r = go (step B r)
        where
          go : Joined ⊎ ((c : ℕ) × (c < N) × (T (B c) → ⊥) × Reached (put B c true)) → Joined
          go (inl j) = j
          go (inr x) = absurd (omega (arith, count-put N B x.0 x.1 x.2, count-le N (put B x.0 true)))
      grow (suc u) B fuel r = go (step B r) (λ c f s. grow u (put B c true) f s)
        where
          go : Joined ⊎ ((c : ℕ) × (c < N) × (T (B c) → ⊥) × Reached (put B c true)) → ((c : ℕ) → N ≤ count N (put B c true) + u → Reached (put B c true) → Joined) → Joined
          go (inl j) deeper = j
          go (inr x) deeper = deeper x.0 (omega (arith, count-put N B x.0 x.1 x.2)) x.3

-- ---- one input after the other

module _ (N t : ℕ) (M : ℕ → ℕ → ℕ) (pos : 0 < t) (rows : (i : ℕ) → i < N → row N M i ≡ t) (cols : (j : ℕ) → j < N → col N M j ≡ t) where
  join : (k : ℕ) → k ≤ N → (m : ℕ → ℕ) × Match N M m × ((i : ℕ) → i < k → m i < N)
  join zero h = ((λ _. N), record { setting = record { once = λ i k _ _ l _. absurd (omega arith) }; used = λ i _ l. absurd (omega arith) }, λ i l. absurd (omega arith))
  join (suc k) h = go (join k (omega arith))
    where
      go : (m : ℕ → ℕ) × Match N M m × ((i : ℕ) → i < k → m i < N) → (m : ℕ → ℕ) × Match N M m × ((i : ℕ) → i < suc k → m i < N)
      go r = two (dec_lt (r.0 k) N)
        where
          upto : (m : ℕ → ℕ) → ((i : ℕ) → i < k → m i < N) → m k < N → (i : ℕ) → i < suc k → m i < N
          upto m g p i l = at (ℕ_discrete i k)
            where
              at : Dec (i ≡ k) → m i < N
              at (yes e) = rw e p
              at (no e) = g i (omega arith)

          two : Dec (r.0 k < N) → (m : ℕ → ℕ) × Match N M m × ((i : ℕ) → i < suc k → m i < N)
          two (yes p) = (r.0, r.1, upto r.0 r.2 p)
          two (no p) = (j.next, j.match, upto j.next (λ i l. j.joined i (omega arith) (inr (r.2 i l))) (j.joined k h (inl refl)))
            where
              idle : N ≤ r.0 k
              idle = omega arith

              j : Joined N M r.0 r.1 k h idle
              j = grow N M r.0 r.1 k h idle t pos rows cols N (λ _. false) (omega arith) (reached-none N M r.0 r.1 k h idle)

  -- a matrix whose lines all sum to t, t above 0, has a full setting over cells that are not 0
  pub fits-exists : (o : ℕ → ℕ) × Fits N (NonZero M) o
  fits-exists =
      let r : (m : ℕ → ℕ) × Match N M m × ((i : ℕ) → i < N → m i < N) = join N (omega arith) in (
        r.0,
        record {
          full = record { inside = r.2; once = λ i k li lk e. r.1.setting.once i k li lk (r.2 i li) e };
          used = λ i l. r.1.used i l (r.2 i l);
        },
      )
