-- Trying the outputs of each input in order, the first that can be completed is the lowest any fitting setting has there, input by input.
use mathlib.Core.Path.{◌≡◌, refl, sym, ap, ◌∙◌, subst, fun_ext}
use mathlib.Core.Logic.{◌≢◌}
use mathlib.Core.Bool.{Bool, true, false, cond, ◌&&◌, not}
use mathlib.Core.Option.{Option, none, some}
use Prim.Native.Nat.{ℕ, zero, suc, ◌+◌, ◌≤◌, ◌<◌}
use native.Mathlib.Decide.{ℕ_discrete, dec_lt}
use native.Mathlib.Omega.{arith}
use lib.Dec.{eqb, ltb}
use borrow.Author.Tests.{lt-ltb, le-ltb, eq-eqb, ne_eqb}
use Rattle.rules.specs.First.{NonZero, Fits, Agree, First}
use Rattle.rules.specs.Search.{put, pick, free, complete, first_setting}
use Rattle.rules.proofs.First.{first_of, first-unique}
use Rattle.rules.proofs.Ports.{put_same, put_other, find}

free-yes : (i : ℕ) (o : ℕ → ℕ) (j : ℕ) → ((a : ℕ) → a < i → o a ≢ j) → free i o j ≡ true
unfolding free
free-yes zero o j h = refl
free-yes (suc i) o j h = rw (free-yes i o j (λ a l. h a (omega arith)), ne_eqb (o i) j (h i (omega arith)))

and-false : (b : Bool) → (b && false) ≡ false
and-false true = refl
and-false false = refl

free-no : (i : ℕ) (o : ℕ → ℕ) (j a : ℕ) → a < i → o a ≡ j → free i o j ≡ false
unfolding free
free-no zero o j a l e = absurd (omega arith)
free-no (suc i) o j a l e = go (ℕ_discrete a i) (λ h. free-no i o j a h e)
  where
    go : Dec (a ≡ i) → (a < i → free i o j ≡ false) → (free i o j && not (eqb (o i) j)) ≡ false
    go (yes x) r = rw (eq-eqb (o i) j (ap o (sym x) ∙ e)) (and-false (free i o j))
    go (no x) r = rw (r (omega arith))

-- agreeing up to i, and j at i
agree-put : (i : ℕ) (o q : ℕ → ℕ) (j : ℕ) → Agree i q o → q i ≡ j → Agree (suc i) q (put o i j)
agree-put i o q j a e b l = go (ℕ_discrete b i)
  where
    go : Dec (b ≡ i) → q b ≡ put o i j b
    go (yes x) = rw (x, put_same o i j) e
    go (no x) = a b (omega arith) ∙ sym (put_other o i j b x)

module _ (N : ℕ) (M : ℕ → ℕ → ℕ) where
  -- o fits so far as the inputs below i go, and is idle from there on
  record Part (i : ℕ) (o : ℕ → ℕ) : Type 0 where
    inside : (a : ℕ) → a < i → o a < N
    once : (a b : ℕ) → a < i → b < i → o a ≡ o b → a ≡ b
    used : (a : ℕ) → a < i → 0 < M a (o a)
    rest : (a : ℕ) → i ≤ a → o a ≡ 255

  put-part : (i : ℕ) (o : ℕ → ℕ) (j : ℕ) → Part i o → j < N → 0 < M i j → ((a : ℕ) → a < i → o a ≢ j) → Part (suc i) (put o i j)
  put-part i o j s lj p new = record { inside = inside; once = once; used = used; rest = rest }
    where
      inside : (a : ℕ) → a < suc i → put o i j a < N
      inside a l = go (ℕ_discrete a i)
        where
          go : Dec (a ≡ i) → put o i j a < N
          go (yes e) = rw (e, put_same o i j) lj
          go (no e) = rw (put_other o i j a e) (s.inside a (omega arith))

      once : (a b : ℕ) → a < suc i → b < suc i → put o i j a ≡ put o i j b → a ≡ b
      once a b la lb e = go (ℕ_discrete a i) (ℕ_discrete b i)
        where
          go : Dec (a ≡ i) → Dec (b ≡ i) → a ≡ b
          go (yes x) (yes y) = x ∙ sym y
          go (yes x) (no y) = absurd (new b (omega arith) (sym (put_other o i j b y) ∙ sym e ∙ ap (put o i j) x ∙ put_same o i j))
          go (no x) (yes y) = absurd (new a (omega arith) (sym (put_other o i j a x) ∙ e ∙ ap (put o i j) y ∙ put_same o i j))
          go (no x) (no y) = s.once a b (omega arith) (omega arith) (sym (put_other o i j a x) ∙ e ∙ put_other o i j b y)

      used : (a : ℕ) → a < suc i → 0 < M a (put o i j a)
      used a l = go (ℕ_discrete a i)
        where
          go : Dec (a ≡ i) → 0 < M a (put o i j a)
          go (yes e) = rw (e, put_same o i j) p
          go (no e) = rw (put_other o i j a e) (s.used a (omega arith))

      rest : (a : ℕ) → suc i ≤ a → put o i j a ≡ 255
      rest a l = put_other o i j a (omega arith) ∙ s.rest a (omega arith)

  -- p is the first of the settings that fit and agree with o below i
  record Good (i : ℕ) (o p : ℕ → ℕ) : Type 0 where
    part : Part N p
    agree : Agree i p o
    first : (q : ℕ → ℕ) → Fits N (NonZero M) q → Agree i q o → (c : ℕ) → c < N → Agree c q p → p c ≤ q c

  -- it is found, or there is none
  data Result (i : ℕ) (o : ℕ → ℕ) : Option (ℕ → ℕ) → Type 0 where
    found : (p : ℕ → ℕ) → Good i o p → Result i o (some p)
    lost : ((q : ℕ → ℕ) → Fits N (NonZero M) q → Agree i q o → ⊥) → Result i o none

  -- the first that can be completed of the r outputs from j on, where no setting has a lower one
  picked : (i : ℕ) (o : ℕ → ℕ) (f : ℕ → Option (ℕ → ℕ)) → i < N → ((j : ℕ) → j < N → Result (suc i) (put o i j) (f j)) → (r j : ℕ) → r + j ≡ N
      → ((q : ℕ → ℕ) → Fits N (NonZero M) q → Agree i q o → j ≤ q i) → Result i o (pick r j f)
  unfolding pick
  picked i o f li at zero j e low = lost (λ q g a. omega (arith, low q g a, g.full.inside i li))
  picked i o f li at (suc r) j e low = go (f j) (at j (omega arith)) (λ h. picked i o f li at r (suc j) (omega arith) h)
    where
      go : (x : Option (ℕ → ℕ)) → Result (suc i) (put o i j) x
          → (((q : ℕ → ℕ) → Fits N (NonZero M) q → Agree i q o → suc j ≤ q i) → Result i o (pick r (suc j) f))
          → Result i o (elim x [ none ↦ pick r (suc j) f | some p ↦ some p ])
      go x (lost none_has) later = later up
        where
          up : (q : ℕ → ℕ) → Fits N (NonZero M) q → Agree i q o → suc j ≤ q i
          up q g a = at_j (ℕ_discrete (q i) j)
            where
              at_j : Dec (q i ≡ j) → suc j ≤ q i
              at_j (yes x) = absurd (none_has q g (agree-put i o q j a x))
              at_j (no x) = omega (arith, low q g a)
      go x (found p s) later = found p (record { part = s.part; agree = agree; first = first })
        where
          pj : p i ≡ j
          pj = s.agree i (omega arith) ∙ put_same o i j

          agree : Agree i p o
          agree a l = s.agree a (omega arith) ∙ put_other o i j a (omega arith)

          first : (q : ℕ → ℕ) → Fits N (NonZero M) q → Agree i q o → (c : ℕ) → c < N → Agree c q p → p c ≤ q c
          first q g b c lc d = at_j (ℕ_discrete (q i) j) (dec_lt c i) (ℕ_discrete c i)
            where
              at_j : Dec (q i ≡ j) → Dec (c < i) → Dec (c ≡ i) → p c ≤ q c
              at_j (yes x) z w = s.first q g (agree-put i o q j b x) c lc d
              at_j (no y) (yes z) w = omega (arith, agree c z, b c z)
              at_j (no y) (no z) (yes w) = rw w (omega (arith, pj, low q g b))
              at_j (no y) (no z) (no w) = absurd (y (d i (omega arith) ∙ pj))

  completed : (k i : ℕ) (o : ℕ → ℕ) → i + k ≡ N → Part i o → Result i o (complete N M k i o)
  unfolding complete
  completed zero i o e s = found o (record {
    part = subst (λ (n : ℕ). Part n o) (omega arith) s;
    agree = λ a l. refl;
    first = λ q g b c lc d. omega (arith, b c (omega arith));
  })
  completed (suc k) i o e s =
      picked i o _ (omega arith) (λ j lj. branch j lj (dec_lt 0 (M i j)) (find i (λ a. o a ≡ j) (λ a. ℕ_discrete (o a) j)) (λ p. completed k (suc i) (put o i j) (omega arith) p))
      N 0 (omega arith) (λ q g a. omega arith)
    where
      branch : (j : ℕ) → j < N → Dec (0 < M i j) → Dec ((a : ℕ) × (a < i) × (o a ≡ j))
          → (Part (suc i) (put o i j) → Result (suc i) (put o i j) (complete N M k (suc i) (put o i j)))
          → Result (suc i) (put o i j) (cond (ltb 0 (M i j) && free i o j) (complete N M k (suc i) (put o i j)) none)
      branch j lj (no p) d deeper = rw (le-ltb 0 (M i j) (omega arith)) (lost (λ q g a. p (zero-cell q g a)))
        where
          zero-cell : (q : ℕ → ℕ) → Fits N (NonZero M) q → Agree (suc i) q (put o i j) → 0 < M i j
          zero-cell q g a = subst (λ (z : ℕ). 0 < M i z) (a i (omega arith) ∙ put_same o i j) (g.used i (omega arith))
      branch j lj (yes p) (yes t) deeper = rw (lt-ltb 0 (M i j) p, free-no i o j t.0 t.1 t.2) (lost taken)
        where
          taken : (q : ℕ → ℕ) → Fits N (NonZero M) q → Agree (suc i) q (put o i j) → ⊥
          taken q g a = omega (arith, t.1, g.full.once t.0 i (omega (arith, t.1)) (omega arith) (a t.0 (omega (arith, t.1)) ∙ put_other o i j t.0 (omega (arith, t.1)) ∙ t.2 ∙ sym (a i (omega arith) ∙ put_same o i j)))
      branch j lj (yes p) (no t) deeper =
          let new : (a : ℕ) → a < i → o a ≢ j = λ a l x. t (a, l, x) in
          rw (lt-ltb 0 (M i j) p, free-yes i o j new) (deeper (put-part i o j s lj p new))

  start : Result 0 (λ _. 255) (first_setting N M)
  unfolding first_setting
  start = completed N 0 (λ _. 255) (omega arith)
      (record { inside = λ a l. absurd (omega arith); once = λ a b l. absurd (omega arith); used = λ a l. absurd (omega arith); rest = λ a l. refl })

  good_of : {i : ℕ} {o p : ℕ → ℕ} → Result i o (some p) → Good i o p
  good_of (found p g) = g

  lost-of : {i : ℕ} {o : ℕ → ℕ} → Result i o none → (q : ℕ → ℕ) → Fits N (NonZero M) q → Agree i q o → ⊥
  lost-of (lost h) = h

  -- what first_setting finds is first, and idle past N
  pub first_found : (p : ℕ → ℕ) → first_setting N M ≡ some p → First N (NonZero M) p × ((a : ℕ) → N ≤ a → p a ≡ 255)
  first_found p e =
      let g : Good 0 (λ _. 255) p = good_of (subst (Result 0 (λ _. 255)) e start) in (
        first_of N (NonZero M) p (record { full = record { inside = g.part.inside; once = g.part.once }; used = g.part.used })
            (λ q f k l a. g.first q f (λ b z. absurd (omega arith)) k l a),
        g.part.rest,
      )

  -- where it finds nothing, nothing fits
  pub first-lost : first_setting N M ≡ none → (q : ℕ → ℕ) → Fits N (NonZero M) q → ⊥
  first-lost e q g = lost-of (subst (Result 0 (λ _. 255)) e start) q g (λ b z. absurd (omega arith))

  -- where something fits, it finds one
  pub first_some : (q : ℕ → ℕ) → Fits N (NonZero M) q → (p : ℕ → ℕ) × (first_setting N M ≡ some p)
  first_some q g = go (first_setting N M) refl
    where
      go : (x : Option (ℕ → ℕ)) → first_setting N M ≡ x → (p : ℕ → ℕ) × (first_setting N M ≡ some p)
      go none e = absurd (first-lost e q g)
      go (some p) e = (p, e)

  -- a setting shown to be first is the one that first_setting finds
  pub first-is : (o : ℕ → ℕ) → First N (NonZero M) o → ((a : ℕ) → N ≤ a → o a ≡ 255) → first_setting N M ≡ some o
  first-is o f idle =
      let r : (p : ℕ → ℕ) × (first_setting N M ≡ some p) = first_some o f.fits in
      let g = first_found r.0 r.1 in
      r.1 ∙ ap some (fun_ext (λ i. go r.0 g.0 g.1 i (dec_lt i N)))
    where
      go : (p : ℕ → ℕ) → First N (NonZero M) p → ((a : ℕ) → N ≤ a → p a ≡ 255) → (i : ℕ) → Dec (i < N) → p i ≡ o i
      go p g z i (yes l) = first-unique N (NonZero M) p o g f N (omega arith) i l
      go p g z i (no l) = z i (omega arith) ∙ sym (idle i (omega arith))
