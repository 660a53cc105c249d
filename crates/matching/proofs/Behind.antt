-- Where the inputs below i have the same outputs among them as in the setting of before, and the others may still have theirs, those of before are the best: a setting with a lower one would have come before it.
use mathlib.Core.Path.{◌≡◌, refl, sym, subst, ◌∙◌}
use mathlib.Core.Bool.{true}
use mathlib.Core.Logic.{◌⊎◌, inl, inr, ⊎_elim}
use mathlib.Core.List.{List}
use Prim.Native.Nat.{ℕ, zero, suc, ◌+◌, ◌<◌, ◌≤◌}
use native.Mathlib.Decide.{ℕ_discrete, dec_lt}
use native.Mathlib.Omega.{arith}
use lib.ListN.{length, set, length-set}
use lib.Seq.{get_or-set_same, get_or-set_other}
use Rattle.sets.specs.Label.{In, Sub}
use Rattle.switch.specs.Plan.{Full}
use Rattle.rules.specs.First.{Fits, Agree}
use Rattle.search.specs.Tables.{Held, joined, Matching}
use Rattle.search.proofs.Tables.{one-holder}
use Rattle.matching.specs.Chosen.{Fixed, Best, Settled, SettledAll, Former, Behind, Restored}
use Rattle.matching.proofs.Closed.{none-missed}
use Rattle.matching.proofs.Completing.{told}

-- ---- a full setting serves every output

seek : (n : ℕ) (o : ℕ → ℕ) (j : ℕ) → ((m : ℕ) × (m < n) × (o m ≡ j)) ⊎ ((m : ℕ) → m < n → o m ≡ j → ⊥)
seek zero o j = inr (λ m l. absurd (omega arith))
seek (suc n) o j = go (ℕ_discrete (o n) j) (seek n o j)
  where
    go : Dec (o n ≡ j) → ((m : ℕ) × (m < n) × (o m ≡ j)) ⊎ ((m : ℕ) → m < n → o m ≡ j → ⊥) → ((m : ℕ) × (m < suc n) × (o m ≡ j)) ⊎ ((m : ℕ) → m < suc n → o m ≡ j → ⊥)
    go (yes e) r = inl (n, omega arith, e)
    go (no f) (inl x) = let l = x.1 in inl (x.0, omega arith, x.2)
    go (no f) (inr g) = inr (λ m l e. last m l e (ℕ_discrete m n))
      where
        last : (m : ℕ) → m < suc n → o m ≡ j → Dec (m ≡ n) → ⊥
        last m l e (yes q) = f (subst (λ (k : ℕ). o k ≡ j) q e)
        last m l e (no q) = g m (omega arith) e

onto : (n : ℕ) (o : ℕ → ℕ) → Full n o → (j : ℕ) → j < n → (m : ℕ) × (m < n) × (o m ≡ j)
onto n o f j l = ⊎_elim (λ x. x) (λ g. absurd (none-missed n (λ _. true) o (λ k q _. (f.inside k q, tt)) (λ a b p q _ _ e. f.once a b p q e) j l tt (λ k q _ e. g k q e))) (seek n o j)

-- ---- the outputs of before are taken again, one input after the other

module _ (before by out : List ℕ) (from : ℕ) where
  pub restored-start : Restored before by out from by out from
  restored-start = record {
    holders = refl;
    outputs = refl;
    told = λ m a b. absurd (omega arith);
    kept = λ m _. refl;
    taken = λ m a b. absurd (omega arith);
    left = λ j _. refl;
  }

  pub restored-more : (n : ℕ) → Full n (joined before) → (k : ℕ) → from ≤ k → k < n → (by' out' by'' out'' : List ℕ) → joined before k < length by' → k < length out' → Restored before by out from by' out' k
      → by'' ≡ set by' (joined before k) (k + 1) → out'' ≡ set out' k (joined before k) → Restored before by out from by'' out'' (k + 1)
  restored-more n f k lk ln by' out' by'' out'' hb ho r eb eo = rw (eb, eo) (record {
    holders = length-set by' _ _ ∙ r.holders;
    outputs = length-set out' _ _ ∙ r.outputs;
    told = λ m a b. told' m a b (ℕ_discrete m k);
    kept = λ m s. get_or-set_other out' k m (joined before k) 255 (λ e. ⊎_elim (λ l. omega arith) (λ l. omega arith) s) ∙ r.kept m (⊎_elim (λ l. inl l) (λ l. inr (omega arith)) s);
    taken = λ m a b. taken' m a b (ℕ_discrete m k);
    left = λ j g. get_or-set_other by' (joined before k) j (k + 1) 0 (λ e. g k lk (omega arith) (sym e)) ∙ r.left j (λ m a b. g m a (omega arith));
  })
    where
      told' : (m : ℕ) → from ≤ m → m < k + 1 → Dec (m ≡ k) → joined (set out' k (joined before k)) m ≡ joined before m
      told' m a b (yes e) = rw e (get_or-set_same out' k (joined before k) 255 ho)
      told' m a b (no e) = get_or-set_other out' k m (joined before k) 255 e ∙ r.told m a (omega arith)

      taken' : (m : ℕ) → from ≤ m → m < k + 1 → Dec (m ≡ k) → Held (set by' (joined before k) (k + 1)) (joined before m) m
      taken' m a b (yes e) = rw e (get_or-set_same by' (joined before k) (k + 1) 0 hb)
      taken' m a b (no e) = get_or-set_other by' (joined before k) (joined before m) (k + 1) 0 (λ q. e (f.once m k (omega arith) ln q)) ∙ r.taken m a (omega arith)

-- ---- all are settled then

module _ (w n : ℕ) (E : ℕ → ℕ → Type 0) (before by out : List ℕ) (last fixed was i : ℕ) (here : i < n) (past : last ≤ i) (b : Behind w n E before last)
    (s : Settled w n E by out fixed i) (f : Fixed before i was) (sub : Sub fixed was) (sup : Sub was fixed) (by' out' : List ℕ) (r : Restored before by out i by' out' n) where
  former : Former n E before
  former = b.former i past here

  low : (m : ℕ) → m < i → joined out' m ≡ joined out m
  low m l = r.kept m (inl l)

  high : (m : ℕ) → i ≤ m → m < n → joined out' m ≡ joined before m
  high = r.told

  held : (m : ℕ) → m < n → Held by (joined out m) m
  held m l = told w n E by out m s.good (s.all m l)

  -- who is behind i had no output that is fixed
  apart : (k m : ℕ) → i ≤ k → k < n → m < i → joined before k ≡ joined out m → ⊥
  apart k m a q l e =
      let x = f.from (joined out m) (sub (joined out m) (s.prefix.got m l)) in
      let z = former.full.once x.0 k (let y = x.1 in omega arith) q (x.2 ∙ sym e) in
      let y = x.1 in
      omega arith

  held' : (m : ℕ) → m < n → Held by' (joined out' m) m
  held' m l = go (dec_lt m i)
    where
      go : Dec (m < i) → Held by' (joined out' m) m
      go (yes h) = rw (low m h) (r.left (joined out m) (λ k a q e. apart k m a q h e) ∙ held m l)
      go (no h) = rw (high m (omega arith) l) (r.taken m (omega arith) l)

  used' : (m : ℕ) → m < n → E m (joined out' m)
  used' m l = go (dec_lt m i)
    where
      go : Dec (m < i) → E m (joined out' m)
      go (yes h) = rw (low m h) (s.good.edge (joined out m) m (held m l))
      go (no h) = rw (high m (omega arith) l) (b.used m (omega arith) l)

  -- whoever holds an output now is one of the n, and has it by input
  holder : (j m : ℕ) → Held by' j m → (m < n) × (joined out' m ≡ j)
  holder j m h = ⊎_elim (λ x. had x.0 x.1 x.2 (dec_lt x.0 i)) (λ g. never g) (seek n (joined before) j)
    where
      same : (p : ℕ) → p < n → joined out' p ≡ j → (m < n) × (joined out' m ≡ j)
      same p l e =
          let q : m ≡ p = one-holder by' j m p h (subst (λ (k : ℕ). Held by' k p) e (held' p l)) in
          rw q (l, e)

      had : (p : ℕ) → p < n → joined before p ≡ j → Dec (p < i) → (m < n) × (joined out' m ≡ j)
      had p l e (no q) = same p l (high p (omega arith) l ∙ e)
      had p l e (yes q) =
          let x = s.prefix.from j (sup j (subst (In was) e (f.got p q))) in
          let y = x.1 in
          same x.0 (omega arith) (low x.0 x.1 ∙ x.2)

      never : ((p : ℕ) → p < n → joined before p ≡ j → ⊥) → (m < n) × (joined out' m ≡ j)
      never g =
          let q : Held by j m = sym (r.left j (λ p a l e. g p l e)) ∙ h in
          let l = s.good.port j m q in
          let x = onto n (joined before) former.full j (b.inside m j l (s.good.edge j m q)) in
          absurd (g x.0 x.1 x.2)

  good' : Matching w n E by' out'
  good' = record {
    holders = r.holders ∙ s.good.holders;
    outputs = r.outputs ∙ s.good.outputs;
    port = λ j m h. (holder j m h).0;
    edge = λ j m h. let x = holder j m h in subst (E m) x.1 (used' m x.0);
    paired = λ j m h. (holder j m h).1;
  }

  -- a setting o that agrees with what is fixed, with the outputs of before below i in place of its own
  module _ (o : ℕ → ℕ) (fits : Fits n E o) (agree : Agree i o (joined out)) where
    choose : (k : ℕ) → Dec (k < i) → ℕ
    choose k (yes l) = joined before k
    choose k (no l) = o k

    mixed : ℕ → ℕ
    mixed k = choose k (dec_lt k i)

    mixed-low : (k : ℕ) → k < i → mixed k ≡ joined before k
    unfolding mixed choose
    mixed-low k l = go (dec_lt k i)
      where
        go : (d : Dec (k < i)) → choose k d ≡ joined before k
        go (yes q) = refl
        go (no q) = absurd (q l)

    mixed-high : (k : ℕ) → i ≤ k → mixed k ≡ o k
    unfolding mixed choose
    mixed-high k l = go (dec_lt k i)
      where
        go : (d : Dec (k < i)) → choose k d ≡ o k
        go (yes q) = absurd (omega arith)
        go (no q) = refl

    -- o has an output of before only behind i
    crossed : (a c : ℕ) → a < i → i ≤ c → c < n → joined before a ≡ o c → ⊥
    crossed a c la lc ln e =
        let x = s.prefix.from (joined before a) (sup (joined before a) (f.got a la)) in
        let y = x.1 in
        let z = fits.full.once x.0 c (omega arith) ln (agree x.0 x.1 ∙ x.2 ∙ e) in
        omega arith

    mixed-full : Full n mixed
    mixed-full = record { inside = λ k l. inside k l (dec_lt k i); once = λ a c la lc e. once a c la lc e (dec_lt a i) (dec_lt c i) }
      where
        inside : (k : ℕ) → k < n → Dec (k < i) → mixed k < n
        inside k l (yes q) = rw (mixed-low k q) (former.full.inside k l)
        inside k l (no q) = rw (mixed-high k (omega arith)) (fits.full.inside k l)

        once : (a c : ℕ) → a < n → c < n → mixed a ≡ mixed c → Dec (a < i) → Dec (c < i) → a ≡ c
        once a c la lc e (yes p) (yes q) = former.full.once a c la lc (sym (mixed-low a p) ∙ e ∙ mixed-low c q)
        once a c la lc e (no p) (no q) = fits.full.once a c la lc (sym (mixed-high a (omega arith)) ∙ e ∙ mixed-high c (omega arith))
        once a c la lc e (yes p) (no q) = absurd (crossed a c p (omega arith) lc (sym (mixed-low a p) ∙ e ∙ mixed-high c (omega arith)))
        once a c la lc e (no p) (yes q) = absurd (crossed c a q (omega arith) la (sym (mixed-low c q) ∙ sym e ∙ mixed-high a (omega arith)))

    mixed-used : (k : ℕ) → k < n → E k (mixed k) ⊎ (mixed k ≡ joined before k)
    mixed-used k l = go (dec_lt k i)
      where
        go : Dec (k < i) → E k (mixed k) ⊎ (mixed k ≡ joined before k)
        go (yes q) = inr (mixed-low k q)
        go (no q) = inl (subst (E k) (sym (mixed-high k (omega arith))) (fits.used k l))

    best-behind : (m : ℕ) → i ≤ m → m < n → ((k : ℕ) → i ≤ k → k < m → o k ≡ joined before k) → joined before m ≤ o m
    best-behind m l q a = subst (λ (x : ℕ). joined before m ≤ x) (mixed-high m l) (former.best mixed mixed-full mixed-used m q (λ k h. go k h (dec_lt k i)))
      where
        go : (k : ℕ) → k < m → Dec (k < i) → mixed k ≡ joined before k
        go k h (yes z) = mixed-low k z
        go k h (no z) = mixed-high k (omega arith) ∙ a k (omega arith) h

  best' : (m : ℕ) → m < n → Best n E out' m
  best' m l o fits a = go (dec_lt m i)
    where
      go : Dec (m < i) → joined out' m ≤ o m
      go (yes q) = rw (low m q) (s.best m q o fits (λ k h. a k h ∙ low k (omega arith)))
      go (no q) = rw (high m (omega arith) l) (best-behind o fits (λ k h. a k (omega arith) ∙ low k h) m (omega arith) l (λ k g h. a k h ∙ high k g (omega arith)))

  pub behind-settles : (out₀ : List ℕ) → ((m : ℕ) → n ≤ m → joined out m ≡ joined out₀ m) → SettledAll w n E out₀ by' out'
  behind-settles out₀ beyond = record { good = good'; all = λ m l. (joined out' m, held' m l); best = best'; beyond = λ m l. r.kept m (inr l) ∙ beyond m l }
