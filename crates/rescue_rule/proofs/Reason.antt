-- The reason is the first test that fails: none exactly where the record is well formed, and what each says, both ways.
use mathlib.Core.Path.{◌≡◌, refl, sym, ◌∙◌, subst}
use mathlib.Core.Bool.{Bool, true, false, true≢false, cond, ◌&&◌, ◌||◌, or-true}
use mathlib.Core.Logic.{⊎_elim, dite, inl, inr}
use mathlib.Core.List.{List}
use Prim.Native.Nat.{ℕ, zero, suc, ◌+◌, ◌<◌, ◌≤◌}
use native.Mathlib.Nat.{not-suc-le-zero, le_of_suc-le-suc, eq-or-lt_of_le}
use native.Mathlib.Decide.{ℕ_discrete, dec_lt}
use native.Mathlib.Omega.{arith}
use lib.ListN.{length, get_or}
use lib.Dec.{ltb, eqb}
use borrow.Author.Tests.{lt-ltb, le-ltb, eq-eqb, ne_eqb, eqb-true}
use Rattle.records.specs.Record.{all, any, hold, outputs, inside, new, later, outputs_fine, well_formed}
use Rattle.records.proofs.Every.{all-intro, all-at, all-fails, any_none}
use Rattle.records.proofs.Fine.{inside-below, inside-idle, inside-fails, new-idle, new-first, new-fails, later-early, later-holds, later-fails, earlier}
use Rattle.records.proofs.Meaning.{means, meant}
use Rattle.rescue_rule.proofs.Those.{test}
use Rattle.rescue_rule.specs.Reason.{outputs_reason, reason_of, output_at, Headed, Ranged, Once, Because, none, no-hold, bad-ports, bad-spare, out_of_range, twice, past}

-- ---- each test decides

-- six tests in a row
tests : (a b c d f g : Bool) → (a && b && c && (d && f && g)) ≡ eqb (cond a (cond b (cond c (cond d (cond f (cond g 0 6) 5) 4) 3) 2) 1) 0
tests false b c d f g = refl
tests true false c d f g = refl
tests true true false d f g = refl
tests true true true false f g = refl
tests true true true true false g = refl
tests true true true true true false = refl
tests true true true true true true = refl

-- what the outputs say by themselves
module _ (W N : ℕ) (o : List ℕ) where
  pub outputs-range : all N (inside N o) ≡ false → outputs_reason W N o ≡ 4
  unfolding outputs_reason
  outputs-range q = rw q

  module _ (r : all N (inside N o) ≡ true) where
    pub outputs-twice : all N (new o) ≡ false → outputs_reason W N o ≡ 5
    unfolding outputs_reason
    outputs-twice q = rw (r, q)

    module _ (s : all N (new o) ≡ true) where
      pub outputs-past : all W (later N o) ≡ false → outputs_reason W N o ≡ 6
      unfolding outputs_reason
      outputs-past q = rw (r, s, q)

      outputs-well : all W (later N o) ≡ true → outputs_reason W N o ≡ 0
      unfolding outputs_reason
      outputs-well q = rw (r, s, q)

module _ (W e N : ℕ) (b : List ℕ) where
  -- no reason exactly where the record is well formed
  pub reason-fine : well_formed W e N b ≡ eqb (reason_of W e N b) 0
  unfolding reason_of outputs_reason well_formed outputs_fine
  reason-fine = tests (ltb 0 (hold b)) (eqb (get_or b 2 0) N) (eqb (get_or b 3 0) e) (all N (inside N (outputs b))) (all N (new (outputs b))) (all W (later N (outputs b)))

  pub reason-none : well_formed W e N b ≡ true → reason_of W e N b ≡ 0
  reason-none w = eqb-true _ _ (sym reason-fine ∙ w)

  pub none-fine : reason_of W e N b ≡ 0 → well_formed W e N b ≡ true
  none-fine z = reason-fine ∙ eq-eqb _ _ z

  pub some-bad : (reason_of W e N b ≡ 0 → ⊥) → well_formed W e N b ≡ false
  some-bad s = reason-fine ∙ ne_eqb _ _ s

  pub reason-hold : hold b ≡ 0 → reason_of W e N b ≡ 1
  unfolding reason_of
  reason-hold q = rw (le-ltb 0 (hold b) (omega arith))

  pub reason-ports : 0 < hold b → (get_or b 2 0 ≡ N → ⊥) → reason_of W e N b ≡ 2
  unfolding reason_of
  reason-ports h q = rw (lt-ltb 0 (hold b) h, ne_eqb _ _ q)

  pub reason-spare : 0 < hold b → get_or b 2 0 ≡ N → (get_or b 3 0 ≡ e → ⊥) → reason_of W e N b ≡ 3
  unfolding reason_of
  reason-spare h p q = rw (lt-ltb 0 (hold b) h, eq-eqb _ _ p, ne_eqb _ _ q)

  module _ (h : Headed e N b) where
    -- the outputs decide
    pub reason-outputs : reason_of W e N b ≡ outputs_reason W N (outputs b)
    unfolding reason_of
    reason-outputs = rw (lt-ltb 0 (hold b) h.held, eq-eqb _ _ h.ports, eq-eqb _ _ h.edition)

    reason-range : all N (inside N (outputs b)) ≡ false → reason_of W e N b ≡ 4
    reason-range q = reason-outputs ∙ outputs-range W N (outputs b) q

    module _ (r : all N (inside N (outputs b)) ≡ true) where
      reason-twice : all N (new (outputs b)) ≡ false → reason_of W e N b ≡ 5
      reason-twice q = reason-outputs ∙ outputs-twice W N (outputs b) r q

      module _ (o : all N (new (outputs b)) ≡ true) where
        reason-past : all W (later N (outputs b)) ≡ false → reason_of W e N b ≡ 6
        reason-past q = reason-outputs ∙ outputs-past W N (outputs b) r o q

        reason-well : all W (later N (outputs b)) ≡ true → reason_of W e N b ≡ 0
        reason-well q = reason-outputs ∙ outputs-well W N (outputs b) r o q

-- ---- what each reason says

-- where not all hold, one does not
all-false : (n : ℕ) (p : ℕ → Bool) → all n p ≡ false → (k : ℕ) × (k < n) × (p k ≡ false)
unfolding all
all-false zero p e = absurd (true≢false e)
all-false (suc n) p e = go (all-false n p) (p n) refl e
  where
    further : (k : ℕ) × (k < n) × (p k ≡ false) → (k : ℕ) × (k < suc n) × (p k ≡ false)
    further w = (w.0, omega (arith, w.1), w.2)

    left : (a : Bool) → (a && true) ≡ false → a ≡ false
    left true q = q
    left false q = refl

    go : (all n p ≡ false → (k : ℕ) × (k < n) × (p k ≡ false)) → (c : Bool) → p n ≡ c → (all n p && c) ≡ false → (k : ℕ) × (k < suc n) × (p k ≡ false)
    go before false q f = (n, omega arith, q)
    go before true q f = further (before (left (all n p) f))

-- where one holds, some does
any-has : (n : ℕ) (p : ℕ → Bool) (k : ℕ) → k < n → p k ≡ true → any n p ≡ true
unfolding any
any-has zero p k l e = absurd (not-suc-le-zero l)
any-has (suc n) p k l e =
    ⊎_elim (λ (s : k ≡ n). rw (← s, e, or-true)) (λ lt. rw (any-has n p k lt e)) (eq-or-lt_of_le (le_of_suc-le-suc l))

any_some : (n : ℕ) (p : ℕ → Bool) → any n p ≡ true → (k : ℕ) × (k < n) × (p k ≡ true)
unfolding any
any_some zero p e = absurd (true≢false (sym e))
any_some (suc n) p e = go (any_some n p) (p n) refl e
  where
    further : (k : ℕ) × (k < n) × (p k ≡ true) → (k : ℕ) × (k < suc n) × (p k ≡ true)
    further w = (w.0, omega (arith, w.1), w.2)

    left : (a : Bool) → (a || false) ≡ true → a ≡ true
    left true q = refl
    left false q = q

    go : (any n p ≡ true → (k : ℕ) × (k < n) × (p k ≡ true)) → (c : Bool) → p n ≡ c → (any n p || c) ≡ true → (k : ℕ) × (k < suc n) × (p k ≡ true)
    go before true q f = (n, omega arith, q)
    go before false q f = further (before (left (any n p) f))

clash : {c : Bool} → c ≡ true → c ≡ false → ⊥
clash a b = true≢false (sym a ∙ b)

module _ (W e N : ℕ) (b : List ℕ) where
  -- the tests of the outputs, each told by its plain statement
  ranged : all N (inside N (outputs b)) ≡ true → Ranged N b
  ranged a i l =
      dite (dec_lt (output_at b i) N) (λ y. inl y)
      (λ g. dite (ℕ_discrete (output_at b i) 255) (λ q. inr q)
      (λ ne. absurd (clash (all-at N (inside N (outputs b)) a i l) (inside-fails N (outputs b) i (omega (arith, g)) ne))))

  ranged-all : Ranged N b → all N (inside N (outputs b)) ≡ true
  ranged-all r = all-intro N (inside N (outputs b)) (λ i l. ⊎_elim (inside-below N (outputs b) i) (inside-idle N (outputs b) i) (r i l))

  range-bad : (i : ℕ) → inside N (outputs b) i ≡ false → (N ≤ output_at b i) × (output_at b i ≡ 255 → ⊥)
  range-bad i f =
      (dite (dec_lt (output_at b i) N) (λ y. absurd (clash (inside-below N (outputs b) i y) f)) (λ g. omega (arith, g)), λ q. clash (inside-idle N (outputs b) i q) f)

  seen : (i k : ℕ) → k < i → output_at b k ≡ output_at b i → earlier (outputs b) i (output_at b i) ≡ true
  seen i k l q = any-has i (λ j. eqb (get_or (outputs b) j 0) (output_at b i)) k l (eq-eqb _ _ q)

  once-of : N ≤ 255 → all N (new (outputs b)) ≡ true → Once N b
  once-of small a i k lk l y q = clash (all-at N (new (outputs b)) a i l) (new-fails (outputs b) i (λ z. omega arith) (seen i k lk q))

  once-all : Ranged N b → Once N b → all N (new (outputs b)) ≡ true
  once-all r o = all-intro N (new (outputs b)) (λ i l. ⊎_elim
      (λ y. new-first (outputs b) i (any_none i (λ j. eqb (get_or (outputs b) j 0) (output_at b i)) (λ k lk. ne_eqb _ _ (o i k lk l y))))
      (new-idle (outputs b) i)
      (r i l))

  twice-bad : (i : ℕ) → new (outputs b) i ≡ false → (output_at b i ≡ 255 → ⊥) × ((k : ℕ) × (k < i) × (output_at b k ≡ output_at b i))
  twice-bad i f = (λ q. clash (new-idle (outputs b) i q) f, ⊎_elim found (λ z. absurd (clash (new-first (outputs b) i z) f)) (test (earlier (outputs b) i (output_at b i))))
    where
      found : earlier (outputs b) i (output_at b i) ≡ true → (k : ℕ) × (k < i) × (output_at b k ≡ output_at b i)
      found t = let w = any_some i (λ j. eqb (get_or (outputs b) j 0) (output_at b i)) t in (w.0, w.1, eqb-true _ _ w.2)

  past-bad : (i : ℕ) → later N (outputs b) i ≡ false → (N ≤ i) × (output_at b i ≡ 255 → ⊥)
  past-bad i f = (dite (dec_lt i N) (λ y. absurd (clash (later-early N (outputs b) i y) f)) (λ g. omega (arith, g)), λ q. clash (later-holds N (outputs b) i q) f)

  because : {k : ℕ} → reason_of W e N b ≡ k → Because W e N b k → Because W e N b (reason_of W e N b)
  because q w = subst (Because W e N b) (sym q) w

  module _ (size : length b ≡ W + 4) (few : N ≤ W) (small : N ≤ 255) where
    -- the reason given is what its name says, and none before it applies
    pub reason-says : Because W e N b (reason_of W e N b)
    reason-says =
        dite (ℕ_discrete (hold b) 0) (λ z. because (reason-hold W e N b z) (no-hold z))
        (λ nz. let h : 0 < hold b = omega (arith, nz) in dite (ℕ_discrete (get_or b 2 0) N)
        (λ p. dite (ℕ_discrete (get_or b 3 0) e) (λ s. headed (record { held = h; ports = p; edition = s })) (λ ns. because (reason-spare W e N b h p ns) (bad-spare h p ns)))
        (λ np. because (reason-ports W e N b h np) (bad-ports h np)))
      where
        bad-outside : Headed e N b → all N (inside N (outputs b)) ≡ false → Because W e N b (reason_of W e N b)
        bad-outside h f =
            let w = all-false N (inside N (outputs b)) f in
            let q = range-bad w.0 w.2 in
            because (reason-range W e N b h f) (out_of_range h w.0 w.1 q.0 q.1)

        bad-twice : Headed e N b → all N (inside N (outputs b)) ≡ true → all N (new (outputs b)) ≡ false → Because W e N b (reason_of W e N b)
        bad-twice h a f =
            let w = all-false N (new (outputs b)) f in
            let q = twice-bad w.0 w.2 in
            let y : output_at b w.0 < N = ⊎_elim (λ y. y) (λ z. absurd (q.0 z)) (ranged a w.0 w.1) in
            because (reason-twice W e N b h a f) (twice h (ranged a) w.0 q.1.0 q.1.1 w.1 y q.1.2)

        bad-past : Headed e N b → all N (inside N (outputs b)) ≡ true → all N (new (outputs b)) ≡ true → all W (later N (outputs b)) ≡ false → Because W e N b (reason_of W e N b)
        bad-past h a o f =
            let w = all-false W (later N (outputs b)) f in
            let q = past-bad w.0 w.2 in
            because (reason-past W e N b h a o f) (past h (ranged a) (once-of small o) w.0 q.0 w.1 q.1)

        well : Headed e N b → all N (inside N (outputs b)) ≡ true → all N (new (outputs b)) ≡ true → all W (later N (outputs b)) ≡ true → Because W e N b (reason_of W e N b)
        well h a o t = let z = reason-well W e N b h a o t in because z (none (means W e N b size few small (none-fine W e N b z)))

        headed : Headed e N b → Because W e N b (reason_of W e N b)
        headed h =
            ⊎_elim
            (λ a. ⊎_elim (λ o. ⊎_elim (well h a o) (bad-past h a o) (test (all W (later N (outputs b))))) (bad-twice h a) (test (all N (new (outputs b)))))
            (bad-outside h)
            (test (all N (inside N (outputs b))))

    -- and whatever reason is so, is the one given
    pub reason-only : {k : ℕ} → Because W e N b k → reason_of W e N b ≡ k
    reason-only (none w) = reason-none W e N b (meant W e N b size few small w)
    reason-only (no-hold z) = reason-hold W e N b z
    reason-only (bad-ports h q) = reason-ports W e N b h q
    reason-only (bad-spare h p q) = reason-spare W e N b h p q
    reason-only (out_of_range h i l g q) = reason-range W e N b h (all-fails N (inside N (outputs b)) i l (inside-fails N (outputs b) i g q))
    reason-only (twice h r i k lk l y q) =
        reason-twice W e N b h (ranged-all r) (all-fails N (new (outputs b)) i l (new-fails (outputs b) i (λ z. omega arith) (seen i k lk q)))
    reason-only (past h r o i g l q) = reason-past W e N b h (ranged-all r) (once-all r o) (all-fails W (later N (outputs b)) i l (later-fails N (outputs b) i g q))
