-- The inputs in front keep their outputs while the others are joined around them; where that cannot be, fewer do, and with none it can always be.
use mathlib.Core.Path.{◌≡◌, refl, sym, subst, ◌∙◌}
use Rattle.std.specs.Prelude.{⊤, Ok, Err}
use Rattle.std.specs.declared.result.Result.{Result}
use Rattle.labels.specs.Ports.{Outputs}
use mathlib.Core.Logic.{inl}
use mathlib.Core.List.{List}
use Prim.Native.Nat.{ℕ, zero, suc, ◌<◌, ◌≤◌}
use native.Mathlib.Omega.{arith}
use Rattle.sets.specs.Label.{In}
use Rattle.rules.specs.First.{Fits}
use Rattle.rules.proofs.First.{first_of}
use Rattle.search.specs.Tables.{Held, joined}
use Rattle.matching.specs.Chosen.{Fixed, AllHeld, Best, Seating, CompletePost, GivePre, Settled, SettledAll, Behind, Ready, Chosen}
use Rattle.search.proofs.Tables.{one-holder, place}
use Rattle.matching.proofs.Completing.{told}

-- the inputs below `firm` hold what they had at the start, and nobody below `kept` waits
pub record Firm (w n : ℕ) (E : ℕ → ℕ → Type 0) (out₀ : List ℕ) (kept : ℕ) (by out : List ℕ) (known waiting firm : ℕ) : Type 0 where
  pub seating : Seating w n E by out known waiting
  pub short : firm ≤ kept
  pub above : (m : ℕ) → m < kept → In waiting m → ⊥
  pub same : (m : ℕ) → m < firm → joined out m ≡ joined out₀ m
  pub beyond : (m : ℕ) → n ≤ m → joined out m ≡ joined out₀ m

pub firm-start : (w n : ℕ) (E : ℕ → ℕ → Type 0) (by out : List ℕ) (known waiting kept : ℕ) → Ready w n E by out known waiting → ((m : ℕ) → m < kept → In waiting m → ⊥)
    → Firm w n E out kept by out known waiting kept
firm-start w n E by out known waiting kept r above = record { seating = r.seating; short = omega arith; above = above; same = λ m l. refl; beyond = λ m l. refl }

module _ (w n : ℕ) (E : ℕ → ℕ → Type 0) (by₀ out₀ : List ℕ) (known₀ waiting₀ kept : ℕ) (r : Ready w n E by₀ out₀ known₀ waiting₀) (few : kept ≤ n)
    (clear : (m : ℕ) → m < kept → In waiting₀ m → ⊥) (by out : List ℕ) (known waiting firm : ℕ) (p : Firm w n E out₀ kept by out known waiting firm) where
  firm-held : (m : ℕ) → m < firm → Held by (joined out m) m
  firm-held m l = told w n E by out m p.seating.good (p.seating.begun m (omega (arith, p.short)) (p.above m (omega (arith, p.short))))

  -- each output that is to be fixed has a place
  pub firm-place : (m : ℕ) → m < firm → joined out m < w
  firm-place m l = place w n E by out p.seating.good (joined out m) m (firm-held m l)

  module _ (fixed : ℕ) (f : Fixed out firm fixed) where
    pub all_held : AllHeld by fixed
    all_held k x = let a = f.from k x in (a.0, subst (λ (q : ℕ). Held by q a.0) a.2 (firm-held a.0 a.1))

    -- the inputs in front had these outputs before
    pub firm-before : Fixed out₀ firm fixed
    firm-before = record {
      from = λ k x. let a = f.from k x in (a.0, a.1, sym (p.same a.0 a.1) ∙ a.2);
      got = λ m l. subst (In fixed) (p.same m l) (f.got m l);
    }

    module _ (by' out' : List ℕ) (known' waiting' : ℕ) (b : Result ⊤ Outputs) (c : CompletePost w n E by out fixed waiting by' out' known' waiting' b) where
      -- what is fixed is as it was
      still : (m : ℕ) → m < firm → joined out' m ≡ joined out m
      still m l = c.seating.good.paired (joined out m) m (c.around.still (joined out m) (f.got m l) ∙ firm-held m l)

      as_first : (m : ℕ) → m < firm → joined out' m ≡ joined out₀ m
      as_first m l = still m l ∙ p.same m l

      -- the same are fixed
      prefix : Fixed out' firm fixed
      prefix = record { from = λ k x. let a = f.from k x in (a.0, a.1, still a.0 a.1 ∙ a.2); got = λ m l. subst (In fixed) (sym (still m l)) (f.got m l) }

      -- all are seated: it remains to settle those behind
      pub firm-settles : b ≡ Ok tt → Settled w n E by' out' fixed firm
      firm-settles e = record { good = c.seating.good; all = λ m l. c.seating.begun m l (c.all e m); prefix = prefix; best = best }
        where
          best : (m : ℕ) → m < firm → Best n E out' m
          best m l o g a =
              let q : m < n = omega (arith, p.short) in
              let z = (r.former m q (clear m (omega (arith, p.short)))).best o g.full (λ k h. inl (g.used k h)) m q (λ k h. a k h ∙ as_first k (omega arith)) in
              rw (as_first m l) z

      -- one was refused: something was fixed, and fewer are to be
      firm-some : (met : Outputs) → b ≡ Err met → 0 < firm
      firm-some met e = go firm refl
        where
          go : (x : ℕ) → firm ≡ x → 0 < x
          go zero z = absurd (c.none met e r.some.0 r.some.1 (λ k m x h. let l = (f.from k x).1 in absurd (omega arith)))
          go (suc x) z = omega arith

      pub firm-gives : kept ≤ w → (met : Outputs) → b ≡ Err met → GivePre w n E by' out' known' fixed firm
      firm-gives wide met e = record {
        good = c.seating.good;
        free = c.seating.free;
        some = firm-some met e;
        short = omega (arith, p.short);
        prefix = prefix;
        held = λ m l. rw (still m l) (c.around.still (joined out m) (f.got m l) ∙ firm-held m l);
      }

      pub firm-less : (firm' : ℕ) → firm' < firm → Firm w n E out₀ kept by' out' known' waiting' firm'
      firm-less firm' less = record {
        seating = c.seating;
        short = omega (arith, p.short);
        above = λ m l x. p.above m l (c.fewer m x);
        same = λ m l. as_first m (omega arith);
        beyond = λ m l. c.around.beyond m l ∙ p.beyond m l;
      }

      -- all are settled: the setting is the first
      pub firm-ends : (by'' out'' : List ℕ) → SettledAll w n E out' by'' out'' → Chosen w n E out₀ by'' out''
      firm-ends by'' out'' t = record {
        good = t.good;
        held = held;
        first = first_of n E (joined out'') fits (λ o k m l. t.best m l o k);
        beyond = λ m l. t.beyond m l ∙ c.around.beyond m l ∙ p.beyond m l;
      }
        where
          held : (m : ℕ) → m < n → Held by'' (joined out'' m) m
          held m l = told w n E by'' out'' m t.good (t.all m l)

          used : (i : ℕ) → i < n → E i (joined out'' i)
          used i l = t.good.edge (joined out'' i) i (held i l)

          once : (i k : ℕ) → i < n → k < n → joined out'' i ≡ joined out'' k → i ≡ k
          once i k l q e = one-holder by'' (joined out'' k) i k (subst (λ (j : ℕ). Held by'' j i) e (held i l)) (held k q)

          fits : Fits n E (joined out'')
          fits = record { full = record { inside = λ i l. r.inside i (joined out'' i) l (used i l); once = once }; used = used }

-- what the inputs past the last that waited may go back to
pub behind : (w n : ℕ) (E : ℕ → ℕ → Type 0) (by out : List ℕ) (known waiting last : ℕ) → Ready w n E by out known waiting → ((m : ℕ) → In waiting m → m < last) → Behind w n E out last
behind w n E by out known waiting last r l = record {
  size = r.seating.good.outputs;
  inside = r.inside;
  former = λ m h q. r.former m q (λ x. let z = l m x in omega arith);
  used = λ m h q. r.seating.good.edge (joined out m) m (told w n E by out m r.seating.good (r.seating.begun m q (λ x. let z = l m x in omega arith)));
}
