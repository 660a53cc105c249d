-- Why the search is right: a wave whose holders all lead to what was tried is closed; and the holder that is handed an output leaves its own free.
use Rattle.std.specs.Prelude.{None, Some}
use mathlib.Core.Path.{◌≡◌, refl, sym, subst, ◌∙◌}
use mathlib.Core.Logic.{◌⊎◌, inl, inr, ⊎_elim}
use mathlib.Core.List.{List}
use Prim.Native.Nat.{ℕ, ◌+◌, ◌-◌, ◌<◌, ◌≤◌}
use native.Mathlib.Omega.{arith}
use lib.ListN.{length, get_or, set}
use lib.Seq.{get_or-set_same, get_or-set_other}
use Rattle.sets.specs.Label.{digit, In, Sub, Union, But, absent}
use Rattle.labels.specs.Ports.{UntriedAt, Untried}
use Rattle.std.specs.declared.option.Option.{Option}
use Rattle.sets.proofs.Digits.{same_or, absent-less}
use Rattle.switch.specs.declared.OutputPort.{OutputPort}
use Rattle.search.specs.declared.Asked.{Asked}
use Rattle.search.specs.declared.Asked.TheVariants.{Freed, Stuck}
use Rattle.search.specs.Tables.{Held, Holds, joined, Matching}
use Rattle.search.specs.Search.{Stays, Closed, Ports, Further, Movable, Handed, AskPre, Wave, Around, Gained, OutMoved, Moved, Unmoved, AskPost, Tries}
use Rattle.search.proofs.Tables.{Here, Other, stored, held_in, held-not-free, one-holder, freed-back, freed-good, freed-idle, taken-good}

-- ---- closed sets

module _ (E : ℕ → ℕ → Type 0) (by : List ℕ) where
  pub stays-more : (u v j : ℕ) → Sub u v → Stays E by u j → Stays E by v j
  stays-more u v j s x = (x.0, x.1, λ k e. s k (x.2 k e))

  -- closed over a closed set is closed
  pub closed-through : (t u v : ℕ) → Sub u v → Closed E by t u → Closed E by u v → Closed E by t v
  closed-through t u v s a b j x = ⊎_elim (λ y. ⊎_elim (λ z. inl z) (λ z. inr (stays-more u v j s z)) (a j y)) (λ y. inr y) (b j x)

-- ---- moves

pub around-same : (n : ℕ) (by out : List ℕ) (t : ℕ) → Around n by out t by out
around-same n by out t = record { kept = λ m x. x; still = λ k x. refl; beyond = λ m l. refl }

pub around-through : (n t : ℕ) (by out by' out' by'' out'' : List ℕ) → Around n by out t by' out' → Around n by' out' t by'' out'' → Around n by out t by'' out''
around-through n t by out by' out' by'' out'' a b = record {
  kept = λ m x. b.kept m (a.kept m x);
  still = λ k x. b.still k x ∙ a.still k x;
  beyond = λ m l. b.beyond m l ∙ a.beyond m l;
}

pub around-less : (n t u : ℕ) (by out by' out' : List ℕ) → Sub t u → Around n by out u by' out' → Around n by out t by' out'
around-less n t u by out by' out' s a = record { kept = a.kept; still = λ k x. a.still k (s k x); beyond = a.beyond }

module _ (n : ℕ) (by out : List ℕ) where
  -- an output is free already
  pub free-already : (t j : ℕ) → get_or by j 0 ≡ 0 → OutMoved n by out t j by out
  free-already t j e = record { around = around-same n by out t; free = e; only = λ m x. x }

  -- an idle input takes an output that was made free
  pub take-gains : (t j i : ℕ) (by' out' : List ℕ) → j < length by' → i < length out' → i < n → (In t j → ⊥)
      → OutMoved n by out t j by' out' → Gained n by out t i (set by' j (i + 1)) (set out' i j)
  take-gains t j i by' out' l li here new o = record {
    around = record { kept = λ m x. keep m (o.around.kept m x); still = still; beyond = beyond };
    holds = subst (λ (k : ℕ). Held (set by' j (i + 1)) k i) (sym (get_or-set_same out' i j 255 li)) (get_or-set_same by' j (i + 1) 0 l);
    only = λ m x. only m x (stored by' j (i + 1) x.0 l);
  }
    where
      keep : (m : ℕ) → Holds by' m → Holds (set by' j (i + 1)) m
      keep m x = (x.0, get_or-set_other by' j x.0 (i + 1) 0 (λ p. held-not-free by' j m (subst (λ (q : ℕ). Held by' q m) p x.1) o.free) ∙ x.1)

      still : (k : ℕ) → In t k → get_or (set by' j (i + 1)) k 0 ≡ get_or by k 0
      still k x = get_or-set_other by' j k (i + 1) 0 (λ p. new (subst (In t) p x)) ∙ o.around.still k x

      beyond : (m : ℕ) → n ≤ m → joined (set out' i j) m ≡ joined out m
      beyond m h = get_or-set_other out' i m j 255 (λ p. omega arith) ∙ o.around.beyond m h

      only : (m : ℕ) (x : Holds (set by' j (i + 1)) m) → Here by' j (i + 1) x.0 ⊎ Other by' j (i + 1) x.0 → Holds by m ⊎ (m ≡ i)
      only m x (inl p) = inr (omega (arith, p.at, x.1))
      only m x (inr f) = inl (o.only m (x.0, sym f.at ∙ x.1))

  -- the holder of j took another
  pub holder-moved : (t j i : ℕ) (by' out' : List ℕ) → Held by j i → (In t j → ⊥) → get_or by' j 0 ≡ 0
      → Gained n (set by j 0) out t i by' out' → OutMoved n by out t j by' out'
  holder-moved t j i by' out' e new free g = record {
    around = record { kept = λ m x. keep m x (stored by j 0 x.0 l); still = still; beyond = g.around.beyond };
    free = free;
    only = λ m x. only m (g.only m x);
  }
    where
      l : j < length by
      l = held_in by j i e

      keep : (m : ℕ) (x : Holds by m) → Here by j 0 x.0 ⊎ Other by j 0 x.0 → Holds by' m
      keep m x (inl p) = subst (Holds by') (one-holder by j i m e (subst (λ (q : ℕ). Held by q m) p.is x.1)) (joined out' i, g.holds)
      keep m x (inr f) = g.around.kept m (x.0, f.at ∙ x.1)

      still : (k : ℕ) → In t k → get_or by' k 0 ≡ get_or by k 0
      still k x = g.around.still k x ∙ get_or-set_other by j k 0 0 (λ p. new (subst (In t) p x))

      only : (m : ℕ) → Holds (set by j 0) m ⊎ (m ≡ i) → Holds by m
      only m (inl y) = (y.0, (freed-back by j y.0 m l y.1).1)
      only m (inr p) = (j, subst (Held by j) (sym p) e)

-- the holder of j gives it up for a free output k
module _ (w n : ℕ) (E : ℕ → ℕ → Type 0) (by out : List ℕ) (t j i k : ℕ) (g : Matching w n E by out) (few : n ≤ w) (here : k < w)
    (e : Held by j i) (edge : E i k) (free : get_or by k 0 ≡ 0) (new : In t j → ⊥) (loose : In t k → ⊥) where
  freed : Matching w n E (set by j 0) out
  freed = freed-good w n E by out g j (omega (arith, held_in by j i e, g.holders))

  idle : Holds (set by j 0) i → ⊥
  idle = freed-idle w n E by out g j i e

  other : k ≡ j → ⊥
  other q = held-not-free by j i e (subst (λ (a : ℕ). get_or by a 0 ≡ 0) q free)

  pub handed-good : Matching w n E (set (set by j 0) k (i + 1)) (set out i k)
  handed-good = taken-good w n E (set by j 0) out freed k i here (g.port j i e) few edge idle

  pub handed_moved : OutMoved n by out t j (set (set by j 0) k (i + 1)) (set out i k)
  handed_moved = holder-moved n by out t j i _ _ e new (get_or-set_other (set by j 0) k j (i + 1) 0 (λ q. other (sym q)) ∙ get_or-set_same by j 0 0 (held_in by j i e))
      (take-gains n (set by j 0) out t k i (set by j 0) out (omega (arith, freed.holders)) (omega (arith, g.outputs, g.port j i e)) (g.port j i e) loose
      (free-already n (set by j 0) out t k (get_or-set_other by j k 0 0 other ∙ free)))

-- ---- the lowest output that is left

pub lowest-at : (w row seen : ℕ) (f : (Option OutputPort)) (j : OutputPort) → Untried w row seen f → f ≡ Some j → UntriedAt w row seen j.0
lowest-at w row seen f j l q = subst (Untried w row seen) q l

pub none_left : (w row seen : ℕ) (f : (Option OutputPort)) → Untried w row seen f → f ≡ None → Sub row seen
none_left w row seen f l q = subst (Untried w row seen) q l

pub one_up : (v : ℕ) → (v ≡ 0 → ⊥) → v ≡ v - 1 + 1
one_up v f = omega arith

pub ports-of : (w n : ℕ) (E : ℕ → ℕ → Type 0) (by out : List ℕ) → Matching w n E by out → Ports w n by
ports-of w n E by out g = record { holders = g.holders; port = g.port }

-- ---- the tried set comes back

-- it stays where all was tried before
pub tries-none : (w t outputs : ℕ) → Sub outputs t → Tries w t outputs t
tries-none w t outputs s = record { more = λ k x. x; larger = λ k l x f. absurd (f (s k x)); same = λ _ k x. x }

-- larger, with an output that was asked for and not tried
pub tries-new : (w t outputs u j : ℕ) → Sub t u → In outputs j → (In t j → ⊥) → In u j → Tries w t outputs u
tries-new w t outputs u j more here new got = record { more = more; larger = λ _ _ _ _. (j, got, new); same = λ s. absurd (new (s j here)) }

-- asking for those that are not tried is asking for all
pub tries-rest : (w t outputs rest u j : ℕ) → But outputs t rest → In outputs j → (In t j → ⊥) → Tries w t rest u → Tries w t outputs u
tries-rest w t outputs rest u j b here new m = record { more = m.more; larger = λ k l x f. m.larger k l (b.kept k x f) f; same = λ s. absurd (new (s j here)) }

-- ---- inputs ask

module _ (w n : ℕ) (E : ℕ → ℕ → Type 0) (by out : List ℕ) (held t : ℕ) (p : AskPre w n E by out held t) where
  -- an output that nobody holds and that is not tried is there to be taken
  free_moved : (outputs j : ℕ) → In outputs j → j < w → get_or by j 0 ≡ 0 → (In t j → ⊥) → Moved w n E by out t outputs j j by out
  free_moved outputs j a l e f = record {
    good = p.good;
    moved = free-already n by out t j e;
    asked = a;
    here = l;
    new = f;
    last = l;
    same = λ _. refl;
    others = λ k x _. x;
  }

  -- one can be had at once
  pub spare-moved : (outputs j : ℕ) → UntriedAt w outputs held j → Moved w n E by out t outputs j j by out
  spare-moved outputs j l = let s = p.spare j l.small l.new in free_moved outputs j l.here l.small s.0 s.1

  -- all are tried
  pub tried-unmoved : (outputs : ℕ) → Sub outputs t → Unmoved E by out t outputs by out t
  tried-unmoved outputs s = record { holders = refl; outs = refl; more = λ k x. x; all = s; closed = λ j x. inl x }

  -- those that are not are a wave
  pub wave-of : (outputs wave j : ℕ) → Sub outputs held → UntriedAt w outputs t j → But outputs t wave → Wave w held t wave
  wave-of outputs wave j s l b = record { some = (j, l.small, b.kept j l.here l.new); new = b.gone; known = λ k x. s k (b.less k x) }

  -- what came of asking them is what came of asking all
  pub wave-post : (outputs wave : ℕ) (by' out' : List ℕ) (a : Asked) → But outputs t wave → AskPost w n E by out t wave by' out' a → AskPost w n E by out t outputs by' out' a
  wave-post outputs wave by' out' (Freed g u) b m = record { good = m.good; moved = m.moved; asked = b.less _ m.asked; here = m.here; new = m.new; last = m.last; same = m.same; others = m.others }
  wave-post outputs wave by' out' (Stuck u) b m = record {
    holders = m.holders;
    outs = m.outs;
    more = m.more;
    all = λ k x. ⊎_elim (λ y. m.more k y) (λ f. m.all k (b.kept k x f)) (same_or (digit t k) 1);
    closed = m.closed;
  }

  -- ---- a wave of outputs asks

  module _ (wave : ℕ) (v : Wave w held t wave) where
    -- one of them is free
    pub wave-free : (j : ℕ) → In wave j → j < w → get_or by j 0 ≡ 0 → Moved w n E by out t wave j j by out
    wave-free j x l e = free_moved wave j x l e (v.new j x)

    module _ (t' : ℕ) (un : Union t wave t') where
      -- the set has grown by them
      pub wave-tries : (u : ℕ) → Sub t' u → Tries w t wave u
      wave-tries u m = let s = v.some in tries-new w t wave u s.0 (λ k x. m k (un.left k x)) s.2 (v.new s.0 s.2) (m s.0 (un.right s.0 s.2))

      -- marked as tried, they may ask their holders
      pub further-asks : AskPre w n E by out held t'
      further-asks = record { good = p.good; spare = λ k l h. let s = p.spare k l h in (s.0, λ x. ⊎_elim s.1 (λ y. h (v.known k y)) (un.only k x)) }

      pub fewer-left : absent w t' < absent w t
      fewer-left = let s = v.some in absent-less t t' un.left w s.0 s.1 (v.new s.0 s.2) (un.right s.0 s.2)

      module _ (r : ℕ) (f : Further E by wave r) where
        -- no holder can move: the set is closed
        pub wave-stuck : (by' out' : List ℕ) (u : ℕ) → Unmoved E by out t' r by' out' u → Unmoved E by out t wave by' out' u
        wave-stuck by' out' u m = record {
          holders = m.holders;
          outs = m.outs;
          more = λ k x. m.more k (un.left k x);
          all = λ k x. m.more k (un.right k x);
          closed = λ k x. ⊎_elim (λ y. ⊎_elim (λ z. inl z) (λ z. inr (stays-more E by r u k m.all (f.all k z))) (un.only k y)) (λ y. inr y) (m.closed k x);
        }

        module _ (j spent : ℕ) (by' out' : List ℕ) (m : Moved w n E by out t' r j spent by' out') where
          still : (k : ℕ) → In wave k → get_or by' k 0 ≡ get_or by k 0
          still k x = m.moved.around.still k (un.right k x)

          -- an output is free that one of the holders may take
          pub wave-movable : Movable w n E by' wave j
          wave-movable =
              let q = f.from j m.asked in
              record {
                ports = ports-of w n E by' out' m.good;
                held = λ k x. let s = f.all k x in (s.0, still k x ∙ s.1);
                some = (q.0, (q.2, (q.1, still q.0 q.2 ∙ q.3, q.4)));
              }

          -- it took it
          pub wave-handed : (h : ℕ) (by'' out'' : List ℕ) → n ≤ w → Handed E by' out' wave j h by'' out'' → Moved w n E by out t wave h spent by'' out''
          wave-handed h by'' out'' few d = rw (d.holders, d.outputs) (record {
            good = handed-good w n E by' out' t h d.input j m.good few m.here d.held d.edge m.moved.free new loose;
            moved = record {
              around = around-through n t by out by' out' _ _ (around-less n t t' by out by' out' un.left m.moved.around) o.around;
              free = o.free;
              only = λ a x. m.moved.only a (o.only a x);
            };
            asked = d.asked;
            here = omega (arith, held_in by' h d.input d.held, m.good.holders);
            new = new;
            last = m.last;
            same = λ e. absurd (held-not-free by' h d.input d.held (still h d.asked ∙ e));
            others = others;
          })
            where
              new : In t h → ⊥
              new = v.new h d.asked

              loose : In t j → ⊥
              loose x = m.new (un.left j x)

              o : OutMoved n by' out' t h (set (set by' h 0) j (d.input + 1)) (set out' d.input j)
              o = handed_moved w n E by' out' t h d.input j m.good few m.here d.held d.edge m.moved.free new loose

              others : (k : ℕ) → get_or by k 0 ≡ 0 → (k ≡ spent → ⊥) → get_or (set (set by' h 0) j (d.input + 1)) k 0 ≡ 0
              others k e f =
                  get_or-set_other (set by' h 0) j k (d.input + 1) 0 (λ q. f (q ∙ m.same (subst (λ (a : ℕ). get_or by a 0 ≡ 0) q e)))
                  ∙ get_or-set_other by' h k 0 0 (λ q. held-not-free by' h d.input d.held (still h d.asked ∙ subst (λ (a : ℕ). get_or by a 0 ≡ 0) q e))
                  ∙ m.others k e f
