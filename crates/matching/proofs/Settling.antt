-- An input asks for lower outputs until those that are left are in a closed set: no setting that agrees with what is fixed has a lower one there.
use mathlib.Core.Path.{◌≡◌, refl, sym, ap, subst, ◌∙◌}
use mathlib.Core.Logic.{◌⊎◌, inl, inr, ⊎_elim}
use mathlib.Core.List.{List}
use Prim.Native.Nat.{ℕ, ◌+◌, ◌<◌, ◌≤◌}
use native.Mathlib.Decide.{dec_lt}
use native.Mathlib.Omega.{arith}
use lib.ListN.{length, get_or, set}
use lib.Seq.{get_or-set_same, set-get_or}
use Rattle.sets.specs.Label.{In, Sub, Marked, Cleared, But, Below, absent}
use Rattle.sets.proofs.Digits.{same_or, absent-less}
use Rattle.rules.specs.First.{Agree}
use Rattle.search.specs.declared.Asked.TheVariants.{Freed, Stuck}
use Rattle.search.specs.declared.Given.{Given}
use Rattle.search.specs.declared.Tried.{Tried}
use Rattle.search.specs.Tables.{tried_of, Held, Holds, joined, Matching}
use Rattle.search.specs.Search.{Stays, Closed, AskPre, Wave, Gained, Moved, Unmoved}
use Rattle.matching.specs.Chosen.{Best, Settled, SettledPost, SettledAll, Dead, Lowering, Lowered}
use Rattle.search.proofs.Tables.{held_in, one-holder, freed-back, freed-other, set_back, place, freed-good, freed-idle, taken-good}
use Rattle.search.proofs.Search.{closed-through, take-gains}
use Rattle.matching.proofs.Closed.{not_there}
use Rattle.matching.proofs.Completing.{one_more, fixed_more, told}

-- ---- an input gives its output up and asks for a lower one

module _ (w n : ℕ) (E : ℕ → ℕ → Type 0) (by out : List ℕ) (dead lower own i : ℕ) (p : Lowering w n E by out dead lower own i) where
  abbrev freed : List ℕ
  freed = set by own 0

  pub own-place : own < w
  own-place = place w n E by out p.good own i p.held

  good : Matching w n E freed out
  good = freed-good w n E by out p.good own own-place

  free : get_or freed own 0 ≡ 0
  free = get_or-set_same by own 0 0 (held_in by own i p.held)

  idle : Holds freed i → ⊥
  idle = freed-idle w n E by out p.good own i p.held

  -- its own is the one output that can be had at once
  pub lower-asks : (every held : ℕ) → ((k : ℕ) → k < w → In every k) → Cleared every own held → AskPre w n E freed out held dead
  lower-asks every held f c = record { good = good; spare = λ k l h. spare k l h (same_or k own) }
    where
      spare : (k : ℕ) → k < w → (In held k → ⊥) → (k ≡ own) ⊎ (k ≡ own → ⊥) → (get_or freed k 0 ≡ 0) × (In dead k → ⊥)
      spare k l h (inl e) = (ap (λ (q : ℕ). get_or freed q 0) e ∙ free, λ x. p.loose (subst (In dead) e x))
      spare k l h (inr d) = absurd (h (c.kept k (f k l) d))

  -- they are a wave: none is dead, and all are held but its own
  pub lower-wave : (every held : ℕ) → ((k : ℕ) → k < w → In every k) → Cleared every own held → Wave w held dead lower
  lower-wave every held f c = record {
    some = let s = p.some in (s.0, small s.0 s.1, s.1);
    new = p.new;
    known = λ k x. c.kept k (f k (small k x)) (λ e. let l = p.below k x in omega arith);
  }
    where
      small : (k : ℕ) → In lower k → k < w
      small k x = omega (arith, p.below k x, own-place)

  module _ (given : List ℕ) (gi : given ≡ freed) where
    pub given-up : Matching w n E given out
    given-up = rw gi good

    -- it takes the one that was made free
    pub lower-taken : (j spent : ℕ) (by' out' by'' out'' : List ℕ) → n ≤ w → Moved w n E given out dead lower j spent by' out' → by'' ≡ set by' j (i + 1) → out'' ≡ set out' i j
        → Matching w n E by'' out'' × Gained n freed out dead i by'' out'' × (joined out'' i ≡ j) × In lower j
    lower-taken j spent by' out' by'' out'' few m₀ eb eo = rw (eb, eo) (
      taken-good w n E by' out' m.good j i m.here p.here few (p.edge j m.asked) (λ x. idle (m.moved.only i x)),
      take-gains n freed out dead j i by' out' (omega (arith, m.good.holders, m.here)) l p.here m.new m.moved,
      get_or-set_same out' i j 255 l,
      m.asked,
    )
      where
        m : Moved w n E freed out dead lower j spent by' out'
        m = subst (λ (b : List ℕ). Moved w n E b out dead lower j spent by' out') gi m₀

        l : i < length out'
        l = omega (arith, m.good.outputs, p.here)

    -- or its own again: the tables are as they were
    pub lower-back : (by' out' by'' out'' : List ℕ) (u : ℕ) → Unmoved E given out dead lower by' out' u → by'' ≡ set by' own (i + 1) → out'' ≡ set out' i own
        → (by'' ≡ by) × (out'' ≡ out) × Unmoved E freed out dead lower freed out u
    lower-back by' out' by'' out'' u m eb eo = (
      eb ∙ ap (λ (l : List ℕ). set l own (i + 1)) (m.holders ∙ gi) ∙ ap (set freed own) (sym p.held) ∙ set_back by own 0,
      eo ∙ ap (λ (l : List ℕ). set l i own) m.outs ∙ ap (set out i) (sym (p.good.paired own i p.held)) ∙ set-get_or out i 255,
      record { holders = refl; outs = refl; more = m.more; all = m.all; closed = subst (λ (b : List ℕ). Closed E b dead u) gi m.closed },
    )

-- what is fixed leads nowhere by itself
pub dead-start : (E : ℕ → ℕ → Type 0) (by : List ℕ) (fixed : ℕ) → Dead E by fixed fixed
dead-start E by fixed = record { more = λ k x. x; closed = λ k x. inl x }

-- ---- input i is settled, where `own` is the output that it holds

module _ (w n : ℕ) (E : ℕ → ℕ → Type 0) (by out : List ℕ) (fixed i own : ℕ) (s : Settled w n E by out fixed i) (here : i < n) (is : own ≡ joined out i) where
  holds : (m : ℕ) → m < n → Held by (joined out m) m
  holds m l = told w n E by out m s.good (s.all m l)

  own_held : Held by own i
  own_held = subst (λ (k : ℕ). Held by k i) (sym is) (holds i here)

  pub own_in : own < w
  own_in = place w n E by out s.good own i own_held

  own-loose : In fixed own → ⊥
  own-loose x =
      let f = s.prefix.from own x in
      let l = f.1 in
      let e = one-holder by own f.0 i (subst (λ (k : ℕ). Held by k f.0) f.2 (holds f.0 (omega arith))) own_held in
      omega arith

  fixed_held : (k : ℕ) → In fixed k → (m : ℕ) × (m < i) × Held by k m
  fixed_held k x = let f = s.prefix.from k x in let l = f.1 in (f.0, l, subst (λ (q : ℕ). Held by q f.0) f.2 (holds f.0 (omega arith)))

  -- what was dead is, or no more than what is fixed: its own is not
  pub dead-still : (dead d : ℕ) → Dead E by fixed dead → ((d ≡ dead) × (In dead own → ⊥)) ⊎ (d ≡ fixed) → Dead E by fixed d × (In d own → ⊥)
  dead-still dead d x (inl e) = rw e.0 (x, e.1)
  dead-still dead d x (inr e) = rw e (dead-start E by fixed, own-loose)

  module _ (dead : ℕ) (d : Dead E by fixed dead) (loose : In dead own → ⊥) where
    -- it may ask for a lower one
    pub may-lower : (some j : ℕ) → In some j → ((k : ℕ) → In some k → E i k) → ((k : ℕ) → In some k → k < own) → ((k : ℕ) → In some k → In dead k → ⊥) → Lowering w n E by out dead some own i
    may-lower some j has may below new = record {
      good = s.good;
      here = here;
      held = own_held;
      edge = may;
      below = below;
      some = (j, has);
      new = new;
      loose = loose;
      all = λ k x. ⊎_elim (λ y. let h = fixed_held k y in (h.0, h.2)) (λ (y : Stays E by dead k). (y.0, y.1)) (d.closed k x);
    }

    -- what is dead is closed where its own is given up
    dead-closed : Closed E (set by own 0) fixed dead
    dead-closed k x = ⊎_elim (λ y. inl y) (λ (y : Stays E by dead k). inr (y.0, freed-other by own k y.0 (λ e. loose (subst (In dead) e x)) y.1, y.2)) (d.closed k x)

    -- all lower ones are dead
    pub lower-dead : Closed E (set by own 0) fixed dead × Sub fixed dead
    lower-dead = (dead-closed, d.more)

    -- none of these can be had: they are dead too
    pub stuck-dead : (some u : ℕ) → Unmoved E (set by own 0) out dead some (set by own 0) out u → Dead E by fixed u × (In u own → ⊥)
    stuck-dead some u m = (
      record {
        more = λ k x. m.more k (d.more k x);
        closed = λ k x. ⊎_elim (λ y. inl y) (λ (y : Stays E (set by own 0) u k). inr (y.0, (freed-back by own k y.0 (held_in by own i own_held) y.1).1, y.2)) (c k x);
      },
      λ x. ⊎_elim own-loose (λ (y : Stays E (set by own 0) u own). (freed-back by own own y.0 (held_in by own i own_held) y.1).0 refl) (c own x),
    )
      where
        c : Closed E (set by own 0) fixed u
        c = closed-through E (set by own 0) fixed dead u m.more dead-closed m.closed

    -- it has a lower one: the inputs before it are settled as they were
    module _ (by' out' : List ℕ) (g : Matching w n E by' out') (o : Gained n (set by own 0) out dead i by' out') where
      same : (m : ℕ) → m < i → joined out' m ≡ joined out m
      same m l =
          let f = s.prefix.got m l in
          g.paired (joined out m) m (o.around.still (joined out m) (d.more (joined out m) f) ∙ freed-other by own (joined out m) m (λ e. own-loose (subst (In fixed) e f)) (holds m (omega arith)))

      all : (m : ℕ) → m < n → Holds by' m
      all m l = go (same_or m i)
        where
          go : (m ≡ i) ⊎ (m ≡ i → ⊥) → Holds by' m
          go (inl e) = subst (Holds by') (sym e) (joined out' i, o.holds)
          go (inr f) = o.around.kept m (joined out m, freed-other by own (joined out m) m (λ e. f (one-holder by own m i (subst (λ (k : ℕ). Held by k m) e (holds m l)) own_held)) (holds m l))

      pub lower-settled : SettledPost w n E out by' out' fixed i
      lower-settled = record {
        settled = record {
          good = g;
          all = all;
          prefix = record {
            from = λ k x. let a = s.prefix.from k x in (a.0, a.1, same a.0 a.1 ∙ a.2);
            got = λ m l. subst (In fixed) (sym (same m l)) (s.prefix.got m l);
          };
          best = λ m l p fits a. rw (same m l) (s.best m l p fits (λ k q. a k q ∙ same k (omega arith)));
        };
        beyond = o.around.beyond;
      }

  -- it holds nothing once its own is given up
  pub lower-idle : Holds (set by own 0) i → ⊥
  lower-idle = freed-idle w n E by out s.good own i own_held

  -- the lower ones are in a closed set: its own is the best, and fixed
  module _ (u row lower f v : ℕ) (c : Closed E (set by own 0) fixed u × Sub fixed u) (shut : (k : ℕ) → E i k → In row k) (b : Below row own lower) (sub : Sub lower u)
      (mf : Marked fixed own f) (mv : Marked u own v) where
    freed-good' : Matching w n E (set by own 0) out
    freed-good' = freed-good w n E by out s.good own own_in

    still-held : (k : ℕ) → In fixed k → (m : ℕ) × (m < i) × Held (set by own 0) k m
    still-held k x = let h = fixed_held k x in (h.0, h.1, freed-other by own k h.0 (λ e. own-loose (subst (In fixed) e x)) h.2)

    -- a setting that agrees below i keeps what is fixed
    keeps : (p : ℕ → ℕ) → Agree i p (joined out) → (k m : ℕ) → In fixed k → Held (set by own 0) k m → p m ≡ k
    keeps p a k m x h =
        let y = fixed_held k x in
        let e : m ≡ y.0 = one-holder by k m y.0 (freed-back by own k m (held_in by own i own_held) h).1 y.2 in
        ap p e ∙ a y.0 y.1 ∙ s.good.paired k y.0 y.2

    best-here : Best n E out i
    best-here p fits a = go (dec_lt (p i) (joined out i))
      where
        go : Dec (p i < joined out i) → joined out i ≤ p i
        go (yes l) =
            absurd (not_there w n E (set by own 0) out fixed u i p freed-good' here lower-idle c.0 fits (λ k x. let h = still-held k x in (h.0, h.2)) (keeps p a)
            (sub (p i) (b.all (p i) (omega (arith, is)) (shut (p i) (fits.used i here)))))
        go (no l) = omega arith

    pub own-settled : Settled w n E by out f (i + 1)
    own-settled = record {
      good = s.good;
      all = s.all;
      prefix = fixed_more out i fixed f s.prefix (subst (λ (k : ℕ). Marked fixed k f) is mf);
      best = one_more (Best n E out) i s.best best-here;
    }

    pub own-dead : Dead E by f v
    own-dead = record { more = λ k x. ⊎_elim (λ y. mv.more k (c.1 k y)) (λ e. subst (In v) (sym e) mv.put) (mf.only k x); closed = λ k x. closed k (mv.only k x) }
      where
        closed : (k : ℕ) → In u k ⊎ (k ≡ own) → In f k ⊎ Stays E by v k
        closed k (inl x) = ⊎_elim (λ y. inl (mf.more k y)) (λ (y : Stays E (set by own 0) u k). inr (y.0, (freed-back by own k y.0 (held_in by own i own_held) y.1).1, λ a e. mv.more a (y.2 a e))) (c.0 k x)
        closed k (inr e) = inl (subst (In f) (sym e) mf.put)

-- ---- one after the other

pub settled-start : (w n : ℕ) (E : ℕ → ℕ → Type 0) (by out : List ℕ) (f i : ℕ) → Settled w n E by out f i → SettledPost w n E out by out f i
settled-start w n E by out f i s = record { settled = s; beyond = λ m l. refl }

pub settled-more : (w n : ℕ) (E : ℕ → ℕ → Type 0) (out₀ by out by' out' : List ℕ) (f i f' i' : ℕ) → SettledPost w n E out₀ by out f i → SettledPost w n E out by' out' f' i' → SettledPost w n E out₀ by' out' f' i'
settled-more w n E out₀ by out by' out' f i f' i' a b = record { settled = b.settled; beyond = λ m l. b.beyond m l ∙ a.beyond m l }

pub settled-all : (w n : ℕ) (E : ℕ → ℕ → Type 0) (out₀ by out : List ℕ) (f : ℕ) → SettledPost w n E out₀ by out f n → SettledAll w n E out₀ by out
settled-all w n E out₀ by out f s = record { good = s.settled.good; all = s.settled.all; best = s.settled.best; beyond = s.beyond }

-- ---- the turns of its loop

-- what holds while input i asks for lower outputs: the inputs before it are settled, and its own is not dead
pub record Lower (w n : ℕ) (E : ℕ → ℕ → Type 0) (out₀ by out : List ℕ) (fixed dead own i : ℕ) : Type 0 where
  pub post : SettledPost w n E out₀ by out fixed i
  pub is : own ≡ joined out i
  pub dead-is : Dead E by fixed dead
  pub loose : In dead own → ⊥

pub lower-start : (w n : ℕ) (E : ℕ → ℕ → Type 0) (by out : List ℕ) (fixed dead d own i : ℕ) → Settled w n E by out fixed i → i < n → own ≡ joined out i → Dead E by fixed dead
    → ((d ≡ dead) × (In dead own → ⊥)) ⊎ (d ≡ fixed) → Lower w n E out by out fixed d own i
lower-start w n E by out fixed dead d own i s here is x e =
    let y = dead-still w n E by out fixed i own s here is dead d x e in
    record { post = settled-start w n E by out fixed i s; is = is; dead-is = y.0; loose = y.1 }

module _ (w n : ℕ) (E : ℕ → ℕ → Type 0) (out₀ by out : List ℕ) (fixed dead own i : ℕ) (here : i < n) (l : Lower w n E out₀ by out fixed dead own i) where
  pub lower-own : own < w
  lower-own = own_in w n E by out fixed i own l.post.settled here l.is

  module _ (row lower : ℕ) (b : Below row own lower) where
    pub lower-may : (some fresh j : ℕ) → But lower dead fresh → Sub some fresh → In some j → ((k : ℕ) → In row k → E i k) → Lowering w n E by out dead some own i
    lower-may some fresh j f sub has may =
        may-lower w n E by out fixed i own l.post.settled here l.is dead l.dead-is l.loose some j has (λ k x. may k (b.less k (f.less k (sub k x)))) (λ k x. b.small k (f.less k (sub k x))) (λ k x. f.gone k (sub k x))

    -- it has a lower one, and what was dead is
    pub lower-again : (some : ℕ) (by' out' : List ℕ) (g : Given) (u : Tried) → Sub some lower → Lowered w n E by out dead some own i by' out' (Freed g u) → Lower w n E out₀ by' out' fixed dead g.output.0 i × (g.output.0 < own)
    lower-again some by' out' g u sub m = (record { post = settled-more w n E out₀ by out by' out' fixed i fixed i l.post t; is = sym m.2; dead-is = dead-moved; loose = loose }, b.small g.output.0 (sub g.output.0 m.3))
      where
        t : SettledPost w n E out by' out' fixed i
        t = lower-settled w n E by out fixed i own l.post.settled here l.is dead l.dead-is l.loose by' out' m.0 m.1

        dead-moved : Dead E by' fixed dead
        dead-moved = record {
          more = l.dead-is.more;
          closed = λ k x. ⊎_elim (λ y. inl y) (λ (y : Stays E by dead k). inr (y.0, m.1.around.still k x ∙ freed-other by own k y.0 (λ e. l.loose (subst (In dead) e x)) y.1, y.2)) (l.dead-is.closed k x);
        }

        loose : In dead g.output.0 → ⊥
        loose x = lower-idle w n E by out fixed i own l.post.settled here l.is (g.output.0, sym (m.1.around.still g.output.0 x) ∙ subst (λ (k : ℕ). Held by' k i) m.2 m.1.holds)

    -- none of them can be had: they are dead too, and there is one more than were
    pub lower-more : (some j : ℕ) (by' out' : List ℕ) (u : Tried) → In some j → j < w → (In dead j → ⊥) → Lowered w n E by out dead some own i by' out' (Stuck u) → Lower w n E out₀ by' out' fixed (tried_of u) own i × (absent w (tried_of u) < absent w dead)
    lower-more some j by' out' u here' small new m = (rw (m.0, m.1) (record { post = l.post; is = l.is; dead-is = y.0; loose = y.1 }), absent-less dead (tried_of u) m.2.more w j small new (m.2.all j here'))
      where
        y : Dead E by fixed (tried_of u) × (In (tried_of u) own → ⊥)
        y = stuck-dead w n E by out fixed i own l.post.settled here l.is dead l.dead-is l.loose some (tried_of u) m.2

    -- all lower ones are dead: its own is the best, and fixed
    pub lower-ends : (f v : ℕ) → ((k : ℕ) → E i k → In row k) → Sub lower dead → Marked fixed own f → Marked dead own v → SettledPost w n E out₀ by out f (i + 1) × Dead E by f v
    lower-ends f v shut sub mf mv =
        let c = lower-dead w n E by out fixed i own l.post.settled here l.is dead l.dead-is l.loose in (
          record { settled = own-settled w n E by out fixed i own l.post.settled here l.is dead row lower f v c shut b sub mf mv; beyond = l.post.beyond },
          own-dead w n E by out fixed i own l.post.settled here l.is dead row lower f v c shut b sub mf mv,
        )
