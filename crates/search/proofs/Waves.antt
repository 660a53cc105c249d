-- A wave is asked word by word, each word output by output; the rows of the holders met are what it leads to.
use Rattle.std.specs.Prelude.{None, Some}
use mathlib.Core.Path.{◌≡◌, sym, ap, subst, ◌∙◌}
use mathlib.Core.Logic.{◌⊎◌, inl, inr, ⊎_elim}
use mathlib.Core.List.{List}
use lib.ListN.{get_or, set}
use Prim.Native.Nat.{ℕ, ◌+◌, ◌-◌, ◌^◌, ◌<◌}
use native.Mathlib.Decide.{dec_lt}
use native.Mathlib.Omega.{arith}
use Rattle.sets.specs.Label.{In, Sub, Cleared, Union}
use Rattle.sets.specs.Wide.{two}
use Rattle.std.specs.declared.option.Option.{Option}
use Rattle.sets.proofs.Digits.{same_or, digit-in}
use Rattle.sets.proofs.Words.{low, high}
use Rattle.switch.specs.declared.OutputPort.{OutputPort}
use Rattle.search.specs.Tables.{Held}
use Rattle.search.specs.Search.{Stays, Grown, Reaches, Further, Leads, Mover, Movable, Handed}
use Rattle.search.proofs.Tables.{one-holder}
use Rattle.search.proofs.Search.{stays-more}

-- what the outputs of a word that are met already lead to: all but the rest
pub record Part (E : ℕ → ℕ → Type 0) (by : List ℕ) (word base before rest r : ℕ) : Type 0 where
  pub less : Sub rest word
  pub more : Sub before r
  pub all : (k : ℕ) → In word k → (In rest k → ⊥) → Stays E by r (base + k)
  pub from : (k : ℕ) → In r k → In before k ⊎ ((j i : ℕ) × In word j × Held by (base + j) i × E i k)

module _ (E : ℕ → ℕ → Type 0) (by : List ℕ) (word base before : ℕ) where
  pub part-start : Part E by word base before word before
  part-start = record { less = λ k x. x; more = λ k x. x; all = λ k x f. absurd (f x); from = λ k x. inl x }

  -- output j is met, and its holder's row is added
  pub part-more : (rest r row rest' r' j i : ℕ) → Part E by word base before rest r → In rest j → Cleared rest j rest' → Union r row r' → Held by (base + j) i
      → ((k : ℕ) → E i k → In row k) → ((k : ℕ) → In row k → E i k) → Part E by word base before rest' r'
  part-more rest r row rest' r' j i p here cl un h shut edge = record {
    less = λ k x. p.less k (cl.less k x);
    more = λ k x. un.left k (p.more k x);
    all = λ k x f. all k x f (same_or k j);
    from = λ k x. ⊎_elim (λ y. p.from k y) (λ y. inr (j, i, p.less j here, h, edge k y)) (un.only k x);
  }
    where
      all : (k : ℕ) → In word k → (In rest' k → ⊥) → (k ≡ j) ⊎ (k ≡ j → ⊥) → Stays E by r' (base + k)
      all k x f (inl e) = (i, subst (λ (q : ℕ). Held by (base + q) i) (sym e) h, λ a y. un.right a (shut a y))
      all k x f (inr d) = stays-more E by r r' (base + k) un.left (p.all k x (λ y. f (cl.kept k y d)))

  -- nothing is left
  pub part_end : (rest r : ℕ) → Part E by word base before rest r → ((k : ℕ) → In rest k → ⊥) → Grown E by word base before r
  part_end rest r p none = record { more = p.more; all = λ k x. p.all k x (none k); from = p.from }

-- ---- both words

abbrev is-nothing : (Option OutputPort) → Type 0
is-nothing (Some j) = ⊥
is-nothing None = Unit {0}

module _ (E : ℕ → ℕ → Type 0) (by : List ℕ) (a r : ℕ) (hr : r < 2 ^ 64) where
  pub in-low : (k : ℕ) → k < 64 → In r k → In (two a r) k
  in-low k l x = low a r k l ∙ x

  pub in-high : (k : ℕ) → In a k → In (two a r) (64 + k)
  in-high k x = high a r k hr ∙ x

  both_words : (none before u : ℕ) → ((k : ℕ) → In none k → ⊥) → Grown E by r 0 none before → Grown E by a 64 before u → Further E by (two a r) u
  both_words none before u empty l h = record { all = λ k x. all k x (dec_lt k 64); from = λ k x. ⊎_elim (λ y. ⊎_elim (λ z. absurd (empty k z)) low-from (l.from k y)) high-from (h.from k x) }
    where
      all : (k : ℕ) → In (two a r) k → Dec (k < 64) → Stays E by u k
      all k x (yes q) = let e : 0 + k ≡ k = omega arith in stays-more E by before u k h.more (subst (Stays E by before) e (l.all k (sym (low a r k q) ∙ x)))
      all k x (no q) =
          let e : 64 + (k - 64) ≡ k = omega arith in
          subst (Stays E by u) e (h.all (k - 64) (sym (high a r (k - 64) hr) ∙ subst (In (two a r)) (sym e) x))

      low-from : {k : ℕ} → ((j i : ℕ) × In r j × Held by (0 + j) i × E i k) → (j i : ℕ) × In (two a r) j × Held by j i × E i k
      low-from y = let e : 0 + y.0 ≡ y.0 = omega arith in (y.0, y.1, in-low y.0 (digit-in 64 r y.0 hr y.2) y.2, subst (λ (q : ℕ). Held by q y.1) e y.3, y.4)

      high-from : {k : ℕ} → ((j i : ℕ) × In a j × Held by (64 + j) i × E i k) → (j i : ℕ) × In (two a r) j × Held by j i × E i k
      high-from y = (64 + y.0, y.1, in-high y.0 y.2, y.3, y.4)

  -- an output of the low word is free
  pub low-leads : (none u : ℕ) (f : (Option OutputPort)) {x : OutputPort} → f ≡ Some x → Reaches E by r 0 none f u → Leads E by (two a r) f u
  low-leads none u (Some j) e y = let q : j.0 ≡ y.0 = y.2 ∙ omega arith in (subst (In (two a r)) (sym q) (in-low y.0 (digit-in 64 r y.0 hr y.1) y.1), omega (arith, y.3), y.4)
  low-leads none u None e y = absurd (differ e)
    where
      differ : {z : OutputPort} → None ≡ Some z → ⊥
      differ q = subst is-nothing q tt

  -- none is: it is the high word's to say
  pub high-leads : (none before u : ℕ) (g f : (Option OutputPort)) → ((k : ℕ) → In none k → ⊥) → g ≡ None → Reaches E by r 0 none g before → Reaches E by a 64 before f u → Leads E by (two a r) f u
  high-leads none before u g (Some j) empty e l y = (subst (In (two a r)) (sym y.2) (in-high y.0 y.1), omega (arith, y.3), y.4)
  high-leads none before u g None empty e l h = both_words none before u empty (subst (λ (x : (Option OutputPort)). Reaches E by r 0 none x before) e l) h

-- ---- who can move

module _ (w n : ℕ) (E : ℕ → ℕ → Type 0) (by : List ℕ) (wave wanted : ℕ) (m : Movable w n E by wave wanted) (j : ℕ) (here : In wave j) where
  pub holder-of : Held by j (get_or by j 0 - 1)
  holder-of = omega (arith, (m.held j here).1)

  pub holder-port : get_or by j 0 - 1 < n
  holder-port = m.ports.port j (get_or by j 0 - 1) holder-of

  -- a holder that may not take the wanted output is not the one
  pub not-mover : (E (get_or by j 0 - 1) wanted → ⊥) → (k : ℕ) → k ≡ j → Mover E by wave wanted k → ⊥
  not-mover f k e y = f (subst (λ (i : ℕ). E i wanted) (one-holder by j y.1.0 (get_or by j 0 - 1) (subst (λ (q : ℕ). Held by q y.1.0) e y.1.1) holder-of) y.1.2)

  -- its holder takes the wanted output
  pub handed : (out by' out' by'' out'' : List ℕ) → Mover E by wave wanted j → by' ≡ set by j 0 → out' ≡ out → by'' ≡ set by' wanted (get_or by j 0 - 1 + 1)
      → out'' ≡ set out' (get_or by j 0 - 1) wanted → Handed E by out wave wanted j by'' out''
  handed out by' out' by'' out'' y e o f g = record {
    asked = here;
    input = get_or by j 0 - 1;
    held = holder-of;
    edge = subst (λ (i : ℕ). E i wanted) (one-holder by j y.1.0 (get_or by j 0 - 1) y.1.1 holder-of) y.1.2;
    holders = f ∙ ap (λ (l : List ℕ). set l wanted (get_or by j 0 - 1 + 1)) e;
    outputs = g ∙ ap (λ (l : List ℕ). set l (get_or by j 0 - 1) wanted) o;
  }
