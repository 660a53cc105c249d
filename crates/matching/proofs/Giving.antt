-- What is met is come to through holders that do not keep their outputs; and whatever is come to with more inputs kept is come to with fewer.
use Rattle.std.specs.Prelude.{None, Some}
use mathlib.Core.Path.{◌≡◌, subst, ◌∙◌}
use mathlib.Core.Logic.{◌⊎◌, inl, inr, ⊎_elim}
use mathlib.Core.List.{List}
use Prim.Native.Nat.{ℕ, ◌+◌, ◌-◌, ◌<◌, ◌≤◌}
use native.Mathlib.Decide.{dec_le}
use native.Mathlib.Omega.{arith}
use Rattle.sets.specs.Label.{In, Union, But, Cleared}
use Rattle.labels.specs.Ports.{UntriedAt}
use Rattle.std.specs.declared.option.Option.{Option}
use Rattle.switch.specs.declared.OutputPort.{OutputPort}
use Rattle.search.specs.Tables.{Held, joined}
use Rattle.search.specs.Search.{Leads}
use Rattle.search.proofs.Tables.{one-holder}
use Rattle.matching.specs.Chosen.{Reached, its_own, handed, Way, GivePre}

pub reached-fewer : (E : ℕ → ℕ → Type 0) (by : List ℕ) (kept fewer first : ℕ) {k : ℕ} → fewer ≤ kept → Reached E by kept first k → Reached E by fewer first k
reached-fewer E by kept fewer first l (its_own k x) = its_own k x
reached-fewer E by kept fewer first l (handed j m k r h q e) = handed j m k (reached-fewer E by kept fewer first l r) h (omega arith) e

-- the outputs of the inputs below `firm` are seen, and what is met is come to with these kept; or the way is known
pub record Giving (E : ℕ → ℕ → Type 0) (by out : List ℕ) (first from met firm seen : ℕ) : Type 0 where
  pub less : firm < from
  pub kept : (m : ℕ) → m < firm → In seen (joined out m)
  pub known : Way E by firm first ⊎ ((k : ℕ) → In met k → Reached E by firm first k)

module _ (w n : ℕ) (E : ℕ → ℕ → Type 0) (by out : List ℕ) (held fixed first from : ℕ) (p : GivePre w n E by out held fixed from) where
  -- one of them keeps its output no longer
  kept-fewer : (firm seen j seen' : ℕ) → firm < from → ((m : ℕ) → m < firm + 1 → In seen (joined out m)) → j ≡ joined out firm → Cleared seen j seen'
      → (m : ℕ) → m < firm → In seen' (joined out m)
  kept-fewer firm seen j seen' l kept e c m q = c.kept (joined out m) (kept m (omega arith)) new
    where
      new : joined out m ≡ j → ⊥
      new z = let s = one-holder by (joined out firm) m firm (subst (λ (k : ℕ). Held by k m) (z ∙ e) (p.held m (omega arith))) (p.held firm l) in omega arith

  pub giving-start : (j seen : ℕ) → j ≡ joined out (from - 1) → Cleared fixed j seen → Giving E by out first from first (from - 1) seen
  giving-start j seen e c = record {
    less = omega (arith, p.some);
    kept = kept-fewer (from - 1) fixed j seen (omega (arith, p.some)) (λ m l. p.prefix.got m (omega (arith, p.some))) e c;
    known = inr (λ k x. its_own k x);
  }

  module _ (met firm seen : ℕ) (g : Giving E by out first from met firm seen) where
    pub giving-fewer : (j seen' : ℕ) → 0 < firm → j ≡ joined out (firm - 1) → Cleared seen j seen' → Giving E by out first from met (firm - 1) seen'
    giving-fewer j seen' some e c = record {
      less = omega (arith, g.less);
      kept = kept-fewer (firm - 1) seen j seen' (omega (arith, g.less)) (λ m l. g.kept m (omega arith)) e c;
      known = ⊎_elim (λ a. inl (a.0, fewer a.0 a.1, a.2)) (λ f. inr (λ k x. fewer k (f k x))) g.known;
    }
      where
        fewer : (k : ℕ) → Reached E by firm first k → Reached E by (firm - 1) first k
        fewer k = reached-fewer E by firm (firm - 1) first (omega arith)

    module _ (wave further : ℕ) (b : But met seen wave) where
      -- what a wave leads to is come to: its holders do not keep their outputs
      pub led-to : (f : (Option OutputPort)) → Leads E by wave f further → Way E by firm first ⊎ ((k : ℕ) → In further k → Reached E by firm first k)
      led-to f x = ⊎_elim inl (go f x) g.known
        where
          loose : (j m : ℕ) → In wave j → Held by j m → Dec (firm ≤ m) → firm ≤ m
          loose j m y h (yes l) = l
          loose j m y h (no l) = absurd (b.gone j y (subst (In seen) (p.good.paired j m h) (g.kept m (omega arith))))

          go : (f : (Option OutputPort)) → Leads E by wave f further → ((k : ℕ) → In met k → Reached E by firm first k) → Way E by firm first ⊎ ((k : ℕ) → In further k → Reached E by firm first k)
          go (Some j) (inside, here, free) r = inl (j.0, r j.0 (b.less j.0 inside), free)
          go None s r = inr (λ k y. let a = s.from k y in handed a.0 a.1 k (r a.0 (b.less a.0 a.2)) a.3 (loose a.0 a.1 a.2 a.3 (dec_le firm a.1)) a.4)

      module _ (f : (Option OutputPort)) (x : Leads E by wave f further) where
        pub giving-way : (j : ℕ) → UntriedAt w further held j → Way E by firm first
        giving-way j u = ⊎_elim (λ a. a) (λ r. (j, r j u.here, p.free j u.small u.new)) (led-to f x)

        pub giving-on : (seen' met' : ℕ) → Union seen wave seen' → Union met further met' → Giving E by out first from met' firm seen'
        giving-on seen' met' s u = record {
          less = g.less;
          kept = λ m l. s.left (joined out m) (g.kept m l);
          known = ⊎_elim inl (λ r. ⊎_elim inl (λ q. inr (λ k y. ⊎_elim (q k) (r k) (u.only k y))) g.known) (led-to f x);
        }
