-- The next finish: nothing ends between now and then, and something ends then.
use mathlib.Core.Path.{◌≡◌, refl, ap₂}
use mathlib.Core.Bool.{cond}
use Prim.Native.Nat.{ℕ, zero, suc, ◌≤◌, ◌<◌}
use native.Mathlib.Decide.{ℕ_discrete, dec_lt}
use native.Mathlib.Omega.{arith}
use lib.Dec.{ltb}
use borrow.Author.Tests.{lt-ltb, le-ltb}
use Rattle.shop_rule.specs.Shop.{sooner, next}

-- u is the first of f 0 .. f (n - 1) after t, or t
pub record Next (n t : ℕ) (f : ℕ → ℕ) (u : ℕ) : Type 0 where
  pub from : t ≤ u
  pub after : (b : ℕ) → b < n → t < f b → t < u
  pub first : (b : ℕ) → b < n → t < f b → u ≤ f b
  pub one : t < u → (b : ℕ) × (b < n) × (f b ≡ u)

module _ (n t : ℕ) (f : ℕ → ℕ) (m : ℕ) (g : Next n t f m) where
  -- the last one is after t, and sooner than the others or the only one
  last : t < f n → ((b : ℕ) → b < n → t < f b → f n ≤ f b) → Next (suc n) t f (f n)
  last l h = record {
    from = omega arith;
    after = λ _ _ _. l;
    first = λ b lb p. at b lb p (ℕ_discrete b n);
    one = λ _. (n, omega arith, refl);
  }
    where
      at : (b : ℕ) → b < suc n → t < f b → Dec (b ≡ n) → f n ≤ f b
      at b lb p (yes e) = rw e (omega arith)
      at b lb p (no e) = h b (omega arith) p

  -- the last one does not count, or is no sooner
  others : (t < f n → (t < m) × (m ≤ f n)) → Next (suc n) t f m
  others h = record {
    from = g.from;
    after = λ b lb p. after b lb p (ℕ_discrete b n);
    first = λ b lb p. first b lb p (ℕ_discrete b n);
    one = λ p. let r = g.one p in (r.0, omega (arith, r.1), r.2);
  }
    where
      after : (b : ℕ) → b < suc n → t < f b → Dec (b ≡ n) → t < m
      after b lb p (yes e) = (h (rw e at p)).0
      after b lb p (no e) = g.after b (omega arith) p

      first : (b : ℕ) → b < suc n → t < f b → Dec (b ≡ n) → m ≤ f b
      first b lb p (yes e) = rw e (h (rw e at p)).1
      first b lb p (no e) = g.first b (omega arith) p

  next_last : Next (suc n) t f (sooner t m (f n))
  unfolding sooner
  next_last = go (dec_lt t (f n)) (dec_lt t m) (dec_lt (f n) m)
    where
      go : Dec (t < f n) → Dec (t < m) → Dec (f n < m) → Next (suc n) t f (cond (ltb t (f n)) (cond (ltb t m) (cond (ltb (f n) m) (f n) m) (f n)) m)
      go (no a) b c = rw (le-ltb t (f n) (omega arith)) (others (λ p. absurd (a p)))
      go (yes a) (no b) c = rw (lt-ltb t (f n) a, le-ltb t m (omega arith)) (last a (λ x lx p. absurd (b (g.after x lx p))))
      go (yes a) (yes b) (yes c) = rw (lt-ltb t (f n) a, lt-ltb t m b, lt-ltb (f n) m c) (last a (λ x lx p. omega (arith, g.first x lx p)))
      go (yes a) (yes b) (no c) = rw (lt-ltb t (f n) a, lt-ltb t m b, le-ltb (f n) m (omega arith)) (others (λ p. (b, omega arith)))

pub next-is : (n t : ℕ) (f : ℕ → ℕ) → Next n t f (next n t f)
unfolding next
next-is zero t f = record { from = omega arith; after = λ b l p. absurd (omega arith); first = λ b l p. absurd (omega arith); one = λ p. absurd (omega arith) }
next-is (suc n) t f = next_last n t f (next n t f) (next-is n t f)

pub next-cong : (n t : ℕ) (f g : ℕ → ℕ) → ((j : ℕ) → f j ≡ g j) → next n t f ≡ next n t g
unfolding next
next-cong zero t f g h = refl
next-cong (suc n) t f g h = ap₂ (sooner t) (next-cong n t f g h) (h n)
