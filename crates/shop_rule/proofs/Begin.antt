-- What one start does: the pair's time passes from its lines' unstarted time to what its ports still have to run, so that the two together stay.
use mathlib.Core.Path.{◌≡◌, refl, sym, ap, ◌∙◌}
use mathlib.Core.Logic.{◌≢◌, ◌⊎◌, inl, inr}
use Prim.Native.Nat.{ℕ, ◌+◌, ◌-◌, ◌≤◌, ◌<◌}
use native.Mathlib.Decide.{ℕ_discrete}
use native.Mathlib.Omega.{arith}
use lib.Dec.{ltb}
use borrow.Author.Tests.{lt-ltb}
use Rattle.counting.specs.Sum.{sum}
use Rattle.counting.specs.Count.{ind}
use Rattle.counting.specs.Matrix.{row, col}
use Rattle.counting.proofs.Sum.{sum-change}
use Rattle.counting.proofs.Count.{ind-le}
use Rattle.counting.proofs.Matrix.{Raised, raised-row, raised-col, raised-other-row, raised-other-col, raised_all}
use Rattle.rules.specs.Search.{put}
use Rattle.rules.proofs.Ports.{put_same, put_other}
use Rattle.shop_rule.specs.Shop.{pairs, lasting, timed, Shop, begin}

pub lasting-none : (s : ℕ) → lasting s 0 ≡ 0
unfolding lasting
lasting-none s = refl

pub lasting-some : (s c : ℕ) → 0 < c → lasting s c ≡ s + c
unfolding lasting
lasting-some s c p = rw (lt-ltb 0 c p)

pub pairs-none : pairs 0 ≡ 0
unfolding pairs ind
pairs-none = refl

pub pairs-one : (c : ℕ) → 0 < c → pairs c ≡ 1
unfolding pairs ind
pairs-one c p = rw (lt-ltb 0 c p)

pub pairs-le : (c : ℕ) → pairs c ≤ 1
unfolding pairs
pairs-le c = ind-le (ltb 0 c)

-- ---- the pair (i, j) taken out of L

module _ (L : ℕ → ℕ → ℕ) (i j : ℕ) where
  abbrev pub without : ℕ → ℕ → ℕ
  without = put L i (put (L i) j 0)

  pub without_at : without i j ≡ 0
  without_at = ap (λ (f : ℕ → ℕ). f j) (put_same L i (put (L i) j 0)) ∙ put_same (L i) j 0

  pub without-row : (a b : ℕ) → a ≢ i → without a b ≡ L a b
  without-row a b h = ap (λ (f : ℕ → ℕ). f b) (put_other L i (put (L i) j 0) a h)

  pub without-col : (a b : ℕ) → b ≢ j → without a b ≡ L a b
  without-col a b h = go (ℕ_discrete a i)
    where
      go : Dec (a ≡ i) → without a b ≡ L a b
      go (yes e) = rw e (ap (λ (f : ℕ → ℕ). f b) (put_same L i (put (L i) j 0)) ∙ put_other (L i) j 0 b h)
      go (no e) = without-row a b e

  -- a pair that is left was left before, and is not the one taken out
  pub without-left : (a b : ℕ) → 0 < without a b → ((a ≢ i) ⊎ (b ≢ j)) × (without a b ≡ L a b)
  without-left a b p = go (ℕ_discrete a i) (ℕ_discrete b j)
    where
      go : Dec (a ≡ i) → Dec (b ≡ j) → ((a ≢ i) ⊎ (b ≢ j)) × (without a b ≡ L a b)
      go (no e) f = (inl e, without-row a b e)
      go (yes e) (no f) = (inr f, without-col a b f)
      go (yes e) (yes f) = absurd (omega (arith, ap (λ x. without x b) e ∙ ap (without i) f ∙ without_at))

  -- whatever is summed over the pairs left, and is 0 where nothing is
  pub without-raised : (N : ℕ) (g : ℕ → ℕ) → g 0 ≡ 0 → Raised N (λ a b. g (without a b)) (λ a b. g (L a b)) i j (g (L i j))
  without-raised N g z = record {
    at = omega (arith, ap g without_at, z);
    off-row = λ a b _ _ h. sym (ap g (without-row a b h));
    off-col = λ a b _ _ h. sym (ap g (without-col a b h));
  }

-- ---- time

-- the time ahead of input a and of output b: that of their tasks not started, and what they still have to run
unfoldable pub ahead : ℕ → ℕ → ℕ → Shop → ℕ → ℕ → ℕ
ahead N s t x a b = (row N (timed s x.left) a + (x.ins a - t)) + (col N (timed s x.left) b + (x.outs b - t))

-- the pairs not started and the outputs running
unfoldable pub undone : ℕ → ℕ → Shop → ℕ
undone N t x = sum N (row N (λ a b. pairs (x.left a b))) + sum N (λ b. pairs (x.outs b - t))

module _ (N s t : ℕ) (x : Shop) (i j : ℕ) (li : i < N) (lj : j < N) (p : 0 < x.left i j) (idle-in : x.ins i ≤ t) (idle-out : x.outs j ≤ t) where
  abbrev e : ℕ
  e = t + (s + x.left i j)

  abbrev off : Raised N (timed s (begin s t x i j).left) (timed s x.left) i j (lasting s (x.left i j))
  unfolding begin
  off = without-raised x.left i j N (lasting s) (lasting-none s)

  -- an input's time, started or not, stays
  in-ahead : (a : ℕ) → a < N
      → row N (timed s (begin s t x i j).left) a + ((begin s t x i j).ins a - t) ≡ row N (timed s x.left) a + (x.ins a - t)
  unfolding begin
  in-ahead a la = go (ℕ_discrete a i)
    where
      go : Dec (a ≡ i) → row N (timed s (begin s t x i j).left) a + ((begin s t x i j).ins a - t) ≡ row N (timed s x.left) a + (x.ins a - t)
      go (yes q) = rw q (omega (arith, raised-row N _ _ i j _ li lj off, put_same x.ins i e, lasting-some s (x.left i j) p))
      go (no q) = omega (arith, raised-other-row N _ _ i j _ li lj off a la q, put_other x.ins i e a q)

  out-ahead : (b : ℕ) → b < N
      → col N (timed s (begin s t x i j).left) b + ((begin s t x i j).outs b - t) ≡ col N (timed s x.left) b + (x.outs b - t)
  unfolding begin
  out-ahead b lb = go (ℕ_discrete b j)
    where
      go : Dec (b ≡ j) → col N (timed s (begin s t x i j).left) b + ((begin s t x i j).outs b - t) ≡ col N (timed s x.left) b + (x.outs b - t)
      go (yes q) = rw q (omega (arith, raised-col N _ _ i j _ li lj off, put_same x.outs j e, lasting-some s (x.left i j) p))
      go (no q) = omega (arith, raised-other-col N _ _ i j _ li lj off b lb q, put_other x.outs j e b q)

  pub begin-ahead : (a b : ℕ) → a < N → b < N → ahead N s t (begin s t x i j) a b ≡ ahead N s t x a b
  unfolding ahead
  begin-ahead a b la lb = omega (arith, in-ahead a la, out-ahead b lb)

  -- one pair less is not started, and one output more is running
  pub begin-undone : undone N t (begin s t x i j) ≡ undone N t x
  unfolding undone begin
  begin-undone = omega (
    arith,
    raised_all N _ _ i j _ li lj (without-raised x.left i j N pairs pairs-none),
    pairs-one (x.left i j) p,
    sum-change N (λ b. pairs (put x.outs j e b - t)) (λ b. pairs (x.outs b - t)) j lj (λ b _ h. ap (λ y. pairs (y - t)) (put_other x.outs j e b h)),
    now,
    idle,
  )
    where
      now : pairs (put x.outs j e j - t) ≡ 1
      now = pairs-one _ (omega (arith, put_same x.outs j e))

      idle : pairs (x.outs j - t) ≡ 0
      idle = let z : x.outs j - t ≡ 0 = omega arith in rw z pairs-none
