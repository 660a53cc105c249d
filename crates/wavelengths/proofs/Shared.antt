-- Going (j - i) mod N on from i leads to j, and nothing else below N does; the most inputs that share a wavelength is one of the counts, or 0.
use Rattle.std.specs.Prelude.{None, Some}
use Rattle.std.specs.declared.option.Option.{Option}
use Rattle.std.specs.Option.{MatchOption, unwrap_or}
use mathlib.Core.Path.{◌≡◌, sym, ap, ◌∙◌}
use mathlib.Core.Logic.{◌⊎◌, inl, inr, dite}
use mathlib.Core.List.{List}
use Prim.Native.Nat.{ℕ, ◌+◌, ◌-◌, ◌%◌, ◌≤◌, ◌<◌}
use native.Mathlib.Nat.{mod-lt, mod-eq_of_lt, mod-add-mod, add-mod-mod, add-mod_right, eq-zero-or-pos}
use native.Mathlib.Decide.{ℕ_discrete, dec_lt}
use native.Mathlib.Omega.{arith}
use lib.ListN.{length, get_or, set, take, length-set}
use lib.Seq.{get_or-set_same, get_or-set_other, get_or-take, length-take-le}
use borrow.Author.Tests.{lt-ltb, le-ltb}
use Rattle.counting.specs.Sum.{most}
use Rattle.counting.specs.Count.{ind, count, δ}
use Rattle.counting.proofs.Sum.{sum-zero, sum-next, sum-cong, sum_mono, sum-const, sum-none, sum-at}
use Rattle.counting.proofs.Most.{most-zero, most-at, most-le, most-one, most-cong}
use Rattle.counting.proofs.Count.{ind-le, δ-same, δ-other}
use Rattle.switch.specs.Plan.{Record, output}
use Rattle.switch.specs.Demand.{Blank}
use Rattle.wavelengths.specs.Shared.{wavelength, uses, sharing, most_shared, MostShared, Shares}

-- ---- wavelengths

module _ (N i j : ℕ) (li : i < N) (lj : j < N) where
  pub wavelength-in : wavelength N i j < N
  unfolding wavelength
  wavelength-in = mod-lt (j + (N - i)) (omega arith)

  -- it leads from i to j
  pub wavelength-leads : (i + wavelength N i j) % N ≡ j
  unfolding wavelength
  wavelength-leads = add-mod-mod i (j + (N - i)) N ∙ ap (λ x. x % N) (let e : i + (j + (N - i)) ≡ j + N = omega arith in e) ∙ add-mod_right j N ∙ mod-eq_of_lt lj

  -- and no other does
  pub wavelength-only : (w : ℕ) → w < N → (i + w) % N ≡ j → w ≡ wavelength N i j
  unfolding wavelength
  wavelength-only w lw e =
      sym (mod-eq_of_lt lw) ∙ sym (add-mod_right w N) ∙ ap (λ x. x % N) (let q : w + N ≡ i + w + (N - i) = omega arith in q)
      ∙ sym (mod-add-mod (i + w) N (N - i)) ∙ ap (λ x. (x + (N - i)) % N) e

-- ---- which inputs share one

module _ (N : ℕ) (r : Record) where
  pub idle-uses : (w i : ℕ) → N ≤ output r i → ind (uses N r w i) ≡ 0
  unfolding uses ind
  idle-uses w i l = rw (le-ltb (output r i) N l)

  pub joined-uses : (w i : ℕ) → output r i < N → ind (uses N r w i) ≡ δ (wavelength N i (output r i)) w
  unfolding uses δ
  joined-uses w i l = rw (lt-ltb (output r i) N l)

  -- no more than there are inputs
  pub share-le : (n w : ℕ) → count n (uses N r w) ≤ n
  unfolding count
  share-le n w = omega (arith, sum_mono n (λ i. ind (uses N r w i)) (λ _. 1) (λ i _. ind-le (uses N r w i)), sum-const n 1)

  -- past the wavelengths there is nothing to share
  past-none : (w : ℕ) → N ≤ w → sharing N r w ≡ 0
  unfolding sharing count
  past-none w l = sum-none N (λ i. ind (uses N r w i)) none
    where
      none : (i : ℕ) → i < N → ind (uses N r w i) ≡ 0
      none i li =
          dite (dec_lt (output r i) N)
          (λ o. joined-uses w i o ∙ δ-other _ _ (λ e. omega (arith, e, wavelength-in N i (output r i) li o)))
          (λ g. idle-uses w i (omega (arith, g)))

  share-within : (w : ℕ) → sharing N r w ≤ most_shared N r
  unfolding most_shared
  share-within w = dite (dec_lt w N) (λ l. most-at N (sharing N r) w l) (λ g. omega (arith, past-none w (omega (arith, g))))

  -- some wavelength has that many inputs, and none has more
  pub most-shared : MostShared N r (most_shared N r)
  unfolding most_shared
  most-shared = record { some = λ p. most-one N (sharing N r) p; no_more = share-within }

  -- and only one number is so
  pub most-shared-only : (m : ℕ) → MostShared N r m → m ≡ most_shared N r
  most-shared-only m s = omega (arith, above (eq-zero-or-pos m), below)
    where
      below : most_shared N r ≤ m
      below = unfold most_shared in most-le N m (sharing N r) (λ w _. s.no_more w)

      above : (m ≡ 0) ⊎ (0 < m) → m ≤ most_shared N r
      above (inl e) = omega arith
      above (inr p) = let w = s.some p in omega (arith, w.2, share-within w.0)

  -- it is 0 where all inputs are idle
  pub all-idle : ((i : ℕ) → i < N → N ≤ output r i) → most_shared N r ≡ 0
  all-idle h = sym (most-shared-only 0 (record { some = λ p. absurd (let f : ⊥ = omega arith in f); no_more = none }))
    where
      none : (w : ℕ) → sharing N r w ≤ 0
      none w = unfold sharing count in omega (arith, sum-none N (λ i. ind (uses N r w i)) (λ i l. idle-uses w i (h i l)))

  -- and only there
  pub only-idle : most_shared N r ≡ 0 → (i : ℕ) → i < N → N ≤ output r i
  only-idle e i l =
      dite (dec_lt (output r i) N)
      (λ o. absurd (let f : ⊥ = omega (arith, share-within (wavelength N i (output r i)), one o) in f))
      (λ g. omega (arith, g))
    where
      one : output r i < N → 0 < sharing N r (wavelength N i (output r i))
      one o = unfold sharing count in
          omega (arith, sum-at N (λ k. ind (uses N r (wavelength N i (output r i)) k)) i l, joined-uses (wavelength N i (output r i)) i o, δ-same (wavelength N i (output r i)))

-- a rotation uses one wavelength on all its inputs, so its number is N
pub rotation-shares : (N : ℕ) (r : Record) (k : ℕ) → k < N → ((i : ℕ) → i < N → output r i ≡ (i + k) % N) → most_shared N r ≡ N
unfolding most_shared sharing count
rotation-shares N r k lk rotates = omega (arith, most-le N N (sharing N r) (λ w _. share-le N r N w), most-at N (sharing N r) k lk, all)
  where
    one : (i : ℕ) → i < N → ind (uses N r k i) ≡ 1
    one i l =
        let lj : output r i < N = rw (rotates i l) (mod-lt (i + k) (omega arith)) in
        joined-uses N r k i lj ∙ ap (λ (w : ℕ). δ w k) (sym (wavelength-only N i (output r i) l lj k lk (sym (rotates i l)))) ∙ δ-same k

    all : sharing N r k ≡ N
    all = omega (arith, sum-cong N (λ i. ind (uses N r k i)) (λ _. 1) one, sum-const N 1)

-- ---- counting them input by input

-- the inputs before i have been counted
pub record Counted (N : ℕ) (r : Record) (s : List ℕ) (i : ℕ) : Type 0 where
  pub room : N ≤ length s
  pub is : (w : ℕ) → w < N → get_or s w 0 ≡ count i (uses N r w)

module _ (N : ℕ) (r : Record) (s : List ℕ) where
  pub counted_none : Blank N s → Counted N r s 0
  unfolding count
  counted_none c = record { room = c.room; is = λ w l. c.clear w ∙ sym (sum-zero (λ i. ind (uses N r w i))) }

  pub counted-all : (i : ℕ) → i ≡ N → Counted N r s i → Shares N r s
  unfolding sharing
  counted-all i e c = record { room = c.room; is = λ w l. c.is w l ∙ ap (λ (n : ℕ). count n (uses N r w)) e }

  module _ (i : ℕ) (c : Counted N r s i) where
    next : (w : ℕ) → count (i + 1) (uses N r w) ≡ count i (uses N r w) + ind (uses N r w i)
    unfolding count
    next w = sum-next i (λ k. ind (uses N r w k))

    -- input i is idle
    pub counted-idle : N ≤ output r i → Counted N r s (i + 1)
    counted-idle l = record { room = c.room; is = λ w lw. omega (arith, c.is w lw, next w, idle-uses N r w i l) }

    -- input i is joined to j
    module _ (j v : ℕ) (o : output r i ≡ j) (lj : j < N) (e : v ≡ wavelength N i j) (lv : v < N) where
      pub place-small : get_or s v 0 ≤ i
      place-small = omega (arith, c.is v lv, share-le N r i v)

      pub counted-joined : (s' : List ℕ) → s' ≡ set s v (get_or s v 0 + 1) → Counted N r s' (i + 1)
      counted-joined s' q = record { room = omega (arith, c.room, ap length q, length-set s v (get_or s v 0 + 1)); is = is }
        where
          used : (w : ℕ) → ind (uses N r w i) ≡ δ v w
          used w = joined-uses N r w i (omega (arith, o)) ∙ ap (λ (x : ℕ). δ x w) (ap (wavelength N i) o ∙ sym e)

          is : (w : ℕ) → w < N → get_or s' w 0 ≡ count (i + 1) (uses N r w)
          is w lw = dite (ℕ_discrete v w) same other
            where
              same : v ≡ w → get_or s' w 0 ≡ count (i + 1) (uses N r w)
              same x = rw (← x) (omega (arith, ap (λ (l : List ℕ). get_or l v 0) q, get_or-set_same s v (get_or s v 0 + 1) 0 (omega (arith, c.room)), c.is v lv, next v, used v, δ-same v))

              other : (v ≡ w → ⊥) → get_or s' w 0 ≡ count (i + 1) (uses N r w)
              other x = omega (arith, ap (λ (l : List ℕ). get_or l w 0) q, get_or-set_other s v w (get_or s v 0 + 1) 0 (λ y. x (sym y)), c.is w lw, next w, used w, δ-other v w x)

-- the largest of the counts
pub most-counted : (N : ℕ) (r : Record) (s : List ℕ) → Shares N r s → most (length (take N s)) (λ k. get_or (take N s) k 0) ≡ most_shared N r
unfolding most_shared
most-counted N r s c =
    ap (λ (n : ℕ). most n (λ k. get_or (take N s) k 0)) (length-take-le N s c.room)
    ∙ most-cong N (λ k. get_or (take N s) k 0) (sharing N r) (λ w lw. get_or-take N s w 0 lw ∙ c.is w lw)

-- ---- the largest of some numbers: one of them, and none is above it

pub largest-most : (n : ℕ) (f : ℕ → ℕ) (o : Option ℕ) → MatchOption o (n ≡ 0) (λ m. (k : ℕ) → k < n → f k ≤ m)
    → MatchOption o (n ≡ 0) (λ m. (k : ℕ) × (k < n) × (f k ≡ m)) → unwrap_or o 0 ≡ most n f
largest-most n f None z _ = rw z (sym (most-zero f))
largest-most n f (Some m) no_more k = omega (arith, k.2, most-at n f k.0 k.1, most-le n m f no_more)
