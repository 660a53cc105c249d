-- An anti-rotation's places counted down from N - 1 are places counted up, so it takes every port once; and i and j meet in anti-rotation i + j.
use mathlib.Core.Path.{◌≡◌, sym, ap, ◌∙◌}
use Prim.Native.Nat.{ℕ, suc, ◌+◌, ◌-◌, ◌%◌, ◌≤◌, ◌<◌}
use native.Mathlib.Omega.{arith}
use native.Mathlib.Nat.{mod-lt, mod-eq_of_lt, mod-add-mod, add-mod_right}
use borrow.Author.Tests.{lt-ltb, le-ltb}
use Rattle.switch.specs.Plan.{Full}
use Rattle.rules.specs.Doubled.{opposite, Joins}
use Rattle.rules.proofs.Rotate.{around-full}

pub opposite-in : (N k i : ℕ) → i < N → opposite N k i ≡ (k + (N - i)) % N
unfolding opposite
opposite-in N k i l = rw (lt-ltb i N l)

pub opposite-idle : (N k i : ℕ) → N ≤ i → opposite N k i ≡ 255
unfolding opposite
opposite-idle N k i l = rw (le-ltb i N l)

module _ (N : ℕ) (pos : 0 < N) where
  pub opposite-inside : (k i : ℕ) → i < N → opposite N k i < N
  opposite-inside k i l = rw (opposite-in N k i l) (mod-lt (k + (N - i)) pos)

  -- between them they join every pair, input i to output j in anti-rotation (i + j) mod N
  pub opposite-joins : Joins N (opposite N)
  opposite-joins = record { full = full; which = λ i j. (i + j) % N; inside = λ i j _ _. mod-lt (i + j) pos; joins = joins }
    where
      -- a place counted down from N - 1 is one counted up
      down : (k a : ℕ) → a < N → opposite N k a ≡ (N - suc a + suc k) % N
      down k a l = opposite-in N k a l ∙ ap (λ x. x % N) (let e : k + (N - a) ≡ N - suc a + suc k = omega arith in e)

      full : (k : ℕ) → k < N → Full N (opposite N k)
      full k _ = record {
        inside = opposite-inside k;
        once = λ a b la lb e.
            let q = (around-full N pos (suc k)).once (N - suc a) (N - suc b) (omega arith) (omega arith) (sym (down k a la) ∙ e ∙ down k b lb) in
            omega (arith, q);
      }

      joins : (i j : ℕ) → i < N → j < N → opposite N ((i + j) % N) i ≡ j
      joins i j li lj =
          opposite-in N ((i + j) % N) i li ∙ mod-add-mod (i + j) N (N - i) ∙ ap (λ x. x % N) (let e : i + j + (N - i) ≡ j + N = omega arith in e)
          ∙ add-mod_right j N ∙ mod-eq_of_lt lj
