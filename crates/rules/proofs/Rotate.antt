-- Going s on around N ports is undone by going N less s mod N on, so it takes every port once; and j is reached from i by going j + N - i on.
use mathlib.Core.Path.{◌≡◌, sym, ap, ◌∙◌}
use mathlib.Core.List.{List, []}
use Prim.Native.Nat.{ℕ, suc, ◌+◌, ◌*◌, ◌-◌, ◌%◌, ◌≤◌, ◌<◌}
use native.Mathlib.Omega.{arith}
use native.Mathlib.Nat.{mod-lt, mod-eq_of_lt, mod-add-mod, add-mod-mod, add-mod_right}
use lib.ListN.{length}
use borrow.Author.Tests.{lt-ltb, le-ltb, eq-eqb}
use Rattle.switch.specs.Demand.{cell, longest}
use Rattle.switch.specs.Plan.{Full}
use Rattle.rules.specs.Doubled.{rotate, alike, doubled_by, every_rotation_plan, Joins, Doubled}
use Rattle.rules.proofs.Doubled.{doubled-any}

pub rotate-in : (N k i : ℕ) → i < N → rotate N k i ≡ (i + k) % N
unfolding rotate
rotate-in N k i l = rw (lt-ltb i N l)

pub rotate-idle : (N k i : ℕ) → N ≤ i → rotate N k i ≡ 255
unfolding rotate
rotate-idle N k i l = rw (le-ltb i N l)

module _ (N : ℕ) (pos : 0 < N) where
  -- once around
  around-once : (a : ℕ) → a < N → (a + N) % N ≡ a
  around-once a l = add-mod_right a N ∙ mod-eq_of_lt l

  back : (s a : ℕ) → a < N → ((a + s) % N + (N - s % N)) % N ≡ a
  back s a l =
      ap (λ x. (x + (N - s % N)) % N) (sym (add-mod-mod a s N)) ∙ mod-add-mod (a + s % N) N (N - s % N)
      ∙ ap (λ x. x % N) (omega (arith, mod-lt s pos)) ∙ around-once a l

  -- from s on around all ports, each once
  pub around-full : (s : ℕ) → Full N (λ v. (v + s) % N)
  around-full s = record {
    inside = λ v l. mod-lt (v + s) pos;
    once = λ a b la lb e. sym (back s a la) ∙ ap (λ x. (x + (N - s % N)) % N) e ∙ back s b lb;
  }

  -- the visit that comes to port i
  pub around-reach : (s i : ℕ) → i < N → (v : ℕ) × (v < N) × ((v + s) % N ≡ i)
  around-reach s i l = (
    (i + (N - s % N)) % N,
    mod-lt (i + (N - s % N)) pos,
    mod-add-mod (i + (N - s % N)) N s ∙ sym (add-mod-mod (i + (N - s % N)) s N) ∙ ap (λ x. x % N) (omega (arith, mod-lt s pos)) ∙ around-once i l,
  )

  -- the rotations join every pair
  pub rotate-joins : Joins N (rotate N)
  rotate-joins = record { full = full; which = λ i j. (j + (N - i)) % N; inside = λ i j _ _. mod-lt (j + (N - i)) pos; joins = joins }
    where
      full : (k : ℕ) → k < N → Full N (rotate N k)
      full k _ = record {
        inside = λ i l. rw (rotate-in N k i l) (mod-lt (i + k) pos);
        once = λ a b la lb e. (around-full k).once a b la lb (sym (rotate-in N k a la) ∙ e ∙ rotate-in N k b lb);
      }

      joins : (i j : ℕ) → i < N → j < N → rotate N ((j + (N - i)) % N) i ≡ j
      joins i j li lj = rotate-in N ((j + (N - i)) % N) i li ∙ add-mod-mod i (j + (N - i)) N ∙ ap (λ x. x % N) (omega arith) ∙ around-once j lj

-- no records where T is 0 (§7.1)
pub doubled-empty : (W N : ℕ) (d : List ℕ) → longest N (cell N d) ≡ 0 → every_rotation_plan W N d ≡ []
unfolding every_rotation_plan doubled_by
doubled-empty W N d e = rw (eq-eqb (longest N (cell N d)) 0 e)

-- both bounds, and it covers (§7.6)
pub doubled : (W N : ℕ) → 0 < N → N ≤ W → (d : List ℕ) → N * N ≤ length d → Doubled N d (every_rotation_plan W N d)
unfolding every_rotation_plan alike
doubled W N pos top d s = doubled-any W N pos top (rotate N) (rotate-joins N pos) d s alike (λ v k. omega arith)
    (λ v i j li lj. omega (arith, mod-lt (cell N d i j) {m = suc v} (omega arith)))
