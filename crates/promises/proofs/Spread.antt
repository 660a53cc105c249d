-- Anti-rotation k takes input i by wavelength (k - 2i) mod N: for two inputs that is the same only where twice the one and twice the other
-- differ by 0 or N, so at most one input has a wavelength when N is odd, and one in each half when N is even.
use mathlib.Core.Path.{◌≡◌, sym, ap, ◌∙◌}
use mathlib.Core.Logic.{◌⊎◌, inl, inr, dite, ⊎_elim}
use mathlib.Core.List.{List, ◌++◌}
use Prim.Native.Nat.{ℕ, zero, suc, ◌+◌, ◌-◌, ◌/◌, ◌%◌, ◌≤◌, ◌<◌}
use native.Mathlib.Nat.{mod-add-mod, add-mod_right}
use native.Mathlib.Decide.{ℕ_discrete, dec_lt}
use native.Mathlib.Omega.{arith}
use borrow.Author.Tests.{eq-eqb, ne_eqb}
use Rattle.counting.specs.Sum.{sum}
use Rattle.counting.specs.Count.{ind, count}
use Rattle.counting.proofs.Sum.{sum-cong, sum-split, sum-most}
use Rattle.counting.proofs.Count.{ind-le, δ-pos}
use Rattle.switch.specs.Plan.{Record, output}
use Rattle.rules.specs.Exact.{tab}
use Rattle.rules.specs.Doubled.{opposite, held, turns}
use Rattle.rules.proofs.Rotate.{around-full}
use Rattle.rules.proofs.Opposite.{opposite-in, opposite-inside}
use Rattle.rules.proofs.Peels.{get_or-tab}
use Rattle.switch.specs.Sound.{Each, none, more}
use Rattle.wavelengths.specs.Shared.{wavelength, uses, sharing}
use Rattle.wavelengths.proofs.Shared.{joined-uses}
use Rattle.promises.specs.Spread.{allowed, Spread}

module _ (N : ℕ) (pos : 0 < N) where
  -- equal remainders less than 2N apart
  near : (a b : ℕ) → a ≤ b → b < a + (N + N) → a % N ≡ b % N → (b ≡ a) ⊎ (b ≡ a + N)
  near a b l m e =
      dite (dec_lt (b - a) N)
      (λ s. inl (omega (arith, same (b - a) s (ap (λ x. x % N) (let q : b - a + a ≡ b = omega arith in q) ∙ sym e))))
      (λ g. inr (omega (arith, g, same (b - a - N) (omega (arith, g)) (sym (add-mod_right (b - a - N + a) N) ∙ ap (λ x. x % N) (let q : b - a - N + a + N ≡ b = omega (arith, g) in q) ∙ sym e))))
    where
      same : (v : ℕ) → v < N → (v + a) % N ≡ a % N → v ≡ 0
      same v lv q = (around-full N pos a).once v 0 lv pos (q ∙ ap (λ x. x % N) (let z : a ≡ 0 + a = omega arith in z))

  -- the wavelength of input i in anti-rotation k
  by-twice : (k i : ℕ) → i < N → wavelength N i (opposite N k i) ≡ (k + (N - i) + (N - i)) % N
  unfolding wavelength
  by-twice k i l = ap (λ x. (x + (N - i)) % N) (opposite-in N k i l) ∙ mod-add-mod (k + (N - i)) N (N - i)

  -- two inputs with one wavelength
  twice : (k a b : ℕ) → a ≤ b → b < N → wavelength N a (opposite N k a) ≡ wavelength N b (opposite N k b) → (a ≡ b) ⊎ (b + b ≡ a + a + N)
  twice k a b l lb e =
      ⊎_elim (λ x. inl (omega (arith, x))) (λ x. inr (omega (arith, x)))
      (near (k + (N - b) + (N - b)) (k + (N - a) + (N - a)) (omega arith) (omega arith) (sym (by-twice k b lb) ∙ sym e ∙ by-twice k a (omega arith)))

  -- ---- a record of anti-rotation k
  module _ (k : ℕ) (r : Record) (is : (i : ℕ) → i < N → output r i ≡ opposite N k i) (w : ℕ) where
    abbrev one : ℕ → ℕ
    one i = ind (uses N r w i)

    by : (i : ℕ) → i < N → 0 < one i → wavelength N i (opposite N k i) ≡ w
    by i l p =
        let inside : output r i < N = omega (arith, is i l, opposite-inside N pos k i l) in
        ap (wavelength N i) (sym (is i l)) ∙ δ-pos (wavelength N i (output r i)) w (omega (arith, joined-uses N r w i inside))

    -- two inputs that are counted, the first not behind the second
    pair : (a b : ℕ) → a ≤ b → b < N → 0 < one a → 0 < one b → (a ≡ b) ⊎ (b + b ≡ a + a + N)
    pair a b l lb p q = twice k a b l lb (by a (omega arith) p ∙ sym (by b lb q))

    -- n inputs from m on, of which no two can differ by half of N
    part : (m n : ℕ) → m + n ≤ N → ((a b : ℕ) → a < n → b < n → b + b ≡ a + a + N → ⊥) → sum n (λ i. one (m + i)) ≤ 1
    part m n l apart = sum-most n 1 (λ i. one (m + i)) (λ i _. ind-le (uses N r w (m + i))) same
      where
        ordered : (a b : ℕ) → a ≤ b → a < n → b < n → 0 < one (m + a) → 0 < one (m + b) → a ≡ b
        ordered a b o la lb p q =
            ⊎_elim (λ x. omega (arith, x)) (λ x. absurd (apart a b la lb (omega (arith, x)))) (pair (m + a) (m + b) (omega arith) (omega arith) p q)

        same : (a b : ℕ) → a < n → b < n → 0 < one (m + a) → 0 < one (m + b) → a ≡ b
        same a b la lb p q = dite (dec_lt b a) (λ o. sym (ordered b a (omega arith) lb la q p)) (λ o. ordered a b (omega (arith, o)) la lb p q)

    -- counted from input 0 on
    from_start : (n : ℕ) → sum n one ≡ sum n (λ i. one (0 + i))
    from_start n = sum-cong n one (λ i. one (0 + i)) (λ i _. ap one (let e : i ≡ 0 + i = omega arith in e))

    spread-odd : N % 2 ≡ 1 → sharing N r w ≤ 1
    unfolding sharing count
    spread-odd odd = omega (arith, from_start N, part 0 N (omega arith) (λ a b _ _ e. omega (arith, e, odd)))

    spread-even : N % 2 ≡ 0 → sharing N r w ≤ 2
    unfolding sharing count
    spread-even even = halves (N / 2) (omega arith)
      where
        halves : (h : ℕ) → N ≡ h + h → sum N one ≤ 2
        halves h e =
            omega (
              arith,
              ap (λ (n : ℕ). sum n one) e,
              sum-split h h one,
              from_start h,
              part 0 h (omega (arith, e)) (λ a b la lb q. omega (arith, q, e)),
              part h h (omega (arith, e)) (λ a b la lb q. omega (arith, q, e)),
            )

    -- at most once when N is odd, at most twice when N is even
    opposite-uses : sharing N r w ≤ allowed N
    unfolding allowed
    opposite-uses =
        dite (ℕ_discrete (N % 2) 0)
        (λ e. rw (eq-eqb (N % 2) 0 e) (spread-even e))
        (λ e. rw (ne_eqb (N % 2) 0 e) (spread-odd (omega (arith, e))))

-- ---- the second part

module _ (W N : ℕ) (pos : 0 < N) (top : N ≤ W) (H : ℕ → ℕ) where
  -- none of its records has a wavelength twice for N odd, or three times for N even (§13.6)
  pub second-spread : (n k : ℕ) → Each (Spread N) (turns W (opposite N) H n k)
  unfolding turns
  second-spread zero k = none
  second-spread (suc n) k = one (H k) (second-spread n (suc k))
    where
      outputs-are : (h i : ℕ) → i < N → output (record { hold = h; outputs = tab W 0 (opposite N k) }) i ≡ opposite N k i
      outputs-are h i l = unfold output in get_or-tab W 0 (opposite N k) i 255 (omega arith) ∙ ap (opposite N k) (let e : 0 + i ≡ i = omega arith in e)

      one : (h : ℕ) {p : List Record} → Each (Spread N) p → Each (Spread N) (held W h (opposite N k) ++ p)
      one zero s = unfold held in s
      one (suc h) s = unfold held in more (record { uses = λ w. opposite-uses N pos k (record { hold = suc h; outputs = tab W 0 (opposite N k) }) (outputs-are (suc h)) w }) s
