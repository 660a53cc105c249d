-- A number's decimal is that of its tenth and one digit more; so it says the number, starts with no needless zero, and is short.
use mathlib.Core.Path.{◌≡◌, refl, ap, ◌∙◌}
use mathlib.Core.Logic.{dite}
use mathlib.Core.List.{List, [], ◌∷◌, ◌++◌}
use Prim.Native.Nat.{ℕ, zero, suc, ◌+◌, ◌*◌, ◌-◌, ◌/◌, ◌%◌, ◌^◌, ◌<◌, ◌≤◌}
use native.Mathlib.Nat.{pow-suc}
use native.Mathlib.Decide.{dec_lt}
use native.Mathlib.Omega.{arith}
use lib.ListN.{length, get_or, length-append, get_or-append}
use lib.Seq.{get_or_at}
use borrow.Author.Tests.{lt-ltb, le-ltb}
use Rattle.text.specs.Decimal.{digit, digits_in, decimal, value_after, Decimal}

digits-one : (k n : ℕ) → n < 10 → digits_in (suc k) n ≡ digit n ∷ []
unfolding digits_in
digits-one k n l = rw (lt-ltb n 10 l)

digits_more : (k n : ℕ) → 10 ≤ n → digits_in (suc k) n ≡ digits_in k (n / 10) ++ (digit (n % 10) ∷ [])
unfolding digits_in
digits_more k n l = rw (le-ltb n 10 l)

-- more digits than are enough change nothing
digits_same : (k m n : ℕ) → n < k → n < m → digits_in k n ≡ digits_in m n
digits_same zero m n a b = absurd (omega arith)
digits_same (suc k) zero n a b = absurd (omega arith)
digits_same (suc k) (suc m) n a b =
    dite (dec_lt n 10)
    (λ l. rw (digits-one k n l, digits-one m n l))
    (λ g. let l : 10 ≤ n = omega (arith, g) in rw (digits_more k n l, digits_more m n l, digits_same k m (n / 10) (omega arith) (omega arith)))

pub decimal-one : (n : ℕ) → n < 10 → decimal n ≡ digit n ∷ []
unfolding decimal
decimal-one n l = digits-one n n l

pub decimal-more : (n : ℕ) → 10 ≤ n → decimal n ≡ decimal (n / 10) ++ (digit (n % 10) ∷ [])
unfolding decimal
decimal-more n l = digits_more n n l ∙ ap (λ (s : List ℕ). s ++ (digit (n % 10) ∷ [])) (digits_same n (suc (n / 10)) (n / 10) (omega arith) (omega arith))

-- a number below 10 ^ j has at most j digits
digits-size : (k n j : ℕ) → n < 10 ^ suc j → length (digits_in k n) ≤ suc j
unfolding digits_in
digits-size zero n j l = omega arith
digits-size (suc k) n zero l = rw (lt-ltb n 10 (omega arith)) (omega arith)
digits-size (suc k) n (suc j) l =
    dite (dec_lt n 10)
    (λ s. rw (lt-ltb n 10 s) (omega arith))
    (λ g. rw (le-ltb n 10 (omega (arith, g))) (omega (arith, length-append (digits_in k (n / 10)) (digit (n % 10) ∷ []), digits-size k (n / 10) j (omega (arith, pow-suc 10 (suc j))))))

pub decimal-size : (n j : ℕ) → n < 10 ^ suc j → length (decimal n) ≤ suc j
unfolding decimal
decimal-size n j l = digits-size (suc n) n j l

-- ---- what the digits say

value-more : (v : ℕ) (s : List ℕ) (d : ℕ) → value_after v (s ++ (d ∷ [])) ≡ 10 * value_after v s + (d - 48)
unfolding value_after
value-more v [] d = refl
value-more v (x ∷ s) d = value-more (10 * v + (x - 48)) s d

-- what is shown of the digits of n by induction: a positive number starts with a digit above 0
record Said (n : ℕ) (s : List ℕ) : Type 0 where
  some : 0 < length s
  digits : (i : ℕ) → i < length s → (48 ≤ get_or s i 0) × (get_or s i 0 ≤ 57)
  says : value_after 0 s ≡ n
  front : 0 < n → 48 < get_or s 0 0

said-one : (n : ℕ) → n < 10 → Said n (digit n ∷ [])
unfolding value_after
said-one n l = record { some = omega arith; digits = within; says = omega arith; front = λ p. omega arith }
  where
    within : (i : ℕ) → i < 1 → (48 ≤ get_or (digit n ∷ []) i 0) × (get_or (digit n ∷ []) i 0 ≤ 57)
    within zero h = (omega arith, omega arith)
    within (suc i) h = absurd (omega arith)

said_more : (n : ℕ) (s : List ℕ) → 10 ≤ n → Said (n / 10) s → Said n (s ++ (digit (n % 10) ∷ []))
said_more n s l q = record {
  some = omega (arith, size);
  digits = λ i h. dite (dec_lt i (length s)) (λ b. rw (get_or-append s (digit (n % 10) ∷ []) 0 i b) (q.digits i b)) (λ g. let e : i ≡ length s = omega (arith, g, size) in rw (e, get_or_at s (digit (n % 10)) [] 0 (length s) refl) (omega arith, omega arith));
  says = omega (arith, value-more 0 s (digit (n % 10)), q.says);
  front = λ p. rw (get_or-append s (digit (n % 10) ∷ []) 0 0 q.some) (q.front (omega arith));
}
  where
    size : length (s ++ (digit (n % 10) ∷ [])) ≡ length s + 1
    size = length-append s (digit (n % 10) ∷ [])

digits-said : (k n : ℕ) → n < k → Said n (digits_in k n)
digits-said zero n l = absurd (omega arith)
digits-said (suc k) n l =
    dite (dec_lt n 10)
    (λ s. rw (digits-one k n s) (said-one n s))
    (λ g. let t : 10 ≤ n = omega (arith, g) in rw (digits_more k n t) (said_more n (digits_in k (n / 10)) t (digits-said k (n / 10) (omega arith))))

-- the decimal of n is n in decimal
pub decimal-is : (n : ℕ) → Decimal n (decimal n)
unfolding decimal
decimal-is n =
    let q = digits-said (suc n) n (omega arith) in
    record { some = q.some; digits = q.digits; says = q.says; shortest = λ l. q.front (dite (dec_lt n 10) (λ s. absurd (omega (arith, l, ap length (digits-one n n s)))) (λ g. omega (arith, g))) }
