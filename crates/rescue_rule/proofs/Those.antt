-- Those that pass, in their order: each stands behind those before it, nothing else is there, and with those that do not pass they are all.
use mathlib.Core.Path.{◌≡◌, refl, sym, ap, ◌∙◌}
use mathlib.Core.Bool.{Bool, true, false, not, cond}
use mathlib.Core.Logic.{⊎_elim, dite, ◌⊎◌, inl, inr}
use mathlib.Core.List.{List, [], ◌∷◌, ◌++◌, append-nil}
use Prim.Native.Nat.{ℕ, zero, suc, ◌+◌, ◌<◌, ◌≤◌}
use native.Mathlib.Nat.{not-suc-le-zero, le_of_suc-le-suc, eq-or-lt_of_le}
use native.Mathlib.Numerals.{add-one}
use native.Mathlib.Decide.{dec_lt}
use native.Mathlib.Omega.{arith}
use lib.ListN.{length, get_or, length-append}
use Rattle.rescue_rule.specs.Rescue.{those}

-- a test that holds or fails
pub test : (b : Bool) → (b ≡ true) ⊎ (b ≡ false)
test true = inl refl
test false = inr refl

module _ {A : Type 0} where
  -- one behind the end
  pub get_or-end : (l : List A) (x z : A) → get_or (l ++ x ∷ []) (length l) z ≡ x
  get_or-end [] x z = refl
  get_or-end (y ∷ l) x z = get_or-end l x z

  -- what stands before is not moved
  pub get_d_front : (l m : List A) (k : ℕ) (z : A) → k < length l → get_or (l ++ m) k z ≡ get_or l k z
  get_d_front [] m k z l = absurd (not-suc-le-zero l)
  get_d_front (y ∷ l) m zero z h = refl
  get_d_front (y ∷ l) m (suc k) z h = get_d_front l m k z (le_of_suc-le-suc h)

module _ {A : Type 0} (p : ℕ → Bool) (f : ℕ → A) where
  pub those-none : those p f 0 ≡ []
  unfolding those
  those-none = refl

  pub those-next : (k : ℕ) → those p f (k + 1) ≡ those p f k ++ cond (p k) (f k ∷ []) []
  unfolding those
  those-next k = rw add-one

  pub pass : (k : ℕ) → p k ≡ true → those p f (suc k) ≡ those p f k ++ f k ∷ []
  unfolding those
  pass k e = rw e

  pub skip : (k : ℕ) → p k ≡ false → those p f (suc k) ≡ those p f k
  unfolding those
  skip k e = rw e (append-nil (those p f k))

  -- the code's k + 1
  pub those-pass : (k : ℕ) → p k ≡ true → those p f (k + 1) ≡ those p f k ++ f k ∷ []
  those-pass k e = rw add-one (pass k e)

  pub those-skip : (k : ℕ) → p k ≡ false → those p f (k + 1) ≡ those p f k
  those-skip k e = rw add-one (skip k e)

  pub length-pass : (k : ℕ) → p k ≡ true → length (those p f (k + 1)) ≡ length (those p f k) + 1
  length-pass k e = ap length (those-pass k e) ∙ length-append (those p f k) (f k ∷ [])

  -- ---- where each stands

  longer : (k : ℕ) → p k ≡ true → length (those p f (suc k)) ≡ length (those p f k) + 1
  longer k e = ap length (pass k e) ∙ length-append (those p f k) (f k ∷ [])

  grows : (k : ℕ) → length (those p f k) ≤ length (those p f (suc k))
  grows k = ⊎_elim (λ e. omega (arith, longer k e)) (λ e. omega (arith, ap length (skip k e))) (test (p k))

  -- one that passes comes before all later ones
  pub those-before : (m k : ℕ) → k < m → p k ≡ true → length (those p f k) < length (those p f m)
  those-before zero k l e = absurd (not-suc-le-zero l)
  those-before (suc m) k l e =
      ⊎_elim (λ (s : k ≡ m). omega (arith, longer k e, ap (λ (x : ℕ). length (those p f (suc x))) s)) (λ lt. omega (arith, those-before m k lt e, grows m)) (eq-or-lt_of_le (le_of_suc-le-suc l))

  stays : (z : A) (m k : ℕ) → k < m → p k ≡ true → get_or (those p f (suc m)) (length (those p f k)) z ≡ get_or (those p f m) (length (those p f k)) z
  unfolding those
  stays z m k lt e = get_d_front (those p f m) (cond (p m) (f m ∷ []) []) (length (those p f k)) z (those-before m k lt e)

  -- it stands behind those that pass before it
  pub those-place : (z : A) (m k : ℕ) → k < m → p k ≡ true → get_or (those p f m) (length (those p f k)) z ≡ f k
  those-place z zero k l e = absurd (not-suc-le-zero l)
  those-place z (suc m) k l e =
      ⊎_elim
      (λ (s : k ≡ m). ap (λ (x : ℕ). get_or (those p f (suc x)) (length (those p f k)) z) (sym s) ∙ ap (λ (t : List A). get_or t (length (those p f k)) z) (pass k e) ∙ get_or-end (those p f k) (f k) z)
      (λ lt. stays z m k lt e ∙ those-place z m k lt e)
      (eq-or-lt_of_le (le_of_suc-le-suc l))

  -- place j of the list has the one that passes with j of them before it
  pub record Comes (z : A) (m j : ℕ) : Type 0 where
    pub number : ℕ
    pub inside : number < m
    pub passes : p number ≡ true
    pub place : length (those p f number) ≡ j
    pub is : get_or (those p f m) j z ≡ f number

  -- and nothing else is there
  pub those-comes : (z : A) (m j : ℕ) → j < length (those p f m) → Comes z m j
  those-comes z zero j l = absurd (omega (arith, ap length those-none))
  those-comes z (suc m) j l = ⊎_elim (at-pass (those-comes z m j)) (λ e. further (those-comes z m j (omega (arith, ap length (skip m e))))) (test (p m))
    where
      further : Comes z m j → Comes z (suc m) j
      further c = record {
        number = c.number;
        inside = omega (arith, c.inside);
        passes = c.passes;
        place = c.place;
        is = ap (λ (x : ℕ). get_or (those p f (suc m)) x z) (sym c.place) ∙ those-place z (suc m) c.number (omega (arith, c.inside)) c.passes;
      }

      at-pass : (j < length (those p f m) → Comes z m j) → p m ≡ true → Comes z (suc m) j
      at-pass before e = dite (dec_lt j (length (those p f m))) (λ b. further (before b)) (λ g.
          let q : length (those p f m) ≡ j = omega (arith, g, longer m e) in record {
            number = m;
            inside = omega arith;
            passes = e;
            place = q;
            is = ap (λ (x : ℕ). get_or (those p f (suc m)) x z) (sym q) ∙ those-place z (suc m) m (omega arith) e;
          })

  -- where all pass, all are there
  pub those-all : (m : ℕ) → ((k : ℕ) → k < m → p k ≡ true) → length (those p f m) ≡ m
  those-all zero h = ap length those-none
  those-all (suc m) h = omega (arith, longer m (h m (omega arith)), those-all m (λ k l. h k (omega arith)))

  -- where none passes, none is there
  pub those-empty : (m : ℕ) → ((k : ℕ) → k < m → p k ≡ false) → those p f m ≡ []
  those-empty zero h = those-none
  those-empty (suc m) h = skip m (h m (omega arith)) ∙ those-empty m (λ k l. h k (omega arith))

-- those that pass and those that do not are all
pub those-both : {A B : Type 0} (p : ℕ → Bool) (f : ℕ → A) (g : ℕ → B) (m : ℕ) → length (those p f m) + length (those (λ k. not (p k)) g m) ≡ m
those-both p f g zero = omega (arith, ap length (those-none p f), ap length (those-none (λ k. not (p k)) g))
those-both p f g (suc m) = ⊎_elim
    (λ e. omega (arith, longer p f m e, ap length (skip (λ k. not (p k)) g m (ap not e)), those-both p f g m))
    (λ e. omega (arith, ap length (skip p f m e), longer (λ k. not (p k)) g m (ap not e), those-both p f g m))
    (test (p m))
