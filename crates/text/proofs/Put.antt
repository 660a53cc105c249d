-- What is put after what was put is put at once, so a text is told by its pieces in turn.
use mathlib.Core.Path.{◌≡◌, refl, sym, ap, ◌∙◌, subst}
use mathlib.Core.List.{List, [], ◌∷◌, ◌++◌}
use Prim.Native.Nat.{ℕ, ◌+◌, ◌≤◌}
use native.Mathlib.Omega.{arith}
use lib.ListN.{length, set, length-append}
use lib.Seq.{sets-eq}
use Rattle.records.specs.Bytes.{laid}
use Rattle.records.proofs.Laid.{laid_none, length-laid, laid_more}
use Rattle.text.specs.Put.{Put}

-- s is to be put into d at `at`; where the text is d' and the place at', t is left to put
pub record Left (d : List ℕ) (at : ℕ) (s d' : List ℕ) (at' : ℕ) (t : List ℕ) : Type 0 where
  pub fits : at' + length t ≤ length d'
  pub place : at' + length t ≡ at + length s
  pub text : laid d' at' t ≡ laid d at s

-- all is left at the start
pub all_left : (d : List ℕ) (at : ℕ) (s : List ℕ) → at + length s ≤ length d → Left d at s d at s
all_left d at s f = record { fits = f; place = refl; text = refl }

module _ (d : List ℕ) (at : ℕ) (s d' : List ℕ) (at' : ℕ) where
  -- the next piece fits
  pub room : (u t : List ℕ) → Left d at s d' at' (u ++ t) → at' + length u ≤ length d'
  room u t l = omega (arith, l.fits, length-append u t)

  -- and once it is put, the others are left
  pub put_next : (u t d'' : List ℕ) (at'' : ℕ) → Left d at s d' at' (u ++ t) → Put u d' at' d'' at'' → Left d at s d'' at'' t
  put_next u t d'' at'' l p = record {
    fits = omega (arith, l.fits, p.place, size, ap length p.text, length-laid d' at' u (room u t l));
    place = omega (arith, l.place, p.place, size);
    text = ap₂' p.text p.place ∙ laid_more d' at' u (room u t l) t ∙ l.text;
  }
    where
      size : length (u ++ t) ≡ length u + length t
      size = length-append u t

      ap₂' : {x y : List ℕ} {a b : ℕ} → x ≡ y → a ≡ b → laid x a t ≡ laid y b t
      ap₂' e f = cc

  -- the last piece
  pub put_last : (u d'' : List ℕ) (at'' : ℕ) → Left d at s d' at' u → Put u d' at' d'' at'' → Put s d at d'' at''
  put_last u d'' at'' l p = record { place = p.place ∙ l.place; text = p.text ∙ l.text }

  -- nothing is left
  pub put_all : Left d at s d' at' [] → Put s d at d' at'
  put_all l = record { place = omega (arith, l.place); text = sym (laid_none d' at') ∙ l.text }

-- what is left, said otherwise
pub left_as : {d : List ℕ} {at : ℕ} {s d' : List ℕ} {at' : ℕ} {t t' : List ℕ} → t ≡ t' → Left d at s d' at' t → Left d at s d' at' t'
left_as {d} {at} {s} {d'} {at'} e l = subst (λ (x : List ℕ). Left d at s d' at' x) e l

-- one store puts one byte
pub put_byte : (v : ℕ) (d : List ℕ) (at : ℕ) → at + 1 ≤ length d → Put (v ∷ []) d at (set d at v) (at + 1)
put_byte v d at f = record { place = refl; text = unfold laid in sets-eq (v ∷ []) d at f }

-- two pieces
module _ (s t d : List ℕ) (at : ℕ) (fits : at + length (s ++ t) ≤ length d) where
  pub first-room : at + length s ≤ length d
  first-room = room d at (s ++ t) d at s t (all_left d at (s ++ t) fits)

  module _ (d' : List ℕ) (at' : ℕ) (p : Put s d at d' at') where
    pub second-left : Left d at (s ++ t) d' at' t
    second-left = put_next d at (s ++ t) d at s t d' at' (all_left d at (s ++ t) fits) p

    pub second-room : at' + length t ≤ length d'
    second-room = second-left.fits

    pub put_two : (d'' : List ℕ) (at'' : ℕ) → Put t d' at' d'' at'' → Put (s ++ t) d at d'' at''
    put_two d'' at'' q = put_last d at (s ++ t) d' at' t d'' at'' second-left q

-- nothing put
pub put-none : (d : List ℕ) (at : ℕ) → Put [] d at d at
put-none d at = record { place = omega arith; text = sym (laid_none d at) }
