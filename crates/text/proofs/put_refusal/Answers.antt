-- The word and the code, the side, the place and the line feed in turn; 64 bytes hold them, whatever the numbers.
use Rattle.std.proofs.Common.{◌≡◌, refl, ap, List, ◌∷◌, ◌++◌, ℕ, ◌^◌, ◌<◌, ◌≤◌, length, arith}
use Rattle.switch.specs.declared.Numbers.{Numbers}
use Rattle.switch.specs.declared.Refusal.{Refusal}
use Rattle.switch.specs.Answer.{refusal_code, refusal_place, refusal_side}
use Rattle.text.specs.Ascii.{ascii}
use Rattle.text.specs.Decimal.{decimal}
use Rattle.text.specs.Line.{space, spaced}
use Rattle.text.specs.Put.{Put}
use Rattle.text.specs.Text.{side_field, refused_line}
use Rattle.text.proofs.Put.{Left, all_left, left_as, room, put_next, put_last}
use Rattle.text.proofs.Text.{field, after-code, after-side, refused-pieces, refused-size}
use Rattle.text.proofs.put_refusal.Goals as goal

-- what is left to put before the first piece, and after each
module _ (r : Refusal) (code place : ℕ) (d : List ℕ) (fits : 64 ≤ length d) (small : code < 2 ^ 64) (near : place < 2 ^ 64)
    (code-is : code ≡ refusal_code r) (place-is : place ≡ refusal_place r) where
  abbrev Goes : List ℕ → ℕ → List ℕ → Type 0
  Goes e at t = Left d 0 (refused_line r) e at t

  left : Goes d 0 (field (ascii "refused") code ++ after-code (refusal_side r) place)
  left =
      let pieces = refused-pieces r code (refusal_side r) place code-is refl place-is in
      left_as pieces (all_left _ _ _ (omega (arith, ap length pieces, refused-size code (refusal_side r) place small near)))

  module _ (d1 : List ℕ) (at1 : ℕ) (p1 : Put (field (ascii "refused") code) d 0 d1 at1) where
    left-code : Goes d1 at1 (after-code (refusal_side r) place)
    left-code = put_next _ _ _ _ _ (field (ascii "refused") code) (after-code (refusal_side r) place) _ _ left p1

    module _ (d2 : List ℕ) (at2 : ℕ) (p2 : Put (spaced (side_field (refusal_side r))) d1 at1 d2 at2) where
      left-side : Goes d2 at2 (after-side place)
      left-side = put_next _ _ _ _ _ (spaced (side_field (refusal_side r))) (after-side place) _ _ left-code p2

      left-place : (d3 : List ℕ) (at3 : ℕ) → Put (space ∷ decimal place) d2 at2 d3 at3 → Goes d3 at3 (ascii "\n")
      left-place d3 at3 p3 = put_next _ _ _ _ _ (space ∷ decimal place) (ascii "\n") _ _ left-side p3

pub put_field-after_code-requires : goal.put_field-after_code-requires
put_field-after_code-requires c =
    let told = c.numbers_of-told.result in
    room _ _ _ _ _ (field (ascii "refused") told.code) (after-code (refusal_side c.args.refusal) told.place) (left c.args.refusal c.numbers_of-told.result.code c.numbers_of-told.result.place _ c.requires (omega arith) (omega arith) (ap (λ (x : Numbers). x.code) c.numbers_of-told.ensures) (ap (λ (x : Numbers). x.place) c.numbers_of-told.ensures))

pub put_side-after_side-requires : goal.put_side-after_side-requires
put_side-after_side-requires c =
    let told = c.numbers_of-told.result in
    room _ _ _ _ _ (spaced (side_field (refusal_side c.args.refusal))) (after-side told.place) (left-code c.args.refusal c.numbers_of-told.result.code c.numbers_of-told.result.place _ c.requires (omega arith) (omega arith) (ap (λ (x : Numbers). x.code) c.numbers_of-told.ensures) (ap (λ (x : Numbers). x.place) c.numbers_of-told.ensures) _ _ c.put_field-after_code.ensures)

pub put_number-after_place-requires : goal.put_number-after_place-requires
put_number-after_place-requires c =
    let told = c.numbers_of-told.result in
    omega (arith, room _ _ _ _ _ (space ∷ decimal told.place) (ascii "\n") (left-side c.args.refusal c.numbers_of-told.result.code c.numbers_of-told.result.place _ c.requires (omega arith) (omega arith) (ap (λ (x : Numbers). x.code) c.numbers_of-told.ensures) (ap (λ (x : Numbers). x.place) c.numbers_of-told.ensures) _ _ c.put_field-after_code.ensures _ _ c.put_side-after_side.ensures))

pub put_bytes-requires : goal.put_bytes-requires
put_bytes-requires c = (left-place c.args.refusal c.numbers_of-told.result.code c.numbers_of-told.result.place _ c.requires (omega arith) (omega arith) (ap (λ (x : Numbers). x.code) c.numbers_of-told.ensures) (ap (λ (x : Numbers). x.place) c.numbers_of-told.ensures) _ _ c.put_field-after_code.ensures _ _ c.put_side-after_side.ensures _ _ c.put_number-after_place.ensures).fits

pub returns : goal.returns
returns c = put_last _ _ _ _ _ (ascii "\n") _ _ (left-place c.args.refusal c.numbers_of-told.result.code c.numbers_of-told.result.place _ c.requires (omega arith) (omega arith) (ap (λ (x : Numbers). x.code) c.numbers_of-told.ensures) (ap (λ (x : Numbers). x.place) c.numbers_of-told.ensures) _ _ c.put_field-after_code.ensures _ _ c.put_side-after_side.ensures _ _ c.put_number-after_place.ensures) c.put_bytes.ensures
