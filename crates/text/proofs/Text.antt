-- Each line is its pieces one after the other, as they are put; and no piece is longer than its numbers are.
use mathlib.Core.Path.{◌≡◌, refl, sym, ap, ◌∙◌}
use mathlib.Core.List.{List, [], ◌∷◌, ◌++◌, map, append_assoc, append-nil}
use Prim.Native.Nat.{ℕ, zero, suc, ◌+◌, ◌*◌, ◌^◌, ◌≤◌, ◌<◌}
use native.Mathlib.Numerals.{add-one}
use native.Mathlib.Nat.{le_of_suc-le-suc}
use native.Mathlib.Omega.{arith}
use lib.ListN.{length, get_or, take, drop, length-append, drop_of_length-le}
use lib.Seq.{drop-cons, drop-drop}
use borrow.Author.Tests.{eq-eqb, ne_eqb}
use Rattle.std.specs.Simd.{first_chunks}
use Rattle.switch.specs.Plan.{Record}
use Rattle.switch.specs.declared.Counts.{Counts}
use Rattle.switch.specs.declared.Refusal.{Refusal}
use Rattle.switch.specs.Answer.{refusal_code, refusal_place, refusal_side}
use Rattle.records.specs.Record.{decoded}
use Rattle.records.specs.Bytes.{plan_from}
use Rattle.text.specs.Ascii.{ascii}
use Rattle.text.specs.Decimal.{decimal}
use Rattle.text.specs.Line.{space, spaced, line}
use Rattle.text.proofs.Decimal.{decimal-size}
use Rattle.text.specs.Text.{first_line, output_field, record_line, record_lines, side_field, refused_line}

-- a word and its number, parted by a space
abbrev pub field : List ℕ → ℕ → List ℕ
field w n = w ++ space ∷ decimal n

-- what follows the fields of the first line, from the fourth to the first
module _ (c : Counts) where
  abbrev pub after-total : List ℕ
  after-total = field (ascii " empty") c.empty ++ ascii "\n"

  abbrev pub after-records : List ℕ
  after-records = field (ascii " total") c.total ++ after-total

  abbrev pub after-longest : List ℕ
  after-longest = field (ascii " records") c.records ++ after-records

  abbrev pub after-ports : List ℕ
  after-ports = field (ascii " longest") c.longest ++ after-longest

  pub first_pieces : (N : ℕ) → first_line N c ≡ field (ascii "ports") N ++ after-ports
  unfolding first_line line spaced
  first_pieces N = simp append_assoc

-- what follows the code of a refusal's line, and the side
abbrev pub after-side : ℕ → List ℕ
after-side place = (space ∷ decimal place) ++ ascii "\n"

abbrev pub after-code : ℕ → ℕ → List ℕ
after-code side place = spaced (side_field side) ++ after-side place

spaced-more : (f g : List (List ℕ)) → spaced (f ++ g) ≡ spaced f ++ spaced g
unfolding spaced
spaced-more [] g = refl
spaced-more (x ∷ f) g = ap (λ (s : List ℕ). space ∷ (x ++ s)) (spaced-more f g) ∙ ap (λ (s : List ℕ). space ∷ s) (sym (append_assoc x (spaced f) (spaced g)))

pub refused-pieces : (r : Refusal) (code side place : ℕ) → code ≡ refusal_code r → side ≡ refusal_side r → place ≡ refusal_place r
    → refused_line r ≡ field (ascii "refused") code ++ after-code side place
unfolding refused_line line spaced
refused-pieces r code side place a b c = rw (a, b, c) (simp (spaced-more (side_field (refusal_side r)), append_assoc, append-nil))

-- the word of a side is short
pub side-size : (s : ℕ) → length (spaced (side_field s)) ≤ 7
unfolding spaced
side-size zero = omega arith
side-size (suc zero) = omega arith
side-size (suc (suc s)) = omega arith

-- a refusal's line of 64-bit numbers is at most 57 bytes
pub refused-size : (code side place : ℕ) → code < 2 ^ 64 → place < 2 ^ 64 → length (field (ascii "refused") code ++ after-code side place) ≤ 57
refused-size code side place a b =
    omega (arith, length-append (decimal code) (after-code side place), length-append (spaced (side_field side)) (after-side place), length-append (decimal place) (ascii "\n"), decimal-size code 19 (omega arith), side-size side, decimal-size place 19 (omega arith))

-- an output, and an idle input's
pub idle-field : (o : ℕ) → o ≡ 255 → output_field o ≡ ascii "-"
unfolding output_field
idle-field o e = rw (eq-eqb o 255 e)

pub joined-field : (o : ℕ) → (o ≡ 255 → ⊥) → output_field o ≡ decimal o
unfolding output_field
joined-field o e = rw (ne_eqb o 255 e)

-- outputs from the i-th on
abbrev pub fields_from : List ℕ → ℕ → List ℕ
fields_from o i = spaced (map output_field (drop i o))

pub fields-next : (o : List ℕ) (i : ℕ) → i < length o → fields_from o i ≡ (space ∷ output_field (get_or o i 0)) ++ fields_from o (i + 1)
unfolding spaced
fields-next o i l = rw (add-one i) (ap (λ (x : List ℕ). spaced (map output_field x)) (drop-cons o i 0 l))

pub fields-end : (o : List ℕ) (i : ℕ) → length o ≤ i → fields_from o i ≡ []
unfolding spaced
fields-end o i l = ap (λ (x : List ℕ). spaced (map output_field x)) (drop_of_length-le o {i = i} l)

-- the lines of records from the k-th on
abbrev pub lines_from : ℕ → List (List ℕ) → ℕ → List ℕ
lines_from n p k = record_lines n (map decoded (drop k p))

pub lines_next : (n : ℕ) (p : List (List ℕ)) (k : ℕ) → k < length p → lines_from n p k ≡ record_line n (decoded (get_or p k [])) ++ lines_from n p (k + 1)
unfolding record_lines
lines_next n p k l = rw (add-one k) (ap (λ (x : List (List ℕ)). record_lines n (map decoded x)) (drop-cons p k [] l))

pub lines_end : (n : ℕ) (p : List (List ℕ)) (k : ℕ) → length p ≤ k → lines_from n p k ≡ []
unfolding record_lines
lines_end n p k l = ap (λ (x : List (List ℕ)). record_lines n (map decoded x)) (drop_of_length-le p {i = k} l)

-- the pieces of a plan's bytes are its records
pub pieces-from : (plan : List ℕ) (k m q : ℕ) → m ≤ q → map decoded (take m (first_chunks 68 q (drop (k * 68) plan))) ≡ plan_from 64 plan k m
unfolding plan_from
pieces-from plan k zero q l = refl
pieces-from plan k (suc m) zero l = absurd (omega arith)
pieces-from plan k (suc m) (suc q) l =
    let e : k * 68 + 68 ≡ suc k * 68 = omega arith in
    ap (λ (x : List Record). decoded (take 68 (drop (k * 68) plan)) ∷ x)
    (ap (λ (x : List ℕ). map decoded (take m (first_chunks 68 q x))) (drop-drop 68 (k * 68) plan ∙ ap (λ (i : ℕ). drop i plan) e) ∙ pieces-from plan (suc k) m q (le_of_suc-le-suc l))

pub pieces : (plan : List ℕ) (m q : ℕ) → m ≤ q → map decoded (take m (first_chunks 68 q plan)) ≡ plan_from 64 plan 0 m
pieces plan m q l = pieces-from plan 0 m q l
