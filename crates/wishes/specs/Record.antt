-- The records of a wish list (§4.5): a pair of ports, two spare bytes, and the wish's bits, low byte first. Definitions only.
use Rattle.std.specs.Prelude.{ℕ, ◌+◌, ◌*◌, Bool, ◌&&◌, List, ltb, eqb, get_or}
use Rattle.numbers.specs.Word.{word}
use Rattle.wishes.specs.declared.WishRecord.{WishRecord}

-- record k of the list s, counted from 0
unfoldable pub record_at : (s : List ℕ) (k : ℕ) → WishRecord
record_at s k = record {
  input = record { 0 = get_or s (8 * k) 0 };
  output = record { 0 = get_or s (8 * k + 1) 0 };
  spare0 = get_or s (8 * k + 2) 0;
  spare1 = get_or s (8 * k + 3) 0;
  bits = word s (8 * k + 4);
}

-- both ports are below N, and both spare bytes are zero
unfoldable pub well_formed : (N : ℕ) (r : WishRecord) → Bool
well_formed N r = ltb r.input.0 N && (ltb r.output.0 N && (eqb r.spare0 0 && eqb r.spare1 0))

-- input i and output j are input a and output b
unfoldable pub same_pair : (i j a b : ℕ) → Bool
same_pair i j a b = eqb i a && eqb j b

-- the record names input i and output j
abbrev pub names : (r : WishRecord) (i j : ℕ) → Bool
names r i j = same_pair r.input.0 r.output.0 i j
