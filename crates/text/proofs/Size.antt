-- No line is longer than its words, its numbers' digits and what parts them.
use mathlib.Core.Path.{ap}
use mathlib.Core.List.{List, [], ◌∷◌, ◌++◌, map}
use Prim.Native.Nat.{ℕ, zero, suc, ◌+◌, ◌*◌, ◌<◌, ◌≤◌}
use native.Mathlib.Omega.{arith}
use lib.ListN.{length, get_or, take, length-append}
use Rattle.switch.specs.declared.Counts.{Counts}
use Rattle.switch.specs.Plan.{Record, output}
use Rattle.text.specs.Ascii.{ascii}
use Rattle.text.specs.Decimal.{decimal}
use Rattle.text.specs.Line.{feed, spaced, line}
use Rattle.text.specs.Text.{first_line, output_field, record_line}
use Rattle.text.proofs.Decimal.{decimal-size}
use Rattle.text.proofs.Text.{after-ports, after-longest, after-records, after-total, first_pieces, joined-field}

-- an output below 100 takes at most two bytes
output-size : (o : ℕ) → o < 100 → length (output_field o) ≤ 2
output-size o l = omega (arith, ap length (joined-field o (λ e. omega arith)), decimal-size o 1 l)

-- n outputs below 100, each after a space
outputs-size : (n : ℕ) (o : List ℕ) → ((i : ℕ) → i < n → get_or o i 255 < 100) → length (spaced (map output_field (take n o))) ≤ 3 * n
unfolding spaced
outputs-size zero o h = omega arith
outputs-size (suc n) [] h = omega arith
outputs-size (suc n) (x ∷ o) h =
    omega (arith, length-append (output_field x) (spaced (map output_field (take n o))), output-size x (h 0 (omega arith)), outputs-size n o (λ i l. h (suc i) (omega arith)))

-- a record of n outputs below 100, held for at most 65,535
pub record-size : (n : ℕ) (r : Record) → r.hold ≤ 65535 → ((i : ℕ) → i < n → output r i < 100) → length (record_line n r) ≤ 3 * n + 6
unfolding record_line line output
record-size n r l h =
    let o = spaced (map output_field (take n r.outputs)) in
    omega (arith, length-append (decimal r.hold ++ o) (feed ∷ []), length-append (decimal r.hold) o, decimal-size r.hold 4 (omega arith), outputs-size n r.outputs h)

-- the first line, of numbers below 100,000 and empty slots below 10,000,000
pub first-size : (n : ℕ) (c : Counts) → n < 100000 → c.longest < 100000 → c.records < 100000 → c.total < 100000 → c.empty < 10000000 → length (first_line n c) ≤ 80
first-size n c a b d e f =
    omega (arith, ap length (first_pieces c n), length-append (decimal n) (after-ports c), length-append (decimal c.longest) (after-longest c), length-append (decimal c.records) (after-records c), length-append (decimal c.total) (after-total c), length-append (decimal c.empty) (ascii "\n"), decimal-size n 4 a, decimal-size c.longest 4 b, decimal-size c.records 4 d, decimal-size c.total 4 e, decimal-size c.empty 6 f)
