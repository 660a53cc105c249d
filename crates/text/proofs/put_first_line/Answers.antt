-- The five fields in turn, and the line feed behind them.
use Rattle.std.proofs.Common.{List, ◌++◌, ℕ, ◌≤◌, length, arith}
use Rattle.switch.specs.declared.Counts.{Counts}
use Rattle.text.specs.Ascii.{ascii}
use Rattle.text.specs.Put.{Put}
use Rattle.text.specs.Text.{first_line}
use Rattle.text.proofs.Put.{Left, all_left, left_as, room, put_next, put_last}
use Rattle.text.proofs.Text.{field, after-ports, after-longest, after-records, after-total, first_pieces}
use Rattle.text.proofs.put_first_line.Goals as goal

-- what is left to put before the first field, and after each
module _ (n : ℕ) (k : Counts) (d : List ℕ) (fits : length (first_line n k) ≤ length d) where
  abbrev Goes : List ℕ → ℕ → List ℕ → Type 0
  Goes e at t = Left d 0 (first_line n k) e at t

  left : Goes d 0 (field (ascii "ports") n ++ after-ports k)
  left = left_as (first_pieces k n) (all_left _ _ _ (omega arith))

  module _ (d1 : List ℕ) (at1 : ℕ) (p1 : Put (field (ascii "ports") n) d 0 d1 at1) where
    left-ports : Goes d1 at1 (after-ports k)
    left-ports = put_next _ _ _ _ _ (field (ascii "ports") n) (after-ports k) _ _ left p1

    module _ (d2 : List ℕ) (at2 : ℕ) (p2 : Put (field (ascii " longest") k.longest) d1 at1 d2 at2) where
      left-longest : Goes d2 at2 (after-longest k)
      left-longest = put_next _ _ _ _ _ (field (ascii " longest") k.longest) (after-longest k) _ _ left-ports p2

      module _ (d3 : List ℕ) (at3 : ℕ) (p3 : Put (field (ascii " records") k.records) d2 at2 d3 at3) where
        left-records : Goes d3 at3 (after-records k)
        left-records = put_next _ _ _ _ _ (field (ascii " records") k.records) (after-records k) _ _ left-longest p3

        module _ (d4 : List ℕ) (at4 : ℕ) (p4 : Put (field (ascii " total") k.total) d3 at3 d4 at4) where
          left-total : Goes d4 at4 (after-total k)
          left-total = put_next _ _ _ _ _ (field (ascii " total") k.total) (after-total k) _ _ left-records p4

          left-empty : (d5 : List ℕ) (at5 : ℕ) → Put (field (ascii " empty") k.empty) d4 at4 d5 at5 → Goes d5 at5 (ascii "\n")
          left-empty d5 at5 p5 = put_next _ _ _ _ _ (field (ascii " empty") k.empty) (ascii "\n") _ _ left-total p5

pub put_field-ports-requires : goal.put_field-ports-requires
put_field-ports-requires c =
    let k = c.args.counts in
    room _ _ _ _ _ (field (ascii "ports") c.args.n) (after-ports k) (left c.args.n k _ c.requires)

pub put_field-longest-requires : goal.put_field-longest-requires
put_field-longest-requires c =
    let k = c.args.counts in
    room _ _ _ _ _ (field (ascii " longest") k.longest) (after-longest k) (left-ports c.args.n k _ c.requires _ _ c.put_field-ports.ensures)

pub put_field-records-requires : goal.put_field-records-requires
put_field-records-requires c =
    let k = c.args.counts in
    room _ _ _ _ _ (field (ascii " records") k.records) (after-records k) (left-longest c.args.n k _ c.requires _ _ c.put_field-ports.ensures _ _ c.put_field-longest.ensures)

pub put_field-total-requires : goal.put_field-total-requires
put_field-total-requires c =
    let k = c.args.counts in
    room _ _ _ _ _ (field (ascii " total") k.total) (after-total k) (left-records c.args.n k _ c.requires _ _ c.put_field-ports.ensures _ _ c.put_field-longest.ensures _ _ c.put_field-records.ensures)

pub put_field-empty-requires : goal.put_field-empty-requires
put_field-empty-requires c =
    let k = c.args.counts in
    room _ _ _ _ _ (field (ascii " empty") k.empty) (ascii "\n") (left-total c.args.n k _ c.requires _ _ c.put_field-ports.ensures _ _ c.put_field-longest.ensures _ _ c.put_field-records.ensures _ _ c.put_field-total.ensures)

pub put_bytes-requires : goal.put_bytes-requires
put_bytes-requires c =
    (left-empty c.args.n c.args.counts _ c.requires _ _ c.put_field-ports.ensures _ _ c.put_field-longest.ensures _ _ c.put_field-records.ensures _ _ c.put_field-total.ensures _ _ c.put_field-empty.ensures).fits

pub returns : goal.returns
returns c =
    put_last _ _ _ _ _ (ascii "\n") _ _
    (left-empty c.args.n c.args.counts _ c.requires _ _ c.put_field-ports.ensures _ _ c.put_field-longest.ensures _ _ c.put_field-records.ensures _ _ c.put_field-total.ensures _ _ c.put_field-empty.ensures)
    c.put_bytes.ensures
