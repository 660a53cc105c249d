-- The lines that the lister prints (§14.4, §14.5). Definitions only.
use Rattle.std.specs.Prelude.{cond, List, [], ◌∷◌, ◌++◌, map, ℕ, zero, suc, take, eqb}
use Rattle.switch.specs.declared.Refusal.{Refusal}
use Rattle.switch.specs.declared.Counts.{Counts}
use Rattle.switch.specs.Answer.{refusal_code, refusal_place, refusal_side}
use Rattle.switch.specs.Plan.{Record}
use Rattle.text.specs.Ascii.{ascii}
use Rattle.text.specs.Decimal.{decimal}
use Rattle.text.specs.Line.{line}

-- the first line: each number behind its word (§14.4)
unfoldable pub first_line : (N : ℕ) (c : Counts) → List ℕ
first_line N c =
    line (ascii "ports")
    (decimal N ∷ ascii "longest" ∷ decimal c.longest ∷ ascii "records" ∷ decimal c.records ∷ ascii "total" ∷ decimal c.total
    ∷ ascii "empty" ∷ decimal c.empty ∷ [])

-- 255 printed as a dash
unfoldable pub output_field : (o : ℕ) → List ℕ
output_field o = cond (eqb o 255) (ascii "-") (decimal o)

-- a record's line: its hold and its N outputs
unfoldable pub record_line : (N : ℕ) (r : Record) → List ℕ
record_line N r = line (decimal r.hold) (map output_field (take N r.outputs))

-- one line per record
unfoldable pub record_lines : ℕ → List Record → List ℕ
record_lines N [] = []
record_lines N (r ∷ p) = record_line N r ++ record_lines N p

-- a plan, with what its planner counted
unfoldable pub plan_text : (N : ℕ) (c : Counts) (p : List Record) → List ℕ
plan_text N c p = first_line N c ++ record_lines N p

-- the side of code 3 as a word, in front of its number (§14.5)
abbrev pub side_field : ℕ → List (List ℕ)
side_field zero = []
side_field (suc zero) = ascii "input" ∷ []
side_field (suc (suc k)) = ascii "output" ∷ []

-- a refusal's only line: `refused`, code, place (§14.5)
unfoldable pub refused_line : (r : Refusal) → List ℕ
refused_line r = line (ascii "refused") (decimal (refusal_code r) ∷ (side_field (refusal_side r) ++ (decimal (refusal_place r) ∷ [])))
