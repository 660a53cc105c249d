-- The example of §14.7, and a refusal of each kind, by computing them.
use mathlib.Core.Path.{◌≡◌, refl}
use mathlib.Core.List.{List, [], ◌∷◌, ◌++◌, map}
use Prim.Native.Nat.{ℕ}
use Prim.Native.String.{String}
use lib.Ieee.{of_bits}
use Rattle.numbers.specs.Word.{word}
use Rattle.counting.specs.Sum.{sum, most}
use Rattle.counting.specs.Count.{ind, δ}
use Rattle.counting.specs.Matrix.{row, col}
use Rattle.switch.specs.Check.{ports_fine}
use Rattle.switch.specs.Demand.{cell, longest, line}
use Rattle.switch.specs.Plan.{output, grant, total}
use Rattle.switch.specs.Empty.{beyond, empty_slots}
use Rattle.demand.specs.Lines.{over, line_side, line_over}
use Rattle.demand.specs.Check.{check_demand}
use Rattle.rules.specs.Fill.{fill, fill_to, fill_cell, lack}
use Rattle.rules.specs.Search.{put, pick, free, complete, first_setting}
use Rattle.rules.specs.Peel.{peel}
use Rattle.rules.specs.Exact.{tab, least, record_of, peels, exact_from, exact_plan}
use Rattle.wish.specs.Wish.{wish_bits, wish_of, finite, worth, ceil}
use Rattle.wishes.specs.Record.{record_at, well_formed, same_pair}
use Rattle.wishes.specs.Fault.{named, fault_of, fault_at, first_fault}
use Rattle.wishes.specs.Wishes.{demand_of, outcome}
use Rattle.wishes.specs.Wishes as wishes
use Rattle.text.specs.Ascii.{ascii}
use Rattle.text.specs.Decimal.{digits_in, decimal}
use Rattle.text.specs.Line.{spaced}
use Rattle.text.specs.Line as lines
use Rattle.text.specs.Text.{first_line, output_field, record_line, record_lines, plan_text, refused_line}
use Rattle.listing.specs.Listing.{ports_in, demand_text, wish_text, listing_of}

-- a wish record: input, output, and the three high bytes of its value
abbrev wish : ℕ → ℕ → ℕ → ℕ → ℕ → List ℕ
wish i j b₁ b₂ b₃ = i ∷ j ∷ 0 ∷ 0 ∷ 0 ∷ b₁ ∷ b₂ ∷ b₃ ∷ []

-- wishes of 1.0 and of 65,535
abbrev one : ℕ → ℕ → List ℕ
one i j = wish i j 0 128 63

abbrev largest : ℕ → ℕ → List ℕ
largest i j = wish i j 255 127 71

-- a wish list, and what the lister prints for it
abbrev examples : List (List ℕ × String)
examples =
    -- 2.0 for (0, 0), 1.0 for (0, 1), 0.5 for (1, 0) and 1.5 for (1, 1) are the demand 2 2 / 2 2 (§14.7)
    (wish 0 0 0 0 64 ++ one 0 1 ++ wish 1 0 0 0 63 ++ wish 1 1 0 192 63, "ports 2 longest 4 records 2 total 4 empty 0\n2 0 1\n2 1 0\n")
    -- nothing, and ports that are too many
    ∷ ([], "refused 1 0\n")
    ∷ (one 0 0 ++ one 16 0, "refused 1 0\n")
    -- a line over 65,535 on either side
    ∷ (largest 0 0 ++ one 1 0 ++ one 0 1, "refused 3 input 0\n")
    ∷ (largest 0 1 ++ one 1 1, "refused 3 output 1\n")
    -- a tail
    ∷ (one 0 0 ++ (0 ∷ []), "refused 9 1\n")
    ∷ []

pub examples-listed : map (λ (e : List ℕ × String). listing_of e.0) examples ≡ map (λ (e : List ℕ × String). ascii e.1) examples
unfolding listing_of wish_text demand_text ports_in record_at word outcome ports_fine first_fault fault_at fault_of well_formed named same_pair
    wish_bits of_bits wish_of finite worth ceil demand_of wishes.put check_demand line_over line_side over line
    exact_plan exact_from peels record_of least tab first_setting complete free pick put peel fill fill_to fill_cell lack longest most row col cell sum δ ind
    total output grant beyond empty_slots plan_text first_line record_lines record_line refused_line output_field lines.line spaced decimal digits_in
examples-listed = refl
