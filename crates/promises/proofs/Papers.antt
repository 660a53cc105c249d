-- The small plans, and what the specification says beside their table, hold by computing them.
use mathlib.Core.Path.{◌≡◌, refl}
use mathlib.Core.List.{map, List, [], ◌∷◌}
use Prim.Native.Nat.{ℕ, zero, suc, ◌*◌, ◌-◌, ◌≤◌, ◌+◌}
use native.Mathlib.Omega.{arith}
use lib.Ieee.{of_bits}
use lib.ListN.{length, take, replicate}
use Rattle.counting.specs.Sum.{sum, most}
use Rattle.counting.specs.Count.{ind, δ}
use Rattle.counting.specs.Matrix.{row, col}
use Rattle.switch.specs.Demand.{cell, longest}
use Rattle.rules.specs.Fill.{fill, fill_to, fill_cell, lack}
use Rattle.rules.specs.Search.{put, pick, free, complete, first_setting}
use Rattle.rules.specs.Peel.{peel}
use Rattle.rules.specs.Exact.{tab, least, record_of, peels, exact_from, exact_plan}
use Rattle.rules.specs.Doubled.{unit, divide, stretch, rotate, held, turns, doubled_by, alike, every_rotation_plan, tight, doubled_plan}
use Rattle.rules.specs.Quick.{lowest, may, seat, visits, slot, slots, quick_from, quick_plan}
use Rattle.wish.specs.Wish.{wish_bits, wish_of, finite, worth, ceil}
use Rattle.promises.specs.Papers.{Asked, Given, give, rec, table, d1, d6}
use Rattle.switch.specs.Plan.{total}
use Rattle.records.specs.Bytes.{bytes}
use Rattle.rules.proofs.Tight.{tight-most}
use Rattle.tally.specs.Sums.{same_outputs}
use Rattle.length.specs.Length.{moves, charge, length_of}

-- every row is given what it says
pub small-plans : map (λ (r : Asked × Given). give r.0) table ≡ map (λ (r : Asked × Given). r.1) table
unfolding table give rec
    exact_plan exact_from peels record_of least tab first_setting complete free pick put peel fill fill_to fill_cell lack longest most row col cell sum δ ind
    every_rotation_plan doubled_plan tight doubled_by alike turns held rotate stretch divide unit
    quick_plan quick_from slots slot visits seat may lowest
    wish_bits of_bits wish_of finite worth ceil
small-plans = refl

-- ---- beside the table

-- P7 has the quick cover's most records (§15.3)
pub p7-meets : length (quick_plan 64 3 d6) ≡ 2 * longest 3 (cell 3 d6) - 1
unfolding quick_plan quick_from slots slot visits seat may lowest put peel tab longest most row col cell sum δ ind
p7-meets = refl

-- P8 by the rule of every rotation has a doubled plan's most records and its longest total (§15.3)
pub p8-meets : (length (every_rotation_plan 64 1 (5 ∷ [])) ≡ 2 * 1) × (total (every_rotation_plan 64 1 (5 ∷ [])) ≡ 2 * longest 1 (cell 1 (5 ∷ [])) - 1)
unfolding total every_rotation_plan doubled_by alike turns held rotate stretch divide unit
    exact_plan exact_from peels record_of least tab first_setting complete free pick put peel fill fill_to fill_cell lack longest most row col cell sum δ ind
p8-meets = (refl, refl)

-- four ports: no rotation at T = 4, where u is 1; u is 2 at T = 5 (§15.5); by the rule of every rotation
pub units : (unit 4 4 ≡ 1) × (turns 64 (rotate 4) (alike 1) 4 0 ≡ []) × (unit 4 5 ≡ 2)
unfolding unit turns held alike
units = (refl, refl, refl)

-- and no rotations by the tight rule where u is 1: no cell has a remainder modulo 1
pub none_left : (N : ℕ) (d : List ℕ) (n k : ℕ) → turns 64 (rotate N) (tight N (rotate N) d 1) n k ≡ []
unfolding turns held
none_left N d zero k = refl
none_left N d (suc n) k = rw (nothing (tight N (rotate N) d 1 k) (tight-most N (rotate N) d 0 k)) (none_left N d n (suc k))
  where
    nothing : (h : ℕ) → h ≤ 0 → h ≡ 0
    nothing h l = omega arith

-- the bytes of P1's first record (§15.4)
pub p1-starts : take 68 (bytes 0 2 (exact_plan 64 2 d1)) ≡ 2 ∷ 0 ∷ 2 ∷ 0 ∷ 0 ∷ 1 ∷ replicate 62 255
unfolding bytes
    exact_plan exact_from peels record_of least tab first_setting complete free pick put peel fill fill_to fill_cell lack longest most row col cell sum δ ind
p1-starts = refl

-- ---- the lengths of P8: one setting in two records moves the mirrors once

-- by the rule of every rotation (§11.5)
pub p8-old-length : (d : ℕ) → length_of d (every_rotation_plan 64 1 (5 ∷ [])) ≡ 9 + d
unfolding length_of charge moves same_outputs total every_rotation_plan doubled_by alike turns held rotate stretch divide unit
    exact_plan exact_from peels record_of least tab first_setting complete free pick put peel fill fill_to fill_cell lack longest most row col cell sum δ ind
p8-old-length d = omega arith

-- by the tight rule (§11.5)
pub p8-length : (d : ℕ) → length_of d (doubled_plan 64 1 (5 ∷ [])) ≡ 5 + d
unfolding length_of charge moves total doubled_plan tight doubled_by turns held rotate stretch divide unit
    exact_plan exact_from peels record_of least tab first_setting complete free pick put peel fill fill_to fill_cell lack longest most row col cell sum δ ind
p8-length d = omega arith
