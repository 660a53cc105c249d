-- The small plans of §15: for each row what is asked, and by what method, and what is given.
-- Definitions only.
use Rattle.std.specs.Prelude.{List, [], ◌∷◌, ◌++◌, ℕ, ◌-◌, length, replicate}
use Rattle.switch.specs.Plan.{Record}
use Rattle.rules.specs.Exact.{exact_plan}
use Rattle.rules.specs.Doubled.{every_rotation_plan, doubled_plan}
use Rattle.rules.specs.Quick.{quick_plan}
use Rattle.wish.specs.Wish.{wish_bits, code_of, slots_of}

-- a method, its number of ports and the demand's cells; or the bits of a wish. `every` is the doubled plan by the rule of every rotation
pub data Asked : Type 0 where
  exact doubled every quick : ℕ → List ℕ → Asked
  wish : ℕ → Asked

-- a plan; or a wish's code and slots
pub data Given : Type 0 where
  plan : List Record → Given
  slots : ℕ → ℕ → Given

-- what the rules give
unfoldable pub give : Asked → Given
give (exact N d) = plan (exact_plan 64 N d)
give (doubled N d) = plan (doubled_plan 64 N d)
give (every N d) = plan (every_rotation_plan 64 N d)
give (quick N d) = plan (quick_plan 64 N d)
give (wish bits) = slots (code_of (wish_bits bits)) (slots_of (wish_bits bits))

-- hold:outputs, the outputs past those named being idle
unfoldable pub rec : (hold : ℕ) (outputs : List ℕ) → Record
rec hold outputs = record { hold = hold; outputs = outputs ++ replicate (64 - length outputs) 255 }

-- a dash in §15
abbrev pub idle : ℕ
idle = 255

-- P1's demand, P4's, P6's and P9's
abbrev pub d1 : List ℕ
d1 = 2 ∷ 1 ∷ 1 ∷ 2 ∷ []

abbrev pub d4 : List ℕ
d4 = 3 ∷ 0 ∷ 1 ∷ 0 ∷ []

abbrev pub d6 : List ℕ
d6 = 1 ∷ 0 ∷ 1 ∷ 0 ∷ 1 ∷ 1 ∷ 1 ∷ 1 ∷ 0 ∷ []

abbrev pub d9 : List ℕ
d9 = 5 ∷ 0 ∷ 0 ∷ 0 ∷ 0 ∷ 5 ∷ 0 ∷ 0 ∷ 0 ∷ 0 ∷ 5 ∷ 0 ∷ 0 ∷ 0 ∷ 0 ∷ 5 ∷ []

-- P1 to P12; behind them P2, P8 and P9 by the rule of every rotation
unfoldable pub table : List (Asked × Given)
table =
    (exact 2 d1, plan (rec 2 (0 ∷ 1 ∷ []) ∷ rec 1 (1 ∷ 0 ∷ []) ∷ []))
    ∷ (doubled 2 d1, plan (rec 2 (0 ∷ 1 ∷ []) ∷ rec 1 (1 ∷ 0 ∷ []) ∷ []))
    ∷ (quick 2 d1, plan (rec 1 (0 ∷ 1 ∷ []) ∷ rec 1 (1 ∷ 0 ∷ []) ∷ rec 1 (0 ∷ 1 ∷ []) ∷ []))
    ∷ (exact 2 d4, plan (rec 3 (0 ∷ 1 ∷ []) ∷ rec 1 (1 ∷ 0 ∷ []) ∷ []))
    ∷ (quick 2 d4, plan (rec 1 (0 ∷ idle ∷ []) ∷ rec 1 (idle ∷ 0 ∷ []) ∷ rec 1 (0 ∷ idle ∷ []) ∷ rec 1 (0 ∷ idle ∷ []) ∷ []))
    ∷ (exact 3 d6, plan (rec 1 (0 ∷ 2 ∷ 1 ∷ []) ∷ rec 1 (2 ∷ 1 ∷ 0 ∷ []) ∷ []))
    ∷ (quick 3 d6, plan (rec 1 (0 ∷ 1 ∷ idle ∷ []) ∷ rec 1 (idle ∷ 2 ∷ 0 ∷ []) ∷ rec 1 (2 ∷ idle ∷ 1 ∷ []) ∷ []))
    ∷ (doubled 1 (5 ∷ []), plan (rec 5 (0 ∷ []) ∷ []))
    ∷ (doubled 4 d9, plan (rec 4 (0 ∷ 1 ∷ 2 ∷ 3 ∷ []) ∷ rec 1 (0 ∷ 1 ∷ 2 ∷ 3 ∷ []) ∷ []))
    ∷ (exact 1 (0 ∷ []), plan [])
    ∷ (wish 0x477FFF00, slots 0 65535)
    ∷ (wish 0x7FC00000, slots 6 0)
    ∷ (every 2 d1, plan (rec 2 (0 ∷ 1 ∷ []) ∷ rec 1 (0 ∷ 1 ∷ []) ∷ rec 1 (1 ∷ 0 ∷ []) ∷ []))
    ∷ (every 1 (5 ∷ []), plan (rec 5 (0 ∷ []) ∷ rec 4 (0 ∷ []) ∷ []))
    ∷ (
      every 4 d9,
      plan (rec 4 (0 ∷ 1 ∷ 2 ∷ 3 ∷ []) ∷ rec 1 (0 ∷ 1 ∷ 2 ∷ 3 ∷ []) ∷ rec 1 (1 ∷ 2 ∷ 3 ∷ 0 ∷ []) ∷ rec 1 (2 ∷ 3 ∷ 0 ∷ 1 ∷ [])
          ∷ rec 1 (3 ∷ 0 ∷ 1 ∷ 2 ∷ []) ∷ []),
    )
    ∷ []
