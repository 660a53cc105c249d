-- The settings of a plan, each once, in order of first appearance and with its holds summed (§12.2). Definitions only.
use Rattle.std.specs.Prelude.{◌≡◌, Bool, true, false, cond, ◌&&◌, List, [], ◌∷◌, ℕ, suc, ◌+◌, ◌<◌, length, get_or, eqb}
use Rattle.switch.specs.Plan.{Record}

-- the same output for every input
unfoldable pub same_outputs : List ℕ → List ℕ → Bool
same_outputs [] [] = true
same_outputs [] (y ∷ b) = false
same_outputs (x ∷ a) [] = false
same_outputs (x ∷ a) (y ∷ b) = eqb x y && same_outputs a b

-- a setting's holds are summed; a setting that has no sum yet comes last
unfoldable pub add_hold : List Record → Record → List Record
add_hold [] r = r ∷ []
add_hold (s ∷ q) r =
    cond (same_outputs s.outputs r.outputs) (record { hold = s.hold + r.hold; outputs = s.outputs } ∷ q) (s ∷ add_hold q r)

-- the sums q with the holds of the plan p added to them, record by record
unfoldable pub sums_onto : List Record → List Record → List Record
sums_onto q [] = q
sums_onto q (r ∷ p) = sums_onto (add_hold q r) p

-- the settings of a plan in order of first appearance, each with its holds summed
abbrev pub sums : (p : List Record) → List Record
sums p = sums_onto [] p

-- ---- the same in plain statements

-- the holds of the records of p that have the setting o, summed
unfoldable pub hold_of : List ℕ → List Record → ℕ
hold_of o [] = 0
hold_of o (r ∷ p) = cond (same_outputs r.outputs o) r.hold 0 + hold_of o p

-- the first record of p that has the setting o; the number of records where none has it
unfoldable pub appears : List ℕ → List Record → ℕ
appears o [] = 0
appears o (r ∷ p) = cond (same_outputs r.outputs o) 0 (suc (appears o p))

-- the setting of record k
abbrev pub setting_at : (p : List Record) (k : ℕ) → List ℕ
setting_at p k = (get_or p k (record { hold = 0; outputs = [] })).outputs

-- q has the settings of p, in order of first appearance and so none twice, and each is held in q for as long as in p
pub record Summed (p q : List Record) : Type 0 where
  pub holds : (o : List ℕ) → hold_of o q ≡ hold_of o p
  pub each : (o : List ℕ) → appears o p < length p → appears o q < length q
  pub only : (k : ℕ) → k < length q → appears (setting_at q k) p < length p
  pub order : (j k : ℕ) → j < k → k < length q → appears (setting_at q j) p < appears (setting_at q k) p
