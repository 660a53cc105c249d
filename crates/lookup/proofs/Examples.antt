-- Two plans slot by slot, by computing: tonight 3 and 2 slots, standby 2 and 1.
use mathlib.Core.Path.{◌≡◌, refl}
use mathlib.Core.List.{List, [], ◌∷◌}
use Prim.Native.Nat.{ℕ}
use Rattle.switch.specs.declared.About.TheVariants as about
use Rattle.switch.specs.declared.Refusal.TheVariants.{NotInForce}
use Rattle.switch.specs.Plan.{Record, total}
use Rattle.lookup.specs.Force.{in_force}
use Rattle.lookup.specs.Lookup.{Answered, in_tonight, in_standby, refused, repeating, spot_in}

abbrev held : ℕ → Record
held h = record { hold = h; outputs = [] }

abbrev tonight : List Record
tonight = held 3 ∷ held 2 ∷ []

abbrev standby : List Record
standby = held 2 ∷ held 1 ∷ []

abbrev at : ℕ → Answered
at = spot_in tonight standby

slots : (at 0 ≡ in_tonight 0) × (at 2 ≡ in_tonight 0) × (at 3 ≡ in_tonight 1) × (at 4 ≡ in_tonight 1)
unfolding spot_in repeating in_force total
slots = (refl, refl, refl, refl)

-- the standby plan starts at slot 5, and again at slot 8
again : (at 5 ≡ in_standby 0) × (at 6 ≡ in_standby 0) × (at 7 ≡ in_standby 1) × (at 8 ≡ in_standby 0)
unfolding spot_in repeating in_force total
again = (refl, refl, refl, refl)

-- the last slot of 64 bits is the standby plan's slot 1
last : at 18446744073709551615 ≡ in_standby 0
unfolding spot_in repeating in_force total
last = refl

abbrev nothing : Answered
nothing = refused about.Nothing NotInForce

empty : (spot_in [] standby 0 ≡ in_standby 0) × (spot_in tonight [] 4 ≡ in_tonight 1) × (spot_in tonight [] 5 ≡ nothing) × (spot_in [] [] 0 ≡ nothing)
unfolding spot_in repeating in_force total
empty = (refl, refl, refl, refl)
