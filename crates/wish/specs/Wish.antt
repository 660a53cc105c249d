-- What one wish comes to. A wish is a binary32, and a finite one a fraction of whole numbers: with lib.Ieee's up e / down e for 2 ^ e,
-- one of the two being 1, it is m * up e / down e, negated where its sign is true. Definitions only.
use Rattle.std.specs.Prelude.{ℕ, zero, suc, ◌+◌, ◌-◌, ◌*◌, ◌/◌, ◌≤◌, max, Bool, true, ◌&&◌, cond, ◌≡◌, ltb, Float}
use Rattle.std.specs.Float.{nan, inf, fin, binary32}
use Rattle.std.specs.Float.Ieee.{up, down, of_bits}
use Rattle.std.specs.Prelude.{Ok, Err}
use Rattle.std.specs.declared.result.Result.{Result}
use Rattle.wish.specs.declared.Unfit.{Unfit}
use Rattle.wish.specs.declared.Unfit.TheVariants.{NotFinite, BelowZero, AboveMost}

-- what a wish comes to: its slots, or why it is refused
abbrev pub Wish : Type 0
Wish = Result ℕ Unfit

-- a wish above this is code 8
abbrev pub most_slots : ℕ
most_slots = 65535

-- the least whole number not below num / den, where den is above 0
unfoldable pub ceil : (num den : ℕ) → ℕ
ceil num den = (num + (den - 1)) / den

-- the slots of a wish whose ceiling is k: that, but 2 in the place of 1 (§4.3)
unfoldable pub worth : ℕ → ℕ
worth zero = 0
worth (suc k) = max 2 (suc k)

-- the finite wish num / den, negated where s is true; minus zero is not below zero
unfoldable pub finite : (s : Bool) (num den : ℕ) → Wish
finite s num den =
    cond (s && ltb 0 num) (Err BelowZero)
    (cond (ltb (most_slots * den) num) (Err AboveMost)
    (Ok (worth (ceil num den))))

-- the wish x
unfoldable pub wish_of : Float → Wish
wish_of nan = Err NotFinite
wish_of (inf s) = Err NotFinite
wish_of (fin s m e) = finite s (m * up e) (down e)

-- the wish of 32 bits, whatever they are: of_bits reads every NaN's pattern as nan
unfoldable pub wish_bits : (b : ℕ) → Wish
wish_bits b = wish_of (of_bits binary32 b)

-- the code of a wish (§4.4), 0 where nothing is refused
abbrev pub code_of : Wish → ℕ
code_of (Ok k) = 0
code_of (Err NotFinite) = 6
code_of (Err BelowZero) = 7
code_of (Err AboveMost) = 8

-- a wish's slots, 0 where it is refused
abbrev pub slots_of : Wish → ℕ
slots_of (Ok k) = k
slots_of (Err u) = 0

-- x is finite and from 0 to the most slots
abbrev pub InRange : Float → Type 0
InRange nan = ⊥
InRange (inf s) = ⊥
InRange (fin s m e) = (s ≡ true → m * up e ≡ 0) × (m * up e ≤ most_slots * down e)

-- the least whole number not below such an x
unfoldable pub ceil_of : Float → ℕ
ceil_of nan = 0
ceil_of (inf s) = 0
ceil_of (fin s m e) = ceil (m * up e) (down e)
