-- The bytes of a plan: W + 4 for each record; and one turn of a loop that writes a plan, which lays the next record behind those before it.
use mathlib.Core.Path.{◌≡◌, refl, sym, ap, ◌∙◌}
use mathlib.Core.List.{List, [], ◌∷◌, ◌++◌, append_assoc}
use Prim.Native.Nat.{ℕ, ◌+◌, ◌*◌, ◌≤◌}
use native.Mathlib.Omega.{arith}
use lib.ListN.{length, length-append}
use Rattle.switch.specs.Plan.{Record}
use Rattle.switch.specs.Sound.{Each, none, more, OfWidth}
use Rattle.records.specs.Bytes.{encode, bytes, laid}
use Rattle.records.proofs.Laid.{length-laid, laid_more}

pub bytes-none : (e N : ℕ) → bytes e N [] ≡ []
unfolding bytes
bytes-none e N = refl

pub bytes-more : (e N : ℕ) (r : Record) (p : List Record) → bytes e N (r ∷ p) ≡ encode e r.hold N r.outputs ++ bytes e N p
unfolding bytes
bytes-more e N r p = refl

pub bytes-append : (e N : ℕ) (p q : List Record) → bytes e N (p ++ q) ≡ bytes e N p ++ bytes e N q
unfolding bytes
bytes-append e N [] q = refl
bytes-append e N (r ∷ p) q =
    ap (λ (l : List ℕ). encode e r.hold N r.outputs ++ l) (bytes-append e N p q)
    ∙ sym (append_assoc (encode e r.hold N r.outputs) (bytes e N p) (bytes e N q))

pub encode-size : (e h N W : ℕ) (o : List ℕ) → length o ≡ W → length (encode e h N o) ≡ W + 4
encode-size e h N W o l = omega arith

pub bytes-size : (e N W : ℕ) {p : List Record} → Each (OfWidth W) p → length (bytes e N p) ≡ length p * (W + 4)
unfolding bytes
bytes-size e N W none = omega arith
bytes-size e N W (more {r = r} {p = p} w s) =
    omega (arith, length-append (encode e r.hold N r.outputs) (bytes e N p), encode-size e r.hold N W r.outputs w, bytes-size e N W s)

-- what is left to write is a record and the rest, and the record is laid at its place
module _ (e N : ℕ) (d : List ℕ) (at : ℕ) (r : Record) (q : List Record) (fits : at + length (bytes e N (r ∷ q)) ≤ length d) where
  pub turn-size : length (bytes e N (r ∷ q)) ≡ length r.outputs + 4 + length (bytes e N q)
  unfolding bytes
  turn-size = omega (arith, length-append (encode e r.hold N r.outputs) (bytes e N q))

  pub turn-room : at + (length r.outputs + 4) ≤ length d
  turn-room = omega (arith, turn-size)

  module _ (d' : List ℕ) (w : d' ≡ laid d at (encode e r.hold N r.outputs)) where
    room : at + length (encode e r.hold N r.outputs) ≤ length d
    room = omega (arith, turn-room)

    pub turn-length : length d' ≡ length d
    turn-length = ap length w ∙ length-laid d at (encode e r.hold N r.outputs) room

    pub turn-fits : at + (length r.outputs + 4) + length (bytes e N q) ≤ length d'
    turn-fits = omega (arith, turn-size, turn-length)

    pub turn-laid : laid d' (at + (length r.outputs + 4)) (bytes e N q) ≡ laid d at (bytes e N (r ∷ q))
    turn-laid =
        ap (λ (x : List ℕ). laid x (at + (length r.outputs + 4)) (bytes e N q)) w
        ∙ ap (λ (k : ℕ). laid (laid d at (encode e r.hold N r.outputs)) (at + k) (bytes e N q)) (sym (encode-size e r.hold N (length r.outputs) r.outputs refl))
        ∙ laid_more d at (encode e r.hold N r.outputs) room (bytes e N q)
        ∙ ap (laid d at) (sym (bytes-more e N r q))
