-- A plan of two parts, the second laid behind the first, is the whole plan laid at once.
use mathlib.Core.Path.{◌≡◌, ap, sym, ◌∙◌}
use mathlib.Core.List.{List, ◌++◌}
use Prim.Native.Nat.{ℕ, ◌+◌, ◌≤◌}
use native.Mathlib.Omega.{arith}
use lib.ListN.{length, length-append}
use Rattle.switch.specs.Plan.{Record}
use Rattle.records.specs.Bytes.{bytes, laid}
use Rattle.records.proofs.Laid.{length-laid, laid_more}
use Rattle.records.proofs.Bytes.{bytes-append}

module _ (e N : ℕ) (d : List ℕ) (at : ℕ) (p q : List Record) (fits : at + length (bytes e N (p ++ q)) ≤ length d) where
  both-size : length (bytes e N (p ++ q)) ≡ length (bytes e N p) + length (bytes e N q)
  both-size = ap length (bytes-append e N p q) ∙ length-append (bytes e N p) (bytes e N q)

  pub part_room : at + length (bytes e N p) ≤ length d
  part_room = omega (arith, both-size)

  module _ (d' : List ℕ) (put : d' ≡ laid d at (bytes e N p)) where
    pub part_length : length d' ≡ length d
    part_length = ap length put ∙ length-laid d at (bytes e N p) part_room

    pub part-fits : at + length (bytes e N p) + length (bytes e N q) ≤ length d'
    part-fits = omega (arith, both-size, part_length)

    pub part-laid : laid d' (at + length (bytes e N p)) (bytes e N q) ≡ laid d at (bytes e N (p ++ q))
    part-laid =
        ap (λ (x : List ℕ). laid x (at + length (bytes e N p)) (bytes e N q)) put
        ∙ laid_more d at (bytes e N p) part_room (bytes e N q)
        ∙ ap (laid d at) (sym (bytes-append e N p q))
