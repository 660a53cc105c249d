-- An outcome is told by its numbers: the refusal can be read back from its code, its place and its side.
use Rattle.std.specs.Prelude.{Err, Ok}
use mathlib.Core.Path.{◌≡◌, refl, sym, ap, ◌∙◌}
use mathlib.Core.Bool.{cond}
use Prim.Native.Nat.{ℕ}
use lib.Dec.{eqb}
use borrow.Author.Tests.{eq-eqb}
use Rattle.switch.specs.Answer.{code_of, counts_of, numbers_of}
use Rattle.switch.specs.declared.Numbers.{Numbers}
use Rattle.switch.specs.declared.Side.TheVariants.{Input, Output}
use Rattle.switch.specs.declared.Refusal.{Refusal}
use Rattle.switch.specs.declared.Refusal.TheVariants.{Ports, Cells, Line, Longest, Room, NotFinite, BelowZero, AboveMost}
use Rattle.switch.specs.declared.Refusal.TheVariants.{Torn, Records, Malformed, Named, Uncovered}
use Rattle.switch.specs.declared.Refusal.TheVariants.{LongestOver, NotInForce, FirstOver, ListRoom, Limit}
use Rattle.switch.specs.Outcome.{Outcome}

-- code 3 names a line by its side, or none
line_from : ℕ → ℕ → Refusal
line_from s p = cond (eqb s 1) (Line (Input (record { 0 = p }))) (cond (eqb s 2) (Line (Output (record { 0 = p }))) LongestOver)

-- codes 1 to 5, 6 to 13, and those of later requests
early : ℕ → ℕ → ℕ → Refusal → Refusal
early c p s other =
    cond (eqb c 1) Ports
    (cond (eqb c 2) (Cells p)
    (cond (eqb c 3) (line_from s p)
    (cond (eqb c 4) Longest (cond (eqb c 5) (Room p) other))))

middle : ℕ → ℕ → Refusal → Refusal
middle c p other =
    cond (eqb c 6) (NotFinite p)
    (cond (eqb c 7) (BelowZero p)
    (cond (eqb c 8) (AboveMost p)
    (cond (eqb c 9) (Torn p)
    (cond (eqb c 10) (Records p)
    (cond (eqb c 11) (Malformed p)
    (cond (eqb c 12) (Named p) (cond (eqb c 13) (Uncovered p) other)))))))

late : ℕ → ℕ → Refusal
late c p = cond (eqb c 14) NotInForce (cond (eqb c 15) (FirstOver p) (cond (eqb c 16) (ListRoom p) Limit))

refusal_from : ℕ → ℕ → ℕ → Refusal
refusal_from c p s = early c p s (middle c p (late c p))

outcome_from : Numbers → Outcome
outcome_from a = cond (eqb a.code 0) (Ok a.counts) (Err (refusal_from a.code a.place a.side))

told : (o : Outcome) → outcome_from (numbers_of o) ≡ o
unfolding outcome_from refusal_from early middle late line_from
told (Ok c) = refl
told (Err Ports) = refl
told (Err (Cells k)) = refl
told (Err (Line (Input p))) = refl
told (Err (Line (Output p))) = refl
told (Err Longest) = refl
told (Err (Room k)) = refl
told (Err (NotFinite k)) = refl
told (Err (BelowZero k)) = refl
told (Err (AboveMost k)) = refl
told (Err (Torn k)) = refl
told (Err (Records k)) = refl
told (Err (Malformed k)) = refl
told (Err (Named k)) = refl
told (Err (Uncovered k)) = refl
told (Err LongestOver) = refl
told (Err NotInForce) = refl
told (Err (FirstOver k)) = refl
told (Err (ListRoom k)) = refl
told (Err Limit) = refl

-- outcomes with the same code, place, side and counts are the same
pub answer-tells : (o p : Outcome) → numbers_of o ≡ numbers_of p → o ≡ p
answer-tells o p e = sym (told o) ∙ ap outcome_from e ∙ told p

-- code 0 is given to what is done, and to nothing else
pub code-done : (o : Outcome) → code_of o ≡ 0 → o ≡ Ok (counts_of o)
unfolding outcome_from
code-done o e = sym (told o) ∙ rw (eq-eqb (code_of o) 0 e)

-- A contract that gives a result by a definition determines it: any two results that satisfy it are equal.
pub determined : {A : Type 0} (a b given : A) → a ≡ given → b ≡ given → a ≡ b
determined a b given p q = p ∙ sym q
