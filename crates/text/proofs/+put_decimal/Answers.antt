-- A number below ten is one digit; any other is its tenth, put first, and the last digit behind it.
use Rattle.std.proofs.Common.{List, [], ◌∷◌, ◌++◌, ℕ, ◌≤◌, ◌+◌, ◌/◌, ◌%◌, length, ap, arith}
use Rattle.text.specs.Decimal.{digit, decimal}
use Rattle.text.proofs.Decimal.{decimal-one, decimal-more}
use Rattle.text.proofs.Put.{first-room, second-room, put_two}
use Rattle.text.proofs.+put_decimal.Goals as goal

-- the last digit
abbrev last : ℕ → List ℕ
last n = digit (n % 10) ∷ []

room : (n at size : ℕ) → 10 ≤ n → at + length (decimal n) ≤ size → at + length (decimal (n / 10) ++ last n) ≤ size
room n at size l f = rw (decimal-more n l) at f

pub put_digit-requires : goal.put_digit-requires
put_digit-requires t c = (omega arith, omega (arith, ap length (decimal-one _ c.if-number-lt10.true)))

pub returns-then-number-lt10 : goal.returns-then-number-lt10
returns-then-number-lt10 t c = rw (decimal-one _ c.if-number-lt10.true) c.put_digit.ensures

pub put_decimal-last-requires : goal.put_decimal-last-requires
put_decimal-last-requires t c =
    let a = c.args in
    let n = a.number in
    (omega (arith, c.decreases), first-room (decimal (n / 10)) (last n) a.text.now a.at (room n _ _ c.if-number-lt10.false c.requires))

pub put_digit-requires-2 : goal.put_digit-requires-2
put_digit-requires-2 t c =
    let a = c.args in
    let n = a.number in
    (omega arith, second-room (decimal (n / 10)) (last n) a.text.now a.at (room n _ _ c.if-number-lt10.false c.requires) _ _ c.put_decimal-last.ensures)

pub returns : goal.returns
returns t c =
    let a = c.args in
    let n = a.number in
    let l = c.if-number-lt10.false in
    rw (decimal-more n l) (put_two (decimal (n / 10)) (last n) a.text.now a.at (room n _ _ l c.requires) _ _ c.put_decimal-last.ensures _ _ c.put_digit-2.ensures)
