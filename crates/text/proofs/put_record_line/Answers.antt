-- The hold, the outputs behind it, and the line feed behind both.
use mathlib.Core.Path.{◌≡◌, ◌∙◌, subst}
use mathlib.Core.List.{List, [], ◌∷◌, ◌++◌, map}
use Prim.Native.Nat.{ℕ, ◌+◌, ◌-◌, ◌≤◌}
use native.Mathlib.Omega.{arith}
use lib.ListN.{length, take}
use Rattle.records.specs.Record.{hold, decoded}
use Rattle.text.specs.Decimal.{decimal}
use Rattle.text.specs.Line.{line, feed}
use Rattle.text.specs.Put.{Put}
use Rattle.text.specs.Text.{record_line}
use Rattle.text.proofs.Put.{first-room, second-room, put_two}
use Rattle.records.specs.Record.{outputs}
use Rattle.text.specs.Line.{spaced}
use Rattle.text.specs.Text.{output_field}
use Rattle.text.proofs.put_record_line.Goals as goal

-- the hold and the outputs of a record
abbrev front : ℕ → List ℕ → List ℕ
front n b = decimal (hold b) ++ spaced (map output_field (take n (outputs b)))

module _ (n : ℕ) (b d : List ℕ) (at : ℕ) (fits : at + length (record_line n (decoded b)) ≤ length d) where
  line-fits : at + length (front n b ++ (feed ∷ [])) ≤ length d
  line-fits = unfold record_line line in fits

  front_fits : at + length (front n b) ≤ length d
  front_fits = first-room (front n b) (feed ∷ []) d at line-fits

  -- the line feed behind them ends the line
  line-put : (e f : List ℕ) (to end : ℕ) → Put (front n b) d at e to → Put (feed ∷ []) e to f end → Put (record_line n (decoded b)) d at f end
  unfolding record_line line
  line-put e f to end p q = put_two (front n b) (feed ∷ []) d at line-fits e to p f end q

-- the part behind the head has n outputs
own : (n : ℕ) → 4 + n - 4 ≡ n
own n = omega arith

pub put_decimal-hold-requires : goal.put_decimal-hold-requires
put_decimal-hold-requires c =
    let a = c.args in
    rw (c.from.ensures ∙ c.hold_of.ensures) (first-room (decimal (hold a.rec.now)) (spaced (map output_field (take a.n (outputs a.rec.now)))) a.text.now a.at (front_fits a.n a.rec.now a.text.now a.at c.requires.1))

pub put_outputs-outputs-requires : goal.put_outputs-outputs-requires
put_outputs-outputs-requires c =
    let held : (let a = c.args in Put (decimal (hold a.rec.now)) a.text.now a.at c.put_decimal-hold.new.text c.put_decimal-hold.result) = let a = c.args in subst (λ (h : ℕ). Put (decimal h) a.text.now a.at c.put_decimal-hold.new.text c.put_decimal-hold.result) (c.from.ensures ∙ c.hold_of.ensures) c.put_decimal-hold.ensures in
    let a = c.args in
    rw (own a.n) (second-room (decimal (hold a.rec.now)) (spaced (map output_field (take a.n (outputs a.rec.now)))) a.text.now a.at (front_fits a.n a.rec.now a.text.now a.at c.requires.1) _ _ held)

pub put_bytes-requires : goal.put_bytes-requires
put_bytes-requires c =
    let held : (let a = c.args in Put (decimal (hold a.rec.now)) a.text.now a.at c.put_decimal-hold.new.text c.put_decimal-hold.result) = let a = c.args in subst (λ (h : ℕ). Put (decimal h) a.text.now a.at c.put_decimal-hold.new.text c.put_decimal-hold.result) (c.from.ensures ∙ c.hold_of.ensures) c.put_decimal-hold.ensures in
    let front-put : (let a = c.args in Put (front a.n a.rec.now) a.text.now a.at c.put_outputs-outputs.new.text c.put_outputs-outputs.result) = let a = c.args in
    put_two (decimal (hold a.rec.now)) (spaced (map output_field (take a.n (outputs a.rec.now)))) a.text.now a.at (front_fits a.n a.rec.now a.text.now a.at c.requires.1) _ _ held _ _ (rw (own a.n) at c.put_outputs-outputs.ensures) in
    let a = c.args in
    second-room (front a.n a.rec.now) (feed ∷ []) a.text.now a.at (line-fits a.n a.rec.now a.text.now a.at c.requires.1) _ _ front-put

pub returns : goal.returns
returns c =
    let held : (let a = c.args in Put (decimal (hold a.rec.now)) a.text.now a.at c.put_decimal-hold.new.text c.put_decimal-hold.result) = let a = c.args in subst (λ (h : ℕ). Put (decimal h) a.text.now a.at c.put_decimal-hold.new.text c.put_decimal-hold.result) (c.from.ensures ∙ c.hold_of.ensures) c.put_decimal-hold.ensures in
    let front-put : (let a = c.args in Put (front a.n a.rec.now) a.text.now a.at c.put_outputs-outputs.new.text c.put_outputs-outputs.result) = let a = c.args in
    put_two (decimal (hold a.rec.now)) (spaced (map output_field (take a.n (outputs a.rec.now)))) a.text.now a.at (front_fits a.n a.rec.now a.text.now a.at c.requires.1) _ _ held _ _ (rw (own a.n) at c.put_outputs-outputs.ensures) in
    let a = c.args in
    line-put a.n a.rec.now a.text.now a.at c.requires.1 _ _ _ _ front-put c.put_bytes.ensures
