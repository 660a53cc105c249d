-- Writing one record at the start of a lent buffer (§5.8). Definitions only.
use Rattle.std.specs.Prelude.{Ok}
use Rattle.std.specs.Prelude.{List, ℕ, ◌+◌, length, leb}
use Rattle.switch.specs.declared.Refusal.TheVariants.{Ports, Room, Malformed}
use Rattle.switch.specs.Answer.{plan_counts}
use Rattle.switch.specs.Check.{ports_fine}
use Rattle.switch.specs.declared.Edition.{Edition}
use Rattle.switch.specs.Result.{Result, refuses, unless}
use Rattle.records.specs.Record.{well_formed}
use Rattle.records.specs.Bytes.{encode, laid}

-- success changes only the record written; records 1 and its hold as total
abbrev pub writes : Edition → (hold N : ℕ) (outputs buf : List ℕ) → Result
writes E hold N outputs buf = record { outcome = Ok (plan_counts 1 0 hold); bytes = laid buf 0 (encode E.byte hold N outputs) }

-- refusals 1, 5 (place 1), 11 (place 0), in this order (§9.9)
unfoldable pub written : Edition → (hold N : ℕ) (outputs buf : List ℕ) → Result
written E hold N outputs buf =
    unless (ports_fine E.ports N) (refuses Ports buf)
    (unless (leb (E.width + 4) (length buf)) (refuses (Room 1) buf)
    (unless (well_formed E.width E.byte N (encode E.byte hold N outputs)) (refuses (Malformed 0) buf) (writes E hold N outputs buf)))
