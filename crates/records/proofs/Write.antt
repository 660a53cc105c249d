-- Writing one record case by case: each refusal is given exactly where its test is the first that fails.
use mathlib.Core.Path.{◌≡◌, refl, sym, ap, ◌∙◌}
use mathlib.Core.Bool.{Bool, true, false}
use mathlib.Core.List.{List}
use Prim.Native.Nat.{ℕ, ◌+◌, ◌<◌, ◌≤◌}
use native.Mathlib.Omega.{arith}
use lib.ListN.{length}
use borrow.Author.Tests.{le-leb, lt-leb}
use Rattle.switch.specs.declared.Refusal.TheVariants.{Ports, Room, Malformed}
use Rattle.switch.specs.declared.Edition.{Edition}
use Rattle.switch.specs.Check.{ports_fine}
use Rattle.switch.proofs.Check.{some-ports}
use Rattle.records.specs.Record.{hold, well_formed, outputs_fine}
use Rattle.records.specs.Bytes.{encode}
use Rattle.switch.specs.Result.{refuses}
use Rattle.records.specs.Write.{writes, written}
use Rattle.records.proofs.Fine.{no-hold, outputs-decide}

pub hold-encode : (e h N : ℕ) (o : List ℕ) → hold (encode e h N o) ≡ h
hold-encode e h N o = omega arith

-- of an encoded record only the hold and the outputs are in question
module _ (W e h N : ℕ) (o : List ℕ) where
  pub encode-idle : h ≡ 0 → well_formed W e N (encode e h N o) ≡ false
  encode-idle z = no-hold W e N (encode e h N o) (hold-encode e h N o ∙ z)

  pub encode-fine : (h ≡ 0 → ⊥) → well_formed W e N (encode e h N o) ≡ outputs_fine W N o
  encode-fine some = outputs-decide W e N (encode e h N o) (λ z. some (omega (arith, hold-encode e h N o))) refl refl

module _ (E : Edition) (h N : ℕ) (o buf : List ℕ) where
  -- the record that is asked for
  abbrev asked : List ℕ
  asked = encode E.byte h N o

  -- its outputs alone are in question where it is held
  pub asked-fine : (h ≡ 0 → ⊥) → length o ≡ E.width → {t : Bool} → t ≡ outputs_fine (length o) N o → well_formed E.width E.byte N asked ≡ t
  asked-fine some long f = encode-fine E.width E.byte h N o some ∙ ap (λ (k : ℕ). outputs_fine k N o) (sym long) ∙ sym f

  pub write-ports : ports_fine E.ports N ≡ false → refuses Ports buf ≡ written E h N o buf
  unfolding written
  write-ports e = rw e

  module _ (some : 0 < N) (few : N ≤ E.ports) where
    pub write-room : length buf < E.width + 4 → refuses (Room 1) buf ≡ written E h N o buf
    unfolding written
    write-room l = rw (some-ports _ _ some few, lt-leb _ _ l)

    module _ (room : E.width + 4 ≤ length buf) where
      pub write-malformed : well_formed E.width E.byte N asked ≡ false → refuses (Malformed 0) buf ≡ written E h N o buf
      unfolding written
      write-malformed w = rw (some-ports _ _ some few, le-leb _ _ room, w)

      pub write_done : well_formed E.width E.byte N asked ≡ true → writes E h N o buf ≡ written E h N o buf
      unfolding written
      write_done w = rw (some-ports _ _ some few, le-leb _ _ room, w)
