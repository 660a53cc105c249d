-- What is copied over a part of the text is laid there.
use mathlib.Core.Path.{refl, ap, ◌∙◌}
use mathlib.Core.List.{List, ◌++◌}
use Prim.Native.Nat.{ℕ, ◌+◌}
use native.Mathlib.Omega.{arith}
use lib.ListN.{length, take, drop}
use lib.Seq.{take_all}
use Rattle.std.proofs.lemmas.Slice.{put_mid-paste}
use Rattle.records.specs.Bytes.{laid}
use Rattle.text.proofs.put_bytes.Goals as goal

pub returns : goal.returns
unfolding laid
returns c =
    let d = c.args.text.now in
    let at = c.args.at in
    let s = c.args.bytes.now in
    record {
      place = refl;
      text =
          put_mid-paste at _ d _ s (length s) c.copy_from_slice.ensures.after (omega arith) refl
          ∙ ap (λ (x : List ℕ). take at d ++ x ++ drop (at + length s) d) (take_all (length s) s (omega arith));
    }
