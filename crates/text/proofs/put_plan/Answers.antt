-- The first line, and the records' lines behind it.
use mathlib.Core.Path.{◌≡◌, refl, sym, ap, ◌∙◌}
use mathlib.Core.List.{List, map, ◌++◌}
use Prim.Native.Nat.{ℕ, ◌+◌, ◌*◌, ◌/◌, ◌≤◌}
use native.Mathlib.Omega.{arith}
use lib.ListN.{length, take}
use Rattle.std.specs.Simd.{first_chunks}
use Rattle.std.proofs.lemmas.List.{length-take-le}
use Rattle.switch.specs.declared.Counts.{Counts}
use Rattle.text.specs.Put.{Put}
use Rattle.records.specs.Record.{decoded}
use Rattle.records.specs.Bytes.{plan_from}
use Rattle.text.specs.Text.{first_line, record_lines, plan_text}
use Rattle.text.proofs.Put.{first-room, second-room, put_two}
use Rattle.text.proofs.Text.{pieces}
use Rattle.text.proofs.put_plan.Goals as goal

module _ (n : ℕ) (c : Counts) (plan d : List ℕ) (l : c.records * 68 ≤ length plan) (cut : List (List ℕ)) (e : cut ≡ first_chunks 68 (length plan / 68) plan) where
  -- the records are the first pieces of the plan's bytes
  lines : map decoded (take c.records cut) ≡ plan_from 64 plan 0 c.records
  lines = ap (λ (x : List (List ℕ)). map decoded (take c.records x)) e ∙ pieces plan c.records (length plan / 68) (omega arith)

  abbrev Whole : List ℕ
  Whole = plan_text n c (plan_from 64 plan 0 c.records)

  module _ (fits : length Whole ≤ length d) where
    both-fit : 0 + length (first_line n c ++ record_lines n (plan_from 64 plan 0 c.records)) ≤ length d
    unfolding plan_text
    both-fit = omega (arith, fits)

    line-room : length (first_line n c) ≤ length d
    line-room = omega (arith, first-room (first_line n c) (record_lines n (plan_from 64 plan 0 c.records)) d 0 both-fit)

    module _ (d' : List ℕ) (at : ℕ) (p : Put (first_line n c) d 0 d' at) where
      lines-room : at + length (record_lines n (map decoded (take c.records cut))) ≤ length d'
      lines-room = rw lines (second-room (first_line n c) (record_lines n (plan_from 64 plan 0 c.records)) d 0 both-fit d' at p)

      both-put : (d'' : List ℕ) (end : ℕ) → Put (record_lines n (map decoded (take c.records cut))) d' at d'' end → Put Whole d 0 d'' end
      unfolding plan_text
      both-put d'' end q = put_two (first_line n c) (record_lines n (plan_from 64 plan 0 c.records)) d 0 both-fit d' at p d'' end (rw lines at q)

pub put_first_line-at-requires : goal.put_first_line-at-requires
put_first_line-at-requires c = line-room c.args.n c.args.counts c.args.plan.now c.args.text.now c.requires.1 _ refl c.requires.2

pub slice_bounds-lines-end : goal.slice_bounds-lines-end
slice_bounds-lines-end c = sym (length-take-le _ _ (rw c.as_chunks.ensures.front_len (omega arith)))

pub put_record_lines-requires : goal.put_record_lines-requires
put_record_lines-requires c = (c.requires.0, lines-room c.args.n c.args.counts c.args.plan.now c.args.text.now c.requires.1 _ c.as_chunks.ensures.front c.requires.2 _ _ c.put_first_line-at.ensures)

pub returns : goal.returns
returns c = both-put c.args.n c.args.counts c.args.plan.now c.args.text.now c.requires.1 _ c.as_chunks.ensures.front c.requires.2 _ _ c.put_first_line-at.ensures _ _ c.put_record_lines.ensures
