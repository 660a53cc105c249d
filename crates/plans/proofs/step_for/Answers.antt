-- Each return is the case of the definition whose tests led there; a plan that opens has its records inside its bytes.
use Rattle.std.proofs.Common.{ap, not}
use mathlib.Core.Path.{refl, sym, ◌∙◌}
use native.Mathlib.Omega.{arith}
use Prim.Native.Nat.{◌-◌}
use lib.Seq.{take_all}
use lib.ListN.{length, drop, length-replicate, length-take, length-drop}
use Rattle.plans.proofs.Read.{opened, opened-records, step_end, step-refused, step-opened}
use Rattle.plans.proofs.Stepping.{took-as, took_none, here-size, here-malformed, here-record}
use Rattle.plans.proofs.step_for.Goals as goal

pub returns-in_default : goal.returns-in_default
returns-in_default g c =
    let a = c.args in
    took_none a.e _ a.at (step-refused a.e a.n a.plan.now a.at (sym c.in_default.is ∙ c.«open».ensures)) c.requires.1 c.no_record.ensures

pub returns-then-counts-at : goal.returns-then-counts-at
returns-then-counts-at g c =
    let a = c.args in
    let o = sym c.in-Ok.is ∙ c.«open».ensures in
    took_none a.e _ a.at (step_end a.e _ a.n a.plan.now a.at c.if-counts-at.true ∙ step-opened a.e a.n a.plan.now a.at o) c.requires.1 c.no_record-then-counts-at.ensures

pub record_at-rec-requires : goal.record_at-rec-requires
record_at-rec-requires g c =
    let a = c.args in
    let o = sym c.in-Ok.is ∙ c.«open».ensures in
    (c.requires.0.width, omega (arith, opened-records a.e a.n a.plan.now _ o, c.if-counts-at.false))

pub record_fine-requires : goal.record_fine-requires
record_fine-requires g c =
    let a = c.args in
    let o = sym c.in-Ok.is ∙ c.«open».ensures in
    let b = c.requires.0 in
    let few = (opened a.e a.n a.plan.now _ o).few in
    (omega (arith, few, b.ports, b.width), omega (arith, few, b.ports, here-size a.e b a.n a.plan.now o a.at c.if-counts-at.false _ c.record_at-rec.ensures))

pub returns-then-not-record_fine : goal.returns-then-not-record_fine
returns-then-not-record_fine g c =
    let a = c.args in
    let o = sym c.in-Ok.is ∙ c.«open».ensures in
    took_none a.e _ a.at
    (here-malformed a.e c.requires.0 a.n a.plan.now o a.at c.if-counts-at.false _ c.record_at-rec.ensures _ c.record_fine.ensures (ap not c.if-not-record_fine.true))
    c.requires.1 c.no_record-then-not-record_fine.ensures

pub copy_from_slice-requires : goal.copy_from_slice-requires
copy_from_slice-requires g c =
    let a = c.args in
    let o = sym c.in-Ok.is ∙ c.«open».ensures in
    let rec = c.record_at-rec.result.now in
    let size = here-size a.e c.requires.0 a.n a.plan.now o a.at c.if-counts-at.false _ c.record_at-rec.ensures in
    rw (c.requires.1, length-replicate) (omega (arith, size, length-drop 4 rec, length-take (length rec - 4) (drop 4 rec)))

pub hold_of-requires : goal.hold_of-requires
hold_of-requires g c =
    let a = c.args in
    let o = sym c.in-Ok.is ∙ c.«open».ensures in
    omega (arith, here-size a.e c.requires.0 a.n a.plan.now o a.at c.if-counts-at.false _ c.record_at-rec.ensures)

pub returns : goal.returns
returns g c =
    let a = c.args in
    let o = sym c.in-Ok.is ∙ c.«open».ensures in
    let rec = c.record_at-rec.result.now in
    let is = here-record a.e c.requires.0 a.n a.plan.now o a.at c.if-counts-at.false _ c.record_at-rec.ensures _ c.record_fine.ensures (ap not c.if-not-record_fine.false) in
    let whole = take_all (length rec - 4) (drop 4 rec) (rw length-drop (omega arith)) in
    took-as is (record { step = refl; hold = c.hold_of.ensures; outputs = c.copy_from_slice.ensures.after ∙ whole; next = refl })

pub slice_bounds-copy_from_slice-count : goal.slice_bounds-copy_from_slice-count
slice_bounds-copy_from_slice-count g c =
    let a = c.args in
    let o = sym c.in-Ok.is ∙ c.«open».ensures in
    omega (arith, here-size a.e c.requires.0 a.n a.plan.now o a.at c.if-counts-at.false _ c.record_at-rec.ensures)

pub slice_bounds-copy_from_slice-start : goal.slice_bounds-copy_from_slice-start
slice_bounds-copy_from_slice-start g c =
    let a = c.args in
    let o = sym c.in-Ok.is ∙ c.«open».ensures in
    omega (arith, here-size a.e c.requires.0 a.n a.plan.now o a.at c.if-counts-at.false _ c.record_at-rec.ensures)
