-- The lowest output of the input's label that is neither taken nor full is what the rule gives it, and its wavelength is counted.
use Prim.Native.Nat.{ℕ}
use mathlib.Core.Path.{refl, ◌∙◌, subst}
use Prim.Native.Nat.{◌<◌}
use native.Mathlib.Omega.{arith}
use lib.ListN.{get_or}
use Rattle.std.specs.declared.option.Option.{Option}
use Rattle.sets.specs.Label.{Lowest, LowestAt}
use Rattle.quiet_setting.proofs.Visiting.{given-none, given-at, not_full, visit-none, count_small, visit-at, marked-inside}
use Rattle.quiet_setting.proofs.visit.Goals as goal

pub first_word-row-requires : goal.first_word-row-requires
first_word-row-requires c = omega (arith, c.requires.0, c.requires.1.size)

pub turned-requires : goal.turned-requires
turned-requires c = let p = c.requires in (p.1.some, p.1.few, p.2.full.inside)

pub returns-in_default : goal.returns-in_default
returns-in_default c =
    let a = c.args in
    visit-none a.n a.limit a.rows.now a.i.0 a.out.now a.counts.now a.busy c.requires.0 c.requires.1 c.requires.2
    (given-none a.n a.limit a.rows.now a.i.0 a.out.now a.counts.now a.busy c.requires.0 c.requires.1 c.requires.2
    c.with.result.0 c.but-free.result.0 c.with.ensures c.first_word-row.result.0 c.first_word-row.ensures c.but-free.ensures
    (subst (λ (f : (Option ℕ)). Lowest 64 c.but-free.result.0 f) c.in_default.is c.lowest.ensures))
    _ refl c.turned.ensures

pub wavelength_of-w-requires : goal.wavelength_of-w-requires
wavelength_of-w-requires c = let found : LowestAt 64 c.but-free.result.0 c.in-Some.j = subst (λ (f : (Option ℕ)). Lowest 64 c.but-free.result.0 f) c.in-Some.is c.lowest.ensures in
    let inside : c.in-Some.j < c.args.n = c.requires.1.inside c.args.i.0 c.in-Some.j c.requires.0 found.small (c.first_word-row.ensures c.in-Some.j found.small ∙ c.but-free.ensures.less c.in-Some.j found.here) in
    let p = c.requires in (p.0, inside, omega (arith, p.1.few))

pub bounds-counts-w : goal.bounds-counts-w
bounds-counts-w c = omega (arith, c.wavelength_of-w.ensures.1, c.requires.2.room)

pub overflow_add-used : goal.overflow_add-used
overflow_add-used c = let counted : get_or c.args.counts.now c.wavelength_of-w.result 0 < 65 = let a = c.args in
    omega (
      arith,
      count_small a.n a.limit a.rows.now a.i.0 a.out.now a.counts.now a.busy c.requires.0 c.requires.1 c.requires.2 c.wavelength_of-w.result c.wavelength_of-w.ensures.1,
    ) in
    omega (arith, counted)

pub bounds-counts-w-2 : goal.bounds-counts-w-2
bounds-counts-w-2 c = omega (arith, c.wavelength_of-w.ensures.1, c.requires.2.room)

pub overflow_cast-out : goal.overflow_cast-out
overflow_cast-out c = let found : LowestAt 64 c.but-free.result.0 c.in-Some.j = subst (λ (f : (Option ℕ)). Lowest 64 c.but-free.result.0 f) c.in-Some.is c.lowest.ensures in
    omega (arith, found.small)

pub bounds-out-port : goal.bounds-out-port
bounds-out-port c = omega (arith, c.requires.0, c.requires.2.wide)

pub overflow_cast-used : goal.overflow_cast-used
overflow_cast-used c = let counted : get_or c.args.counts.now c.wavelength_of-w.result 0 < 65 = let a = c.args in
    omega (
      arith,
      count_small a.n a.limit a.rows.now a.i.0 a.out.now a.counts.now a.busy c.requires.0 c.requires.1 c.requires.2 c.wavelength_of-w.result c.wavelength_of-w.ensures.1,
    ) in
    omega (arith, counted)

pub mark_if-fuller-requires : goal.mark_if-fuller-requires
mark_if-fuller-requires c = let found : LowestAt 64 c.but-free.result.0 c.in-Some.j = subst (λ (f : (Option ℕ)). Lowest 64 c.but-free.result.0 f) c.in-Some.is c.lowest.ensures in
    found.small

pub mark-requires : goal.mark-requires
mark-requires c = let found : LowestAt 64 c.but-free.result.0 c.in-Some.j = subst (λ (f : (Option ℕ)). Lowest 64 c.but-free.result.0 f) c.in-Some.is c.lowest.ensures in
    found.small

pub turned-requires-2 : goal.turned-requires-2
turned-requires-2 c =
    let found : LowestAt 64 c.but-free.result.0 c.in-Some.j = subst (λ (f : (Option ℕ)). Lowest 64 c.but-free.result.0 f) c.in-Some.is c.lowest.ensures in
    let inside : c.in-Some.j < c.args.n = c.requires.1.inside c.args.i.0 c.in-Some.j c.requires.0 found.small (c.first_word-row.ensures c.in-Some.j found.small ∙ c.but-free.ensures.less c.in-Some.j found.here) in
    let p = c.requires in
    (p.1.some, p.1.few, marked-inside _ _ _ _ _ p.2.full.inside inside c.mark_if-fuller.ensures)

pub returns : goal.returns
returns c =
    let found : LowestAt 64 c.but-free.result.0 c.in-Some.j = subst (λ (f : (Option ℕ)). Lowest 64 c.but-free.result.0 f) c.in-Some.is c.lowest.ensures in
    let inside : c.in-Some.j < c.args.n = c.requires.1.inside c.args.i.0 c.in-Some.j c.requires.0 found.small (c.first_word-row.ensures c.in-Some.j found.small ∙ c.but-free.ensures.less c.in-Some.j found.here) in
    let a = c.args in
    visit-at a.n a.limit a.rows.now a.i.0 a.out.now a.counts.now a.busy c.requires.0 c.requires.1 c.requires.2 c.in-Some.j c.wavelength_of-w.result c.wavelength_of-w.ensures.1 inside
    (not_full a.n a.limit a.rows.now a.i.0 a.out.now a.counts.now a.busy c.requires.0 c.requires.1 c.requires.2 c.with.result.0 c.but-free.result.0 c.with.ensures c.first_word-row.result.0 c.first_word-row.ensures c.but-free.ensures c.in-Some.j found)
    (given-at a.n a.limit a.rows.now a.i.0 a.out.now a.counts.now a.busy c.requires.0 c.requires.1 c.requires.2 c.with.result.0 c.but-free.result.0 c.with.ensures c.first_word-row.result.0 c.first_word-row.ensures c.but-free.ensures c.in-Some.j found)
    c.wavelength_of-w.ensures.0 _ c.mark_if-fuller.result.0 c.mark.ensures c.mark_if-fuller.ensures c.turned-2.ensures
