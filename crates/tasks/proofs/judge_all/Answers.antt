-- The times kept decide for each record as its definition does, so a record that fits leaves the scan to the later ones, and its end counts.
use mathlib.Core.Path.{◌≡◌, refl, sym, ap, ◌∙◌}
use Prim.Native.Nat.{ℕ, ◌-◌, ◌/◌, ◌<◌}
use native.Mathlib.Omega.{arith}
use lib.ListN.{length, length-set}
use Rattle.shop_rule.specs.Task as task
use Rattle.switch.specs.declared.Refusal.TheVariants.{Malformed}
use Rattle.tasks.specs.Bytes.{tasks_from}
use Rattle.tasks.specs.Read.{faulty}
use Rattle.tasks.proofs.Read.{byte, four, fits_cut, scan-stop, scan-more, scan-end, latest-more, latest-none}
use Rattle.tasks.proofs.Pass.{passed_none, passed-fine, passed-next, fit_is}
use Rattle.tasks.proofs.judge_all.Goals as goal

pub loop-k-init : goal.loop-k-init
loop-k-init c =
    let a = c.args in
    let e : length a.tasks.now / 12 ≡ length a.tasks.now / 12 - 0 = omega arith in (
      ap (λ (m : ℕ). faulty a.n a.tasks.now m 0) e,
      refl,
      refl,
      passed_none a.tasks.now 64,
      omega (arith, ap (λ (m : ℕ). task.latest (tasks_from a.tasks.now 0 m)) e),
    )

pub returns-then-not-fitting : goal.returns-then-not-fitting
returns-then-not-fitting c =
    let a = c.args in
    let l = c.loop-k in
    let w : l.k < length a.tasks.now / 12 = omega (arith, c.as_chunks.ensures.front_len, c.loop-k-test.true) in
    let f = l.invariant.0 ∙ scan-stop _ _ _ l.k w (passed-fine _ _ _ _ _ _ _ l.invariant.3 ∙ fits_cut a.tasks.now l.k _ c.as_chunks.ensures.front w a.n _ _ _ _ _ c.fitting.ensures ∙ c.if-not-fitting.true) in
    (ap Malformed (sym f), omega (arith, f, w))

pub bounds-ins-i : goal.bounds-ins-i
bounds-ins-i c =
    let a = c.args in
    let l = c.loop-k in
    let w : l.k < length a.tasks.now / 12 = omega (arith, c.as_chunks.ensures.front_len, c.loop-k-test.true) in
    let f = fit_is _ _ _ _ _ _ (fits_cut a.tasks.now l.k _ c.as_chunks.ensures.front w a.n _ _ _ _ _ c.fitting.ensures ∙ c.if-not-fitting.false) in
    omega (arith, f.input-in, c.requires, c.from-i.ensures ∙ byte a.tasks.now l.k _ c.as_chunks.ensures.front w 0)

pub bounds-outs-j : goal.bounds-outs-j
bounds-outs-j c =
    let a = c.args in
    let l = c.loop-k in
    let w : l.k < length a.tasks.now / 12 = omega (arith, c.as_chunks.ensures.front_len, c.loop-k-test.true) in
    let f = fit_is _ _ _ _ _ _ (fits_cut a.tasks.now l.k _ c.as_chunks.ensures.front w a.n _ _ _ _ _ c.fitting.ensures ∙ c.if-not-fitting.false) in
    omega (arith, f.output-in, c.requires, c.from-j.ensures ∙ byte a.tasks.now l.k _ c.as_chunks.ensures.front w 1)

pub loop-k-preserved : goal.loop-k-preserved
loop-k-preserved c =
    let a = c.args in
    let l = c.loop-k in
    let m = length a.tasks.now / 12 in
    let cut = c.as_chunks.ensures.front in
    let w : l.k < length a.tasks.now / 12 = omega (arith, c.as_chunks.ensures.front_len, c.loop-k-test.true) in
    let g = fits_cut a.tasks.now l.k _ cut w a.n _ _ _ _ _ c.fitting.ensures ∙ c.if-not-fitting.false in
    let f = fit_is _ _ _ _ _ _ g in (
      l.invariant.0 ∙ scan-more _ _ _ l.k w (passed-fine _ _ _ _ _ _ _ l.invariant.3 ∙ g),
      simp length-set l.invariant.1,
      simp length-set l.invariant.2,
      passed-next _ _ _ _ _ _ _ l.invariant.3 f (omega (arith, f.input-in, c.requires, l.invariant.1)) (omega (arith, f.output-in, c.requires, l.invariant.2)) _ _ _ _
          (c.from-i.ensures ∙ byte _ l.k _ cut w 0) (c.from-j.ensures ∙ byte _ l.k _ cut w 1) (c.word_at-end.ensures ∙ four _ l.k _ cut w 8) (c.word_at-start.ensures ∙ four _ l.k _ cut w 4),
      omega (arith, latest-more a.tasks.now m l.k w, c.max-latest.ensures, c.word_at-end.ensures ∙ four a.tasks.now l.k _ cut w 8, l.invariant.4),
    )

pub returns : goal.returns
returns c =
    let a = c.args in
    let l = c.loop-k in
    let m = length a.tasks.now / 12 in
    let e : length a.tasks.now / 12 ≡ l.k = omega (arith, c.as_chunks.ensures.front_len, c.loop-k-test.false, c.loop-k.auto.k-end) in
    (l.invariant.0 ∙ scan-end _ _ m l.k (omega (arith, e)) ∙ sym e, omega (arith, l.invariant.4, latest-none a.tasks.now m l.k (omega (arith, e))))
