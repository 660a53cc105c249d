-- The kept records first; what is added is laid behind them.
use native.Mathlib.Omega.{arith}
use Rattle.rescue.proofs.Whole.{kept-fits, place-small, place-behind, both-laid}
use Rattle.rescue.proofs.lay_rescued.Goals as goal

pub lay_kept-requires : goal.lay_kept-requires
lay_kept-requires c =
    (c.requires.0, kept-fits c.args.e c.args.n c.args.left c.args.kept c.args.damaged.now c.args.work.now c.args.plan.now c.requires.0 c.requires.1 c.requires.2 c.requires.3)

pub overflow_mul-kept : goal.overflow_mul-kept
overflow_mul-kept c =
    omega (arith, place-small c.args.e c.args.n c.args.left c.args.kept c.args.damaged.now c.args.work.now c.args.plan.now c.requires.0 c.requires.1 c.requires.2 c.requires.3)

pub lay-requires : goal.lay-requires
lay-requires c =
    (c.requires.1, place-behind c.args.e c.args.n c.args.left c.args.kept c.args.damaged.now c.args.work.now c.args.plan.now c.requires.0 c.requires.1 c.requires.2 c.requires.3 _ c.lay_kept.ensures)

pub returns : goal.returns
returns c =
    let laid = c.lay.ensures in
    (laid.0, both-laid c.args.e c.args.n c.args.left c.args.kept c.args.damaged.now c.args.work.now c.args.plan.now c.requires.0 c.requires.1 c.requires.2 c.requires.3 _ _ c.lay_kept.ensures laid.1)
