use Rattle.std.proofs.Common.{replicate, None, sym, subst}
use Rattle.job_board.specs.Rule.{Holds}
use Rattle.job_board.specs.Views.{newcomer}
use Rattle.atomic_table.specs.Table.{opening}
use Rattle.job_board.specs.Notes.{IsRight}
use Rattle.job_board.proofs.Steps.{opens}
use Rattle.job_board.proofs.open.open_table.Goals as goal

pub vacant-requires : goal.vacant-requires
vacant-requires g c = let p = c.args.plan.now in let w = c.requires.words in
    subst (λ n. Holds None (IsRight g.T.Defined.is_defined p) p (opening c.args.words.now (replicate n None) (newcomer p))) (sym c.requires.slots)
    (opens None (IsRight g.T.Defined.is_defined) p c.args.words.now c.requires.fits w.wide w.done w.each)
