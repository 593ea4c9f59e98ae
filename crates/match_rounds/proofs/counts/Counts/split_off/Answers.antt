use Rattle.std.proofs.Common.{refl, arith}
use Rattle.match_parts.proofs.Read.{read}
use Rattle.match_rounds.proofs.Split.{flagged_by}
use Rattle.match_rounds.proofs.counts.Counts.split_off.Goals as goal

pub returns-clause-flagged : goal.returns-clause-flagged
returns-clause-flagged c =
    let lefts = c.requires.flagged.lefts in
    flagged_by c.args.self.now _ c.args.whole c.args.size c.args.left c.index.result.now c.index-2.result.now c.is_uneven.result c.is_uneven-2.result c.requires.flagged
    c.requires.whole c.requires.size c.requires.left
    (read c.args.self.now.size.items c.args.whole c.index.result.now c.requires.whole c.index.ensures)
    (read c.args.self.now.left.items c.args.whole c.index-2.result.now (omega arith) c.index-2.ensures)
    c.in_ok-push.ensures.items c.in_ok-push-2.ensures.items
    ((λ e. c.is_uneven.ensures.yes e), (λ e. c.is_uneven.ensures.no e)) ((λ e. c.is_uneven-2.ensures.yes e), (λ e. c.is_uneven-2.ensures.no e)) refl
