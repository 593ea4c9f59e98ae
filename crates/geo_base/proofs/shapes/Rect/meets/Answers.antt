use Rattle.std.proofs.Common.{sym, ◌∙◌}
use Rattle.geo_base.proofs.Meeting.{share_meets, meets_share}
use Rattle.geo_base.proofs.shapes.Rect.meets.Goals as goal

pub returns-clause-shared : goal.returns-clause-shared
returns-clause-shared c =
    let a = c.args.self.now in let b = c.args.other.now in
    ((λ e. meets_share a b (sym c.meet_by_sides.ensures ∙ e)), (λ h. c.meet_by_sides.ensures ∙ share_meets a b h))
