use Rattle.std.proofs.Common.{refl}
use Rattle.refine_match.proofs.Uneven.{none_at_all}
use Rattle.refine_match.proofs.evidence.least_uneven.Goals as goal

pub returns-in-None : goal.returns-in-None
returns-in-None c =
    absurd (none_at_all c.args.graph.now c.args.classes.now c.requires.some.0 c.requires.graph (c.in_default.ensures.none refl) (c.in_default-first_of_kind.ensures.none refl) (c.in-None.ensures.none refl)
    c.requires.some.1 c.requires.some.2)
