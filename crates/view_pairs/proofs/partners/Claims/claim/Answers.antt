use Rattle.view_pairs.proofs.Claims.{claim_one}
use Rattle.view_pairs.proofs.partners.Claims.claim.Goals as goal

pub returns-then-is_free-clause-claimed : goal.returns-then-is_free-clause-claimed
returns-then-is_free-clause-claimed c =
    claim_one c.args.self.now.lefts.items c.args.self.now.taken.items c.args.couple.left c.args.couple.right
    (c.is_lone.ensures.lone c.if-is_lone.true) (c.is_free.ensures.free c.if-is_free.true) c.requires
