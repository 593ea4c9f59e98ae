use Rattle.std.proofs.Common.{length}
use Rattle.view_pairs.specs.Partners.{AreClaimed}
use Rattle.view_pairs.proofs.Firsts.{AllCome}
use Rattle.view_pairs.proofs.partners.claimed.Given as goal

abbrev pub invariant-couples : goal.invariant-couples
invariant-couples l =
    AreClaimed l.lefts l.rights l.couples l.rest l.claims.lefts.items l.claims.taken.items
    × AllCome l.lefts l.rights l.couples l.rest l.claims.lefts.items l.claims.taken.items

abbrev pub decreases-couples : goal.decreases-couples
decreases-couples l = length l.rest
