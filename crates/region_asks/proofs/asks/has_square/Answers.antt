use Rattle.std.proofs.Common.{refl}
use Rattle.std.proofs.lemmas.Bool.{false≢true}
use Rattle.region_asks.proofs.asks.has_square.Goals as goal

pub returns-in-Some : goal.returns-in-Some
returns-in-Some c = ((λ e. (_, c.in-Some.ensures.has)), (λ h. refl))

pub returns-in-None : goal.returns-in-None
returns-in-None c = ((λ e. absurd (false≢true e)), (λ h. absurd (c.in-None.ensures h.0 h.1)))
