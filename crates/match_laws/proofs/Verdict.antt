-- What the answers say of two circuits.
use Rattle.round_laws.specs.Web.{mate}
use Rattle.match_laws.specs.Circuits.{web_of, pairing_of, node_image}
use Rattle.match_laws.specs.Verdict.{RefutedPairLaw, EndedPairLaw, SolvedPairLaw, FoundPairLaw}
use Rattle.round_laws.proofs.Agree.{counts_even}
use Rattle.round_laws.proofs.Solved.{solved_carries}
use Rattle.round_laws.proofs.Guesses.{ended_none, found_some}
use Rattle.match_laws.proofs.Images.{carries, web_good}
use Rattle.match_laws.proofs.Read.{reads}

pub refuted_pair : RefutedPairLaw
refuted_pair p r l s h f c = h.uneven.counts (counts_even (web_of p) (node_image f) (web_good p l s) (carries p f l s c) r h.node h.uneven.node)

pub ended_pair : EndedPairLaw
ended_pair p same limit found l s whole ended f c =
    ended_none (record { web = web_of p; same_name = same; limit = limit }) found (web_good p l s) whole ended (node_image f) (carries p f l s c)

pub solved_pair : SolvedPairLaw
solved_pair p l s m solved = reads p (mate (web_of p) solved.round) l s m (solved_carries (web_of p) (web_good p l s) solved)

pub found_pair : FoundPairLaw
found_pair p same limit found l s m whole has =
    let g = found_some (record { web = web_of p; same_name = same; limit = limit }) found (web_good p l s) whole has in
    (pairing_of p g.0, reads p g.0 l s m g.1)
