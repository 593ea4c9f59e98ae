use Rattle.std.proofs.Common.{[]}
use Rattle.match_types.specs.Plain.{plain_pairing}
use Rattle.refine_match.proofs.Decided.{single, matches}
use Rattle.refine_match.proofs.by_rounds.matched.Goals as goal

pub returns : goal.returns
returns c = λ p h good matched same limit.
    matches p c.args.graph.now c.args.classes.now (plain_pairing c.in_ok-pairing.pairing) same limit h good matched c.requires.settled c.requires.untied (c.in_ok-pairing.ensures p [] h)

pub read_pairing-requires-clause-single : goal.read_pairing-requires-clause-single
read_pairing-requires-clause-single c = single c.args.graph.now [] c.args.classes.now c.requires.partition.inside c.requires.settled c.requires.untied
