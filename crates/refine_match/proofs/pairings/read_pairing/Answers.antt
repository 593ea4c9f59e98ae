use Rattle.refine_match.proofs.Mates.{is_pairing}
use Rattle.refine_match.proofs.pairings.read_pairing.Goals as goal

pub returns : goal.returns
returns c = λ p guesses h solved colours.
    is_pairing p c.args.graph.now guesses c.args.classes.now _ _ _ h c.in_ok-mates_of.ensures c.in_ok-mates_of-2.ensures c.in_ok-mates_of-3.ensures solved colours
