use Rattle.refine_match.proofs.Told.{even_settled}
use Rattle.refine_match.proofs.searching.settle.Goals as goal

pub returns-clause-settled : goal.returns-clause-settled
returns-clause-settled c =
    even_settled c.args.graph.now c.args.guesses.now c.in_ok-classes.classes c.in_ok-classes.field-0-1 c.requires.graph c.requires.even c.in_ok-classes.ensures.verdict
