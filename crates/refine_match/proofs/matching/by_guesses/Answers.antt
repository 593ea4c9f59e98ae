use Rattle.refine_match.proofs.Named.{few_nets}
use Rattle.refine_match.proofs.matching.by_guesses.Goals as goal

pub list_namesakes-requires : goal.list_namesakes-requires
list_namesakes-requires c =
    let p = c.requires.pair.0 in
    let h = c.requires.pair.1 in
    let part = (c.requires.way.way p h c.requires.pair.2).partition in
    few_nets p c.args.graph.now c.args.left.now c.args.right.now h part.classes.small
