use Rattle.match_types.specs.Plain.{pair_of}
use Rattle.match_tests.proofs.Rows.{fits_left, fits_right}
use Rattle.match_tests.proofs.fitting.compare.Goals as goal

pub match_circuits-requires-clause-left : goal.match_circuits-requires-clause-left
match_circuits-requires-clause-left c = fits_left (pair_of c.args.left.now c.args.right.now c.args.children.now) (c.in_ok-fits.ensures c.if-branch.true)

pub match_circuits-requires-clause-right : goal.match_circuits-requires-clause-right
match_circuits-requires-clause-right c = fits_right (pair_of c.args.left.now c.args.right.now c.args.children.now) (c.in_ok-fits-2.ensures c.if-branch-2.true)
