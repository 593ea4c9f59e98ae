use Rattle.match_types.specs.Plain.{pair_of}
use Rattle.match_tests.proofs.Rows.{fits_left, fits_right}
use Rattle.match_tests.proofs.fitting.is_match.Goals as goal

pub check_pairing-requires-clause-left : goal.check_pairing-requires-clause-left
check_pairing-requires-clause-left c = fits_left (pair_of c.args.left.now c.args.right.now c.new-none.result) (c.in_ok-fits.ensures c.if-not-branch.false)

pub check_pairing-requires-clause-right : goal.check_pairing-requires-clause-right
check_pairing-requires-clause-right c = fits_right (pair_of c.args.left.now c.args.right.now c.new-none.result) (c.in_ok-fits-2.ensures c.if-not-branch-2.false)
