use Rattle.std.proofs.Common.{arith, refl, get_or}
use Rattle.touching_pieces.proofs.Chains.{among_at, first_one}
use Rattle.touching_pieces.proofs.Links.{no_piece}
use Rattle.touching_pieces.proofs.crowds.link_first.Goals as goal

pub returns-then-touches : goal.returns-then-touches
returns-then-touches c =
    let qs = c.args.others.now in
    let k = c.args.best in
    first_one c.args.one.now (get_or qs k no_piece) qs c.args.out.now.items c.link_two.new.out.items (among_at qs k no_piece (omega arith)) (c.if-touches.ensures.0 refl) c.in_ok-link_two.ensures
