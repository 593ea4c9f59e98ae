use Rattle.view_shapes.proofs.Adding.{image_as}
use Rattle.view_shapes.proofs.moved.push_image.Goals as goal

pub returns : goal.returns
returns c =
    image_as c.args.motion.now c.args.piece.now c.rect-image.result c.args.net_of.now c.args.at c.args.out.now.items c.push_piece.new.out.items c.requires.listed c.rect-image.ensures.squares
    c.in_ok-push_piece.ensures
