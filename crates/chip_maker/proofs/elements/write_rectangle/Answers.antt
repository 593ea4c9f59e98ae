use Rattle.chip_maker.specs.Stream.{rect_bytes}
use Rattle.chip_maker.proofs.elements.write_rectangle.Goals as goal

pub returns : goal.returns
unfolding rect_bytes
returns c = c.write_layer.ensures.written
