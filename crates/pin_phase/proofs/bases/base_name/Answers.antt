use Rattle.std.proofs.Common.{◌∙◌, ap}
use Rattle.flat_layout.specs.Pins.{with_commas}
use Rattle.pin_phase.proofs.bases.base_name.Goals as goal

pub returns : goal.returns
returns c = record {
  tags = c.in_order-once.result.items;
  each = c.in_order-once.ensures.each;
  rising = c.in_order-once.ensures.rising;
  joined = c.from_vec.ensures ∙ (c.in_ok-text.ensures ∙ ap with_commas c.deref.ensures.value);
}
