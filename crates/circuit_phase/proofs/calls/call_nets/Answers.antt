use Rattle.std.proofs.Common.{◌∙◌}
use Rattle.deep_tables.specs.Pins.{plain_pins}
use Rattle.circuit_phase.proofs.Calling.{nets_inside, pins_inside}
use Rattle.circuit_phase.proofs.calls.call_nets.Goals as goal

pub nets_at-requires : goal.nets_at-requires
nets_at-requires c =
    pins_inside (plain_pins c.args.pins.now) c.args.drawn.now c.args.nets.now c.deref.result.now c.args.start (c.deref.ensures.value ∙ c.in_ok-inner.ensures) c.requires.long

pub number_nets-requires : goal.number_nets-requires
number_nets-requires c =
    let inside = pins_inside (plain_pins c.args.pins.now) c.args.drawn.now c.args.nets.now c.deref.result.now c.args.start (c.deref.ensures.value ∙ c.in_ok-inner.ensures) c.requires.long in
    nets_inside c.args.nets.now c.deref.result.now c.deref-2.result.now c.args.start c.args.numbering.now.count (c.deref-2.ensures.value ∙ c.in_ok-outer.ensures) inside c.requires.within
