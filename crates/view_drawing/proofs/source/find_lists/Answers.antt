use Rattle.net_phase.proofs.Knowing.{right_known}
use Rattle.net_phase.specs.Own.{rect_lists}
use Rattle.net_phase.specs.Reading.{nets_of}
use Rattle.rule_text.specs.Seen.{rules_seen}
use Rattle.view_drawing.proofs.Bounding.{held_own}
use Rattle.view_drawing.proofs.source.find_lists.Goals as goal

pub returns-clause-right : goal.returns-clause-right
returns-clause-right c =
    right_known c.args.source.design.now (rules_seen c.args.source.rules.now) (rect_lists c.in_ok-own.own.items) c.args.source.nets.now (nets_of c.in_ok-nets.nets.items) c.in_ok-own.ensures c.requires.nets c.in_ok-nets.ensures

pub returns-clause-lists : goal.returns-clause-lists
returns-clause-lists c =
    let d = c.args.source.design.now in
    let own = c.in_ok-own.ensures in
    record {
      conductors = c.in_ok-wires.ensures.conductors;
      elements = c.in_ok-elements.ensures;
      own = own;
      held = held_own d (rules_seen c.args.source.rules.now) (rect_lists c.in_ok-own.own.items) c.sound.ensures c.requires.rules own;
      nets = c.in_ok-nets.ensures;
      called = c.in_ok-called.ensures;
    }
