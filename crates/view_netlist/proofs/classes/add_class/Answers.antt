use Rattle.std.proofs.Common.{◌∙◌, map, ap}
use Rattle.view_netlist.specs.Kinds.{class_seen}
use Rattle.view_netlist.proofs.ClassNames.{class_more}
use Rattle.view_netlist.proofs.classes.add_class.Goals as goal

pub returns : goal.returns
returns c = ap (map class_seen) c.in_ok-insert.ensures.keys ∙ class_more c.args.seen.now.keys c.args.class
