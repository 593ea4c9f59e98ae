use Rattle.std.proofs.Common.{ℕ, length, subst}
use Rattle.match_graph.specs.Graph.{nodes_of}
use Rattle.match_rounds.specs.Pieces.{ArePartedBy}
use Rattle.match_rounds.proofs.Started.{kinds}
use Rattle.match_rounds.proofs.starting.part_kinds.Goals as goal

pub returns-clause-kinds : goal.returns-clause-kinds
returns-clause-kinds c =
    kinds c.args.graph.now c.args.classes.now.class_of.items c.part_by.new.classes.class_of.items c.in_ok-parts.parts.items (nodes_of c.args.graph.now) c.in_ok-parts.ensures
    (subst (λ (m : ℕ). ArePartedBy c.args.classes.now.class_of.items c.part_by.new.classes.class_of.items c.in_ok-parts.parts.items (length c.in_ok-parts.parts.items) m)
    c.requires.partition.classes.long c.in_ok-part_by.ensures.parted) c.requires.one
