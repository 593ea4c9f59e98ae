use Rattle.std.proofs.Common.{List, length, sym, subst}
use Rattle.match_rounds.specs.Classes.{node_count}
use Rattle.match_rounds.specs.Pieces.{ArePartedBy, AreLoose}
use Rattle.match_rounds.specs.declared.groups.Part.{Part}
use Rattle.match_rounds.proofs.Pairing.{loose, parted}
use Rattle.match_rounds.proofs.pairs.part_pair.Goals as goal

pub returns-clause-parted : goal.returns-clause-parted
returns-clause-parted c =
    parted c.args.classes.now c.part_by.new.classes c.args.a c.args.b (node_count c.args.classes.now)
    (subst (λ (xs : List Part). ArePartedBy c.args.classes.now.class_of.items c.part_by.new.classes.class_of.items xs (length xs) (node_count c.args.classes.now)) c.in_ok-parts.ensures c.in_ok-part_by.ensures.parted)

pub part_by-requires-clause-parts : goal.part_by-requires-clause-parts
part_by-requires-clause-parts c =
    subst (λ (xs : List Part). AreLoose c.args.classes.now.class_of.items xs (node_count c.args.classes.now)) (sym c.in_ok-parts.ensures)
    (loose c.args.classes.now c.args.a c.args.b (node_count c.args.classes.now) c.requires.first c.requires.second c.requires.two)
