use Rattle.std.proofs.Common.{List, length, sym, subst}
use Rattle.match_rounds.specs.Classes.{node_count}
use Rattle.match_rounds.specs.Pieces.{ArePieces, ArePartedBy}
use Rattle.match_rounds.specs.declared.groups.Part.{Part}
use Rattle.match_rounds.proofs.Loose.{sorted_pieces, sorted_parted}
use Rattle.match_rounds.proofs.sorting.part_by.Goals as goal

pub part_all-requires-clause-parts : goal.part_all-requires-clause-parts
part_all-requires-clause-parts c =
    subst (λ (xs : List Part). ArePieces c.args.classes.now.class_of.items xs (node_count c.args.classes.now)) (sym c.deref.ensures.value)
    (sorted_pieces c.args.classes.now.class_of.items c.args.parts.now.items c.sort_parts.new.parts.items (node_count c.args.classes.now) c.requires.parts c.sort_parts.ensures.permutation c.sort_parts.ensures.sorted)

pub returns-clause-parted : goal.returns-clause-parted
returns-clause-parted c =
    sorted_parted c.args.classes.now.class_of.items c.part_all.new.classes.class_of.items c.args.parts.now.items c.sort_parts.new.parts.items (node_count c.args.classes.now) c.sort_parts.ensures.permutation
    (subst (λ (xs : List Part). ArePartedBy c.args.classes.now.class_of.items c.part_all.new.classes.class_of.items xs (length xs) (node_count c.args.classes.now)) c.deref.ensures.value c.in_ok-part_all.ensures.parted)
