use Rattle.std.proofs.Common.{◌∙◌, Bool, List, ap, length, subst}
use Rattle.layer_phase.specs.Groups.{AreNeeded, AreSeen}
use Rattle.layer_phase.proofs.groups.group_of.Goals as goal

pub needed-requires-clause-count : goal.needed-requires-clause-count
needed-requires-clause-count c = ap length c.deref.ensures.value ∙ c.in_ok-members.ensures.count

pub seen_names-requires : goal.seen_names-requires
seen_names-requires c = ap length c.deref-2.ensures.value ∙ c.in_ok-marks.ensures.count

pub returns-clause-names : goal.returns-clause-names
returns-clause-names c =
    let names = c.args.names.now in
    record {
      some = c.requires.some;
      count = c.in_ok-members.ensures.count;
      members = c.in_ok-members.ensures.marked;
      marks = c.in_ok-marks.marks.items;
      needed = subst (λ (l : List Bool). AreNeeded l names c.in_ok-marks.marks.items) c.deref.ensures.value c.in_ok-marks.ensures;
      seen = subst (λ (l : List Bool). AreSeen names l c.in_ok-seen.seen.items) c.deref-2.ensures.value c.in_ok-seen.ensures;
    }
