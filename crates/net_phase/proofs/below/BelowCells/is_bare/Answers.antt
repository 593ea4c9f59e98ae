use Rattle.std.proofs.Common.{◌∙◌, List, [], Bool, ap, false, get_or, refl, sym, subst}
use Rattle.std.specs.Global.{Vec}
use Rattle.cell_graph.specs.Linked.{plain}
use Rattle.net_phase.proofs.Marks.{has_none}
use Rattle.net_phase.proofs.below.BelowCells.is_bare.Goals as goal
use Rattle.net_phase.specs.Bare.{mark_lists}
use Rattle.net_phase.specs.Below.{BelowSeen, below_seen, tables_seen}
use Rattle.net_phase.specs.Own.{rect_lists}
use Rattle.net_walk.specs.Walk.{HasNone}

pub returns : goal.returns
returns c = λ e.
    let a = c.self.inside in
    let marked = ap (λ (l : List (Vec Bool)). get_or (get_or (mark_lists l) c.args.conductor []) c.args.cell false) (sym c.deref.ensures.value) ∙ sym c.is_marked.ensures ∙ e in
    subst (λ (v : BelowSeen). HasNone (plain v.design) (tables_seen v) c.args.cell c.args.conductor) c.self.view_is
    (has_none a.design.now (tables_seen (below_seen a)) (rect_lists a.own.now) (λ cell k. refl) c.args.conductor (get_or (mark_lists a.indexes.now.bare.items) c.args.conductor []) (c.self.invariant.indexes.bare c.args.conductor) c.args.cell marked)
