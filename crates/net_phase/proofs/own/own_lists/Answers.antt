use Rattle.std.proofs.Common.{◌≡◌, ◌+◌, ℕ, List, [], get_or, length, set, slice_index, ap, sym, subst, arith}
use Rattle.cell_graph.specs.Linked.{plain}
use Rattle.flat_layout.specs.Regions.{formula}
use Rattle.flat_layout.specs.Values.{IsLocalLayer}
use Rattle.geo_base.specs.declared.shapes.Rect.{Rect}
use Rattle.rule_layers.specs.Meaning.{wiring_of}
use Rattle.rule_text.specs.Seen.{rules_seen}
use Rattle.net_phase.proofs.Layering.{AreOwnListsTo, lists_all, lists_set, one_done}
use Rattle.net_phase.proofs.own.own_lists.Goals as goal
use Rattle.net_phase.specs.Own.{rect_lists, rects_of}

pub loop-cell-preserved : goal.loop-cell-preserved
loop-cell-preserved c =
    let d = c.args.design.now in
    let r = rules_seen c.args.rules.now in
    let n = c.loop-cell.cell-index in
    let all = c.loop-cell.all.items in
    let own = c.in_ok-own.own in
    let same : get_or c.order-cell-items.result.now n 0 ≡ slice_index d.order n = ap (λ (o : List ℕ). slice_index o n) c.order-cell-items.ensures in
    let long = ap (λ (o : List ℕ). length o) c.order-cell-items.ensures in
    let here : (k : ℕ) → IsLocalLayer (plain d) (formula (wiring_of r) k) (slice_index d.order n) (get_or (rects_of own.items) k []) = λ k.
    subst (λ cell. IsLocalLayer (plain d) (formula (wiring_of r) k) cell (get_or (rects_of own.items) k [])) same (c.in_ok-own.ensures k) in
    let done = one_done d r n (rect_lists all) (rects_of own.items) c.sound.ensures.order (omega (arith, long)) c.loop-cell.invariant here in
    subst (λ k. AreOwnListsTo d r (n + 1) (rect_lists (set all k own))) (sym same)
    (subst (λ (l : List (List (List Rect))). AreOwnListsTo d r (n + 1) l) (sym (lists_set all (slice_index d.order n) own)) done)

pub returns : goal.returns
returns c =
    let d = c.args.design.now in
    let long = ap (λ (o : List ℕ). length o) c.order-cell-items.ensures in
    lists_all d (rules_seen c.args.rules.now) c.loop-cell.cell-index (rect_lists c.loop-cell.all.items) c.sound.ensures.order (omega (arith, long)) c.loop-cell.invariant
