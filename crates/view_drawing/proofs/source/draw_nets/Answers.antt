use Rattle.std.proofs.Common.{◌≡◌, ◌∙◌, ℕ, Bool, List, Option, ap, length, subst, sym}
use Rattle.std.specs.Borrow.{Bor}
use Rattle.std.specs.Global.{Vec}
use Rattle.std.proofs.lemmas.Result.{err_from_is_err_and}
use Rattle.cell_graph.specs.Linked.{plain}
use Rattle.deep_tables.specs.Entries.{entry}
use Rattle.deep_tables.specs.declared.nets.CellNets.{CellNets}
use Rattle.geo_base.specs.declared.shapes.Rect.{Rect}
use Rattle.net_link_laws.specs.Laws.{AreNetsUnder}
use Rattle.net_model.specs.Rows.{plain_circuit}
use Rattle.net_phase.proofs.Righting.{same_below, seen_by}
use Rattle.net_phase.specs.Below.{AreHeldOwn, BelowSeen, tables_seen, wiring_seen}
use Rattle.net_phase.specs.Own.{rect_lists}
use Rattle.net_phase.specs.Reading.{nets_of}
use Rattle.rule_text.specs.Reaches.{MOST_REACH}
use Rattle.rule_text.specs.Seen.{rules_seen}
use Rattle.view_drawing.specs.Nets.{list_at}
use Rattle.view_drawing.specs.Shown.{AreNetsDrawn, TellsNets}
use Rattle.view_shapes.specs.Shown.{ShowsFar, called_by}
use Rattle.view_drawing.specs.Drawn.{drawn_in, listed_tables}
use Rattle.view_drawing.proofs.Marking.{drawn_is}
use Rattle.view_drawing.proofs.Reading.{nets_under, told}
use Rattle.view_drawing.proofs.Fars.{err_as}
use Rattle.view_drawing.proofs.source.draw_nets.Goals as goal

pub new-cells-requires-clause-own : goal.new-cells-requires-clause-own
new-cells-requires-clause-own c =
    subst (λ (l : List (Vec (Bor (List Rect)))). AreHeldOwn MOST_REACH c.args.source.design.now (rect_lists l)) (sym c.deref.ensures.value) c.requires.lists.held

pub circuit_shapes-requires : goal.circuit_shapes-requires
circuit_shapes-requires c =
    let d = c.args.source.design.now in let l = c.args.lists.now in let e = c.new-cells.ensures in let cell = c.args.cell in
    let same : c.new-cells.result ≡ seen_by d c.args.source.rules.now (rect_lists l.own.items) (nets_of l.nets.items) =
    same_below c.new-cells.result d c.args.source.rules.now (rect_lists l.own.items) (nets_of l.nets.items) e.design e.rules
    (e.own ∙ ap (λ (x : List (Vec (Bor (List Rect)))). rect_lists x) c.deref.ensures.value) (e.nets ∙ ap (λ (x : List (Option (Bor CellNets))). nets_of x) c.deref-3.ensures.value) in
    subst (λ (z : BelowSeen). AreNetsUnder (plain z.design) (wiring_seen z) (tables_seen z) cell) (sym same)
    (nets_under d (rules_seen c.args.source.rules.now) (listed_tables l) cell c.sound.ensures c.requires.right c.requires.reached)

pub returns-clause-drawn : goal.returns-clause-drawn
returns-clause-drawn c named nets h =
    let d = c.args.source.design.now in let l = c.args.lists.now in let e = c.new-cells.ensures in let cell = c.args.cell in
    let circuit = plain_circuit c.args.circuit.now in
    let same : c.new-cells.result ≡ seen_by d c.args.source.rules.now (rect_lists l.own.items) (nets_of l.nets.items) =
    same_below c.new-cells.result d c.args.source.rules.now (rect_lists l.own.items) (nets_of l.nets.items) e.design e.rules
    (e.own ∙ ap (λ (x : List (Vec (Bor (List Rect)))). rect_lists x) c.deref.ensures.value) (e.nets ∙ ap (λ (x : List (Option (Bor CellNets))). nets_of x) c.deref-3.ensures.value) in
    let ds = c.drawn-drawn.result.now in
    let n : length c.args.circuit.now.nets.items ≡ c.len-count.result = sym c.args.circuit.now.nets.ok.0 ∙ sym c.len-count.ensures in
    let tells = told c.args.source.pins.now c.args.source.circuits.now cell c.of-pins.result.now ds c.in_ok-numbers.numbers.items c.as_slice-names.result.now nets circuit
    c.of-pins.ensures c.drawn-drawn.ensures c.as_slice-names.ensures.value c.in_ok-numbers.ensures named h in
    let r0 = c.in_ok-shapes.ensures.drawn nets (subst (λ (x : List (Option ℕ)). TellsNets ds x nets) (sym c.as_slice.ensures.value) tells) (sym h.count ∙ n) in
    subst (λ (m : List (Vec Bool)). AreNetsDrawn (plain d) (listed_tables l) (called_by m) cell nets (list_at c.in_ok-shapes.shapes.items)) c.as_slice-called.ensures.value
    (subst (λ (z : BelowSeen). AreNetsDrawn (plain z.design) (tables_seen z) (called_by c.as_slice-called.result.now) cell nets (list_at c.in_ok-shapes.shapes.items)) same r0)

pub returns-in_err-shapes-clause-far : goal.returns-in_err-shapes-clause-far
returns-in_err-shapes-clause-far c =
    let x = err_from_is_err_and c.from_residual-in_err-shapes.result c.from_residual-in_err-shapes.ensures.1 in
    let d = c.args.source.design.now in let l = c.args.lists.now in let e = c.new-cells.ensures in let cell = c.args.cell in
    let same : c.new-cells.result ≡ seen_by d c.args.source.rules.now (rect_lists l.own.items) (nets_of l.nets.items) =
    same_below c.new-cells.result d c.args.source.rules.now (rect_lists l.own.items) (nets_of l.nets.items) e.design e.rules
    (e.own ∙ ap (λ (x : List (Vec (Bor (List Rect)))). rect_lists x) c.deref.ensures.value) (e.nets ∙ ap (λ (x : List (Option (Bor CellNets))). nets_of x) c.deref-3.ensures.value) in
    let table = c.args.source.circuits.now in
    let ds = c.drawn-drawn.result.now in
    let drawn : drawn_in table cell ≡ ds = drawn_is (entry table cell) ds c.drawn-drawn.ensures in
    rw (x.1, x.2) (λ s.
    let r0 = c.in_err-shapes.ensures.far (err_as _ _ s) in
    let r1 = subst (λ (z : BelowSeen). ShowsFar (plain z.design) (tables_seen z) (called_by c.as_slice-called.result.now) cell ds) same r0 in
    let r2 = subst (λ (m : List (Vec Bool)). ShowsFar (plain d) (listed_tables l) (called_by m) cell ds) c.as_slice-called.ensures.value r1 in
    subst (λ (m : List Bool). ShowsFar (plain d) (listed_tables l) (called_by l.called.items) cell m) (sym drawn) r2)
