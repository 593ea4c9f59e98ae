use Rattle.std.proofs.Common.{◌≡◌, ◌+◌, ◌<◌, ◌≤◌, ◌++◌, ◌∷◌, [], true, is_ok, if◌then◌else◌, Bool, List, Some, length, slice_get, get_or, sym, ap, subst, ◌∙◌, arith}
use Rattle.std.proofs.lemmas.Option.{slice_get-get_or}
use Rattle.cell_graph.specs.declared.cells.Place.{Place}
use Rattle.cell_graph.specs.declared.drafts.DraftRef.{DraftRef}
use Rattle.cell_graph.specs.declared.drafts.CellDraft.{CellDraft}
use Rattle.cell_graph.specs.Drafts.{IsNamed, AreAllResolved}
use Rattle.cell_graph.specs.Naming.{AreResolvedTo, place_of}
use Rattle.cell_graph.proofs.Looking.{place, at_place, place_named, no_place_yet, one_more_place, resolved_by, is_first_loose, all_places, names_count}
use Rattle.cell_graph.proofs.references.places_at.Goals as goal

pub returns-then-cell-cells-clause-fault : goal.returns-then-cell-cells-clause-fault
returns-then-cell-cells-clause-fault c top =
    let cells = c.args.cells.now in
    let draft = get_or cells c.args.i c.index-cells-i.result in
    let r = c.r-item.result in
    let n = c.loop-r.r-index in
    let there : slice_get cells c.args.i ≡ Some draft = slice_get-get_or cells c.args.i c.index-cells-i.result c.requires.inside in
    let items : c.deref-r-items.result.now ≡ draft.refs.items = c.deref-r-items.ensures.value in
    let in_items : slice_get c.deref-r-items.result.now n ≡ Some r = slice_get-get_or c.deref-r-items.result.now n r c.loop-r-test.true ∙ ap Some (sym c.r-item.is) in
    let at : slice_get draft.refs.items n ≡ Some r = subst (λ (xs : List DraftRef). slice_get xs n ≡ Some r) items in_items in
    let h : AreResolvedTo cells draft.refs.items n c.loop-r.places.items = subst (λ (xs : List DraftRef). AreResolvedTo cells xs n c.loop-r.places.items) items c.loop-r.invariant in
    let p : c.place-cell.result ≡ place r.cell cells = at_place cells r.cell c.bytes.result.now c.args.names.now c.place-cell.result c.place-cell.ensures.place c.bytes.ensures.same c.requires.names in
    let end = c.if-cell-cells.true in
    let copy = c.in_ok-try_clone.ensures {u = tt} in
    (c.requires.few, c.requires.once, is_first_loose cells c.args.i n draft r c.loop-r.places.items c.in_ok-try_clone.field-0 there at copy (omega arith) h c.requires.before)

pub loop-r-init : goal.loop-r-init
loop-r-init c = subst (λ (ps : List Place). AreResolvedTo c.args.cells.now c.deref-r-items.result.now 0 ps) (sym c.new-places.ensures.items) (no_place_yet c.args.cells.now c.deref-r-items.result.now)

pub loop-r-preserved : goal.loop-r-preserved
loop-r-preserved c =
    let cells = c.args.cells.now in
    let items = c.deref-r-items.result.now in
    let r = c.r-item.result in
    let n = c.loop-r.r-index in
    let in_items : slice_get items n ≡ Some r = slice_get-get_or items n r c.loop-r-test.true ∙ ap Some (sym c.r-item.is) in
    let p : c.place-cell.result ≡ place r.cell cells = at_place cells r.cell c.bytes.result.now c.args.names.now c.place-cell.result c.place-cell.ensures.place c.bytes.ensures.same c.requires.names in
    let not_end = c.if-cell-cells.false in
    let within : c.place-cell.result ≤ length c.args.names.now = c.place-cell.ensures.within in
    let count : length c.args.names.now ≡ length cells = names_count cells c.args.names.now c.requires.names in
    let lt : place r.cell cells < length cells = omega arith in
    let named : IsNamed cells r.cell c.place-cell.result = subst (IsNamed cells r.cell) (sym p) (place_named cells r.cell lt) in
    let ok : is_ok c.push.result ≡ true = sym c.in_ok-map_err.ensures.variant in
    let old = c.loop-r.places.items in
    let new : c.push.new.self.items ≡ old ++ c.place_of.result ∷ [] = c.push.ensures.items ∙ ap (λ (b : Bool). if b then old ++ c.place_of.result ∷ [] else old) ok in
    let is : c.place_of.result ≡ place_of r c.place-cell.result = c.place_of.ensures in
    subst (λ (ps : List Place). AreResolvedTo cells items (n + 1) ps) (sym new)
    (subst (λ (q : Place). AreResolvedTo cells items (n + 1) (old ++ q ∷ [])) (sym is) (one_more_place cells items n old r (place_of r c.place-cell.result) in_items (resolved_by cells r c.place-cell.result named) c.loop-r.invariant))

pub returns-clause-places : goal.returns-clause-places
returns-clause-places c d there =
    let cells = c.args.cells.now in
    let draft = get_or cells c.args.i c.index-cells-i.result in
    let at : slice_get cells c.args.i ≡ Some draft = slice_get-get_or cells c.args.i c.index-cells-i.result c.requires.inside in
    let same : draft ≡ d = (let f : Some draft ≡ Some d = sym at ∙ there in cc) in
    let items : c.deref-r-items.result.now ≡ draft.refs.items = c.deref-r-items.ensures.value in
    let all = all_places cells c.args.i c.deref-r-items.result.now c.loop-r.r-index c.loop-r.places.items c.loop-r-test.false c.loop-r.auto.r-index-end c.loop-r.invariant in
    subst (λ (d : CellDraft). AreAllResolved cells d.refs.items c.loop-r.places.items) same (subst (λ (xs : List DraftRef). AreAllResolved cells xs c.loop-r.places.items) items all)
