use Rattle.std.proofs.Common.{◌≡◌, ◌≤◌, ◌+◌, ◌++◌, ◌∷◌, [], ℕ, Some, None, slice_get, length, sym, ap, subst, ◌∙◌, arith}
use Rattle.std.proofs.lemmas.Option.{slice_get-get_or}
use Rattle.std.specs.Global.{Vec}
use Rattle.std.specs.Vec.{vec_len}
use Rattle.geo_base.specs.declared.shapes.Rect.{Rect}
use Rattle.cell_graph.specs.declared.cells.CellPart.{CellPart}
use Rattle.cell_graph.specs.Indexes.{AreSpansTo}
use Rattle.cell_graph.specs.Spans.{IsSpanOr, HasSpan}
use Rattle.cell_graph.proofs.Indexing.{reference_read, hull_read, span_here, no_span_here, span_more, span_none, all_spans}
use Rattle.cell_graph.proofs.indexes.spans_of.Goals as goal
use Rattle.cell_graph.proofs.indexes.spans_of.Goals.{in-Some+in_ok-number_of+in_ok-push+in_ok-push-2, in_default}

pub bounds-cells-place : goal.bounds-cells-place
bounds-cells-place c = (reference_read c.args.cells.now c.args.cell c.loop-i.i c.index-cells-cell.result c.index-place.result.now c.len-i-end.result
    c.requires.sound c.requires.inside c.index-cells-cell.is c.len-i-end.ensures c.loop-i-test.true c.index-place.ensures).inside

pub bounds-cells-place-in-loop-i : goal.bounds-cells-place-in-loop-i
bounds-cells-place-in-loop-i c = (reference_read c.args.cells.now c.args.cell c.loop-i.i c.index-cells-cell.result c.index-place.result.now c.len-i-end.result
    c.requires.sound c.requires.inside c.index-cells-cell.is c.len-i-end.ensures c.loop-i-test.true c.index-place.ensures).inside

pub span_of-requires-clause-rows : goal.span_of-requires-clause-rows
span_of-requires-clause-rows c = (reference_read c.args.cells.now c.args.cell c.loop-i.i c.index-cells-cell.result c.index-place.result.now c.len-i-end.result
    c.requires.sound c.requires.inside c.index-cells-cell.is c.len-i-end.ensures c.loop-i-test.true c.index-place.ensures).ref.rows

pub span_of-requires-clause-columns : goal.span_of-requires-clause-columns
span_of-requires-clause-columns c = (reference_read c.args.cells.now c.args.cell c.loop-i.i c.index-cells-cell.result c.index-place.result.now c.len-i-end.result
    c.requires.sound c.requires.inside c.index-cells-cell.is c.len-i-end.ensures c.loop-i-test.true c.index-place.ensures).ref.columns

pub span_of-requires-clause-hull : goal.span_of-requires-clause-hull
span_of-requires-clause-hull c =
    let it = reference_read c.args.cells.now c.args.cell c.loop-i.i c.index-cells-cell.result c.index-place.result.now c.len-i-end.result
    c.requires.sound c.requires.inside c.index-cells-cell.is c.len-i-end.ensures c.loop-i-test.true c.index-place.ensures in
    hull_read c.args.cells.now c.index-place.result.now.cell c.index-cells-place.result c.requires.sound it.inside

pub loop-i-preserved : goal.loop-i-preserved
loop-i-preserved c = λ d at_d.
    let cells = c.args.cells.now in
    let n = c.loop-i.i in
    let part = c.index-cells-cell.result in
    let there : slice_get cells c.args.cell ≡ Some part = slice_get-get_or cells c.args.cell part c.requires.inside ∙ ap Some (sym c.index-cells-cell.is) in
    let same : part ≡ d = (let f : Some part ≡ Some d = sym there ∙ at_d in cc) in
    let place = c.index-place.result.now in
    let places = part.places.items in
    let it = reference_read c.args.cells.now c.args.cell c.loop-i.i c.index-cells-cell.result c.index-place.result.now c.len-i-end.result
    c.requires.sound c.requires.inside c.index-cells-cell.is c.len-i-end.ensures c.loop-i-test.true c.index-place.ensures in
    let below = c.index-cells-place.result in
    let below_at : slice_get cells place.cell ≡ Some below = slice_get-get_or cells place.cell below it.inside ∙ ap Some (sym c.index-cells-place.is) in
    let old : AreSpansTo cells places n c.loop-i.numbers.items c.loop-i.spans.items = c.loop-i.invariant part there in
    subst (λ (d : CellPart). AreSpansTo cells d.places.items (n + 1) c.match-span_of.numbers.items c.match-span_of.spans.items) same (elim c.match-span_of.branch [
      | in-Some+in_ok-number_of+in_ok-push+in_ok-push-2 w ↦
          let is : IsSpanOr place below.hull (Some w.in-Some.span) = subst (λ (q : CellPart). IsSpanOr place q.hull (Some w.in-Some.span)) (sym c.index-cells-place.is) (w.in-Some.ensures {u = tt}) in
          let here : HasSpan cells places n w.in-Some.span = span_here cells part n place below w.in-Some.span it.at below_at is in
          let next = span_more cells places n c.loop-i.numbers.items c.loop-i.spans.items w.in-Some.span here old in
          let number : w.in_ok-number_of.field-0 ≡ n = (w.in_ok-number_of.ensures {u = tt}).number in
          let numbers : c.match-span_of.numbers.items ≡ c.loop-i.numbers.items ++ n ∷ [] = ap (λ (xs : Vec ℕ). xs.items) w.numbers-is ∙ (w.in_ok-push.ensures {u = tt}).items ∙ ap (λ k. c.loop-i.numbers.items ++ k ∷ []) number in
          let spans : c.match-span_of.spans.items ≡ c.loop-i.spans.items ++ w.in-Some.span ∷ [] = ap (λ (xs : Vec Rect). xs.items) w.spans-is ∙ (w.in_ok-push-2.ensures {u = tt}).items in
          subst (λ xs. AreSpansTo cells places (n + 1) xs c.match-span_of.spans.items) (sym numbers) (subst (λ xs. AreSpansTo cells places (n + 1) (c.loop-i.numbers.items ++ n ∷ []) xs) (sym spans) next)
      | in_default w ↦
          let is : IsSpanOr place below.hull None = subst (λ (q : CellPart). IsSpanOr place q.hull None) (sym c.index-cells-place.is) (w.in_default.ensures {u = tt}) in
          let next = span_none cells places n c.loop-i.numbers.items c.loop-i.spans.items (no_span_here cells part n place below it.ref it.at below_at is) old in
          subst (λ (xs : Vec ℕ). AreSpansTo cells places (n + 1) xs.items c.match-span_of.spans.items) (sym w.numbers-is) (subst (λ (xs : Vec Rect). AreSpansTo cells places (n + 1) c.loop-i.numbers.items xs.items) (sym w.spans-is) next)
    ])

pub returns : goal.returns
returns c = λ d at_d.
    let cells = c.args.cells.now in
    let part = c.index-cells-cell.result in
    let there : slice_get cells c.args.cell ≡ Some part = slice_get-get_or cells c.args.cell part c.requires.inside ∙ ap Some (sym c.index-cells-cell.is) in
    let same : part ≡ d = (let f : Some part ≡ Some d = sym there ∙ at_d in cc) in
    let end : c.len-i-end.result ≡ vec_len part.places = subst (λ (q : CellPart). c.len-i-end.result ≡ vec_len q.places) (sym c.index-cells-cell.is) c.len-i-end.ensures in
    let ok = part.places.ok.0 in
    let past = c.loop-i-test.false in
    let all = c.loop-i.invariant part there in
    let le : length part.places.items ≤ c.loop-i.i = omega arith in
    subst (λ (d : CellPart). AreSpansTo cells d.places.items (length d.places.items) c.loop-i.numbers.items c.loop-i.spans.items) same (all_spans cells part.places.items c.loop-i.i c.loop-i.numbers.items c.loop-i.spans.items le all)
