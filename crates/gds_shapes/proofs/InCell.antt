-- Rectangles more in an open cell.
use Rattle.std.proofs.Common.{◌≡◌, ℕ, List, [], ◌∷◌, ◌++◌, None, refl, sym, ap, subst, ◌∙◌, append_assoc, arith}
use Rattle.std.specs.Prelude.{map}
use Rattle.std.specs.List.{All, flat_map}
use Rattle.std.proofs.lemmas.List.{append-nil}
use Rattle.std.proofs.lemmas.List.Elements.{All-head, All-tail}
use Rattle.geo_base.specs.declared.layer.LayerKey.{LayerKey}
use Rattle.geo_base.specs.declared.shapes.Point.{Point}
use Rattle.geo_base.specs.declared.shapes.Rect.{Rect}
use Rattle.geo_base.specs.Layers.{IsStreamKey}
use Rattle.geo_base.specs.Near.{IsLongRect}
use Rattle.gds_records.specs.Records.{IsRecord, Records, ◌▸◌, followed_by_all}
use Rattle.gds_grammar.specs.Pattern.{Pattern, after_any}
use Rattle.gds_grammar.specs.Order.{left_after}
use Rattle.gds_elements.specs.Data as read
use Rattle.gds_records.specs.Kinds.{BOUNDARY, LAYER, DATATYPE, XY, ENDEL}
use Rattle.gds_elements.specs.Meaning.{Boundary, Shape, Ref, Cell, opened, open_points, open_shapes}
use Rattle.gds_elements.specs.Faults.{fault_of}
use Rattle.gds_elements.specs.Reading.{rec}
use Rattle.gds_shapes.specs.Data.{bare, number}
use Rattle.gds_shapes.specs.Stream.{Heading, Drawn, FitsLayer, boundary, layer, outline}
use Rattle.gds_shapes.specs.Accepted.{rect_shape, layer_shapes}
use Rattle.gds_shapes.proofs.Bodies.{outline_bytes, number_back, same_corners}
use Rattle.gds_shapes.proofs.Outlines.{outline_whole, outline_passes}
use Rattle.gds_shapes.proofs.Context.{inside, InCell, passes_next, never_unfinished, shut_finished, goes_on, shut_passes, bare_record, number_record, head_more, body_more, head_end, body_end, followed-append}

xy_record : (r : Rect) → IsRecord (rec XY 3 (outline r))
xy_record r = record { kind = refl; form = omega arith; even = refl; short = omega arith; bytes = outline_bytes r }

boundary_more : (h : Heading) (cells : List Cell) (cell : Drawn) (shapes : List Shape) (refs : List Ref) (rs : Records) (key : LayerKey) (r : Rect) → IsStreamKey key → IsLongRect r
    → InCell h cells cell shapes refs rs → InCell h cells cell (shapes ++ rect_shape key r ∷ []) refs (followed_by_all rs (boundary key r))
boundary_more h cells cell shapes refs rs key r k l s =
    let b = rs ▸ bare BOUNDARY in
    let y = b ▸ number LAYER key.layer in
    let d = y ▸ number DATATYPE key.datatype in
    let x = d ▸ rec XY 3 (outline r) in
    let left_b : left_after b ≡ after_any BOUNDARY inside = ap (λ (ps : List Pattern). after_any BOUNDARY ps) s.left in
    let left_y : left_after y ≡ after_any LAYER (after_any BOUNDARY inside) = ap (λ (ps : List Pattern). after_any LAYER ps) left_b in
    let left_d : left_after d ≡ after_any DATATYPE (after_any LAYER (after_any BOUNDARY inside)) = ap (λ (ps : List Pattern). after_any DATATYPE ps) left_y in
    let left_x : left_after x ≡ after_any XY (after_any DATATYPE (after_any LAYER (after_any BOUNDARY inside))) = ap (λ (ps : List Pattern). after_any XY ps) left_d in
    let shape : open_shapes x ≡ rect_shape key r ∷ [] =
    ap (λ (n : ℕ). let xs : List Shape = record { key = record { layer = n; datatype = read.number (number DATATYPE key.datatype).body }; form = Boundary (read.points_of (outline r)) } ∷ [] in xs) (number_back key.layer k.layer)
    ∙ ap (λ (n : ℕ). let xs : List Shape = record { key = record { layer = key.layer; datatype = n }; form = Boundary (read.points_of (outline r)) } ∷ [] in xs) (number_back key.datatype k.datatype)
    ∙ ap (λ (ps : List Point). let xs : List Shape = record { key = key; form = Boundary ps } ∷ [] in xs) (same_corners r l) in
    let pass_b : fault_of rs (bare BOUNDARY) ≡ None = passes_next rs (bare BOUNDARY) (shut_finished rs BOUNDARY s.shut) (goes_on rs BOUNDARY inside s.left refl) refl (shut_passes BOUNDARY (opened rs) [] 0 0 s.shut refl) in
    let pass_y : fault_of b (number LAYER key.layer) ≡ None = passes_next b (number LAYER key.layer) refl (goes_on b LAYER _ left_b refl) refl refl in
    let pass_d : fault_of y (number DATATYPE key.datatype) ≡ None = passes_next y (number DATATYPE key.datatype) refl (goes_on y DATATYPE _ left_y refl) refl refl in
    let pass_x : fault_of d (rec XY 3 (outline r)) ≡ None = passes_next d (rec XY 3 (outline r)) refl (goes_on d XY _ left_d refl) refl (outline_passes 0 0 r) in
    let pass_e : fault_of x (bare ENDEL) ≡ None = passes_next x (bare ENDEL) (never_unfinished BOUNDARY XY (open_points x) ENDEL (outline_whole r)) (goes_on x ENDEL _ left_x refl) refl refl in
    let head_b = head_more h cells rs (bare BOUNDARY) refl s.head (bare_record BOUNDARY refl) pass_b in
    let head_y = head_more h cells b (number LAYER key.layer) refl head_b (number_record LAYER key.layer refl) pass_y in
    let head_d = head_more h cells y (number DATATYPE key.datatype) refl head_y (number_record DATATYPE key.datatype refl) pass_d in
    let head_x = head_more h cells d (rec XY 3 (outline r)) refl head_d (xy_record r) pass_x in
    let body_b = body_more cell shapes refs rs (bare BOUNDARY) refl s.body in
    let body_y = body_more cell shapes refs b (number LAYER key.layer) refl body_b in
    let body_d = body_more cell shapes refs y (number DATATYPE key.datatype) refl body_y in
    let body_x = body_more cell shapes refs d (rec XY 3 (outline r)) refl body_d in
    let P : List Ref → Type 0 = λ fs. InCell h cells cell (shapes ++ rect_shape key r ∷ []) fs (x ▸ bare ENDEL) in
    subst P (append-nil refs) record {
      left = ap (λ (ps : List Pattern). after_any ENDEL ps) left_x;
      shut = refl;
      head = head_end h cells x head_x pass_e;
      body = body_end cell shapes refs x (rect_shape key r ∷ []) [] body_x shape refl refl;
    }

rects_more : (h : Heading) (cells : List Cell) (cell : Drawn) (shapes : List Shape) (refs : List Ref) (rs : Records) (key : LayerKey) (rects : List Rect) → IsStreamKey key → All IsLongRect rects
    → InCell h cells cell shapes refs rs
    → InCell h cells cell (shapes ++ map (λ r. rect_shape key r) rects) refs (followed_by_all rs (flat_map (λ r. boundary key r) rects))
rects_more h cells cell shapes refs rs key [] k l s = let P : List Shape → Type 0 = λ xs. InCell h cells cell xs refs rs in subst P (sym (append-nil shapes)) s
rects_more h cells cell shapes refs rs key (r ∷ rects) k l s =
    let more = boundary_more h cells cell shapes refs rs key r k (All-head IsLongRect r rects l) s in
    let P : List Shape → Type 0 = λ xs. InCell h cells cell xs refs (followed_by_all rs (flat_map (λ q. boundary key q) (r ∷ rects))) in
    subst P (append_assoc shapes (rect_shape key r ∷ []) (map (λ q. rect_shape key q) rects))
    (rects_more h cells cell (shapes ++ rect_shape key r ∷ []) refs (followed_by_all rs (boundary key r)) key rects k (All-tail IsLongRect r rects l) more)

pub layers_more : (h : Heading) (cells : List Cell) (cell : Drawn) (shapes : List Shape) (refs : List Ref) (rs : Records) (layers : List (LayerKey × List Rect)) → All FitsLayer layers
    → InCell h cells cell shapes refs rs → InCell h cells cell (shapes ++ flat_map layer_shapes layers) refs (followed_by_all rs (flat_map layer layers))
layers_more h cells cell shapes refs rs [] l s = let P : List Shape → Type 0 = λ xs. InCell h cells cell xs refs rs in subst P (sym (append-nil shapes)) s
layers_more h cells cell shapes refs rs (l ∷ layers) all s =
    let fits = All-head FitsLayer l layers all in
    let more = rects_more h cells cell shapes refs rs l.0 l.1 fits.key fits.rects s in
    let rest = layers_more h cells cell (shapes ++ layer_shapes l) refs (followed_by_all rs (layer l)) layers (All-tail FitsLayer l layers all) more in
    let P : List Shape → Type 0 = λ xs. InCell h cells cell xs refs (followed_by_all (followed_by_all rs (layer l)) (flat_map layer layers)) in
    let Q : Records → Type 0 = λ qs. InCell h cells cell (shapes ++ (layer_shapes l ++ flat_map layer_shapes layers)) refs qs in
    subst Q (sym (followed-append rs (layer l) (flat_map layer layers))) (subst P (append_assoc shapes (layer_shapes l) (flat_map layer_shapes layers)) rest)
