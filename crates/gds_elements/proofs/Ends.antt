-- What an element and a structure are when they end.
use Rattle.std.proofs.Common.{◌≡◌, ℕ, List, ◌++◌, map, refl, ap, ◌∙◌}
use Rattle.gds_records.specs.Records.{Records, ◌▸◌}
use Rattle.geo_base.specs.declared.layer.LayerKey.{LayerKey}
use Rattle.gds_elements.specs.declared.element.Element.{Element}
use Rattle.gds_elements.specs.declared.reader.Structure.{Structure}
use Rattle.gds_elements.specs.Meaning as m
use Rattle.gds_elements.specs.Reading.{HoldsElement, HoldsStructure, Gains, shapes_in, texts_in, refs_in, shape_seen, text_seen, ref_seen, rec}

key_is : (rs : Records) (e : Element) → HoldsElement rs e → (let k : LayerKey = record { layer = e.drawing.layer; datatype = e.drawing.datatype } in k ≡ m.key_of rs)
key_is rs e h = rw (h.drawing.layer, h.drawing.datatype) refl

pub shapes_are : (rs : Records) (e : Element) → HoldsElement rs e → shapes_in e ≡ m.open_shapes rs
shapes_are rs e h = rw (h.start, h.drawing.layer, h.drawing.datatype, h.drawing.path_type, h.drawing.width, h.drawing.begin, h.drawing.end, h.points) refl

pub texts_are : (rs : Records) (e : Element) → HoldsElement rs e → texts_in e ≡ m.open_texts rs
texts_are rs e h = rw (h.start, h.drawing.layer, h.drawing.datatype, h.points, h.text) refl

pub refs_are : (rs : Records) (e : Element) → HoldsElement rs e → refs_in e ≡ m.open_refs rs
refs_are rs e h = rw (h.start, h.text, h.placing.mirrored, h.placing.quarter, h.points, h.placing.columns, h.placing.rows, h.placing.column_side, h.placing.row_side) refl

-- a structure that gained what an element is holds the records up to the element's end
pub ended : (rs : Records) (form : ℕ) (body : List ℕ) (e : Element) (old new : Structure) → HoldsElement rs e → HoldsStructure rs old → Gains old new (shapes_in e) (texts_in e) (refs_in e)
    → HoldsStructure (rs ▸ rec 0x11 form body) new
ended rs form body e old new h s g = record {
  dates = g.dates ∙ s.dates;
  name = ap (λ v. v.items) g.name ∙ s.name;
  shapes = g.shapes ∙ ap (λ (xs : List m.Shape). xs ++ shapes_in e) s.shapes ∙ ap (λ (xs : List m.Shape). m.shapes_of rs ++ xs) (shapes_are rs e h);
  texts = g.texts ∙ ap (λ (xs : List m.Text). xs ++ texts_in e) s.texts ∙ ap (λ (xs : List m.Text). m.texts_of rs ++ xs) (texts_are rs e h);
  refs = g.refs ∙ ap (λ (xs : List m.Ref). xs ++ refs_in e) s.refs ∙ ap (λ (xs : List m.Ref). m.refs_of rs ++ xs) (refs_are rs e h);
}

-- the open structure as a cell
pub cells_are : (rs : Records) (dates name : List ℕ) (s : Structure) → HoldsStructure rs s → s.dates ≡ dates → s.name.items ≡ name
    → m.cell_by dates name (map shape_seen s.shapes.items) (map text_seen s.texts.items) (map ref_seen s.refs.items) ≡ m.open_cells rs
cells_are rs dates name s h d n = rw (← d, ← n, h.dates, h.name, h.shapes, h.texts, h.refs) refl
