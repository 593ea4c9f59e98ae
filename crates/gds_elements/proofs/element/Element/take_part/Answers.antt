use Rattle.std.proofs.Common.{◌≡◌, ℕ, Bool, true, false, cond, List, [], rules, refl, sym, ap, ◌∙◌, eq-eqb}
use Rattle.std.specs.Prelude.{◌==◌, ◌||◌}
use Rattle.geo_base.specs.declared.shapes.Point.{Point}
use Rattle.gds_records.specs.Records.{Rec, Records, ◌▸◌}
use Rattle.gds_records.specs.Kinds.{XY, STRING, SNAME}
use Rattle.gds_elements.specs.Bounds.{is_bound}
use Rattle.gds_elements.specs.Data.{points_of, trimmed}
use Rattle.gds_elements.specs.Meaning.{opened, gathered, open_points, text_part}
use Rattle.gds_elements.specs.Reading.{rec}
use Rattle.gds_elements.proofs.Parts.{found_still, opened_still}
use Rattle.gds_elements.proofs.element.Element.take_part.Goals as goal

-- the points behind a record of points
points_new : (before : Records) (r : Rec) → is_bound r.kind ≡ false → (r.kind == XY) ≡ true → open_points (before ▸ r) ≡ gathered (opened before) (open_points before) (points_of r.body)
points_new before r f e =
    ap (λ (b : Bool). cond b [] (cond (r.kind == XY) (gathered (opened before) (open_points before) (points_of r.body)) (open_points before))) f
    ∙ ap (λ (b : Bool). cond b (gathered (opened before) (open_points before) (points_of r.body)) (open_points before)) e

pub returns-in_ok-gather-in-16 : goal.returns-in_ok-gather-in-16
returns-in_ok-gather-in-16 c = λ before form h.
    let r = rec c.args.kind form c.args.body.now in
    let other : (c.args.kind == STRING || c.args.kind == SNAME) ≡ false = rw c.in-16.is refl in
    record {
      start = h.start ∙ sym (opened_still before r c.requires.inside);
      drawing = c.take_drawing.ensures before form h.drawing;
      placing = c.take_placing.ensures before form h.placing;
      points = c.in_ok-gather-in-16.ensures
          ∙ ap (λ (ps : List Point). gathered c.args.self.now.start c.args.self.now.points.items ps) (c.requires.points c.in-16.is)
          ∙ ap (λ (ps : List Point). gathered c.args.self.now.start ps (points_of c.args.body.now)) h.points
          ∙ ap (λ (k : ℕ). gathered k (open_points before) (points_of c.args.body.now)) h.start
          ∙ sym (points_new before r c.requires.inside (eq-eqb c.args.kind 16 c.in-16.is));
      text = h.text ∙ ap (λ (b : List ℕ). trimmed b) (sym (found_still (λ k. k == STRING || k == SNAME) is_bound before r other c.requires.inside));
    }

pub returns-in_ok-self-in-25 : goal.returns-in_ok-self-in-25
returns-in_ok-self-in-25 c = λ before form h.
    let r = rec c.args.kind form c.args.body.now in
    let text : text_part (before ▸ r) ≡ c.args.body.now = search rules in
    let xy : open_points before ≡ open_points (before ▸ r) = search rules in
    record {
      start = h.start ∙ sym (opened_still before r c.requires.inside);
      drawing = c.take_drawing.ensures before form h.drawing;
      placing = c.take_placing.ensures before form h.placing;
      points = h.points ∙ xy;
      text = c.in_ok-self-in-25.ensures.items ∙ c.trimmed.ensures ∙ ap (λ (b : List ℕ). trimmed b) (sym text);
    }

pub returns-in_default : goal.returns-in_default
returns-in_default c = λ before form h.
    let r = rec c.args.kind form c.args.body.now in
    let text : text_part before ≡ text_part (before ▸ r) = search rules in
    let xy : open_points before ≡ open_points (before ▸ r) = search rules in
    record {
      start = h.start ∙ sym (opened_still before r c.requires.inside);
      drawing = c.take_drawing.ensures before form h.drawing;
      placing = c.take_placing.ensures before form h.placing;
      points = h.points ∙ xy;
      text = h.text ∙ ap (λ (b : List ℕ). trimmed b) text;
    }
