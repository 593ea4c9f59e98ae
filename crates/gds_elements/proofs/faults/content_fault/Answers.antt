use Rattle.std.proofs.Common.{◌≡◌, ℕ, List, true, Option, Some, None, sym, ap, subst, ◌∙◌}
use Rattle.std.specs.Prelude.{◌==◌, ◌%◌, length}
use Rattle.geo_base.specs.declared.shapes.Point.{Point}
use Rattle.gds_elements.specs.Bounds.{is_line}
use Rattle.gds_elements.specs.Data.{is_straight, points_of}
use Rattle.gds_elements.specs.Faults.{array_fault, content_fault, or_else, points_fault}
use Rattle.gds_elements.proofs.faults.content_fault.Goals as goal

-- a record of points is tested for these, and then as an array
of_points : (start : ℕ) (so_far points points' : List Point) (columns rows kind : ℕ) (body : List ℕ) (o : Option ℕ) → kind ≡ 0x10 → points ≡ points'
    → o ≡ points_fault start ((length body % 8) == 0) so_far points → or_else o (array_fault start columns rows body) ≡ or_else (points_fault start ((length body % 8) == 0) so_far points') (array_fault start columns rows body)
of_points start so_far points points' columns rows kind body o k e f = ap (λ (p : Option ℕ). or_else p (array_fault start columns rows body)) (f ∙ ap (λ (ps : List Point). points_fault start ((length body % 8) == 0) so_far ps) e)

abbrev IsStraightLine : ℕ → List Point → Type 0
IsStraightLine start points = is_line start ≡ true → is_straight points ≡ true

pub returns-in-Some : goal.returns-in-Some
returns-in-Some c = λ h.
    let e = c.args.element.now in
    let so_far = c.deref.result.now in
    let body = c.args.body.now in
    let straight : IsStraightLine e.start so_far = subst (IsStraightLine e.start) (sym c.deref.ensures.value) h in
    of_points e.start so_far c.args.points.now (points_of body) e.placing.columns e.placing.rows c.args.kind body (Some c.in-Some.number) c.in-16.is (c.requires c.in-16.is) (c.in-Some.ensures straight)
    ∙ sym (ap (λ (k : ℕ). content_fault e.start so_far e.placing.columns e.placing.rows k body) c.in-16.is)
    ∙ ap (λ (ps : List Point). content_fault e.start ps e.placing.columns e.placing.rows c.args.kind body) c.deref.ensures.value

pub returns-in-None : goal.returns-in-None
returns-in-None c = λ h.
    let e = c.args.element.now in
    let so_far = c.deref.result.now in
    let body = c.args.body.now in
    let straight : IsStraightLine e.start so_far = subst (IsStraightLine e.start) (sym c.deref.ensures.value) h in
    c.array_fault.ensures
    ∙ of_points e.start so_far c.args.points.now (points_of body) e.placing.columns e.placing.rows c.args.kind body None c.in-16.is (c.requires c.in-16.is) (c.in-None.ensures straight)
    ∙ sym (ap (λ (k : ℕ). content_fault e.start so_far e.placing.columns e.placing.rows k body) c.in-16.is)
    ∙ ap (λ (ps : List Point). content_fault e.start ps e.placing.columns e.placing.rows c.args.kind body) c.deref.ensures.value
