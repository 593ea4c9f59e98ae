-- What is disturbed close to a part, by the squares that the tables have.
use Rattle.std.proofs.Common.{◌≡◌, ◌↔◌, inl, inr, ℕ, ◌+◌, ◌≤◌, List, sym, subst, arith}
use Rattle.std.proofs.lemmas.Bool.{cases_Bool}
use Rattle.flat_layout.specs.Layers.{IsShut, IsShutBy}
use Rattle.flat_layout.specs.Layout.{IsDisturbed}
use Rattle.flat_layout.specs.Parts.{IsCloseTo}
use Rattle.flat_layout.specs.Plane.{AreWithin}
use Rattle.flat_layout.specs.declared.way.Way.TheVariants.{Disturbed}
use Rattle.flat_laws.proofs.Moves.{farther}
use Rattle.geo_base.specs.declared.shapes.Rect.{Rect}
use Rattle.geo_base.specs.declared.shapes.Square.{Square}
use Rattle.rect_sets.specs.Rects.{covers}
use Rattle.cell_graph.specs.Grown.{IsInGrown}
use Rattle.cell_graph.specs.Linked.{Linked, IsSound, cell_at, hull_of, plain}
use Rattle.cell_graph.proofs.Bridge.{hull_sound}
use Rattle.cell_graph.proofs.Growing.{near_square, wider_grown, within_grown}
use Rattle.deep_tables.specs.Frames.{IsFramedOpen}
use Rattle.gate_phase.specs.Close.{AreApart}
use Rattle.gate_phase.specs.Own.{IsHeldPart}
use Rattle.gate_phase.proofs.Holding.{close_frame}
use Rattle.gate_shapes.specs.Sets.{in_set}
use Rattle.select_laws.specs.Selects.{Select, sight}
use Rattle.select_phase.specs.Sorted.{IsCalmPart}

module _ (d : Linked) (x : Select) (cell margin : ℕ) (part close zone : List Rect) (sound : IsSound d) (way : (plain d).way ≡ Disturbed) (framed : IsFramedOpen margin d (sight x).keys cell zone) (far : ((sight x).reach + 1) + (sight x).reach ≤ margin)
    (held : IsHeldPart (sight x).reach d cell part) (all : (q : Square) → in_set close q ↔ IsCloseTo (in_set part) q) where
  abbrev n : ℕ
  n = (sight x).reach

  inner : (q y : Square) → in_set close q → AreWithin n y q → IsInGrown margin (hull_of (cell_at d cell)) y
  inner q y e near =
      let o = hull_of (cell_at d cell) in
      let a = near_square (n + 1) o q (hull_sound d cell sound) (close_frame n d cell part close sound held all q e) in
      wider_grown (n + (n + 1)) margin o y (omega (arith, far)) (within_grown (n + (n + 1)) o y a.0 a.1 (farther n (n + 1) y q a.0 near a.2))

  -- in a design that shuts what nothing disturbs
  still : (y : Square) → IsShut (plain d) (sight x).keys cell y ↔ (IsDisturbed (plain d) (sight x).keys cell y → ⊥)
  still y = (
    (λ h. subst (λ v. IsShutBy v (plain d) (sight x).keys cell y) way h),
    (λ h. subst (λ v. IsShutBy v (plain d) (sight x).keys cell y) (sym way) h),
  )

  pub calm_zone : AreApart n close zone ↔ IsCalmPart (plain d) x cell part
  calm_zone = (
    (λ apart q c h.
        let e = (all q).1 c in
        elim (cases_Bool (covers zone h.square)) [
          | inl on ↦ apart q e (record { square = h.square; within = h.within; has = on })
          | inr off ↦ (still h.square).0 (framed.shut h.square (inner q h.square e h.within) off) h.disturbed
        ]),
    (λ calm q e r. (framed.inside r.square r.has).1 ((still r.square).1 (λ h. calm q ((all q).0 e) (record { square = r.square; within = r.within; disturbed = h })))),
  )
