-- Of a region that is whole in a placed cell it is the same there and in its parent whether it is chosen.
use Rattle.std.proofs.Common.{◌≡◌, ◌↔◌, ℕ, sym, ◌∙◌, ap, subst}
use Rattle.std.proofs.Math.Nat.{le-max_left, le-max_right}
use Rattle.flat_layout.specs.Gates.{IsReadBy}
use Rattle.flat_layout.specs.Layers.{inputs, reach, InFlat}
use Rattle.flat_layout.specs.Layout.{Place, Design, IsPlaced, IsReached}
use Rattle.flat_layout.specs.Parts.{IsCloseTo}
use Rattle.geo_base.specs.Motions.{moved_square}
use Rattle.geo_base.specs.declared.shapes.Square.{Square}
use Rattle.flat_laws.proofs.Mapped.{counts_map}
use Rattle.flat_laws.proofs.Moves.{onto}
use Rattle.flat_laws.proofs.Names.{more_left, more_right}
use Rattle.select_laws.specs.Selects.{Ask, Interacting, Overlapping, Inside, Outside, WithArea, Has, Side, Those, Others, OnSide, Select, sight, region_at, IsSelected}
use Rattle.select_laws.specs.SelectLaws.{SameChoiceLaw}
use Rattle.select_laws.specs.Whole.{IsWhole}
use Rattle.flat_laws.proofs.Joints.{region_self}
use Rattle.select_laws.proofs.Kept.{close_in, one_square, same_read, squares, close}

pub reads_region : (x : Select) → IsReadBy (sight x) x.region
reads_region x = record { keys = λ key l. more_left (λ k. k ≡ key) (inputs x.region) (inputs x.other) l; reach = le-max_left (reach x.region) (reach x.other) }

pub reads_other : (x : Select) → IsReadBy (sight x) x.other
reads_other x = record { keys = λ key l. more_right (λ k. k ≡ key) (inputs x.region) (inputs x.other) l; reach = le-max_right (reach x.region) (reach x.other) }

pub on_side : (side : Side) (A B : Type 0) → A ↔ B → OnSide side A ↔ OnSide side B
on_side Those A B h = h
on_side Others A B h = ((λ n b. n (h.1 b)), (λ n a. n (h.0 a)))

module _ (d : Design) (x : Select) (cell k : ℕ) (p : Place) (s : Square) (reached : IsReached d cell) (placed : IsPlaced d cell k p) (whole : IsWhole d x.joint (sight x) p.cell s) where
  abbrev f : Square → Square
  f = moved_square p.motion

  abbrev Up : Square → Type 0
  Up = region_at d x cell (f s)

  abbrev Down : Square → Type 0
  Down = region_at d x p.cell s

  ups : (q : Square) → Up (f q) ↔ Down q
  ups q = squares d x.joint (sight x) (reads_region x) cell k p s reached placed whole q

  closes : (q : Square) → IsCloseTo Up (f q) ↔ IsCloseTo Down q
  closes q = close d x.joint (sight x) (reads_region x) cell k p s reached placed whole q

  others : (q : Square) → IsCloseTo Down q → InFlat d cell x.other (f q) ↔ InFlat d p.cell x.other q
  others q near = same_read d x.joint (sight x) (reads_region x) cell k p s reached placed whole x.other (reads_other x) q near

  near_in : (q : Square) → Down q → IsCloseTo Down q
  near_in q h = close_in d x.joint (sight x) p.cell s q h

  one : (a c : Square) → f a ≡ f c → a ≡ c
  one a c e = one_square d x.joint (sight x) (reads_region x) cell k p s reached placed whole a c e

  -- the square whose image this is
  abbrev g : Square → Square
  g b = (onto p.motion b).0

  g_of : (b : Square) → f (g b) ≡ b
  g_of b = (onto p.motion b).1

  g_one : (a c : Square) → g a ≡ g c → a ≡ c
  g_one a c e = sym (g_of a) ∙ ap f e ∙ g_of c

  downs : (a : Square) → Down (g a) ↔ Up a
  downs a = (
    (λ h. subst (λ v. Up v) (g_of a) ((ups (g a)).1 h)),
    (λ h. (ups (g a)).0 (subst (λ v. Up v) (sym (g_of a)) h)),
  )

  has : (ask : Ask) → Has ask Up (InFlat d cell x.other) ↔ Has ask Down (InFlat d p.cell x.other)
  has Interacting = (
    (λ h.
        let near = (closes (g h.0)).0 (subst (λ v. IsCloseTo Up v) (sym (g_of h.0)) h.1) in
        (g h.0, near, (others (g h.0) near).0 (subst (λ v. InFlat d cell x.other v) (sym (g_of h.0)) h.2))),
    (λ h. (f h.0, (closes h.0).1 h.1, (others h.0 h.1).1 h.2)),
  )
  has Overlapping = (
    (λ h.
        let r = (downs h.0).1 h.1 in
        (g h.0, r, (others (g h.0) (near_in (g h.0) r)).0 (subst (λ v. InFlat d cell x.other v) (sym (g_of h.0)) h.2))),
    (λ h. (f h.0, (ups h.0).1 h.1, (others h.0 (near_in h.0 h.1)).1 h.2)),
  )
  has Inside = (
    (λ h q r. (others q (near_in q r)).0 (h (f q) ((ups q).1 r))),
    (λ h q r.
        let t = (downs q).1 r in
        subst (λ v. InFlat d cell x.other v) (g_of q) ((others (g q) (near_in (g q) t)).1 (h (g q) t))),
  )
  has Outside = (
    (λ h q r t. h (f q) ((ups q).1 r) ((others q (near_in q r)).1 t)),
    (λ h q r t.
        let u = (downs q).1 r in
        h (g q) u ((others (g q) (near_in (g q) u)).0 (subst (λ v. InFlat d cell x.other v) (sym (g_of q)) t))),
  )
  has (WithArea low high) = (
    (λ h. (h.0, counts_map g g_one Up Down downs (λ b. (f b, one (g (f b)) b (g_of (f b)))) h.0 h.1, h.2, h.3)),
    (λ h. (h.0, counts_map f one Down Up ups (λ b. onto p.motion b) h.0 h.1, h.2, h.3)),
  )

  pub chosen : IsSelected d x cell (f s) ↔ IsSelected d x p.cell s
  chosen =
      let self = near_in s (region_self x.joint (InFlat d p.cell x.region) s whole.is) in
      let flat = same_read d x.joint (sight x) (reads_region x) cell k p s reached placed whole x.region (reads_region x) s self in
      let side = on_side x.side (Has x.ask Up (InFlat d cell x.other)) (Has x.ask Down (InFlat d p.cell x.other)) (has x.ask) in (
        (λ h. record { is = flat.0 h.is; chosen = side.0 h.chosen }),
        (λ h. record { is = flat.1 h.is; chosen = side.1 h.chosen }),
      )

pub same_choice : SameChoiceLaw
same_choice d x cell k p s reached placed whole = chosen d x cell k p s reached placed whole
