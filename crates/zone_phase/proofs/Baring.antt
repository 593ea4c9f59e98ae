-- What a cell leaves of what lies over it, where it keeps what it covers itself.
use Rattle.std.proofs.Common.{◌≡◌, ◌↔◌, ℕ, ◌+◌, ◌≤◌, true, false, not, ◌&&◌, Bool, List, [], ◌∷◌, refl, sym, ◌∙◌, ap, subst}
use Rattle.geo_base.specs.declared.layer.LayerKey.{LayerKey}
use Rattle.geo_base.specs.declared.shapes.Rect.{Rect}
use Rattle.geo_base.specs.declared.shapes.Square.{Square}
use Rattle.rect_sets.specs.Rects.{covers, IsCanonical}
use Rattle.flat_layout.specs.Hull.{IsHullOf}
use Rattle.flat_layout.specs.Layout.{InFlatInput}
use Rattle.flat_layout.specs.declared.way.Way.TheVariants.{Covered}
use Rattle.cell_graph.specs.Linked.{Linked, cell_at, hull_of, plain}
use Rattle.deep_tables.specs.Frames.{IsFramedOpen, IsFramedZone}
use Rattle.deep_tables.proofs.Framing.{framed, framed_open}
use Rattle.deep_laws.proofs.Opens.{bare}

pub bared : (n : ℕ) (d : Linked) (key : LayerKey) (cell : ℕ) (zone flat left : List Rect) → IsHullOf (plain d) cell (hull_of (cell_at d cell)) → d.way ≡ Covered → IsCanonical zone → IsFramedZone n d (key ∷ []) cell zone
    → ((q : Square) → (covers flat q ≡ true) ↔ ((covers zone q ≡ true) × InFlatInput (plain d) cell key q))
    → ((q : Square) → covers left q ≡ (covers zone q && not (covers flat q))) → IsCanonical left → IsFramedOpen n d (key ∷ []) cell left
bared n d key cell zone flat left hull way whole is flat_is made canonical =
    (framed_open d (key ∷ []) n cell left hull canonical).0
    (bare (plain d) key n cell zone flat left way ((framed d (key ∷ []) n cell zone hull whole).1 is) flat_is canonical made)

-- where nothing lies over it there is nothing to leave
pub none_bared : (n : ℕ) (d : Linked) (key : LayerKey) (cell : ℕ) (zone left : List Rect) → IsHullOf (plain d) cell (hull_of (cell_at d cell)) → d.way ≡ Covered → IsCanonical zone → IsFramedZone n d (key ∷ []) cell zone → zone ≡ [] → left ≡ []
    → IsFramedOpen n d (key ∷ []) cell left
none_bared n d key cell zone left hull way whole is none empty =
    bared n d key cell zone [] left hull way whole is
    (λ q. ((λ e. let f : false ≡ true = e in absurd (let z : ⊥ = cc in z)), (λ h. let f : false ≡ true = subst (λ (l : List Rect). covers l q ≡ true) none h.0 in absurd (let z : ⊥ = cc in z))))
    (λ q. ap (λ (l : List Rect). covers l q) (empty ∙ sym none) ∙ and_true (covers zone q))
    (subst IsCanonical (none ∙ sym empty) whole)
  where
    and_true : (b : Bool) → b ≡ (b && not false)
    and_true true = refl
    and_true false = refl
