-- Links between the items of pieces that touch.
use Rattle.std.specs.Prelude.{◌≡◌, ◌⊎◌, ◌↔◌, ◌<◌, ℕ, ◌==◌, int_le, int_lt, Bool, List, [], ◌∷◌}
use Rattle.std.specs.List.{filter}
use Rattle.flat_layout.specs.Layout.{Some_of}
use Rattle.geo_base.specs.declared.shapes.Rect.{Rect}
use Rattle.link_classes.specs.Classes.{IsLinked}
use Rattle.link_classes.specs.declared.classes.Link.{Link}
use Rattle.plain_netlist.specs.Chains.{Reaches}
use Rattle.touching_pieces.specs.Touching.{AreTouching}
use Rattle.touching_pieces.specs.declared.conductors.Joined.{Joined}
use Rattle.touching_pieces.specs.declared.cuts.Axis.TheVariants.{X, Y}
use Rattle.touching_pieces.specs.declared.cuts.Cut.{Cut}
use Rattle.touching_pieces.specs.declared.pieces.Piece.{Piece}

-- the piece is in the list
abbrev pub IsAmong : Piece → List Piece → Type 0
IsAmong p [] = ⊥
IsAmong p (q ∷ ps) = (p ≡ q) ⊎ IsAmong p ps

-- a piece of the one list and one of the other touch, and belong to these items
pub record AreInTouch (ones others : List Piece) (i j : ℕ) : Type 0 where
  pub one : Piece
  pub other : Piece
  pub in_ones : IsAmong one ones
  pub in_others : IsAmong other others
  pub touching : AreTouching one.rect other.rect
  pub from : one.item ≡ i
  pub to : other.item ≡ j

-- the links are those before, and one for each two items of a relation
pub record AddsLinks (R : ℕ → ℕ → Type 0) (old new : List Link) : Type 0 where
  pub kept : (i j : ℕ) → IsLinked old i j → IsLinked new i j
  pub each : (i j : ℕ) → IsLinked new i j → IsLinked old i j ⊎ (R i j ⊎ R j i)
  pub found : (i j : ℕ) → R i j → (i ≡ j) ⊎ IsLinked new i j

-- chains of the links join the two
abbrev pub AreOne : List Link → ℕ → ℕ → Type 0
AreOne links i j = Reaches (IsLinked links) i j

-- the links are those before, and some for two items of a relation; chains of them join each such
-- two
pub record AddsChains (R : ℕ → ℕ → Type 0) (old new : List Link) : Type 0 where
  pub kept : (i j : ℕ) → IsLinked old i j → IsLinked new i j
  pub each : (i j : ℕ) → IsLinked new i j → IsLinked old i j ⊎ (R i j ⊎ R j i)
  pub found : (i j : ℕ) → R i j → AreOne new i j

abbrev pub AddsTouching : List Piece → List Piece → List Link → List Link → Type 0
AddsTouching ones others old new = AddsLinks (AreInTouch ones others) old new

-- the rectangle begins at or before the cut
abbrev pub begins_by : Cut → Rect → Bool
begins_by cut r = elim cut.axis [ X ↦ int_le r.x1 cut.at | Y ↦ int_le r.y1 cut.at ]

-- the rectangle ends behind the cut
abbrev pub ends_behind : Cut → Rect → Bool
ends_behind cut r = elim cut.axis [ X ↦ int_lt cut.at r.x2 | Y ↦ int_lt cut.at r.y2 ]

-- of the pieces, those that begin at or before the cut, and those that end behind it
abbrev pub lows : Cut → List Piece → List Piece
lows cut ps = filter (λ p. begins_by cut p.rect) ps

abbrev pub highs : Cut → List Piece → List Piece
highs cut ps = filter (λ p. ends_behind cut p.rect) ps

abbrev pub of_conductor : ℕ → List Piece → List Piece
of_conductor c ps = filter (λ p. p.conductor == c) ps

-- each piece is of one of the first conductors
abbrev pub AreOf : ℕ → List Piece → Type 0
AreOf n ps = (p : Piece) → IsAmong p ps → p.conductor < n

-- pieces of the conductor touch pieces of one that a line joins to it
abbrev pub AreInTouchVia : List Joined → List Piece → ℕ → ℕ → ℕ → Type 0
AreInTouchVia [] ps c i j = ⊥
AreInTouchVia (l ∷ ls) ps c i j = ((l.first ≡ c)
    × AreInTouch (of_conductor c ps) (of_conductor l.second ps) i j) ⊎ AreInTouchVia ls ps c i j

-- or pieces of the conductor touch
abbrev pub AreInTouchOf : List Joined → List Piece → ℕ → ℕ → ℕ → Type 0
AreInTouchOf joins ps c i j =
    AreInTouch (of_conductor c ps) (of_conductor c ps) i j ⊎ AreInTouchVia joins ps c i j

-- one conductor, or two that are joined
abbrev pub AreJoined : List Joined → ℕ → ℕ → Type 0
AreJoined joins c e = (c ≡ e) ⊎ Some_of
    (λ l. ((l.first ≡ c) × (l.second ≡ e)) ⊎ ((l.first ≡ e) × (l.second ≡ c))) joins

-- pieces of these items touch, and their conductors are one or joined
pub record AreTied (joins : List Joined) (pieces : List Piece) (i j : ℕ) : Type 0 where
  pub one : Piece
  pub other : Piece
  pub in_ones : IsAmong one pieces
  pub in_others : IsAmong other pieces
  pub joined : AreJoined joins one.conductor other.conductor
  pub touching : AreTouching one.rect other.rect
  pub from : one.item ≡ i
  pub to : other.item ≡ j

-- each link is of tied items, and chains of links join each two of these; so they join what chains
-- of touching pieces join
pub record AreLinksOf (joins : List Joined) (pieces : List Piece) (links : List Link) : Type 0 where
  pub each : (i j : ℕ) → IsLinked links i j → AreTied joins pieces i j
  pub found : (i j : ℕ) → AreTied joins pieces i j → AreOne links i j
  pub chains : (i j : ℕ) → Reaches (IsLinked links) i j ↔ Reaches (AreTied joins pieces) i j
