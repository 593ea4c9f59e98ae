-- Pairs of own rectangles and placements whose nets may touch them.
use Rattle.std.specs.Prelude.{◌≡◌, ◌⊎◌, ℕ, ◌+◌, ◌<◌, ◌≤◌, List, Some, slice_get, length}
use Rattle.flat_layout.specs.Layout.{Design, Place}
use Rattle.flat_layout.specs.Nets.{Own, Child, Tables}
use Rattle.flat_layout.specs.Regions.{Wiring}
use Rattle.geo_base.specs.declared.shapes.Rect.{Rect}
use Rattle.link_classes.specs.Classes.{IsLinked}
use Rattle.link_classes.specs.declared.classes.Link.{Link}
use Rattle.net_link_laws.specs.Found.{IsSquareLink}
use Rattle.net_link_laws.specs.Places.{owned_before, places_of}
use Rattle.net_walk.specs.Beside.{IsPairBeside}
use Rattle.net_walk.specs.Held.{HasSquare, IsOneOf}
use Rattle.net_walk.specs.Pairs.{AreSpanPieces}
use Rattle.net_walk.specs.declared.partners.Spans.{Spans}
use Rattle.touching_pieces.specs.Pairs.{IsAmong}
use Rattle.touching_pieces.specs.Touching.{AreTouching}
use Rattle.touching_pieces.specs.declared.pieces.Piece.{Piece}

-- what bounds each placement, and a number on from which items of all placements have numbers
pub record AreSpans (d : Design) (w : Wiring) (t : Tables) (s : Spans) : Type 0 where
  pub pieces : AreSpanPieces d t s.cell (length (places_of d s.cell)) s.pieces.now
  pub from : s.from ≡ owned_before t s.cell (length w.conductors)
  pub room : s.from + length (places_of d s.cell) ≤ 4294967295

-- no number is lost
abbrev pub Keeps : List ℕ → List ℕ → Type 0
Keeps old new = (e : ℕ) → IsOneOf old e → IsOneOf new e

abbrev pub TouchNone : List Piece → Rect → Type 0
TouchNone ones rect = (o : Piece) → IsAmong o ones → AreTouching o.rect rect → ⊥

-- a rectangle touches what bounds a placement, and the placed cell has a square of one of these
-- conductors
pub record IsPartner (d : Design) (t : Tables) (cell : ℕ) (conductors : List ℕ)
    (ones : List Piece) (span : Piece) : Type 0 where
  pub one : Piece
  pub in_ones : IsAmong one ones
  pub touching : AreTouching one.rect span.rect
  pub conductor : ℕ
  pub listed : IsOneOf conductors conductor
  pub net : ℕ
  pub square : HasSquare d t cell conductor net

-- the piece's item, counted from a number on
abbrev pub counted_from : ℕ → Piece → Piece
counted_from by o = record { conductor = o.conductor; rect = o.rect; item = o.item + by }

-- nothing is added but the counted piece of a placement, and this wherever it is a partner
pub record AddsPartner (d : Design) (t : Tables) (cell : ℕ) (conductors : List ℕ)
    (ones : List Piece) (from : ℕ) (span : Piece) (old new : List Piece) : Type 0 where
  pub kept : (v : Piece) → IsAmong v old → IsAmong v new
  pub each : (v : Piece) → IsAmong v new → IsAmong v old ⊎ (v ≡ counted_from from span)
  pub found : IsPartner d t cell conductors ones span → IsAmong (counted_from from span) new

-- some of the pieces of placements, counted, among them each partner's
pub record ArePartnerPieces (d : Design) (t : Tables) (cell : ℕ) (conductors : List ℕ)
    (ones : List Piece) (from : ℕ) (spans partners : List Piece) : Type 0 where
  pub each : (v : Piece) → IsAmong v partners
      → (o : Piece) × IsAmong o spans × (v ≡ counted_from from o)
  pub found : (o : Piece) (p : Place) → IsAmong o spans
      → slice_get (places_of d cell) o.item ≡ Some p → IsPartner d t p.cell conductors ones o
      → IsAmong (counted_from from o) partners

-- each new pair is of an own rectangle and a placement, and each two of one conductor's rectangles
-- and of placements whose nets squares join are a pair
pub record AddsPartners (d : Design) (w : Wiring) (t : Tables) (cell from c : ℕ)
    (old new : List Link) : Type 0 where
  pub kept : (i j : ℕ) → IsLinked old i j → IsLinked new i j
  pub each : (i j : ℕ) → IsLinked new i j → IsLinked old i j
      ⊎ IsPairBeside from (length (places_of d cell)) (record { one = i; other = j })
  pub found : (r k x : ℕ) → IsSquareLink d w t cell (Own c r) (Child k x)
      → IsLinked new (owned_before t cell c + r) (from + k)

-- and of the first n conductors
pub record ArePartners (d : Design) (w : Wiring) (t : Tables) (cell from n : ℕ)
    (pairs : List Link) : Type 0 where
  pub each : (i j : ℕ) → IsLinked pairs i j
      → IsPairBeside from (length (places_of d cell)) (record { one = i; other = j })
  pub found : (c r k x : ℕ) → c < n → IsSquareLink d w t cell (Own c r) (Child k x)
      → IsLinked pairs (owned_before t cell c + r) (from + k)
