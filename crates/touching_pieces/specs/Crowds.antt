-- Pieces of two lists, of which one piece makes a class of many.
use Rattle.std.specs.Prelude.{ℕ, ◌<◌, ◌⊎◌, not, List, length}
use Rattle.std.specs.List.{filter}
use Rattle.link_classes.specs.Classes.{IsLinked}
use Rattle.link_classes.specs.declared.classes.Link.{Link}
use Rattle.touching_pieces.specs.Pairs.{AreInTouch, AreOne, IsAmong}
use Rattle.touching_pieces.specs.Touching.{AreTouching, touches}
use Rattle.touching_pieces.specs.declared.cuts.Step.{Step}
use Rattle.touching_pieces.specs.declared.cuts.Step.TheVariants.{Halves, Hub, All}
use Rattle.touching_pieces.specs.declared.pieces.Piece.{Piece}

-- of the pieces, those that this one touches, and the others
abbrev pub touched_by : Piece → List Piece → List Piece
touched_by one ps = filter (λ p. touches one.rect p.rect) ps

abbrev pub apart_from : Piece → List Piece → List Piece
apart_from one ps = filter (λ p. not (touches one.rect p.rect)) ps

-- a hub is one of the pieces
abbrev pub IsStepOf : List Piece → Step → Type 0
IsStepOf ps (Halves cut) = Unit {0}
IsStepOf ps (Hub k) = k < length ps
IsStepOf ps All = Unit {0}

-- the links are those before and some of pieces in touch; each of the first pieces that touches
-- some of the others is joined to one of them
pub record AddsFirsts (ones others : List Piece) (old new : List Link) : Type 0 where
  pub kept : (i j : ℕ) → IsLinked old i j → IsLinked new i j
  pub each : (i j : ℕ) → IsLinked new i j
      → IsLinked old i j ⊎ (AreInTouch ones others i j ⊎ AreInTouch ones others j i)
  pub found : (p q : Piece) → IsAmong p ones → IsAmong q others → AreTouching p.rect q.rect
      → (o : Piece) × IsAmong o others × AreOne new p.item o.item

-- chains of links join the items of pieces in touch, but for those of some pieces that are left
pub record AddsCrowd (ones others left : List Piece) (old new : List Link) : Type 0 where
  pub kept : (i j : ℕ) → IsLinked old i j → IsLinked new i j
  pub each : (i j : ℕ) → IsLinked new i j
      → IsLinked old i j ⊎ (AreInTouch ones others i j ⊎ AreInTouch ones others j i)
  pub found : (i j : ℕ) → AreInTouch ones others i j → AreOne new i j ⊎ AreInTouch ones left i j
  pub among : (p : Piece) → IsAmong p left → IsAmong p others
