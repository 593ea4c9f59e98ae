-- What holds of all motions.
use Rattle.std.specs.Prelude.{◌≡◌, ◌↔◌}
use Rattle.geo_base.specs.declared.shapes.Point.{Point}
use Rattle.geo_base.specs.declared.shapes.Square.{Square}
use Rattle.geo_base.specs.declared.motion.Turn.{Turn}
use Rattle.geo_base.specs.declared.motion.Motion.{Motion}
use Rattle.geo_base.specs.Motions.{turned, IsImage, moved_point, moved_square}

-- each square has one image
abbrev pub OneImageLaw : Type 0
OneImageLaw = (m : Motion) (s t : Square) → IsImage m s t ↔ (t ≡ moved_square m s)

-- different squares have different images
abbrev pub DifferentImagesLaw : Type 0
DifferentImagesLaw = (m : Motion) (s t : Square) → moved_square m s ≡ moved_square m t → s ≡ t

-- each square is the image of one
abbrev pub OntoLaw : Type 0
OntoLaw = (m : Motion) (t : Square) → (s : Square) × (moved_square m s ≡ t)

-- the turn takes each point where the first turn, and then the second, take it
abbrev pub IsTurnAfter : Turn → Turn → Turn → Type 0
IsTurnAfter first second both = (p : Point) → turned both p ≡ turned second (turned first p)

-- the motion takes each point and each square where the first motion, and then the second, take it
pub record IsMotionAfter (first second both : Motion) : Type 0 where
  pub points : (p : Point) → moved_point both p ≡ moved_point second (moved_point first p)
  pub squares : (s : Square) → moved_square both s ≡ moved_square second (moved_square first s)

-- the second motion undoes the first, for each point and each square
pub record IsUndone (first second : Motion) : Type 0 where
  pub points : (p : Point) → moved_point second (moved_point first p) ≡ p
  pub squares : (s : Square) → moved_square second (moved_square first s) ≡ s
