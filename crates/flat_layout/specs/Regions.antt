-- Connected regions of a family of sets of squares, one set for each conductor.
use Rattle.std.specs.Prelude.{◌≡◌, ◌⊎◌, ℕ, ◌<◌, ◌==◌, if◌then◌else◌, List, [], ◌∷◌, Option, Some}
use Rattle.std.specs.Prelude.{None, get_or, length}
use Rattle.geo_base.specs.Motions.{moved_square}
use Rattle.geo_base.specs.declared.layer.LayerKey.{LayerKey}
use Rattle.geo_base.specs.declared.motion.Motion.{Motion}
use Rattle.geo_base.specs.declared.shapes.Square.{Square}
use Rattle.plain_netlist.specs.Chains.{Reaches}
use Rattle.flat_layout.specs.Layers.{Formula, Empty, InFlat, IsKept}
use Rattle.flat_layout.specs.Layout.{Design, Some_of}
use Rattle.flat_layout.specs.Plane.{IsNear}

-- a line that connects two conductors, or a conductor and a global
pub record Line : Type 0 where
  pub first : ℕ
  pub second : ℕ

-- a line that connects a layer of texts to a conductor
pub record Label : Type 0 where
  pub key : LayerKey
  pub conductor : ℕ

-- what each name of the rules reads as a conductor, nothing where it is none, so that a conductor's
-- number is its name's; the lines between two conductors, those to a global, those to texts; and
-- the globals' names, by their first lines
pub record Wiring : Type 0 where
  pub conductors : List Formula
  pub joins : List Line
  pub grounds : List Line
  pub labels : List Label
  pub globals : List (List ℕ)

pub data Node : Type 0 where
  At : (conductor : ℕ) (square : Square) → Node
  Ground : (global : ℕ) → Node

-- one conductor, or two of a line
abbrev pub IsJoined : Wiring → ℕ → ℕ → Type 0
IsJoined w c e = (c ≡ e) ⊎ Some_of (λ l. ((l.first ≡ c) × (l.second ≡ e))
    ⊎ ((l.first ≡ e) × (l.second ≡ c))) w.joins

abbrev pub IsGrounded : Wiring → ℕ → ℕ → Type 0
IsGrounded w c g = Some_of (λ l. (l.first ≡ c) × (l.second ≡ g)) w.grounds

-- the global of the first line that names the conductor
abbrev pub ground_of : ℕ → List Line → Option ℕ
ground_of c [] = None
ground_of c (l ∷ ls) = if l.first == c then Some l.second else ground_of c ls

-- near squares of joined conductors, a square and a global of its conductor, and each node and
-- itself
abbrev pub Touches : Wiring → Node → Node → Type 0
Touches w (At c p) (At e q) = IsJoined w c e × IsNear p q
Touches w (At c p) (Ground g) = IsGrounded w c g
Touches w (Ground g) (At c p) = IsGrounded w c g
Touches w (Ground g) (Ground h) = g ≡ h

abbrev pub IsNode : Wiring → (ℕ → Square → Type 0) → Node → Type 0
IsNode w sets (At c q) = sets c q
IsNode w sets (Ground g) = g < length w.globals

pub record IsLink (w : Wiring) (sets : ℕ → Square → Type 0) (a b : Node) : Type 0 where
  pub from : IsNode w sets a
  pub to : IsNode w sets b
  pub touch : Touches w a b

-- a chain of links joins the nodes
abbrev pub InOneRegion : Wiring → (ℕ → Square → Type 0) → Node → Node → Type 0
InOneRegion w sets a b = Reaches (IsLink w sets) a b

abbrev pub moved : Motion → Node → Node
moved m (At c q) = At c (moved_square m q)
moved m (Ground g) = Ground g

-- what a conductor reads; numbers past the end read nothing
abbrev pub formula : Wiring → ℕ → Formula
formula w c = get_or w.conductors c Empty

-- what a cell keeps of each conductor
abbrev pub kept : Design → Wiring → ℕ → ℕ → Square → Type 0
kept d w cell c q = IsKept d cell (formula w c) q

-- the flat squares of a cell on each conductor
abbrev pub flat : Design → Wiring → ℕ → ℕ → Square → Type 0
flat d w cell c q = InFlat d cell (formula w c) q
