-- That spots are moved along the paths of their calls.
use Rattle.std.specs.Prelude.{◌≡◌, ℕ, List, [], ◌∷◌, Some, get_or, slice_get}
use Rattle.geo_base.specs.Motions.{moved_square}
use Rattle.geo_base.specs.declared.motion.Motion.{Motion}
use Rattle.geo_base.specs.declared.shapes.Square.{Square}
use Rattle.part_origins.specs.Inside.{PlainSpot}
use Rattle.part_origins.specs.Origins.{ArePaths}
use Rattle.plain_netlist.specs.Netlist.{CallRow, Netlist, IsCall}
use Rattle.plain_netlist.specs.Sound.{IsCallPath}
use Rattle.view_netlist.specs.declared.drawing.Drawing.{Drawing}
use Rattle.view_joined.specs.Spots.{AreMotions, call_motion, still}

-- a path of calls, each standing as it is drawn, takes square q of the circuit at its end to r: the
-- innermost call first
abbrev pub IsTakenTo : Netlist → List Drawing → ℕ → List ℕ → Square → Square → Type 0
IsTakenTo g drawings c [] q r = q ≡ r
IsTakenTo g drawings c (k ∷ ks) q r = (row : CallRow) × IsCall g c k row × (s : Square)
    × IsTakenTo g drawings row.circuit ks q s × (moved_square (call_motion drawings c k) s ≡ r)

-- the motion of a spot takes each square where the path to it does
abbrev pub MotionLaw : Type 0
MotionLaw = (g : Netlist) (drawings : List Drawing) (c : ℕ) (spots : List PlainSpot)
    (paths : List (List ℕ)) (motions : List Motion) → ArePaths spots paths
    → ((i : ℕ) (s : PlainSpot) (path : List ℕ) → slice_get spots i ≡ Some s
    → slice_get paths i ≡ Some path → IsCallPath g c path s.circuit)
    → AreMotions spots drawings [] spots motions
    → (i : ℕ) (path : List ℕ) (q : Square) → slice_get paths i ≡ Some path
    → IsTakenTo g drawings c path q (moved_square (get_or motions i still) q)
