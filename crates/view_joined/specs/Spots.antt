-- The motions of the circuits that stand inside a flat one.
use Rattle.std.specs.Prelude.{◌≡◌, ◌⊎◌, ℕ, pos, List, [], ◌∷◌, ◌++◌, Option, Some, None, get_or}
use Rattle.std.specs.Prelude.{slice_get}
use Rattle.geo_base.specs.Laws.{IsMotionAfter}
use Rattle.geo_base.specs.declared.motion.Motion.{Motion}
use Rattle.geo_base.specs.declared.motion.Turn.TheVariants.{R0}
use Rattle.part_origins.specs.Inside.{PlainSpot}
use Rattle.part_origins.specs.declared.inside.Part.{Part}
use Rattle.view_drawing.specs.Far.{IsFarShift}
use Rattle.view_netlist.specs.Drawing.{drawn_of}
use Rattle.view_netlist.specs.declared.drawing.Drawing.{Drawing}

abbrev pub still : Motion
still = record { turn = R0; dx = pos 0; dy = pos 0 }

abbrev pub circuit_or : Option PlainSpot → ℕ
circuit_or (Some s) = s.circuit
circuit_or None = 0

-- the circuit of a spot
abbrev pub circuit_at : List PlainSpot → ℕ → ℕ
circuit_at spots i = circuit_or (slice_get spots i)

-- where a call of a circuit stands in it
abbrev pub call_motion : List Drawing → ℕ → ℕ → Motion
call_motion drawings circuit call = get_or (drawn_of drawings circuit).calls call still

module _ (spots : List PlainSpot) (drawings : List Drawing) where
  -- a call at a spot: as it stands in its circuit, then as that is moved
  abbrev pub IsCallMotion : List Motion → Part → Motion → Type 0
  IsCallMotion motions call m =
      IsMotionAfter (call_motion drawings (circuit_at spots call.spot) call.number)
      (get_or motions call.spot still) m

  -- the circuit itself isn't moved; another one is moved as the call that brings it
  abbrev pub IsSpotMotion : List Motion → Option Part → Motion → Type 0
  IsSpotMotion motions None m = m ≡ still
  IsSpotMotion motions (Some call) m = IsCallMotion motions call m

  -- one motion for each of these spots, behind those of earlier ones
  abbrev pub AreMotions : List Motion → List PlainSpot → List Motion → Type 0
  AreMotions before [] [] = Unit {0}
  AreMotions before (s ∷ ss) (m ∷ ms) =
      IsSpotMotion before s.by m × AreMotions (before ++ m ∷ []) ss ms
  AreMotions before _ _ = ⊥

  -- of these spots, in order, one is moved too far
  abbrev pub IsFarSpot : List Motion → List PlainSpot → Type 0
  IsFarSpot before [] = ⊥
  IsFarSpot before (s ∷ ss) = (m : Motion) × IsSpotMotion before s.by m
      × (IsFarShift m ⊎ IsFarSpot (before ++ m ∷ []) ss)

  abbrev pub IsFarCallAt : List Motion → Part → Type 0
  IsFarCallAt motions call = (m : Motion) × IsCallMotion motions call m × IsFarShift m

  -- one for each of these calls
  abbrev pub AreCallMotions : List Motion → List Part → List Motion → Type 0
  AreCallMotions motions [] [] = Unit {0}
  AreCallMotions motions (c ∷ cs) (m ∷ ms) =
      IsCallMotion motions c m × AreCallMotions motions cs ms
  AreCallMotions motions _ _ = ⊥
