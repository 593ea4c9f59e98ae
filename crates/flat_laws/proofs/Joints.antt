-- What joins squares is kept by motions, holds both ways and lies around; so a set's regions are
-- classes of its squares.
use Rattle.std.proofs.Common.{◌↔◌, List, [], ◌∷◌, refl, subst}
use Rattle.flat_layout.specs.Parts.{Joint, Edges, Corners, IsJoint, AreAdjacent, InRegion}
use Rattle.flat_layout.specs.Plane.{IsAround}
use Rattle.geo_base.specs.Motions.{moved_square}
use Rattle.geo_base.specs.declared.motion.Motion.{Motion}
use Rattle.geo_base.specs.declared.shapes.Square.{Square}
use Rattle.plain_netlist.specs.Chains.{IsChain}
use Rattle.plain_netlist.proofs.Links.{stays, single, both, back}
use Rattle.flat_laws.proofs.Moves.{edges, arounds, edge_around, within_back}
use Rattle.flat_laws.proofs.Squares.{edge_back}

pub joints : (j : Joint) (m : Motion) (p q : Square) → IsJoint j (moved_square m p) (moved_square m q) ↔ IsJoint j p q
joints Edges m p q = edges m p q
joints Corners m p q = arounds m p q

pub joint_around : (j : Joint) (p q : Square) → IsJoint j p q → IsAround p q
joint_around Edges p q h = edge_around p q h
joint_around Corners p q h = h

pub joint_back : (j : Joint) (p q : Square) → IsJoint j p q → IsJoint j q p
joint_back Edges p q h = edge_back p q h
joint_back Corners p q h = within_back 1 p q h

module _ (j : Joint) (set : Square → Type 0) where
  pub adjacent_back : (a b : Square) → AreAdjacent j set a b → AreAdjacent j set b a
  adjacent_back a b h = record { from = h.to; to = h.from; edge = joint_back j a b h.edge }

  -- a chain that begins in the set stays in it
  pub last_in : (a b : Square) (via : List Square) → set a → IsChain (AreAdjacent j set) a via b → set b
  last_in a b [] h chain = subst (λ x. set x) chain h
  last_in a b (x ∷ xs) h chain = last_in x b xs chain.0.to chain.1

  pub region_has : (s q : Square) → InRegion j set s q → set q
  region_has s q h = last_in s q h.joined.via h.from h.joined.chain

  pub region_back : (s q : Square) → InRegion j set s q → InRegion j set q s
  region_back s q h = record { from = region_has s q h; joined = back (AreAdjacent j set) adjacent_back s q h.joined }

  pub region_on : (s q r : Square) → InRegion j set s q → InRegion j set q r → InRegion j set s r
  region_on s q r h i = record { from = h.from; joined = both (AreAdjacent j set) s q r h.joined i.joined }

  pub region_between : (s q r : Square) → InRegion j set s q → InRegion j set s r → InRegion j set q r
  region_between s q r h i = region_on q s r (region_back s q h) i

  pub region_self : (s : Square) → set s → InRegion j set s s
  region_self s h = record { from = h; joined = stays (AreAdjacent j set) s s refl }

  pub region_next : (s a x : Square) → InRegion j set s a → AreAdjacent j set a x → InRegion j set s x
  region_next s a x h step = record { from = h.from; joined = both (AreAdjacent j set) s a x h.joined (single (AreAdjacent j set) a x step) }
