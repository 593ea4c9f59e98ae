-- Placed cells whose nets stand among the items of the cell that places them.
use Rattle.std.specs.Prelude.{◌↔◌, ℕ, ◌+◌, ◌≤◌, length}
use Rattle.flat_layout.specs.Layout.{Design}
use Rattle.flat_layout.specs.Nets.{AreRightBelow, Tables, items_of}
use Rattle.flat_layout.specs.Regions.{IsJoined, Wiring}
use Rattle.geo_base.specs.Near.{IsNearMotion}
use Rattle.net_link_laws.specs.Laws.{AreNetsUnder}
use Rattle.net_walk.specs.Together.{AreFirsts}
use Rattle.net_walk.specs.Walk.{IsPart, place_of}
use Rattle.net_walk.specs.declared.placed.LinkSite.{LinkSite}
use Rattle.net_walk.specs.declared.placed.Placed.{Placed}
use Rattle.net_walk.specs.declared.placed.Sight.{Sight}
use Rattle.touching_pieces.specs.Pairs.{AreJoined}

-- the nets of the cell and of those below it are right, and its own have numbers among the items
pub record HasNets (d : Design) (w : Wiring) (t : Tables) (p : Placed) : Type 0 where
  pub nets : AreNetsUnder d w t p.element.now.cell
  pub motion : IsNearMotion p.element.now.motion
  pub room : p.at + (t.nets p.element.now.cell).count ≤ 4294967296

-- and the inner window has exactly what the placement brings into the other
pub record IsSight (d : Design) (w : Wiring) (t : Tables) (s : Sight) : Type 0 where
  pub placed : HasNets d w t s.placed
  pub part : IsPart d t (place_of s.placed.element.now) s.window.now s.inner

-- links of the cell can be sought: right nets below it, where those of its placements stand, items
-- that have numbers, and what lines of the rules join
pub record IsLinkable (d : Design) (w : Wiring) (t : Tables) (s : LinkSite) : Type 0 where
  pub right : AreRightBelow d w t s.cell
  pub firsts : AreFirsts d w t s.cell s.firsts.now
  pub room : length (items_of d w t s.cell) ≤ 4294967295
  pub joins : (c e : ℕ) → AreJoined s.joins.now c e ↔ IsJoined w c e
