-- What bounds the nets of cells, however far their names reach.
use Rattle.std.proofs.Common.{◌≡◌, ◌≤◌, ℕ, List, Option, Some, None, IfSome, IfNone, refl, le_trans, arith}
use Rattle.cell_graph.specs.Linked.{IsSound, Linked, plain}
use Rattle.geo_base.specs.Near.{IsNearRect}
use Rattle.geo_base.specs.Rects.{IsRect, moved_rect}
use Rattle.geo_base.specs.declared.shapes.Rect.{Rect}
use Rattle.net_phase.proofs.Holding as holding
use Rattle.net_phase.proofs.Righting as righting
use Rattle.net_phase.specs.Below.{AreHeldOwn, tables_seen}
use Rattle.net_phase.specs.Indexes.{IsNetReach, bound_of}
use Rattle.net_phase.specs.Own.{AreOwnLists, own_at, rect_lists}
use Rattle.net_walk.specs.Walk.{AreNearOwn, HasNoSquare, HaveArea, IsClose, IsHull, IsSpan, place_of}
use Rattle.net_walk.specs.declared.cells.Element.{Element}
use Rattle.rule_layers.proofs.Reaching.{conductor_reach, near}
use Rattle.rule_text.specs.Reaches.{MOST_REACH}
use Rattle.rule_text.specs.Rules.{Rules}
use Rattle.rule_text.specs.Sound as rules
use Rattle.view_drawing.specs.Placed.{IsPlacedView, placed_seen}
use Rattle.view_drawing.specs.declared.placed.Placed.TheInside.{Inside}

-- no conductor of sound rules reaches further than a name may
most_reach : (r : Rules) → rules.IsSound r → IsNetReach r MOST_REACH
most_reach r sound = record { all = λ c. le_trans (conductor_reach r c) (near r sound); most = omega arith }

pub held_own : (d : Linked) (r : Rules) (all : List (List (List Rect))) → IsSound d → rules.IsSound r → AreOwnLists d r all → AreHeldOwn MOST_REACH d all
held_own d r all sound good own = righting.held_own MOST_REACH d r all sound (most_reach r good) own

module _ (a : Inside) (is : IsPlacedView a) where
  most : MOST_REACH ≤ 10000
  most = omega arith

  pub near_own : AreNearOwn (tables_seen (placed_seen a))
  near_own = holding.near_own MOST_REACH most a.design.now (tables_seen (placed_seen a)) (rect_lists a.own.now) is.sound is.own (λ cell k. refl)

  pub own_area : (cell c : ℕ) → HaveArea (own_at (rect_lists a.own.now) cell c)
  own_area = holding.own_area MOST_REACH most a.design.now (tables_seen (placed_seen a)) (rect_lists a.own.now) is.sound is.own (λ cell k. refl)

  pub hull_some : (cell : ℕ) (o : Option Rect) → o ≡ bound_of MOST_REACH a.design.now cell → IfSome o (IsHull (plain a.design.now) (tables_seen (placed_seen a)) cell)
  hull_some = holding.hull_some MOST_REACH most a.design.now (tables_seen (placed_seen a)) (rect_lists a.own.now) is.sound is.own (λ cell k. refl)

  pub hull_none : (cell : ℕ) (o : Option Rect) → o ≡ bound_of MOST_REACH a.design.now cell → IfNone o (HasNoSquare (plain a.design.now) (tables_seen (placed_seen a)) cell)
  hull_none = holding.hull_none MOST_REACH most a.design.now (tables_seen (placed_seen a)) (rect_lists a.own.now) is.sound is.own (λ cell k. refl)

  pub hull_rect : (cell : ℕ) (h : Rect) → Some h ≡ bound_of MOST_REACH a.design.now cell → IsRect h
  hull_rect = holding.hull_rect MOST_REACH most a.design.now (tables_seen (placed_seen a)) (rect_lists a.own.now) is.sound is.own (λ cell k. refl)

  pub hull_near : (cell : ℕ) (h : Rect) → Some h ≡ bound_of MOST_REACH a.design.now cell → IsNearRect h
  hull_near = holding.hull_near MOST_REACH most a.design.now (tables_seen (placed_seen a)) (rect_lists a.own.now) is.sound is.own (λ cell k. refl)

  pub no_nets : (cell : ℕ) → None ≡ bound_of MOST_REACH a.design.now cell → HasNoSquare (plain a.design.now) (tables_seen (placed_seen a)) cell
  no_nets = holding.no_nets MOST_REACH most a.design.now (tables_seen (placed_seen a)) (rect_lists a.own.now) is.sound is.own (λ cell k. refl)

  pub net_span : (e : Element) (h r : Rect) → IsClose e.motion → Some h ≡ bound_of MOST_REACH a.design.now e.cell → r ≡ moved_rect e.motion h
      → IsSpan (plain a.design.now) (tables_seen (placed_seen a)) (place_of e) r
  net_span = holding.net_span MOST_REACH most a.design.now (tables_seen (placed_seen a)) (rect_lists a.own.now) is.sound is.own (λ cell k. refl)
