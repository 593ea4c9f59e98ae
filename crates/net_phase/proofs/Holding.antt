-- What a view of the cells below holds.
use Rattle.std.proofs.Common.{◌≡◌, ℕ, zero, suc, ◌≤◌, ◌^◌, ℤ, pos, true, ◌+ℤ◌, ◌-ℤ◌, ◌≤ℤ◌, List, [], ◌∷◌, Option, Some, None, IfSome, IfNone, slice_get, refl, sym, ◌∙◌, ap, subst, arith}
use Rattle.std.proofs.lemmas.Int.{clamps, ints}
use Rattle.std.specs.Int.{int_max, int_min}
use Rattle.cell_context.proofs.Collecting.{hull_has, no_hull}
use Rattle.cell_graph.proofs.Bridge.{has_in, hull_sound, step_of}
use Rattle.cell_graph.proofs.Growing.{grown_frame, grown_up}
use Rattle.cell_graph.specs.Grown.{IsInGrown}
use Rattle.geo_base.specs.Rects.{grown, IsRect, has, moved_rect}
use Rattle.cell_graph.specs.Linked.{HullHas, HullIsSound, IsFrame, IsRectWithin, IsSound, Linked, cell_at, hull_of, motion_at, plain}
use Rattle.flat_layout.specs.Layout.{IsPlaced, Place}
use Rattle.flat_layout.specs.Nets.{Child, Global, HoldsAt, Item, NetHolds, Own, Tables}
use Rattle.flat_layout.specs.Plane.{IsIn}
use Rattle.flat_layout.specs.Regions.{At, Ground}
use Rattle.geo_base.proofs.Spans.{moved_rect-IsRect, moved_rect-has}
use Rattle.geo_base.specs.Motions.{moved_square, turned}
use Rattle.geo_base.specs.declared.motion.Turn.{Turn}
use Rattle.geo_base.specs.declared.motion.Turn.TheVariants.{R0, R90, R180, R270, M0, M90, M180, M270}
use Rattle.geo_base.specs.Near.{IsNearMotion, IsNearRect, IsWithin}
use Rattle.geo_base.specs.declared.motion.Motion.{Motion}
use Rattle.geo_base.specs.declared.shapes.Point.{Point}
use Rattle.geo_base.specs.declared.shapes.Rect.{Rect}
use Rattle.geo_base.specs.declared.shapes.Square.{Square}
use Rattle.net_walk.proofs.Insides.{all_in, in_of}
use Rattle.net_walk.specs.Walk.{AreNearOwn, HasNoSquare, HaveArea, IsClose, IsHull as IsNetHull, IsInside, IsSpan, place_of}
use Rattle.net_walk.specs.declared.cells.Element.{Element}
use Rattle.net_phase.specs.Below.{AreHeldOwn}
use Rattle.net_phase.specs.Indexes.{bound_by, bound_of, span_by, span_of}
use Rattle.net_phase.specs.Own.{own_at}

negated : (z : ℤ) → IsWithin (2 ^ 37) z → IsWithin (2 ^ 37) (pos 0 -ℤ z)
negated z h = let l = h.low in let g = h.high in record { low = omega (arith, ints); high = omega (arith, ints) }

turned_near : (t : Turn) (p : Point) → IsWithin (2 ^ 37) p.x → IsWithin (2 ^ 37) p.y → IsWithin (2 ^ 37) (turned t p).x × IsWithin (2 ^ 37) (turned t p).y
turned_near R0 p x y = (x, y)
turned_near R90 p x y = (negated _ y, x)
turned_near R180 p x y = (negated _ x, negated _ y)
turned_near R270 p x y = (negated _ (negated _ y), negated _ x)
turned_near M0 p x y = (x, negated _ y)
turned_near M90 p x y = (negated _ (negated _ y), x)
turned_near M180 p x y = (negated _ x, negated _ (negated _ y))
turned_near M270 p x y = (negated _ (negated _ (negated _ y)), negated _ x)

low_near : (a b d : ℤ) → IsWithin (2 ^ 37) a → IsWithin (2 ^ 37) b → IsWithin (2 ^ 39) d → IsWithin (2 ^ 40) (int_min (a +ℤ d) (b +ℤ d) -ℤ pos 1)
low_near a b d h k g =
    let hl = h.low in let hh = h.high in let kl = k.low in let kh = k.high in let gl = g.low in let gh = g.high in
    record { low = omega (arith, ints, clamps); high = omega (arith, ints, clamps) }

high_near : (a b d : ℤ) → IsWithin (2 ^ 37) a → IsWithin (2 ^ 37) b → IsWithin (2 ^ 39) d → IsWithin (2 ^ 40) (int_max (a +ℤ d) (b +ℤ d) +ℤ pos 1)
high_near a b d h k g =
    let hl = h.low in let hh = h.high in let kl = k.low in let kh = k.high in let gl = g.low in let gh = g.high in
    record { low = omega (arith, ints, clamps); high = omega (arith, ints, clamps) }

-- the image of a bound is near
span_near : (m : Motion) (h : Rect) → IsClose m → IsRectWithin (2 ^ 37) h → IsNearRect (grown 1 (moved_rect m h))
span_near m h close near =
    let low : Point = record { x = h.x1; y = h.y1 } in
    let high : Point = record { x = h.x2; y = h.y2 } in
    let a = turned m.turn low in
    let b = turned m.turn high in
    let n = turned_near m.turn low near.x1 near.y1 in
    let o = turned_near m.turn high near.x2 near.y2 in
    record { x1 = low_near a.x b.x m.dx n.0 o.0 close.dx; y1 = low_near a.y b.y m.dy n.1 o.1 close.dy; x2 = high_near a.x b.x m.dx n.0 o.0 close.dx; y2 = high_near a.y b.y m.dy n.1 o.1 close.dy }

pub near_of : (m : Motion) → IsClose m → IsNearMotion m
near_of m close = record { dx = wide m.dx close.dx; dy = wide m.dy close.dy }
  where
    wide : (z : ℤ) → IsWithin (2 ^ 39) z → IsWithin (2 ^ 40) z
    wide z w = let l = w.low in let u = w.high in record { low = omega (arith, ints); high = omega (arith, ints) }

pub have_area : (l : List Rect) → ((r : ℕ) (o : Rect) → slice_get l r ≡ Some o → IsRect o) → HaveArea l
have_area [] f = tt
have_area (o ∷ l) f = (f 0 o refl, have_area l (λ r p h. f (suc r) p h))

near_frame : (h : Rect) → IsFrame h → IsNearRect h
near_frame h is =
    let n = is.near in
    record { x1 = wide h.x1 n.x1; y1 = wide h.y1 n.y1; x2 = wide h.x2 n.x2; y2 = wide h.y2 n.y2 }
  where
    wide : (z : ℤ) → IsWithin (2 ^ 37) z → IsWithin (2 ^ 40) z
    wide z w = let l = w.low in let u = w.high in record { low = omega (arith, ints); high = omega (arith, ints) }

-- what bounds a cell's nets is the grown 1 hull
pub to_bound : (n : ℕ) (o : Option Rect) (q : Square) → IsInGrown n o q → HullHas (bound_by n o) q
to_bound n None q h = h
to_bound n (Some r) q h = h

of_bound : (n : ℕ) (o : Option Rect) (q : Square) → HullHas (bound_by n o) q → IsInGrown n o q
of_bound n None q h = h
of_bound n (Some r) q h = h

bound_frame : (n : ℕ) (o : Option Rect) (h : Rect) → n ≤ 10000 → HullIsSound o → Some h ≡ bound_by n o → IsFrame h
bound_frame n None h most sound e = absurd (let z : ⊥ = cc in z)
bound_frame n (Some r) h most sound e =
    let same : grown n r ≡ h = (let f : Some h ≡ Some (grown n r) = e in cc) in
    subst IsFrame same (grown_frame n r (omega (arith, most)) sound)

pub bound_is : (n : ℕ) (d : Linked) (cell : ℕ) (h : Rect) → n ≤ 10000 → IsSound d → Some h ≡ bound_of n d cell → IsFrame h
bound_is n d cell h most sound e = bound_frame n (hull_of (cell_at d cell)) h most (hull_sound d cell sound) e

pub bound_is_near : (n : ℕ) (d : Linked) (cell : ℕ) (h : Rect) → n ≤ 10000 → IsSound d → Some h ≡ bound_of n d cell → IsNearRect h
bound_is_near n d cell h most sound e = near_frame h (bound_is n d cell h most sound e)

abbrev FrameIsSound : Option Rect → Type 0
FrameIsSound None = Unit {0}
FrameIsSound (Some h) = IsFrame h

bound_sound : (n : ℕ) (o : Option Rect) → n ≤ 10000 → HullIsSound o → FrameIsSound (bound_by n o)
bound_sound n None most sound = tt
bound_sound n (Some r) most sound = grown_frame n r (omega (arith, most)) sound

module _ (n : ℕ) (most : n ≤ 10000) (d : Linked) (t : Tables) (all : List (List (List Rect))) (sound : IsSound d) (held : AreHeldOwn n d all) (same : (cell c : ℕ) → t.own cell c ≡ own_at all cell c) where
  up : (cell k : ℕ) (p : Place) (s q : Square) → IsPlaced (plain d) cell k p → moved_square p.motion s ≡ q → HullHas (bound_of n d p.cell) s → HullHas (bound_of n d cell) q
  up cell k p s q placed e h =
      let st = step_of d cell k p placed in
      let there : IsInGrown n (hull_of (cell_at d st.from.cell)) s = subst (λ (x : Place). IsInGrown n (hull_of (cell_at d x.cell)) s) st.is (of_bound n (hull_of (cell_at d p.cell)) s h) in
      let up_there = grown_up n d cell st.index st.row st.column st.from s sound st.step there in
      let at : moved_square (motion_at st.from st.row st.column) s ≡ q = ap (λ (x : Place). moved_square x.motion s) (sym st.is) ∙ e in
      to_bound n (hull_of (cell_at d cell)) q (subst (λ x. IsInGrown n (hull_of (cell_at d cell)) x) at up_there)

  in_hull : (depth cell : ℕ) (item : Item) (c : ℕ) (q : Square) → HoldsAt (plain d) t depth cell item (At c q) → HullHas (bound_of n d cell) q
  in_hull zero cell (Own e r) c q (s, rect, at, inside, is) =
      let square : s ≡ q = (let f : At e s ≡ At c q = is in cc) in
      let listed : slice_get (own_at all cell e) r ≡ Some rect = subst (λ (l : List Rect). slice_get l r ≡ Some rect) (same cell e) at in
      held.held cell e r rect q listed (subst (λ v. IsIn v rect) square inside)
  in_hull zero cell (Child k b) c q h = absurd h
  in_hull zero cell (Global g) c q h = absurd (let f : Ground g ≡ At c q = h in let z : ⊥ = cc in z)
  in_hull (suc m) cell (Own e r) c q h = absurd h
  in_hull (suc m) cell (Child k b) c q (p, placed, i, item, is, At e s, holds, image) =
      let square : moved_square p.motion s ≡ q = (let f : At e (moved_square p.motion s) ≡ At c q = image in cc) in
      up cell k p s q placed square (in_hull m p.cell item e s holds)
  in_hull (suc m) cell (Child k b) c q (p, placed, i, item, is, Ground g, holds, image) = absurd (let f : Ground g ≡ At c q = image in let z : ⊥ = cc in z)
  in_hull (suc m) cell (Global g) c q h = absurd h

  pub nets_in_hull : (cell c x : ℕ) (q : Square) → NetHolds (plain d) t cell x (At c q) → HullHas (bound_of n d cell) q
  nets_in_hull cell c x q h = in_hull h.holds.depth cell h.item c q h.holds.holds

  bound_at : (cell : ℕ) (h : Rect) → Some h ≡ bound_of n d cell → IsFrame h
  bound_at cell h e = bound_is n d cell h most sound e

  -- the hull of a cell, by what bounds its nets
  pub net_hull : (cell : ℕ) (h : Rect) → Some h ≡ bound_of n d cell → IsNetHull (plain d) t cell h
  net_hull cell h e = record {
    rect = (bound_at cell h e).some;
    near = near_frame h (bound_at cell h e);
    all = λ c x q o. has_in h q (hull_has (bound_of n d cell) h q e (nets_in_hull cell c x q o));
  }

  pub no_nets : (cell : ℕ) → None ≡ bound_of n d cell → HasNoSquare (plain d) t cell
  no_nets cell e c x q h = no_hull (bound_of n d cell) q e (nets_in_hull cell c x q h)

  pub hull_some : (cell : ℕ) (o : Option Rect) → o ≡ bound_of n d cell → IfSome o (IsNetHull (plain d) t cell)
  hull_some cell None e = tt
  hull_some cell (Some h) e = net_hull cell h e

  pub hull_none : (cell : ℕ) (o : Option Rect) → o ≡ bound_of n d cell → IfNone o (HasNoSquare (plain d) t cell)
  hull_none cell None e = no_nets cell e
  hull_none cell (Some h) e = tt

  pub hull_rect : (cell : ℕ) (h : Rect) → Some h ≡ bound_of n d cell → IsRect h
  hull_rect cell h e = (bound_at cell h e).some

  pub hull_near : (cell : ℕ) (h : Rect) → Some h ≡ bound_of n d cell → IsNearRect h
  hull_near cell h e = near_frame h (bound_at cell h e)

  -- and of a placed cell
  pub net_span : (e : Element) (h r : Rect) → IsClose e.motion → Some h ≡ bound_of n d e.cell → r ≡ moved_rect e.motion h → IsSpan (plain d) t (place_of e) r
  net_span e h r close there is =
      let good = bound_at e.cell h there in
      subst (λ x. IsSpan (plain d) t (place_of e) x) (sym is) (record {
        rect = moved_rect-IsRect e.motion h good.some;
        near = span_near e.motion h close good.near;
        all = λ c x q o. has_in (moved_rect e.motion h) (moved_square e.motion q) (moved_rect-has e.motion h q good.some ∙ hull_has (bound_of n d e.cell) h q there (nets_in_hull e.cell c x q o));
      })

  -- what bounds a placement has all that its nets bring there
  pub span_has : (e : Element) (c x : ℕ) (m : Square) → NetHolds (plain d) t e.cell x (At c m) → has (span_of n d e) (moved_square e.motion m) ≡ true
  span_has e c x m o = by_hull (bound_of n d e.cell) refl
    where
      by_hull : (o : Option Rect) → o ≡ bound_of n d e.cell → has (span_by e o) (moved_square e.motion m) ≡ true
      by_hull None h = absurd (no_nets e.cell h c x m o)
      by_hull (Some r) h = moved_rect-has e.motion r m (bound_at e.cell r h).some ∙ hull_has (bound_of n d e.cell) r m h (nets_in_hull e.cell c x m o)

  pub own_area : (cell c : ℕ) → HaveArea (own_at all cell c)
  own_area cell c = have_area (own_at all cell c) (held.some cell c)

  -- own rectangles are near
  pub near_own : AreNearOwn t
  near_own = record {
    rect = λ cell c r o e. held.some cell c r o (subst (λ (l : List Rect). slice_get l r ≡ Some o) (same cell c) e);
    near = λ cell c r o e.
        let listed = subst (λ (l : List Rect). slice_get l r ≡ Some o) (same cell c) e in
        let some = held.some cell c r o listed in
        by_hull (bound_of n d cell) o some (bound_sound n (hull_of (cell_at d cell)) most (hull_sound d cell sound)) (λ q i. held.held cell c r o q listed i);
  }
    where
      grown_near : (z : ℤ) → IsWithin (2 ^ 37) z → IsWithin (2 ^ 40) (z -ℤ pos 1)
      grown_near z w = let l = w.low in let u = w.high in record { low = omega (arith, ints); high = omega (arith, ints) }

      grown_up : (z : ℤ) → IsWithin (2 ^ 37) z → IsWithin (2 ^ 40) (z +ℤ pos 1)
      grown_up z w = let l = w.low in let u = w.high in record { low = omega (arith, ints); high = omega (arith, ints) }

      between : (a b z : ℤ) → a ≤ℤ z → z ≤ℤ b → IsWithin (2 ^ 37) a → IsWithin (2 ^ 37) b → IsWithin (2 ^ 37) z
      between a b z lo hi wa wb = let l = wa.low in let u = wb.high in record { low = omega (arith, ints); high = omega (arith, ints) }

      by_hull : (hull : Option Rect) (o : Rect) → IsRect o → FrameIsSound hull → ((q : Square) → IsIn q o → HullHas hull q) → IsNearRect (grown 1 o)
      by_hull None o some s f =
          let a = some.wide in let b = some.high in
          absurd (f (record { x = o.x1; y = o.y1 }) (omega (arith, ints), omega (arith, ints), omega (arith, ints), omega (arith, ints)))
      by_hull (Some h) o some s f =
          let inside : IsInside o h = all_in o h some (λ q i. in_of h q (f q i)) in
          let a = some.wide in let b = some.high in
          let x1 = inside.x1 in let x2 = inside.x2 in let y1 = inside.y1 in let y2 = inside.y2 in
          let nx1 = between h.x1 h.x2 o.x1 x1 (omega (arith, ints)) s.near.x1 s.near.x2 in
          let nx2 = between h.x1 h.x2 o.x2 (omega (arith, ints)) x2 s.near.x1 s.near.x2 in
          let ny1 = between h.y1 h.y2 o.y1 y1 (omega (arith, ints)) s.near.y1 s.near.y2 in
          let ny2 = between h.y1 h.y2 o.y2 (omega (arith, ints)) y2 s.near.y1 s.near.y2 in
          record { x1 = grown_near o.x1 nx1; y1 = grown_near o.y1 ny1; x2 = grown_up o.x2 nx2; y2 = grown_up o.y2 ny2 }
