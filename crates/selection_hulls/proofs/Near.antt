-- What a design has on its selections' layers lies near the hulls of what was drawn.
use Rattle.std.proofs.Common.{◌≡◌, inl, inr, ℕ, suc, ◌+◌, ◌*◌, ◌≤◌, true, List, [], ◌∷◌, length, Option, Some, None, slice_get, refl, sym, ◌∙◌, ap, subst, arith}
use Rattle.std.proofs.lemmas.Int.{ints}
use Rattle.geo_base.specs.Motions.{moved_square}
use Rattle.geo_base.specs.Rects.{grown, has}
use Rattle.geo_base.specs.declared.layer.LayerKey.{LayerKey}
use Rattle.geo_base.specs.declared.shapes.Rect.{Rect}
use Rattle.geo_base.specs.declared.shapes.Square.{Square}
use Rattle.flat_layout.specs.Layers.{Formula, InFlat, reach}
use Rattle.flat_layout.specs.Layout as flat
use Rattle.flat_layout.specs.Layout.{IsOwn, IsPlaced, IsReached, Takes}
use Rattle.flat_layout.specs.Plane.{AreWithin}
use Rattle.flat_laws.proofs.Cover.{reached_below}
use Rattle.flat_laws.proofs.Moves.{wider}
use Rattle.flat_laws.proofs.Names.{near_input}
use Rattle.cell_graph.specs.Grown.{IsInGrown}
use Rattle.cell_graph.specs.Linked.{IsSound, Linked, cell_at, hull_of, motion_at, plain}
use Rattle.cell_graph.proofs.Bridge.{has_in, hulls, in_has, key_is, key_other, key_same, step_of}
use Rattle.cell_graph.proofs.Growing.{grown_none, grown_up, wider_grown}
use Rattle.rule_text.specs.Reaches.{MOST_REACH}
use Rattle.select_laws.specs.Layered.{IsLayered}
use Rattle.select_laws.specs.Selects.{Select}
use Rattle.select_laws.specs.Staged.{IsStaged, Stage}
use Rattle.select_laws.proofs.Grouped.{reached_to, turned}

-- a square within n of one of a grown hull lies in the hull grown by so much more
farther_rect : (m n : ℕ) (r : Rect) (q s : Square) → has (grown m r) s ≡ true → AreWithin n s q → has (grown (m + n) r) q ≡ true
farther_rect m n r q s h a =
    let i = has_in (grown m r) s h in let i0 = i.0 in let i1 = i.1 in let i2 = i.2 in let i3 = i.3 in
    let l = a.left in let t = a.right in let b = a.low in let u = a.high in
    in_has (grown (m + n) r) q ((omega (arith, ints)), (omega (arith, ints)), (omega (arith, ints)), (omega (arith, ints)))

farther_grown : (m n : ℕ) (o : Option Rect) (q s : Square) → IsInGrown m o s → AreWithin n s q → IsInGrown (m + n) o q
farther_grown m n None q s h a = h
farther_grown m n (Some r) q s h a = farther_rect m n r q s h a

-- the names that these selections ask reach no further than names may
abbrev pub AreShort : List Stage → Type 0
AreShort ss = (i : ℕ) (s : Stage) → slice_get ss i ≡ Some s → reach s.select.region ≤ MOST_REACH

-- a design with the drawn one's placements, whose cells' own squares lie within n of their drawn
-- hulls
pub record IsHeld (d : Linked) (n : ℕ) (m : flat.Design) : Type 0 where
  pub placed : (cell k : ℕ) (p : flat.Place) → IsPlaced m cell k p → IsPlaced (plain d) cell k p
  pub reached : (cell : ℕ) → IsReached (plain d) cell → IsReached m cell
  pub own : (cell : ℕ) (key : LayerKey) (q : Square) → IsReached (plain d) cell → IsOwn m cell key q → IsInGrown n (hull_of (cell_at d cell)) q

module _ (d : Linked) (sound : IsSound d) where
  pub held_along : (n : ℕ) (m : flat.Design) → IsHeld d n m → (path : List ℕ) (cell end : ℕ) (key : LayerKey) (s q : Square) → IsReached (plain d) cell → Takes m cell path end s q → IsOwn m end key s
      → IsInGrown n (hull_of (cell_at d cell)) q
  held_along n m h [] cell end key s q reached takes own =
      subst (λ (z : Square). IsInGrown n (hull_of (cell_at d cell)) z) takes.1 (h.own cell key s reached (subst (λ (c : ℕ). IsOwn m c key s) (sym takes.0) own))
  held_along n m h (k ∷ ks) cell end key s q reached (p, placed, r, rest, e) own =
      let below = h.placed cell k p placed in
      let there = held_along n m h ks p.cell end key s r (reached_below (plain d) cell k p reached below) rest own in
      let t = step_of d cell k p below in
      let inner : IsInGrown n (hull_of (cell_at d t.from.cell)) r = subst (λ (x : flat.Place). IsInGrown n (hull_of (cell_at d x.cell)) r) t.is there in
      let up = grown_up n d cell t.index t.row t.column t.from r sound t.step inner in
      let at : moved_square (motion_at t.from t.row t.column) r ≡ q = ap (λ (x : flat.Place). moved_square x.motion r) (sym t.is) ∙ e in
      subst (λ (x : Square). IsInGrown n (hull_of (cell_at d cell)) x) at up

  -- the squares of a name lie no further than its reach from those of layers
  pub name_held : (n : ℕ) (m : flat.Design) → IsHeld d n m → (cell : ℕ) (name : Formula) (q : Square) → IsReached (plain d) cell → reach name ≤ MOST_REACH → InFlat m cell name q
      → IsInGrown (n + MOST_REACH) (hull_of (cell_at d cell)) q
  name_held n m h cell name q reached most f =
      let u = near_input m cell name q f in
      let there = held_along n m h u.4.path cell u.4.end u.0 u.4.square u.2 reached u.4.takes u.4.own in
      farther_grown n MOST_REACH (hull_of (cell_at d cell)) q u.2 there (wider (reach name) MOST_REACH u.2 q most u.3)

  -- what was drawn itself
  pub drawn_held : IsHeld d 0 (plain d)
  drawn_held = record {
    placed = λ cell k p h. h;
    reached = λ cell h. h;
    own = λ cell key q reached own. (grown_none (hull_of (cell_at d cell)) q).1 (hulls d sound cell key q (record { path = []; end = cell; square = q; takes = (refl, refl); own = own }));
  }

  -- with one selection more
  layered_held : (n : ℕ) (a b : flat.Design) (key : LayerKey) (x : Select) → IsHeld d n a → IsLayered a b key x → reach x.region ≤ MOST_REACH → IsHeld d (n + MOST_REACH) b
  layered_held n a b key x h made most = record {
    placed = λ cell k p placed. h.placed cell k p ((made.same.places cell k p).0 placed);
    reached = λ cell there. reached_to b a key (turned a b key made.same) cell (h.reached cell there);
    own = λ cell other q there own. elim (key_is other key) [
      | inl e ↦
          let chosen = (made.new cell q (h.reached cell there)).0 (subst (λ (k : LayerKey). IsOwn b cell k q) (key_same other key e) own) in
          name_held n a h cell x.region q there most chosen.own.whole.is
      | inr e ↦ wider_grown n (n + MOST_REACH) (hull_of (cell_at d cell)) q (omega arith) (h.own cell other q there ((made.same.own cell other q (key_other other key e)).0 own))
    ];
  }

  -- and with all of them
  pub staged_held : (n k : ℕ) (ss : List Stage) (a e : flat.Design) → k ≡ n + length ss * MOST_REACH → IsHeld d n a → AreShort ss → IsStaged a ss e → IsHeld d k e
  staged_held n k [] a e is h short st =
      let same : n ≡ k = omega (arith, is) in
      subst (λ (x : flat.Design). IsHeld d k x) st (subst (λ i. IsHeld d i a) same h)
  staged_held n k (s ∷ ss) a e is h short (m, made, parted, rest) =
      let on = layered_held n a m s.key s.select h made (short 0 s refl) in
      staged_held (n + MOST_REACH) k ss m e (omega (arith, is)) on (λ i t at. short (suc i) t at) rest
