-- Links keep under motions, and the squares of a rectangle are joined.
use Rattle.std.proofs.Common.{◌≡◌, ◌⊎◌, inl, inr, ℕ, zero, suc, List, [], ◌∷◌, ℤ, pos, negsuc, ◌+ℤ◌, ◌-ℤ◌, ◌≤ℤ◌, ◌<ℤ◌, refl, sym, ◌∙◌, ap, arith}
use Rattle.std.proofs.lemmas.Int.{ints}
use Rattle.flat_layout.specs.Layout.{Some_of}
use Rattle.flat_layout.specs.Plane.{SharesEdge, IsNear, IsIn}
use Rattle.flat_layout.specs.Regions.{Wiring, Line, Node, At, Ground, IsJoined, Touches, moved}
use Rattle.geo_base.specs.Motions.{moved_square, turned_x, turned_y}
use Rattle.geo_base.specs.declared.motion.Motion.{Motion}
use Rattle.geo_base.specs.declared.motion.Turn.{Turn}
use Rattle.geo_base.specs.declared.motion.Turn.TheVariants.{R0, R90, R180, R270, M0, M90, M180, M270}
use Rattle.geo_base.specs.declared.shapes.Rect.{Rect}
use Rattle.geo_base.specs.declared.shapes.Square.{Square}
use Rattle.plain_netlist.specs.Chains.{Reaches}
use Rattle.plain_netlist.proofs.Links.{stays, prepend, both, back}

pub same_square : (p q : Square) → p.x ≡ q.x → p.y ≡ q.y → p ≡ q
same_square p q x y = ap (λ (v : ℤ). let s : Square = record { x = v; y = p.y } in s) x ∙ ap (λ (v : ℤ). let s : Square = record { x = q.x; y = v } in s) y

abbrev pub AreBeside : ℤ → ℤ → ℤ → ℤ → Type 0
AreBeside a b c d = ((a ≡ c) × ((b +ℤ pos 1 ≡ d) ⊎ (d +ℤ pos 1 ≡ b))) ⊎ ((b ≡ d) × ((a +ℤ pos 1 ≡ c) ⊎ (c +ℤ pos 1 ≡ a)))

pub edge_moved : (t : Turn) (a b c d u v : ℤ) → AreBeside a b c d → AreBeside (turned_x t a b +ℤ u) (turned_y t a b +ℤ v) (turned_x t c d +ℤ u) (turned_y t c d +ℤ v)
edge_moved R0 a b c d u v (inl (e, inl f)) = inl (omega (arith, ints), inl (omega (arith, ints)))
edge_moved R0 a b c d u v (inl (e, inr f)) = inl (omega (arith, ints), inr (omega (arith, ints)))
edge_moved R0 a b c d u v (inr (e, inl f)) = inr (omega (arith, ints), inl (omega (arith, ints)))
edge_moved R0 a b c d u v (inr (e, inr f)) = inr (omega (arith, ints), inr (omega (arith, ints)))
edge_moved R90 a b c d u v (inl (e, inl f)) = inr (omega (arith, ints), inr (omega (arith, ints)))
edge_moved R90 a b c d u v (inl (e, inr f)) = inr (omega (arith, ints), inl (omega (arith, ints)))
edge_moved R90 a b c d u v (inr (e, inl f)) = inl (omega (arith, ints), inl (omega (arith, ints)))
edge_moved R90 a b c d u v (inr (e, inr f)) = inl (omega (arith, ints), inr (omega (arith, ints)))
edge_moved R180 a b c d u v (inl (e, inl f)) = inl (omega (arith, ints), inr (omega (arith, ints)))
edge_moved R180 a b c d u v (inl (e, inr f)) = inl (omega (arith, ints), inl (omega (arith, ints)))
edge_moved R180 a b c d u v (inr (e, inl f)) = inr (omega (arith, ints), inr (omega (arith, ints)))
edge_moved R180 a b c d u v (inr (e, inr f)) = inr (omega (arith, ints), inl (omega (arith, ints)))
edge_moved R270 a b c d u v (inl (e, inl f)) = inr (omega (arith, ints), inl (omega (arith, ints)))
edge_moved R270 a b c d u v (inl (e, inr f)) = inr (omega (arith, ints), inr (omega (arith, ints)))
edge_moved R270 a b c d u v (inr (e, inl f)) = inl (omega (arith, ints), inr (omega (arith, ints)))
edge_moved R270 a b c d u v (inr (e, inr f)) = inl (omega (arith, ints), inl (omega (arith, ints)))
edge_moved M0 a b c d u v (inl (e, inl f)) = inl (omega (arith, ints), inr (omega (arith, ints)))
edge_moved M0 a b c d u v (inl (e, inr f)) = inl (omega (arith, ints), inl (omega (arith, ints)))
edge_moved M0 a b c d u v (inr (e, inl f)) = inr (omega (arith, ints), inl (omega (arith, ints)))
edge_moved M0 a b c d u v (inr (e, inr f)) = inr (omega (arith, ints), inr (omega (arith, ints)))
edge_moved M90 a b c d u v (inl (e, inl f)) = inr (omega (arith, ints), inl (omega (arith, ints)))
edge_moved M90 a b c d u v (inl (e, inr f)) = inr (omega (arith, ints), inr (omega (arith, ints)))
edge_moved M90 a b c d u v (inr (e, inl f)) = inl (omega (arith, ints), inl (omega (arith, ints)))
edge_moved M90 a b c d u v (inr (e, inr f)) = inl (omega (arith, ints), inr (omega (arith, ints)))
edge_moved M180 a b c d u v (inl (e, inl f)) = inl (omega (arith, ints), inl (omega (arith, ints)))
edge_moved M180 a b c d u v (inl (e, inr f)) = inl (omega (arith, ints), inr (omega (arith, ints)))
edge_moved M180 a b c d u v (inr (e, inl f)) = inr (omega (arith, ints), inr (omega (arith, ints)))
edge_moved M180 a b c d u v (inr (e, inr f)) = inr (omega (arith, ints), inl (omega (arith, ints)))
edge_moved M270 a b c d u v (inl (e, inl f)) = inr (omega (arith, ints), inr (omega (arith, ints)))
edge_moved M270 a b c d u v (inl (e, inr f)) = inr (omega (arith, ints), inl (omega (arith, ints)))
edge_moved M270 a b c d u v (inr (e, inl f)) = inl (omega (arith, ints), inr (omega (arith, ints)))
edge_moved M270 a b c d u v (inr (e, inr f)) = inl (omega (arith, ints), inl (omega (arith, ints)))

pub near_moved : (m : Motion) (p q : Square) → IsNear p q → IsNear (moved_square m p) (moved_square m q)
near_moved m p q (inl e) = inl (ap (moved_square m) e)
near_moved m p q (inr h) = inr (edge_moved m.turn p.x p.y q.x q.y m.dx m.dy h)

pub touch_moved : (w : Wiring) (m : Motion) (a b : Node) → Touches w a b → Touches w (moved m a) (moved m b)
touch_moved w m (At c p) (At e q) h = (h.0, near_moved m p q h.1)
touch_moved w m (At c p) (Ground g) h = h
touch_moved w m (Ground g) (At c p) h = h
touch_moved w m (Ground g) (Ground k) h = h

pub edge_back : (p q : Square) → SharesEdge p q → SharesEdge q p
edge_back p q (inl (e, inl f)) = inl (sym e, inr f)
edge_back p q (inl (e, inr f)) = inl (sym e, inl f)
edge_back p q (inr (e, inl f)) = inr (sym e, inr f)
edge_back p q (inr (e, inr f)) = inr (sym e, inl f)

pub near_back : (p q : Square) → IsNear p q → IsNear q p
near_back p q (inl e) = inl (sym e)
near_back p q (inr h) = inr (edge_back p q h)

some_map : {A : Type 0} (P Q : A → Type 0) → ((a : A) → P a → Q a) → (xs : List A) → Some_of P xs → Some_of Q xs
some_map P Q f [] h = h
some_map P Q f (x ∷ xs) (inl h) = inl (f x h)
some_map P Q f (x ∷ xs) (inr h) = inr (some_map P Q f xs h)

either_way : (c e : ℕ) (l : Line) → ((l.first ≡ c) × (l.second ≡ e)) ⊎ ((l.first ≡ e) × (l.second ≡ c)) → ((l.first ≡ e) × (l.second ≡ c)) ⊎ ((l.first ≡ c) × (l.second ≡ e))
either_way c e l (inl h) = inr h
either_way c e l (inr h) = inl h

joined_back : (w : Wiring) (c e : ℕ) → IsJoined w c e → IsJoined w e c
joined_back w c e (inl h) = inl (sym h)
joined_back w c e (inr h) = inr (some_map _ _ (either_way c e) w.joins h)

pub touch_back : (w : Wiring) (a b : Node) → Touches w a b → Touches w b a
touch_back w (At c p) (At e q) h = (joined_back w c e h.0, near_back p q h.1)
touch_back w (At c p) (Ground g) h = h
touch_back w (Ground g) (At c p) h = h
touch_back w (Ground g) (Ground k) h = sym h

pub touch_same : (w : Wiring) (a : Node) → Touches w a a
touch_same w (At c p) = (inl refl, inl refl)
touch_same w (Ground g) = refl

gap : (a b z : ℤ) → b -ℤ a ≡ z → (n : ℕ) × ((a +ℤ pos n ≡ b) ⊎ (b +ℤ pos n ≡ a))
gap a b (pos n) e = (n, inl (omega (arith, ints)))
gap a b (negsuc n) e = (suc n, inr (omega (arith, ints)))

module _ {A : Type 0} (R : A → A → Type 0) (f : Square → A) (r : Rect) (turn : (a b : A) → R a b → R b a) (link : (p q : Square) → IsIn p r → IsIn q r → SharesEdge p q → R (f p) (f q)) where
  walk_x : (n : ℕ) (p q : Square) → p.y ≡ q.y → p.x +ℤ pos n ≡ q.x → IsIn p r → IsIn q r → Reaches R (f p) (f q)
  walk_x zero p q y x h g = let e : p.x ≡ q.x = omega (arith, ints) in stays R (f p) (f q) (ap f (same_square p q e y))
  walk_x (suc n) p q y x h g =
      let m : Square = record { x = p.x +ℤ pos 1; y = p.y } in
      let next : (p.x +ℤ pos 1) +ℤ pos n ≡ q.x = omega (arith, ints) in
      let right : (p.x +ℤ pos 1) <ℤ r.x2 = omega (arith, ints) in
      let left : r.x1 ≤ℤ (p.x +ℤ pos 1) = omega (arith, ints) in
      let here : IsIn m r = (left, right, h.2, h.3) in
      prepend R (f p) (f m) (f q) (link p m h here (inr (refl, inl refl))) (walk_x n m q y next here g)

  walk_y : (n : ℕ) (p q : Square) → p.x ≡ q.x → p.y +ℤ pos n ≡ q.y → IsIn p r → IsIn q r → Reaches R (f p) (f q)
  walk_y zero p q x y h g = let e : p.y ≡ q.y = omega (arith, ints) in stays R (f p) (f q) (ap f (same_square p q x e))
  walk_y (suc n) p q x y h g =
      let m : Square = record { x = p.x; y = p.y +ℤ pos 1 } in
      let next : (p.y +ℤ pos 1) +ℤ pos n ≡ q.y = omega (arith, ints) in
      let above : (p.y +ℤ pos 1) <ℤ r.y2 = omega (arith, ints) in
      let low : r.y1 ≤ℤ (p.y +ℤ pos 1) = omega (arith, ints) in
      let here : IsIn m r = (h.0, h.1, low, above) in
      prepend R (f p) (f m) (f q) (link p m h here (inl (refl, inl refl))) (walk_y n m q x next here g)

  row : (p q : Square) → p.y ≡ q.y → IsIn p r → IsIn q r → Reaches R (f p) (f q)
  row p q y h g =
      let way = gap p.x q.x (q.x -ℤ p.x) refl in
      elim way.1 [
        | inl e ↦ walk_x way.0 p q y e h g
        | inr e ↦ back R turn (f q) (f p) (walk_x way.0 q p (sym y) e g h)
      ]

  column : (p q : Square) → p.x ≡ q.x → IsIn p r → IsIn q r → Reaches R (f p) (f q)
  column p q x h g =
      let way = gap p.y q.y (q.y -ℤ p.y) refl in
      elim way.1 [
        | inl e ↦ walk_y way.0 p q x e h g
        | inr e ↦ back R turn (f q) (f p) (walk_y way.0 q p (sym x) e g h)
      ]

  -- the squares of a rectangle are joined
  pub across : (p q : Square) → IsIn p r → IsIn q r → Reaches R (f p) (f q)
  across p q h g =
      let corner : Square = record { x = q.x; y = p.y } in
      let here : IsIn corner r = (g.0, g.1, h.2, h.3) in
      both R (f p) (f corner) (f q) (row p corner refl h here) (column corner q refl here g)
