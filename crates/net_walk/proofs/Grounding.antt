-- Links to globals.
use Rattle.std.proofs.Common.{◌≡◌, ◌⊎◌, ◌↔◌, inl, inr, ℕ, zero, suc, ◌+◌, ◌-◌, ◌<◌, ◌≤◌, List, [], ◌∷◌, ◌++◌, Some, slice_get, get_or, length, take, refl, sym, ◌∙◌, ap, subst, arith}
use Rattle.std.proofs.Math.Decide.{ℕ_discrete}
use Rattle.std.proofs.Math.Seq.{take-length}
use Rattle.std.proofs.lemmas.List.{take_more}
use Rattle.std.proofs.lemmas.Option.{slice_get_within, slice_get-get_or}
use Rattle.flat_laws.proofs.Items.{at_placed, is_item as is_an_item, placed_at}
use Rattle.flat_laws.proofs.Paths.{same_place}
use Rattle.flat_layout.specs.Layout.{Design, Place, IsPlaced}
use Rattle.flat_layout.specs.Nets.{Item, Own, Child, Global, Tables, AreNets, IsItem, IsOf, items_of}
use Rattle.flat_layout.specs.Regions.{Wiring, IsGrounded}
use Rattle.link_classes.specs.Classes.{IsLinked, IsOf as IsEnds}
use Rattle.link_classes.specs.declared.classes.Link.{Link}
use Rattle.net_link_laws.proofs.Held.{one_net}
use Rattle.net_link_laws.proofs.Numbering.{one_place, apart_items}
use Rattle.net_link_laws.proofs.Standing.{own_place, child_place, global_place, items_long}
use Rattle.net_link_laws.specs.Found.{IsOnGlobal, Stands}
use Rattle.net_link_laws.specs.Places.{owned_before, nets_before, places_of}
use Rattle.plain_netlist.proofs.Members.{listed}
use Rattle.net_walk.proofs.Spanning.{linked_cut}
use Rattle.net_walk.proofs.Walking.{owned_step}
use Rattle.net_walk.specs.Globals.{AddsToGlobals, IsAny, IsByFirst, IsByLine, IsByLines, IsGlobalPair, IsGroundedBy, IsOfFirst, IsOfPlacement, IsOfPlacements, globals_at}
use Rattle.net_walk.specs.Pairs.{first_of}
use Rattle.net_walk.specs.declared.globals.Grounded.{Grounded}

linked_last : (ls : List Link) (l : Link) (i j : ℕ) → IsEnds l i j → IsLinked (ls ++ l ∷ []) i j
linked_last [] l i j h = inl h
linked_last (m ∷ ls) l i j h = inr (linked_last ls l i j h)

linked_kept : (ls : List Link) (l : Link) (i j : ℕ) → IsLinked ls i j → IsLinked (ls ++ l ∷ []) i j
linked_kept [] l i j h = absurd h
linked_kept (m ∷ ls) l i j (inl h) = inl h
linked_kept (m ∷ ls) l i j (inr h) = inr (linked_kept ls l i j h)

-- a net of the placement, and one global
abbrev IsOfOne : ℕ → ℕ → Item → ℕ → Type 0
IsOfOne k n (Child l y) m = (k ≡ l) × (m ≡ n)
IsOfOne k n (Own c r) m = ⊥
IsOfOne k n (Global q) m = ⊥

abbrev pub no_ground : Grounded
no_ground = record { conductor = 0; global = 0 }

pub grounded_at : (lines : List Grounded) (k : ℕ) → k < length lines → IsGroundedBy lines (get_or lines k no_ground).conductor (get_or lines k no_ground).global
grounded_at [] k lt = absurd (omega arith)
grounded_at (l ∷ lines) zero lt = inl (refl, refl)
grounded_at (l ∷ lines) (suc k) lt = inr (grounded_at lines k (omega arith))

module _ (d : Design) (w : Wiring) (t : Tables) (cell : ℕ) where
  -- a step that adds nothing, two steps, and one with another relation
  pub none_to : (P : Item → ℕ → Type 0) (ls : List Link) → ((a : Item) (g : ℕ) → P a g → g < length w.globals → IsItem d w t cell a → ⊥) → AddsToGlobals d w t cell P ls ls
  none_to P ls none = record { kept = λ i j h. h; each = λ i j h. inl h; found = λ i g a p lt s on. absurd (none a g p lt (is_item i a s)) }
    where
      is_item : (i : ℕ) (a : Item) → Stands d w t cell i a → IsItem d w t cell a
      is_item i a s = is_an_item d w t cell a (listed (items_of d w t cell) i a s)

  pub both_to : (P Q R : Item → ℕ → Type 0) (old mid new : List Link) → AddsToGlobals d w t cell P old mid → AddsToGlobals d w t cell Q mid new
      → ((a : Item) (g : ℕ) → R a g → P a g ⊎ Q a g) → AddsToGlobals d w t cell R old new
  both_to P Q R old mid new h k split = record {
    kept = λ i j m. k.kept i j (h.kept i j m);
    each = λ i j m. elim (k.each i j m) [ inl a ↦ h.each i j a | inr b ↦ inr b ];
    found = λ i g a r lt s on. elim (split a g r) [
      | inl p ↦ k.kept i (globals_at d w t cell + g) (h.found i g a p lt s on)
      | inr q ↦ k.found i g a q lt s on
    ];
  }

  -- one link
  pub one_to : (P : Item → ℕ → Type 0) (ls : List Link) (l : Link) → IsGlobalPair d w t cell l.one l.other
      → ((i g : ℕ) (a : Item) → P a g → g < length w.globals → Stands d w t cell i a → IsOnGlobal d w t cell a g → (l.one ≡ i) × (l.other ≡ globals_at d w t cell + g))
      → AddsToGlobals d w t cell P ls (ls ++ l ∷ [])
  one_to P ls l pair is = record {
    kept = linked_kept ls l;
    each = λ i j m. elim (linked_cut ls l i j m) [ inl a ↦ inl a | inr e ↦ inr (ends i j e) ];
    found = λ i g a p lt s on. linked_last ls l i (globals_at d w t cell + g) (inl (is i g a p lt s on));
  }
    where
      ends : (i j : ℕ) → IsEnds l i j → IsGlobalPair d w t cell i j
      ends i j (inl e) = subst (λ n. IsGlobalPair d w t cell n j) e.0 (subst (λ n. IsGlobalPair d w t cell l.one n) e.1 pair)
      ends i j (inr e) =
          let back : IsGlobalPair d w t cell l.other l.one = (pair.1, pair.0, pair.3, pair.2, elim pair.4 [ inl a ↦ inr a | inr b ↦ inl b ]) in
          subst (λ n. IsGlobalPair d w t cell n j) e.1 (subst (λ n. IsGlobalPair d w t cell l.other n) e.0 back)

  global_stands : (g : ℕ) → g < length w.globals → Stands d w t cell (globals_at d w t cell + g) (Global g)
  global_stands g lt =
      let owned = owned_before t cell (length w.conductors) in
      let placed = nets_before t (places_of d cell) (length (places_of d cell)) in
      let z : owned + (placed + g) ≡ globals_at d w t cell + g = omega arith in
      subst (λ i. Stands d w t cell i (Global g)) z (global_place d w t cell g lt)

  stands_once : (i j : ℕ) (a : Item) → Stands d w t cell i a → Stands d w t cell j a → i ≡ j
  stands_once i j a h g = one_place (items_of d w t cell) i j a (apart_items d w t cell) h g

  -- items of rectangles, and of globals, where there is room for all
  pub owned_room : (c n : ℕ) → c < length w.conductors → length (items_of d w t cell) ≤ n → owned_before t cell c + length (t.own cell c) ≤ n
  owned_room c n lt room = let long = items_long d w t cell in let h = owned_step t cell c (length w.conductors) lt in omega (arith, long, h, room)

  pub global_room : (g n : ℕ) → g < length w.globals → length (items_of d w t cell) ≤ n → globals_at d w t cell + g < n
  global_room g n lt room = let long = items_long d w t cell in omega (arith, long, lt, room)

  -- rectangles of a line's conductor

  module _ (l : Grounded) (known : l.conductor < length w.conductors) (ground : l.global < length w.globals) (is : IsGrounded w l.conductor l.global) where
    rect_pair : (r : ℕ) → r < length (t.own cell l.conductor) → IsGlobalPair d w t cell (owned_before t cell l.conductor + r) (globals_at d w t cell + l.global)
    rect_pair r lt = (Own l.conductor r, Global l.global, own_place d w t cell l.conductor r known lt, global_stands l.global ground, inl (record { from = (known, lt); global = l.global; known = ground; is = refl; on = is }))

    pub no_rect : (ls : List Link) → AddsToGlobals d w t cell (IsByFirst l 0) ls ls
    no_rect ls = none_to (IsByFirst l 0) ls (λ a g p lt is. first_none a g p)
      where
        first_none : (a : Item) (g : ℕ) → IsByFirst l 0 a g → ⊥
        first_none (Own c r) g p = let lt = p.2 in omega arith
        first_none (Child k x) g p = p
        first_none (Global h) g p = p

    only_rect : (r i g : ℕ) (a : Item) → r < length (t.own cell l.conductor) → (a ≡ Own l.conductor r) → l.global ≡ g → Stands d w t cell i a → (owned_before t cell l.conductor + r ≡ i) × (globals_at d w t cell + l.global ≡ globals_at d w t cell + g)
    only_rect r i g a lt e f s = (
      stands_once (owned_before t cell l.conductor + r) i (Own l.conductor r) (own_place d w t cell l.conductor r known lt) (subst (λ b. Stands d w t cell i b) e s),
      ap (λ n. globals_at d w t cell + n) f,
    )

    pub rects_to : (r : ℕ) (old mid : List Link) (link : Link) → r < length (t.own cell l.conductor) → link.one ≡ owned_before t cell l.conductor + r → link.other ≡ globals_at d w t cell + l.global
        → AddsToGlobals d w t cell (IsByFirst l r) old mid → AddsToGlobals d w t cell (IsByFirst l (r + 1)) old (mid ++ link ∷ [])
    rects_to r old mid link lt e f h =
        let pair : IsGlobalPair d w t cell link.one link.other = subst (λ n. IsGlobalPair d w t cell n link.other) (sym e) (subst (λ n. IsGlobalPair d w t cell (owned_before t cell l.conductor + r) n) (sym f) (rect_pair r lt)) in
        let step : AddsToGlobals d w t cell (λ a g. (a ≡ Own l.conductor r) × (l.global ≡ g)) mid (mid ++ link ∷ []) = one_to (λ a g. (a ≡ Own l.conductor r) × (l.global ≡ g)) mid link pair
        (λ i g a p less s on. let o = only_rect r i g a lt p.0 p.1 s in (e ∙ o.0, f ∙ o.1)) in
        both_to (IsByFirst l r) (λ a g. (a ≡ Own l.conductor r) × (l.global ≡ g)) (IsByFirst l (r + 1)) old mid (mid ++ link ∷ []) h step (λ a g p. split a g p)
      where
        split : (a : Item) (g : ℕ) → IsByFirst l (r + 1) a g → IsByFirst l r a g ⊎ ((a ≡ Own l.conductor r) × (l.global ≡ g))
        split (Own c s) g p = elim (ℕ_discrete s r) [
          | yes q ↦ inr (ap (λ n. Own n s) (sym p.0) ∙ ap (Own l.conductor) q, p.1)
          | no n ↦ let less = p.2 in inl (p.0, p.1, omega arith)
        ]
        split (Child k x) g p = absurd p
        split (Global h) g p = absurd p

    pub rects_whole : (r : ℕ) (old new : List Link) → r ≡ length (t.own cell l.conductor) → AddsToGlobals d w t cell (IsByFirst l r) old new → AddsToGlobals d w t cell (IsByLine l) old new
    rects_whole r old new e h = record { kept = h.kept; each = h.each; found = λ i g a p lt s on. h.found i g a (whole i a g p s) lt s on }
      where
        whole : (i : ℕ) (a : Item) (g : ℕ) → IsByLine l a g → Stands d w t cell i a → IsByFirst l r a g
        whole i (Own c s) g p st =
            let is = is_an_item d w t cell (Own c s) (listed (items_of d w t cell) i (Own c s) st) in
            let lt : s < length (t.own cell l.conductor) = subst (λ n. s < length (t.own cell n)) (sym p.0) is.1 in
            (p.0, p.1, omega (arith, e, lt))
        whole i (Child k x) g p st = absurd p
        whole i (Global h) g p st = absurd p

  -- a line whose conductor or global isn't known joins nothing
  pub line_unknown : (l : Grounded) (ls : List Link) → ((l.conductor < length w.conductors) → (l.global < length w.globals) → ⊥) → AddsToGlobals d w t cell (IsByLine l) ls ls
  line_unknown l ls not = none_to (IsByLine l) ls none
    where
      none : (a : Item) (g : ℕ) → IsByLine l a g → g < length w.globals → IsItem d w t cell a → ⊥
      none (Own c r) g p lt is = let e = p.0 in let f = p.1 in let known = is.0 in not (omega (arith, e, known)) (omega (arith, f, lt))
      none (Child k x) g p lt is = p
      none (Global h) g p lt is = p

  -- lines
  pub no_lines : (ls : List Link) → AddsToGlobals d w t cell (IsByLines []) ls ls
  no_lines ls = none_to (IsByLines []) ls (λ a g p lt is. p)

  some_cut : (lines : List Grounded) (l : Grounded) (a : Item) (g : ℕ) → IsByLines (lines ++ l ∷ []) a g → IsByLines lines a g ⊎ IsByLine l a g
  some_cut [] l a g (inl h) = inr h
  some_cut [] l a g (inr h) = absurd h
  some_cut (m ∷ lines) l a g (inl h) = inl (inl h)
  some_cut (m ∷ lines) l a g (inr h) = elim (some_cut lines l a g h) [ inl x ↦ inl (inr x) | inr y ↦ inr y ]

  pub lines_more : (lines : List Grounded) (n : ℕ) (o : Grounded) (old mid new : List Link) → n < length lines → AddsToGlobals d w t cell (IsByLines (take n lines)) old mid → AddsToGlobals d w t cell (IsByLine (get_or lines n o)) mid new
      → AddsToGlobals d w t cell (IsByLines (take (n + 1) lines)) old new
  lines_more lines n o old mid new lt h k =
      let l = get_or lines n o in
      let now = both_to (IsByLines (take n lines)) (IsByLine l) (IsByLines (take n lines ++ l ∷ [])) old mid new h k (λ a g p. some_cut (take n lines) l a g p) in
      subst (λ (ls : List Grounded). AddsToGlobals d w t cell (IsByLines ls) old new) (sym (take_more lines n o lt)) now

  pub lines_all : (lines : List Grounded) (n : ℕ) (old new : List Link) → n ≡ length lines → AddsToGlobals d w t cell (IsByLines (take n lines)) old new → AddsToGlobals d w t cell (IsByLines lines) old new
  lines_all lines n old new e h = subst (λ (ls : List Grounded). AddsToGlobals d w t cell (IsByLines ls) old new) (ap (λ i. take i lines) e ∙ take-length lines) h

  -- nets of a placement that are globals'

  module _ (k : ℕ) (p : Place) (there : slice_get (places_of d cell) k ≡ Some p) (nets : AreNets d w t p.cell (t.nets p.cell)) where
    base_long : length (t.nets p.cell).net_of ≡ globals_at d w t p.cell + length w.globals
    base_long =
        let e = nets.numbers in
        let f = ap (λ (l : List Item). length l) nets.items in
        let g = items_long d w t p.cell in
        omega (arith, e, f, g)

    -- in the list that was read
    pub base_fits : (net_of : List ℕ) (n : ℕ) → net_of ≡ (t.nets p.cell).net_of → n ≡ length w.globals → n ≤ length net_of
    base_fits net_of n is e = let long = base_long in let f = ap (λ (l : List ℕ). length l) is in omega (arith, e, f, long)

    pub base_read : (net_of : List ℕ) (n g : ℕ) → net_of ≡ (t.nets p.cell).net_of → n ≡ length w.globals
        → get_or net_of ((length net_of - n) + g) 0 ≡ get_or (t.nets p.cell).net_of (globals_at d w t p.cell + g) 0
    base_read net_of n g is e =
        let long = base_long in
        let f = ap (λ (l : List ℕ). length l) is in
        let base : length net_of - n ≡ globals_at d w t p.cell = omega (arith, e, f, long) in
        ap (λ (l : List ℕ). get_or l ((length net_of - n) + g) 0) is ∙ ap (λ i. get_or (t.nets p.cell).net_of (i + g) 0) base

    -- the net of a global there
    global_net : (g : ℕ) → g < length w.globals → IsOf (t.nets p.cell) (get_or (t.nets p.cell).net_of (globals_at d w t p.cell + g) 0) (globals_at d w t p.cell + g) (Global g)
    global_net g lt =
        let long = base_long in
        let owned = owned_before t p.cell (length w.conductors) in
        let placed = nets_before t (places_of d p.cell) (length (places_of d p.cell)) in
        let z : owned + (placed + g) ≡ globals_at d w t p.cell + g = omega arith in
        let at : slice_get (items_of d w t p.cell) (globals_at d w t p.cell + g) ≡ Some (Global g) = subst (λ i. slice_get (items_of d w t p.cell) i ≡ Some (Global g)) z (global_place d w t p.cell g lt) in
        record {
          listed = subst (λ (l : List Item). slice_get l (globals_at d w t p.cell + g) ≡ Some (Global g)) (sym nets.items) at;
          numbered = slice_get-get_or (t.nets p.cell).net_of (globals_at d w t p.cell + g) 0 (omega (arith, long, lt));
        }

    pub net_within : (g : ℕ) → g < length w.globals → get_or (t.nets p.cell).net_of (globals_at d w t p.cell + g) 0 < (t.nets p.cell).count
    net_within g lt = let is = global_net g lt in nets.below (globals_at d w t p.cell + g) (get_or (t.nets p.cell).net_of (globals_at d w t p.cell + g) 0) is.numbered

    child_stands : (x : ℕ) → x < (t.nets p.cell).count → Stands d w t cell (first_of d w t cell k + x) (Child k x)
    child_stands x lt =
        let z : owned_before t cell (length w.conductors) + (nets_before t (places_of d cell) k + x) ≡ first_of d w t cell k + x = omega arith in
        subst (λ i. Stands d w t cell i (Child k x)) z (child_place d w t cell k x p there lt)

    child_pair : (g : ℕ) → g < length w.globals → IsGlobalPair d w t cell (first_of d w t cell k + get_or (t.nets p.cell).net_of (globals_at d w t p.cell + g) 0) (globals_at d w t cell + g)
    child_pair g lt =
        let x = get_or (t.nets p.cell).net_of (globals_at d w t p.cell + g) 0 in
        let placed : IsPlaced d cell k p = placed_at d cell k p there in
        (Child k x, Global g, child_stands x (net_within g lt), global_stands g lt, inl (record { from = (p, placed, net_within g lt); global = g; known = lt; is = refl; on = (p, placed, globals_at d w t p.cell + g, global_net g lt) }))

    only_child : (i g x : ℕ) → g < length w.globals → Stands d w t cell i (Child k x) → IsOnGlobal d w t cell (Child k x) g → first_of d w t cell k + get_or (t.nets p.cell).net_of (globals_at d w t p.cell + g) 0 ≡ i
    only_child i g x lt s on =
        let y = get_or (t.nets p.cell).net_of (globals_at d w t p.cell + g) 0 in
        let is = global_net g lt in
        let same : on.0 ≡ p = same_place d cell k on.0 p on.1 (placed_at d cell k p there) in
        let its : IsOf (t.nets p.cell) x on.2 (Global g) = subst (λ (q : Place). IsOf (t.nets q.cell) x on.2 (Global g)) same on.3 in
        let e : y ≡ x = one_net d w t p.cell (t.nets p.cell) (Global g) y x nets (globals_at d w t p.cell + g, is) (on.2, its) in
        stands_once (first_of d w t cell k + y) i (Child k y) (child_stands y (net_within g lt)) (subst (λ n. Stands d w t cell i (Child k n)) (sym e) s)

    pub no_global_yet : (ls : List Link) → AddsToGlobals d w t cell (IsOfFirst k 0) ls ls
    no_global_yet ls = none_to (IsOfFirst k 0) ls none
      where
        none : (a : Item) (g : ℕ) → IsOfFirst k 0 a g → g < length w.globals → IsItem d w t cell a → ⊥
        none (Own c r) g h lt is = h
        none (Child l x) g h lt is = let less = h.1 in omega arith
        none (Global m) g h lt is = h

    pub globals_more : (g : ℕ) (old mid : List Link) (link : Link) → g < length w.globals → link.one ≡ first_of d w t cell k + get_or (t.nets p.cell).net_of (globals_at d w t p.cell + g) 0 → link.other ≡ globals_at d w t cell + g
        → AddsToGlobals d w t cell (IsOfFirst k g) old mid → AddsToGlobals d w t cell (IsOfFirst k (g + 1)) old (mid ++ link ∷ [])
    globals_more g old mid link lt e f h =
        let x = get_or (t.nets p.cell).net_of (globals_at d w t p.cell + g) 0 in
        let pair : IsGlobalPair d w t cell link.one link.other = subst (λ n. IsGlobalPair d w t cell n link.other) (sym e) (subst (λ n. IsGlobalPair d w t cell (first_of d w t cell k + x) n) (sym f) (child_pair g lt)) in
        let step : AddsToGlobals d w t cell (IsOfOne k g) mid (mid ++ link ∷ []) = one_to (IsOfOne k g) mid link pair (λ i m a q less s on. let o = ends i m a q less s on in (e ∙ o.0, f ∙ o.1)) in
        both_to (IsOfFirst k g) (IsOfOne k g) (IsOfFirst k (g + 1)) old mid (mid ++ link ∷ []) h step (λ a m q. split a m q)
      where
        ends : (i m : ℕ) (a : Item) → IsOfOne k g a m → m < length w.globals → Stands d w t cell i a → IsOnGlobal d w t cell a m
            → (first_of d w t cell k + get_or (t.nets p.cell).net_of (globals_at d w t p.cell + g) 0 ≡ i) × (globals_at d w t cell + g ≡ globals_at d w t cell + m)
        ends i m (Child l y) q less s on =
            let same : l ≡ k = sym q.0 in
            let st : Stands d w t cell i (Child k y) = subst (λ n. Stands d w t cell i (Child n y)) same s in
            let on_it : IsOnGlobal d w t cell (Child k y) g = subst (λ n. IsOnGlobal d w t cell (Child k y) n) q.1 (subst (λ n. IsOnGlobal d w t cell (Child n y) m) same on) in
            (only_child i g y lt st on_it, ap (λ n. globals_at d w t cell + n) (sym q.1))
        ends i m (Own c r) q less s on = absurd q
        ends i m (Global h) q less s on = absurd q

        split : (a : Item) (m : ℕ) → IsOfFirst k (g + 1) a m → IsOfFirst k g a m ⊎ IsOfOne k g a m
        split (Own c r) m q = absurd q
        split (Child l y) m q = elim (ℕ_discrete m g) [ yes s ↦ inr (q.0, s) | no n ↦ let less = q.1 in inl (q.0, omega arith) ]
        split (Global h) m q = absurd q

    pub globals_whole : (g : ℕ) (old new : List Link) → g ≡ length w.globals → AddsToGlobals d w t cell (IsOfFirst k g) old new → AddsToGlobals d w t cell (IsOfPlacement k) old new
    globals_whole g old new e h = record { kept = h.kept; each = h.each; found = λ i m a q lt s on. h.found i m a (whole a m q lt) lt s on }
      where
        whole : (a : Item) (m : ℕ) → IsOfPlacement k a m → m < length w.globals → IsOfFirst k g a m
        whole (Own c r) m q lt = absurd q
        whole (Child l y) m q lt = (q, omega (arith, e, lt))
        whole (Global x) m q lt = absurd q

  -- placements
  pub no_placement : (ls : List Link) → AddsToGlobals d w t cell (IsOfPlacements 0) ls ls
  no_placement ls = none_to (IsOfPlacements 0) ls none
    where
      none : (a : Item) (g : ℕ) → IsOfPlacements 0 a g → g < length w.globals → IsItem d w t cell a → ⊥
      none (Own c r) g h lt is = h
      none (Child l x) g h lt is = omega arith
      none (Global m) g h lt is = h

  pub placements_more : (n : ℕ) (old mid new : List Link) → AddsToGlobals d w t cell (IsOfPlacements n) old mid → AddsToGlobals d w t cell (IsOfPlacement n) mid new → AddsToGlobals d w t cell (IsOfPlacements (n + 1)) old new
  placements_more n old mid new h k = both_to (IsOfPlacements n) (IsOfPlacement n) (IsOfPlacements (n + 1)) old mid new h k split
    where
      split : (a : Item) (g : ℕ) → IsOfPlacements (n + 1) a g → IsOfPlacements n a g ⊎ IsOfPlacement n a g
      split (Own c r) g q = absurd q
      split (Child l x) g q = elim (ℕ_discrete n l) [ yes e ↦ inr e | no m ↦ inl (omega arith) ]
      split (Global m) g q = absurd q

  -- all items
  pub any_to : (lines : List Grounded) (n : ℕ) (old mid new : List Link) → n ≡ length (places_of d cell) → ((c g : ℕ) → IsGroundedBy lines c g ↔ IsGrounded w c g) → AddsToGlobals d w t cell (IsByLines lines) old mid → AddsToGlobals d w t cell (IsOfPlacements n) mid new
      → AddsToGlobals d w t cell IsAny old new
  any_to lines n old mid new e same h k = record {
    kept = λ i j m. k.kept i j (h.kept i j m);
    each = λ i j m. elim (k.each i j m) [ inl a ↦ h.each i j a | inr b ↦ inr b ];
    found = λ i g a r lt s on. find i g a lt s on;
  }
    where
      by_line : (ls : List Grounded) (c r g : ℕ) → IsGroundedBy ls c g → IsByLines ls (Own c r) g
      by_line [] c r g q = q
      by_line (l ∷ ls) c r g (inl q) = inl q
      by_line (l ∷ ls) c r g (inr q) = inr (by_line ls c r g q)

      find : (i g : ℕ) (a : Item) → g < length w.globals → Stands d w t cell i a → IsOnGlobal d w t cell a g → IsLinked new i (globals_at d w t cell + g)
      find i g (Own c r) lt s on = k.kept i (globals_at d w t cell + g) (h.found i g (Own c r) (by_line lines c r g ((same c g).1 on)) lt s on)
      find i g (Child l x) lt s on =
          let there = at_placed d cell l on.0 on.1 in
          let less = slice_get_within (places_of d cell) l on.0 there in
          k.found i g (Child l x) (omega (arith, less, e)) lt s on
      find i g (Global m) lt s on = absurd on
