-- The nets of a cell are the regions of what it keeps.
use Rattle.std.proofs.Common.{◌≡◌, inl, inr, ℕ, zero, suc, ◌<◌, ◌≤◌, List, [], ◌∷◌, Some, slice_get, get_or, length, refl, sym, ◌∙◌, ap, subst, arith, pos}
use Rattle.std.proofs.lemmas.Option.{slice_get_within, slice_get-get_or}
use Rattle.std.proofs.lemmas.List.{get_or_past}
use Rattle.std.proofs.Math.Decide.{dec_lt}
use Rattle.flat_laws.specs.NetLaws.{RegionLaw, OneParentLaw}
use Rattle.flat_layout.specs.Layers.{Formula, Empty, IsLocal}
use Rattle.flat_layout.specs.Layout.{Place, Design, IsPlaced, IsReached}
use Rattle.flat_layout.specs.Nets.{Item, Own, Child, Global, CellNets, Tables, IsOf, HoldsAt, ItemHolds, NetHolds, IsItem, IsItemLink, AreTables, AreRegions, LiesIn}
use Rattle.flat_layout.specs.Plane.{IsIn}
use Rattle.flat_layout.specs.Regions.{Wiring, Node, At, Ground, Touches, IsNode, IsLink, moved, formula, kept}
use Rattle.geo_base.specs.declared.shapes.Square.{Square}
use Rattle.plain_netlist.specs.Chains.{IsChain, Reaches}
use Rattle.flat_laws.proofs.Paths.{same_place}
use Rattle.flat_laws.proofs.Cover.{reached_below, kept_above, kept_here}
use Rattle.flat_laws.proofs.Items.{items_sound, items_complete}
use Rattle.plain_netlist.proofs.Links.{stays, single, prepend, both, along}
use Rattle.flat_laws.proofs.Squares.{touch_moved, touch_back, touch_same, across}

pub link_back : (w : Wiring) (sets : ℕ → Square → Type 0) (a b : Node) → IsLink w sets a b → IsLink w sets b a
link_back w sets a b h = record { from = h.to; to = h.from; touch = touch_back w a b h.touch }

node_moved : (d : Design) (w : Wiring) (cell k : ℕ) (p : Place) → IsReached d cell → IsPlaced d cell k p → (n : Node) → IsNode w (kept d w p.cell) n → IsNode w (kept d w cell) (moved p.motion n)
node_moved d w cell k p reached placed (At c q) h = kept_above d cell k p (formula w c) q reached placed h
node_moved d w cell k p reached placed (Ground g) h = h

link_moved : (d : Design) (w : Wiring) (cell k : ℕ) (p : Place) → IsReached d cell → IsPlaced d cell k p → (a b : Node) → IsLink w (kept d w p.cell) a b → Reaches (IsLink w (kept d w cell)) (moved p.motion a) (moved p.motion b)
link_moved d w cell k p reached placed a b h =
    single (IsLink w (kept d w cell)) (moved p.motion a) (moved p.motion b) (record {
      from = node_moved d w cell k p reached placed a h.from;
      to = node_moved d w cell k p reached placed b h.to;
      touch = touch_moved w p.motion a b h.touch;
    })

no_empty : (d : Design) (cell : ℕ) (names : List Formula) (c : ℕ) (q : Square) → IsLocal d cell (get_or names c Empty) q → c < length names
no_empty d cell names c q h =
    elim (dec_lt c (length names)) [
      | yes lt ↦ lt
      | no not ↦ let past : length names ≤ c = omega arith in let none = subst (λ (r : Formula). IsLocal d cell r q) (get_or_past names c Empty past) h in absurd none
    ]

module _ (d : Design) (w : Wiring) (t : Tables) (height : ℕ → ℕ) (tables : AreTables d w t height) (cell : ℕ) (reached : IsReached d cell) (below : (k : ℕ) (p : Place) → IsPlaced d cell k p → AreRegions d w t p.cell) where
  -- what an item holds, the cell keeps
  item_sound : (item : Item) (n : Node) → IsItem d w t cell item → (depth : ℕ) → HoldsAt d t depth cell item n → IsNode w (kept d w cell) n
  item_sound (Own c r) n is zero h = subst (λ m. IsNode w (kept d w cell) m) h.4 (kept_here d cell (formula w c) h.0 ((tables.own cell c reached).local r h.1 h.0 h.2 h.3))
  item_sound (Own c r) n is (suc k) h = absurd h
  item_sound (Child k b) n is zero h = absurd h
  item_sound (Child k b) n is (suc depth) h =
      subst (λ m. IsNode w (kept d w cell) m) h.7
      (node_moved d w cell k h.0 reached h.1 h.5
      ((below k h.0 h.1).sound b h.5 (record { index = h.2; item = h.3; is_of = h.4; holds = record { depth = depth; holds = h.6 } })))
  item_sound (Global g) n is zero h = subst (λ m. IsNode w (kept d w cell) m) h is
  item_sound (Global g) n is (suc k) h = absurd h

  pub in_below : (k : ℕ) (p : Place) (b : ℕ) (n m : Node) → IsPlaced d cell k p → NetHolds d t p.cell b m → moved p.motion m ≡ n → ItemHolds d t cell (Child k b) n
  in_below k p b n m placed h e = record { depth = suc h.holds.depth; holds = (p, placed, h.index, h.item, h.is_of, m, h.holds.holds, e) }

  pub below_item : (k : ℕ) (p : Place) (b : ℕ) (m : Node) → IsPlaced d cell k p → NetHolds d t p.cell b m → IsItem d w t cell (Child k b)
  below_item k p b m placed h = (p, placed, (tables.nets p.cell (reached_below d cell k p reached placed)).below h.index b h.is_of.numbered)

  -- and each node that the cell keeps is held by an item
  item_complete : (n : Node) → IsNode w (kept d w cell) n → (item : Item) × IsItem d w t cell item × ItemHolds d t cell item n
  item_complete (Ground g) h = (Global g, h, record { depth = zero; holds = refl })
  item_complete (At c q) h =
      elim (tables.parted cell c q reached h) [
        | inl here ↦
            let f = (tables.own cell c reached).found q here in
            (Own c f.0, (no_empty d cell w.conductors c q here, slice_get_within (t.own cell c) f.0 f.1 f.2), record { depth = zero; holds = (q, f.1, f.2, f.3, refl) })
        | inr down ↦
            let f = (below down.number down.place down.placed).complete (At c down.square) down.kept in (
              Child down.number f.0,
              below_item down.number down.place f.0 (At c down.square) down.placed f.1,
              in_below down.number down.place f.0 (At c q) (At c down.square) down.placed f.1 (ap (At c) down.image),
            )
      ]

  abbrev R : Node → Node → Type 0
  R = IsLink w (kept d w cell)

  -- the nodes of one item are in one region
  one_item : (item : Item) (a b : Node) → IsItem d w t cell item → (j k : ℕ) → HoldsAt d t j cell item a → HoldsAt d t k cell item b → Reaches R a b
  one_item (Own c r) a b is zero zero h g =
      let same : h.1 ≡ g.1 = cc in
      let second : IsIn g.0 h.1 = subst (λ s. IsIn g.0 s) (sym same) g.3 in
      let local : (s : Square) → IsIn s h.1 → kept d w cell c s = λ s i. kept_here d cell (formula w c) s ((tables.own cell c reached).local r h.1 s h.2 i) in
      let way = across R (At c) h.1 (link_back w (kept d w cell))
      (λ p q i j e. record { from = local p i; to = local q j; touch = (inl refl, inr e) }) h.0 g.0 h.3 second in
      subst (λ m. Reaches R m b) h.4 (subst (λ m. Reaches R (At c h.0) m) g.4 way)
  one_item (Own c r) a b is zero (suc k) h g = absurd g
  one_item (Own c r) a b is (suc j) k h g = absurd h
  one_item (Child s x) a b is zero k h g = absurd h
  one_item (Child s x) a b is (suc j) zero h g = absurd g
  one_item (Child s x) a b is (suc j) (suc k) h g =
      let same : g.0 ≡ h.0 = same_place d cell s g.0 h.0 g.1 h.1 in
      let net : NetHolds d t g.0.cell x g.5 = record { index = g.2; item = g.3; is_of = g.4; holds = record { depth = k; holds = g.6 } } in
      let other : NetHolds d t h.0.cell x g.5 = subst (λ (p : Place). NetHolds d t p.cell x g.5) same net in
      let one : NetHolds d t h.0.cell x h.5 = record { index = h.2; item = h.3; is_of = h.4; holds = record { depth = j; holds = h.6 } } in
      let end : moved h.0.motion g.5 ≡ b = subst (λ (p : Place). moved p.motion g.5 ≡ b) same g.7 in
      let way = along (IsLink w (kept d w h.0.cell)) R (moved h.0.motion) (link_moved d w cell s h.0 reached h.1) h.5 g.5 (((below s h.0 h.1).joined x x h.5 g.5 one other).0 refl) in
      subst (λ m. Reaches R m b) h.7 (subst (λ m. Reaches R (moved h.0.motion h.5) m) end way)
  one_item (Global x) a b is zero zero h g = stays R a b (sym h ∙ g)
  one_item (Global x) a b is zero (suc k) h g = absurd g
  one_item (Global x) a b is (suc j) k h g = absurd h

  abbrev L : Item → Item → Type 0
  L = IsItemLink d w t cell

  touching : (i j : Item) (a b : Node) → IsItem d w t cell i → IsItem d w t cell j → ItemHolds d t cell i a → ItemHolds d t cell j b → Touches w a b → L i j
  touching i j a b is js h g touch = record { from = is; to = js; one = a; other = b; held = h; others = g; touch = touch }

  to_items : (i j : Item) (a b : Node) (via : List Node) → IsItem d w t cell i → IsItem d w t cell j → ItemHolds d t cell i a → ItemHolds d t cell j b → IsChain R a via b → Reaches L i j
  to_items i j a b [] is js h g chain = single L i j (touching i j a b is js h g (subst (λ m. Touches w a m) chain (touch_same w a)))
  to_items i j a b (x ∷ xs) is js h g chain =
      let next = item_complete x chain.0.to in
      prepend L i next.0 j (touching i next.0 a x is next.1 h next.2 chain.0.touch) (to_items next.0 j x b xs next.1 js next.2 g chain.1)

  from_items : (i j : Item) (a b : Node) (via : List Item) → IsItem d w t cell i → IsItem d w t cell j → ItemHolds d t cell i a → ItemHolds d t cell j b → IsChain L i via j → Reaches R a b
  from_items i j a b [] is js h g chain =
      let k = subst (λ s. ItemHolds d t cell s b) (sym chain) g in
      one_item i a b is h.depth k.depth h.holds k.holds
  from_items i j a b (x ∷ xs) is js h g chain =
      let l = chain.0 in
      let link : R l.one l.other = record { from = item_sound i l.one is l.held.depth l.held.holds; to = item_sound x l.other l.to l.others.depth l.others.holds; touch = l.touch } in
      both R a l.one b (one_item i a l.one is h.depth l.held.depth h.holds l.held.holds)
      (prepend R l.one l.other b link (from_items x j l.other b xs l.to js l.others g chain.1))

  -- each item holds a node
  filled_item : (i : Item) → IsItem d w t cell i → (n : Node) × ItemHolds d t cell i n
  filled_item (Own c r) is =
      let rect = get_or (t.own cell c) r (record { x1 = pos 0; y1 = pos 0; x2 = pos 0; y2 = pos 0 }) in
      let there : slice_get (t.own cell c) r ≡ Some rect = slice_get-get_or (t.own cell c) r _ is.1 in
      let f = (tables.own cell c reached).filled r rect there in
      (At c f.0, record { depth = zero; holds = (f.0, rect, there, f.1, refl) })
  filled_item (Child k b) is =
      let f = (below k is.0 is.1).filled b is.2 in
      (moved is.0.motion f.0, in_below k is.0 b (moved is.0.motion f.0) f.0 is.1 f.1 refl)
  filled_item (Global g) is = (Ground g, record { depth = zero; holds = refl })

  abbrev v : CellNets
  v = t.nets cell

  is_item : (x : ℕ) (n : Node) (h : NetHolds d t cell x n) → IsItem d w t cell h.item
  is_item x n h = items_sound d w t cell (t.nets cell) (tables.nets cell reached) h.index h.item h.is_of.listed

  -- the net of an item
  pub numbered : (i : Item) → IsItem d w t cell i → (k : ℕ) × (x : ℕ) × IsOf v x k i
  numbered i is =
      let there = items_complete d w t cell (t.nets cell) (tables.nets cell reached) i is in
      let lt = slice_get_within v.items there.0 i there.1 in
      let enough : there.0 < length v.net_of = rw (tables.nets cell reached).numbers lt in
      (there.0, get_or v.net_of there.0 0, record { listed = there.1; numbered = slice_get-get_or v.net_of there.0 0 enough })

  here : AreRegions d w t cell
  here = record {
    sound = λ x n h. item_sound h.item n (is_item x n h) h.holds.depth h.holds.holds;
    complete = λ n h.
        let f = item_complete n h in
        let k = numbered f.0 f.1 in
        (k.1, record { index = k.0; item = f.0; is_of = k.2; holds = f.2 });
    joined = λ x y a b h g.
        let same = (tables.nets cell reached).joined h.index g.index h.item g.item x y h.is_of g.is_of in (
          (λ e. let way = same.0 e in from_items h.item g.item a b way.via (is_item x a h) (is_item y b g) h.holds g.holds way.chain),
          (λ way. same.1 (to_items h.item g.item a b way.via (is_item x a h) (is_item y b g) h.holds g.holds way.chain)),
        );
    filled = λ x lt.
        let u = (tables.nets cell reached).used x lt in
        let within = slice_get_within v.net_of u.0 x u.1 in
        let enough : u.0 < length v.items = rw (← (tables.nets cell reached).numbers) within in
        let item = get_or v.items u.0 (Global 0) in
        let there : slice_get v.items u.0 ≡ Some item = slice_get-get_or v.items u.0 (Global 0) enough in
        let f = filled_item item (items_sound d w t cell (t.nets cell) (tables.nets cell reached) u.0 item there) in
        (f.0, record { index = u.0; item = item; is_of = record { listed = there; numbered = u.1 }; holds = f.1 });
  }

under : (d : Design) (w : Wiring) (t : Tables) (height : ℕ → ℕ) → AreTables d w t height → (n cell : ℕ) → height cell < n → IsReached d cell → AreRegions d w t cell
under d w t height tables zero cell lt reached = absurd (omega arith)
under d w t height tables (suc n) cell lt reached =
    here d w t height tables cell reached (λ k p placed. let down = tables.lower cell k p placed in under d w t height tables n p.cell (omega arith) (reached_below d cell k p reached placed))

pub regions : RegionLaw
regions d w t height tables cell reached = let lt : height cell < suc (height cell) = omega arith in under d w t height tables (suc (height cell)) cell lt reached

-- a placed cell's net lies in one net of its parent, and in no other
pub one_parent : OneParentLaw
one_parent d w t height tables cell k b p reached placed lt =
    let below = λ (j : ℕ) (r : Place) (is : IsPlaced d cell j r). regions d w t height tables r.cell (reached_below d cell j r reached is) in
    let x = numbered d w t height tables cell reached below (Child k b) (p, placed, lt) in
    let lies : LiesIn d t cell p b x.1 = record { each = λ n h. record { index = x.0; item = Child k b; is_of = x.2; holds = in_below d w t height tables cell reached below k p b (moved p.motion n) n placed h refl } } in
    let f = (below k p placed).filled b lt in (
      x.1,
      lies,
      λ y g.
          ((regions d w t height tables cell reached).joined y x.1 (moved p.motion f.0) (moved p.motion f.0) (g.each f.0 f.1) (lies.each f.0 f.1)).1
          (stays (IsLink w (kept d w cell)) (moved p.motion f.0) (moved p.motion f.0) refl),
    )
