-- Where the nets of placed cells stand among the items of a cell, and their calls, one by one.
use Rattle.std.proofs.Common.{◌≡◌, ◌⊎◌, inl, inr, ℕ, zero, suc, ◌+◌, ◌<◌, ◌≤◌, Bool, true, false, drop, List, [], ◌∷◌, ◌++◌, append_assoc, Some, map, flat_map, slice_get, get_or, length, refl, sym, ◌∙◌, ap, subst, arith}
use Rattle.base_laws.proofs.Items.{item_at, map_to, map_from}
use Rattle.std.proofs.Math.Decide.{ℕ_discrete}
use Rattle.std.proofs.lemmas.Grind.{flat_map-append}
use Rattle.std.proofs.lemmas.List.{append-nil, drop_more, length-map}
use Rattle.std.proofs.lemmas.Option.{same_Some, slice_get-get_or, slice_get_within, get_or_from_slice_get}
use Rattle.deep_tables.specs.Nets.{plain_item}
use Rattle.deep_tables.specs.declared.nets.Item.{Item as DeepItem}
use Rattle.flat_laws.proofs.Items.{at_placed, placed_at}
use Rattle.flat_layout.specs.Circuits.{IsCallOf, pin_nets}
use Rattle.flat_layout.specs.Layers.{Formula}
use Rattle.flat_layout.specs.Layout.{Design, Place, IsPlaced}
use Rattle.flat_layout.specs.Nets.{CellNets, Child, Global, Item, Own, Tables, child_items, items_of, own_items, run}
use Rattle.flat_layout.specs.Pins.{CellPins, IsNetOf}
use Rattle.flat_layout.specs.Regions.{Wiring}
use Rattle.geo_base.specs.declared.shapes.Rect.{Rect}
use Rattle.net_link_laws.proofs.Standing.{child_place, items_long, nets_under, owned_long}
use Rattle.net_link_laws.specs.Places.{nets_before, owned_before, places_of}
use Rattle.plain_netlist.proofs.Members.{either_side, in_left, in_right, listed}
use Rattle.plain_netlist.specs.Lists.{AreRising, IsListed}
use Rattle.plain_netlist.specs.Netlist.{CallRow}
use Rattle.plain_netlist.specs.Normal.{AreNumbered}
use Rattle.circuit_phase.specs.Calls.{AddsCall, AreCallsTo, HasCall, is_own, own_count}
use Rattle.circuit_phase.specs.Numbering.{AreKept}
use Rattle.circuit_phase.specs.Placed.{AreNetsOver, placed_cells, tables_with}
use Rattle.circuit_phase.proofs.Children.{none_left}
use Rattle.circuit_phase.proofs.Leading.{pin_true}
use Rattle.circuit_phase.proofs.Series.{numbered_on}

-- rectangles of the cell itself stand first

own_more : (item : Item) (l : List Item) → is_own item ≡ true → own_count (item ∷ l) ≡ suc (own_count l)
own_more (Own c r) l e = refl
own_more (Child k b) l e = let z : ⊥ = cc in absurd z
own_more (Global g) l e = let z : ⊥ = cc in absurd z

own_last : (item : Item) (l : List Item) → is_own item ≡ false → own_count (item ∷ l) ≡ 0
own_last (Own c r) l e = let z : ⊥ = cc in absurd z
own_last (Child k b) l e = refl
own_last (Global g) l e = refl

pub own_step : (raw : List DeepItem) (i n : ℕ) (d : DeepItem) → i < length raw → true ≡ is_own (plain_item (get_or raw i d)) → i + own_count (drop i (map plain_item raw)) ≡ n → (i + 1) + own_count (drop (i + 1) (map plain_item raw)) ≡ n
own_step raw i n d lt own h =
    let items = map plain_item raw in
    let item = plain_item (get_or raw i d) in
    let rest = drop (i + 1) items in
    let at : get_or items i item ≡ item = get_or_from_slice_get items i item item (map_to plain_item raw i (get_or raw i d) (slice_get-get_or raw i d lt)) in
    let long = length-map raw plain_item in
    let split : drop i items ≡ item ∷ rest = drop_more items i item (omega (arith, lt, long)) ∙ ap (λ (x : Item). x ∷ rest) at in
    let e = ap own_count split ∙ own_more item rest (sym own) in
    omega (arith, e, h)

pub own_stop : (raw : List DeepItem) (i n : ℕ) (d : DeepItem) → i < length raw → false ≡ is_own (plain_item (get_or raw i d)) → i + own_count (drop i (map plain_item raw)) ≡ n → i ≡ n
own_stop raw i n d lt own h =
    let items = map plain_item raw in
    let item = plain_item (get_or raw i d) in
    let rest = drop (i + 1) items in
    let at : get_or items i item ≡ item = get_or_from_slice_get items i item item (map_to plain_item raw i (get_or raw i d) (slice_get-get_or raw i d lt)) in
    let long = length-map raw plain_item in
    let split : drop i items ≡ item ∷ rest = drop_more items i item (omega (arith, lt, long)) ∙ ap (λ (x : Item). x ∷ rest) at in
    let e = ap own_count split ∙ own_last item rest (sym own) in
    omega (arith, e, h)

pub own_end : (raw : List DeepItem) (i n : ℕ) → i ≡ length raw → i + own_count (drop i (map plain_item raw)) ≡ n → length raw ≡ n
own_end raw i n e h =
    let long = length-map raw plain_item in
    let f = ap own_count (none_left (map plain_item raw) i (omega (arith, e, long))) in
    omega (arith, e, f, h)

run_count : (c k n : ℕ) (l : List Item) → own_count (run (Own c) k n ++ l) ≡ n + own_count l
run_count c k zero l = omega arith
run_count c k (suc n) l = let rest = run_count c (suc k) n l in omega (arith, rest)

own_first : (t : Tables) (cell c : ℕ) (names : List Formula) (l : List Item) → own_count (own_items t cell c names ++ l) ≡ length (own_items t cell c names) + own_count l
own_first t cell c [] l = omega arith
own_first t cell c (x ∷ xs) l =
    let n = length (t.own cell c) in
    let rest = own_items t cell (suc c) xs in
    ap own_count (append_assoc (run (Own c) 0 n) rest l) ∙ run_count c 0 n (rest ++ l) ∙ ap (λ k. n + k) (own_first t cell (suc c) xs l) ∙ long c 0 n rest (own_count l)
  where
    long : (c k n : ℕ) (rest : List Item) (m : ℕ) → n + (length rest + m) ≡ length (run (Own c) k n ++ rest) + m
    long c k zero rest m = omega arith
    long c k (suc n) rest m = let more = long c (suc k) n rest m in omega (arith, more)

kids_none : (k b n : ℕ) (l : List Item) → own_count l ≡ 0 → own_count (run (Child k) b n ++ l) ≡ 0
kids_none k b zero l e = e
kids_none k b (suc n) l e = refl

grounds_none : (g n : ℕ) → own_count (run Global g n) ≡ 0
grounds_none g zero = refl
grounds_none g (suc n) = refl

others_none : (t : Tables) (k : ℕ) (ps : List Place) (n : ℕ) → own_count (child_items t k ps ++ run Global 0 n) ≡ 0
others_none t k [] n = grounds_none 0 n
others_none t k (p ∷ ps) n =
    let size = (t.nets p.cell).count in
    let rest = child_items t (suc k) ps in
    ap own_count (append_assoc (run (Child k) 0 size) rest (run Global 0 n)) ∙ kids_none k 0 size (rest ++ run Global 0 n) (others_none t (suc k) ps n)

own_all : (d : Design) (w : Wiring) (t : Tables) (cell : ℕ) → own_count (items_of d w t cell) ≡ owned_before t cell (length w.conductors)
own_all d w t cell =
    let l = child_items t 0 (places_of d cell) ++ run Global 0 (length w.globals) in
    let e = own_first t cell 0 w.conductors l in
    let f = others_none t 0 (places_of d cell) (length w.globals) in
    let g = owned_long w t cell in
    omega (arith, e, f, g)

-- how many nets the first of these cells have
abbrev pub sizes_before : (ℕ → CellNets) → List ℕ → ℕ → ℕ
sizes_before nets [] k = 0
sizes_before nets (c ∷ cells) zero = 0
sizes_before nets (c ∷ cells) (suc k) = (nets c).count + sizes_before nets cells k

-- then, placement by placement, the nets of the placed cells

sizes_are : (own : ℕ → ℕ → List Rect) (nets : ℕ → CellNets) (ps : List Place) (k : ℕ) → sizes_before nets (map (λ (p : Place). p.cell) ps) k ≡ nets_before (tables_with own nets) ps k
sizes_are own nets [] k = refl
sizes_are own nets (p ∷ ps) zero = refl
sizes_are own nets (p ∷ ps) (suc k) = ap (λ n. (nets p.cell).count + n) (sizes_are own nets ps k)

pub stands : (d : Design) (w : Wiring) (nets : ℕ → CellNets) (cell : ℕ) (v : CellNets) → AreNetsOver d w nets cell v → (k b : ℕ) (p : Place) → IsPlaced d cell k p → b < (nets p.cell).count
    → slice_get v.items (own_count v.items + (sizes_before nets (placed_cells d cell) k + b)) ≡ Some (Child k b)
stands d w nets cell v (own, are) k b p placed lt =
    let t = tables_with own nets in
    let e : own_count v.items ≡ owned_before t cell (length w.conductors) = ap own_count are.items ∙ own_all d w t cell in
    let f = sizes_are own nets (places_of d cell) k in
    subst (λ n. slice_get v.items n ≡ Some (Child k b)) (ap (λ n. n + (nets_before t (places_of d cell) k + b)) (sym e) ∙ ap (λ n. own_count v.items + (n + b)) (sym f))
    (subst (λ l. slice_get l (owned_before t cell (length w.conductors) + (nets_before t (places_of d cell) k + b)) ≡ Some (Child k b)) (sym are.items) (child_place d w t cell k b p (at_placed d cell k p placed) lt))

pub inside : (d : Design) (w : Wiring) (nets : ℕ → CellNets) (cell : ℕ) (v : CellNets) → AreNetsOver d w nets cell v → (k : ℕ) (p : Place) → IsPlaced d cell k p
    → (own_count v.items + sizes_before nets (placed_cells d cell) k) + (nets p.cell).count ≤ length v.net_of
inside d w nets cell v (own, are) k p placed =
    let t = tables_with own nets in
    let e : own_count v.items ≡ owned_before t cell (length w.conductors) = ap own_count are.items ∙ own_all d w t cell in
    let f = sizes_are own nets (places_of d cell) k in
    let u = nets_under t (places_of d cell) k p (at_placed d cell k p placed) in
    let long : length v.items ≡ owned_before t cell (length w.conductors) + (nets_before t (places_of d cell) (length (places_of d cell)) + length w.globals) = ap (λ (l : List Item). length l) are.items ∙ items_long d w t cell in
    let same = are.numbers in
    omega (arith, e, f, u, long, same)

-- the placement of a place among the placed cells
pub place_of : (d : Design) (cell k : ℕ) → k < length (placed_cells d cell) → (p : Place) × IsPlaced d cell k p × (get_or (placed_cells d cell) k 0 ≡ p.cell)
place_of d cell k lt =
    let at = item_at (placed_cells d cell) k lt in
    let m = map_from (λ (p : Place). p.cell) (places_of d cell) k at.0 at.1 in
    (m.0, placed_at d cell k m.0 m.1, get_or_from_slice_get (placed_cells d cell) k at.0 0 at.1 ∙ sym m.2)

pub child_of : (d : Design) (cell : ℕ) (cells : List ℕ) (k : ℕ) → cells ≡ placed_cells d cell → k < length cells → (p : Place) × IsPlaced d cell k p × (get_or cells k 0 ≡ p.cell)
child_of d cell cells k are lt =
    let r = place_of d cell k (subst (λ (l : List ℕ). k < length l) are lt) in
    (r.0, r.1, ap (λ (l : List ℕ). get_or l k 0) are ∙ r.2)

-- its nets stand among those of the cell
pub child_inside : (d : Design) (w : Wiring) (nets : ℕ → CellNets) (cell : ℕ) (v : CellNets) → AreNetsOver d w nets cell v → (cells l : List ℕ) (k start : ℕ) → cells ≡ placed_cells d cell → k < length cells → l ≡ v.net_of → start ≡ own_count v.items + sizes_before nets (placed_cells d cell) k
    → start + (nets (get_or cells k 0)).count ≤ length l
child_inside d w nets cell v over cells l k start are lt is at =
    let r = child_of d cell cells k are lt in
    let low = inside d w nets cell v over k r.0 r.1 in
    let e = ap (λ n. (nets n).count) r.2 in
    let f = ap (λ (m : List ℕ). length m) is in
    omega (arith, low, e, f, at)

pub net_low : (d : Design) (w : Wiring) (nets : ℕ → CellNets) (cell : ℕ) (v : CellNets) → AreNetsOver d w nets cell v → (l : List ℕ) (count : ℕ) → l ≡ v.net_of → count ≡ v.count → (i : ℕ) → i < length l → get_or l i 0 < count
net_low d w nets cell v over l count is e i lt =
    let at = subst (λ (m : List ℕ). slice_get m i ≡ Some (get_or l i 0)) is (slice_get-get_or l i 0 lt) in
    let low = over.1.below i (get_or l i 0) at in
    omega (arith, low, e)

pub sizes_none : (nets : ℕ → CellNets) (cells : List ℕ) → sizes_before nets cells 0 ≡ 0
sizes_none nets [] = refl
sizes_none nets (c ∷ cells) = refl

sizes_suc : (nets : ℕ → CellNets) (cells : List ℕ) (k : ℕ) → k < length cells → sizes_before nets cells (suc k) ≡ sizes_before nets cells k + (nets (get_or cells k 0)).count
sizes_suc nets [] k lt = absurd (let z : ⊥ = omega (arith, lt) in z)
sizes_suc nets (c ∷ cells) zero lt = let e = sizes_none nets cells in omega (arith, e)
sizes_suc nets (c ∷ cells) (suc k) lt = let rest = sizes_suc nets cells k (omega (arith, lt)) in omega (arith, rest)

pub sizes_next : (nets : ℕ → CellNets) (cells : List ℕ) (k : ℕ) → k < length cells → sizes_before nets cells (k + 1) ≡ sizes_before nets cells k + (nets (get_or cells k 0)).count
sizes_next nets cells k lt = let z : k + 1 ≡ suc k = omega arith in ap (sizes_before nets cells) z ∙ sizes_suc nets cells k lt

-- one call more

at_push : {A : Type 0} (xs : List A) (x : A) (i : ℕ) (y : A) → slice_get (xs ++ x ∷ []) i ≡ Some y → (slice_get xs i ≡ Some y) ⊎ ((i ≡ length xs) × (x ≡ y))
at_push [] x zero y h = inr (refl, same_Some x y h)
at_push [] x (suc i) y h = let z : ⊥ = cc in absurd z
at_push (z ∷ xs) x zero y h = inl h
at_push (z ∷ xs) x (suc i) y h = elim (at_push xs x i y h) [
  | inl e ↦ inl e
  | inr e ↦ inr ((let f = e.0 in omega (arith, f)), e.1)
]

push_long : {A : Type 0} (xs : List A) (x : A) → length (xs ++ x ∷ []) ≡ suc (length xs)
push_long [] x = refl
push_long (y ∷ xs) x = ap suc (push_long xs x)

rising_push : (xs : List ℕ) (y : ℕ) → ((x : ℕ) → IsListed x xs → x < y) → AreRising ◌<◌ xs → AreRising ◌<◌ (xs ++ y ∷ [])
rising_push [] y low rising = ((λ z h. absurd h), tt)
rising_push (x ∷ xs) y low rising = (
  (λ z h. elim (either_side xs (y ∷ []) z h) [
    | inl a ↦ rising.0 z a
    | inr b ↦ elim b [ inl e ↦ subst (λ n. x < n) (sym e) (low x (inl refl)) | inr f ↦ absurd f ]
  ]),
  rising_push xs y (λ z h. low z (inr h)) rising.1,
)

call_kept : (t : Tables) (pins : ℕ → CellPins) (drawn : ℕ → List Bool) (circuits : List ℕ) (cell k : ℕ) (p : Place) (old new : List ℕ) (row : CallRow) → AreKept old new → IsCallOf t pins drawn circuits cell k p old row → IsCallOf t pins drawn circuits cell k p new row
call_kept t pins drawn circuits cell k p old new row keep h = record {
  circuit = h.circuit;
  count = h.count;
  each = λ i inner outer at there. let r = h.each i inner outer at there in (r.0, keep outer r.0 r.1, r.2);
}

-- the nets at a placed cell's drawn pins stand among its own, and are nets of the cell

pub pins_inside : (pins : CellPins) (drawn : List Bool) (nets l : List ℕ) (start : ℕ) → l ≡ pin_nets pins drawn → start + length drawn ≤ length nets → (i : ℕ) → i < length l → start + get_or l i 0 < length nets
pins_inside pins drawn nets l start is long i lt =
    let at : slice_get (pin_nets pins drawn) i ≡ Some (get_or l i 0) = subst (λ (m : List ℕ). slice_get m i ≡ Some (get_or l i 0)) is (slice_get-get_or l i 0 lt) in
    let low = slice_get_within drawn (get_or l i 0) true (pin_true pins drawn (get_or l i 0) (listed (pin_nets pins drawn) i (get_or l i 0) at)).1 in
    omega (arith, low, long)

pub nets_inside : (nets places out : List ℕ) (start count : ℕ) → out ≡ map (λ b. get_or nets (start + b) 0) places → ((i : ℕ) → i < length places → start + get_or places i 0 < length nets) → ((i : ℕ) → i < length nets → get_or nets i 0 < count)
    → (i : ℕ) → i < length out → get_or out i 0 < count
nets_inside nets places out start count is inside low i lt =
    let f : ℕ → ℕ = λ b. get_or nets (start + b) 0 in
    let long : length out ≡ length places = ap (λ (m : List ℕ). length m) is ∙ length-map places f in
    let less : i < length places = omega (arith, lt, long) in
    let at = map_to f places i (get_or places i 0) (slice_get-get_or places i 0 less) in
    let same : get_or out i 0 ≡ f (get_or places i 0) = ap (λ (m : List ℕ). get_or m i 0) is ∙ get_or_from_slice_get (map f places) i (f (get_or places i 0)) 0 at in
    subst (λ n. n < count) (sym same) (low (start + get_or places i 0) (inside i less))

module _ (d : Design) (w : Wiring) (nets : ℕ → CellNets) (pins : ℕ → CellPins) (drawn : ℕ → List Bool) (circuits : List ℕ) (cell : ℕ) (v : CellNets) where
  -- the call of placement n
  new_call : AreNetsOver d w nets cell v → nets cell ≡ v → (n : ℕ) (p : Place) (old new : List ℕ) (before after : List CallRow) (own : ℕ → ℕ → List Rect) → IsPlaced d cell n p → length (drawn p.cell) ≡ (nets p.cell).count
      → (h : HasCall circuits p.cell (pin_nets (pins p.cell) (drawn p.cell)) v.net_of (own_count v.items + sizes_before nets (placed_cells d cell) n) old new before after) → IsCallOf (tables_with own nets) pins drawn circuits cell n p new h.row
  new_call are same n p old new before after own placed long h = record {
    circuit = h.circuit;
    count = h.nets.count ∙ length-map (pin_nets (pins p.cell) (drawn p.cell)) (λ b. get_or v.net_of (start + b) 0);
    each = λ i inner outer at there.
        let f : ℕ → ℕ = λ b. get_or v.net_of (start + b) 0 in
        let drawn_there = (pin_true (pins p.cell) (drawn p.cell) inner (listed (pin_nets (pins p.cell) (drawn p.cell)) i inner at)).1 in
        let low = slice_get_within (drawn p.cell) inner true drawn_there in
        let lt : inner < (nets p.cell).count = omega (arith, low, long) in
        let z : own_count v.items + (sizes_before nets (placed_cells d cell) n + inner) ≡ start + inner = omega arith in
        let item : slice_get v.items (start + inner) ≡ Some (Child n inner) = subst (λ k. slice_get v.items k ≡ Some (Child n inner)) z (stands d w nets cell v are n inner p placed lt) in
        let end = inside d w nets cell v are n p placed in
        let has : slice_get v.net_of (start + inner) ≡ Some (f inner) = slice_get-get_or v.net_of (start + inner) 0 (omega (arith, end, lt)) in
        let net : IsNetOf v (Child n inner) (f inner) = (start + inner, record { listed = item; numbered = has }) in
        (f inner, h.nets.each i (f inner) outer (map_to f (pin_nets (pins p.cell) (drawn p.cell)) i inner at) there, subst (λ u. IsNetOf u (Child n inner) (f inner)) (sym same) net);
  }
    where
      start : ℕ
      start = own_count v.items + sizes_before nets (placed_cells d cell) n

  pub no_calls : (old : List ℕ) → AreCallsTo d nets pins drawn circuits cell 0 old old []
  no_calls old = record {
    calls = [];
    placements = λ k. ((λ h. absurd h), (λ h. let lt = h.0 in absurd (let z : ⊥ = omega (arith, lt) in z)));
    rising = tt;
    count = refl;
    each = λ own a k p row at placed there. (let z : ⊥ = cc in absurd z);
    kept = λ i x h. h;
    numbered = refl;
  }

  pub one_place : AreNetsOver d w nets cell v → nets cell ≡ v → (n : ℕ) (p : Place) (old mid new : List ℕ) (before after : List CallRow) → IsPlaced d cell n p → length (drawn p.cell) ≡ (nets p.cell).count
      → AddsCall circuits p.cell (pin_nets (pins p.cell) (drawn p.cell)) v.net_of (own_count v.items + sizes_before nets (placed_cells d cell) n) mid new before after
      → AreCallsTo d nets pins drawn circuits cell n old mid before → AreCallsTo d nets pins drawn circuits cell (n + 1) old new after
  one_place are same n p old mid new before after placed long (inr none) h =
      subst (λ l. AreCallsTo d nets pins drawn circuits cell (n + 1) old l after) (sym none.nets) (subst (λ l. AreCallsTo d nets pins drawn circuits cell (n + 1) old mid l) (sym none.same) (record {
        calls = h.calls;
        placements = λ k. (
          (λ l. let r = (h.placements k).0 l in let lt = r.0 in (omega (arith, lt), r.1, r.2, r.3)),
          (λ r. elim (ℕ_discrete k n) [
            | yes e ↦
                let other : IsPlaced d cell n r.1 = subst (λ j. IsPlaced d cell j r.1) e r.2 in
                let is : r.1 ≡ p = same_Some r.1 p (sym (at_placed d cell n r.1 other) ∙ at_placed d cell n p placed) in
                absurd (none.none (subst (λ (q : Place). IsListed q.cell circuits) is r.3))
            | no not ↦ let lt = r.0 in (h.placements k).1 (omega (arith, lt, not), r.1, r.2, r.3)
          ]),
        );
        rising = h.rising;
        count = h.count;
        each = h.each;
        kept = h.kept;
        numbered = h.numbered;
      }))
  one_place are same n p old mid new before after placed long (inl call) h =
      subst (λ l. AreCallsTo d nets pins drawn circuits cell (n + 1) old new l) (sym call.last) (record {
        calls = h.calls ++ n ∷ [];
        placements = λ k. (
          (λ l. elim (either_side h.calls (n ∷ []) k l) [
            | inl a ↦ let r = (h.placements k).0 a in let lt = r.0 in (omega (arith, lt), r.1, r.2, r.3)
            | inr b ↦ elim b [
              | inl e ↦ (omega (arith, e), p, subst (λ j. IsPlaced d cell j p) (sym e) placed, listed circuits call.row.circuit p.cell call.circuit)
              | inr f ↦ absurd f
            ]
          ]),
          (λ r. elim (ℕ_discrete k n) [
            | yes e ↦ in_right h.calls (n ∷ []) k (inl e)
            | no not ↦ let lt = r.0 in in_left h.calls (n ∷ []) k ((h.placements k).1 (omega (arith, lt, not), r.1, r.2, r.3))
          ]),
        );
        rising = rising_push h.calls n (λ k l. ((h.placements k).0 l).0) h.rising;
        count = (let a = push_long before call.row in let b = push_long h.calls n in let c = h.count in omega (arith, a, b, c));
        each = λ own a k q row at there its. elim (at_push h.calls n a k at) [
          | inl e ↦ elim (at_push before call.row a row its) [
            | inl f ↦ call_kept (tables_with own nets) pins drawn circuits cell k q mid new row call.nets.kept (h.each own a k q row e there f)
            | inr f ↦ absurd (let lt = slice_get_within h.calls a k e in let g = f.0 in let c = h.count in let z : ⊥ = omega (arith, lt, g, c) in z)
          ]
          | inr e ↦ elim (at_push before call.row a row its) [
            | inl f ↦ absurd (let lt = slice_get_within before a row f in let g = e.0 in let c = h.count in let z : ⊥ = omega (arith, lt, g, c) in z)
            | inr f ↦
                let here : IsPlaced d cell n q = subst (λ j. IsPlaced d cell j q) (sym e.1) there in
                let is : p ≡ q = same_Some p q (sym (at_placed d cell n p placed) ∙ at_placed d cell n q here) in
                let made = new_call are same n p mid new before after own placed long call in
                subst (λ (z : Place). IsCallOf (tables_with own nets) pins drawn circuits cell k z new row) is
                (subst (λ j. IsCallOf (tables_with own nets) pins drawn circuits cell j p new row) e.1
                (subst (λ (z : CallRow). IsCallOf (tables_with own nets) pins drawn circuits cell n p new z) f.1 made))
          ]
        ];
        kept = λ i x k. call.nets.kept i x (h.kept i x k);
        numbered = subst (λ l. AreNumbered (length new) (length old) l) (sym (flat_map-append (λ (r : CallRow). r.nets) before (call.row ∷ [])))
            (numbered_on (length new) (length mid) (length old) (flat_map (λ (r : CallRow). r.nets) before) (flat_map (λ (r : CallRow). r.nets) (call.row ∷ [])) h.numbered
            (subst (λ l. AreNumbered (length new) (length mid) l) (sym (append-nil call.row.nets)) call.nets.numbered));
      })

-- after n placements
pub record AreRowsTo (d : Design) (nets : ℕ → CellNets) (pins : ℕ → CellPins) (drawn : ℕ → List Bool) (circuits : List ℕ) (cell : ℕ) (v : CellNets) (size : ℕ) (old : List ℕ) (n count : ℕ) (new : List ℕ) (start : ℕ) (rows : List CallRow) : Type 0 where
  pub same : count ≡ size
  pub stands : start ≡ own_count v.items + sizes_before nets (placed_cells d cell) n
  pub are : AreCallsTo d nets pins drawn circuits cell n old new rows

pub rows_none : (d : Design) (nets : ℕ → CellNets) (pins : ℕ → CellPins) (drawn : ℕ → List Bool) (circuits : List ℕ) (cell : ℕ) (v : CellNets) (size : ℕ) (old : List ℕ) (start : ℕ) (items : List Item) (rows : List CallRow) → items ≡ v.items → start ≡ own_count items → rows ≡ []
    → AreRowsTo d nets pins drawn circuits cell v size old 0 size old start rows
rows_none d nets pins drawn circuits cell v size old start items rows is at none = record {
  same = refl;
  stands = (let e = sizes_none nets (placed_cells d cell) in let f = ap own_count is in omega (arith, e, f, at));
  are = subst (λ l. AreCallsTo d nets pins drawn circuits cell 0 old old l) (sym none) (no_calls d w nets pins drawn circuits cell v old);
}
  where
    w : Wiring
    w = record { conductors = []; joins = []; grounds = []; globals = []; labels = [] }

pub rows_more : (d : Design) (w : Wiring) (nets : ℕ → CellNets) (pins : ℕ → CellPins) (drawn : ℕ → List Bool) (circuits : List ℕ) (cell : ℕ) (v : CellNets) → AreNetsOver d w nets cell v → nets cell ≡ v → (cells : List ℕ) → cells ≡ placed_cells d cell
    → (size : ℕ) (old : List ℕ) (n count more : ℕ) (mid new : List ℕ) (start here : ℕ) (l : List ℕ) (before after : List CallRow) → n < length cells → l ≡ v.net_of → length (drawn (get_or cells n 0)) ≡ (nets (get_or cells n 0)).count → here ≡ length (drawn (get_or cells n 0)) → more ≡ count
    → AddsCall circuits (get_or cells n 0) (pin_nets (pins (get_or cells n 0)) (drawn (get_or cells n 0))) l start mid new before after → AreRowsTo d nets pins drawn circuits cell v size old n count mid start before → AreRowsTo d nets pins drawn circuits cell v size old (n + 1) more new (start + here) after
rows_more d w nets pins drawn circuits cell v over same cells are size old n count more mid new start here l before after lt is long counts kept adds h =
    let r = child_of d cell cells n are lt in
    let p = r.0 in
    let size_there = subst (λ e. length (drawn e) ≡ (nets e).count) r.2 long in
    let one = subst (λ e. AddsCall circuits e (pin_nets (pins e) (drawn e)) l start mid new before after) r.2 adds in
    let two = subst (λ z. AddsCall circuits p.cell (pin_nets (pins p.cell) (drawn p.cell)) z start mid new before after) is one in
    let three = subst (λ z. AddsCall circuits p.cell (pin_nets (pins p.cell) (drawn p.cell)) v.net_of z mid new before after) h.stands two in
    record {
      same = kept ∙ h.same;
      stands = (let e = sizes_next nets cells n lt in
          let f = ap (λ z. sizes_before nets z n) are in
          let g = ap (λ z. sizes_before nets z (n + 1)) are in
          let s = h.stands in
          omega (arith, e, f, g, s, counts, long));
      are = one_place d w nets pins drawn circuits cell v over same n p old mid new before after r.1 size_there three h.are;
    }
