-- A cell's pins and base names, from tags, links and the pins above.
use Rattle.std.proofs.Common.{◌≡◌, ◌⊎◌, ◌↔◌, inl, inr, ℕ, zero, suc, ◌-◌, ◌<◌, Bool, true, false, List, [], ◌∷◌, Option, Some, None, IsSomeAnd, get_or, length, map, slice_get, slice_index, refl, sym, ◌∙◌, ap, subst, arith}
use Rattle.std.proofs.lemmas.Bool.{or_cases, or_left, or_right}
use Rattle.std.proofs.Math.Decide.{ℕ_discrete}
use Rattle.std.proofs.lemmas.Option.{get_or_from_slice_get, slice_get-get_or, slice_get_within}
use Rattle.cell_graph.specs.Linked.{Linked, IsSound, plain}
use Rattle.net_marks.proofs.Listed.{gate_of, of_gate}
use Rattle.net_marks.specs.Marks.{has_terminal}
use Rattle.deep_tables.proofs.Pinning.{pins_over_any}
use Rattle.deep_tables.specs.Entries.{downward_cell}
use Rattle.deep_tables.specs.Gates.{AreRightGates}
use Rattle.deep_tables.specs.Nets.{AreRightNets}
use Rattle.deep_tables.specs.Pins.{AreCellPins, name_in, plain_pins}
use Rattle.deep_tables.specs.declared.pins.CellPins as code
use Rattle.flat_laws.proofs.Items.{items_sound}
use Rattle.flat_layout.specs.GateTables.{GateEntry}
use Rattle.flat_layout.specs.Layout.{Design, IsPlaced, IsReached}
use Rattle.flat_layout.specs.Nets.{AreNets, CellNets, Child, IsOf, Item, NetHolds, Tables}
use Rattle.flat_layout.specs.Pins.{ArePins, CellPins, IsAbove, IsBase, IsMarked, IsMarkedNet, IsNetOf, IsNodeTag, IsTag, IsUsed, IsUsedAbove}
use Rattle.flat_layout.specs.Regions.{At, Ground, Node, Wiring}
use Rattle.net_link_laws.proofs.Held.{known, under_placed}
use Rattle.net_link_laws.proofs.Numbering.{apart_items, one_place}
use Rattle.net_link_laws.specs.Laws.{AreNetsUnder}
use Rattle.plain_netlist.proofs.Members.{listed, position}
use Rattle.plain_netlist.specs.Lists.{AreApart, IsListed}
use Rattle.rule_layers.specs.Meaning.{device_rules, wiring_of}
use Rattle.rule_text.specs.Rules.{Rules}
use Rattle.table_laws.proofs.Pinned.{read_pins}
use Rattle.zone_phase.proofs.Entries.{job_reached}
use Rattle.pin_phase.specs.Bases.{AreBasesOf}
use Rattle.pin_phase.specs.Links.{AreLinks, IsLinkTo, is_busy, is_twice}
use Rattle.pin_phase.specs.Sets.{HasAny}
use Rattle.pin_phase.specs.Tagged.{AreTags}
use Rattle.pin_phase.specs.Used.{IsInUse, IsReadPin, IsUsedBy}
use Rattle.pin_phase.specs.declared.links.Link.{Link}
use Rattle.pin_phase.proofs.Twice.{at_twice, twice_at}

differ : (i j : ℕ) → (i ≡ j → ⊥) → (i < j) ⊎ (j < i)
differ zero zero not = absurd (not refl)
differ zero (suc j) not = inl (omega arith)
differ (suc i) zero not = inr (omega arith)
differ (suc i) (suc j) not = elim (differ i j (λ e. not (ap suc e))) [ inl lt ↦ inl (omega (arith, lt)) | inr lt ↦ inr (omega (arith, lt)) ]

-- a net that has an item has another exactly where its number stands twice
module _ (d : Design) (w : Wiring) (t : Tables) (cell : ℕ) (nets : AreNets d w t cell (t.nets cell)) where
  abbrev V : CellNets
  V = t.nets cell

  apart : AreApart V.items
  apart = subst AreApart (sym nets.items) (apart_items d w t cell)

  pub twice_other : (item : Item) (x : ℕ) → IsNetOf V item x → ((other : Item) × (other ≡ item → ⊥) × IsNetOf V other x) → is_twice x V.net_of ≡ true
  twice_other item x h o =
      elim (differ h.0 o.2.0 (λ e. o.1 (let g : slice_get V.items h.0 ≡ Some o.0 = subst (λ i. slice_get V.items i ≡ Some o.0) (sym e) o.2.1.listed in let f : slice_get V.items h.0 ≡ Some item = h.1.listed in let s : o.0 ≡ item = cc in s))) [
        | inl lt ↦ at_twice x V.net_of h.0 o.2.0 lt h.1.numbered o.2.1.numbered
        | inr lt ↦ at_twice x V.net_of o.2.0 h.0 lt o.2.1.numbered h.1.numbered
      ]

  other_at : (item : Item) (x i j : ℕ) → IsOf V x i item → (i ≡ j → ⊥) → slice_get V.net_of j ≡ Some x → (other : Item) × (other ≡ item → ⊥) × IsNetOf V other x
  other_at item x i j h not at =
      let lt : j < length V.items = let e = nets.numbers in let g = slice_get_within V.net_of j x at in omega (arith, e, g) in
      let other = get_or V.items j item in
      let there : slice_get V.items j ≡ Some other = slice_get-get_or V.items j item lt in
      (other, (λ e. not (one_place V.items i j item apart h.listed (there ∙ ap Some e))), (j, record { listed = there; numbered = at }))

  pub other_twice : (item : Item) (x : ℕ) → IsNetOf V item x → is_twice x V.net_of ≡ true → (other : Item) × (other ≡ item → ⊥) × IsNetOf V other x
  other_twice item x h e =
      let r = twice_at x V.net_of e in
      elim (ℕ_discrete h.0 r.0) [
        | yes same ↦ other_at item x h.0 r.1 h.1 (λ s. let lt = r.2 in let z : ⊥ = omega (arith, lt, same, s) in z) r.4
        | no not ↦ other_at item x h.0 r.0 h.1 not r.3
      ]

-- a mark at each pin net
get_true : (xs : List Bool) (b : ℕ) → slice_get xs b ≡ Some true → get_or xs b false ≡ true
get_true xs b h = get_or_from_slice_get xs b true false h

true_get : (xs : List Bool) (b : ℕ) → get_or xs b false ≡ true → slice_get xs b ≡ Some true
true_get [] b h = absurd (let z : ⊥ = cc in z)
true_get (x ∷ xs) zero h = ap Some h
true_get (x ∷ xs) (suc b) h = true_get xs b h

-- what a job read
read_at : (P : code.CellPins → Type 0) (o : Option code.CellPins) → IsSomeAnd o P → (v : code.CellPins) × (o ≡ Some v) × P v
read_at P None h = absurd h
read_at P (Some v) h = (v, refl, h)

-- one of a cell's links
pub link_at : (d : Linked) (t : Tables) (gates : ℕ → List GateEntry) (lists : List (List Link)) (cell : ℕ) (links : List Link) → AreLinks d t gates lists → links ≡ get_or lists cell []
    → (i : ℕ) (l : Link) → slice_get links i ≡ Some l → IsLinkTo d t gates cell l
link_at d t gates lists cell links are of i l at = are.each cell l (subst (IsListed l) of (listed links i l at))

-- what a phase knows when it works on a cell
pub record IsKnown (d : Linked) (r : Rules) (t : Tables) (gates : ℕ → List GateEntry) : Type 0 where
  pub sound : IsSound d
  pub nets : AreRightNets (plain d) (wiring_of r) t
  pub under : (cell : ℕ) → IsReached (plain d) cell → AreNetsUnder (plain d) (wiring_of r) t cell
  pub right : AreRightGates (plain d) (wiring_of r) t (device_rules r) gates

-- what was found for the cell of a job
pub record AreFound (d : Linked) (r : Rules) (t : Tables) (gates : ℕ → List GateEntry) (value : ℕ → Option code.CellPins) (cell : ℕ) (links : List Link) (pin : List Bool) (names : List (List ℕ)) : Type 0 where
  pub tags : List (List (List ℕ))
  pub are_tags : AreTags (plain d) (wiring_of r) t cell tags
  pub bases : AreBasesOf tags names
  pub lists : List (List Link)
  pub are_links : AreLinks d t gates lists
  pub of_cell : links ≡ get_or lists cell []
  pub count : length pin ≡ length tags
  pub marked : (x : ℕ) → (get_or pin x false ≡ true) ↔ (HasAny tags x ⊎ IsInUse value links x)
  pub read : (i : ℕ) (l : Link) → slice_get links i ≡ Some l → IsSomeAnd (value l.job) (AreCellPins (plain d) r (downward_cell d l.job))

module _ (d : Linked) (r : Rules) (t : Tables) (gates : ℕ → List GateEntry) (value : ℕ → Option code.CellPins) (cell : ℕ) (links : List Link) (pin : List Bool) (names : List (List ℕ))
    (k : IsKnown d r t gates) (reached : IsReached (plain d) cell) (f : AreFound d r t gates value cell links pin names)
    (pins : ℕ → CellPins) (above : (e : ℕ) → IsAbove (plain d) e cell → ArePins (plain d) (wiring_of r) t gates pins e (pins e)) where
  abbrev W : Wiring
  W = wiring_of r

  here : AreNets (plain d) W t cell (t.nets cell)
  here = k.under cell reached cell ([], refl)

  -- a tag marks its net
  marked_by : (x : ℕ) (s : List ℕ) (n : Node) → NetHolds (plain d) t cell x n → IsNodeTag (plain d) W cell n s → IsMarkedNet (plain d) W t cell x
  marked_by x s (At c q) holds tag = record { node = At c q; holds = holds; marked = (tag.0, tag.1) }
  marked_by x s (Ground g) holds tag = record { node = Ground g; holds = holds; marked = tt }

  -- and a marked net has one
  tag_by : (x : ℕ) (n : Node) → NetHolds (plain d) t cell x n → IsMarked (plain d) W cell n → (s : List ℕ) × IsTag (plain d) W t cell x s
  tag_by x (At c q) holds mark = (mark.0.string, (At c q, holds, (mark.0, mark.1, refl)))
  tag_by x (Ground g) holds mark =
      let nets = k.under cell reached in
      let lt : g < length W.globals =
      known (plain d) W t holds.holds.depth cell holds.item (Ground g) (λ j e p placed u. under_placed (plain d) W t cell j p placed nets e u)
      (items_sound (plain d) W t cell (t.nets cell) here holds.index holds.item holds.is_of.listed) holds.holds.holds in
      let s = get_or W.globals g [] in
      (s, (Ground g, holds, slice_get-get_or W.globals g [] lt))

  -- a link's parent
  up : (l : Link) (is : IsLinkTo d t gates cell l) → IsAbove (plain d) (downward_cell d l.job) cell
  up l is = (job_reached d l.job k.sound is.job_in, (is.number, [], (is.place, is.placed, is.here)))

  -- what was read of it is what the pins say
  read_same : (i : ℕ) (l : Link) → slice_get links i ≡ Some l → IsLinkTo d t gates cell l → (v : code.CellPins) × (value l.job ≡ Some v) × (plain_pins v ≡ pins (downward_cell d l.job))
  read_same i l at is =
      let v = read_at (AreCellPins (plain d) r (downward_cell d l.job)) (value l.job) (f.read i l at) in
      (v.0, v.1, read_pins (plain d) W t gates pins cell (downward_cell d l.job) (plain_pins v.0) above (up l is) (v.2 t gates k.nets k.right))

  link_of : (i : ℕ) (l : Link) → slice_get links i ≡ Some l → IsLinkTo d t gates cell l
  link_of = link_at d t gates f.lists cell links f.are_links f.of_cell

  used_above : (b i : ℕ) (l : Link) → slice_get links i ≡ Some l → l.net ≡ b → IsUsedBy value l → IsUsedAbove (plain d) t gates pins cell b
  used_above b i l at net used =
      let is = link_of i l at in let parent = downward_cell d l.job in
      let there = job_reached d l.job k.sound is.job_in in
      let nets = k.under parent there parent ([], refl) in
      let item : Item = Child is.number l.net in
      let used_here : IsUsed t gates pins parent item l.above = elim used [
        | inl busy ↦ elim (or_cases (has_terminal l.above (gates parent)) (is_twice l.above (t.nets parent).net_of) (sym is.busy ∙ busy)) [
          | inl e ↦ inr (inl (gate_of l.above (gates parent) e))
          | inr e ↦ inl (other_twice (plain d) W t parent nets item l.above is.is_of e)
        ]
        | inr p ↦
            let v = read_same i l at is in
            let on : IsReadPin (Some v.0) l.above = subst (λ (o : Option code.CellPins). IsReadPin o l.above) v.1 p in
            inr (inr (subst (λ (c : CellPins). slice_get c.pins l.above ≡ Some true) v.2 (true_get v.0.pin.items l.above on)))
      ] in
      subst (IsUsedAbove (plain d) t gates pins cell) net (record {
        parent = parent;
        number = is.number;
        place = is.place;
        net = l.above;
        reached = there;
        placed = is.placed;
        here = is.here;
        is_of = is.is_of;
        used = used_here;
      })

  -- the job of a parent
  job_of : (parent : ℕ) → IsReached (plain d) parent → (j : ℕ) × (j < length d.order) × (downward_cell d j ≡ parent)
  job_of parent there =
      let n = length d.order in
      let o = k.sound.order.all parent there in
      let lt = o.1 in
      let back : n - 1 - (n - 1 - o.0) ≡ o.0 = omega (arith, lt) in
      (n - 1 - o.0, omega (arith, lt), ap (slice_index d.order) back ∙ o.2)

  in_use : (b : ℕ) → IsUsedAbove (plain d) t gates pins cell b → IsInUse value links b
  in_use b u = from (job_of u.parent u.reached)
    where
      nets : AreNets (plain d) W t u.parent (t.nets u.parent)
      nets = k.under u.parent u.reached u.parent ([], refl)

      from : (j : ℕ) × (j < length d.order) × (downward_cell d j ≡ u.parent) → IsInUse value links b
      from (j, lt, e) =
          let l : Link = record { job = j; net = b; above = u.net; busy = is_busy u.net (t.nets u.parent).net_of (gates u.parent) } in
          let is : IsLinkTo d t gates cell l = record {
            job_in = lt;
            number = u.number;
            place = u.place;
            placed = subst (λ c. IsPlaced (plain d) c u.number u.place) (sym e) u.placed;
            here = u.here;
            is_of = subst (λ c. IsNetOf (t.nets c) (Child u.number b) u.net) (sym e) u.is_of;
            busy = ap (λ c. is_busy u.net (t.nets c).net_of (gates c)) (sym e);
          } in
          let p = position links l (subst (IsListed l) (sym f.of_cell) (f.are_links.all cell l is)) in
          let used : IsUsedBy value l = elim u.used [
            | inl o ↦ inl (or_right (has_terminal u.net (gates u.parent)) (is_twice u.net (t.nets u.parent).net_of) (twice_other (plain d) W t u.parent nets (Child u.number b) u.net u.is_of o))
            | inr rest ↦ elim rest [
              | inl g ↦ inl (or_left (has_terminal u.net (gates u.parent)) (is_twice u.net (t.nets u.parent).net_of) (of_gate u.net (gates u.parent) g))
              | inr q ↦
                  let v = read_same p.0 l p.1 is in
                  let on : slice_get (plain_pins v.0).pins u.net ≡ Some true = subst (λ (c : CellPins). slice_get c.pins u.net ≡ Some true) (sym (v.2 ∙ ap pins e)) q in
                  inr (subst (λ (o : Option code.CellPins). IsReadPin o u.net) (sym v.1) (get_true v.0.pin.items u.net on))
            ]
          ] in
          (p.0, l, p.1, refl, used)

  pin_of : (b : ℕ) → slice_get pin b ≡ Some true → IsMarkedNet (plain d) W t cell b ⊎ IsUsedAbove (plain d) t gates pins cell b
  pin_of b at = elim ((f.marked b).0 (get_true pin b at)) [
    | inl m ↦ let tag = (f.are_tags.each b m.0).0 m.1 in inl (marked_by b m.0 tag.0 tag.1 tag.2)
    | inr u ↦ inr (used_above b u.0 u.1 u.2 u.3 u.4)
  ]

  of_pin : (b : ℕ) → IsMarkedNet (plain d) W t cell b ⊎ IsUsedAbove (plain d) t gates pins cell b → slice_get pin b ≡ Some true
  of_pin b (inl m) = let tag = tag_by b m.node m.holds m.marked in true_get pin b ((f.marked b).1 (inl (tag.0, (f.are_tags.each b tag.0).1 tag.1)))
  of_pin b (inr u) = true_get pin b ((f.marked b).1 (inr (in_use b u)))

  base_of : (b : ℕ) (base : List ℕ) → slice_get names b ≡ Some base → IsBase (plain d) W t cell b base
  base_of b base at =
      let h = f.bases.each b base at in
      record {
        tags = h.tags;
        each = λ s. ((λ m. (f.are_tags.each b s).0 ((h.each s).0 m)), (λ m. (h.each s).1 ((f.are_tags.each b s).1 m)));
        rising = h.rising;
        joined = h.joined;
      }

  pub pins_here : ArePins (plain d) W t gates pins cell (record { pins = pin; names = names })
  pins_here = record {
    count = f.count ∙ f.are_tags.count;
    each = λ b lt. (pin_of b, of_pin b);
    named = f.bases.count ∙ f.are_tags.count;
    names = base_of;
  }

-- so a job's value is right
pub cell_pins : (d : Linked) (r : Rules) (t : Tables) (gates : ℕ → List GateEntry) (value : ℕ → Option code.CellPins) (cell : ℕ) (links : List Link) (v : code.CellPins) → IsKnown d r t gates → IsReached (plain d) cell
    → AreFound d r t gates value cell links v.pin.items (map name_in v.names.items) → AreCellPins (plain d) r cell v
cell_pins d r t gates value cell links v k reached f =
    pins_over_any d r t gates cell (plain_pins v) k.sound k.nets k.right reached
    (λ pins above. pins_here d r t gates value cell links v.pin.items (map name_in v.names.items) k reached f pins above)
