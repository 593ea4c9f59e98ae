-- The nets of placed cells among items, cell by cell.
use Rattle.std.proofs.Common.{◌≡◌, inl, inr, ℕ, ◌+◌, ◌-◌, ◌<◌, Bool, List, Option, Some, None, get_or, length, map, slice_get, slice_index, sym, ◌∙◌, ap, subst, arith}
use Rattle.base_laws.proofs.Items.{map_from, map_to, one_entry}
use Rattle.std.proofs.Math.Decide.{ℕ_discrete}
use Rattle.std.proofs.lemmas.List.{length-map}
use Rattle.std.proofs.lemmas.Option.{slice_get-get_or}
use Rattle.cell_graph.proofs.Bridge.{lower, step_of}
use Rattle.cell_graph.specs.Linked.{Linked, IsSound, plain, plain_cell}
use Rattle.deep_tables.specs.Entries.{downward_cell}
use Rattle.deep_tables.specs.Gates.{gates_in, list_of, plain_gate}
use Rattle.deep_tables.specs.Nets.{nets_in, plain_item, plain_nets}
use Rattle.deep_tables.specs.declared.gates.CellGates.{CellGates}
use Rattle.deep_tables.specs.declared.gates.Gate.{Gate}
use Rattle.deep_tables.specs.declared.nets.CellNets as code_nets
use Rattle.deep_tables.specs.declared.nets.Item as code
use Rattle.deep_tables.specs.declared.nets.Item.TheVariants as code_item
use Rattle.flat_laws.proofs.Items.{items_sound}
use Rattle.flat_layout.specs.GateTables.{GateEntry}
use Rattle.flat_layout.specs.Regions.{Wiring}
use Rattle.flat_layout.specs.Layout.{Cell, IsPlaced, IsReached, Place}
use Rattle.flat_layout.specs.Nets as flat
use Rattle.flat_layout.specs.Nets.{Child, IsOf, Tables, no_cell}
use Rattle.flat_layout.specs.Pins.{IsNetOf}
use Rattle.net_link_laws.specs.Places.{places_of}
use Rattle.net_walk.specs.Walk.{place_of}
use Rattle.net_walk.specs.declared.cells.Element.{Element}
use Rattle.pin_phase.specs.Links.{AreChildrenIn, AreLinks, IsChildLink, IsLinkTo, is_busy}
use Rattle.pin_phase.specs.Sets.{Adds, Has, HaveNone, OfSome}
use Rattle.pin_phase.specs.declared.links.Link.{Link}
use Rattle.pin_phase.proofs.Added.{added_as, none_added}

same_link : (l k : Link) → l.job ≡ k.job → l.net ≡ k.net → l.above ≡ k.above → l.busy ≡ k.busy → l ≡ k
same_link l k a b c e =
    ap (λ v. let m : Link = record { job = v; net = l.net; above = l.above; busy = l.busy } in m) a
    ∙ ap (λ v. let m : Link = record { job = k.job; net = v; above = l.above; busy = l.busy } in m) b
    ∙ ap (λ v. let m : Link = record { job = k.job; net = k.net; above = v; busy = l.busy } in m) c
    ∙ ap (λ (v : Bool). let m : Link = record { job = k.job; net = k.net; above = k.above; busy = v } in m) e

child_place : (a b c d : ℕ) → code_item.Child a b ≡ code_item.Child c d → a ≡ c
child_place a b c d e = cc

child_net : (a b c d : ℕ) → code_item.Child a b ≡ code_item.Child c d → b ≡ d
child_net a b c d e = cc

-- a net of a placed cell was put to that cell's
pub child_put : (job : ℕ) (elements : List Element) (net_of : List ℕ) (busy : ℕ → Bool) (i : ℕ) (item : code.Item) (place net above : ℕ) (element : Element) (is : Bool) (old new : List (List Link))
    → item ≡ code_item.Child place net → slice_get elements place ≡ Some element → slice_get net_of i ≡ Some above → is ≡ busy above
    → Adds (λ (c : ℕ) (l : Link). (c ≡ element.cell) × (l ≡ record { job = job; net = net; above = above; busy = is })) old new → Adds (IsChildLink job elements net_of busy i item) old new
child_put job elements net_of busy i item place net above element is old new child there numbered same h =
    let link : Link = record { job = job; net = net; above = above; busy = is } in
    added_as (λ (c : ℕ) (l : Link). (c ≡ element.cell) × (l ≡ link)) (IsChildLink job elements net_of busy i item) old new (λ c l. (
      (λ e. record {
        place = place;
        element = element;
        child = child ∙ ap (λ n. code_item.Child place n) (sym (ap (λ (k : Link). k.net) e.1));
        there = there;
        here = sym e.0;
        numbered = numbered ∙ ap Some (sym (ap (λ (k : Link). k.above) e.1));
        job = ap (λ (k : Link). k.job) e.1;
        busy = ap (λ (k : Link). k.busy) e.1 ∙ same ∙ ap busy (sym (ap (λ (k : Link). k.above) e.1));
      }),
      (λ k.
          let e : code_item.Child k.place l.net ≡ code_item.Child place net = sym k.child ∙ child in
          let at : k.place ≡ place = child_place k.place l.net place net e in
          let one : k.element ≡ element = one_entry (slice_get elements place) k.element element (subst (λ j. slice_get elements j ≡ Some k.element) at k.there) there in
          let up : l.above ≡ above = one_entry (slice_get net_of i) l.above above k.numbered numbered in
          (sym k.here ∙ ap (λ (x : Element). x.cell) one, same_link l link k.job (child_net k.place l.net place net e) up (k.busy ∙ ap busy up ∙ sym same))),
    )) h

-- another item is none
pub other_put : (job : ℕ) (elements : List Element) (net_of : List ℕ) (busy : ℕ → Bool) (i : ℕ) (item : code.Item) (lists : List (List Link)) → ((place net : ℕ) → item ≡ code_item.Child place net → ⊥)
    → Adds (IsChildLink job elements net_of busy i item) lists lists
other_put job elements net_of busy i item lists not = none_added (IsChildLink job elements net_of busy i item) lists (λ c l k. not k.place l.net k.child)

-- the links of the first n jobs
pub record AreLinksTo (d : Linked) (t : Tables) (gates : ℕ → List GateEntry) (n : ℕ) (lists : List (List Link)) : Type 0 where
  pub count : length lists ≡ length d.cells
  pub each : (cell : ℕ) (l : Link) → Has lists cell l → IsLinkTo d t gates cell l × (l.job < n)
  pub all : (cell : ℕ) (l : Link) → IsLinkTo d t gates cell l → l.job < n → Has lists cell l

pub links_none : (d : Linked) (t : Tables) (gates : ℕ → List GateEntry) (n : ℕ) (lists : List (List Link)) → n ≡ length d.cells → HaveNone n lists → AreLinksTo d t gates 0 lists
links_none d t gates n lists e h = record {
  count = h.count ∙ e;
  each = λ cell l m. absurd (h.none cell l m);
  all = λ cell l is lt. absurd (let z : ⊥ = omega (arith, lt) in z);
}

pub links_all : (d : Linked) (t : Tables) (gates : ℕ → List GateEntry) (n : ℕ) (lists : List (List Link)) → n ≡ length d.order → AreLinksTo d t gates n lists → AreLinks d t gates lists
links_all d t gates n lists e h = record {
  count = h.count;
  each = λ cell l m. (h.each cell l m).0;
  all = λ cell l is. h.all cell l is (let lt = is.job_in in omega (arith, lt, e));
}

child_of : (item : code.Item) (k b : ℕ) → plain_item item ≡ Child k b → item ≡ code_item.Child k b
child_of (code_item.Own c r) k b e = absurd (let z : ⊥ = cc in z)
child_of (code_item.Child j n) k b e = cc
child_of (code_item.Global g) k b e = absurd (let z : ⊥ = cc in z)

-- the links of one job more
module _ (d : Linked) (t : Tables) (gates : ℕ → List GateEntry) (job : ℕ) (elements : List Element) (v : code_nets.CellNets) (busy : ℕ → Bool) (old new : List (List Link)) (lt : job < length d.order) (inside : downward_cell d job < length d.cells)
    (nets : plain_nets v ≡ t.nets (downward_cell d job)) (places : map place_of elements ≡ places_of (plain d) (downward_cell d job))
    (is_busy_at : (x : ℕ) → busy x ≡ is_busy x v.net_of.items (gates (downward_cell d job)))
    (added : Adds (OfSome (IsChildLink job elements v.net_of.items busy) v.items.items) old new) (h : AreLinksTo d t gates job old) where
  abbrev parent : ℕ
  parent = downward_cell d job

  cell_there : slice_get (plain d).cells parent ≡ Some (get_or (plain d).cells parent no_cell)
  cell_there = slice_get-get_or (plain d).cells parent no_cell (let e : length (map plain_cell d.cells) ≡ length d.cells = length-map d.cells plain_cell in omega (arith, inside, e))

  placed_at : (k : ℕ) (element : Element) → slice_get elements k ≡ Some element → IsPlaced (plain d) parent k (place_of element)
  placed_at k element at = (get_or (plain d).cells parent no_cell, cell_there, subst (λ (l : List Place). slice_get l k ≡ Some (place_of element)) places (map_to place_of elements k element at))

  link_from : (cell : ℕ) (l : Link) → OfSome (IsChildLink job elements v.net_of.items busy) v.items.items cell l → IsLinkTo d t gates cell l
  link_from cell l (i, item, at, k) =
      let e = k.job in
      let there : IsOf (t.nets parent) l.above i (Child k.place l.net) = subst (λ (n : flat.CellNets). IsOf n l.above i (Child k.place l.net)) nets
      (record { listed = map_to plain_item v.items.items i item at ∙ ap (λ x. Some (plain_item x)) k.child; numbered = k.numbered }) in
      record {
        job_in = subst (λ j. j < length d.order) (sym e) lt;
        number = k.place;
        place = place_of k.element;
        placed = subst (λ j. IsPlaced (plain d) (downward_cell d j) k.place (place_of k.element)) (sym e) (placed_at k.place k.element k.there);
        here = k.here;
        is_of = subst (λ j. IsNetOf (t.nets (downward_cell d j)) (Child k.place l.net) l.above) (sym e) (i, there);
        busy = k.busy ∙ is_busy_at l.above ∙ ap (λ (n : flat.CellNets). is_busy l.above n.net_of (gates parent)) nets ∙ ap (λ j. is_busy l.above (t.nets (downward_cell d j)).net_of (gates (downward_cell d j))) (sym e);
      }

  link_to : (cell : ℕ) (l : Link) → IsLinkTo d t gates cell l → l.job ≡ job → OfSome (IsChildLink job elements v.net_of.items busy) v.items.items cell l
  link_to cell l is e =
      let of : IsNetOf (t.nets parent) (Child is.number l.net) l.above = subst (λ j. IsNetOf (t.nets (downward_cell d j)) (Child is.number l.net) l.above) e is.is_of in
      let own : IsOf (plain_nets v) l.above of.0 (Child is.number l.net) = subst (λ (n : flat.CellNets). IsOf n l.above of.0 (Child is.number l.net)) (sym nets) of.1 in
      let item = map_from plain_item v.items.items of.0 (Child is.number l.net) own.listed in
      let placed = subst (λ j. IsPlaced (plain d) (downward_cell d j) is.number is.place) e is.placed in
      let same : placed.0 ≡ get_or (plain d).cells parent no_cell = one_entry (slice_get (plain d).cells parent) placed.0 (get_or (plain d).cells parent no_cell) placed.1 cell_there in
      let listed : slice_get (places_of (plain d) parent) is.number ≡ Some is.place = subst (λ (c : Cell). slice_get c.places is.number ≡ Some is.place) same placed.2 in
      let element = map_from place_of elements is.number is.place (subst (λ (l : List Place). slice_get l is.number ≡ Some is.place) (sym places) listed) in (
        of.0,
        item.0,
        item.1,
        record {
          place = is.number;
          element = element.0;
          child = child_of item.0 is.number l.net item.2;
          there = element.1;
          here = ap (λ (p : Place). p.cell) element.2 ∙ is.here;
          numbered = own.numbered;
          job = e;
          busy = is.busy ∙ ap (λ j. is_busy l.above (t.nets (downward_cell d j)).net_of (gates (downward_cell d j))) e ∙ sym (is_busy_at l.above ∙ ap (λ (n : flat.CellNets). is_busy l.above n.net_of (gates parent)) nets);
        },
      )

  pub links_more : AreLinksTo d t gates (job + 1) new
  links_more = record {
    count = added.count ∙ h.count;
    each = λ cell l m. elim ((added.each cell l).0 m) [
      | inl a ↦ let k = h.each cell l a in (k.0, (let less = k.1 in omega (arith, less)))
      | inr o ↦ (link_from cell l o, (let e = o.3.job in omega (arith, e)))
    ];
    all = λ cell l is less. elim (ℕ_discrete l.job job) [
      | yes e ↦ (added.each cell l).1 (inr (link_to cell l is e))
      | no not ↦ (added.each cell l).1 (inl (h.all cell l is (omega (arith, less, not))))
    ];
  }

-- the gates that a table has
pub gates_listed : (o : Option CellGates) (l : List Gate) → list_of o ≡ Some l → gates_in o ≡ map plain_gate l
gates_listed None l e = absurd (let z : ⊥ = cc in z)
gates_listed (Some v) l e = ap (map plain_gate) (let f : v.gates.items ≡ l = cc in f)

-- the nets that a table has
pub nets_listed : (o : Option code_nets.CellNets) (v : code_nets.CellNets) (n : flat.CellNets) → o ≡ Some v → nets_in o ≡ n → plain_nets v ≡ n
nets_listed o v n e h = sym (ap nets_in e) ∙ h

-- the cell of a job is reached
pub reached_at : (d : Linked) (order : List ℕ) (job : ℕ) → IsSound d → order ≡ d.order → job < length order → IsReached (plain d) (slice_index order (length order - 1 - job))
reached_at d order job sound e lt =
    subst (λ (o : List ℕ). IsReached (plain d) (slice_index o (length o - 1 - job))) (sym e)
    (let f = ap (λ (o : List ℕ). length o) e in sound.order.reached (length d.order - 1 - job) (omega (arith, lt, f)))

-- each item of a placement is one of an element of a known cell
pub children_known : (d : Linked) (w : Wiring) (t : Tables) (parent cells : ℕ) (elements : List Element) (v : code_nets.CellNets) → IsSound d → flat.AreNets (plain d) w t parent (t.nets parent) → plain_nets v ≡ t.nets parent
    → map place_of elements ≡ places_of (plain d) parent → parent < length d.cells → cells ≡ length d.cells → AreChildrenIn cells elements v.items.items
children_known d w t parent cells elements v sound right nets places inside count i item at place net e =
    let listed : slice_get (t.nets parent).items i ≡ Some (Child place net) = subst (λ (n : flat.CellNets). slice_get n.items i ≡ Some (Child place net)) nets (map_to plain_item v.items.items i item at ∙ ap (λ x. Some (plain_item x)) e) in
    let is = items_sound (plain d) w t parent (t.nets parent) right i (Child place net) listed in
    let p = is.0 in let placed = is.1 in
    let there : slice_get (plain d).cells parent ≡ Some (get_or (plain d).cells parent no_cell) = slice_get-get_or (plain d).cells parent no_cell (let f : length (map plain_cell d.cells) ≡ length d.cells = length-map d.cells plain_cell in omega (arith, inside, f)) in
    let same : placed.0 ≡ get_or (plain d).cells parent no_cell = one_entry (slice_get (plain d).cells parent) placed.0 (get_or (plain d).cells parent no_cell) placed.1 there in
    let k : slice_get (places_of (plain d) parent) place ≡ Some p = subst (λ (c : Cell). slice_get c.places place ≡ Some p) same placed.2 in
    let element = map_from place_of elements place p (subst (λ (l : List Place). slice_get l place ≡ Some p) (sym places) k) in
    let s = step_of d parent place p placed in
    let low = (lower d parent s.index s.from sound s.step.there).0 in
    let cell : element.0.cell ≡ s.from.cell = ap (λ (q : Place). q.cell) element.2 ∙ ap (λ (q : Place). q.cell) s.is in
    (element.0, element.1, subst (λ n. element.0.cell < n) (sym count) (subst (λ n. n < length d.cells) (sym cell) low))
