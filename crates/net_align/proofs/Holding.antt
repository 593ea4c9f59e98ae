-- The held nets and pins of flat circuits.
use Rattle.std.proofs.Common.{◌≡◌, ◌⊎◌, inl, inr, ℕ, zero, suc, ◌+◌, ◌<◌, ◌≤◌, Bool, true, false, cond, List, [], ◌∷◌, ◌++◌, length, map, Option, Some, slice_get, refl, sym, ◌∙◌, ap, subst, arith, true≢false}
use Rattle.base_laws.proofs.Items.{map_to}
use Rattle.std.proofs.lemmas.Bool.{cases_Bool}
use Rattle.std.specs.Prelude.{slice_set, slice_index, slice_index_or, flat_map, filter}
use Rattle.std.specs.Global.{Vec}
use Rattle.std.proofs.Math.Decide.{ℕ_discrete}
use Rattle.std.proofs.lemmas.List.{get_or-set_same, get_or-set_other, length-set}
use Rattle.std.proofs.lemmas.Option.{slice_get_within, slice_get-get_or}
use Rattle.call_order.specs.Order.{lists, IsCallOrder}
use Rattle.plain_netlist.specs.Lists.{IsListed}
use Rattle.plain_netlist.specs.Netlist.{CallRow, Circuit, Netlist, IsCircuit, IsCall, HasNet}
use Rattle.plain_netlist.specs.Devices.{terminal_nets}
use Rattle.plain_netlist.specs.Sound.{IsGood}
use Rattle.plain_netlist.proofs.Members.{listed, position, in_left, in_right, either_side, in_all, from_all}
use Rattle.align_laws.specs.Cut.{OnDevice}
use Rattle.align_laws.specs.Lists.{FlatCircuit, plain}
use Rattle.align_laws.proofs.FlatGood.{flat_is_good}
use Rattle.net_model.specs.Faults.{call_lists}
use Rattle.net_model.specs.Rows.{plain_call, plain_circuit}
use Rattle.net_model.specs.declared.netlist.Circuit.{Circuit as CircuitRow}
use Rattle.net_align.specs.Laid.{AreBelow, AreCircuitsBelow}
use Rattle.net_align.specs.Flattened.{Flattening, IsFlattening}
use Rattle.net_align.specs.Kept.{AreHeights, AreHeldPins, AreHeldBelow}
use Rattle.net_align.specs.Sights.{has_number, is_kept, pins_of, net_of, call_nets, inner_sights, own_pins, sights}
use Rattle.net_align.proofs.Partnered.{at_or}
use Rattle.net_align.proofs.Seeing.{listed_has, flat_map_on}
use Rattle.net_align.proofs.Walking.{has_place, one_place, place_low}

pub in_filter : (p : ℕ → Bool) (xs : List ℕ) (x : ℕ) → IsListed x xs → p x ≡ true → IsListed x (filter p xs)
in_filter p [] x h e = absurd h
in_filter p (y ∷ xs) x (inl same) e = let t : p y ≡ true = ap p (sym same) ∙ e in rw t (inl same)
in_filter p (y ∷ xs) x (inr h) e = elim (cases_Bool (p y)) [
  | inl t ↦ rw t (inr (in_filter p xs x h e))
  | inr f ↦ rw f (in_filter p xs x h e)
]

pub from_filter : (p : ℕ → Bool) (xs : List ℕ) (x : ℕ) → IsListed x (filter p xs) → IsListed x xs × (p x ≡ true)
from_filter p [] x h = absurd h
from_filter p (y ∷ xs) x h = elim (cases_Bool (p y)) [
  | inl t ↦
      let s : IsListed x (y ∷ filter p xs) = subst (λ (zs : List ℕ). IsListed x zs) (let e : filter p (y ∷ xs) ≡ y ∷ filter p xs = rw t refl in e) h in
      elim s [
        | inl e ↦ (inl e, ap p e ∙ t)
        | inr r ↦ let q = from_filter p xs x r in (inr q.0, q.1)
      ]
  | inr f ↦
      let s : IsListed x (filter p xs) = subst (λ (zs : List ℕ). IsListed x zs) (let e : filter p (y ∷ xs) ≡ filter p xs = rw f refl in e) h in
      let q = from_filter p xs x s in (inr q.0, q.1)
]

from_map : {A : Type 0} (f : A → ℕ) (xs : List A) (y : ℕ) → IsListed y (map f xs) → (x : A) × IsListed x xs × (f x ≡ y)
from_map f [] y h = absurd h
from_map f (x ∷ xs) y (inl e) = (x, inl refl, sym e)
from_map f (x ∷ xs) y (inr h) = let r = from_map f xs y h in (r.0, inr r.1, r.2)

in_map : {A : Type 0} (f : A → ℕ) (xs : List A) (x : A) → IsListed x xs → IsListed (f x) (map f xs)
in_map f [] x h = h
in_map f (y ∷ xs) x (inl e) = inl (ap f e)
in_map f (y ∷ xs) x (inr h) = inr (in_map f xs x h)

pub all_below : (xs : List ℕ) (n : ℕ) → ((m : ℕ) → IsListed m xs → m < n) → AreBelow xs n
all_below xs n h i low = h (slice_index xs i) (listed xs i (slice_index xs i) (slice_get-get_or xs i 0 low))

-- a call of a kept circuit is on the net at one of the pins that the table has
abbrev pub OnTablePin : Netlist → List (Option ℕ) → List (List ℕ) → ℕ → ℕ → Type 0
OnTablePin f numbers held c n = (k : ℕ) × (row : CallRow) × (p : ℕ) × IsCall f c k row × (is_kept numbers row.circuit ≡ true)
    × IsListed p (pins_of held row.circuit) × (net_of row.nets p ≡ n)

module _ (f : Netlist) (numbers : List (Option ℕ)) (held : List (List ℕ)) (c : ℕ) (x : Circuit) (is : IsCircuit f c x) where
  pub sight_on : (n : ℕ) → IsListed n (inner_sights numbers held x) → OnDevice f c n ⊎ OnTablePin f numbers held c n
  sight_on n h = elim (either_side (flat_map terminal_nets x.devices) (flat_map (call_nets numbers held) x.calls) n h) [
    | inl l ↦
        let d = from_all terminal_nets x.devices n l in
        let j = position x.devices d.0 d.1 in
        inl (j.0, d.0, (x, is, j.1), d.2)
    | inr l ↦
        let r = from_all (call_nets numbers held) x.calls n l in
        let k = position x.calls r.0 r.1 in
        elim (cases_Bool (is_kept numbers r.0.circuit)) [
          | inl t ↦
              let s : IsListed n (map (net_of r.0.nets) (pins_of held r.0.circuit)) = subst (λ (b : Bool). IsListed n (cond b (map (net_of r.0.nets) (pins_of held r.0.circuit)) [])) t r.2 in
              let q = from_map (net_of r.0.nets) (pins_of held r.0.circuit) n s in
              inr (k.0, r.0, q.0, (x, is, k.1), t, q.1, q.2)
          | inr e ↦
              let s : IsListed n [] = subst (λ (b : Bool). IsListed n (cond b (map (net_of r.0.nets) (pins_of held r.0.circuit)) [])) e r.2 in
              absurd s
        ]
  ]

  one_circuit : (y : Circuit) → IsCircuit f c y → y ≡ x
  one_circuit y h = let s : Some y ≡ Some x = sym h ∙ is in cc

  pub on_sight : (n : ℕ) → OnDevice f c n ⊎ OnTablePin f numbers held c n → IsListed n (inner_sights numbers held x)
  on_sight n (inl d) =
      let e : d.2.0 ≡ x = one_circuit d.2.0 d.2.1 in
      let l : IsListed d.1 x.devices = listed x.devices d.0 d.1 (subst (λ (y : Circuit). slice_get y.devices d.0 ≡ Some d.1) e d.2.2) in
      in_left (flat_map terminal_nets x.devices) (flat_map (call_nets numbers held) x.calls) n (in_all terminal_nets x.devices d.1 n l d.3)
  on_sight n (inr r) =
      let e : r.3.0 ≡ x = one_circuit r.3.0 r.3.1 in
      let row = r.1 in
      let l : IsListed row x.calls = listed x.calls r.0 row (subst (λ (y : Circuit). slice_get y.calls r.0 ≡ Some row) e r.3.2) in
      let at : IsListed n (map (net_of row.nets) (pins_of held row.circuit)) = subst (λ (m : ℕ). IsListed m (map (net_of row.nets) (pins_of held row.circuit))) r.6 (in_map (net_of row.nets) (pins_of held row.circuit) r.2 r.5) in
      in_right (flat_map terminal_nets x.devices) (flat_map (call_nets numbers held) x.calls) n
      (in_all (call_nets numbers held) x.calls row n l (subst (λ (b : Bool). IsListed n (cond b (map (net_of row.nets) (pins_of held row.circuit)) [])) (sym r.4) at))

module _ (g : Netlist) (goes : ℕ → Bool) (f : Flattening) (h : IsFlattening g goes f) where
  abbrev pub flat_of : ℕ → Circuit
  flat_of c = plain (f.flats c)

  pub good : IsGood f.flat f.height
  good = flat_is_good g f.flat goes f.flats f.height h.good h.are

  pub flat_there : (c : ℕ) → c < length g.circuits → IsCircuit f.flat c (flat_of c)
  flat_there c low =
      let x = get_circuit c low in h.are.there c x.0 x.1
    where
      get_circuit : (d : ℕ) → d < length g.circuits → (x : Circuit) × IsCircuit g d x
      get_circuit d l =
          let none : Circuit = record { name = []; nets = []; pins = []; devices = []; calls = [] } in
          (slice_index_or g.circuits d none, slice_get-get_or g.circuits d none l)

  pub flat_low : (c : ℕ) (x : Circuit) → IsCircuit f.flat c x → c < length g.circuits
  flat_low c x is = let r = h.are.back c x is in slice_get_within g.circuits c r.0 r.1

  pub call_low : (c k : ℕ) (row : CallRow) → IsCall f.flat c k row → row.circuit < length g.circuits
  call_low c k row call = let d = good.called c k row call in flat_low row.circuit d.0 d.1

  -- the pins of the table are pins
  abbrev pub ArePins : List (Option ℕ) → List (List ℕ) → ℕ → Type 0
  ArePins numbers held c = (k : ℕ) (row : CallRow) (p : ℕ) → IsCall f.flat c k row → is_kept numbers row.circuit ≡ true → IsListed p (pins_of held row.circuit) → IsListed p (flat_of row.circuit).pins

  -- a pin of a called circuit is a place among the call's nets
  pub pin_net : (c k p : ℕ) (row : CallRow) → IsCall f.flat c k row → IsListed p (flat_of row.circuit).pins → slice_get row.nets p ≡ Some (net_of row.nets p)
  pin_net c k p row call l =
      let d = good.called c k row call in
      let there = flat_there row.circuit (call_low c k row call) in
      let s : Some d.0 ≡ Some (flat_of row.circuit) = sym d.1 ∙ there in
      let e : d.0 ≡ flat_of row.circuit = cc in
      let q = position (flat_of row.circuit).pins p l in
      let same = good.pins row.circuit q.0 p (flat_of row.circuit, there, q.1) in
      let w = slice_get_within (flat_of row.circuit).pins q.0 p q.1 in
      let long : length row.nets ≡ length (flat_of row.circuit).pins = d.2 ∙ ap (λ (y : Circuit). length y.pins) e in
      slice_get-get_or row.nets p 0 (omega (arith, same, w, long))

  pub sight_net : (numbers : List (Option ℕ)) (held : List (List ℕ)) (c n : ℕ) → c < length g.circuits → ArePins numbers held c → IsListed n (inner_sights numbers held (flat_of c)) → HasNet f.flat c n
  sight_net numbers held c n low pins l = elim (sight_on f.flat numbers held c (flat_of c) (flat_there c low) n l) [
    | inl d ↦ good.within.devices c d.0 n d.1 d.2 d.3
    | inr r ↦ good.within.calls c r.0 r.2 n r.1 r.3 (pin_net c r.0 r.2 r.1 r.3 (pins r.0 r.1 r.2 r.3 r.4 r.5) ∙ ap Some r.6)
  ]

  pub net_low : (c n : ℕ) → c < length g.circuits → HasNet f.flat c n → n < length (flat_of c).nets
  net_low c n low has =
      let s : Some has.0 ≡ Some (flat_of c) = sym has.1 ∙ flat_there c low in
      let e : has.0 ≡ flat_of c = cc in
      subst (λ (y : Circuit). n < length y.nets) e has.2

  pub row_calls : (c : ℕ) (x : CircuitRow) → c < length g.circuits → plain_circuit x ≡ flat_of c → AreCircuitsBelow x.calls.items (length g.circuits)
  row_calls c x low is k r e =
      call_low c k (plain_call r) (plain_circuit x, subst (λ (y : Circuit). IsCircuit f.flat c y) (sym is) (flat_there c low), map_to plain_call x.calls.items k r e)

  pub row_nets : (numbers : List (Option ℕ)) (held : List (List ℕ)) (c : ℕ) (x : CircuitRow) → c < length g.circuits → plain_circuit x ≡ flat_of c → ArePins numbers held c
      → AreBelow (inner_sights numbers held (plain_circuit x)) (length x.nets.items)
  row_nets numbers held c x low is pins =
      subst (λ (y : Circuit). AreBelow (inner_sights numbers held y) (length y.nets)) (sym is)
      (all_below (inner_sights numbers held (flat_of c)) (length (flat_of c).nets) (λ m l. net_low c m low (sight_net numbers held c m low pins l)))

  pub row_sights : (numbers : List (Option ℕ)) (held : List (List ℕ)) (own : List ℕ) (c : ℕ) (x : CircuitRow) → c < length g.circuits → plain_circuit x ≡ flat_of c → ArePins numbers held c
      → own ≡ own_pins numbers held (flat_of c) → AreBelow (sights numbers held own (plain_circuit x)) (length x.nets.items)
  row_sights numbers held own c x low is pins e =
      subst (λ (y : Circuit). AreBelow (sights numbers held own y) (length y.nets)) (sym is)
      (all_below (sights numbers held own (flat_of c)) (length (flat_of c).nets) (λ m l. net_low c m low (elim (either_side own (inner_sights numbers held (flat_of c)) m l) [
        | inl o ↦
            let r = from_filter (has_number (inner_sights numbers held (flat_of c))) (flat_of c).pins m (subst (λ (t : List ℕ). IsListed m t) e o) in
            sight_net numbers held c m low pins (listed_has (inner_sights numbers held (flat_of c)) m r.1)
        | inr n ↦ sight_net numbers held c m low pins n
      ])))

  pub all_pins : (numbers : List (Option ℕ)) (held : List (List ℕ)) (c : ℕ) → AreHeldPins g f.flats numbers held → ArePins numbers held c
  all_pins numbers held c all k row p call kept l =
      (from_filter (has_number (inner_sights numbers held (flat_of row.circuit))) (flat_of row.circuit).pins p (subst (λ (t : List ℕ). IsListed p t) (all.each row.circuit kept) l)).0

  module _ (order : List ℕ) (is_order : IsCallOrder (call_lists g) order) (heights : AreHeights f order) (numbers : List (Option ℕ)) where
    call_before : (j c k : ℕ) (row : CallRow) → slice_get order j ≡ Some c → IsCall f.flat c k row → (i : ℕ) × (i < j) × (slice_get order i ≡ Some row.circuit)
    call_before j c k row at call =
        let p = has_place g order is_order row.circuit (call_low c k row call) in
        let a = heights p.0 row.circuit p.1 in
        let b = heights j c at in
        let l = good.lower c k row call in
        (p.0, omega (arith, a, b, l), p.1)

    own_same : (held other : List (List ℕ)) (c : ℕ) (x : Circuit) → IsCircuit f.flat c x → ((k : ℕ) (row : CallRow) → IsCall f.flat c k row → pins_of held row.circuit ≡ pins_of other row.circuit)
        → own_pins numbers held x ≡ own_pins numbers other x
    own_same held other c x is same =
        let calls : flat_map (call_nets numbers held) x.calls ≡ flat_map (call_nets numbers other) x.calls =
        flat_map_on (call_nets numbers held) (call_nets numbers other) x.calls (λ r l.
        let k = position x.calls r l in
        ap (λ (ps : List ℕ). cond (is_kept numbers r.circuit) (map (net_of r.nets) ps) []) (same k.0 r (x, is, k.1))) in
        ap (λ (t : List ℕ). filter (has_number (flat_map terminal_nets x.devices ++ t)) x.pins) calls

    pub pins_before : (n c : ℕ) (held : List (List ℕ)) → AreHeldBelow g f.flats numbers order n held → slice_get order n ≡ Some c → ArePins numbers held c
    pins_before n c held so_far at k row p call kept l =
        let b = call_before n c k row at call in
        (from_filter (has_number (inner_sights numbers held (flat_of row.circuit))) (flat_of row.circuit).pins p (subst (λ (t : List ℕ). IsListed p t) (so_far.done b.0 row.circuit b.1 b.2 kept) l)).0

    pub held_more : (n a : ℕ) (held new : List (List ℕ)) (pins : List ℕ) → slice_get order n ≡ Some a → AreHeldBelow g f.flats numbers order n held → new ≡ slice_set held a pins
        → pins ≡ own_pins numbers held (flat_of a) → AreHeldBelow g f.flats numbers order (n + 1) new
    held_more n a held new pins at so_far e own =
        let low : a < length held = let l = place_low g order is_order n a at in let k = so_far.long in omega (arith, l, k) in
        let other : (i d : ℕ) → i < n → slice_get order i ≡ Some d → pins_of (slice_set held a pins) d ≡ pins_of held d
        = λ i d l here. get_or-set_other held a d pins [] (λ same. let o = one_place g order is_order i n d here (at ∙ ap Some (sym same)) in absurd (omega (arith, o, l))) in
        let same_own : (j c : ℕ) → j < n + 1 → slice_get order j ≡ Some c → own_pins numbers (slice_set held a pins) (flat_of c) ≡ own_pins numbers held (flat_of c)
        = λ j c l here. own_same (slice_set held a pins) held c (flat_of c) (flat_there c (place_low g order is_order j c here)) (λ k row call.
        let b = call_before j c k row here call in
        other b.0 row.circuit (let m = b.1 in omega (arith, m, l)) b.2) in
        subst (λ (t : List (List ℕ)). AreHeldBelow g f.flats numbers order (n + 1) t) (sym e) (record {
          long = length-set held a pins ∙ so_far.long;
          done = λ j c l here kept. elim (ℕ_discrete j n) [
            | yes same ↦
                let s : Some c ≡ Some a = sym here ∙ (ap (λ (i : ℕ). slice_get order i) same ∙ at) in
                let k : c ≡ a = cc in
                ap (λ (i : ℕ). pins_of (slice_set held a pins) i) k ∙ (get_or-set_same held a pins [] low ∙ (own ∙ (ap (λ (i : ℕ). own_pins numbers held (flat_of i)) (sym k) ∙ sym (same_own j c l here))))
            | no not ↦
                let m : j < n = omega (arith, l, not) in
                other j c m here ∙ (so_far.done j c m here kept ∙ sym (same_own j c l here))
          ];
        })

    pub held_stays : (n a : ℕ) (held : List (List ℕ)) → slice_get order n ≡ Some a → is_kept numbers a ≡ false → AreHeldBelow g f.flats numbers order n held → AreHeldBelow g f.flats numbers order (n + 1) held
    held_stays n a held at off so_far = record {
      long = so_far.long;
      done = λ j c l here kept. elim (ℕ_discrete j n) [
        | yes same ↦
            let s : Some c ≡ Some a = sym here ∙ (ap (λ (i : ℕ). slice_get order i) same ∙ at) in
            let k : c ≡ a = cc in
            absurd (true≢false (sym kept ∙ (ap (λ (i : ℕ). is_kept numbers i) k ∙ off)))
        | no not ↦ so_far.done j c (omega (arith, l, not)) here kept
      ];
    }

    pub held_all : (n : ℕ) (held : List (List ℕ)) → length order ≤ n → ((c : ℕ) → is_kept numbers c ≡ true → c < length g.circuits) → AreHeldBelow g f.flats numbers order n held → AreHeldPins g f.flats numbers held
    held_all n held long low h = record {
      long = h.long;
      each = λ c kept. let p = has_place g order is_order c (low c kept) in h.done p.0 c (let w = slice_get_within order p.0 c p.1 in omega (arith, w, long)) p.1 kept;
    }

pub none_held : (g : Netlist) (f : ℕ → FlatCircuit) (numbers : List (Option ℕ)) (order : List ℕ) (n : ℕ) (held : List (List ℕ)) → length held ≡ length g.circuits → n ≡ 0 → AreHeldBelow g f numbers order n held
none_held g f numbers order n held long zeroed = record { long = long; done = λ j c l at kept. absurd (omega (arith, l, zeroed)) }

pub lists_set : (rows : List (Vec ℕ)) (a : ℕ) (v : Vec ℕ) → lists (slice_set rows a v) ≡ slice_set (lists rows) a v.items
lists_set [] a v = refl
lists_set (r ∷ rows) zero v = refl
lists_set (r ∷ rows) (suc a) v = ap (λ (t : List (List ℕ)). r.items ∷ t) (lists_set rows a v)

pub read_is : {A : Type 0} (xs : List A) (i : ℕ) (r x : A) → slice_get xs i ≡ Some x → r ≡ slice_index_or xs i r → r ≡ x
read_is xs i r x at e = e ∙ at_or xs i x r at
