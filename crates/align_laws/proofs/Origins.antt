-- Each net of a flat circuit is from a place of its own, which gives its name; and where a flattened call puts a net.
use Rattle.std.proofs.Common.{◌≡◌, ◌⊎◌, inl, inr, ℕ, zero, suc, ◌<◌, Bool, true, cond, List, [], ◌∷◌, ◌++◌, map, Option, Some, None, slice_get, decimal, refl, sym, ◌∙◌, ap, ap₂, subst, arith}
use Rattle.base_laws.proofs.Items.{item_at, map_to, map_from}
use Rattle.std.proofs.lemmas.Bool.{cases_Bool}
use Rattle.std.proofs.lemmas.Option.{slice_get_within, same_Some, none-some}
use Rattle.plain_netlist.specs.Netlist.{CallRow, Circuit, Netlist, IsCircuit, IsCall, IsPin, HasNet, Slot, slot}
use Rattle.plain_netlist.specs.Sound.{IsGood}
use Rattle.align_laws.specs.Flat.{Maps, below, AreInlined}
use Rattle.align_laws.specs.Lists.{NetAt, FlatCircuit, over, indexed, pieces, joined_place, past, net_below, own_net, inner_nets, net_in, AreFlat, net_or, placing_of, maps_of, given_of, row_of, plain}
use Rattle.align_laws.proofs.Listed.{listed, net_at, fate_goes}
use Rattle.align_laws.proofs.Pieces.{append_cases, piece_of, indexed_of}
use Rattle.align_laws.proofs.CutList.{given_is, row_is}

-- what is left of a list stands further on in it
past_at : {B : Type 0} (xs : List ℕ) (ys : List B) (m : ℕ) (y : B) → slice_get (past xs ys) m ≡ Some y → slice_get ys (over xs m) ≡ Some y
past_at [] ys m y h = h
past_at (x ∷ xs) [] m y h = absurd (none-some y h)
past_at (x ∷ xs) (z ∷ ys) m y h = past_at xs ys m y h

over_one : {B : Type 0} (xs : List B) (m n : ℕ) → over xs m ≡ over xs n → m ≡ n
over_one [] m n h = h
over_one (x ∷ xs) m n h = over_one xs m n (let e : over xs m ≡ over xs n = cc in e)

pub option_cases : {B : Type 0} (o : Option B) → (o ≡ None) ⊎ ((b : B) × (o ≡ Some b))
option_cases None = inl refl
option_cases (Some b) = inr (b, refl)

-- where call k puts a slot of the circuit that it calls with these nets: a pin net on the call's net, another one call deeper
pub pin_slot : ℕ → Option ℕ → ℕ → Slot
pin_slot k (Some o) n = slot [] o
pin_slot k None n = slot (k ∷ []) n

pub entered : ℕ → List ℕ → List ℕ → ℕ → Slot
entered k nets [] n = pin_slot k (slice_get nets n) n
entered k nets (e ∷ es) n = slot (k ∷ e ∷ es) n

entered_below : (k : ℕ) (nets path : List ℕ) (n : ℕ) → (path ≡ [] → slice_get nets n ≡ None) → entered k nets path n ≡ slot (k ∷ path) n
unfolding entered pin_slot
entered_below k nets [] n h = ap (λ (o : Option ℕ). pin_slot k o n) (h refl)
entered_below k nets (e ∷ es) n h = refl

name_or : Option (List ℕ) → List ℕ
name_or (Some n) = n
name_or None = []

abbrev pub enter : ℕ → CallRow → Slot → Slot
enter k row s = entered k row.nets s.path s.net

-- the name of a net from there
pub net_name : Netlist → List ℕ → ℕ → ℕ → List ℕ
net_name g [] c n = name_or (slice_get (given_of g c).nets n)
net_name g (k ∷ ks) c n = 88 ∷ (decimal (suc k) ++ 47 ∷ net_name g ks (row_of g c k).circuit n)

module _ (g f : Netlist) (goes : ℕ → Bool) (flats : ℕ → FlatCircuit) (height : ℕ → ℕ) (good : IsGood g height) (flat : AreFlat g f goes flats) where
  abbrev v : Maps
  v = maps_of g goes flats

  are : AreInlined g f v height
  are = listed g f goes flats height good flat

  -- where net n of flat circuit c is from
  abbrev pub from : ℕ → ℕ → Slot
  from c n = v.net_from c n

  -- a net that a flattened call brings
  record Inner (c i : ℕ) (x : Circuit) (a : NetAt) : Type 0 where
    call : ℕ
    row : CallRow
    is : slice_get x.calls call ≡ Some row
    number : ℕ
    old : NetAt
    at : slice_get (flats row.circuit).nets (over row.nets number) ≡ Some old
    brought : a ≡ net_below call old
    place : over (indexed own_net x.nets) (joined_place (inner_nets goes flats) x.calls call number) ≡ i

  cases : (c i : ℕ) (x : Circuit) (a : NetAt) → IsCircuit g c x → slice_get (flats c).nets i ≡ Some a → ((name : List ℕ) × (slice_get x.nets i ≡ Some name) × (a ≡ own_net i name)) ⊎ Inner c i x a
  cases c i x a is h =
      let there : slice_get (indexed own_net x.nets ++ pieces (inner_nets goes flats) x.calls) i ≡ Some a = subst (λ (z : FlatCircuit). slice_get z.nets i ≡ Some a) (flat.each c x is) h in
      elim (append_cases (indexed own_net x.nets) (pieces (inner_nets goes flats) x.calls) i a there) [
        | inl k ↦ let o = indexed_of own_net x.nets i a k in inl (o.0, o.1, sym o.2)
        | inr (m, at, e) ↦
            let p = piece_of (inner_nets goes flats) x.calls m a at in
            elim (cases_Bool (goes p.of.circuit)) [
              | inl t ↦
                  let item : slice_get (map (net_below p.item) (past p.of.nets (flats p.of.circuit).nets)) p.number ≡ Some a
                  = subst (λ (b : Bool). slice_get (cond b (map (net_below p.item) (past p.of.nets (flats p.of.circuit).nets)) []) p.number ≡ Some a) t p.at in
                  let o = map_from (net_below p.item) (past p.of.nets (flats p.of.circuit).nets) p.number a item in
                  inr (record {
                    call = p.item;
                    row = p.of;
                    is = p.is;
                    number = p.number;
                    old = o.0;
                    at = past_at p.of.nets (flats p.of.circuit).nets p.number o.0 o.1;
                    brought = sym o.2;
                    place = ap (over (indexed own_net x.nets)) p.there ∙ e;
                  })
              | inr t ↦ absurd (none-some a (subst (λ (b : Bool). slice_get (cond b (map (net_below p.item) (past p.of.nets (flats p.of.circuit).nets)) []) p.number ≡ Some a) t p.at))
            ]
      ]

  no_call : (path : List ℕ) (k : ℕ) (m n : ℕ) → slot [] m ≡ slot (k ∷ path) n → ⊥
  no_call path k m n e = let p : [] ≡ k ∷ path = ap (λ (s : Slot). s.path) e in cc

  -- no two nets are from one place
  once : (h c i j : ℕ) (x : Circuit) (a b : NetAt) → height c < h → IsCircuit g c x → slice_get (flats c).nets i ≡ Some a → slice_get (flats c).nets j ≡ Some b → a.from ≡ b.from → i ≡ j
  once zero c i j x a b low is h k e = absurd (omega arith)
  once (suc m) c i j x a b low is h k e = elim (cases c i x a is h) [
    | inl (s, at, own) ↦ elim (cases c j x b is k) [
      | inl (t, at', own') ↦ ap (λ (y : Slot). y.net) (ap (λ (y : NetAt). y.from) (sym own) ∙ (e ∙ ap (λ (y : NetAt). y.from) own'))
      | inr p ↦ absurd (no_call p.old.from.path p.call i p.old.from.net (ap (λ (y : NetAt). y.from) (sym own) ∙ (e ∙ ap (λ (y : NetAt). y.from) p.brought)))
    ]
    | inr p ↦ elim (cases c j x b is k) [
      | inl (t, at, own) ↦ absurd (no_call p.old.from.path p.call j p.old.from.net (ap (λ (y : NetAt). y.from) (sym own) ∙ (sym e ∙ ap (λ (y : NetAt). y.from) p.brought)))
      | inr q ↦
          let deep : below p.call p.old.from ≡ below q.call q.old.from = ap (λ (y : NetAt). y.from) (sym p.brought) ∙ (e ∙ ap (λ (y : NetAt). y.from) q.brought) in
          let path : p.call ∷ p.old.from.path ≡ q.call ∷ q.old.from.path = ap (λ (y : Slot). y.path) deep in
          let net : p.old.from.net ≡ q.old.from.net = ap (λ (y : Slot). y.net) deep in
          let call : p.call ≡ q.call = cc in
          let rest : p.old.from.path ≡ q.old.from.path = cc in
          let from_same : p.old.from ≡ q.old.from = ap₂ slot rest net in
          let row : p.row ≡ q.row = same_Some _ _ (sym p.is ∙ (ap (slice_get x.calls) call ∙ q.is)) in
          let given : IsCall g c p.call p.row = (x, is, p.is) in
          let d = good.called c p.call p.row given in
          let lower = good.lower c p.call p.row given in
          let there : slice_get (flats p.row.circuit).nets (over p.row.nets q.number) ≡ Some q.old = subst (λ (r : CallRow). slice_get (flats r.circuit).nets (over r.nets q.number) ≡ Some q.old) (sym row) q.at in
          let deeper : height p.row.circuit < m = omega arith in
          let same = once m p.row.circuit (over p.row.nets p.number) (over p.row.nets q.number) d.0 p.old q.old deeper d.1 p.at there from_same in
          let number : p.number ≡ q.number = over_one p.row.nets p.number q.number same in
          sym p.place ∙ (ap₂ (λ (u w : ℕ). over (indexed own_net x.nets) (joined_place (inner_nets goes flats) x.calls u w)) call number ∙ q.place)
    ]
  ]

  from_is : (c i : ℕ) (a : NetAt) → slice_get (flats c).nets i ≡ Some a → from c i ≡ a.from
  from_is c i a h = ap net_or h

  pub from_one : (c i j : ℕ) → HasNet f c i → HasNet f c j → from c i ≡ from c j → i ≡ j
  from_one c i j h k e =
      let a = net_at g f goes flats height good flat c i h in
      let b = net_at g f goes flats height good flat c j k in
      let given = flat.back c h.0 h.1 in
      once (suc (height c)) c i j given.0 a.0 b.0 (omega arith) given.1 a.1 b.1 (sym (from_is c i a.0 a.1) ∙ (e ∙ from_is c j b.0 b.1))

  -- a net of the given circuit is from there
  pub own_from : (c n : ℕ) → HasNet g c n → from c n ≡ slot [] n
  own_from c n h = ((are.each c).net n h).1

  pin_here : (c k n o : ℕ) (row : CallRow) → IsCall g c k row → slice_get row.nets n ≡ Some o → IsPin g row.circuit n n
  pin_here c k n o row call at =
      let d = good.called c k row call in
      let low = slice_get_within row.nets n o at in
      let long = d.2 in
      let p = item_at d.0.pins n (omega arith) in
      let pin : IsPin g row.circuit n p.0 = (d.0, d.1, p.1) in
      subst (λ (m : ℕ). IsPin g row.circuit n m) (good.pins row.circuit n p.0 pin) pin

  -- a net that isn't a pin isn't from where one is
  past_pins : (c k n : ℕ) (row : CallRow) → IsCall g c k row → HasNet f row.circuit n → slice_get row.nets n ≡ None → (m : ℕ) → from row.circuit n ≡ slot [] m → slice_get row.nets m ≡ None
  past_pins c k n row call has none m e = elim (option_cases (slice_get row.nets m)) [
    | inl z ↦ z
    | inr (o, at) ↦
        let pin = pin_here c k m o row call at in
        let there = good.within.pins row.circuit m m pin in
        let here = ((are.each row.circuit).net m there).0 in
        let same = from_one row.circuit n m has here (e ∙ sym (own_from row.circuit m there)) in
        absurd (none-some o (sym none ∙ subst (λ (q : ℕ). slice_get row.nets q ≡ Some o) (sym same) at))
  ]

  -- a net of a flattened circuit is from where the call puts it
  pub brought_from : (c k n : ℕ) (x : Circuit) (row : CallRow) → IsCircuit g c x → IsCall g c k row → goes row.circuit ≡ true → HasNet f row.circuit n
      → from c (net_in goes flats x k row n) ≡ enter k row (from row.circuit n)
  unfolding entered pin_slot
  brought_from c k n x row is call t has =
      let p = (are.each c).goes k (placing_of goes flats x k row) row call (fate_goes g f goes flats height good flat c k x row is call t) in
      elim (option_cases (slice_get row.nets n)) [
        | inr (o, at) ↦
            let pin = pin_here c k n o row call at in
            let outer : from c (net_in goes flats x k row n) ≡ slot [] o = ap (from c) (p.pin n o n at pin) ∙ own_from c o (good.within.calls c k n o row call at) in
            let inner : from row.circuit n ≡ slot [] n = own_from row.circuit n (good.within.pins row.circuit n n pin) in
            let there : enter k row (slot [] n) ≡ slot [] o = ap (λ (z : Option ℕ). pin_slot k z n) at in
            outer ∙ (sym there ∙ sym (ap (enter k row) inner))
        | inl none ↦ elim (p.net n has) [
          | inl (q, outer, at, pin) ↦
              let e = good.pins row.circuit q n pin in
              absurd (none-some outer (sym none ∙ subst (λ (m : ℕ). slice_get row.nets m ≡ Some outer) (sym e) at))
          | inr e ↦ e ∙ sym (entered_below k row.nets (from row.circuit n).path (from row.circuit n).net (λ empty. past_pins c k n row call has none (from row.circuit n).net (ap (λ (q : List ℕ). slot q (from row.circuit n).net) empty)))
        ]
      ]

  name_at : (h c i : ℕ) (x : Circuit) (a : NetAt) → height c < h → IsCircuit g c x → slice_get (flats c).nets i ≡ Some a → a.name ≡ net_name g a.from.path c a.from.net
  unfolding net_name name_or
  name_at zero c i x a low is h = absurd (omega arith)
  name_at (suc m) c i x a low is h = elim (cases c i x a is h) [
    | inl (s, at, own) ↦
        let here : s ≡ net_name g [] c i = sym (ap (λ (y : Circuit). name_or (slice_get y.nets i)) (given_is g c x is) ∙ ap name_or at) in
        subst (λ (y : NetAt). y.name ≡ net_name g y.from.path c y.from.net) (sym own) here
    | inr p ↦
        let given : IsCall g c p.call p.row = (x, is, p.is) in
        let d = good.called c p.call p.row given in
        let lower = good.lower c p.call p.row given in
        let deeper : height p.row.circuit < m = omega arith in
        let inner = name_at m p.row.circuit (over p.row.nets p.number) d.0 p.old deeper d.1 p.at in
        let row : (row_of g c p.call).circuit ≡ p.row.circuit = ap (λ (r : CallRow). r.circuit) (row_is g c p.call p.row given) in
        let here : (net_below p.call p.old).name ≡ net_name g (p.call ∷ p.old.from.path) c p.old.from.net
        = ap (λ (z : List ℕ). 88 ∷ (decimal (suc p.call) ++ 47 ∷ z)) (inner ∙ ap (λ (e : ℕ). net_name g p.old.from.path e p.old.from.net) (sym row)) in
        subst (λ (y : NetAt). y.name ≡ net_name g y.from.path c y.from.net) (sym p.brought) here
  ]

  -- the name of a net is given by where it is from
  pub named_from : (c n : ℕ) → HasNet f c n → slice_get (plain (flats c)).nets n ≡ Some (net_name g (from c n).path c (from c n).net)
  named_from c n h =
      let a = net_at g f goes flats height good flat c n h in
      let given = flat.back c h.0 h.1 in
      let name = name_at (suc (height c)) c n given.0 a.0 (omega arith) given.1 a.1 in
      map_to (λ (y : NetAt). y.name) (flats c).nets n a.0 a.1 ∙ ap Some (name ∙ ap (λ (y : Slot). net_name g y.path c y.net) (sym (from_is c n a.0 a.1)))
