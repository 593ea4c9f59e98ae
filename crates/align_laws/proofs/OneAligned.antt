-- There is one aligned netlist: what is kept, and under which numbers, determines its circuits, whatever goes without bringing anything.
use Rattle.std.proofs.Common.{◌≡◌, ◌⊎◌, inl, inr, ℕ, suc, ◌<◌, ◌≤◌, ltb, Bool, true, false, not, cond, List, [], ◌∷◌, ◌++◌, map, length, Some, slice_get, refl, sym, subst, ◌∙◌, ap, ap₂, arith}
use Rattle.base_laws.proofs.Items.{get_left, map_to, map_from}
use Rattle.base_laws.proofs.Tests.{not_both, same_truth}
use Rattle.std.proofs.lemmas.Bool.{cases_Bool}
use Rattle.std.specs.List.{flat_map}
use Rattle.std.proofs.lemmas.List.{map-append}
use Rattle.std.proofs.lemmas.Simd.{map-map}
use Rattle.std.proofs.lemmas.Option.{none-some, same_Some, slice_get_past}
use Rattle.std.proofs.lemmas.Bool.Decides.{Decides-ltb, not_from_Decides}
use Rattle.plain_netlist.specs.Netlist.{DeviceRow, CallRow, Circuit, Netlist, IsCircuit, IsCall, IsPin, Slot}
use Rattle.plain_netlist.specs.Devices.{terminal_nets, row_over}
use Rattle.plain_netlist.specs.Normal.{AreNumbered}
use Rattle.plain_netlist.proofs.Members.{position}
use Rattle.plain_netlist.proofs.Rows.{terminal_nets_over, equal_over, over_equal, over_where}
use Rattle.plain_netlist.specs.Sound.{IsGood, IsCallPath, IsCalledFrom, HasDevices}
use Rattle.plain_netlist.proofs.Heights.{goes_down}
use Rattle.align_laws.specs.Flat.{AreInlined}
use Rattle.align_laws.specs.Lists.{FlatCircuit, over, pieces, net_at_pin, given_of, plain, maps_of}
use Rattle.align_laws.specs.Cut.{Alignment, CutCall, held_pin, held_pins, cut_row, cut_calls, cut}
use Rattle.align_laws.specs.Aligned.{IsAlignedBy, OneAlignedLaw, AllFlattenedLaw}
use Rattle.align_laws.proofs.Appear.{flat_in, named, old_nets, kept_calls, old, cut_kept, appear, given_at, held_there, call_pin, all_held}
use Rattle.align_laws.proofs.CutList.{given_is, held_of, cut_is}
use Rattle.align_laws.proofs.FlatGood.{flat_is_good}
use Rattle.align_laws.proofs.Kept.{MayGo, may_go}
use Rattle.align_laws.proofs.Listed.{listed}
use Rattle.align_laws.proofs.Origins.{from_one, own_from, net_name, named_from}
use Rattle.align_laws.proofs.Pieces.{append_right}
use Rattle.align_laws.proofs.Renumbered.{numbered_has, renumbered}
use Rattle.align_laws.proofs.SameViews.{same_at, keep_from, left_from, right_from, devices_seen, calls_seen, held_to, reach_by}
use Rattle.align_laws.proofs.Unique.{pieces_same}
use Rattle.align_laws.proofs.Views.{Seen, seen, SeenCall, seen_call, keep, IsIdle, map_same_at}

pub get_ext : {X : Type 0} (xs ys : List X) → ((k : ℕ) → slice_get xs k ≡ slice_get ys k) → xs ≡ ys
get_ext [] [] h = refl
get_ext [] (y ∷ ys) h = absurd (none-some y (h 0))
get_ext (x ∷ xs) [] h = absurd (none-some x (sym (h 0)))
get_ext {X} (x ∷ xs) (y ∷ ys) h = ap₂ (λ (z : X) (zs : List X). z ∷ zs) (same_Some _ _ (h 0)) (get_ext xs ys (λ k. h (suc k)))

keep_same : (k l : ℕ → Bool) (rows : List CallRow) → ((c : ℕ) → k c ≡ l c) → keep k rows ≡ keep l rows
keep_same k l [] h = refl
keep_same k l (r ∷ rs) h = ap₂ (λ (b : Bool) (xs : List CallRow). cond b (r ∷ xs) xs) (h r.circuit) (keep_same k l rs h)

-- lists with equal images, item by item
maps_matched : {A B C D : Type 0} (h : A → C) (k : B → C) (f : A → D) (g : B → D) (xs : List A) (ys : List B) → map h xs ≡ map k ys → ((i : ℕ) (x : A) (y : B) → slice_get xs i ≡ Some x → slice_get ys i ≡ Some y → h x ≡ k y → f x ≡ g y) → map f xs ≡ map g ys
maps_matched h k f g [] [] e each = refl
maps_matched h k f g [] (y ∷ ys) e each = absurd (let z : ⊥ = cc in z)
maps_matched h k f g (x ∷ xs) [] e each = absurd (let z : ⊥ = cc in z)
maps_matched {C = C} {D = D} h k f g (x ∷ xs) (y ∷ ys) e each =
    let head : h x ≡ k y = cc in
    let tail : map h xs ≡ map k ys = cc in
    ap₂ (λ (z : D) (zs : List D). z ∷ zs) (each 0 x y refl refl head) (maps_matched h k f g xs ys tail (λ i u w a b q. each (suc i) u w a b q))

flats_matched : {A B C : Type 0} (h : A → C) (k : B → C) (f : A → List ℕ) (g : B → List ℕ) (o p : ℕ → Slot) (xs : List A) (ys : List B) → map h xs ≡ map k ys
    → ((i : ℕ) (x : A) (y : B) → slice_get xs i ≡ Some x → slice_get ys i ≡ Some y → h x ≡ k y → map o (f x) ≡ map p (g y)) → map o (flat_map f xs) ≡ map p (flat_map g ys)
flats_matched h k f g o p [] [] e each = refl
flats_matched h k f g o p [] (y ∷ ys) e each = absurd (let z : ⊥ = cc in z)
flats_matched h k f g o p (x ∷ xs) [] e each = absurd (let z : ⊥ = cc in z)
flats_matched h k f g o p (x ∷ xs) (y ∷ ys) e each =
    let head : h x ≡ k y = cc in
    let tail : map h xs ≡ map k ys = cc in
    map-append o (f x) (flat_map f xs)
    ∙ (ap₂ (λ (us vs : List Slot). us ++ vs) (each 0 x y refl refl head) (flats_matched h k f g o p xs ys tail (λ i u w a b q. each (suc i) u w a b q))
    ∙ sym (map-append p (g y) (flat_map g ys)))

terminals_seen : (o p : ℕ → Slot) (r s : DeviceRow) → seen o r ≡ seen p s → map o (terminal_nets r) ≡ map p (terminal_nets s)
terminals_seen o p r s e = sym (terminal_nets_over o r) ∙ (ap (λ (x : Seen). terminal_nets x) e ∙ terminal_nets_over p s)

module _ (g : Netlist) (kept : ℕ → Bool) (height : ℕ → ℕ) (good : IsGood g height) (R : ℕ → Type 0) (down : (c k : ℕ) (row : CallRow) → R c → IsCall g c k row → R row.circuit)
    (o : Netlist) (v : Alignment) (goes : ℕ → Bool) (a : IsAlignedBy goes g o v) (may : MayGo g kept goes) (v_kept : (c : ℕ) → v.kept c ≡ kept c)
    (p : Netlist) (w : Alignment) (also_goes : ℕ → Bool) (b : IsAlignedBy also_goes g p w) (also_may : MayGo g kept also_goes) (w_kept : (c : ℕ) → w.kept c ≡ kept c)
    (same : (c : ℕ) → R c → (goes c ≡ also_goes c) ⊎ IsIdle g kept c) where
  abbrev L : ℕ → ℕ → Slot
  L = left_from g kept height good R down o v goes a may v_kept p w also_goes b also_may w_kept same

  abbrev S : ℕ → ℕ → Slot
  S = right_from g kept height good R down o v goes a may v_kept p w also_goes b also_may w_kept same

  turned_same : (c : ℕ) → R c → (also_goes c ≡ goes c) ⊎ IsIdle g kept c
  turned_same c r = elim (same c r) [ inl e ↦ inl (sym e) | inr i ↦ inr i ]

  left_good : IsGood a.flat height
  left_good = flat_is_good g a.flat goes a.flats height good a.flattened

  right_good : IsGood b.flat height
  right_good = flat_is_good g b.flat also_goes b.flats height good b.flattened

  left_are : AreInlined g a.flat (maps_of g goes a.flats) height
  left_are = listed g a.flat goes a.flats height good a.flattened

  right_are : AreInlined g b.flat (maps_of g also_goes b.flats) height
  right_are = listed g b.flat also_goes b.flats height good b.flattened

  -- both hold the same pins
  held_same : (c n : ℕ) (x : Circuit) → R c → kept c ≡ true → IsCircuit g c x → IsPin g c n n → v.held c n ≡ w.held c n
  held_same c n x r k is pin = same_truth (v.held c n) (w.held c n)
      (λ h. held_to g kept height good R down o v goes a may v_kept p w also_goes b also_may w_kept same (suc (height c)) c n x (omega arith) r k is pin h)
      (λ h. held_to g kept height good R down p w also_goes b also_may w_kept o v goes a may v_kept turned_same (suc (height c)) c n x (omega arith) r k is pin h)

  left_given : (c : ℕ) (x : Circuit) → IsCircuit g c x → given_of a.flat c ≡ plain (a.flats c)
  left_given c x is = given_is a.flat c (plain (a.flats c)) (a.flattened.there c x is)

  right_given : (c : ℕ) (x : Circuit) → IsCircuit g c x → given_of b.flat c ≡ plain (b.flats c)
  right_given c x is = given_is b.flat c (plain (b.flats c)) (b.flattened.there c x is)

  left_pins : (c : ℕ) (x : Circuit) → IsCircuit g c x → (given_of a.flat c).pins ≡ x.pins
  left_pins c x is = ap (λ (y : Circuit). y.pins) (left_given c x is) ∙ ap (λ (y : FlatCircuit). y.pins) (a.flattened.each c x is)

  right_pins : (c : ℕ) (x : Circuit) → IsCircuit g c x → (given_of b.flat c).pins ≡ x.pins
  right_pins c x is = ap (λ (y : Circuit). y.pins) (right_given c x is) ∙ ap (λ (y : FlatCircuit). y.pins) (b.flattened.each c x is)

  pins_same : (c : ℕ) (x : Circuit) → R c → kept c ≡ true → IsCircuit g c x → held_pins a.flat v c ≡ held_pins b.flat w c
  pins_same c x r k is =
      ap (pieces (held_pin a.flat v c)) (left_pins c x is)
      ∙ (pieces_same (held_pin a.flat v c) (held_pin b.flat w c) x.pins (λ i n at.
      let pin : IsPin g c i n = (x, is, at) in
      let number = good.pins c i n pin in
      ap (λ (t : Bool). cond t (n ∷ []) []) (held_same c n x r k is (subst (λ (z : ℕ). IsPin g c z n) (sym number) pin)))
      ∙ ap (pieces (held_pin b.flat w c)) (sym (right_pins c x is)))

  module _ (c : ℕ) (x : Circuit) (is : IsCircuit g c x) (r : R c) (k : kept c ≡ true) where
    left_kept : v.kept c ≡ true
    left_kept = v_kept c ∙ k

    right_kept : w.kept c ≡ true
    right_kept = w_kept c ∙ k

    -- the devices and the kept calls of both flat circuits
    devices_matched : map (seen (L c)) (given_of a.flat c).devices ≡ map (seen (S c)) (given_of b.flat c).devices
    devices_matched =
        ap (λ (y : Circuit). map (seen (L c)) y.devices) (left_given c x is)
        ∙ (devices_seen g kept height good R down o v goes a may v_kept p w also_goes b also_may w_kept same c x r is
        ∙ ap (λ (y : Circuit). map (seen (S c)) y.devices) (sym (right_given c x is)))

    calls_matched : map (seen_call (L c)) (kept_calls a.flat v c) ≡ map (seen_call (S c)) (kept_calls b.flat w c)
    calls_matched =
        ap (map (seen_call (L c))) (keep_same v.kept kept (given_of a.flat c).calls v_kept ∙ ap (λ (y : Circuit). keep kept y.calls) (left_given c x is))
        ∙ (calls_seen g kept height good R down o v goes a may v_kept p w also_goes b also_may w_kept same c x r is
        ∙ ap (map (seen_call (S c))) (sym (keep_same w.kept kept (given_of b.flat c).calls w_kept ∙ ap (λ (y : Circuit). keep kept y.calls) (right_given c x is))))

    left_at : IsCircuit a.flat c (given_of a.flat c)
    left_at = given_at a.flat o v a.cut_down height left_good c left_kept

    right_at : IsCircuit b.flat c (given_of b.flat c)
    right_at = given_at b.flat p w b.cut_down height right_good c right_kept

    -- a held pin is from one place
    pin_place : (i n : ℕ) → slice_get (held_pins a.flat v c) i ≡ Some n → L c n ≡ S c n
    pin_place i n at =
        let h = held_of a.flat v height left_good c i n (given_of a.flat c) left_at at in
        let given : IsPin g c n n = ((left_are.each c).pins n n).1 h.0 in
        let net = good.within.pins c n n given in
        own_from g a.flat goes a.flats height good a.flattened c n net ∙ sym (own_from g b.flat also_goes b.flats height good b.flattened c n net)

    -- a call that stays, on both sides
    pub record Match (row also : CallRow) : Type 0 where
      pub number : ℕ
      pub call : IsCall a.flat c number row
      pub other : ℕ
      pub also_call : IsCall b.flat c other also
      pub circuit : row.circuit ≡ also.circuit
      pub nets : map (L c) row.nets ≡ map (S c) also.nets
      pub stays : kept row.circuit ≡ true
      pub given : Circuit
      pub is_given : IsCircuit g row.circuit given
      pub reached : R row.circuit

    call_match : (i : ℕ) (row also : CallRow) → slice_get (kept_calls a.flat v c) i ≡ Some row → slice_get (kept_calls b.flat w c) i ≡ Some also → seen_call (L c) row ≡ seen_call (S c) also → Match row also
    call_match i row also at there e =
        let back = keep_from v.kept (given_of a.flat c).calls i row at in
        let from = keep_from w.kept (given_of b.flat c).calls i also there in
        let call : IsCall a.flat c back.0 row = (given_of a.flat c, left_at, back.1) in
        let d = left_good.called c back.0 row call in
        let y = a.flattened.back row.circuit d.0 d.1 in
        record {
          number = back.0;
          call = call;
          other = from.0;
          also_call = (given_of b.flat c, right_at, from.1);
          circuit = ap (λ (z : SeenCall). z.circuit) e;
          nets = ap (λ (z : SeenCall). z.nets) e;
          stays = sym (v_kept row.circuit) ∙ back.2;
          given = y.0;
          is_given = y.1;
          reached = reach_by g kept height good R down o v goes a may v_kept p w also_goes b also_may w_kept same c back.0 row r call;
        }

    -- the held pins of the called circuit, and the places of the nets there
    pins_called : (row also : CallRow) → Match row also → held_pins a.flat v row.circuit ≡ held_pins b.flat w also.circuit
    pins_called row also m = pins_same row.circuit m.given m.reached m.stays m.is_given ∙ ap (held_pins b.flat w) m.circuit

    net_place : (row also : CallRow) (m : Match row also) (q n : ℕ) → slice_get (held_pins a.flat v row.circuit) q ≡ Some n → L c (net_at_pin row.nets (λ z. 0) n) ≡ S c (net_at_pin also.nets (λ z. 0) n)
    net_place row also m q n at =
        let here = call_pin a.flat o v a.cut_down height left_good c m.number q n row m.call at in
        let there = call_pin b.flat p w b.cut_down height right_good c m.other q n also m.also_call (subst (λ (ns : List ℕ). slice_get ns q ≡ Some n) (pins_called row also m) at) in
        let s = same_at (L c) (S c) row.nets also.nets m.nets n here.0 here.1 in
        let one : s.0 ≡ there.0 = same_Some _ _ (sym s.1 ∙ there.1) in
        ap (L c) here.2 ∙ (sym s.2 ∙ ap (S c) (one ∙ sym there.2))

    -- the places of what both cut circuits name
    places : map (L c) (old a.flat v c) ≡ map (S c) (old b.flat w c)
    places =
        map-append (L c) (held_pins a.flat v c) (flat_map named (given_of a.flat c).devices ++ flat_map (old_nets a.flat v) (kept_calls a.flat v c))
        ∙ (ap₂ (λ (us vs : List Slot). us ++ vs) (map_same_at (L c) (S c) (held_pins a.flat v c) pin_place ∙ ap (map (S c)) (pins_same c x r k is))
        (map-append (L c) (flat_map named (given_of a.flat c).devices) (flat_map (old_nets a.flat v) (kept_calls a.flat v c))
        ∙ (ap₂ (λ (us vs : List Slot). us ++ vs)
        (flats_matched (seen (L c)) (seen (S c)) named named (L c) (S c) (given_of a.flat c).devices (given_of b.flat c).devices devices_matched (λ i d e at there q. terminals_seen (L c) (S c) d e q))
        (flats_matched (seen_call (L c)) (seen_call (S c)) (old_nets a.flat v) (old_nets b.flat w) (L c) (S c) (kept_calls a.flat v c) (kept_calls b.flat w c) calls_matched call_places)
        ∙ sym (map-append (S c) (flat_map named (given_of b.flat c).devices) (flat_map (old_nets b.flat w) (kept_calls b.flat w c)))))
        ∙ sym (map-append (S c) (held_pins b.flat w c) (flat_map named (given_of b.flat c).devices ++ flat_map (old_nets b.flat w) (kept_calls b.flat w c))))
      where
        call_places : (i : ℕ) (row also : CallRow) → slice_get (kept_calls a.flat v c) i ≡ Some row → slice_get (kept_calls b.flat w c) i ≡ Some also → seen_call (L c) row ≡ seen_call (S c) also
            → map (L c) (old_nets a.flat v row) ≡ map (S c) (old_nets b.flat w also)
        call_places i row also at there e =
            let m = call_match i row also at there e in
            map-map (L c) (λ n. net_at_pin row.nets (λ z. 0) n) (held_pins a.flat v row.circuit)
            ∙ (map_same_at _ _ (held_pins a.flat v row.circuit) (λ q n h. net_place row also m q n h)
            ∙ (ap (map (λ n. S c (net_at_pin also.nets (λ z. 0) n))) (pins_called row also m)
            ∙ sym (map-map (S c) (λ n. net_at_pin also.nets (λ z. 0) n) (held_pins b.flat w also.circuit))))

    left_held : (i n : ℕ) → slice_get (old a.flat v c) i ≡ Some n → v.held c n ≡ true
    left_held i n at = all_held a.flat o v a.cut_down height left_good c i n left_kept at

    right_held : (i n : ℕ) → slice_get (old b.flat w c) i ≡ Some n → w.held c n ≡ true
    right_held i n at = all_held b.flat p w b.cut_down height right_good c i n right_kept at

    left_one : (m n : ℕ) → v.held c m ≡ true → v.held c n ≡ true → L c m ≡ L c n → m ≡ n
    left_one m n h j e = from_one g a.flat goes a.flats height good a.flattened c m n (held_there a.flat o v a.cut_down height left_good c m left_kept h) (held_there a.flat o v a.cut_down height left_good c n left_kept j) e

    right_one : (m n : ℕ) → w.held c m ≡ true → w.held c n ≡ true → S c m ≡ S c n → m ≡ n
    right_one m n h j e = from_one g b.flat also_goes b.flats height good b.flattened c m n (held_there b.flat p w b.cut_down height right_good c m right_kept h) (held_there b.flat p w b.cut_down height right_good c n right_kept j) e

    numbered_left : AreNumbered (length (v.names c)) 0 (map (v.new c) (old a.flat v c))
    numbered_left = subst (λ (xs : List ℕ). AreNumbered (length (v.names c)) 0 xs) (appear a.flat v c) (a.normal c left_kept).numbered

    numbered_right : AreNumbered (length (w.names c)) 0 (map (w.new c) (old b.flat w c))
    numbered_right = subst (λ (xs : List ℕ). AreNumbered (length (w.names c)) 0 xs) (appear b.flat w c) (b.normal c right_kept).numbered

    one : (length (v.names c) ≡ length (w.names c)) × ((i m n : ℕ) → slice_get (old a.flat v c) i ≡ Some m → slice_get (old b.flat w c) i ≡ Some n → v.new c m ≡ w.new c n)
    one = renumbered (λ n. v.held c n ≡ true) (λ n. w.held c n ≡ true) (L c) (S c) (v.new c) (w.new c) left_one right_one
        (λ m n h j e. sym (a.cut_down.back c m h) ∙ (ap (v.old c) e ∙ a.cut_down.back c n j))
        (λ m n h j e. sym (b.cut_down.back c m h) ∙ (ap (w.old c) e ∙ b.cut_down.back c n j))
        (old a.flat v c) (old b.flat w c) (length (v.names c)) (length (w.names c)) places left_held right_held numbered_left numbered_right

    -- nets from one place have one number
    new_same : (i m n : ℕ) → slice_get (old a.flat v c) i ≡ Some m → w.held c n ≡ true → L c m ≡ S c n → v.new c m ≡ w.new c n
    new_same i m n at h e =
        let s = same_at (L c) (S c) (old a.flat v c) (old b.flat w c) places i m at in
        let same_net : s.0 ≡ n = right_one s.0 n (right_held i s.0 s.1) h (s.2 ∙ e) in
        one.1 i m s.0 at s.1 ∙ ap (w.new c) same_net

    names_same : v.names c ≡ w.names c
    names_same = get_ext (v.names c) (w.names c) (λ j. at j (ltb j (length (v.names c))) refl)
      where
        at : (j : ℕ) (t : Bool) → ltb j (length (v.names c)) ≡ t → slice_get (v.names c) j ≡ slice_get (w.names c) j
        at j true e =
            let low : j < length (v.names c) = (Decides-ltb _ _).0 e in
            let long = one.0 in
            let i = numbered_has (length (v.names c)) 0 (map (v.new c) (old a.flat v c)) numbered_left j (omega arith) low in
            let m = map_from (v.new c) (old a.flat v c) i.0 j i.1 in
            let s = same_at (L c) (S c) (old a.flat v c) (old b.flat w c) places i.0 m.0 m.1 in
            let h = left_held i.0 m.0 m.1 in
            let g' = right_held i.0 s.0 s.1 in
            let mine : v.old c j ≡ m.0 = ap (v.old c) (sym m.2) ∙ a.cut_down.back c m.0 h in
            let yours : w.old c j ≡ s.0 = ap (w.old c) (sym m.2 ∙ one.1 i.0 m.0 s.0 m.1 s.1) ∙ b.cut_down.back c s.0 g' in
            let left_name = named_from g a.flat goes a.flats height good a.flattened c m.0 (held_there a.flat o v a.cut_down height left_good c m.0 left_kept h) in
            let right_name = named_from g b.flat also_goes b.flats height good b.flattened c s.0 (held_there b.flat p w b.cut_down height right_good c s.0 right_kept g') in
            a.named c j left_kept low
            ∙ (ap (slice_get (given_of a.flat c).nets) mine
            ∙ (ap (λ (y : Circuit). slice_get y.nets m.0) (left_given c x is)
            ∙ (left_name
            ∙ (ap (λ (z : Slot). Some (net_name g z.path c z.net)) (sym s.2)
            ∙ (sym right_name
            ∙ (ap (λ (y : Circuit). slice_get y.nets s.0) (sym (right_given c x is))
            ∙ (ap (slice_get (given_of b.flat c).nets) (sym yours) ∙ sym (b.named c j right_kept (omega arith)))))))))
        at j false e =
            let high : length (v.names c) ≤ j = omega (arith, not_from_Decides _ (Decides-ltb j (length (v.names c))) e) in
            let long = one.0 in
            slice_get_past (v.names c) j high ∙ sym (slice_get_past (w.names c) j (omega arith))

    pins_new : map (v.new c) (held_pins a.flat v c) ≡ map (w.new c) (held_pins b.flat w c)
    pins_new =
        map_same_at (v.new c) (w.new c) (held_pins a.flat v c) (λ i n at.
        let here : slice_get (old a.flat v c) i ≡ Some n = get_left (held_pins a.flat v c) (flat_map named (given_of a.flat c).devices ++ flat_map (old_nets a.flat v) (kept_calls a.flat v c)) i n at in
        let there : slice_get (held_pins b.flat w c) i ≡ Some n = subst (λ (ns : List ℕ). slice_get ns i ≡ Some n) (pins_same c x r k is) at in
        one.1 i n n here (get_left (held_pins b.flat w c) (flat_map named (given_of b.flat c).devices ++ flat_map (old_nets b.flat w) (kept_calls b.flat w c)) i n there))
        ∙ ap (map (w.new c)) (pins_same c x r k is)

    devices_new : map (row_over (v.new c)) (given_of a.flat c).devices ≡ map (row_over (w.new c)) (given_of b.flat c).devices
    devices_new = maps_matched (seen (L c)) (seen (S c)) (row_over (v.new c)) (row_over (w.new c)) (given_of a.flat c).devices (given_of b.flat c).devices devices_matched (λ j d e at there q.
        over_equal (v.new c) (w.new c) d e (over_where (λ n m. L c n ≡ S c m) (λ n m. v.new c n ≡ w.new c m) d e (λ n m on other same_place.
        let t = position (named d) n on in
        let i = flat_in named (given_of a.flat c).devices j t.0 d n at t.1 in
        let here = append_right (held_pins a.flat v c) (flat_map named (given_of a.flat c).devices ++ flat_map (old_nets a.flat v) (kept_calls a.flat v c)) i.0 n
        (get_left (flat_map named (given_of a.flat c).devices) (flat_map (old_nets a.flat v) (kept_calls a.flat v c)) i.0 n i.1) in
        new_same (over (held_pins a.flat v c) i.0) n m here ((b.cut_down.held c m right_kept).1 (inl (j, e, (given_of b.flat c, right_at, there), other))) same_place)
        (equal_over (L c) (S c) d e q)))

    module _ (number_same : (d : ℕ) → kept d ≡ true → v.number d ≡ w.number d) where
      row_new : (i : ℕ) (row also : CallRow) → slice_get (kept_calls a.flat v c) i ≡ Some row → slice_get (kept_calls b.flat w c) i ≡ Some also → seen_call (L c) row ≡ seen_call (S c) also
          → cut_row a.flat v c row ≡ cut_row b.flat w c also
      row_new i row also at there e =
          let m = call_match i row also at there e in
          ap₂ (λ (d : ℕ) (ns : List ℕ). let z : CallRow = record { circuit = d; nets = ns } in z) (number_same row.circuit m.stays ∙ ap w.number m.circuit)
          (map_same_at _ _ (held_pins a.flat v row.circuit) (λ q n h. new_at i row also m at there q n h) ∙ ap (map (λ n. w.new c (net_at_pin also.nets (λ z. 0) n))) (pins_called row also m))
        where
          new_at : (i : ℕ) (row also : CallRow) (m : Match row also) → slice_get (kept_calls a.flat v c) i ≡ Some row → slice_get (kept_calls b.flat w c) i ≡ Some also → (q n : ℕ) → slice_get (held_pins a.flat v row.circuit) q ≡ Some n
              → v.new c (net_at_pin row.nets (λ z. 0) n) ≡ w.new c (net_at_pin also.nets (λ z. 0) n)
          new_at i row also m at there q n h =
              let net = net_at_pin row.nets (λ z. 0) n in
              let other = net_at_pin also.nets (λ z. 0) n in
              let first = flat_in (old_nets a.flat v) (kept_calls a.flat v c) i q row net at (map_to (λ z. net_at_pin row.nets (λ y. 0) z) (held_pins a.flat v row.circuit) q n h) in
              let here = append_right (held_pins a.flat v c) (flat_map named (given_of a.flat c).devices ++ flat_map (old_nets a.flat v) (kept_calls a.flat v c)) (over (flat_map named (given_of a.flat c).devices) first.0) net
              (append_right (flat_map named (given_of a.flat c).devices) (flat_map (old_nets a.flat v) (kept_calls a.flat v c)) first.0 net first.1) in
              let on_right : slice_get (held_pins b.flat w also.circuit) q ≡ Some n = subst (λ (ns : List ℕ). slice_get ns q ≡ Some n) (pins_called row also m) h in
              let second = flat_in (old_nets b.flat w) (kept_calls b.flat w c) i q also other there (map_to (λ z. net_at_pin also.nets (λ y. 0) z) (held_pins b.flat w also.circuit) q n on_right) in
              let yonder = append_right (held_pins b.flat w c) (flat_map named (given_of b.flat c).devices ++ flat_map (old_nets b.flat w) (kept_calls b.flat w c)) (over (flat_map named (given_of b.flat c).devices) second.0) other
              (append_right (flat_map named (given_of b.flat c).devices) (flat_map (old_nets b.flat w) (kept_calls b.flat w c)) second.0 other second.1) in
              new_same (over (held_pins a.flat v c) (over (flat_map named (given_of a.flat c).devices) first.0)) net other here
              (right_held (over (held_pins b.flat w c) (over (flat_map named (given_of b.flat c).devices) second.0)) other yonder) (net_place row also m q n h)

      calls_new : map (λ (z : CutCall). z.row) (cut_calls a.flat v c) ≡ map (λ (z : CutCall). z.row) (cut_calls b.flat w c)
      calls_new =
          cut_kept a.flat v c
          ∙ (maps_matched (seen_call (L c)) (seen_call (S c)) (cut_row a.flat v c) (cut_row b.flat w c) (kept_calls a.flat v c) (kept_calls b.flat w c) calls_matched row_new
          ∙ sym (cut_kept b.flat w c))

      name_same : (given_of a.flat c).name ≡ (given_of b.flat c).name
      name_same =
          ap (λ (y : Circuit). y.name) (left_given c x is) ∙ (ap (λ (y : FlatCircuit). y.name) (a.flattened.each c x is)
          ∙ (ap (λ (y : FlatCircuit). y.name) (sym (b.flattened.each c x is)) ∙ ap (λ (y : Circuit). y.name) (sym (right_given c x is))))

      pub cut_one : cut a.flat v c ≡ cut b.flat w c
      cut_one =
          ap₂ (λ (n : List ℕ) (ns : List (List ℕ)). let z : Circuit = record {
            name = n;
            nets = ns;
            pins = map (v.new c) (held_pins a.flat v c);
            devices = map (row_over (v.new c)) (given_of a.flat c).devices;
            calls = map (λ (u : CutCall). u.row) (cut_calls a.flat v c);
          } in z) name_same names_same
          ∙ (ap₂ (λ (ps : List ℕ) (ds : List DeviceRow). let z : Circuit = record {
            name = (given_of b.flat c).name;
            nets = w.names c;
            pins = ps;
            devices = ds;
            calls = map (λ (u : CutCall). u.row) (cut_calls a.flat v c);
          } in z) pins_new devices_new
          ∙ ap (λ (rs : List CallRow). let z : Circuit = record {
            name = (given_of b.flat c).name;
            nets = w.names c;
            pins = map (w.new c) (held_pins b.flat w c);
            devices = map (row_over (w.new c)) (given_of b.flat c).devices;
            calls = rs;
          } in z) calls_new)

-- a kept circuit was given
given_kept : (g o : Netlist) (v : Alignment) (goes : ℕ → Bool) (a : IsAlignedBy goes g o v) (c : ℕ) → v.kept c ≡ true → (x : Circuit) × IsCircuit g c x
given_kept g o v goes a c kept = let y = a.cut_down.given c kept in a.flattened.back c y.0 y.1

kept_is : (g : Netlist) (k l goes : ℕ → Bool) → ((c : ℕ) → k c ≡ l c) → MayGo g l goes → MayGo g k goes
kept_is g k l goes h may = record { stay = λ c e. may.stay c (sym (h c) ∙ e); go = λ c e d. may.go c (sym (h c) ∙ e) d }

pub one_aligned : OneAlignedLaw
one_aligned g o p a b s t kept_same number_same c kept x y is also =
    let given = given_kept g o a s.goes s.by c kept in
    let goes_same : (d : ℕ) → s.goes d ≡ t.goes d = λ d. same_truth (s.goes d) (t.goes d) (λ h. let f = (s.going d).0 h in (t.going d).1 (sym (kept_same d) ∙ f.0, f.1)) (λ h. let f = (t.going d).0 h in (s.going d).1 (kept_same d ∙ f.0, f.1)) in
    cut_is s.by.flat o a s.by.cut_down c x kept is
    ∙ (cut_one g a.kept s.by.height s.by.good (λ d. Unit {0}) (λ d k row r call. tt) o a s.goes s.by (may_go g a.kept s.goes s.going) (λ d. refl) p b t.goes t.by
    (kept_is g a.kept b.kept t.goes kept_same (may_go g b.kept t.goes t.going)) (λ d. sym (kept_same d)) (λ d r. inl (goes_same d)) c given.0 given.1 tt kept number_same
    ∙ sym (cut_is t.by.flat p b t.by.cut_down c y (sym (kept_same c) ∙ kept) (subst (λ (k : ℕ). IsCircuit p k y) (number_same c kept) also)))

-- paths of calls
path_on : (g : Netlist) (path : List ℕ) (c d k : ℕ) (row : CallRow) → IsCallPath g c path d → IsCall g d k row → IsCalledFrom g c row.circuit
path_on g [] c d k row h call = (k ∷ [], (row, subst (λ (m : ℕ). IsCall g m k row) (sym h) call, refl))
path_on g (j ∷ js) c d k row (r, first, h) call = let rest = path_on g js r.circuit d k row h call in (j ∷ rest.0, (r, first, rest.1))

devices_up : (g : Netlist) (path : List ℕ) (c d : ℕ) → IsCallPath g c path d → HasDevices g d → HasDevices g c
devices_up g [] c d h has = subst (λ (m : ℕ). HasDevices g m) (sym h) has
devices_up g (k ∷ ks) c d (row, call, h) has = let r = devices_up g ks row.circuit d h has in (k ∷ r.0, r.1, r.2, (row, call, r.3))

below_top : (g : Netlist) (height : ℕ → ℕ) → IsGood g height → (path : List ℕ) (top d : ℕ) → IsCalledFrom g top d → IsCallPath g d path top → d ≡ top
below_top g height good [] top d from h = h
below_top g height good (k ∷ ks) top d from (row, call, h) =
    let lower = good.lower d k row call in
    let down = goes_down g height good from.0 top d from.1 in
    let up = goes_down g height good ks row.circuit top h in
    absurd (omega arith)

pub all_flattened : AllFlattenedLaw
all_flattened g o p a b top s t kept_same number_same tops c kept x y is also =
    let given = given_kept g o a s.goes s.by c kept in
    let may = may_go g a.kept s.goes s.going in
    let other : MayGo g a.kept (λ d. not (b.kept d)) = record { stay = λ d e. ap not (sym (kept_same d) ∙ e); go = λ d e has. ap not (sym (kept_same d) ∙ e) } in
    cut_is s.by.flat o a s.by.cut_down c x kept is
    ∙ (cut_one g a.kept s.by.height s.by.good (IsCalledFrom g top) (λ d k row r call. path_on g r.0 top d k row r.1 call) o a s.goes s.by may (λ d. refl) p b (λ d. not (b.kept d)) t other
    (λ d. sym (kept_same d)) (λ d r. differ d r) c given.0 given.1 (reached c kept) kept number_same
    ∙ sym (cut_is t.flat p b t.cut_down c y (sym (kept_same c) ∙ kept) (subst (λ (k : ℕ). IsCircuit p k y) (number_same c kept) also)))
  where
    reached : (d : ℕ) → a.kept d ≡ true → IsCalledFrom g top d
    reached d k = elim (tops d k) [ inl e ↦ ([], sym e) | inr r ↦ r.0 ]

    nothing_below : (d : ℕ) → IsCalledFrom g top d → a.kept d ≡ false → (HasDevices g d → ⊥) → (e : ℕ) → IsCalledFrom g d e → a.kept e ≡ false
    nothing_below d r gone none e h = elim (cases_Bool (a.kept e)) [
      | inr f ↦ f
      | inl f ↦ elim (tops e f) [
        | inl same ↦
            let up : IsCallPath g d h.0 top = subst (λ (m : ℕ). IsCallPath g d h.0 m) same h.1 in
            let is_top : d ≡ top = below_top g s.by.height s.by.good h.0 top d r up in
            absurd (not_both (a.kept e) f (ap a.kept (same ∙ sym is_top) ∙ gone))
        | inr (from, has) ↦ absurd (none (devices_up g h.0 d e h.1 has))
      ]
    ]

    differ : (d : ℕ) → IsCalledFrom g top d → (s.goes d ≡ not (b.kept d)) ⊎ IsIdle g a.kept d
    differ d r = elim (cases_Bool (a.kept d)) [
      | inl k ↦ inl ((may_go g a.kept s.goes s.going).stay d k ∙ sym (ap not (sym (kept_same d) ∙ k)))
      | inr k ↦ elim (cases_Bool (s.goes d)) [
        | inl e ↦ inl (e ∙ sym (ap not (sym (kept_same d) ∙ k)))
        | inr e ↦
            let none : HasDevices g d → ⊥ = λ has. not_both (s.goes d) ((may_go g a.kept s.goes s.going).go d k has) e in
            inr (record { none = none; kept_none = nothing_below d r k none })
      ]
    ]
