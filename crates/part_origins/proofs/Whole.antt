-- The origins that the code makes are those of the definition.
use Rattle.std.proofs.Common.{◌≡◌, inl, inr, ℕ, zero, suc, ◌+◌, ◌<◌, Bool, true, false, cond, List, [], ◌∷◌, ◌++◌, length, map, Option, Some, None, slice_get, refl, sym, ◌∙◌, ap, ap₂, subst, arith, length-append}
use Rattle.base_laws.proofs.Items.{get_left, get_last, map_to, map_from}
use Rattle.std.proofs.lemmas.Bool.{cases_Bool}
use Rattle.std.specs.Prelude.{flat_map, slice_index_or}
use Rattle.std.proofs.Math.Decide.{ℕ_discrete}
use Rattle.std.proofs.lemmas.List.{length-map}
use Rattle.std.proofs.lemmas.Option.{none-some, same_Some, slice_get_within}
use Rattle.plain_netlist.specs.Lists.{IsListed}
use Rattle.plain_netlist.specs.Netlist.{CallRow, Circuit, Netlist, IsCircuit, IsCall, HasNet, Slot, slot}
use Rattle.plain_netlist.specs.Devices.{terminal_nets}
use Rattle.plain_netlist.specs.Sound.{IsGood, IsCallPath}
use Rattle.plain_netlist.proofs.Listing.{at_apart}
use Rattle.plain_netlist.proofs.Members.{listed, position, in_all}
use Rattle.align_laws.specs.Aligned.{IsAligned, HasOnlyKept}
use Rattle.align_laws.specs.Cut.{Alignment, CutCall, held_pin, held_pins, cut_row, cut_call, cut_calls, cut}
use Rattle.align_laws.specs.Flat.{call_through, net_image}
use Rattle.align_laws.specs.Lists.{DeviceAt, CallAt, FlatCircuit, pieces, joined_place, given_of, plain, maps_of, way_or}
use Rattle.align_laws.specs.Words.{IsInside}
use Rattle.align_laws.proofs.Appear.{old_nets, call_pin}
use Rattle.align_laws.proofs.CutList.{given_is, cut_is}
use Rattle.align_laws.proofs.Pieces.{piece_at}
use Rattle.align_laws.proofs.Views.{keep}
use Rattle.part_origins.specs.Inside.{PlainInside, PlainSpot, all_inside}
use Rattle.part_origins.specs.Kept.{numbered, places_in, texts_from}
use Rattle.part_origins.specs.Made.{PlainOrigins, inside_or, inside_at, net_numbers, held_of, origins_of, origins_from, made_origins}
use Rattle.part_origins.specs.Nets.{net_at, seen_nets, named_nets}
use Rattle.part_origins.specs.Origins.{AreNamedApart, IsPathBy, path_at, AreOrigins, HaveOrigins}
use Rattle.part_origins.specs.Parts.{device_parts, call_parts}
use Rattle.part_origins.specs.declared.inside.Part.{Part}
use Rattle.part_origins.proofs.Known.{known_all}
use Rattle.part_origins.proofs.Netted.{IsSpotOf, IsCallOf, index_at, terminals_are, calls_are_seen, named_old, table_at, pins_held}
use Rattle.part_origins.proofs.Parted.{Together, together, OnOne, devices_from, calls_from, cut_ways, kept_ways}
use Rattle.part_origins.proofs.Sided.{flat_good, kept_list, numbers, goes_list, given, plain_is, entry, numbers_at, kept_is, goes_is}
use Rattle.part_origins.proofs.Spots.{Stood, call_at, call_list, spots_by, IsRight, all_right, devices_are, calls_are, found, once}
use Rattle.part_origins.proofs.Tied.{IsBy, IsKnown}

at_or : {A : Type 0} (xs : List A) (i : ℕ) (x d : A) → slice_get xs i ≡ Some x → slice_index_or xs i d ≡ x
at_or [] i x d h = absurd (none-some x h)
at_or (y ∷ xs) zero x d h = same_Some _ _ h
at_or (y ∷ xs) (suc i) x d h = at_or xs i x d h

abbrev path_of : Stood → List ℕ
path_of t = t.path

by_path : (S : List Stood) (i : ℕ) (b : Option Part) (path : List ℕ) → IsBy S i b path → IsPathBy (map path_of S) i b path
by_path S i None path h = h
by_path S i (Some p) path h = (h.0.path, map_to path_of S p.spot h.0 h.1, h.2, h.3)

find_in : {A B : Type 0} (f : ℕ → A → List B) (xs : List A) (k : ℕ) (x : A) (y : B) → slice_get xs k ≡ Some x → IsListed y (f k x) → IsListed y (pieces f xs)
find_in f xs k x y at h =
    let p = position (f k x) y h in
    listed (pieces f xs) (joined_place f xs k p.0) y (piece_at f xs k p.0 x y at p.1)

module _ (g o : Netlist) (w : Alignment) (a : IsAligned g o w) (only : HasOnlyKept o w) (good : IsGood g (λ k. k)) (apart : AreNamedApart g) (order : IsGood o (λ k. k)) where
  abbrev flat : Netlist
  flat = a.by.flat

  abbrev flats : ℕ → FlatCircuit
  flats = a.by.flats

  abbrev table : List (Option ℕ)
  table = numbers g o w a only good apart

  abbrev insides : List PlainInside
  insides = all_inside (goes_list g o w a only good apart) [] 0 g.circuits

  stay : (c : ℕ) → w.kept c ≡ true → a.goes c ≡ false
  stay c kept = elim (cases_Bool (a.goes c)) [
    | inl t ↦ let k = ((a.going c).0 t).0 in absurd (let e : true ≡ false = sym kept ∙ k in cc)
    | inr e ↦ e
  ]

  -- the held pins of the circuits with numbers below i
  abbrev HasHeld : List (List ℕ) → ℕ → Type 0
  HasHeld held i = (d : ℕ) → w.kept d ≡ true → w.number d < i → slice_get held (w.number d) ≡ Some (held_pins flat w d)

  module _ (c : ℕ) (kept : w.kept c ≡ true) (held : List (List ℕ)) (has : HasHeld held (w.number c)) (x : Circuit) (is_x : IsCircuit o (w.number c) x) where
    is : IsCircuit g c (given_of g c)
    is = given g o w a only good apart c kept

    flat_is : given_of flat c ≡ plain (flats c)
    flat_is = plain_is g o w a only good apart c is

    fgood : IsGood flat (λ k. k)
    fgood = flat_good g o w a only good apart

    abbrev S : List Stood
    S = spots_by g a.goes flats (suc c) c

    known : IsKnown g insides c S (length (flats c).nets)
    known = known_all g flat (goes_list g o w a only good apart) a.goes (goes_is g o w a only good apart) flats good a.by.flattened c (suc c) (slice_get_within g.circuits c (given_of g c) is) (omega arith)

    abbrev spots : List PlainSpot
    spots = known.inside.spots

    right : (t : Stood) → IsListed t S → IsRight g a.goes flats c t
    right t h = all_right g flat a.goes flats good a.by.flattened (suc c) c t (omega arith) is h

    on_one : Together OnOne spots S
    on_one = together OnOne spots S known.tied.long (λ i s t p q. (known.tied.each i s t p q).circuit)

    spot_of : (i : ℕ) (s : PlainSpot) (t : Stood) → slice_get spots i ≡ Some s → slice_get S i ≡ Some t → IsSpotOf g s t
    spot_of i s t p q =
        let e = known.tied.each i s t p q in
        record { circuit = e.circuit; count = e.count; nets = e.nets; there = (right t (listed S i t q)).there }

    -- a call of a kept circuit at a spot
    call_of : (i : ℕ) (s : PlainSpot) (t : Stood) → slice_get spots i ≡ Some s → slice_get S i ≡ Some t → (k : ℕ) (r : CallRow) → slice_get (given_of g t.circuit).calls k ≡ Some r → w.kept r.circuit ≡ true
        → IsCallOf g flat w a.goes table held (numbers_at g o w a only good apart) stay s t r
    call_of i s t p q k r at keeps =
        let of = spot_of i s t p q in
        let row : CallRow = call_through t.net r in
        let one : IsListed (call_at t k r) (cond (a.goes r.circuit) [] (call_at t k r ∷ [])) = subst (λ (b : Bool). IsListed (call_at t k r) (cond b [] (call_at t k r ∷ []))) (sym (stay r.circuit keeps)) (inl refl) in
        let two : IsListed (call_at t k r) (call_list g a.goes t) = find_in (λ k r. cond (a.goes r.circuit) [] (call_at t k r ∷ [])) (given_of g t.circuit).calls k r (call_at t k r) at one in
        let three : IsListed (call_at t k r) (flats c).calls = subst (λ (z : List CallAt). IsListed (call_at t k r) z) (sym (calls_are g flat a.goes flats good a.by.flattened (suc c) c (omega arith) is)) (in_all (call_list g a.goes) S t (call_at t k r) (listed S i t q) two) in
        let e = position (flats c).calls (call_at t k r) three in
        let call : IsCall flat c e.0 row = (plain (flats c), a.by.flattened.there c (given_of g c) is, map_to (λ (z : CallAt). z.row) (flats c).calls e.0 (call_at t k r) e.1) in
        let here : slice_get (given_of flat c).calls e.0 ≡ Some row = subst (λ (z : Circuit). slice_get z.calls e.0 ≡ Some row) (sym (given_is flat c call.0 call.1)) call.2 in
        let item : CutCall = record { from = e.0; row = cut_row flat w c row } in
        let put : IsListed item (cut_calls flat w c) = find_in (cut_call flat w c) (given_of flat c).calls e.0 row item here (subst (λ (b : Bool). IsListed item (cond b (item ∷ []) [])) (sym keeps) (inl refl)) in
        let j = position (cut_calls flat w c) item put in
        let outer : IsCall o (w.number c) j.0 (cut_row flat w c row) = (cut flat w c, a.by.cut_down.there c kept, map_to (λ (z : CutCall). z.row) (cut_calls flat w c) j.0 item j.1) in
        let lower : w.number r.circuit < w.number c = order.lower (w.number c) j.0 (cut_row flat w c row) outer in
        record {
          pins = has r.circuit keeps lower;
          nets = λ m n at_pin.
              let pin = call_pin flat o w a.by.cut_down (λ k. k) fgood c e.0 m n row call at_pin in
              let old = map_from t.net r.nets n pin.0 pin.1 in
              let near : net_at r.nets n ≡ old.0 = index_at r.nets n old.0 old.1 in
              let net : HasNet g t.circuit old.0 = good.within.calls t.circuit k n old.0 r (given_of g t.circuit, of.there, at) old.1 in
              let low : old.0 < length (given_of g t.circuit).nets = subst (λ (z : Circuit). old.0 < length z.nets) (sym (given_is g t.circuit net.0 net.1)) net.2 in
              let count = of.count in
              ap (net_at s.nets) near ∙ (of.nets old.0 (omega arith) ∙ (old.2 ∙ sym pin.2));
        }

    seen_are : seen_nets g table held spots ≡ named_old flat o w a.by.cut_down (λ k. k) fgood c kept
    seen_are =
        ap₂ (λ (p q : List ℕ). p ++ q)
        (terminals_are g (λ k. k) good spots S (together (IsSpotOf g) spots S known.tied.long spot_of)
        ∙ (ap (λ (z : List DeviceAt). flat_map terminal_nets (map (λ (d : DeviceAt). d.row) z)) (sym (devices_are g flat a.goes flats good a.by.flattened (suc c) c (omega arith) is))
        ∙ ap (λ (z : Circuit). flat_map terminal_nets z.devices) (sym flat_is)))
        (calls_are_seen g flat w a.goes table held (numbers_at g o w a only good apart) stay spots S on_one
        (together (λ s t. (m : ℕ) (r : CallRow) → slice_get (given_of g t.circuit).calls m ≡ Some r → w.kept r.circuit ≡ true → IsCallOf g flat w a.goes table held (numbers_at g o w a only good apart) stay s t r) spots S known.tied.long call_of)
        ∙ (ap (λ (z : List CallAt). flat_map (old_nets flat w) (keep w.kept (map (λ (r : CallAt). r.row) z))) (sym (calls_are g flat a.goes flats good a.by.flattened (suc c) c (omega arith) is))
        ∙ ap (λ (z : Circuit). flat_map (old_nets flat w) (keep w.kept z.calls)) (sym flat_is)))

    numbered_at : (n : ℕ) → slice_index_or (net_numbers g table held known.inside.count spots x) n None ≡ cond (w.held c n) (Some (w.new c n)) None
    numbered_at n =
        table_at flat o w a.by.cut_down (λ k. k) fgood c kept (seen_nets g table held spots) (named_nets x) known.inside.count n seen_are
        (ap named_nets (cut_is flat o w a.by.cut_down c x kept is_x))
        (known.count_is ∙ (sym (length-map (flats c).nets (λ n. n.name)) ∙ ap (λ (z : Circuit). length z.nets) (sym flat_is)))

    abbrev paths : List (List ℕ)
    paths = map path_of S

    path_here : (j : ℕ) (t : Stood) → slice_get S j ≡ Some t → path_at paths (0 + j) ≡ t.path
    path_here j t h = ap (path_at paths) (let e : 0 + j ≡ j = omega arith in e) ∙ at_or paths j t.path [] (map_to path_of S j t h)

    abbrev made : PlainInside → PlainOrigins
    made z = record { circuit = c; devices = device_parts g 0 z.spots; calls = call_parts g table 0 z.spots; nets = net_numbers g table held z.count z.spots x }

    are_origins : AreOrigins g o w a spots c (made known.inside)
    are_origins = record {
      circuit = refl;
      paths = paths;
      are = record {
        long = let l = length-map S path_of in let e = known.tied.long in omega arith;
        each = λ i s path p q.
            let t = map_from path_of S i path q in
            subst (λ (z : List ℕ). IsPathBy paths i s.by z) t.2 (by_path S i s.by t.0.path (known.tied.each i s t.0 p t.1).by);
      };
      inside = λ path. (
        (λ h.
            let i = position paths path h in
            let t = map_from path_of S i.0 path i.1 in
            subst (λ (z : List ℕ). IsInside g (maps_of g a.goes flats) c z) t.2 (right t.0 (listed S i.0 t.0 t.1)).inside),
        (λ h.
            let t = found g flat a.goes flats good a.by.flattened path (suc c) c (omega arith) is h in
            let i = position S t.0 t.1 in
            subst (λ (z : List ℕ). IsListed z paths) t.2 (listed paths i.0 t.0.path (map_to path_of S i.0 t.0 i.1))),
      );
      once = at_apart paths (λ i j path p q.
          let s = map_from path_of S i path p in
          let t = map_from path_of S j path q in
          once g flat a.goes flats good a.by.flattened (suc c) c i j s.0 t.0 (omega arith) is s.1 t.1 (s.2 ∙ sym t.2));
      ends = λ i s path p q.
          let t = map_from path_of S i path q in
          let of = spot_of i s t.0 p t.1 in
          let e = (right t.0 (listed S i t.0 t.1)).ends in (
            subst (λ (z : List ℕ). IsCallPath g c z s.circuit) t.2 (subst (λ (d : ℕ). IsCallPath g c t.0.path d) (sym of.circuit) e),
            of.count ∙ ap (λ (d : ℕ). length (given_of g d).nets) (sym of.circuit),
          );
      devices =
          devices_from g paths spots S 0 on_one path_here
          ∙ ap (map (λ (d : DeviceAt). d.from)) (sym (devices_are g flat a.goes flats good a.by.flattened (suc c) c (omega arith) is));
      calls =
          calls_from g paths table w.kept a.goes (kept_is g o w a only good apart) stay spots S 0 on_one path_here
          ∙ (ap (kept_ways w.kept) (sym (calls_are g flat a.goes flats good a.by.flattened (suc c) c (omega arith) is))
          ∙ (sym (cut_ways flat w c (flats c).calls (flats c).calls (λ m. m) (λ m r h. h))
          ∙ ap (λ (z : Circuit). map (λ (r : CutCall). way_or (slice_get (flats c).calls r.from)) (pieces (cut_call flat w c) z.calls)) (sym flat_is)));
      nets = λ i n s path p q low.
          let t = map_from path_of S i path q in
          let of = spot_of i s t.0 p t.1 in
          let image : (net_image (maps_of g a.goes flats) c (slot path n)).net ≡ t.0.net n
          = ap (λ (z : List ℕ). (net_image (maps_of g a.goes flats) c (slot z n)).net) (sym t.2) ∙ ap (λ (z : Slot). z.net) ((right t.0 (listed S i t.0 t.1)).nets n) in
          ap (λ (m : ℕ). slice_index_or (net_numbers g table held known.inside.count spots x) m None) (of.nets n low)
          ∙ (numbered_at (t.0.net n) ∙ ap (λ (m : ℕ). cond (w.held c m) (Some (w.new c m)) None) (sym image));
    }

    here : known.inside ≡ inside_at insides c
    here = sym (ap inside_or known.at)

    pub origins_right : AreOrigins g o w a (inside_at insides c).spots c (origins_of g insides table held c x)
    origins_right = subst (λ (z : PlainInside). AreOrigins g o w a z.spots c (made z)) here are_origins

    pub held_right : held_of g c (origins_of g insides table held c x).nets ≡ held_pins flat w c
    held_right =
        ap (λ (z : PlainInside). held_of g c (net_numbers g table held z.count z.spots x)) (sym here)
        ∙ (pins_held flat o w a.by.cut_down (λ k. k) fgood c kept (net_numbers g table held known.inside.count spots x) (given_of g c).pins (λ i. i) numbered_at
        ∙ (ap (λ (z : FlatCircuit). pieces (held_pin flat w c) z.pins) (sym (a.by.flattened.each c (given_of g c) is))
        ∙ ap (λ (z : Circuit). pieces (held_pin flat w c) z.pins) (sym flat_is)))

  -- the first circuit of what is left
  record First (i : ℕ) (held : List (List ℕ)) (x : Circuit) : Type 0 where
    circuit : ℕ
    cell : slice_index_or (kept_list g o w a only good apart) i 0 ≡ circuit
    keeps : w.kept circuit ≡ true
    number : w.number circuit ≡ i
    right : AreOrigins g o w a (inside_at insides circuit).spots circuit (origins_of g insides table held circuit x)
    pins : held_of g circuit (origins_of g insides table held circuit x).nets ≡ held_pins flat w circuit

  first : (i : ℕ) (held : List (List ℕ)) (x : Circuit) → HasHeld held i → IsCircuit o i x → First i held x
  first i held x has is_x =
      let e = entry g o w a only good apart i x is_x in
      let d = e.circuit in
      let has_d : HasHeld held (w.number d) = subst (λ (n : ℕ). HasHeld held n) (sym e.number) has in
      let x_d : IsCircuit o (w.number d) x = subst (λ (n : ℕ). IsCircuit o n x) (sym e.number) is_x in
      record {
        circuit = d;
        cell = index_at (kept_list g o w a only good apart) i d e.at;
        keeps = e.kept;
        number = e.number;
        right = origins_right d e.kept held has_d x x_d;
        pins = held_right d e.kept held has_d x x_d;
      }

  record Found (ys : List PlainOrigins) (j c : ℕ) : Type 0 where
    it : PlainOrigins
    at : slice_get ys j ≡ Some it
    are : AreOrigins g o w a (inside_at insides c).spots c it

  has_more : (i : ℕ) (held : List (List ℕ)) (pins : List ℕ) (d : ℕ) → length held ≡ i → HasHeld held i → w.kept d ≡ true → w.number d ≡ i → pins ≡ held_pins flat w d → HasHeld (held ++ pins ∷ []) (i + 1)
  has_more i held pins d long has keeps number e c kept low = elim (ℕ_discrete (w.number c) i) [
    | yes same ↦
        let one : c ≡ d = only.apart c d kept keeps (same ∙ sym number) in
        let place : length held ≡ w.number c = long ∙ sym same in
        subst (λ (n : ℕ). slice_get (held ++ pins ∷ []) n ≡ Some (held_pins flat w c)) place (get_last held pins ∙ ap Some (e ∙ ap (held_pins flat w) (sym one)))
    | no not ↦ get_left held (pins ∷ []) (w.number c) (held_pins flat w c) (has c kept (omega (arith, not)))
  ]

  all_found : (xs : List Circuit) (i : ℕ) (held : List (List ℕ)) → length held ≡ i → HasHeld held i → ((j : ℕ) (x : Circuit) → slice_get xs j ≡ Some x → IsCircuit o (i + j) x)
      → (j c : ℕ) → w.kept c ≡ true → w.number c ≡ i + j → j < length xs → Found (origins_from g insides table (kept_list g o w a only good apart) i held xs) j c
  all_found [] i held long has at j c kept num low = absurd (omega arith)
  all_found (x ∷ xs) i held long has at zero c kept num low =
      let is_x : IsCircuit o i x = subst (λ (n : ℕ). IsCircuit o n x) (let e : i + 0 ≡ i = omega arith in e) (at 0 x refl) in
      let f = first i held x has is_x in
      let same : f.circuit ≡ c = only.apart f.circuit c f.keeps kept (let n = f.number in omega arith) in
      let cell = slice_index_or (kept_list g o w a only good apart) i 0 in
      let one = subst (λ (n : ℕ). AreOrigins g o w a (inside_at insides f.circuit).spots f.circuit (origins_of g insides table held n x)) (sym f.cell) f.right in
      record {
        it = origins_of g insides table held cell x;
        at = refl;
        are = subst (λ (n : ℕ). AreOrigins g o w a (inside_at insides n).spots n (origins_of g insides table held cell x)) same one;
      }
  all_found (x ∷ xs) i held long has at (suc j) c kept num low =
      let is_x : IsCircuit o i x = subst (λ (n : ℕ). IsCircuit o n x) (let e : i + 0 ≡ i = omega arith in e) (at 0 x refl) in
      let f = first i held x has is_x in
      let cell = slice_index_or (kept_list g o w a only good apart) i 0 in
      let pins = held_of g cell (origins_of g insides table held cell x).nets in
      let same : pins ≡ held_pins flat w f.circuit = ap (λ (n : ℕ). held_of g n (origins_of g insides table held n x).nets) f.cell ∙ f.pins in
      let rest = all_found xs (i + 1) (held ++ pins ∷ []) (let l = length-append held (pins ∷ []) in omega arith) (has_more i held pins f.circuit long has f.keeps f.number same)
      (λ k y e. subst (λ (n : ℕ). IsCircuit o n y) (let z : i + suc k ≡ (i + 1) + k = omega arith in z) (at (suc k) y e)) j c kept (omega arith) (omega arith) in
      record { it = rest.it; at = rest.at; are = rest.are }

  pub each_found : (c : ℕ) → w.kept c ≡ true → (y : PlainOrigins) × (slice_get (made_origins g o).circuits (w.number c) ≡ Some y) × AreOrigins g o w a (inside_at (made_origins g o).insides c).spots c y
  each_found c kept =
      let f = all_found o.circuits 0 [] refl (λ d k low. absurd (omega arith)) (λ j x e. subst (λ (n : ℕ). IsCircuit o n x) (let z : j ≡ 0 + j = omega arith in z) e)
      (w.number c) c kept (omega arith) (slice_get_within o.circuits (w.number c) (cut flat w c) (a.by.cut_down.there c kept)) in
      (f.it, f.at, f.are)

from_long : (g : Netlist) (insides : List PlainInside) (numbers : List (Option ℕ)) (kept : List ℕ) (xs : List Circuit) (i : ℕ) (held : List (List ℕ)) → length (origins_from g insides numbers kept i held xs) ≡ length xs
from_long g insides numbers kept [] i held = refl
from_long g insides numbers kept (x ∷ xs) i held =
    let e = from_long g insides numbers kept xs (i + 1) (held ++ held_of g (slice_index_or kept i 0) (origins_of g insides numbers held (slice_index_or kept i 0) x).nets ∷ []) in omega arith

pub have_origins : (g o : Netlist) → IsGood g (λ k. k) → AreNamedApart g → IsGood o (λ k. k) → HaveOrigins g o (made_origins g o)
have_origins g o good apart order = record {
  count =
      let kept = places_in (texts_from [] g.circuits) o.circuits in
      let table : List (Option ℕ) = numbered kept (length g.circuits) in
      from_long g (made_origins g o).insides table kept o.circuits 0 [];
  each = λ w a only c kept. each_found g o w a only good apart order c kept;
}
