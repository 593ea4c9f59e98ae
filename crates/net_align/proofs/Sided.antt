-- The tables of the code make an aligned netlist.
use Rattle.std.proofs.Common.{◌≡◌, ◌⊎◌, inl, inr, ℕ, zero, suc, ◌+◌, ◌<◌, Bool, true, false, cond, List, [], ◌∷◌, ◌++◌, length, map, Option, Some, None, slice_get, refl, sym, ◌∙◌, ap, ap₂, subst, arith, true≢false}
use Rattle.base_laws.proofs.Items.{map_to, map_from}
use Rattle.std.proofs.lemmas.Bool.{cases_Bool}
use Rattle.std.specs.Prelude.{slice_index_or, flat_map, filter, unwrap_or, is_some}
use Rattle.std.proofs.lemmas.List.{length-map}
use Rattle.std.proofs.lemmas.Simd.{map-map}
use Rattle.std.proofs.lemmas.Option.{slice_get-get_or}
use Rattle.plain_netlist.specs.Lists.{IsListed}
use Rattle.plain_netlist.specs.Netlist.{CallRow, Circuit, Netlist, IsCircuit, IsCall, IsPin}
use Rattle.plain_netlist.specs.Normal.{AreNumbered, IsNormalCircuit, appearances}
use Rattle.plain_netlist.specs.Devices.{terminal_nets}
use Rattle.plain_netlist.proofs.Members.{listed, position, in_right, either_side}
use Rattle.align_laws.specs.Aligned.{IsAlignedBy, HasOnlyKept}
use Rattle.align_laws.specs.Cut.{Alignment, CutCall, held_pins, cut_row, cut_calls, cut, AreHeld}
use Rattle.plain_netlist.specs.Devices.{row_over}
use Rattle.align_laws.specs.Lists.{pieces, net_at_pin, given_of, circuit_or, plain}
use Rattle.align_laws.proofs.Appear.{old_nets, old, cut_kept, appear}
use Rattle.align_laws.proofs.Views.{keep}
use Rattle.net_align.specs.Flattened.{Flattening, IsFlattening}
use Rattle.net_align.specs.Kept.{AreHeldPins, cut_of}
use Rattle.net_align.specs.Sights.{has_number, is_kept, number_of, pins_of, net_of, call_nets, inner_sights, own_pins, sights, short_call, firsts, firsts_from, with_first, place_in, IsNumbering, cut_down}
use Rattle.net_align.proofs.Firsts.{AreOnce, firsts_once, place_is, numbered_firsts, first_places}
use Rattle.net_align.proofs.Holding.{in_filter, from_filter, sight_on, on_sight, good, flat_there, pin_net, net_low, sight_net, all_pins}
use Rattle.net_align.proofs.Partnered.{at_or}
use Rattle.net_align.proofs.Seeing.{has_listed, listed_has, first_in, place_there, map_on}
use Rattle.net_align.proofs.Shortened.{cut_same}

one_more : (b : Bool) (x : ℕ) (us vs : List ℕ) → us ≡ vs → cond b (x ∷ []) [] ++ us ≡ cond b (x ∷ vs) vs
one_more true x us vs e = ap (λ (t : List ℕ). x ∷ t) e
one_more false x us vs e = e

pieces_filter : (p : ℕ → Bool) (xs : List ℕ) → pieces (λ (i n : ℕ). cond (p n) (n ∷ []) []) xs ≡ filter p xs
pieces_filter p [] = refl
pieces_filter p (x ∷ xs) = one_more (p x) x (pieces (λ (i n : ℕ). cond (p n) (n ∷ []) []) xs) (filter p xs) (pieces_filter p xs)

net_same : (nets : List ℕ) (p : ℕ) → net_at_pin nets (λ m. 0) p ≡ net_of nets p
net_same [] zero = refl
net_same [] (suc p) = refl
net_same (x ∷ xs) zero = refl
net_same (x ∷ xs) (suc p) = net_same xs p

onto_once : (x : ℕ) (ys : List ℕ) → AreOnce ys → ((k n : ℕ) → x ≡ n → slice_get ys k ≡ Some n → ⊥) → AreOnce (x ∷ ys)
onto_once x ys rest apart zero zero n a b = refl
onto_once x ys rest apart zero (suc j) n a b = absurd (apart j n (let e : x ≡ n = cc in e) b)
onto_once x ys rest apart (suc i) zero n a b = absurd (apart i n (let e : x ≡ n = cc in e) a)
onto_once x ys rest apart (suc i) (suc j) n a b = ap suc (rest i j n a b)

filter_once : (p : ℕ → Bool) (xs : List ℕ) → AreOnce xs → AreOnce (filter p xs)
filter_once p [] once = once
filter_once p (x ∷ xs) once =
    let rest : AreOnce (filter p xs) = filter_once p xs (λ i j n a b. let s = once (suc i) (suc j) n a b in omega (arith, s)) in
    elim (cases_Bool (p x)) [
      | inl t ↦
          let e : filter p (x ∷ xs) ≡ x ∷ filter p xs = rw t refl in
          subst (λ (ys : List ℕ). AreOnce ys) (sym e) (onto_once x (filter p xs) rest (λ k n same at.
          let l = (from_filter p xs n (listed (filter p xs) k n at)).0 in
          let q = position xs n l in
          let s = once 0 (suc q.0) n (ap Some same) q.1 in
          absurd (omega (arith, s))))
      | inr f ↦
          let e : filter p (x ∷ xs) ≡ filter p xs = rw f refl in
          subst (λ (ys : List ℕ). AreOnce ys) (sym e) rest
    ]

pub from_firsts : (xs seen : List ℕ) (n : ℕ) → IsListed n (firsts_from seen xs) → IsListed n seen ⊎ IsListed n xs
from_firsts [] seen n h = inl h
from_firsts (x ∷ xs) seen n h = elim (from_firsts xs (with_first seen x) n h) [
  | inr r ↦ inr (inr r)
  | inl l ↦ one (has_number seen x) l
]
  where
    one : (b : Bool) → IsListed n (cond b seen (seen ++ x ∷ [])) → IsListed n seen ⊎ IsListed n (x ∷ xs)
    one true l = inl l
    one false l = elim (either_side seen (x ∷ []) n l) [ inl a ↦ inl a | inr b ↦ elim b [ inl e ↦ inr (inl e) | inr z ↦ absurd z ] ]

module _ (g : Netlist) (goes : ℕ → Bool) (f : Flattening) (h : IsFlattening g goes f) (numbers : List (Option ℕ)) (held : List (List ℕ))
    (low : (c : ℕ) → is_kept numbers c ≡ true → c < length g.circuits) (all : AreHeldPins g f.flats numbers held) where
  abbrev flat : ℕ → Circuit
  flat c = plain (f.flats c)

  abbrev seen : ℕ → List ℕ
  seen c = sights numbers held (pins_of held c) (given_of f.flat c)

  abbrev olds : ℕ → List ℕ
  olds c = firsts (seen c)

  -- what the tables say
  abbrev pub aligning : Alignment
  aligning = record {
    kept = is_kept numbers;
    number = number_of numbers;
    held = λ c n. has_number (inner_sights numbers held (given_of f.flat c)) n;
    new = λ c n. place_in (olds c) n;
    old = λ c m. slice_index_or (olds c) m 0;
    names = λ c. map (λ n. slice_index_or (given_of f.flat c).nets n []) (olds c);
  }

  there : (c : ℕ) → is_kept numbers c ≡ true → IsCircuit f.flat c (flat c)
  there c kept = flat_there g goes f h c (low c kept)

  given : (c : ℕ) → is_kept numbers c ≡ true → given_of f.flat c ≡ flat c
  given c kept = ap circuit_or (there c kept)

  own_is : (c : ℕ) → is_kept numbers c ≡ true → held_pins f.flat aligning c ≡ pins_of held c
  own_is c kept =
      pieces_filter (has_number (inner_sights numbers held (given_of f.flat c))) (given_of f.flat c).pins
      ∙ (ap (own_pins numbers held) (given c kept) ∙ sym (all.each c kept))

  nets_same : (r : CallRow) → is_kept numbers r.circuit ≡ true → old_nets f.flat aligning r ≡ map (net_of r.nets) (pins_of held r.circuit)
  nets_same r kept =
      ap (λ (ps : List ℕ). map (λ p. net_at_pin r.nets (λ m. 0) p) ps) (own_is r.circuit kept)
      ∙ map_on (λ p. net_at_pin r.nets (λ m. 0) p) (net_of r.nets) (pins_of held r.circuit) (λ p l. net_same r.nets p)

  sights_step : (b : Bool) (r : CallRow) (ks : List CallRow) (more : List ℕ) → is_kept numbers r.circuit ≡ b → flat_map (old_nets f.flat aligning) ks ≡ more
      → flat_map (old_nets f.flat aligning) (cond b (r ∷ ks) ks) ≡ cond b (map (net_of r.nets) (pins_of held r.circuit)) [] ++ more
  sights_step true r ks more kept e = ap₂ (λ (a d : List ℕ). a ++ d) (nets_same r kept) e
  sights_step false r ks more kept e = e

  sights_same : (rows : List CallRow) → flat_map (old_nets f.flat aligning) (keep (is_kept numbers) rows) ≡ flat_map (call_nets numbers held) rows
  sights_same [] = refl
  sights_same (r ∷ rows) = sights_step (is_kept numbers r.circuit) r (keep (is_kept numbers) rows) (flat_map (call_nets numbers held) rows) refl (sights_same rows)

  seen_is : (c : ℕ) → is_kept numbers c ≡ true → old f.flat aligning c ≡ seen c
  seen_is c kept = ap₂ (λ (a d : List ℕ). a ++ (flat_map terminal_nets (given_of f.flat c).devices ++ d)) (own_is c kept) (sights_same (given_of f.flat c).calls)

  row_same : (c : ℕ) (r : CallRow) → is_kept numbers r.circuit ≡ true
      → cut_row f.flat aligning c r ≡ (let x : CallRow = record { circuit = number_of numbers r.circuit; nets = map (place_in (olds c)) (map (net_of r.nets) (pins_of held r.circuit)) } in x)
  row_same c r kept =
      ap (λ (ns : List ℕ). let x : CallRow = record { circuit = number_of numbers r.circuit; nets = ns } in x)
      (ap (λ (ps : List ℕ). map (λ p. place_in (olds c) (net_at_pin r.nets (λ m. 0) p)) ps) (own_is r.circuit kept)
      ∙ (map_on (λ p. place_in (olds c) (net_at_pin r.nets (λ m. 0) p)) (λ p. place_in (olds c) (net_of r.nets p)) (pins_of held r.circuit) (λ p l. ap (place_in (olds c)) (net_same r.nets p))
      ∙ sym (map-map (place_in (olds c)) (net_of r.nets) (pins_of held r.circuit))))

  calls_step : (c : ℕ) (b : Bool) (r : CallRow) (ks more : List CallRow) → is_kept numbers r.circuit ≡ b → map (cut_row f.flat aligning c) ks ≡ more
      → map (cut_row f.flat aligning c) (cond b (r ∷ ks) ks)
      ≡ cond b ((let x : CallRow = record { circuit = number_of numbers r.circuit; nets = map (place_in (olds c)) (map (net_of r.nets) (pins_of held r.circuit)) } in x) ∷ []) [] ++ more
  calls_step c true r ks more kept e = ap₂ (λ (x : CallRow) (d : List CallRow). x ∷ d) (row_same c r kept) e
  calls_step c false r ks more kept e = e

  calls_same : (c : ℕ) (rows : List CallRow) → map (cut_row f.flat aligning c) (keep (is_kept numbers) rows) ≡ flat_map (short_call numbers held (place_in (olds c))) rows
  calls_same c [] = refl
  calls_same c (r ∷ rows) = calls_step c (is_kept numbers r.circuit) r (keep (is_kept numbers) rows) (flat_map (short_call numbers held (place_in (olds c))) rows) refl (calls_same c rows)

  pub cut_is : (c : ℕ) → is_kept numbers c ≡ true → cut f.flat aligning c ≡ cut_of f.flats numbers held c
  cut_is c kept =
      cut_same numbers held (pins_of held c) (given_of f.flat c) (given_of f.flat c).name (aligning.names c) (map (place_in (olds c)) (held_pins f.flat aligning c))
      (map (row_over (place_in (olds c))) (given_of f.flat c).devices) (map (λ (r : CutCall). r.row) (cut_calls f.flat aligning c))
      refl refl (ap (λ (ps : List ℕ). map (place_in (olds c)) ps) (own_is c kept)) refl (cut_kept f.flat aligning c ∙ calls_same c (given_of f.flat c).calls)
      ∙ ap (λ (x : Circuit). cut_down numbers held (pins_of held c) x) (given c kept)

  own_once : (c : ℕ) → is_kept numbers c ≡ true → AreOnce (pins_of held c)
  own_once c kept =
      subst (λ (t : List ℕ). AreOnce t) (sym (all.each c kept))
      (filter_once (has_number (inner_sights numbers held (flat c))) (flat c).pins (λ i j n a b.
      let p = (good g goes f h).pins c i n (flat c, there c kept, a) in
      let q = (good g goes f h).pins c j n (flat c, there c kept, b) in
      omega (arith, p, q)))

  none_once : AreOnce []
  none_once i j n a b = absurd (let z : ⊥ = cc in z)

  pub is_normal : (c : ℕ) → is_kept numbers c ≡ true → IsNormalCircuit (cut f.flat aligning c)
  is_normal c kept = record {
    pins = λ i n at.
        let r = map_from (place_in (olds c)) (pins_of held c) i n (subst (λ (t : List ℕ). slice_get (map (place_in (olds c)) t) i ≡ Some n) (own_is c kept) at) in
        let first = first_places (pins_of held c) [] (inner_sights numbers held (given_of f.flat c)) i r.0 (λ m l. refl) (own_once c kept) none_once r.1 in
        let place : place_in (olds c) r.0 ≡ 0 + i = place_is (olds c) (0 + i) r.0 (firsts_once (seen c) [] none_once) first in
        let e = r.2 in omega (arith, place, e);
    numbered =
        subst (λ (k : ℕ). AreNumbered k 0 (appearances (cut f.flat aligning c))) (sym (length-map (olds c) (λ n. slice_index_or (given_of f.flat c).nets n [])))
        (subst (λ (t : List ℕ). AreNumbered (length (olds c)) 0 t) (sym (appear f.flat aligning c ∙ ap (λ (t : List ℕ). map (place_in (olds c)) t) (seen_is c kept)))
        (numbered_firsts (seen c) [] none_once));
  }

  seen_low : (c n : ℕ) → is_kept numbers c ≡ true → IsListed n (seen c) → n < length (given_of f.flat c).nets
  seen_low c n kept l =
      let pins = all_pins g goes f h numbers held c all in
      let net : IsListed n (inner_sights numbers held (flat c)) → n < length (flat c).nets = λ i. net_low g goes f h c n (low c kept) (sight_net g goes f h numbers held c n (low c kept) pins i) in
      let there_seen : IsListed n (sights numbers held (pins_of held c) (flat c)) = subst (λ (x : Circuit). IsListed n (sights numbers held (pins_of held c) x)) (given c kept) l in
      subst (λ (x : Circuit). n < length x.nets) (sym (given c kept))
      (elim (either_side (pins_of held c) (inner_sights numbers held (flat c)) n there_seen) [
        | inl o ↦ net (listed_has (inner_sights numbers held (flat c)) n (from_filter (has_number (inner_sights numbers held (flat c))) (flat c).pins n (subst (λ (t : List ℕ). IsListed n t) (all.each c kept) o)).1)
        | inr i ↦ net i
      ])

  pub is_named : (c m : ℕ) → is_kept numbers c ≡ true → m < length (aligning.names c) → slice_get (aligning.names c) m ≡ slice_get (given_of f.flat c).nets (aligning.old c m)
  is_named c m kept l =
      let long = length-map (olds c) (λ n. slice_index_or (given_of f.flat c).nets n []) in
      let at = slice_get-get_or (olds c) m 0 (omega (arith, l, long)) in
      let n = slice_index_or (olds c) m 0 in
      let in_seen : IsListed n (seen c) = elim (from_firsts (seen c) [] n (listed (olds c) m n at)) [ inl z ↦ absurd z | inr s ↦ s ] in
      map_to (λ k. slice_index_or (given_of f.flat c).nets k []) (olds c) m n at ∙ sym (slice_get-get_or (given_of f.flat c).nets n [] (seen_low c n kept in_seen))

  pin_held : (k c p : ℕ) (row : CallRow) → IsCall f.flat c k row → is_kept numbers row.circuit ≡ true → IsListed p (pins_of held row.circuit)
      → IsListed p (flat row.circuit).pins × (aligning.held row.circuit p ≡ true)
  pin_held k c p row call kept l =
      let r = from_filter (has_number (inner_sights numbers held (flat row.circuit))) (flat row.circuit).pins p (subst (λ (t : List ℕ). IsListed p t) (all.each row.circuit kept) l) in
      (r.0, ap (λ (x : Circuit). has_number (inner_sights numbers held x) p) (given row.circuit kept) ∙ r.1)

  pub are_held : AreHeld f.flat aligning
  are_held c n kept =
      let is : IsCircuit f.flat c (given_of f.flat c) = there c kept ∙ ap Some (sym (given c kept)) in (
        (λ e. elim (sight_on f.flat numbers held c (given_of f.flat c) is n (listed_has (inner_sights numbers held (given_of f.flat c)) n e)) [
          | inl d ↦ inl d
          | inr r ↦
              let p = r.2 in
              let row = r.1 in
              let w = pin_held r.0 c p row r.3 r.4 r.5 in
              let q = position (flat row.circuit).pins p w.0 in
              let pin : IsPin f.flat row.circuit q.0 p = (flat row.circuit, there row.circuit r.4, q.1) in
              let same : p ≡ q.0 = (good g goes f h).pins row.circuit q.0 p pin in
              inr (r.0, row, p, p, r.3, r.4, pin_net g goes f h c r.0 p row r.3 w.0 ∙ ap Some r.6, subst (λ (i : ℕ). IsPin f.flat row.circuit i p) (sym same) pin, w.1)
        ]),
        (λ o. has_listed (inner_sights numbers held (given_of f.flat c)) n (on_sight f.flat numbers held c (given_of f.flat c) is n (elim o [
          | inl d ↦ inl d
          | inr r ↦
              let row = r.1 in
              let p = r.2 in
              let inner = r.3 in
              let kept_row = r.5 in
              let pin = r.7 in
              let same : inner ≡ p = (good g goes f h).pins row.circuit p inner pin in
              let s : Some pin.0 ≡ Some (flat row.circuit) = sym pin.1 ∙ there row.circuit kept_row in
              let e : pin.0 ≡ flat row.circuit = cc in
              let l : IsListed inner (flat row.circuit).pins = listed (flat row.circuit).pins p inner (subst (λ (x : Circuit). slice_get x.pins p ≡ Some inner) e pin.2) in
              let t : has_number (inner_sights numbers held (flat row.circuit)) inner ≡ true = sym (ap (λ (x : Circuit). has_number (inner_sights numbers held x) inner) (given row.circuit kept_row)) ∙ r.8 in
              let own : IsListed inner (pins_of held row.circuit) = subst (λ (ps : List ℕ). IsListed inner ps) (sym (all.each row.circuit kept_row)) (in_filter (has_number (inner_sights numbers held (flat row.circuit))) (flat row.circuit).pins inner l t) in
              inr (r.0, row, p, r.4, kept_row, subst (λ (i : ℕ). IsListed i (pins_of held row.circuit)) same own, at_or row.nets p n 0 r.6)
        ]))),
      )

  pub comes_back : (c n : ℕ) → aligning.held c n ≡ true → aligning.old c (aligning.new c n) ≡ n
  comes_back c n e =
      let l = in_right (pins_of held c) (inner_sights numbers held (given_of f.flat c)) n (listed_has (inner_sights numbers held (given_of f.flat c)) n e) in
      at_or (olds c) (place_in (olds c) n) n 0 (place_there (olds c) n (first_in (seen c) [] n (inr l)))

  some_number : (c : ℕ) (o : Option ℕ) → slice_index_or numbers c None ≡ o → is_some o ≡ true → (k : ℕ) × (slice_index_or numbers c None ≡ Some k)
  some_number c None e t = absurd (true≢false (sym t))
  some_number c (Some k) e t = (k, e)

  module _ (o : Netlist) (circuits : List ℕ) (count : ℕ) (is : IsNumbering circuits count numbers) (made : o.circuits ≡ map (cut_of f.flats numbers held) circuits) where
    place_of_kept : (c : ℕ) → is_kept numbers c ≡ true → (k : ℕ) × (number_of numbers c ≡ k) × (slice_get circuits k ≡ Some c)
    place_of_kept c kept =
        let k = some_number c (slice_index_or numbers c None) refl kept in
        (k.0, ap (λ (x : Option ℕ). unwrap_or x 0) k.1, is.back c k.0 k.1)

    made_there : (c : ℕ) → is_kept numbers c ≡ true → IsCircuit o (number_of numbers c) (cut f.flat aligning c)
    made_there c kept =
        let k = place_of_kept c kept in
        ap (λ (xs : List Circuit). slice_get xs (number_of numbers c)) made
        ∙ (map_to (cut_of f.flats numbers held) circuits (number_of numbers c) c (ap (λ (i : ℕ). slice_get circuits i) k.1 ∙ k.2) ∙ ap Some (sym (cut_is c kept)))

    pub aligned_by : IsAlignedBy goes g o aligning
    aligned_by = record {
      height = f.height;
      good = h.good;
      flat = f.flat;
      flats = f.flats;
      flattened = h.are;
      cut_down = record {
        given = λ c kept. (flat c, there c kept);
        there = made_there;
        held = are_held;
        back = comes_back;
      };
      normal = is_normal;
      named = is_named;
    }

    pub only_kept : HasOnlyKept o aligning
    only_kept = record {
      from = λ i x at.
          let r = map_from (cut_of f.flats numbers held) circuits i x (ap (λ (xs : List Circuit). slice_get xs i) (sym made) ∙ at) in
          let n = is.there i r.0 r.1 in
          (r.0, ap (λ (y : Option ℕ). is_some y) n, ap (λ (y : Option ℕ). unwrap_or y 0) n);
      apart = λ a b kept_a kept_b e.
          let p = place_of_kept a kept_a in
          let q = place_of_kept b kept_b in
          let s : Some a ≡ Some b = sym p.2 ∙ (ap (λ (i : ℕ). slice_get circuits i) (sym p.1 ∙ (e ∙ q.1)) ∙ q.2) in
          let k : a ≡ b = cc in k;
    }
