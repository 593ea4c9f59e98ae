-- The parts of a cut circuit.
use Rattle.std.proofs.Common.{◌≡◌, ◌⊎◌, inl, inr, ℕ, Bool, true, false, cond, List, [], ◌∷◌, ◌++◌, map, Option, Some, None, refl, sym, ◌∙◌, ap, ap₂, subst}
use Rattle.std.proofs.lemmas.Bool.{cases_Bool}
use Rattle.std.specs.Prelude.{slice_index_or, flat_map, is_some, unwrap_or}
use Rattle.std.proofs.lemmas.List.{map-append}
use Rattle.plain_netlist.specs.Lists.{IsListed}
use Rattle.plain_netlist.specs.Netlist.{DeviceRow, CallRow as PlainCall, Circuit as PlainCircuit}
use Rattle.plain_netlist.specs.Devices.{terminal_nets}
use Rattle.plain_netlist.proofs.Members.{in_left, in_right, in_all}
use Rattle.plain_netlist.specs.Devices.{row_over}
use Rattle.plain_netlist.proofs.Rows.{row_over_agrees}
use Rattle.net_model.specs.Rows.{plain_call, plain_device}
use Rattle.net_model.specs.declared.netlist.CallRow.{CallRow}
use Rattle.net_model.specs.declared.netlist.DeviceRow.{DeviceRow as Device}
use Rattle.net_align.specs.Laid.{device_put}
use Rattle.net_align.specs.Sights.{is_kept, number_of, pins_of, net_of, call_nets, inner_sights, sights, short_call, firsts, place_in, cut_down}
use Rattle.net_align.proofs.Seeing.{map_on, flat_map_on}

module _ (numbers : List (Option ℕ)) (held : List (List ℕ)) (to : ℕ → ℕ) (r : CallRow) where
  pub short_kept : {number : ℕ} (new : CallRow) → slice_index_or numbers r.circuit None ≡ Some number → new.circuit ≡ number → new.nets.items ≡ map to (map (net_of r.nets.items) (pins_of held r.circuit))
      → short_call numbers held to (plain_call r) ≡ plain_call new ∷ []
  short_kept {number} new kept is nets =
      let on : is_kept numbers r.circuit ≡ true = ap (λ (o : Option ℕ). is_some o) kept in
      let value : number_of numbers r.circuit ≡ new.circuit = ap (λ (o : Option ℕ). unwrap_or o 0) kept ∙ sym is in
      ap (λ (b : Bool). cond b ((let x : PlainCall = record { circuit = number_of numbers r.circuit; nets = map to (map (net_of r.nets.items) (pins_of held r.circuit)) } in x) ∷ []) []) on
      ∙ ap₂ (λ (k : ℕ) (ns : List ℕ). (let x : PlainCall = record { circuit = k; nets = ns } in x) ∷ []) value (sym nets)

  pub short_gone : slice_index_or numbers r.circuit None ≡ None → short_call numbers held to (plain_call r) ≡ []
  short_gone gone =
      let off : is_kept numbers r.circuit ≡ false = ap (λ (o : Option ℕ). is_some o) gone in
      ap (λ (b : Bool). cond b ((let x : PlainCall = record { circuit = number_of numbers r.circuit; nets = map to (map (net_of r.nets.items) (pins_of held r.circuit)) } in x) ∷ []) []) off

pub call_added : (xs ys : List CallRow) (new : CallRow) (more : List PlainCall) → ys ≡ xs ++ new ∷ [] → more ≡ plain_call new ∷ [] → map plain_call ys ≡ map plain_call xs ++ more
call_added xs ys new more e is = ap (λ (t : List CallRow). map plain_call t) e ∙ (map-append plain_call xs (new ∷ []) ∙ ap (λ (t : List PlainCall). map plain_call xs ++ t) (sym is))

module _ (numbers : List (Option ℕ)) (held : List (List ℕ)) (own : List ℕ) (c : PlainCircuit) (to : ℕ → ℕ)
    (same : (n : ℕ) → IsListed n (sights numbers held own c) → to n ≡ place_in (firsts (sights numbers held own c)) n) where
  abbrev place : ℕ → ℕ
  place = place_in (firsts (sights numbers held own c))

  inside : (n : ℕ) → IsListed n (inner_sights numbers held c) → to n ≡ place n
  inside n h = same n (in_right own (inner_sights numbers held c) n h)

  pub pins_same : map to own ≡ map place own
  pins_same = map_on to place own (λ n h. same n (in_left own (inner_sights numbers held c) n h))

  pub devices_same : (rows : List Device) → map plain_device rows ≡ c.devices → map (device_put to) rows ≡ map (row_over place) c.devices
  devices_same rows e =
      go rows (λ d h n l. inside n (in_left (flat_map terminal_nets c.devices) (flat_map (call_nets numbers held) c.calls) n (subst (λ (t : List DeviceRow). IsListed n (flat_map terminal_nets t)) e (in_all terminal_nets (map plain_device rows) (plain_device d) n (mapped rows d h) l))))
      ∙ ap (λ (t : List DeviceRow). map (row_over place) t) e
    where
      mapped : (xs : List Device) (d : Device) → IsListed d xs → IsListed (plain_device d) (map plain_device xs)
      mapped [] d h = h
      mapped (x ∷ xs) d (inl e) = inl (ap plain_device e)
      mapped (x ∷ xs) d (inr h) = inr (mapped xs d h)

      go : (xs : List Device) → ((d : Device) → IsListed d xs → (n : ℕ) → IsListed n (terminal_nets (plain_device d)) → to n ≡ place n) → map (device_put to) xs ≡ map (row_over place) (map plain_device xs)
      go [] h = refl
      go (d ∷ xs) h =
          let all = h d (inl refl) in
          ap₂ (λ (r : DeviceRow) (rs : List DeviceRow). r ∷ rs)
          (row_over_agrees to place (plain_device d) all)
          (go xs (λ y l. h y (inr l)))

  pub calls_same : flat_map (short_call numbers held to) c.calls ≡ flat_map (short_call numbers held place) c.calls
  calls_same = flat_map_on (short_call numbers held to) (short_call numbers held place) c.calls (λ r h. one r h (cases_Bool (is_kept numbers r.circuit)))
    where
      one : (r : PlainCall) → IsListed r c.calls → (is_kept numbers r.circuit ≡ true) ⊎ (is_kept numbers r.circuit ≡ false) → short_call numbers held to r ≡ short_call numbers held place r
      one r h (inl on) =
          let nets = map (net_of r.nets) (pins_of held r.circuit) in
          let seen : call_nets numbers held r ≡ nets = ap (λ (b : Bool). cond b nets []) on in
          let agree : map to nets ≡ map place nets = map_on to place nets (λ n l. inside n (in_right (flat_map terminal_nets c.devices) (flat_map (call_nets numbers held) c.calls) n (in_all (call_nets numbers held) c.calls r n h (subst (λ (t : List ℕ). IsListed n t) (sym seen) l)))) in
          ap (λ (ns : List ℕ). cond (is_kept numbers r.circuit) ((let x : PlainCall = record { circuit = number_of numbers r.circuit; nets = ns } in x) ∷ []) []) agree
      one r h (inr off) =
          ap (λ (b : Bool). cond b ((let x : PlainCall = record { circuit = number_of numbers r.circuit; nets = map to (map (net_of r.nets) (pins_of held r.circuit)) } in x) ∷ []) []) off
          ∙ ap (λ (b : Bool). cond b ((let x : PlainCall = record { circuit = number_of numbers r.circuit; nets = map place (map (net_of r.nets) (pins_of held r.circuit)) } in x) ∷ []) []) (sym off)

pub cut_same : (numbers : List (Option ℕ)) (held : List (List ℕ)) (own : List ℕ) (c : PlainCircuit) (name : List ℕ) (nets : List (List ℕ)) (pins : List ℕ) (devices : List DeviceRow) (calls : List PlainCall)
    → name ≡ c.name → nets ≡ map (λ n. slice_index_or c.nets n []) (firsts (sights numbers held own c)) → pins ≡ map (place_in (firsts (sights numbers held own c))) own
    → devices ≡ map (row_over (place_in (firsts (sights numbers held own c)))) c.devices → calls ≡ flat_map (short_call numbers held (place_in (firsts (sights numbers held own c)))) c.calls
    → (let x : PlainCircuit = record { name = name; nets = nets; pins = pins; devices = devices; calls = calls } in x) ≡ cut_down numbers held own c
cut_same numbers held own c name nets pins devices calls n a b d e = cc
