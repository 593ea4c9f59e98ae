-- What a cut circuit names: its held pins, the terminals of its devices, and its nets at the held pins of kept calls, renumbered.
use Rattle.std.proofs.Common.{◌≡◌, inl, inr, ℕ, zero, suc, ◌<◌, Bool, true, false, cond, List, [], ◌∷◌, ◌++◌, map, length, Some, slice_get, refl, sym, ◌∙◌, ap, ap₂, subst, arith}
use Rattle.base_laws.proofs.Items.{get_left, item_at, map_from}
use Rattle.std.specs.List.{flat_map}
use Rattle.std.proofs.lemmas.List.{map-append}
use Rattle.std.proofs.lemmas.Simd.{map-map}
use Rattle.std.proofs.lemmas.Option.{none-some, same_Some, slice_get_within}
use Rattle.plain_netlist.specs.Netlist.{DeviceRow, CallRow, Circuit, Netlist, IsCircuit, IsCall, HasNet}
use Rattle.plain_netlist.specs.Devices.{terminal_nets, row_over}
use Rattle.plain_netlist.specs.Normal.{appearances}
use Rattle.plain_netlist.proofs.Members.{listed}
use Rattle.plain_netlist.proofs.Rows.{terminal_nets_over}
use Rattle.plain_netlist.specs.Sound.{IsGood}
use Rattle.align_laws.specs.Lists.{over, pieces, net_at_pin, given_of}
use Rattle.align_laws.specs.Cut.{Alignment, CutCall, held_pins, cut_row, cut_calls, cut, OnHeldPin, AreCut}
use Rattle.align_laws.proofs.CutList.{given_is, held_of}
use Rattle.align_laws.proofs.Pieces.{append_right, append_cases, place_pin}
use Rattle.align_laws.proofs.SameViews.{keep_from}
use Rattle.align_laws.proofs.Views.{keep}

-- lists joined item by item
pub flat_in : {A B : Type 0} (g : A → List B) (xs : List A) (k q : ℕ) (x : A) (y : B) → slice_get xs k ≡ Some x → slice_get (g x) q ≡ Some y → (i : ℕ) × (slice_get (flat_map g xs) i ≡ Some y)
flat_in g [] k q x y h e = absurd (none-some x h)
flat_in {A} g (z ∷ zs) zero q x y h e = (q, get_left (g z) (flat_map g zs) q y (subst (λ (u : A). slice_get (g u) q ≡ Some y) (sym (same_Some _ _ h)) e))
flat_in g (z ∷ zs) (suc k) q x y h e = let f = flat_in g zs k q x y h e in (over (g z) f.0, append_right (g z) (flat_map g zs) f.0 y f.1)

flat_of : {A B : Type 0} (g : A → List B) (xs : List A) (i : ℕ) (y : B) → slice_get (flat_map g xs) i ≡ Some y → (k : ℕ) × (x : A) × (q : ℕ) × (slice_get xs k ≡ Some x) × (slice_get (g x) q ≡ Some y)
flat_of g [] i y h = absurd (none-some y h)
flat_of g (z ∷ zs) i y h = elim (append_cases (g z) (flat_map g zs) i y h) [
  | inl l ↦ (0, z, i, refl, l)
  | inr (m, at, e) ↦ let f = flat_of g zs m y at in (suc f.0, f.1, f.2, f.3, f.4)
]

-- terminals of devices
abbrev pub named : DeviceRow → List ℕ
named d = terminal_nets d

flat_rows : (f : ℕ → ℕ) (ds : List DeviceRow) → flat_map named (map (row_over f) ds) ≡ map f (flat_map named ds)
flat_rows f [] = refl
flat_rows f (d ∷ ds) = ap₂ (λ (ys zs : List ℕ). ys ++ zs) (terminal_nets_over f d) (flat_rows f ds) ∙ sym (map-append f (named d) (flat_map named ds))

-- the nets of a call at the held pins of the called circuit
abbrev pub old_nets : Netlist → Alignment → CallRow → List ℕ
old_nets f w row = map (λ p. net_at_pin row.nets (λ m. 0) p) (held_pins f w row.circuit)

abbrev pub kept_calls : Netlist → Alignment → ℕ → List CallRow
kept_calls f w c = keep w.kept (given_of f c).calls

-- the nets of the flat circuit that the cut one names, in the order of appearance
abbrev pub old : Netlist → Alignment → ℕ → List ℕ
old f w c = held_pins f w c ++ (flat_map named (given_of f c).devices ++ flat_map (old_nets f w) (kept_calls f w c))

one_kept : (f : Netlist) (w : Alignment) (c k : ℕ) (row : CallRow) (us : List CutCall) (vs : List CallRow) → map (λ (r : CutCall). r.row) us ≡ map (cut_row f w c) vs → (b : Bool)
    → map (λ (r : CutCall). r.row) (cond b (record { from = k; row = cut_row f w c row } ∷ []) [] ++ us) ≡ map (cut_row f w c) (cond b (row ∷ vs) vs)
one_kept f w c k row us vs h true = ap (λ (zs : List CallRow). cut_row f w c row ∷ zs) h
one_kept f w c k row us vs h false = h

rows_kept : (f : Netlist) (w : Alignment) (c : ℕ) (number : ℕ → ℕ) (rows : List CallRow)
    → map (λ (r : CutCall). r.row) (pieces (λ k row. cond (w.kept row.circuit) (record { from = number k; row = cut_row f w c row } ∷ []) []) rows) ≡ map (cut_row f w c) (keep w.kept rows)
rows_kept f w c number [] = refl
rows_kept f w c number (row ∷ rows) =
    one_kept f w c (number 0) row (pieces (λ k r. cond (w.kept r.circuit) (record { from = number (suc k); row = cut_row f w c r } ∷ []) []) rows) (keep w.kept rows) (rows_kept f w c (λ k. number (suc k)) rows) (w.kept row.circuit)

-- the calls of the cut circuit are those of the flat one that are kept, cut
pub cut_kept : (f : Netlist) (w : Alignment) (c : ℕ) → map (λ (r : CutCall). r.row) (cut_calls f w c) ≡ map (cut_row f w c) (kept_calls f w c)
cut_kept f w c = rows_kept f w c (λ k. k) (given_of f c).calls

calls_flat : (f : Netlist) (w : Alignment) (c : ℕ) (rows : List CallRow) → flat_map (λ (r : CallRow). r.nets) (map (cut_row f w c) rows) ≡ map (w.new c) (flat_map (old_nets f w) rows)
calls_flat f w c [] = refl
calls_flat f w c (r ∷ rs) =
    ap₂ (λ (us vs : List ℕ). us ++ vs) (sym (map-map (w.new c) (λ p. net_at_pin r.nets (λ m. 0) p) (held_pins f w r.circuit))) (calls_flat f w c rs)
    ∙ sym (map-append (w.new c) (old_nets f w r) (flat_map (old_nets f w) rs))

pub appear : (f : Netlist) (w : Alignment) (c : ℕ) → appearances (cut f w c) ≡ map (w.new c) (old f w c)
appear f w c =
    ap₂ (λ (us vs : List ℕ). map (w.new c) (held_pins f w c) ++ (us ++ vs)) (flat_rows (w.new c) (given_of f c).devices) (ap (flat_map (λ (r : CallRow). r.nets)) (cut_kept f w c) ∙ calls_flat f w c (kept_calls f w c))
    ∙ (ap (λ (us : List ℕ). map (w.new c) (held_pins f w c) ++ us) (sym (map-append (w.new c) (flat_map named (given_of f c).devices) (flat_map (old_nets f w) (kept_calls f w c))))
    ∙ sym (map-append (w.new c) (held_pins f w c) (flat_map named (given_of f c).devices ++ flat_map (old_nets f w) (kept_calls f w c))))

module _ (f o : Netlist) (w : Alignment) (are : AreCut f o w) (height : ℕ → ℕ) (good : IsGood f height) where
  pub given_at : (c : ℕ) → w.kept c ≡ true → IsCircuit f c (given_of f c)
  given_at c kept = let x = are.given c kept in x.1 ∙ ap Some (sym (given_is f c x.0 x.1))

  -- a held net is a net
  pub held_there : (c n : ℕ) → w.kept c ≡ true → w.held c n ≡ true → HasNet f c n
  held_there c n kept h = elim ((are.held c n kept).0 h) [
    | inl (j, row, device, on) ↦ good.within.devices c j n row device on
    | inr (k, row, p, inner, call, kept', net, pin, held) ↦ good.within.calls c k p n row call net
  ]

  -- a held pin of a kept call, and the call's net there
  pub call_pin : (c k q n : ℕ) (row : CallRow) → IsCall f c k row → slice_get (held_pins f w row.circuit) q ≡ Some n → (outer : ℕ) × (slice_get row.nets n ≡ Some outer) × (net_at_pin row.nets (λ m. 0) n ≡ outer)
  call_pin c k q n row call at =
      let d = good.called c k row call in
      let h = held_of f w height good row.circuit q n d.0 d.1 at in
      let pin = h.0 in
      let same : pin.0 ≡ d.0 = same_Some _ _ (sym pin.1 ∙ d.1) in
      let low : n < length d.0.pins = subst (λ (x : Circuit). n < length x.pins) same (slice_get_within pin.0.pins n n pin.2) in
      let long = d.2 in
      let outer = item_at row.nets n (omega arith) in
      (outer.0, outer.1, place_pin row.nets (λ m. 0) n outer.0 outer.1)

  on_call : (c k q n : ℕ) (row : CallRow) → IsCall f c k row → w.kept row.circuit ≡ true → slice_get (old_nets f w row) q ≡ Some n → OnHeldPin f w c n
  on_call c k q n row call kept at =
      let m = map_from (λ p. net_at_pin row.nets (λ m. 0) p) (held_pins f w row.circuit) q n at in
      let d = good.called c k row call in
      let h = held_of f w height good row.circuit q m.0 d.0 d.1 m.1 in
      let outer = call_pin c k q m.0 row call m.1 in
      (k, row, m.0, m.0, call, kept, outer.1 ∙ ap Some (sym outer.2 ∙ m.2), h.0, h.1)

  -- each net that the cut circuit names was held
  pub all_held : (c i n : ℕ) → w.kept c ≡ true → slice_get (old f w c) i ≡ Some n → w.held c n ≡ true
  all_held c i n kept at =
      let x : Circuit = given_of f c in
      let is = given_at c kept in
      elim (append_cases (held_pins f w c) (flat_map named x.devices ++ flat_map (old_nets f w) (kept_calls f w c)) i n at) [
        | inl pin ↦ (held_of f w height good c i n x is pin).1
        | inr (m, rest, e) ↦ elim (append_cases (flat_map named x.devices) (flat_map (old_nets f w) (kept_calls f w c)) m n rest) [
          | inl device ↦
              let d = flat_of named x.devices m n device in
              (are.held c n kept).1 (inl (d.0, d.1, (x, is, d.3), listed (named d.1) d.2 n d.4))
          | inr (j, call, g) ↦
              let r = flat_of (old_nets f w) (kept_calls f w c) j n call in
              let back = keep_from w.kept x.calls r.0 r.1 r.3 in
              (are.held c n kept).1 (inr (on_call c back.0 r.2 n r.1 (x, is, back.1) back.2 r.4))
        ]
      ]
