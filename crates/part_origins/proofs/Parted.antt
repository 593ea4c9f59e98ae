-- The parts that the code lists are from where the flat circuit's devices and calls are.
use Rattle.std.proofs.Common.{◌≡◌, ℕ, suc, ◌+◌, Bool, true, false, cond, List, [], ◌∷◌, ◌++◌, length, map, Option, Some, slice_get, refl, sym, ◌∙◌, ap, ap₂, arith}
use Rattle.std.proofs.lemmas.Grind.{flat_map-append}
use Rattle.std.specs.Prelude.{flat_map}
use Rattle.std.proofs.lemmas.List.{map-append}
use Rattle.plain_netlist.specs.Netlist.{DeviceRow, CallRow, Netlist, Slot, slot}
use Rattle.align_laws.specs.Cut.{Alignment, CutCall, cut_row}
use Rattle.align_laws.specs.Lists.{DeviceAt, CallAt, indexed, pieces, given_of, way_or}
use Rattle.part_origins.specs.Inside.{PlainSpot}
use Rattle.part_origins.specs.Kept.{is_kept}
use Rattle.part_origins.specs.Origins.{path_at, slot_of, way_of}
use Rattle.part_origins.specs.Parts.{part, parts_from, device_parts, kept_from, call_parts}
use Rattle.part_origins.proofs.Spots.{Stood, device_at, device_list, call_at, call_list}

-- the lists go together
abbrev pub Together : {A B : Type 0} → (A → B → Type 0) → List A → List B → Type 0
Together P [] [] = Unit {0}
Together P (x ∷ xs) (y ∷ ys) = P x y × Together P xs ys
Together P _ _ = ⊥

pub together : {A B : Type 0} (P : A → B → Type 0) (xs : List A) (ys : List B) → length xs ≡ length ys → ((i : ℕ) (x : A) (y : B) → slice_get xs i ≡ Some x → slice_get ys i ≡ Some y → P x y) → Together P xs ys
together P [] [] e h = tt
together P [] (y ∷ ys) e h = absurd (omega arith)
together P (x ∷ xs) [] e h = absurd (omega arith)
together P (x ∷ xs) (y ∷ ys) e h = (h 0 x y refl refl, together P xs ys (omega arith) (λ i p q a b. h (suc i) p q a b))

abbrev pub OnOne : PlainSpot → Stood → Type 0
OnOne s t = s.circuit ≡ t.circuit

abbrev from_of : DeviceAt → Slot
from_of d = d.from

module _ (g : Netlist) (all : List (List ℕ)) where
  one_spot : (ds : List DeviceRow) (i j : ℕ) (p : ℕ → ℕ) (t : Stood) → ((m : ℕ) → p m ≡ j + m) → path_at all i ≡ t.path
      → map (slot_of all) (parts_from i j ds) ≡ map from_of (indexed (λ m row. device_at t (p m) row) ds)
  one_spot [] i j p t h e = refl
  one_spot (d ∷ ds) i j p t h e =
      ap₂ (λ (x : Slot) (xs : List Slot). x ∷ xs) (ap₂ slot e (let z : j ≡ p 0 = (let q = h 0 in omega arith) in z))
      (one_spot ds i (j + 1) (λ m. p (suc m)) t (λ m. let q = h (suc m) in omega arith) e)

  pub devices_from : (spots : List PlainSpot) (S : List Stood) (i : ℕ) → Together OnOne spots S → ((j : ℕ) (t : Stood) → slice_get S j ≡ Some t → path_at all (i + j) ≡ t.path)
      → map (slot_of all) (device_parts g i spots) ≡ map from_of (flat_map (device_list g) S)
  devices_from [] [] i tied h = refl
  devices_from [] (t ∷ ts) i tied h = absurd tied
  devices_from (s ∷ ss) [] i tied h = absurd tied
  devices_from (s ∷ ss) (t ∷ ts) i tied h =
      let here : path_at all i ≡ t.path = ap (path_at all) (let e : i ≡ i + 0 = omega arith in e) ∙ h 0 t refl in
      map-append (slot_of all) (parts_from i 0 (given_of g s.circuit).devices) (device_parts g (i + 1) ss)
      ∙ (ap₂ (λ (p q : List Slot). p ++ q)
      (ap (λ (c : ℕ). map (slot_of all) (parts_from i 0 (given_of g c).devices)) tied.0 ∙ one_spot (given_of g t.circuit).devices i 0 (λ m. m) t (λ m. omega arith) here)
      (devices_from ss ts (i + 1) tied.1 (λ j y e. ap (path_at all) (let q : (i + 1) + j ≡ i + suc j = omega arith in q) ∙ h (suc j) y e))
      ∙ sym (map-append from_of (device_list g t) (flat_map (device_list g) ts)))

-- the ways of the calls of kept circuits
abbrev pub kept_ways : (ℕ → Bool) → List CallAt → List (List ℕ)
kept_ways kept cs = flat_map (λ (r : CallAt). cond (kept r.row.circuit) (r.way ∷ []) []) cs

module _ (g : Netlist) (all : List (List ℕ)) (numbers : List (Option ℕ)) (kept goes : ℕ → Bool) (tells : (c : ℕ) → is_kept numbers c ≡ kept c) (stay : (c : ℕ) → kept c ≡ true → goes c ≡ false) where
  one_call : (i j : ℕ) (r : CallRow) (k : ℕ) (t : Stood) (a b : Bool) → k ≡ j → path_at all i ≡ t.path → kept r.circuit ≡ a → goes r.circuit ≡ b
      → map (way_of all) (cond a (part i j ∷ []) []) ≡ kept_ways kept (cond b [] (call_at t k r ∷ []))
  one_call i j r k t true true e h x y = absurd (let z = stay r.circuit x in let q : true ≡ false = sym y ∙ z in cc)
  one_call i j r k t true false e h x y =
      ap₂ (λ (p : List ℕ) (m : ℕ). (p ++ m ∷ []) ∷ []) h (sym e)
      ∙ ap (λ (q : Bool). cond q ((t.path ++ k ∷ []) ∷ []) [] ++ []) (sym x)
  one_call i j r k t false true e h x y = refl
  one_call i j r k t false false e h x y = ap (λ (q : Bool). cond q ((t.path ++ k ∷ []) ∷ []) [] ++ []) (sym x)

  spot_calls : (rs : List CallRow) (i j : ℕ) (p : ℕ → ℕ) (t : Stood) → ((m : ℕ) → p m ≡ j + m) → path_at all i ≡ t.path
      → map (way_of all) (kept_from numbers i j rs) ≡ kept_ways kept (pieces (λ m r. cond (goes r.circuit) [] (call_at t (p m) r ∷ [])) rs)
  spot_calls [] i j p t h e = refl
  spot_calls (r ∷ rs) i j p t h e =
      map-append (way_of all) (cond (is_kept numbers r.circuit) (part i j ∷ []) []) (kept_from numbers i (j + 1) rs)
      ∙ (ap₂ (λ (x y : List (List ℕ)). x ++ y)
      (ap (λ (b : Bool). map (way_of all) (cond b (part i j ∷ []) [])) (tells r.circuit) ∙ one_call i j r (p 0) t (kept r.circuit) (goes r.circuit) (let q = h 0 in omega arith) e refl refl)
      (spot_calls rs i (j + 1) (λ m. p (suc m)) t (λ m. let q = h (suc m) in omega arith) e)
      ∙ sym (flat_map-append (λ (r : CallAt). cond (kept r.row.circuit) (r.way ∷ []) []) (cond (goes r.circuit) [] (call_at t (p 0) r ∷ [])) (pieces (λ m r. cond (goes r.circuit) [] (call_at t (p (suc m)) r ∷ [])) rs)))

  pub calls_from : (spots : List PlainSpot) (S : List Stood) (i : ℕ) → Together OnOne spots S → ((j : ℕ) (t : Stood) → slice_get S j ≡ Some t → path_at all (i + j) ≡ t.path)
      → map (way_of all) (call_parts g numbers i spots) ≡ kept_ways kept (flat_map (call_list g goes) S)
  calls_from [] [] i tied h = refl
  calls_from [] (t ∷ ts) i tied h = absurd tied
  calls_from (s ∷ ss) [] i tied h = absurd tied
  calls_from (s ∷ ss) (t ∷ ts) i tied h =
      let here : path_at all i ≡ t.path = ap (path_at all) (let e : i ≡ i + 0 = omega arith in e) ∙ h 0 t refl in
      map-append (way_of all) (kept_from numbers i 0 (given_of g s.circuit).calls) (call_parts g numbers (i + 1) ss)
      ∙ (ap₂ (λ (p q : List (List ℕ)). p ++ q)
      (ap (λ (c : ℕ). map (way_of all) (kept_from numbers i 0 (given_of g c).calls)) tied.0 ∙ spot_calls (given_of g t.circuit).calls i 0 (λ m. m) t (λ m. omega arith) here)
      (calls_from ss ts (i + 1) tied.1 (λ j y e. ap (path_at all) (let q : (i + 1) + j ≡ i + suc j = omega arith in q) ∙ h (suc j) y e))
      ∙ sym (flat_map-append (λ (r : CallAt). cond (kept r.row.circuit) (r.way ∷ []) []) (call_list g goes t) (flat_map (call_list g goes) ts)))

-- the calls of the cut circuit come by these ways
module _ (f : Netlist) (w : Alignment) (c : ℕ) (all : List CallAt) where
  one_cut : (b : Bool) (k : ℕ) (row : CallRow) (way : List ℕ) (us : List CutCall) (vs : List (List ℕ)) → way_or (slice_get all k) ≡ way
      → map (λ (r : CutCall). way_or (slice_get all r.from)) us ≡ vs
      → map (λ (r : CutCall). way_or (slice_get all r.from)) (cond b (record { from = k; row = cut_row f w c row } ∷ []) [] ++ us) ≡ cond b (way ∷ []) [] ++ vs
  one_cut true k row way us vs e h = ap₂ (λ (x : List ℕ) (xs : List (List ℕ)). x ∷ xs) e h
  one_cut false k row way us vs e h = h

  pub cut_ways : (rs : List CallAt) (p : ℕ → ℕ) → ((m : ℕ) (r : CallAt) → slice_get rs m ≡ Some r → slice_get all (p m) ≡ Some r)
      → map (λ (r : CutCall). way_or (slice_get all r.from)) (pieces (λ m row. cond (w.kept row.circuit) (record { from = p m; row = cut_row f w c row } ∷ []) []) (map (λ (r : CallAt). r.row) rs)) ≡ kept_ways w.kept rs
  cut_ways [] p h = refl
  cut_ways (r ∷ rs) p h =
      one_cut (w.kept r.row.circuit) (p 0) r.row r.way (pieces (λ m row. cond (w.kept row.circuit) (record { from = p (suc m); row = cut_row f w c row } ∷ []) []) (map (λ (r : CallAt). r.row) rs)) (kept_ways w.kept rs) (ap way_or (h 0 r refl))
      (cut_ways rs (λ m. p (suc m)) (λ m y e. h (suc m) y e))
