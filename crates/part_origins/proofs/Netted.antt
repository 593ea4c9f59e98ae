-- The flat nets that are kept, as the code reads them off, and their aligned numbers.
use Rattle.std.proofs.Common.{◌≡◌, ◌⊎◌, inl, inr, ℕ, zero, suc, ◌<◌, ◌≤◌, ◌==◌, Bool, true, false, cond, List, [], ◌∷◌, ◌++◌, length, map, Option, Some, None, slice_get, refl, sym, ◌∙◌, ap, ap₂, subst, arith, append-nil}
use Rattle.base_laws.proofs.Items.{map_to}
use Rattle.base_laws.proofs.Tests.{same_truth}
use Rattle.std.proofs.lemmas.Grind.{flat_map-append}
use Rattle.std.proofs.lemmas.Bool.{cases_Bool}
use Rattle.std.specs.Prelude.{flat_map, slice_index, slice_index_or, replicate, filter, is_some}
use Rattle.std.specs.List.{list_any}
use Rattle.std.proofs.lemmas.List.{map-append}
use Rattle.std.proofs.lemmas.Option.{none-some, same_Some}
use Rattle.plain_netlist.specs.Lists.{IsListed}
use Rattle.plain_netlist.specs.Netlist.{DeviceRow, CallRow, Circuit, Netlist, IsCircuit, IsCall, HasNet}
use Rattle.plain_netlist.specs.Devices.{terminal_nets}
use Rattle.plain_netlist.specs.Sound.{IsGood}
use Rattle.plain_netlist.proofs.Members.{listed, position, in_left, in_right, in_all}
use Rattle.align_laws.specs.Cut.{Alignment, held_pin, held_pins, cut, AreCut}
use Rattle.align_laws.specs.Flat.{call_through}
use Rattle.plain_netlist.specs.Devices.{row_over}
use Rattle.align_laws.specs.Lists.{DeviceAt, CallAt, over, indexed, pieces, joined_place, net_at_pin, given_of}
use Rattle.align_laws.proofs.Appear.{old_nets, kept_calls, appear, all_held, held_there}
use Rattle.align_laws.proofs.CutList.{given_is}
use Rattle.align_laws.proofs.Pieces.{append_right, piece_at, place_pin}
use Rattle.align_laws.proofs.SameViews.{keep_at}
use Rattle.align_laws.proofs.Views.{keep, map_same_at}
use Rattle.part_origins.specs.Inside.{PlainSpot}
use Rattle.part_origins.specs.Kept.{set_all}
use Rattle.part_origins.specs.Nets.{net_at, terminals_at, pins_or, pins_under, call_nets_at, spot_terminals, spot_calls, named_nets}
use Rattle.part_origins.proofs.Numbered.{among, has_listed, past_end, long_set, long_none, set_in_none}
use Rattle.net_align.proofs.Seeing.{map_on}
use Rattle.plain_netlist.proofs.Rows.{terminal_nets_over}
use Rattle.part_origins.proofs.Parted.{Together}
use Rattle.part_origins.proofs.Spots.{Stood, device_at, device_list, call_at, call_list}

pub index_at : (xs : List ℕ) (i x : ℕ) → slice_get xs i ≡ Some x → slice_index_or xs i 0 ≡ x
index_at [] i x h = absurd (none-some x h)
index_at (y ∷ xs) zero x h = same_Some _ _ h
index_at (y ∷ xs) (suc i) x h = index_at xs i x h

cancel : (xs ys zs : List ℕ) → xs ++ ys ≡ xs ++ zs → ys ≡ zs
cancel [] ys zs e = e
cancel (x ∷ xs) ys zs e = cancel xs ys zs (let h : xs ++ ys ≡ xs ++ zs = cc in h)

keep_both : (kept : ℕ → Bool) (xs ys : List CallRow) → keep kept (xs ++ ys) ≡ keep kept xs ++ keep kept ys
keep_both kept [] ys = refl
keep_both kept (x ∷ xs) ys = one (kept x.circuit) (keep_both kept xs ys)
  where
    one : (b : Bool) → keep kept (xs ++ ys) ≡ keep kept xs ++ keep kept ys → cond b (x ∷ keep kept (xs ++ ys)) (keep kept (xs ++ ys)) ≡ cond b (x ∷ keep kept xs) (keep kept xs) ++ keep kept ys
    one true e = ap (λ (t : List CallRow). x ∷ t) e
    one false e = e

abbrev row_at : DeviceAt → DeviceRow
row_at d = d.row

abbrev call_row : CallAt → CallRow
call_row r = r.row

-- a spot of the code is one of the definition
pub record IsSpotOf (g : Netlist) (s : PlainSpot) (t : Stood) : Type 0 where
  pub circuit : s.circuit ≡ t.circuit
  pub count : length s.nets ≡ length (given_of g t.circuit).nets
  pub nets : (n : ℕ) → n < length s.nets → slice_index s.nets n ≡ t.net n
  pub there : IsCircuit g t.circuit (given_of g t.circuit)

net_low : (g : Netlist) (s : PlainSpot) (t : Stood) (n : ℕ) → IsSpotOf g s t → HasNet g t.circuit n → n < length s.nets
net_low g s t n is has =
    let low : n < length (given_of g t.circuit).nets = subst (λ (x : Circuit). n < length x.nets) (sym (given_is g t.circuit has.0 has.1)) has.2 in
    let c = is.count in omega arith

module _ (g : Netlist) (height : ℕ → ℕ) (good : IsGood g height) where
  one_device : (s : PlainSpot) (t : Stood) (d : DeviceRow) → ((n : ℕ) → IsListed n (terminal_nets d) → net_at s.nets n ≡ t.net n) → terminals_at s.nets d ≡ terminal_nets (row_over t.net d)
  one_device s t d h = map_on (net_at s.nets) t.net (terminal_nets d) h ∙ sym (terminal_nets_over t.net d)

  spot_devices : (ds : List DeviceRow) (s : PlainSpot) (t : Stood) (p : ℕ → ℕ) → ((j : ℕ) (d : DeviceRow) → slice_get ds j ≡ Some d → (n : ℕ) → IsListed n (terminal_nets d) → net_at s.nets n ≡ t.net n)
      → flat_map (terminals_at s.nets) ds ≡ flat_map terminal_nets (map row_at (indexed (λ m row. device_at t (p m) row) ds))
  spot_devices [] s t p h = refl
  spot_devices (d ∷ ds) s t p h = ap₂ (λ (x y : List ℕ). x ++ y) (one_device s t d (h 0 d refl)) (spot_devices ds s t (λ m. p (suc m)) (λ j e at. h (suc j) e at))

  pub terminals_are : (spots : List PlainSpot) (S : List Stood) → Together (IsSpotOf g) spots S → flat_map (spot_terminals g) spots ≡ flat_map terminal_nets (map row_at (flat_map (device_list g) S))
  terminals_are [] [] tied = refl
  terminals_are [] (t ∷ ts) tied = absurd tied
  terminals_are (s ∷ ss) [] tied = absurd tied
  terminals_are (s ∷ ss) (t ∷ ts) tied =
      let is = tied.0 in
      ap₂ (λ (p q : List ℕ). p ++ q)
      (ap (λ (c : ℕ). flat_map (terminals_at s.nets) (given_of g c).devices) is.circuit
      ∙ spot_devices (given_of g t.circuit).devices s t (λ m. m) (λ j d at n l. is.nets n (net_low g s t n is (good.within.devices t.circuit j n d (given_of g t.circuit, is.there, at) l))))
      (terminals_are ss ts tied.1)
      ∙ (sym (flat_map-append terminal_nets (map row_at (device_list g t)) (map row_at (flat_map (device_list g) ts)))
      ∙ ap (flat_map terminal_nets) (sym (map-append row_at (device_list g t) (flat_map (device_list g) ts))))

module _ (g f : Netlist) (w : Alignment) (goes : ℕ → Bool) (numbers : List (Option ℕ)) (held : List (List ℕ)) (tells : (c : ℕ) → slice_index_or numbers c None ≡ cond (w.kept c) (Some (w.number c)) None)
    (stay : (c : ℕ) → w.kept c ≡ true → goes c ≡ false) where
  -- what the held pins' table and the spot's nets say of a kept call
  pub record IsCallOf (s : PlainSpot) (t : Stood) (r : CallRow) : Type 0 where
    pub pins : slice_get held (w.number r.circuit) ≡ Some (held_pins f w r.circuit)
    pub nets : (q p : ℕ) → slice_get (held_pins f w r.circuit) q ≡ Some p → net_at s.nets (net_at r.nets p) ≡ net_at_pin (map t.net r.nets) (λ m. 0) p

  one_call : (s : PlainSpot) (t : Stood) (k : ℕ) (r : CallRow) (a b : Bool) → w.kept r.circuit ≡ a → goes r.circuit ≡ b → (w.kept r.circuit ≡ true → IsCallOf s t r)
      → call_nets_at numbers held s.nets r ≡ flat_map (old_nets f w) (keep w.kept (map call_row (cond b [] (call_at t k r ∷ []))))
  one_call s t k r true true x y of = absurd (let z = stay r.circuit x in let q : true ≡ false = sym y ∙ z in cc)
  one_call s t k r true false x y of =
      let is = of x in
      let table : slice_index_or numbers r.circuit None ≡ Some (w.number r.circuit) = tells r.circuit ∙ ap (λ (z : Bool). cond z (Some (w.number r.circuit)) None) x in
      let pins : pins_under held (slice_index_or numbers r.circuit None) ≡ held_pins f w r.circuit = ap (pins_under held) table ∙ ap pins_or is.pins in
      let row : CallRow = call_through t.net r in
      ap (map (λ (p : ℕ). net_at s.nets (net_at r.nets p))) pins
      ∙ (map_same_at (λ (p : ℕ). net_at s.nets (net_at r.nets p)) (λ (p : ℕ). net_at_pin (map t.net r.nets) (λ m. 0) p) (held_pins f w r.circuit) is.nets
      ∙ (sym (append-nil (old_nets f w row))
      ∙ ap (λ (z : Bool). flat_map (old_nets f w) (cond z (row ∷ []) [])) (sym x)))
  one_call s t k r false b x y of =
      let table : slice_index_or numbers r.circuit None ≡ None = tells r.circuit ∙ ap (λ (z : Bool). cond z (Some (w.number r.circuit)) None) x in
      ap (λ (o : Option ℕ). map (λ (p : ℕ). net_at s.nets (net_at r.nets p)) (pins_under held o)) table ∙ nothing b
    where
      nothing : (b : Bool) → [] ≡ flat_map (old_nets f w) (keep w.kept (map call_row (cond b [] (call_at t k r ∷ []))))
      nothing true = refl
      nothing false = ap (λ (z : Bool). flat_map (old_nets f w) (cond z (call_through t.net r ∷ []) [])) (sym x)

  spot_seen : (rs : List CallRow) (s : PlainSpot) (t : Stood) (p : ℕ → ℕ) → ((m : ℕ) (r : CallRow) → slice_get rs m ≡ Some r → w.kept r.circuit ≡ true → IsCallOf s t r)
      → flat_map (call_nets_at numbers held s.nets) rs ≡ flat_map (old_nets f w) (keep w.kept (map call_row (pieces (λ m r. cond (goes r.circuit) [] (call_at t (p m) r ∷ [])) rs)))
  spot_seen [] s t p h = refl
  spot_seen (r ∷ rs) s t p h =
      let first : List CallAt = cond (goes r.circuit) [] (call_at t (p 0) r ∷ []) in
      let rest : List CallAt = pieces (λ m r. cond (goes r.circuit) [] (call_at t (p (suc m)) r ∷ [])) rs in
      ap₂ (λ (x y : List ℕ). x ++ y) (one_call s t (p 0) r (w.kept r.circuit) (goes r.circuit) refl refl (h 0 r refl)) (spot_seen rs s t (λ m. p (suc m)) (λ m q e. h (suc m) q e))
      ∙ (sym (flat_map-append (old_nets f w) (keep w.kept (map call_row first)) (keep w.kept (map call_row rest)))
      ∙ (ap (flat_map (old_nets f w)) (sym (keep_both w.kept (map call_row first) (map call_row rest)))
      ∙ ap (λ (z : List CallRow). flat_map (old_nets f w) (keep w.kept z)) (sym (map-append call_row first rest))))

  pub calls_are_seen : (spots : List PlainSpot) (S : List Stood) → Together (λ s t. s.circuit ≡ t.circuit) spots S
      → Together (λ s t. (m : ℕ) (r : CallRow) → slice_get (given_of g t.circuit).calls m ≡ Some r → w.kept r.circuit ≡ true → IsCallOf s t r) spots S
      → flat_map (spot_calls g numbers held) spots ≡ flat_map (old_nets f w) (keep w.kept (map call_row (flat_map (call_list g goes) S)))
  calls_are_seen [] [] one of = refl
  calls_are_seen [] (t ∷ ts) one of = absurd one
  calls_are_seen (s ∷ ss) [] one of = absurd one
  calls_are_seen (s ∷ ss) (t ∷ ts) one of =
      ap₂ (λ (p q : List ℕ). p ++ q)
      (ap (λ (c : ℕ). flat_map (call_nets_at numbers held s.nets) (given_of g c).calls) one.0 ∙ spot_seen (given_of g t.circuit).calls s t (λ m. m) of.0)
      (calls_are_seen ss ts one.1 of.1)
      ∙ (sym (flat_map-append (old_nets f w) (keep w.kept (map call_row (call_list g goes t))) (keep w.kept (map call_row (flat_map (call_list g goes) ts))))
      ∙ (ap (flat_map (old_nets f w)) (sym (keep_both w.kept (map call_row (call_list g goes t)) (map call_row (flat_map (call_list g goes) ts))))
      ∙ ap (λ (z : List CallRow). flat_map (old_nets f w) (keep w.kept z)) (sym (map-append call_row (call_list g goes t) (flat_map (call_list g goes) ts)))))

-- the nets that the cut circuit names, and their numbers
module _ (f o : Netlist) (w : Alignment) (are : AreCut f o w) (height : ℕ → ℕ) (good : IsGood f height) (c : ℕ) (kept : w.kept c ≡ true) where
  abbrev pub named_old : List ℕ
  named_old = flat_map terminal_nets (given_of f c).devices ++ flat_map (old_nets f w) (kept_calls f w c)

  pub named_are : named_nets (cut f w c) ≡ map (w.new c) named_old
  named_are =
      cancel (map (w.new c) (held_pins f w c)) (named_nets (cut f w c)) (map (w.new c) named_old)
      (appear f w c ∙ map-append (w.new c) (held_pins f w c) named_old)

  listed_held : (n : ℕ) → IsListed n named_old → w.held c n ≡ true
  listed_held n h =
      let p = position named_old n h in
      all_held f o w are height good c (over (held_pins f w c) p.0) n kept (append_right (held_pins f w c) named_old p.0 n p.1)

  call_in : (k : ℕ) (row : CallRow) → IsCall f c k row → slice_get (given_of f c).calls k ≡ Some row
  call_in k row (x, is, at) = subst (λ (z : Circuit). slice_get z.calls k ≡ Some row) (sym (given_is f c x is)) at

  pin_listed : (d p n : ℕ) (x : Circuit) → IsCircuit f d x → slice_get x.pins p ≡ Some n → w.held d n ≡ true → IsListed n (held_pins f w d)
  pin_listed d p n x is at h =
      let here : slice_get (given_of f d).pins p ≡ Some n = subst (λ (z : Circuit). slice_get z.pins p ≡ Some n) (sym (given_is f d x is)) at in
      let one : slice_get (held_pin f w d p n) 0 ≡ Some n = subst (λ (t : Bool). slice_get (cond t (n ∷ []) []) 0 ≡ Some n) (sym h) refl in
      listed (held_pins f w d) (joined_place (held_pin f w d) (given_of f d).pins p 0) n (piece_at (held_pin f w d) (given_of f d).pins p 0 n n here one)

  held_listed : (n : ℕ) → w.held c n ≡ true → IsListed n named_old
  held_listed n h = elim ((are.held c n kept).0 h) [
    | inl (j, row, dev, on) ↦
        let at : slice_get (given_of f c).devices j ≡ Some row = subst (λ (z : Circuit). slice_get z.devices j ≡ Some row) (sym (given_is f c dev.0 dev.1)) dev.2 in
        in_left (flat_map terminal_nets (given_of f c).devices) (flat_map (old_nets f w) (kept_calls f w c)) n
        (in_all terminal_nets (given_of f c).devices row n (listed (given_of f c).devices j row at) on)
    | inr (k, row, p, inner, call, kept', net, pin, held) ↦
        let e = keep_at w.kept (given_of f c).calls k row (call_in k row call) kept' in
        let num : inner ≡ p = good.pins row.circuit p inner pin in
        let q = position (held_pins f w row.circuit) inner (pin_listed row.circuit p inner pin.0 pin.1 pin.2 held) in
        let place : net_at_pin row.nets (λ m. 0) inner ≡ n = place_pin row.nets (λ m. 0) inner n (subst (λ (m : ℕ). slice_get row.nets m ≡ Some n) (sym num) net) in
        let there = map_to (λ p. net_at_pin row.nets (λ m. 0) p) (held_pins f w row.circuit) q.0 inner q.1 in
        in_right (flat_map terminal_nets (given_of f c).devices) (flat_map (old_nets f w) (kept_calls f w c)) n
        (in_all (old_nets f w) (kept_calls f w c) row n (listed (kept_calls f w c) e.0 row e.1) (subst (λ (m : ℕ). IsListed m (old_nets f w row)) place (listed (old_nets f w row) q.0 (net_at_pin row.nets (λ m. 0) inner) there)))
  ]

  pub has_held : (n : ℕ) → list_any (λ (x : ℕ). n == x) named_old ≡ w.held c n
  has_held n = same_truth (list_any (λ (x : ℕ). n == x) named_old) (w.held c n) (λ h. listed_held n (among n named_old h)) (λ h. has_listed n named_old (held_listed n h))

  pub table_at : (seen named : List ℕ) (count n : ℕ) → seen ≡ named_old → named ≡ named_nets (cut f w c) → count ≡ length (given_of f c).nets
      → slice_index_or (set_all (replicate count None) 0 seen named) n None ≡ cond (w.held c n) (Some (w.new c n)) None
  table_at seen named count n s e long = elim (low_or n count) [
    | inl low ↦
        set_in_none seen named count n (w.new c) low (λ j m at.
        let old_at : slice_get named_old j ≡ Some m = subst (λ (z : List ℕ). slice_get z j ≡ Some m) s at in
        let new_at : slice_get (map (w.new c) named_old) j ≡ Some (w.new c m) = map_to (w.new c) named_old j m old_at in
        index_at named j (w.new c m) (subst (λ (z : List ℕ). slice_get z j ≡ Some (w.new c m)) (sym (e ∙ named_are)) new_at))
        ∙ ap (λ (b : Bool). cond b (Some (w.new c n)) None) (ap (λ (z : List ℕ). list_any (λ (x : ℕ). n == x) z) s ∙ has_held n)
    | inr high ↦
        let l = long_set seen named (replicate count None) 0 in
        let z = long_none count in
        let unheld : w.held c n ≡ false = elim (cases_Bool (w.held c n)) [
          | inl t ↦
              let h = held_there f o w are height good c n kept t in
              let low : n < length (given_of f c).nets = subst (λ (x : Circuit). n < length x.nets) (sym (given_is f c h.0 h.1)) h.2 in
              absurd (omega arith)
          | inr q ↦ q
        ] in
        past_end (set_all (replicate count None) 0 seen named) n (omega arith) ∙ ap (λ (b : Bool). cond b (Some (w.new c n)) None) (sym unheld)
  ]
    where
      low_or : (n m : ℕ) → (n < m) ⊎ (m ≤ n)
      low_or n zero = inr (omega arith)
      low_or zero (suc m) = inl (omega arith)
      low_or (suc n) (suc m) = elim (low_or n m) [ inl l ↦ inl (omega arith) | inr l ↦ inr (omega arith) ]

  -- the pins with numbers are the held ones
  pub pins_held : (table : List (Option ℕ)) (pins : List ℕ) (p : ℕ → ℕ) → ((n : ℕ) → slice_index_or table n None ≡ cond (w.held c n) (Some (w.new c n)) None)
      → filter (λ n. is_some (slice_index_or table n None)) pins ≡ pieces (λ i n. held_pin f w c (p i) n) pins
  pins_held table [] p h = refl
  pins_held table (n ∷ ns) p h = elim (cases_Bool (w.held c n)) [
    | inl t ↦
        let is : is_some (slice_index_or table n None) ≡ true = ap (λ (o : Option ℕ). is_some o) (h n ∙ ap (λ (b : Bool). cond b (Some (w.new c n)) None) t) in
        rw is (ap (λ (z : List ℕ). n ∷ z) (pins_held table ns (λ i. p (suc i)) h) ∙ ap (λ (b : Bool). cond b (n ∷ []) [] ++ pieces (λ i m. held_pin f w c (p (suc i)) m) ns) (sym t))
    | inr t ↦
        let is : is_some (slice_index_or table n None) ≡ false = ap (λ (o : Option ℕ). is_some o) (h n ∙ ap (λ (b : Bool). cond b (Some (w.new c n)) None) t) in
        rw is (pins_held table ns (λ i. p (suc i)) h ∙ ap (λ (b : Bool). cond b (n ∷ []) [] ++ pieces (λ i m. held_pin f w c (p (suc i)) m) ns) (sym t))
  ]
