-- The devices below a circuit of a good netlist, in one list.
use Rattle.std.proofs.Common.{◌≡◌, inl, inr, ◌+◌, ◌<◌, ℕ, zero, suc, List, [], ◌∷◌, ◌++◌, map, Option, Some, None, slice_get, refl, sym, ap, subst, ◌∙◌, arith}
use Rattle.merge_laws.specs.Merge.{Known}
use Rattle.plain_netlist.proofs.Members.{in_left, in_right, either_side}
use Rattle.plain_netlist.specs.Devices.{Row, row_over, terminal_nets}
use Rattle.plain_netlist.specs.Flats.{row_at}
use Rattle.plain_netlist.proofs.Rows.{row_over_twice}
use Rattle.plain_netlist.specs.Lists.{IsListed}
use Rattle.plain_netlist.specs.Netlist.{CallRow, Circuit, DeviceRow, HasDevice, IsCall, Netlist, IsSlot, Slot, slot}
use Rattle.plain_netlist.specs.Sound.{IsGood}

abbrev circuit_or : Option Circuit → Circuit
circuit_or (Some c) = c
circuit_or None = record { name = []; nets = []; pins = []; devices = []; calls = [] }

abbrev pub known : List ℕ → ℕ → DeviceRow → Known Slot Slot
known path i row = record { name = slot path i; row = row_at path row }

abbrev deeper_row : ℕ → Row Slot → Row Slot
deeper_row k r = row_over (λ (s : Slot). slot (k ∷ s.path) s.net) r

abbrev deeper : ℕ → Known Slot Slot → Known Slot Slot
deeper k d = record { name = slot (k ∷ d.name.path) d.name.net; row = deeper_row k d.row }

known_deeper : (k : ℕ) (ks : List ℕ) (i : ℕ) (row : DeviceRow) → deeper k (known ks i row) ≡ known (k ∷ ks) i row
known_deeper k ks i row = ap (λ (r : Row Slot). let d : Known Slot Slot = record { name = slot (k ∷ ks) i; row = r } in d) (row_over_twice (λ (s : Slot). slot (k ∷ s.path) s.net) (slot ks) row)

-- those of the circuit itself, counted from i
abbrev owns : ℕ → List DeviceRow → List (Known Slot Slot)
owns i [] = []
owns i (d ∷ ds) = known [] i d ∷ owns (suc i) ds

-- those of its calls, counted from k
abbrev inners : (ℕ → List (Known Slot Slot)) → ℕ → List CallRow → List (Known Slot Slot)
inners all k [] = []
inners all k (r ∷ rs) = map (deeper k) (all r.circuit) ++ inners all (suc k) rs

module _ (nl : Netlist) where
  abbrev pub all_below : ℕ → ℕ → List (Known Slot Slot)
  all_below zero t = []
  all_below (suc n) t = owns 0 (circuit_or (slice_get nl.circuits t)).devices ++ inners (all_below n) 0 (circuit_or (slice_get nl.circuits t)).calls

  owns_there : (i : ℕ) (ds : List DeviceRow) (j : ℕ) (d : DeviceRow) → slice_get ds j ≡ Some d → IsListed (known [] (i + j) d) (owns i ds)
  owns_there i [] j d e = absurd cc
  owns_there i (x ∷ xs) zero d e =
      let s : d ≡ x = cc in
      let n : i + 0 ≡ i = omega arith in inl (ap (λ (m : ℕ). known [] m d) n ∙ ap (known [] i) s)
  owns_there i (x ∷ xs) (suc j) d e =
      let n : suc i + j ≡ i + suc j = omega arith in
      inr (subst (λ (m : ℕ). IsListed (known [] m d) (owns (suc i) xs)) n (owns_there (suc i) xs j d e))

  inners_there : (all : ℕ → List (Known Slot Slot)) (k : ℕ) (rs : List CallRow) (j : ℕ) (r : CallRow) (d : Known Slot Slot) → slice_get rs j ≡ Some r → IsListed d (all r.circuit) → IsListed (deeper (k + j) d) (inners all k rs)
  inners_there all k [] j r d e h = absurd cc
  inners_there all k (x ∷ xs) zero r d e h =
      let s : r ≡ x = cc in
      let n : k + 0 ≡ k = omega arith in
      let there : IsListed d (all x.circuit) = subst (λ (c : CallRow). IsListed d (all c.circuit)) s h in
      subst (λ (m : ℕ). IsListed (deeper m d) (map (deeper k) (all x.circuit) ++ inners all (suc k) xs)) (sym n) (in_left (map (deeper k) (all x.circuit)) (inners all (suc k) xs) (deeper k d) (on_map (deeper k) d (all x.circuit) there))
    where
      on_map : (f : Known Slot Slot → Known Slot Slot) (d : Known Slot Slot) (xs : List (Known Slot Slot)) → IsListed d xs → IsListed (f d) (map f xs)
      on_map f d [] i = i
      on_map f d (x ∷ xs) (inl e) = inl (ap f e)
      on_map f d (x ∷ xs) (inr i) = inr (on_map f d xs i)
  inners_there all k (x ∷ xs) (suc j) r d e h =
      let n : suc k + j ≡ k + suc j = omega arith in
      let rest = subst (λ (m : ℕ). IsListed (deeper m d) (inners all (suc k) xs)) n (inners_there all (suc k) xs j r d e h) in
      in_right (map (deeper k) (all x.circuit)) (inners all (suc k) xs) (deeper (k + suc j) d) rest

  -- each is a device below the circuit
  abbrev Is : ℕ → Known Slot Slot → Type 0
  Is t d = (row : DeviceRow) × HasDevice nl t d.name.path d.name.net row × (d.row ≡ row_at d.name.path row)

  owns_are : (t : ℕ) (c : Circuit) (i : ℕ) (ds : List DeviceRow) → slice_get nl.circuits t ≡ Some c → ((j : ℕ) (d : DeviceRow) → slice_get ds j ≡ Some d → slice_get c.devices (i + j) ≡ Some d) → (d : Known Slot Slot) → IsListed d (owns i ds) → Is t d
  owns_are t c i [] is at d h = absurd h
  owns_are t c i (x ∷ xs) is at d (inl e) =
      let n : i + 0 ≡ i = omega arith in
      subst (Is t) (sym e) (x, (c, is, subst (λ (m : ℕ). slice_get c.devices m ≡ Some x) n (at 0 x refl)), refl)
  owns_are t c i (x ∷ xs) is at d (inr h) =
      owns_are t c (suc i) xs is (λ j y e. (let n : i + suc j ≡ suc i + j = omega arith in subst (λ (m : ℕ). slice_get c.devices m ≡ Some y) n (at (suc j) y e))) d h

  inners_are : (t : ℕ) (c : Circuit) (all : ℕ → List (Known Slot Slot)) (k : ℕ) (rs : List CallRow) → slice_get nl.circuits t ≡ Some c → ((u : ℕ) (d : Known Slot Slot) → IsListed d (all u) → Is u d)
      → ((j : ℕ) (r : CallRow) → slice_get rs j ≡ Some r → slice_get c.calls (k + j) ≡ Some r) → (d : Known Slot Slot) → IsListed d (inners all k rs) → Is t d
  inners_are t c all k [] is are at d h = absurd h
  inners_are t c all k (x ∷ xs) is are at d h = elim (either_side (map (deeper k) (all x.circuit)) (inners all (suc k) xs) d h) [
    | inl here ↦
        let n : k + 0 ≡ k = omega arith in
        let call : IsCall nl t k x = (c, is, subst (λ (m : ℕ). slice_get c.calls m ≡ Some x) n (at 0 x refl)) in mapped (all x.circuit) (are x.circuit) call here
    | inr there ↦ inners_are t c all (suc k) xs is are (λ j y e. (let n : k + suc j ≡ suc k + j = omega arith in subst (λ (m : ℕ). slice_get c.calls m ≡ Some y) n (at (suc j) y e))) d there
  ]
    where
      one : (b : Known Slot Slot) → IsCall nl t k x → Is x.circuit b → Is t (deeper k b)
      one b call (row, has, e) = (row, (x, call, has), ap (deeper_row k) e ∙ row_over_twice (λ (s : Slot). slot (k ∷ s.path) s.net) (slot b.name.path) row)

      mapped : (ds : List (Known Slot Slot)) → ((b : Known Slot Slot) → IsListed b ds → Is x.circuit b) → IsCall nl t k x → IsListed d (map (deeper k) ds) → Is t d
      mapped [] each call i = absurd i
      mapped (b ∷ bs) each call (inl e) = subst (Is t) (sym e) (one b call (each b (inl refl)))
      mapped (b ∷ bs) each call (inr i) = mapped bs (λ z j. each z (inr j)) call i

  pub are_below : (n t : ℕ) (d : Known Slot Slot) → IsListed d (all_below n t) → Is t d
  are_below zero t d h = absurd h
  are_below (suc n) t d h = step (are_below n) (slice_get nl.circuits t) refl h
    where
      step : ((u : ℕ) (b : Known Slot Slot) → IsListed b (all_below n u) → Is u b) → (o : Option Circuit) → slice_get nl.circuits t ≡ o → IsListed d (owns 0 (circuit_or o).devices ++ inners (all_below n) 0 (circuit_or o).calls) → Is t d
      step inner_are None e i = absurd i
      step inner_are (Some c) e i = elim (either_side (owns 0 c.devices) (inners (all_below n) 0 c.calls) d i) [
        | inl own ↦ owns_are t c 0 c.devices e (λ j x at. (let n : j ≡ 0 + j = omega arith in subst (λ (m : ℕ). slice_get c.devices m ≡ Some x) n at)) d own
        | inr inner ↦ inners_are t c (all_below n) 0 c.calls e inner_are (λ j x at. (let n : j ≡ 0 + j = omega arith in subst (λ (m : ℕ). slice_get c.calls m ≡ Some x) n at)) d inner
      ]

  module _ (height : ℕ → ℕ) (good : IsGood nl height) where
    -- each device below the circuit is listed
    pub listed_below : (n t : ℕ) (path : List ℕ) (i : ℕ) (row : DeviceRow) → height t < n → HasDevice nl t path i row → IsListed (known path i row) (all_below n t)
    listed_below zero t path i row low h = absurd (omega (arith, low))
    listed_below (suc n) t [] i row low (c, is, at) =
        subst (λ (o : Option Circuit). IsListed (known [] i row) (owns 0 (circuit_or o).devices ++ inners (all_below n) 0 (circuit_or o).calls)) (sym is)
        (in_left (owns 0 c.devices) (inners (all_below n) 0 c.calls) (known [] i row)
        (let n : 0 + i ≡ i = omega arith in subst (λ (m : ℕ). IsListed (known [] m row) (owns 0 c.devices)) n (owns_there 0 c.devices i row at)))
    listed_below (suc n) t (k ∷ ks) i row low (r, (c, is, at), h) =
        let lower = good.lower t k r (c, is, at) in
        let inner = listed_below n r.circuit ks i row (omega (arith, low, lower)) h in
        subst (λ (o : Option Circuit). IsListed (known (k ∷ ks) i row) (owns 0 (circuit_or o).devices ++ inners (all_below n) 0 (circuit_or o).calls)) (sym is)
        (in_right (owns 0 c.devices) (inners (all_below n) 0 c.calls) (known (k ∷ ks) i row) (let m : 0 + k ≡ k = omega arith in subst (λ (d : Known Slot Slot). IsListed d (inners (all_below n) 0 c.calls)) (known_deeper k ks i row) (subst (λ (m : ℕ). IsListed (deeper m (known ks i row)) (inners (all_below n) 0 c.calls)) m (inners_there (all_below n) 0 c.calls k r (known ks i row) at inner))))

    -- its terminals are on nets
    pub terminal_there : (t : ℕ) (path : List ℕ) (i n : ℕ) (row : DeviceRow) → HasDevice nl t path i row → IsListed n (terminal_nets row) → IsSlot nl t path n
    terminal_there t [] i n row h on = good.within.devices t i n row h on
    terminal_there t (k ∷ ks) i n row (r, call, h) on = (r, call, terminal_there r.circuit ks i n row h on)
