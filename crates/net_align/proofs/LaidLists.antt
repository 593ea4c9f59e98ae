-- The flat circuit that the code makes is the one of the lists.
use Rattle.std.proofs.Common.{◌≡◌, ℕ, suc, ◌+◌, Bool, true, false, cond, List, [], ◌∷◌, ◌++◌, map, drop, length, decimal, refl, sym, ◌∙◌, ap, ap₂, arith, length-append, append-nil, append_assoc}
use Rattle.std.proofs.Math.Path.{fun_ext}
use Rattle.std.proofs.lemmas.List.{map-append, length-map}
use Rattle.plain_netlist.specs.Netlist.{DeviceRow, CallRow, Circuit}
use Rattle.align_laws.specs.Flat.{call_through}
use Rattle.plain_netlist.specs.Devices.{row_over}
use Rattle.align_laws.specs.Lists.{NetAt, DeviceAt, CallAt, FlatCircuit, over, indexed, pieces, joined_place, past, net_at_pin, net_below, device_below, call_below, own_net, own_device, inner_nets, inner_devices, own_calls, inner_calls, plain}
use Rattle.net_align.specs.Laid.{LaidLaw, name_below, stands, laid, all_laid, stayed, own_part}
use Rattle.net_align.proofs.Laying.{parts_same}

pub over_is : {A : Type 0} (xs : List A) (j : ℕ) → over xs j ≡ length xs + j
over_is [] j = omega arith
over_is (x ∷ xs) j = let e = over_is xs j in omega arith

named : NetAt → List ℕ
named n = n.name

past_names : (pins : List ℕ) (nets : List NetAt) (k : ℕ) → map (λ (n : NetAt). n.name) (map (net_below k) (past pins nets)) ≡ map (name_below k) (drop (length pins) (map (λ (n : NetAt). n.name) nets))
past_names [] [] k = refl
past_names [] (n ∷ ns) k =
    ap₂ (λ (d : List ℕ) (t : List (List ℕ)). (88 ∷ (d ++ 47 ∷ n.name)) ∷ t) (ap decimal (let e : suc k ≡ k + 1 = omega arith in e)) (past_names [] ns k)
past_names (p ∷ ps) [] k = refl
past_names (p ∷ ps) (n ∷ ns) k = past_names ps ns k

rows_below : (k : ℕ) (to other : ℕ → ℕ) (rows : List DeviceAt) → to ≡ other → map (λ (d : DeviceAt). d.row) (map (device_below k to) rows) ≡ map (row_over other) (map (λ (d : DeviceAt). d.row) rows)
rows_below k to other [] e = refl
rows_below k to other (r ∷ rs) e = ap₂ (λ (f : ℕ → ℕ) (t : List DeviceRow). row_over f r.row ∷ t) e (rows_below k to other rs e)

calls_below : (k : ℕ) (to other : ℕ → ℕ) (rows : List CallAt) → to ≡ other → map (λ (d : CallAt). d.row) (map (call_below k to) rows) ≡ map (call_through other) (map (λ (d : CallAt). d.row) rows)
calls_below k to other [] e = refl
calls_below k to other (r ∷ rs) e = ap₂ (λ (f : ℕ → ℕ) (t : List CallRow). call_through f r.row ∷ t) e (calls_below k to other rs e)

abbrev nm : NetAt → List ℕ
nm n = n.name

abbrev dr : DeviceAt → DeviceRow
dr d = d.row

abbrev cr : CallAt → CallRow
cr r = r.row

joined : {A B : Type 0} (g : A → B) (xs : List B) (p q : List A) → (xs ++ map g p) ++ map g q ≡ xs ++ map g (p ++ q)
joined {B = B} g xs p q = append_assoc xs (map g p) (map g q) ∙ ap (λ (t : List B). xs ++ t) (sym (map-append g p q))

module _ (goes : ℕ → Bool) (f : ℕ → FlatCircuit) (far : ℕ → ℕ → ℕ) where
  abbrev to : ℕ → CallRow → ℕ → ℕ
  to i row = net_at_pin row.nets (far i)

  abbrev nets_at : (ℕ → ℕ) → ℕ → CallRow → List NetAt
  nets_at p i row = cond (goes row.circuit) (map (net_below (p i)) (past row.nets (f row.circuit).nets)) []

  abbrev devices_at : (ℕ → ℕ) → ℕ → CallRow → List DeviceAt
  devices_at p i row = cond (goes row.circuit) (map (device_below (p i) (to (p i) row)) (f row.circuit).devices) []

  abbrev calls_at : (ℕ → ℕ) → ℕ → CallRow → List CallAt
  calls_at p i row = cond (goes row.circuit) (map (call_below (p i) (to (p i) row)) (f row.circuit).calls) []

  abbrev with_all : Circuit → List NetAt → List DeviceAt → List CallAt → Circuit
  with_all acc ns ds cs = record { name = acc.name; nets = acc.nets ++ map nm ns; pins = acc.pins; devices = acc.devices ++ map dr ds; calls = acc.calls ++ map cr cs }

  nothing_more : (acc : Circuit) → acc ≡ with_all acc [] [] []
  nothing_more acc = parts_same acc.name acc.pins acc.nets (acc.nets ++ []) acc.devices (acc.devices ++ []) acc.calls (acc.calls ++ []) (sym (append-nil acc.nets)) (sym (append-nil acc.devices)) (sym (append-nil acc.calls))

  one_laid : (p : ℕ → ℕ) (k : ℕ) (x : CallRow) (acc : Circuit) → p 0 ≡ k → to (p 0) x ≡ stands x.nets (length acc.nets) → (b : Bool)
      → cond b (laid k x (plain (f x.circuit)) acc) acc ≡ with_all acc (cond b (map (net_below (p 0)) (past x.nets (f x.circuit).nets)) []) (cond b (map (device_below (p 0) (to (p 0) x)) (f x.circuit).devices) []) (cond b (map (call_below (p 0) (to (p 0) x)) (f x.circuit).calls) [])
  one_laid p k x acc e h false = nothing_more acc
  one_laid p k x acc e h true =
      let inner = f x.circuit in
      parts_same acc.name acc.pins
      (acc.nets ++ map (name_below k) (drop (length x.nets) (map nm inner.nets))) (acc.nets ++ map nm (map (net_below (p 0)) (past x.nets inner.nets)))
      (acc.devices ++ map (row_over (stands x.nets (length acc.nets))) (map dr inner.devices)) (acc.devices ++ map dr (map (device_below (p 0) (to (p 0) x)) inner.devices))
      (acc.calls ++ map (call_through (stands x.nets (length acc.nets))) (map cr inner.calls)) (acc.calls ++ map cr (map (call_below (p 0) (to (p 0) x)) inner.calls))
      (ap (λ (t : List (List ℕ)). acc.nets ++ t) (ap (λ (n : ℕ). map (name_below n) (drop (length x.nets) (map nm inner.nets))) (sym e) ∙ sym (past_names x.nets inner.nets (p 0))))
      (ap (λ (t : List DeviceRow). acc.devices ++ t) (sym (rows_below (p 0) (to (p 0) x) (stands x.nets (length acc.nets)) inner.devices h)))
      (ap (λ (t : List CallRow). acc.calls ++ t) (sym (calls_below (p 0) (to (p 0) x) (stands x.nets (length acc.nets)) inner.calls h)))

  pub laid_list : (rows : List CallRow) (p : ℕ → ℕ) (k : ℕ) (acc : Circuit) → ((i : ℕ) → p i ≡ k + i) → ((i m : ℕ) → far (p i) m ≡ length acc.nets + joined_place (nets_at p) rows i m)
      → all_laid goes (λ d. plain (f d)) k rows acc ≡ with_all acc (pieces (nets_at p) rows) (pieces (devices_at p) rows) (pieces (calls_at p) rows)
  laid_list [] p k acc h g = nothing_more acc
  laid_list (x ∷ xs) p k acc h g =
      let at : p 0 ≡ k = let e = h 0 in omega arith in
      let put : to (p 0) x ≡ stands x.nets (length acc.nets) = ap (λ (away : ℕ → ℕ). net_at_pin x.nets away) (fun_ext (λ m. g 0 m)) in
      let next : Circuit = with_all acc (nets_at p 0 x) (devices_at p 0 x) (calls_at p 0 x) in
      let one : cond (goes x.circuit) (laid k x (plain (f x.circuit)) acc) acc ≡ next = one_laid p k x acc at put (goes x.circuit) in
      let long : length next.nets ≡ length acc.nets + length (nets_at p 0 x) = length-append acc.nets (map nm (nets_at p 0 x)) ∙ ap (λ (n : ℕ). length acc.nets + n) (length-map (nets_at p 0 x) nm) in
      ap (λ (c : Circuit). all_laid goes (λ d. plain (f d)) (suc k) xs c) one
      ∙ (laid_list xs (λ i. p (suc i)) (suc k) next (λ i. let e = h (suc i) in omega arith)
      (λ i m. let e = g (suc i) m in let o = over_is (nets_at p 0 x) (joined_place (nets_at (λ j. p (suc j))) xs i m) in omega arith)
      ∙ parts_same acc.name acc.pins
      (next.nets ++ map nm (pieces (nets_at (λ i. p (suc i))) xs)) (acc.nets ++ map nm (pieces (nets_at p) (x ∷ xs)))
      (next.devices ++ map dr (pieces (devices_at (λ i. p (suc i))) xs)) (acc.devices ++ map dr (pieces (devices_at p) (x ∷ xs)))
      (next.calls ++ map cr (pieces (calls_at (λ i. p (suc i))) xs)) (acc.calls ++ map cr (pieces (calls_at p) (x ∷ xs)))
      (joined nm acc.nets (nets_at p 0 x) (pieces (nets_at (λ i. p (suc i))) xs))
      (joined dr acc.devices (devices_at p 0 x) (pieces (devices_at (λ i. p (suc i))) xs))
      (joined cr acc.calls (calls_at p 0 x) (pieces (calls_at (λ i. p (suc i))) xs)))

own_names : (xs : List (List ℕ)) (p : ℕ → ℕ) → map nm (indexed (λ i. own_net (p i)) xs) ≡ xs
own_names [] p = refl
own_names (x ∷ xs) p = ap (λ (t : List (List ℕ)). x ∷ t) (own_names xs (λ i. p (suc i)))

own_rows : (xs : List DeviceRow) (p : ℕ → ℕ) → map dr (indexed (λ i. own_device (p i)) xs) ≡ xs
own_rows [] p = refl
own_rows (x ∷ xs) p = ap (λ (t : List DeviceRow). x ∷ t) (own_rows xs (λ i. p (suc i)))

own_length : (xs : List (List ℕ)) (p : ℕ → ℕ) → length (indexed (λ i. own_net (p i)) xs) ≡ length xs
own_length [] p = refl
own_length (x ∷ xs) p = let e = own_length xs (λ i. p (suc i)) in omega arith

stays_one : (b : Bool) (k : ℕ) (row : CallRow) (rest : List CallAt) (more : List CallRow) → map cr rest ≡ more → map cr (cond b [] ((let a : CallAt = record { way = k ∷ []; row = row } in a) ∷ []) ++ rest) ≡ cond b more (row ∷ more)
stays_one true k row rest more e = e
stays_one false k row rest more e = ap (λ (t : List CallRow). row ∷ t) e

stays_all : (goes : ℕ → Bool) (f : ℕ → FlatCircuit) (rows : List CallRow) (p : ℕ → ℕ) → map cr (pieces (λ i. own_calls goes f (p i)) rows) ≡ stayed goes rows
stays_all goes f [] p = refl
stays_all goes f (x ∷ xs) p = stays_one (goes x.circuit) (p 0) x (pieces (λ i. own_calls goes f (p (suc i))) xs) (stayed goes xs) (stays_all goes f xs (λ i. p (suc i)))

pub laid_law : LaidLaw
laid_law goes f c =
    let far : ℕ → ℕ → ℕ = λ i m. over (indexed own_net c.nets) (joined_place (inner_nets goes f) c.calls i m) in
    let g : (i m : ℕ) → far i m ≡ length c.nets + joined_place (inner_nets goes f) c.calls i m
    = λ i m. over_is (indexed own_net c.nets) (joined_place (inner_nets goes f) c.calls i m) ∙ ap (λ (n : ℕ). n + joined_place (inner_nets goes f) c.calls i m) (own_length c.nets (λ i. i)) in
    let ns = pieces (inner_nets goes f) c.calls in
    let ds = pieces (inner_devices goes f c) c.calls in
    let cs = pieces (inner_calls goes f c) c.calls in
    parts_same c.name c.pins
    (map nm (indexed own_net c.nets ++ ns)) (c.nets ++ map nm ns)
    (map dr (indexed own_device c.devices ++ ds)) (c.devices ++ map dr ds)
    (map cr (pieces (own_calls goes f) c.calls ++ cs)) (stayed goes c.calls ++ map cr cs)
    (map-append nm (indexed own_net c.nets) ns ∙ ap (λ (t : List (List ℕ)). t ++ map nm ns) (own_names c.nets (λ i. i)))
    (map-append dr (indexed own_device c.devices) ds ∙ ap (λ (t : List DeviceRow). t ++ map dr ds) (own_rows c.devices (λ i. i)))
    (map-append cr (pieces (own_calls goes f) c.calls) cs ∙ ap (λ (t : List CallRow). t ++ map cr cs) (stays_all goes f c.calls (λ i. i)))
    ∙ sym (laid_list goes f far c.calls (λ i. i) 0 (own_part goes c) (λ i. omega arith) g)
