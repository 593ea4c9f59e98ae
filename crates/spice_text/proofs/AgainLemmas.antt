-- The cards of a written text make the netlist again.
use Rattle.std.proofs.Common.{◌≡◌, inl, inr, ℕ, zero, suc, ◌+◌, ◌<◌, ◌==◌, Bool, true, false, ◌||◌, not, List, [], ◌∷◌, ◌++◌, map, take, length, Option, Some, None, refl, sym, ap, subst, ◌∙◌, append_assoc, arith, true≢false}
use Rattle.base_laws.proofs.Items.{item_at, map_to, map_from}
use Rattle.std.proofs.lemmas.Bool.{cases_Bool}
use Rattle.std.specs.Prelude.{flat_map, slice_get, if◌then◌else◌}
use Rattle.std.specs.Str.{bytes_eq}
use Rattle.std.proofs.lemmas.Bool.Decides.{Decides-eqb}
use Rattle.std.proofs.lemmas.List.{append-nil, map-append, length-map, length-append, nil_from_length}
use Rattle.std.proofs.lemmas.Slice.Eq.{bytes_eq-Decides}
use Rattle.text_table.specs.Texts.{has_text, place_of}
use Rattle.call_order.specs.Order.{ReachesItself}
use Rattle.plain_netlist.specs.Lists.{IsListed, AreApart}
use Rattle.plain_netlist.specs.Devices.{terminal_nets}
use Rattle.plain_netlist.proofs.Rows.{row_over_agrees, row_over_self, row_over_twice, terminal_nets_over}
use Rattle.plain_netlist.specs.Netlist as plain
use Rattle.plain_netlist.specs.Normal as normal
use Rattle.plain_netlist.specs.Sound as sound
use Rattle.plain_netlist.proofs.Members.{listed, position, in_left, in_right, in_all}
use Rattle.plain_netlist.proofs.Numbered.{below_total}
use Rattle.net_model.specs.Faults as model
use Rattle.net_model.specs.Tests.{has_twins}
use Rattle.spice_rows.specs.Names.{are_apart}
use Rattle.spice_rows.specs.Rows.{CallCard}
use Rattle.spice_rows.specs.Sizes.{Limits}
use Rattle.spice_text.specs.Gather.{Circuit}
use Rattle.spice_text.specs.Circuits.{names_of, called_in, call_lists}
use Rattle.spice_text.specs.Faults.{IsSecond, HasCall, is_missing, is_other_count, is_other_than, Lacks}
use Rattle.spice_text.specs.Needs.{first_seen, device_nets}
use Rattle.spice_text.specs.Means.{call_names, appearances, net_names, device_row, call_row, row_over, circuit_row, rows_from, IsNetlistOf, Means}
use Rattle.spice_text.specs.Laws.{IsName, IsWritable, WrittenMeansLaw, ReadAgainLaw}
use Rattle.spice_text.specs.Written.{or_empty, name_in, IsWritten}
use Rattle.spice_text.proofs.PinLemmas.{place_at, has_listed, unseen_behind}
use Rattle.spice_text.proofs.RowLemmas.{AreNames, name_at, AreSizesUnder, device_card}
use Rattle.spice_text.proofs.TextLemmas.{call_card, call_cards, circuit_card, behind, circuit_cards, IsReadable, at_rest, text_read}

some_one : {A : Type 0} (a b : A) → (let x : Option A = Some a in x) ≡ Some b → a ≡ b
some_one a b e = cc

abbrev terminals_of : plain.DeviceRow → List ℕ
terminals_of d = terminal_nets d

-- ---- names of nets

abbrev AtOnePlace : List (List ℕ) → Type 0
AtOnePlace xs = (a b : ℕ) (name : List ℕ) → slice_get xs a ≡ Some name → slice_get xs b ≡ Some name → a ≡ b

apart_from : (xs : List (List ℕ)) → AtOnePlace xs → AreApart xs
apart_from [] h = record {}
apart_from (x ∷ xs) h = (
  (λ l. let p = position xs x l in let e = h 0 (suc p.0) x refl p.1 in let z : ⊥ = omega arith in z),
  apart_from xs (λ a b name p q. let e = h (suc a) (suc b) name p q in omega arith),
)

name_there : (nets : List (List ℕ)) (n : ℕ) → n < length nets → slice_get nets n ≡ Some (name_at nets n)
name_there nets n l =
    let x = item_at nets n l in
    x.1 ∙ ap (λ (o : Option (List ℕ)). let r : Option (List ℕ) = Some (or_empty o) in r) (sym x.1)

no_nil : (ns : List (List ℕ)) (g : List ℕ) → place_of (ns ++ []) g ≡ place_of ns g
no_nil ns g = ap (λ (xs : List (List ℕ)). place_of xs g) (append-nil ns)

place_back : (nets : List (List ℕ)) (n : ℕ) → AreApart nets → n < length nets → place_of nets (name_at nets n) ≡ n
place_back nets n a l = sym (no_nil nets (name_at nets n)) ∙ place_at nets [] n (name_at nets n) a (name_there nets n l)

places_back : (nets : List (List ℕ)) (ns : List ℕ) → AreApart nets → ((n : ℕ) → IsListed n ns → n < length nets) → map (place_of nets) (map (name_at nets) ns) ≡ ns
places_back nets [] a h = refl
places_back nets (n ∷ ns) a h =
    ap (λ (m : ℕ). m ∷ map (place_of nets) (map (name_at nets) ns)) (place_back nets n a (h n (inl refl)))
    ∙ ap (λ (ms : List ℕ). n ∷ ms) (places_back nets ns a (λ m i. h m (inr i)))

no_twins : (seen ns : List (List ℕ)) → AreApart ns → ((n : List ℕ) → IsListed n ns → has_text seen n ≡ false) → has_twins seen ns ≡ false
no_twins seen [] a f = refl
no_twins seen (n ∷ ns) a f = rw (f n (inl refl)) (no_twins (seen ++ n ∷ []) ns a.1 (unseen_behind seen ns n a.0 f))

pins_apart : (c : plain.Circuit) → AtOnePlace c.nets → normal.IsNormalCircuit c → are_apart (map (name_at c.nets) c.pins) ≡ true
pins_apart c one h = ap (λ (t : Bool). not t) (no_twins [] (map (name_at c.nets) c.pins) (apart_from (map (name_at c.nets) c.pins) same) (λ n l. refl))
  where
    at : (a : ℕ) (name : List ℕ) → slice_get (map (name_at c.nets) c.pins) a ≡ Some name → slice_get c.nets a ≡ Some name
    at a name e =
        let p = map_from (name_at c.nets) c.pins a name e in
        let is = h.pins a p.0 p.1 in
        let low = below_total (length c.nets) 0 (normal.appearances c) h.numbered p.0
        (in_left c.pins (flat_map terminals_of c.devices ++ flat_map (λ (r : plain.CallRow). r.nets) c.calls) p.0 (listed c.pins a p.0 p.1)) in
        subst (λ (m : ℕ). slice_get c.nets m ≡ Some name) is (name_there c.nets p.0 low ∙ ap (λ (n : List ℕ). let o : Option (List ℕ) = Some n in o) p.2)

    same : AtOnePlace (map (name_at c.nets) c.pins)
    same a b name p q = one a b name (at a name p) (at b name q)

-- ---- nets seen again in their order

get_left : (seen rest : List (List ℕ)) (x : ℕ) → x < length seen → slice_get (seen ++ rest) x ≡ slice_get seen x
get_left [] rest x l = absurd (omega arith)
get_left (s ∷ ss) rest zero l = refl
get_left (s ∷ ss) rest (suc x) l = get_left ss rest x (omega arith)

get_at : (seen rest : List (List ℕ)) (r : List ℕ) → slice_get (seen ++ r ∷ rest) (length seen) ≡ Some r
get_at [] rest r = refl
get_at (s ∷ ss) rest r = get_at ss rest r

not_seen : (seen rest : List (List ℕ)) (r : List ℕ) → AreApart (seen ++ r ∷ rest) → has_text seen r ≡ false
not_seen [] rest r a = refl
not_seen (s ∷ ss) rest r a = elim (cases_Bool (bytes_eq r s)) [
  | inl t ↦ absurd (a.0 (subst (λ (x : List ℕ). IsListed x (ss ++ r ∷ rest)) ((bytes_eq-Decides r s).0 t) (in_right ss (r ∷ rest) r (inl refl))))
  | inr f ↦ rw f (not_seen ss rest r a.1)
]

again : (nets seen rest : List (List ℕ)) (xs : List ℕ) → nets ≡ seen ++ rest → AreApart nets → normal.AreNumbered (length nets) (length seen) xs
    → first_seen seen (map (name_at nets) xs) ≡ nets
again nets seen rest [] e a h =
    let len = ap (λ (ns : List (List ℕ)). length ns) e ∙ length-append seen rest in
    let none = nil_from_length rest (omega (arith, len, h)) in
    sym (e ∙ ap (λ (ns : List (List ℕ)). seen ++ ns) none ∙ append-nil seen)
again nets seen rest (x ∷ xs) e a (inl h) =
    let p = item_at seen x h.0 in
    let is : name_at nets x ≡ p.0 = ap (λ (ns : List (List ℕ)). or_empty (slice_get ns x)) e ∙ ap or_empty (get_left seen rest x h.0 ∙ p.1) in
    let has : has_text seen (name_at nets x) ≡ true = has_listed seen (name_at nets x) (subst (λ (n : List ℕ). IsListed n seen) (sym is) (listed seen x p.0 p.1)) in
    ap (λ (t : Bool). first_seen (if t then seen else seen ++ name_at nets x ∷ []) (map (name_at nets) xs)) has ∙ again nets seen rest xs e a h.1
again nets seen [] (x ∷ xs) e a (inr h) =
    let low = below_total (length nets) (length seen) (x ∷ xs) (inr h) x (inl refl) in
    let len = ap (λ (ns : List (List ℕ)). length ns) e ∙ length-append seen [] in
    absurd (omega (arith, low, len, h.0))
again nets seen (r ∷ rest) (x ∷ xs) e a (inr h) =
    let at : slice_get nets x ≡ Some r = ap (λ (ns : List (List ℕ)). slice_get ns x) e ∙ ap (λ (k : ℕ). slice_get (seen ++ r ∷ rest) k) h.0 ∙ get_at seen rest r in
    let is : name_at nets x ≡ r = ap or_empty at in
    let fresh : has_text seen (name_at nets x) ≡ false = ap (λ (n : List ℕ). has_text seen n) is ∙ not_seen seen rest r (subst (λ (ns : List (List ℕ)). AreApart ns) e a) in
    let len : suc (length seen) ≡ length (seen ++ r ∷ []) = (let q : suc (length seen) ≡ length seen + 1 = omega arith in q) ∙ sym (length-append seen (r ∷ [])) in
    ap (λ (t : Bool). first_seen (if t then seen else seen ++ name_at nets x ∷ []) (map (name_at nets) xs)) fresh
    ∙ ap (λ (n : List ℕ). first_seen (seen ++ n ∷ []) (map (name_at nets) xs)) is
    ∙ again nets (seen ++ r ∷ []) rest xs (e ∙ sym (append_assoc seen (r ∷ []) rest)) a (subst (λ (k : ℕ). normal.AreNumbered (length nets) k xs) len h.1)

-- ---- a circuit's row

-- no name is needed
abbrev pub none : ℕ → List (List ℕ)
none k = []

devices_seen : (nets : List (List ℕ)) (ds : List plain.DeviceRow) → flat_map device_nets (map (device_card nets) ds) ≡ map (name_at nets) (flat_map terminals_of ds)
devices_seen nets [] = refl
devices_seen nets (d ∷ ds) =
    let f = name_at nets in
    ap (λ (xs : List (List ℕ)). xs ++ flat_map device_nets (map (device_card nets) ds)) (terminal_nets_over f d)
    ∙ ap (λ (xs : List (List ℕ)). map f (terminal_nets d) ++ xs) (devices_seen nets ds)
    ∙ sym (map-append f (terminal_nets d) (flat_map terminals_of ds))

calls_seen : (names : List (List ℕ)) (cs : List plain.Circuit) (nets : List (List ℕ)) (line : ℕ) (rs : List plain.CallRow)
    → flat_map (call_names names none) (call_cards cs nets line rs) ≡ map (name_at nets) (flat_map (λ (r : plain.CallRow). r.nets) rs)
calls_seen names cs nets line [] = refl
calls_seen names cs nets line (r ∷ rs) =
    ap (λ (xs : List (List ℕ)). xs ++ flat_map (call_names names none) (call_cards cs nets (line + 1) rs)) (append-nil (map (name_at nets) r.nets))
    ∙ ap (λ (xs : List (List ℕ)). map (name_at nets) r.nets ++ xs) (calls_seen names cs nets (line + 1) rs)
    ∙ sym (map-append (name_at nets) r.nets (flat_map (λ (x : plain.CallRow). x.nets) rs))

all_seen : (names : List (List ℕ)) (cs : List plain.Circuit) (m n : ℕ) (c : plain.Circuit) → appearances names none m (circuit_card cs n c) ≡ map (name_at c.nets) (normal.appearances c)
all_seen names cs m n c =
    let f = name_at c.nets in
    let devices = flat_map terminals_of c.devices in
    let calls = flat_map (λ (r : plain.CallRow). r.nets) c.calls in
    ap (λ (xs : List (List ℕ)). map f c.pins ++ (xs ++ flat_map (call_names names none) (call_cards cs c.nets (n + 1 + length c.devices) c.calls))) (devices_seen c.nets c.devices)
    ∙ ap (λ (xs : List (List ℕ)). map f c.pins ++ (map f devices ++ xs)) (calls_seen names cs c.nets (n + 1 + length c.devices) c.calls)
    ∙ ap (λ (xs : List (List ℕ)). map f c.pins ++ xs) (sym (map-append f devices calls))
    ∙ sym (map-append f c.pins (devices ++ calls))

abbrev AreBelow : List (List ℕ) → List ℕ → Type 0
AreBelow nets ns = (n : ℕ) → IsListed n ns → n < length nets

device_back : (nets : List (List ℕ)) (d : plain.DeviceRow) → AreApart nets → AreBelow nets (terminal_nets d) → device_row nets (device_card nets d) ≡ d
device_back nets d a h =
    row_over_twice (place_of nets) (name_at nets) d
    ∙ row_over_agrees (λ n. place_of nets (name_at nets n)) (λ n. n) d (λ n i. place_back nets n a (h n i))
    ∙ row_over_self d

devices_back : (nets : List (List ℕ)) (ds : List plain.DeviceRow) → AreApart nets → AreBelow nets (flat_map terminals_of ds) → map (device_row nets) (map (device_card nets) ds) ≡ ds
devices_back nets [] a h = refl
devices_back nets (d ∷ ds) a h =
    ap (λ (x : plain.DeviceRow). x ∷ map (device_row nets) (map (device_card nets) ds)) (device_back nets d a (λ n i. h n (in_left (terminal_nets d) (flat_map terminals_of ds) n i)))
    ∙ ap (λ (xs : List plain.DeviceRow). d ∷ xs) (devices_back nets ds a (λ n i. h n (in_right (terminal_nets d) (flat_map terminals_of ds) n i)))

calls_back : (names : List (List ℕ)) (cs : List plain.Circuit) (nets : List (List ℕ)) (line : ℕ) (rs : List plain.CallRow) → AreApart nets → AreBelow nets (flat_map (λ (r : plain.CallRow). r.nets) rs)
    → ((r : plain.CallRow) → IsListed r rs → place_of names (name_in (slice_get cs r.circuit)) ≡ r.circuit) → map (call_row names none nets) (call_cards cs nets line rs) ≡ rs
calls_back names cs nets line [] a h called = refl
calls_back names cs nets line (r ∷ rs) a h called =
    let made : ℕ → List ℕ → plain.CallRow = λ k ns. record { circuit = k; nets = ns } in
    let p = place_of nets in
    let f = name_at nets in
    let more = flat_map (λ (x : plain.CallRow). x.nets) rs in
    let here = ap (λ (k : ℕ). made k (map p (map f r.nets ++ []))) (called r (inl refl))
    ∙ ap (λ (xs : List (List ℕ)). made r.circuit (map p xs)) (append-nil (map f r.nets))
    ∙ ap (λ (ns : List ℕ). made r.circuit ns) (places_back nets r.nets a (λ n i. h n (in_left r.nets more n i))) in
    ap (λ (x : plain.CallRow). x ∷ map (call_row names none nets) (call_cards cs nets (line + 1) rs)) here
    ∙ ap (λ (xs : List plain.CallRow). r ∷ xs) (calls_back names cs nets (line + 1) rs a (λ n i. h n (in_right r.nets more n i)) (λ x i. called x (inr i)))

row_back : (names : List (List ℕ)) (cs : List plain.Circuit) (c : plain.Circuit) → AtOnePlace c.nets → normal.IsNormalCircuit c
    → ((r : plain.CallRow) → IsListed r c.calls → place_of names (name_in (slice_get cs r.circuit)) ≡ r.circuit) → (m n : ℕ) → circuit_row names none m (circuit_card cs n c) ≡ c
row_back names cs c one h called m n =
    let a = apart_from c.nets one in
    let devices = flat_map terminals_of c.devices in
    let calls = flat_map (λ (r : plain.CallRow). r.nets) c.calls in
    let below : AreBelow c.nets (normal.appearances c) = λ x i. below_total (length c.nets) 0 (normal.appearances c) h.numbered x i in
    let nets : net_names names none m (circuit_card cs n c) ≡ c.nets = ap (λ (xs : List (List ℕ)). first_seen [] xs) (all_seen names cs m n c) ∙ again c.nets [] c.nets (normal.appearances c) refl a h.numbered in
    let made : List ℕ → List plain.DeviceRow → List plain.CallRow → plain.Circuit = λ ps ds rs. record { name = c.name; nets = c.nets; pins = ps; devices = ds; calls = rs } in
    let line = n + 1 + length c.devices in
    let p = place_of c.nets in
    let f = name_at c.nets in
    ap (λ (ns : List (List ℕ)). row_over names none m (circuit_card cs n c) ns) nets
    ∙ ap (λ (xs : List (List ℕ)). made (map p xs) (map (device_row c.nets) (map (device_card c.nets) c.devices)) (map (call_row names none c.nets) (call_cards cs c.nets line c.calls))) (append-nil (map f c.pins))
    ∙ ap (λ (ps : List ℕ). made ps (map (device_row c.nets) (map (device_card c.nets) c.devices)) (map (call_row names none c.nets) (call_cards cs c.nets line c.calls)))
    (places_back c.nets c.pins a (λ x i. below x (in_left c.pins (devices ++ calls) x i)))
    ∙ ap (λ (ds : List plain.DeviceRow). made c.pins ds (map (call_row names none c.nets) (call_cards cs c.nets line c.calls)))
    (devices_back c.nets c.devices a (λ x i. below x (in_right c.pins (devices ++ calls) x (in_left devices calls x i))))
    ∙ ap (λ (rs : List plain.CallRow). made c.pins c.devices rs)
    (calls_back names cs c.nets line c.calls a (λ x i. below x (in_right c.pins (devices ++ calls) x (in_right devices calls x i))) called)

rows_back : (names : List (List ℕ)) (cs xs : List plain.Circuit) (m n : ℕ) → ((c : plain.Circuit) → IsListed c xs → (i j : ℕ) → circuit_row names none i (circuit_card cs j c) ≡ c)
    → rows_from names none m (circuit_cards cs n xs) ≡ xs
rows_back names cs [] m n h = refl
rows_back names cs (c ∷ xs) m n h =
    ap (λ (x : plain.Circuit). x ∷ rows_from names none (m + 1) (circuit_cards cs (behind n c) xs)) (h c (inl refl) m n)
    ∙ ap (λ (ys : List plain.Circuit). c ∷ ys) (rows_back names cs xs (m + 1) (behind n c) (λ x i. h x (inr i)))

-- ---- the circuits of the cards

names_same : (cs xs : List plain.Circuit) (n : ℕ) → names_of (circuit_cards cs n xs) ≡ map (λ (c : plain.Circuit). c.name) xs
names_same cs [] n = refl
names_same cs (c ∷ xs) n = ap (λ (ns : List (List ℕ)). c.name ∷ ns) (names_same cs xs (behind n c))

-- the card at a place is that of the circuit there
card_at : (cs xs : List plain.Circuit) (n k : ℕ) (d : Circuit) → slice_get (circuit_cards cs n xs) k ≡ Some d → (c : plain.Circuit) × (slice_get xs k ≡ Some c) × (m : ℕ) × (d ≡ circuit_card cs m c)
card_at cs [] n k d e = absurd (let z : ⊥ = cc in z)
card_at cs (c ∷ xs) n zero d e = (c, refl, n, some_one d (circuit_card cs n c) (sym e))
card_at cs (c ∷ xs) n (suc k) d e = card_at cs xs (behind n c) k d e

-- and each circuit has one
card_of : (cs xs : List plain.Circuit) (n k : ℕ) (c : plain.Circuit) → slice_get xs k ≡ Some c → (m : ℕ) × (slice_get (circuit_cards cs n xs) k ≡ Some (circuit_card cs m c))
card_of cs [] n k c e = absurd (let z : ⊥ = cc in z)
card_of cs (x ∷ xs) n zero c e = (n, ap (λ (y : plain.Circuit). let o : Option Circuit = Some (circuit_card cs n y) in o) (some_one x c e))
card_of cs (x ∷ xs) n (suc k) c e = card_of cs xs (behind n x) k c e

call_at : (cs : List plain.Circuit) (nets : List (List ℕ)) (line : ℕ) (rs : List plain.CallRow) (r : CallCard) → IsListed r (call_cards cs nets line rs)
    → (row : plain.CallRow) × (k : ℕ) × (slice_get rs k ≡ Some row) × (n : ℕ) × (r ≡ call_card cs nets n row)
call_at cs nets line [] r h = absurd h
call_at cs nets line (x ∷ rs) r (inl e) = (x, 0, refl, line, e)
call_at cs nets line (x ∷ rs) r (inr h) = let p = call_at cs nets (line + 1) rs r h in (p.0, suc p.1, p.2, p.3, p.4)

numbers_same : (names : List (List ℕ)) (cs : List plain.Circuit) (nets : List (List ℕ)) (line : ℕ) (rs : List plain.CallRow)
    → ((r : plain.CallRow) → IsListed r rs → place_of names (name_in (slice_get cs r.circuit)) ≡ r.circuit) → map (called_in names) (call_cards cs nets line rs) ≡ map (λ (r : plain.CallRow). r.circuit) rs
numbers_same names cs nets line [] h = refl
numbers_same names cs nets line (r ∷ rs) h =
    ap (λ (k : ℕ). k ∷ map (called_in names) (call_cards cs nets (line + 1) rs)) (h r (inl refl))
    ∙ ap (λ (ks : List ℕ). r.circuit ∷ ks) (numbers_same names cs nets (line + 1) rs (λ x i. h x (inr i)))

lists_same : (names : List (List ℕ)) (cs xs : List plain.Circuit) (n : ℕ)
    → ((c : plain.Circuit) → IsListed c xs → (r : plain.CallRow) → IsListed r c.calls → place_of names (name_in (slice_get cs r.circuit)) ≡ r.circuit)
    → map (λ (c : Circuit). map (called_in names) c.calls) (circuit_cards cs n xs) ≡ map model.called_by xs
lists_same names cs [] n h = refl
lists_same names cs (c ∷ xs) n h =
    ap (λ (ks : List ℕ). ks ∷ map (λ (x : Circuit). map (called_in names) x.calls) (circuit_cards cs (behind n c) xs)) (numbers_same names cs c.nets (n + 1 + length c.devices) c.calls (λ r i. h c (inl refl) r i))
    ∙ ap (λ (rows : List (List ℕ)). model.called_by c ∷ rows) (lists_same names cs xs (behind n c) (λ x i. h x (inr i)))

-- ---- names and calls of a sound netlist

circuits_apart : (nl : plain.Netlist) → sound.IsSoundNetlist nl → AreApart (map (λ (c : plain.Circuit). c.name) nl.circuits)
circuits_apart nl s = apart_from (map (λ (c : plain.Circuit). c.name) nl.circuits) (λ a b name p q.
    let x = map_from (λ (c : plain.Circuit). c.name) nl.circuits a name p in
    let y = map_from (λ (c : plain.Circuit). c.name) nl.circuits b name q in
    s.names a b x.0 y.0 x.1 y.1 (x.2 ∙ sym y.2))

-- the place of a called circuit's name is its number
called_back : (nl : plain.Netlist) (c : plain.Circuit) (t : ℕ) → sound.IsSoundNetlist nl → plain.IsCircuit nl t c → (r : plain.CallRow) → IsListed r c.calls
    → place_of (map (λ (x : plain.Circuit). x.name) nl.circuits) (name_in (slice_get nl.circuits r.circuit)) ≡ r.circuit
called_back nl c t s h r i =
    let names = map (λ (x : plain.Circuit). x.name) nl.circuits in
    let k = position c.calls r i in
    let d = s.calls t k.0 r (c, h, k.1) in
    ap (λ (o : Option plain.Circuit). place_of names (name_in o)) d.1
    ∙ sym (no_nil names d.0.name)
    ∙ place_at names [] r.circuit d.0.name (circuits_apart nl s) (map_to (λ (x : plain.Circuit). x.name) nl.circuits r.circuit d.0 d.1)

-- ---- what the text's lines ask

names_all : (nets : List (List ℕ)) (ns : List ℕ) → AreBelow nets ns → ((k : ℕ) (name : List ℕ) → slice_get nets k ≡ Some name → IsName name) → AreNames (map (name_at nets) ns)
names_all nets [] h named = tt
names_all nets (n ∷ ns) h named = (named n (name_at nets n) (name_there nets n (h n (inl refl))), names_all nets ns (λ m i. h m (inr i)) named)

abbrev pub AreUnder : Option Limits → plain.Netlist → Type 0
AreUnder limit nl = (t i : ℕ) (d : plain.DeviceRow) → plain.IsDevice nl t i d → AreSizesUnder d.kind limit d

abbrev terminals : plain.Circuit → List ℕ
terminals c = flat_map terminals_of c.devices

abbrev called_nets : plain.Circuit → List ℕ
called_nets c = flat_map (λ (r : plain.CallRow). r.nets) c.calls

readable : (limit : Option Limits) (nl : plain.Netlist) → sound.IsSoundNetlist nl → normal.IsNormalNetlist nl → IsWritable nl → AreUnder limit nl → (t : ℕ) (c : plain.Circuit) → plain.IsCircuit nl t c
    → IsReadable limit nl.circuits c
readable limit nl s n w u t c h = record {
  name = w.circuits t c h;
  pins = names_all c.nets c.pins (λ x i. below x (in_left c.pins (terminals c ++ called_nets c) x i)) named;
  apart = pins_apart c (λ a b name p q. s.net_names t a b c name h p q) (n t c h);
  devices = λ d l.
      let i = position c.devices d l in
      let is : plain.IsDevice nl t i.0 d = (c, h, i.1) in
      record {
        formed = w.formed t i.0 d is;
        named = net d l;
        class = w.classes t i.0 d is;
        model = w.models t i.0 d is;
        sizes = w.sizes t i.0 d is;
        under = u t i.0 d is;
      };
  calls = λ r l.
      let k = position c.calls r l in
      let d = s.calls t k.0 r (c, h, k.1) in (
        names_all c.nets r.nets (λ x i. below x (in_right c.pins (terminals c ++ called_nets c) x (in_right (terminals c) (called_nets c) x (in_all (λ (y : plain.CallRow). y.nets) c.calls r x l i)))) named,
        subst (λ (o : Option plain.Circuit). IsName (name_in o)) (sym d.1) (w.circuits r.circuit d.0 d.1),
      );
}
  where
    named : (k : ℕ) (name : List ℕ) → slice_get c.nets k ≡ Some name → IsName name
    named k name e = w.nets t k c name h e

    below : (x : ℕ) → IsListed x (normal.appearances c) → x < length c.nets
    below x i = below_total (length c.nets) 0 (normal.appearances c) (n t c h).numbered x i

    net : (d : plain.DeviceRow) → IsListed d c.devices → (x : ℕ) → IsListed x (terminal_nets d) → IsName (name_at c.nets x)
    net d l x i = named x (name_at c.nets x) (name_there c.nets x (below x (in_right c.pins (terminals c ++ called_nets c) x
        (in_left (terminals c) (called_nets c) x (in_all terminals_of c.devices d x l i)))))

-- ---- nothing is wrong with them

seen_name : (ks : List Circuit) (j : ℕ) (name : List ℕ) → has_text (names_of (take j ks)) name ≡ true → (i : ℕ) × (i < j) × (d : Circuit) × (slice_get ks i ≡ Some d) × (name ≡ d.name)
seen_name [] zero name h = absurd (let z : false ≡ true = h in true≢false (sym z))
seen_name [] (suc j) name h = absurd (let z : false ≡ true = h in true≢false (sym z))
seen_name (d ∷ ks) zero name h = absurd (let z : false ≡ true = h in true≢false (sym z))
seen_name (d ∷ ks) (suc j) name h = elim (cases_Bool (bytes_eq name d.name)) [
  | inl t ↦ (0, omega arith, d, refl, (bytes_eq-Decides name d.name).0 t)
  | inr f ↦ let g : (bytes_eq name d.name || has_text (names_of (take j ks)) name) ≡ true = h in
      let r = seen_name ks j name (sym (ap (λ (b : Bool). b || has_text (names_of (take j ks)) name) f) ∙ g) in
      (suc r.0, (let l = r.1 in omega arith), r.2, r.3, r.4)
]

abbrev cards : plain.Netlist → List Circuit
cards nl = circuit_cards nl.circuits 2 nl.circuits

no_second : (nl : plain.Netlist) → sound.IsSoundNetlist nl → Lacks (IsSecond (cards nl))
no_second nl s j (c, at, has) =
    let p = seen_name (cards nl) j c.name has in
    let x = card_at nl.circuits nl.circuits 2 p.0 p.2 p.3 in
    let y = card_at nl.circuits nl.circuits 2 j c at in
    let name : x.0.name ≡ y.0.name = sym (ap (λ (z : Circuit). z.name) x.3) ∙ sym p.4 ∙ ap (λ (z : Circuit). z.name) y.3 in
    let same = s.names p.0 j x.0 y.0 x.1 y.1 name in
    let low = p.1 in
    let z : ⊥ = omega arith in z

-- a call of the cards, and that of the netlist
call_of : (nl : plain.Netlist) (c : Circuit) (r : CallCard) → IsListed c (cards nl) → IsListed r c.calls
    → (x : plain.Circuit) × (t : ℕ) × plain.IsCircuit nl t x × (row : plain.CallRow) × (k : ℕ) × (slice_get x.calls k ≡ Some row) × (n : ℕ) × (r ≡ call_card nl.circuits x.nets n row)
call_of nl c r lc lr =
    let t = position (cards nl) c lc in
    let x = card_at nl.circuits nl.circuits 2 t.0 c t.1 in
    let p = call_at nl.circuits x.0.nets (x.2 + 1 + length x.0.devices) x.0.calls r (subst (λ (z : Circuit). IsListed r z.calls) x.3 lr) in
    (x.0, t.0, x.1, p.0, p.1, p.2, p.3, p.4)

not_not : (b : Bool) → b ≡ true → not b ≡ true → ⊥
not_not b e f = let z : ⊥ = cc in z

no_missing : (nl : plain.Netlist) → sound.IsSoundNetlist nl → Lacks (HasCall (cards nl) (is_missing (cards nl)))
no_missing nl s line (c, lc, (r, lr, shows, at)) =
    let p = call_of nl c r lc lr in
    let d = s.calls p.1 p.4 p.3 (p.0, p.2, p.5) in
    let name : r.circuit ≡ d.0.name = ap (λ (z : CallCard). z.circuit) p.7 ∙ ap name_in d.1 in
    let m = card_of nl.circuits nl.circuits 2 p.3.circuit d.0 d.1 in
    let named : IsListed r.circuit (names_of (cards nl)) = subst (λ (z : List ℕ). IsListed z (names_of (cards nl))) (sym name)
    (listed (names_of (cards nl)) p.3.circuit d.0.name (map_to (λ (z : Circuit). z.name) (cards nl) p.3.circuit (circuit_card nl.circuits m.0 d.0) m.1)) in
    not_not (has_text (names_of (cards nl)) r.circuit) (has_listed (names_of (cards nl)) r.circuit named) shows

no_other_count : (nl : plain.Netlist) → sound.IsSoundNetlist nl → Lacks (HasCall (cards nl) (is_other_count (cards nl)))
no_other_count nl s line (c, lc, (r, lr, shows, at)) =
    let p = call_of nl c r lc lr in
    let d = s.calls p.1 p.4 p.3 (p.0, p.2, p.5) in
    let m = card_of nl.circuits nl.circuits 2 p.3.circuit d.0 d.1 in
    let number : called_in (names_of (cards nl)) r ≡ p.3.circuit =
    ap (λ (z : CallCard). place_of (names_of (cards nl)) z.circuit) p.7
    ∙ ap (λ (ns : List (List ℕ)). place_of ns (name_in (slice_get nl.circuits p.3.circuit))) (names_same nl.circuits nl.circuits 2)
    ∙ called_back nl p.0 p.1 s p.2 p.3 (listed p.0.calls p.4 p.3 p.5) in
    let made = circuit_card nl.circuits m.0 d.0 in
    let found : slice_get (cards nl) (called_in (names_of (cards nl)) r) ≡ Some made = ap (λ (k : ℕ). slice_get (cards nl) k) number ∙ m.1 in
    let count : length r.nets ≡ length made.pins =
    ap (λ (z : CallCard). length z.nets) p.7 ∙ length-map p.3.nets (name_at p.0.nets) ∙ d.2 ∙ sym (length-map d.0.pins (name_at d.0.nets)) in
    let equal : (length r.nets == length made.pins) ≡ true = (Decides-eqb (length r.nets) (length made.pins)).1 count in
    let is : is_other_count (cards nl) r ≡ not (length r.nets == length made.pins) = ap (λ (o : Option Circuit). is_other_than o r) found in
    not_not (length r.nets == length made.pins) equal (sym is ∙ shows)

no_cycle : (nl : plain.Netlist) → sound.IsSoundNetlist nl → model.CallListsLaw → Lacks (ReachesItself (call_lists (cards nl)))
no_cycle nl s law k h =
    let same : call_lists (cards nl) ≡ map model.called_by nl.circuits =
    ap (λ (ns : List (List ℕ)). map (λ (c : Circuit). map (called_in ns) c.calls) (cards nl)) (names_same nl.circuits nl.circuits 2)
    ∙ lists_same (map (λ (x : plain.Circuit). x.name) nl.circuits) nl.circuits nl.circuits 2 (λ c i r j. let t = position nl.circuits c i in called_back nl c t.0 s t.1 r j) in
    s.no_cycle k ((law.cycles nl k).0 (subst (λ (rows : List (List ℕ)). ReachesItself rows k) same h))

-- ---- the meaning

netlist_back : (nl : plain.Netlist) → sound.IsSoundNetlist nl → normal.IsNormalNetlist nl → IsNetlistOf (cards nl) [] nl
netlist_back nl s n = record {
  needed = none;
  needs = λ k l. refl;
  rows = sym (ap (λ (ns : List (List ℕ)). rows_from ns none 0 (cards nl)) (names_same nl.circuits nl.circuits 2)
      ∙ rows_back (map (λ (x : plain.Circuit). x.name) nl.circuits) nl.circuits nl.circuits 0 2 (λ c l i j.
      let t = position nl.circuits c l in
      row_back (map (λ (x : plain.Circuit). x.name) nl.circuits) nl.circuits c (λ a b name p q. s.net_names t.0 a b c name t.1 p q) (n t.0 c t.1) (λ r k. called_back nl c t.0 s t.1 r k) i j));
}

means_it : (limit : Option Limits) (nl : plain.Netlist) (text : List ℕ) → model.CallListsLaw → sound.IsSoundNetlist nl → normal.IsNormalNetlist nl → IsWritable nl → AreUnder limit nl → IsWritten nl text
    → Means limit text nl
means_it limit nl text law s n w u h = record {
  cards = at_rest (cards nl);
  read = text_read limit nl text (λ c l. let t = position nl.circuits c l in readable limit nl s n w u t.0 c t.1) h;
  ended = refl;
  one = no_second nl s;
  called = no_missing nl s;
  counts = no_other_count nl s;
  cycles = no_cycle nl s law;
  netlist = netlist_back nl s n;
}

pub written_means : model.CallListsLaw → WrittenMeansLaw
written_means law nl text s n w h = means_it None nl text law s n w (λ t i d k. tt) h

pub read_again : model.CallListsLaw → ReadAgainLaw
read_again law limit nl text s n w u h = means_it (Some limit) nl text law s n w u h
