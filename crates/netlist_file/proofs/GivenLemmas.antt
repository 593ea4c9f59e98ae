-- The names of circuits and nets have no small letters, as what they are made from has none.
use Rattle.std.proofs.Common.{◌≡◌, inl, inr, ℕ, zero, suc, ◌+◌, ◌/◌, ◌%◌, ◌<◌, ◌==◌, Bool, true, false, List, [], ◌∷◌, ◌++◌, map, length, Some, refl, sym, ap, subst, ◌∙◌, arith}
use Rattle.std.proofs.lemmas.Bool.{cases_Bool}
use Rattle.std.specs.Prelude.{decimal, get_or, nat_lt, slice_get}
use Rattle.std.specs.List.{AllByRecursion}
use Rattle.std.specs.Fmt.{digits, digits_onto, digit_glyph}
use Rattle.std.proofs.lemmas.Bool.Decides.{nat_tests}
use Rattle.std.proofs.lemmas.List.{map-append}
use Rattle.std.proofs.lemmas.Option.{none-some, same_Some}
use Rattle.net_names.specs.Folding.{folded_byte, folded_bytes}
use Rattle.flat_laws.proofs.Planned.{at_true, item_at}
use Rattle.flat_laws.proofs.Devices.{device_of_rule}
use Rattle.flat_layout.specs.Circuits.{IsCircuitOf, cell_name, drawn_nets}
use Rattle.flat_layout.specs.Expanded.{AreTablesRight, CircuitTables}
use Rattle.flat_layout.specs.Gates.{Rule}
use Rattle.flat_layout.specs.Layout.{Design}
use Rattle.flat_layout.specs.Names.{apart_names, net_needs, net_ending, circuit_needs, circuit_ending}
use Rattle.flat_layout.specs.Nets.{Tables}
use Rattle.flat_layout.specs.Regions.{Wiring}
use Rattle.plain_netlist.specs.declared.kinds.DeviceKind.{DeviceKind}
use Rattle.plain_netlist.specs.Devices.{IsFormed}
use Rattle.plain_netlist.specs.Lists.{IsListed}
use Rattle.plain_netlist.specs.Netlist.{Circuit, DeviceRow, Netlist, IsCircuit, IsDevice}
use Rattle.plain_netlist.proofs.Members.{listed, position}
use Rattle.netlist_file.specs.Extracted.{ExtractedFormedLaw, ExtractedWritableLaw}
use Rattle.netlist_file.specs.Spelled.{IsByteName, IsSpelledCircuit, IsSpelledDevice}
use Rattle.spice_rows.specs.Rows.{is_class}
use Rattle.spice_text.specs.Laws.{IsName}

-- ---- letters

-- bytes that folding leaves
abbrev IsFixed : List ℕ → Type 0
IsFixed text = folded_bytes text ≡ text

twice : (b : ℕ) → folded_byte (folded_byte b) ≡ folded_byte b
twice b = grind (arith, nat_tests)

pub folded_fixed : (text : List ℕ) → IsFixed (folded_bytes text)
folded_fixed [] = refl
folded_fixed (b ∷ bs) = ap (λ (x : ℕ). x ∷ folded_bytes (folded_bytes bs)) (twice b) ∙ ap (λ (xs : List ℕ). folded_byte b ∷ xs) (folded_fixed bs)

fixed_append : (xs ys : List ℕ) → IsFixed xs → IsFixed ys → IsFixed (xs ++ ys)
fixed_append xs ys g h = map-append folded_byte xs ys ∙ ap (λ (zs : List ℕ). zs ++ folded_bytes ys) g ∙ ap (λ (zs : List ℕ). xs ++ zs) h

fixed_one : (b : ℕ) (bs : List ℕ) → b < 97 → IsFixed bs → IsFixed (b ∷ bs)
fixed_one b bs l h = ap (λ (x : ℕ). x ∷ folded_bytes bs) (same b l) ∙ ap (λ (xs : List ℕ). b ∷ xs) h
  where
    same : (b : ℕ) → b < 97 → folded_byte b ≡ b
    same b l = grind (arith, nat_tests)

digits_fixed : (k n : ℕ) (acc : List ℕ) → IsFixed acc → IsFixed (digits_onto k 10 false n acc)
digits_fixed zero n acc h = h
digits_fixed (suc k) n acc h = elim (cases_Bool (n / 10 == 0)) [
  | inl t ↦ rw t (fixed_one (digit_glyph false (n % 10)) acc (glyph (n % 10) (omega arith)) h)
  | inr f ↦ rw f (digits_fixed k (n / 10) (digit_glyph false (n % 10) ∷ acc) (fixed_one (digit_glyph false (n % 10)) acc (glyph (n % 10) (omega arith)) h))
]
  where
    glyph : (d : ℕ) → d < 10 → digit_glyph false d < 97
    glyph d l = elim (cases_Bool (nat_lt d 10)) [ inl t ↦ rw t (omega arith) | inr f ↦ absurd (grind (arith, f, l)) ]

decimal_fixed : (n : ℕ) → IsFixed (decimal n)
unfolding digits
decimal_fixed n = digits_fixed 64 n [] refl

-- ---- names that are kept apart

-- each is a base, or one with an ending
kept : (needs : List (List ℕ) → List ℕ → Bool) (ending : ℕ → List ℕ) (earlier : List (List ℕ)) (k : ℕ) (bases : List (List ℕ))
    → ((b : List ℕ) → IsListed b bases → IsFixed b) → ((j : ℕ) → IsFixed (ending j))
    → (i : ℕ) (a : List ℕ) → slice_get (apart_names needs ending earlier k bases) i ≡ Some a → IsFixed a
kept needs ending earlier k [] fixed ends i a h = absurd (none-some a h)
kept needs ending earlier k (b ∷ bs) fixed ends zero a h = subst IsFixed (same_Some _ _ h) (elim (cases_Bool (needs earlier b)) [
  | inl t ↦ rw t (fixed_append b (ending k) (fixed b (inl refl)) (ends k))
  | inr f ↦ rw f (fixed b (inl refl))
])
kept needs ending earlier k (b ∷ bs) fixed ends (suc i) a h = kept needs ending (b ∷ earlier) (suc k) bs (λ c l. fixed c (inr l)) ends i a h

net_ends : (j : ℕ) → IsFixed (net_ending j)
net_ends j = fixed_one 36 (decimal j) (omega arith) (decimal_fixed j)

circuit_ends : (j : ℕ) → IsFixed (circuit_ending j)
circuit_ends j = fixed_one 36 (36 ∷ decimal j) (omega arith) (fixed_one 36 (decimal j) (omega arith) (decimal_fixed j))

-- folded bases
bases_fixed : {A : Type 0} (f : A → List ℕ) (xs : List A) (b : List ℕ) → IsListed b (map (λ (x : A). folded_bytes (f x)) xs) → IsFixed b
bases_fixed f [] b h = absurd h
bases_fixed f (x ∷ xs) b (inl e) = subst IsFixed (sym e) (folded_fixed (f x))
bases_fixed f (x ∷ xs) b (inr h) = bases_fixed f xs b h

name_of : (text : List ℕ) → IsByteName text → IsFixed text → IsName text
name_of text named h = record { some = named.some; bytes = λ k lt. named.bytes k 0 lt; folded = h }

each_at : {A : Type 0} (P : A → Type 0) (xs : List A) (k : ℕ) (x : A) → AllByRecursion P xs → slice_get xs k ≡ Some x → P x
each_at P [] k x h e = absurd (none-some x e)
each_at P (y ∷ xs) zero x h e = subst (λ z. P z) (same_Some _ _ e) h.0
each_at P (y ∷ xs) (suc k) x h e = each_at P xs k x h.1 e

-- ---- the netlist

-- the cell of a circuit
cell_at : (d : Design) (w : Wiring) (t : Tables) (g : CircuitTables) (nl : Netlist) (rules : List Rule) (unit : ℕ) (level : ℕ → ℕ) → AreTablesRight d w t g nl rules unit level
    → (n : ℕ) (c : Circuit) → IsCircuit nl n c → (cell : ℕ) × IsListed cell g.cells × IsCircuitOf d t g.gates g.pins g.drawn rules unit g.cells n cell (g.parts cell) c
cell_at d w t g nl rules unit level h n c is =
    let r = item_at nl.circuits g.cells n c (sym h.circuits.count) is in
    (r.0, listed g.cells n r.0 r.1, h.circuits.each n r.0 c r.1 is)

-- the rule of a device
ruled : (d : Design) (w : Wiring) (t : Tables) (g : CircuitTables) (nl : Netlist) (rules : List Rule) (unit : ℕ) (level : ℕ → ℕ) → AreTablesRight d w t g nl rules unit level → (n i : ℕ) (row : DeviceRow) → IsDevice nl n i row
    → (r : ℕ) × (u : Rule) × (slice_get rules r ≡ Some u) × (row.kind ≡ u.kind) × (row.class ≡ u.class) × IsFormed row
ruled d w t g nl rules unit level h n i row (c, is, at) =
    let r = item_at nl.circuits g.cells n c (sym h.circuits.count) is in
    let reached = ((h.cells.each r.0).0 (listed g.cells n r.0 r.1)).0 in
    device_of_rule d w t g nl rules unit level h r.0 n i row reached r.1 (c, is, at)

pub formed : ExtractedFormedLaw
formed d w t g nl rules unit level h n i row dev = (ruled d w t g nl rules unit level h n i row dev).5

pub writable : ExtractedWritableLaw
writable d w t g nl rules unit level h classed spelled = record {
  circuits = λ n c is. name_of c.name (circuit n c is).name (named n c (cell_at d w t g nl rules unit level h n c is));
  nets = λ n a c name is at. name_of name (each_at IsByteName c.nets a name (circuit n c is).nets at) (net n a c name is at (cell_at d w t g nl rules unit level h n c is));
  classes = λ n i row dev. name_of row.class (device n i row dev).class (class n i row dev);
  models = model;
  formed = formed d w t g nl rules unit level h;
  sizes = λ n i row dev. (device n i row dev).sizes;
}
  where
    circuit : (n : ℕ) (c : Circuit) → IsCircuit nl n c → IsSpelledCircuit c
    circuit n c is = each_at IsSpelledCircuit nl.circuits n c spelled is

    device : (n i : ℕ) (row : DeviceRow) → IsDevice nl n i row → IsSpelledDevice row
    device n i row dev = each_at IsSpelledDevice dev.0.devices i row (circuit n dev.0 dev.1).devices dev.2

    named : (n : ℕ) (c : Circuit) → ((cell : ℕ) × IsListed cell g.cells × IsCircuitOf d t g.gates g.pins g.drawn rules unit g.cells n cell (g.parts cell) c) → IsFixed c.name
    named n c f = kept circuit_needs circuit_ending [] 1 (map (λ (cell : ℕ). folded_bytes (cell_name d cell)) g.cells) (bases_fixed (cell_name d) g.cells) circuit_ends n c.name f.2.has_name

    net : (n a : ℕ) (c : Circuit) (name : List ℕ) → IsCircuit nl n c → slice_get c.nets a ≡ Some name
        → ((cell : ℕ) × IsListed cell g.cells × IsCircuitOf d t g.gates g.pins g.drawn rules unit g.cells n cell (g.parts cell) c) → IsFixed name
    net n a c name is at f =
        let has = f.2.has_nets in
        let x = item_at c.nets (g.parts f.0).nets a name (sym has.count) at in
        let drawn = (has.each x.0).0 (listed (g.parts f.0).nets a x.0 x.1) in
        let stands = subst (λ (y : ℕ). IsListed y (drawn_nets (g.drawn f.0))) (let z : 0 + x.0 ≡ x.0 = omega arith in z) (at_true 0 (g.drawn f.0) x.0 drawn) in
        let place = position (drawn_nets (g.drawn f.0)) x.0 stands in
        let same = sym (has.named a place.0 x.0 x.1 place.1) ∙ at in
        let base = λ (y : ℕ). get_or (g.pins f.0).names y [] in
        kept net_needs net_ending [] 1 (map (λ (y : ℕ). folded_bytes (base y)) (drawn_nets (g.drawn f.0)))
        (bases_fixed base (drawn_nets (g.drawn f.0))) net_ends place.0 name same

    class : (n i : ℕ) (row : DeviceRow) → IsDevice nl n i row → IsFixed row.class
    class n i row dev = let r = ruled d w t g nl rules unit level h n i row dev in subst IsFixed (sym r.4) (classed r.0 r.1 r.2).folded

    model : (n i : ℕ) (row : DeviceRow) → IsDevice nl n i row → is_class row.kind row.class ≡ true
    model n i row dev =
        let r = ruled d w t g nl rules unit level h n i row dev in
        ap (λ (k : DeviceKind). is_class k row.class) r.3 ∙ ap (is_class r.1.kind) r.4 ∙ (classed r.0 r.1 r.2).model
