-- A text has one meaning.
use Rattle.std.proofs.Common.{◌≡◌, inl, inr, ℕ, ◌+◌, ◌<◌, List, [], ◌∷◌, ◌++◌, map, length, Option, Result, Ok, Err, refl, sym, ap, subst, ◌∙◌, arith}
use Rattle.std.specs.Prelude.{flat_map}
use Rattle.std.specs.Str.{bytes_eq}
use Rattle.std.proofs.lemmas.List.{length-map}
use Rattle.text_table.specs.Texts.{place_of}
use Rattle.plain_netlist.specs.Lists.{IsListed}
use Rattle.plain_netlist.specs.Netlist as plain
use Rattle.spice_rows.specs.Rows.{CallCard}
use Rattle.spice_rows.specs.Sizes.{Limits}
use Rattle.spice_rows.specs.declared.fault.SpiceFault.{SpiceFault}
use Rattle.spice_rows.specs.declared.fault.SpiceFault.TheVariants.{NotClosed, NameClash, NoSuchCircuit, PinCount, CircuitCycle, NoMemory}
use Rattle.spice_text.specs.Gather.{Circuit, Cards, reading_of}
use Rattle.spice_text.specs.Circuits.{all_of, names_of, called_in}
use Rattle.spice_text.specs.Faults.{HasCall, is_missing, Lacks, IsWholeFault}
use Rattle.spice_text.specs.Needs.{first_seen, device_nets, Needs, Picks}
use Rattle.spice_text.specs.Means.{call_names, net_names, device_row, call_row, row_over, circuit_row, rows_from, IsNetlistOf, Means, IsFirstFault}
use Rattle.spice_text.specs.Laws.{OneMeaningLaw, NoFaultLaw}
use Rattle.spice_text.proofs.CallLemmas.{place_lt, is_there}

ok_one : {A E : Type 0} (a b : A) → (let x : Result A E = Ok a in x) ≡ Ok b → a ≡ b
ok_one a b e = cc

one_pick : (P : List ℕ → Type 0) (gs a b : List (List ℕ)) → Picks P gs a → Picks P gs b → a ≡ b
one_pick P [] a b e f = e ∙ sym f
one_pick P (g ∷ gs) a b (inl x) (inl y) = x.2 ∙ ap (λ (ns : List (List ℕ)). g ∷ ns) (one_pick P gs x.1 y.1 x.3 y.3) ∙ sym y.2
one_pick P (g ∷ gs) a b (inl x) (inr y) = absurd (y.0 x.0)
one_pick P (g ∷ gs) a b (inr x) (inl y) = absurd (x.0 y.0)
one_pick P (g ∷ gs) a b (inr x) (inr y) = one_pick P gs a b x.1 y.1

-- ---- rows by what circuits need

-- each call of the circuit is of one for which the two say alike
abbrev Alike : List (List ℕ) → (ℕ → List (List ℕ)) → (ℕ → List (List ℕ)) → List CallCard → Type 0
Alike names a b rs = (r : CallCard) → IsListed r rs → a (called_in names r) ≡ b (called_in names r)

names_alike : (names : List (List ℕ)) (a b : ℕ → List (List ℕ)) (rs : List CallCard) → Alike names a b rs → flat_map (call_names names a) rs ≡ flat_map (call_names names b) rs
names_alike names a b [] h = refl
names_alike names a b (r ∷ rs) h =
    ap (λ (ns : List (List ℕ)). (r.nets ++ ns) ++ flat_map (call_names names a) rs) (h r (inl refl))
    ∙ ap (λ (ns : List (List ℕ)). call_names names b r ++ ns) (names_alike names a b rs (λ x i. h x (inr i)))

calls_alike : (names : List (List ℕ)) (a b : ℕ → List (List ℕ)) (nets : List (List ℕ)) (rs : List CallCard) → Alike names a b rs → map (call_row names a nets) rs ≡ map (call_row names b nets) rs
calls_alike names a b nets [] h = refl
calls_alike names a b nets (r ∷ rs) h =
    ap (λ (ns : List (List ℕ)). (let c : plain.CallRow = record { circuit = called_in names r; nets = map (place_of nets) (r.nets ++ ns) } in c) ∷ map (call_row names a nets) rs) (h r (inl refl))
    ∙ ap (λ (xs : List plain.CallRow). call_row names b nets r ∷ xs) (calls_alike names a b nets rs (λ x i. h x (inr i)))

circuit_alike : (names : List (List ℕ)) (a b : ℕ → List (List ℕ)) (k : ℕ) (c : Circuit) → a k ≡ b k → Alike names a b c.calls → circuit_row names a k c ≡ circuit_row names b k c
circuit_alike names a b k c e h =
    let seen = ap (λ (ns : List (List ℕ)). first_seen [] (c.pins ++ (ns ++ (flat_map device_nets c.devices ++ flat_map (call_names names a) c.calls)))) e
    ∙ ap (λ (ns : List (List ℕ)). first_seen [] (c.pins ++ (b k ++ (flat_map device_nets c.devices ++ ns)))) (names_alike names a b c.calls h) in
    let nets = net_names names b k c in
    let pinned : List (List ℕ) → List plain.CallRow → plain.Circuit = λ ns rs. record {
      name = c.name;
      nets = nets;
      pins = map (place_of nets) (c.pins ++ ns);
      devices = map (device_row nets) c.devices;
      calls = rs;
    } in
    ap (λ (ns : List (List ℕ)). row_over names a k c ns) seen
    ∙ ap (λ (ns : List (List ℕ)). pinned ns (map (call_row names a nets) c.calls)) e
    ∙ ap (λ (rs : List plain.CallRow). pinned (b k) rs) (calls_alike names a b nets c.calls h)

rows_alike : (names : List (List ℕ)) (a b : ℕ → List (List ℕ)) (m n : ℕ) (cs : List Circuit) → n ≡ m + length cs → ((k : ℕ) → k < n → a k ≡ b k)
    → ((c : Circuit) → IsListed c cs → Alike names a b c.calls) → rows_from names a m cs ≡ rows_from names b m cs
rows_alike names a b m n [] e f h = refl
rows_alike names a b m n (c ∷ cs) e f h =
    ap (λ (x : plain.Circuit). x ∷ rows_from names a (m + 1) cs) (circuit_alike names a b m c (f m (omega arith)) (h c (inl refl)))
    ∙ ap (λ (xs : List plain.Circuit). circuit_row names b m c ∷ xs) (rows_alike names a b (m + 1) n cs (omega arith) f (λ x i. h x (inr i)))

-- ---- one netlist

one_netlist : (cs : List Circuit) (globals : List (List ℕ)) (n m : plain.Netlist) → Lacks (HasCall cs (is_missing cs)) → IsNetlistOf cs globals n → IsNetlistOf cs globals m → n ≡ m
one_netlist cs globals n m called x y =
    let one : (k : ℕ) → k < length cs → x.needed k ≡ y.needed k = λ k l. one_pick (λ g. Needs cs g k) (first_seen [] globals) (x.needed k) (y.needed k) (x.needs k l) (y.needs k l) in
    let rows = rows_alike (names_of cs) x.needed y.needed 0 (length cs) cs (omega arith) one (λ c i r j.
    let less = place_lt (bytes_eq r.circuit) (names_of cs) (is_there cs c r called i j) in
    let len = length-map cs (λ (z : Circuit). z.name) in
    one (called_in (names_of cs) r) (omega arith)) in
    ap (λ (xs : List plain.Circuit). let z : plain.Netlist = record { circuits = xs } in z) (x.rows ∙ rows ∙ sym y.rows)

pub one_meaning : OneMeaningLaw
one_meaning limit text n m x y =
    let same : x.cards ≡ y.cards = ok_one {E = SpiceFault} x.cards y.cards (sym x.read ∙ y.read) in
    let other : IsNetlistOf (all_of x.cards) x.cards.globals m = subst (λ (c : Cards). IsNetlistOf (all_of c) c.globals m) (sym same) y.netlist in
    one_netlist (all_of x.cards) x.cards.globals n m x.called x.netlist other

-- ---- and no fault

no_whole : (limit : Option Limits) (text : List ℕ) (n : plain.Netlist) (fault : SpiceFault) (x : Means limit text n) → IsWholeFault x.cards fault → fault ≡ NoMemory
no_whole limit text n (NotClosed l) x h = absurd (let e = h.1 in let f = x.ended in let z : ⊥ = cc in z)
no_whole limit text n NoMemory x h = refl
no_whole limit text n (NameClash l) x h = absurd (x.one h.1.0 h.1.1.holds)
no_whole limit text n (NoSuchCircuit l) x h = absurd (x.called l h.1.1.holds)
no_whole limit text n (PinCount l) x h = absurd (x.counts l h.1.2.holds)
no_whole limit text n (CircuitCycle name) x h = absurd (x.cycles h.1.3.0 h.1.3.1.reaches)
no_whole limit text n fault x h = absurd h.1

not_both : {A E : Type 0} (r : Result A E) (a : A) (e : E) → r ≡ Ok a → r ≡ Err e → ⊥
not_both r a e f g = let z : ⊥ = cc in z

none_first : (limit : Option Limits) (text : List ℕ) (n : plain.Netlist) (fault : SpiceFault) → Means limit text n → IsFirstFault limit text fault → fault ≡ NoMemory
none_first limit text n fault x (inl e) = absurd (not_both (reading_of limit text) x.cards fault x.read e)
none_first limit text n fault x (inr (cards, e, w)) =
    let same : cards ≡ x.cards = ok_one {E = SpiceFault} cards x.cards (sym e ∙ x.read) in
    no_whole limit text n fault x (subst (λ (c : Cards). IsWholeFault c fault) same w)

pub no_fault : NoFaultLaw
no_fault limit text n NoMemory x h = refl
no_fault limit text n fault x h = none_first limit text n fault x h
