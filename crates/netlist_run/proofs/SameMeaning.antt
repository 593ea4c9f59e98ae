-- Cards that are the same but for their lines mean the same netlist.
use Rattle.std.proofs.Common.{◌≡◌, inl, inr, ℕ, zero, suc, ◌+◌, ◌<◌, ◌==◌, Bool, List, [], ◌∷◌, ◌++◌, length, map, take, Option, Some, None, Result, Ok, refl, sym, ap, subst, ◌∙◌}
use Rattle.std.specs.Prelude.{flat_map, not, slice_get}
use Rattle.call_order.specs.Order.{Calls, ReachesItself}
use Rattle.plain_netlist.specs.Chains.{IsChain}
use Rattle.plain_netlist.specs.Lists.{IsListed}
use Rattle.plain_netlist.specs.Netlist as plain
use Rattle.spice_cards.specs.Cards.{cards_of, early_more}
use Rattle.spice_rows.specs.Rows.{CallCard, DeviceCard}
use Rattle.spice_rows.specs.Sizes.{Limits}
use Rattle.spice_rows.specs.declared.fault.SpiceFault.{SpiceFault}
use Rattle.text_table.specs.Texts.{has_text, place_of}
use Rattle.netlist_turn.specs.KeptLaw.{saying, tokens_in}
use Rattle.spice_text.specs.Circuits.{all_of, call_lists, called_in, names_of}
use Rattle.spice_text.specs.Faults.{HasCall, IsSecond, Lacks, is_missing, is_other_count, is_other_than}
use Rattle.spice_text.specs.Gather.{Circuit, Cards, early_or, no_cards, reading}
use Rattle.spice_text.specs.Means.{IsNetlistOf, Means, call_names, call_row, circuit_row, device_row, net_names, row_over, rows_from}
use Rattle.spice_text.specs.Needs.{Needs, Passes, Picks, call_nets, device_nets, first_seen, is_pin, pin_in, used_in}
use Rattle.netlist_run.specs.Kept.{EndsLast}
use Rattle.netlist_run.proofs.SameReading.{AreSame, AreSameCalls, AreSameCards, IsSame, IsSameSome, reads_same, same_closed}

-- ---- the other way round

calls_back : (rs qs : List CallCard) → AreSameCalls rs qs → AreSameCalls qs rs
calls_back [] [] h = tt
calls_back [] (q ∷ qs) h = absurd h
calls_back (r ∷ rs) [] h = absurd h
calls_back (r ∷ rs) (q ∷ qs) h = (sym h.0, sym h.1, calls_back rs qs h.2)

same_back : (cs ds : List Circuit) → AreSame cs ds → AreSame ds cs
same_back [] [] h = tt
same_back [] (d ∷ ds) h = absurd h
same_back (c ∷ cs) [] h = absurd h
same_back (c ∷ cs) (d ∷ ds) h = (record { name = sym h.0.name; pins = sym h.0.pins; devices = sym h.0.devices; calls = calls_back c.calls d.calls h.0.calls }, same_back cs ds h.1)

-- ---- names, places, calls by number

names_same : (cs ds : List Circuit) → AreSame cs ds → names_of cs ≡ names_of ds
names_same [] [] h = refl
names_same [] (d ∷ ds) h = absurd h
names_same (c ∷ cs) [] h = absurd h
names_same (c ∷ cs) (d ∷ ds) h = ap (λ (n : List ℕ). n ∷ names_of cs) h.0.name ∙ ap (λ (ns : List (List ℕ)). d.name ∷ ns) (names_same cs ds h.1)

long_same : (cs ds : List Circuit) → AreSame cs ds → length cs ≡ length ds
long_same [] [] h = refl
long_same [] (d ∷ ds) h = absurd h
long_same (c ∷ cs) [] h = absurd h
long_same (c ∷ cs) (d ∷ ds) h = ap (λ (n : ℕ). suc n) (long_same cs ds h.1)

take_same : (k : ℕ) (cs ds : List Circuit) → AreSame cs ds → AreSame (take k cs) (take k ds)
take_same zero [] [] h = tt
take_same (suc k) [] [] h = tt
take_same k [] (d ∷ ds) h = absurd h
take_same k (c ∷ cs) [] h = absurd h
take_same zero (c ∷ cs) (d ∷ ds) h = tt
take_same (suc k) (c ∷ cs) (d ∷ ds) h = (h.0, take_same k cs ds h.1)

at_same : (k : ℕ) (cs ds : List Circuit) → AreSame cs ds → IsSameSome (slice_get cs k) (slice_get ds k)
at_same zero [] [] h = tt
at_same (suc k) [] [] h = tt
at_same k [] (d ∷ ds) h = absurd h
at_same k (c ∷ cs) [] h = absurd h
at_same zero (c ∷ cs) (d ∷ ds) h = h.0
at_same (suc k) (c ∷ cs) (d ∷ ds) h = at_same k cs ds h.1

called_same : (names : List (List ℕ)) (rs qs : List CallCard) → AreSameCalls rs qs → map (called_in names) rs ≡ map (called_in names) qs
called_same names [] [] h = refl
called_same names [] (q ∷ qs) h = absurd h
called_same names (r ∷ rs) [] h = absurd h
called_same names (r ∷ rs) (q ∷ qs) h = ap (λ (n : List ℕ). place_of names n ∷ map (called_in names) rs) h.1 ∙ ap (λ (ks : List ℕ). called_in names q ∷ ks) (called_same names rs qs h.2)

lists_by : (names : List (List ℕ)) (cs ds : List Circuit) → AreSame cs ds → map (λ (c : Circuit). map (called_in names) c.calls) cs ≡ map (λ (c : Circuit). map (called_in names) c.calls) ds
lists_by names [] [] h = refl
lists_by names [] (d ∷ ds) h = absurd h
lists_by names (c ∷ cs) [] h = absurd h
lists_by names (c ∷ cs) (d ∷ ds) h =
    ap (λ (ks : List ℕ). ks ∷ map (λ (c : Circuit). map (called_in names) c.calls) cs) (called_same names c.calls d.calls h.0.calls)
    ∙ ap (λ (ls : List (List ℕ)). map (called_in names) d.calls ∷ ls) (lists_by names cs ds h.1)

lists_same : (cs ds : List Circuit) → AreSame cs ds → call_lists cs ≡ call_lists ds
lists_same cs ds h = ap (λ (ns : List (List ℕ)). map (λ (c : Circuit). map (called_in ns) c.calls) cs) (names_same cs ds h) ∙ lists_by (names_of ds) cs ds h

-- ---- faults

some_same : (o : Option Circuit) (d : Circuit) → IsSameSome o (Some d) → (c : Circuit) × (o ≡ Some c) × IsSame c d
some_same None d h = absurd h
some_same (Some c) d h = (c, refl, h)

second_back : (cs ds : List Circuit) (k : ℕ) → AreSame cs ds → IsSecond ds k → IsSecond cs k
second_back cs ds k h (d, e, has) =
    let found = some_same (slice_get cs k) d (subst (λ (o : Option Circuit). IsSameSome (slice_get cs k) o) e (at_same k cs ds h)) in (
      found.0,
      found.1,
      ap (λ (ns : List (List ℕ)). has_text ns found.0.name) (names_same (take k cs) (take k ds) (take_same k cs ds h)) ∙ ap (λ (n : List ℕ). has_text (names_of (take k ds)) n) found.2.name ∙ has,
    )

circuit_back : (cs ds : List Circuit) (d : Circuit) → AreSame cs ds → IsListed d ds → (c : Circuit) × IsListed c cs × IsSame c d
circuit_back [] [] d h i = absurd i
circuit_back [] (y ∷ ds) d h i = absurd h
circuit_back (x ∷ cs) [] d h i = absurd h
circuit_back (x ∷ cs) (y ∷ ds) d h (inl e) = (x, inl refl, subst (λ (z : Circuit). IsSame x z) (sym e) h.0)
circuit_back (x ∷ cs) (y ∷ ds) d h (inr i) = let b = circuit_back cs ds d h.1 i in (b.0, inr b.1, b.2)

call_back : (rs qs : List CallCard) (q : CallCard) → AreSameCalls rs qs → IsListed q qs → (r : CallCard) × IsListed r rs × (r.nets ≡ q.nets) × (r.circuit ≡ q.circuit)
call_back [] [] q h i = absurd i
call_back [] (y ∷ qs) q h i = absurd h
call_back (x ∷ rs) [] q h i = absurd h
call_back (x ∷ rs) (y ∷ qs) q h (inl e) = (x, inl refl, h.0 ∙ ap (λ (z : CallCard). z.nets) (sym e), h.1 ∙ ap (λ (z : CallCard). z.circuit) (sym e))
call_back (x ∷ rs) (y ∷ qs) q h (inr i) = let b = call_back rs qs q h.2 i in (b.0, inr b.1, b.2, b.3)

lacks_calls : (cs ds : List Circuit) (P Q : CallCard → Bool) → AreSame cs ds → ((r q : CallCard) → r.nets ≡ q.nets → r.circuit ≡ q.circuit → P r ≡ Q q)
    → Lacks (HasCall cs P) → Lacks (HasCall ds Q)
lacks_calls cs ds P Q h each none n (d, i, (q, j, shows, line)) =
    let c = circuit_back cs ds d h i in
    let r = call_back c.0.calls d.calls q c.2.calls j in
    none r.0.line (c.0, c.1, (r.0, r.1, each r.0 q r.2 r.3 ∙ shows, refl))

missing_same : (cs ds : List Circuit) (r q : CallCard) → AreSame cs ds → r.circuit ≡ q.circuit → is_missing cs r ≡ is_missing ds q
missing_same cs ds r q h e = ap (λ (ns : List (List ℕ)). not (has_text ns r.circuit)) (names_same cs ds h) ∙ ap (λ (n : List ℕ). not (has_text (names_of ds) n)) e

other_same : (a b : Option Circuit) (r q : CallCard) → IsSameSome a b → r.nets ≡ q.nets → is_other_than a r ≡ is_other_than b q
other_same None None r q h e = refl
other_same None (Some d) r q h e = absurd h
other_same (Some c) None r q h e = absurd h
other_same (Some c) (Some d) r q h e = ap (λ (ns : List (List ℕ)). not (length ns == length c.pins)) e ∙ ap (λ (ps : List (List ℕ)). not (length q.nets == length ps)) h.pins

count_same : (cs ds : List Circuit) (r q : CallCard) → AreSame cs ds → r.nets ≡ q.nets → r.circuit ≡ q.circuit → is_other_count cs r ≡ is_other_count ds q
count_same cs ds r q h e f =
    let k : ℕ = called_in (names_of ds) q in
    let at : called_in (names_of cs) r ≡ k = ap (λ (ns : List (List ℕ)). place_of ns r.circuit) (names_same cs ds h) ∙ ap (λ (n : List ℕ). place_of (names_of ds) n) f in
    ap (λ (j : ℕ). is_other_than (slice_get cs j) r) at ∙ other_same (slice_get cs k) (slice_get ds k) r q (at_same k cs ds h) e

-- ---- the global names that circuits need

pin_same : (g : List ℕ) (a b : Option Circuit) → IsSameSome a b → pin_in g a ≡ pin_in g b
pin_same g None None h = refl
pin_same g None (Some d) h = absurd h
pin_same g (Some c) None h = absurd h
pin_same g (Some c) (Some d) h = ap (λ (ps : List (List ℕ)). has_text ps g) h.pins

flat_same : (rs qs : List CallCard) → AreSameCalls rs qs → flat_map call_nets rs ≡ flat_map call_nets qs
flat_same [] [] h = refl
flat_same [] (q ∷ qs) h = absurd h
flat_same (r ∷ rs) [] h = absurd h
flat_same (r ∷ rs) (q ∷ qs) h = ap (λ (ns : List (List ℕ)). ns ++ flat_map call_nets rs) h.0 ∙ ap (λ (ns : List (List ℕ)). q.nets ++ ns) (flat_same rs qs h.2)

used_same : (g : List ℕ) (a b : Option Circuit) → IsSameSome a b → used_in g a ≡ used_in g b
used_same g None None h = refl
used_same g None (Some d) h = absurd h
used_same g (Some c) None h = absurd h
used_same g (Some c) (Some d) h =
    ap (λ (ds : List DeviceCard). has_text (flat_map device_nets ds ++ flat_map call_nets c.calls) g) h.devices
    ∙ ap (λ (ns : List (List ℕ)). has_text (flat_map device_nets d.devices ++ ns) g) (flat_same c.calls d.calls h.calls)

chain_on : {A : Type 0} (R S : A → A → Type 0) → ((a b : A) → R a b → S a b) → (via : List A) (a b : A) → IsChain R a via b → IsChain S a via b
chain_on R S each [] a b h = h
chain_on R S each (x ∷ via) a b h = (each a x h.0, chain_on R S each via x b h.1)

needs_on : (cs ds : List Circuit) (g : List ℕ) (k : ℕ) → AreSame cs ds → Needs cs g k → Needs ds g k
needs_on cs ds g k h n =
    let pins : (j : ℕ) → is_pin ds g j ≡ is_pin cs g j = λ j. sym (pin_same g (slice_get cs j) (slice_get ds j) (at_same j cs ds h)) in
    let lists = lists_same cs ds h in
    record {
      via = n.via;
      end = n.end;
      chain = chain_on (Passes cs g) (Passes ds g) (λ a b p. (pins a ∙ p.0, subst (λ (ls : List (List ℕ)). Calls ls a b) lists p.1)) n.via k n.end n.chain;
      listed = pins n.end ∙ n.listed;
      used = sym (used_same g (slice_get cs n.end) (slice_get ds n.end) (at_same n.end cs ds h)) ∙ n.used;
    }

picks_on : (P Q : List ℕ → Type 0) → ((g : List ℕ) → P g → Q g) → ((g : List ℕ) → Q g → P g) → (gs picked : List (List ℕ)) → Picks P gs picked → Picks Q gs picked
picks_on P Q on back [] picked h = h
picks_on P Q on back (g ∷ gs) picked (inl (p, rest, e, more)) = inl (on g p, rest, e, picks_on P Q on back gs rest more)
picks_on P Q on back (g ∷ gs) picked (inr (lacks, more)) = inr (λ q. lacks (back g q), picks_on P Q on back gs picked more)

-- ---- the circuits

called_nets : (names : List (List ℕ)) (needed : ℕ → List (List ℕ)) (r q : CallCard) → r.nets ≡ q.nets → r.circuit ≡ q.circuit → call_names names needed r ≡ call_names names needed q
called_nets names needed r q e f = ap (λ (ns : List (List ℕ)). ns ++ needed (called_in names r)) e ∙ ap (λ (n : List ℕ). q.nets ++ needed (place_of names n)) f

flat_called : (names : List (List ℕ)) (needed : ℕ → List (List ℕ)) (rs qs : List CallCard) → AreSameCalls rs qs → flat_map (call_names names needed) rs ≡ flat_map (call_names names needed) qs
flat_called names needed [] [] h = refl
flat_called names needed [] (q ∷ qs) h = absurd h
flat_called names needed (r ∷ rs) [] h = absurd h
flat_called names needed (r ∷ rs) (q ∷ qs) h =
    ap (λ (ns : List (List ℕ)). ns ++ flat_map (call_names names needed) rs) (called_nets names needed r q h.0 h.1) ∙ ap (λ (ns : List (List ℕ)). call_names names needed q ++ ns) (flat_called names needed rs qs h.2)

row_called : (circuit : ℕ) (nets : List (List ℕ)) (names : List (List ℕ)) → plain.CallRow
row_called circuit nets names = record { circuit = circuit; nets = map (place_of nets) names }

rows_called : (names : List (List ℕ)) (needed : ℕ → List (List ℕ)) (nets : List (List ℕ)) (rs qs : List CallCard) → AreSameCalls rs qs → map (call_row names needed nets) rs ≡ map (call_row names needed nets) qs
rows_called names needed nets [] [] h = refl
rows_called names needed nets [] (q ∷ qs) h = absurd h
rows_called names needed nets (r ∷ rs) [] h = absurd h
rows_called names needed nets (r ∷ rs) (q ∷ qs) h =
    let mk : ℕ → List (List ℕ) → plain.CallRow = λ k ns. record { circuit = k; nets = map (place_of nets) ns } in
    ap (λ (n : List ℕ). mk (place_of names n) (call_names names needed r) ∷ map (call_row names needed nets) rs) h.1
    ∙ ap (λ (ns : List (List ℕ)). mk (called_in names q) ns ∷ map (call_row names needed nets) rs) (called_nets names needed r q h.0 h.1)
    ∙ ap (λ (xs : List plain.CallRow). call_row names needed nets q ∷ xs) (rows_called names needed nets rs qs h.2)

nets_same : (names : List (List ℕ)) (needed : ℕ → List (List ℕ)) (k : ℕ) (c d : Circuit) → IsSame c d → net_names names needed k c ≡ net_names names needed k d
nets_same names needed k c d h =
    ap (λ (ps : List (List ℕ)). first_seen [] (ps ++ (needed k ++ (flat_map device_nets c.devices ++ flat_map (call_names names needed) c.calls)))) h.pins
    ∙ ap (λ (xs : List DeviceCard). first_seen [] (d.pins ++ (needed k ++ (flat_map device_nets xs ++ flat_map (call_names names needed) c.calls)))) h.devices
    ∙ ap (λ (ns : List (List ℕ)). first_seen [] (d.pins ++ (needed k ++ (flat_map device_nets d.devices ++ ns)))) (flat_called names needed c.calls d.calls h.calls)

circuit_same : (names : List (List ℕ)) (needed : ℕ → List (List ℕ)) (k : ℕ) (c d : Circuit) → IsSame c d → circuit_row names needed k c ≡ circuit_row names needed k d
circuit_same names needed k c d h =
    let nets : List (List ℕ) = net_names names needed k d in
    let mk : List ℕ → List (List ℕ) → List DeviceCard → List plain.CallRow → plain.Circuit =
    λ name pins devices calls. record { name = name; nets = nets; pins = map (place_of nets) (pins ++ needed k); devices = map (device_row nets) devices; calls = calls } in
    ap (λ (ns : List (List ℕ)). row_over names needed k c ns) (nets_same names needed k c d h)
    ∙ ap (λ (name : List ℕ). mk name c.pins c.devices (map (call_row names needed nets) c.calls)) h.name
    ∙ ap (λ (pins : List (List ℕ)). mk d.name pins c.devices (map (call_row names needed nets) c.calls)) h.pins
    ∙ ap (λ (devices : List DeviceCard). mk d.name d.pins devices (map (call_row names needed nets) c.calls)) h.devices
    ∙ ap (λ (calls : List plain.CallRow). mk d.name d.pins d.devices calls) (rows_called names needed nets c.calls d.calls h.calls)

rows_same : (names : List (List ℕ)) (needed : ℕ → List (List ℕ)) (k : ℕ) (cs ds : List Circuit) → AreSame cs ds → rows_from names needed k cs ≡ rows_from names needed k ds
rows_same names needed k [] [] h = refl
rows_same names needed k [] (d ∷ ds) h = absurd h
rows_same names needed k (c ∷ cs) [] h = absurd h
rows_same names needed k (c ∷ cs) (d ∷ ds) h =
    ap (λ (x : plain.Circuit). x ∷ rows_from names needed (k + 1) cs) (circuit_same names needed k c d h.0) ∙ ap (λ (xs : List plain.Circuit). circuit_row names needed k d ∷ xs) (rows_same names needed (k + 1) cs ds h.1)

netlist_same : (cs ds : List Circuit) (gs hs : List (List ℕ)) (n : plain.Netlist) → AreSame cs ds → gs ≡ hs → IsNetlistOf cs gs n → IsNetlistOf ds hs n
netlist_same cs ds gs hs n h e is =
    record {
      needed = is.needed;
      needs = λ k lt. picks_on (λ g. Needs cs g k) (λ g. Needs ds g k) (λ g x. needs_on cs ds g k h x) (λ g x. needs_on ds cs g k (same_back cs ds h) x) (first_seen [] hs) (is.needed k)
          (subst (λ (xs : List (List ℕ)). Picks (λ g. Needs cs g k) (first_seen [] xs) (is.needed k)) e (is.needs k (subst (λ (m : ℕ). k < m) (sym (long_same cs ds h)) lt)));
      rows = is.rows ∙ ap (λ (ns : List (List ℕ)). rows_from ns is.needed 0 cs) (names_same cs ds h) ∙ rows_same (names_of ds) is.needed 0 cs ds h;
    }

-- ---- the whole text

none_open : (a b : Option Circuit) → IsSameSome a b → a ≡ None → b ≡ None
none_open None None h e = refl
none_open None (Some d) h e = absurd h
none_open (Some c) None h e = refl
none_open (Some c) (Some d) h e = absurd (let f : Some c ≡ None = e in let z : ⊥ = cc in z)

read_by : (o : Option ℕ) (r : Result Cards SpiceFault) (x : Cards) → early_or o r ≡ Ok x → r ≡ Ok x
read_by None r x h = h
read_by (Some line) r x h = absurd (let z : ⊥ = cc in z)

none_same : AreSameCards no_cards no_cards
none_same = record { circuits = tt; open_one = tt; outside = tt; globals = refl }

pub same_meaning : (limit : Option Limits) (text other : List ℕ) (n : plain.Netlist) → early_more other ≡ None → tokens_in (cards_of other) ≡ saying (cards_of text) → EndsLast (cards_of text)
    → Means limit text n → Means limit other n
same_meaning limit text other n early said last m =
    let x : Cards = m.cards in
    let r = reads_same limit (cards_of text) (cards_of other) no_cards no_cards x none_same last said (read_by (early_more text) (reading limit no_cards (cards_of text)) x m.read) in
    let y : Cards = r.cards in
    let cs : List Circuit = all_of x in
    let ds : List Circuit = all_of y in
    let same : AreSame cs ds = same_closed x.circuits y.circuits x.outside y.outside r.same.circuits r.same.outside in
    record {
      cards = y;
      read = ap (λ (o : Option ℕ). early_or o (reading limit no_cards (cards_of other))) early ∙ r.read;
      ended = none_open x.open_one y.open_one r.same.open_one m.ended;
      one = λ k h. m.one k (second_back cs ds k same h);
      called = lacks_calls cs ds (is_missing cs) (is_missing ds) same (λ a b e f. missing_same cs ds a b same f) m.called;
      counts = lacks_calls cs ds (is_other_count cs) (is_other_count ds) same (λ a b e f. count_same cs ds a b same e f) m.counts;
      cycles = λ k h. m.cycles k (subst (λ (ls : List (List ℕ)). ReachesItself ls k) (sym (lists_same cs ds same)) h);
      netlist = netlist_same cs ds x.globals y.globals n same r.same.globals m.netlist;
    }
