-- The names of a circuit's nets, and the names that a row says.
use Rattle.std.proofs.Common.{◌≡◌, inl, inr, ◌↔◌, ℕ, suc, ◌+◌, ◌<◌, ◌≤◌, ◌==◌, true, List, [], ◌∷◌, ◌++◌, map, length, Option, Some, refl, sym, subst, ap, ◌∙◌, arith}
use Rattle.std.proofs.Math.Decide.{ℕ_discrete}
use Rattle.std.proofs.lemmas.Bool.Decides.{Decides-eqb}
use Rattle.std.proofs.lemmas.List.Kept.{AllPairs-from_increasing}
use Rattle.std.proofs.lemmas.Option.{slice_get_within, get_or_from_slice_get}
use Rattle.std.specs.List.{AllPairs}
use Rattle.plain_netlist.specs.Lists.{AreRising, IsListed}
use Rattle.call_order.specs.Order.{lists}
use Rattle.std.specs.Prelude.{flat_map, slice_get, slice_index_or}
use Rattle.spice_rows.specs.Rows.{CallCard}
use Rattle.spice_text.specs.Gather.{Circuit}
use Rattle.spice_text.specs.Circuits.{called_in, names_of}
use Rattle.spice_text.specs.Needs.{first_seen, device_nets, Needs, Picks}
use Rattle.spice_text.specs.Table.{has_number, with_name, picked, needed_of, seen_with_needs, IsRow, IsNeedTable}
use Rattle.spice_text.specs.Means.{call_names, net_names, rows_from, IsNetlistOf}
use Rattle.std.specs.Global.{Vec}
use Rattle.plain_netlist.specs.Netlist as plain
use Rattle.spice_text.specs.declared.gather.CircuitCards.{CircuitCards}
use Rattle.spice_text.specs.Seen.{circuit_seen}
use Rattle.spice_text.proofs.NeedLemmas.{seen_append, listed_at, listed_any, any_listed}

with_needs : (names : List (List ℕ)) (needed : ℕ → List (List ℕ)) (seen : List (List ℕ)) (rs : List CallCard) → seen_with_needs names needed seen rs ≡ first_seen seen (flat_map (call_names names needed) rs)
with_needs names needed seen [] = refl
with_needs names needed seen (r ∷ rs) =
    with_needs names needed (first_seen (first_seen seen r.nets) (needed (called_in names r))) rs
    ∙ ap (λ (s : List (List ℕ)). first_seen s (flat_map (call_names names needed) rs)) (sym (seen_append seen r.nets (needed (called_in names r))))
    ∙ sym (seen_append seen (call_names names needed r) (flat_map (call_names names needed) rs))

pub seen_appearances : (names : List (List ℕ)) (needed : ℕ → List (List ℕ)) (k : ℕ) (c : Circuit)
    → seen_with_needs names needed (first_seen (first_seen (first_seen [] c.pins) (needed k)) (flat_map device_nets c.devices)) c.calls ≡ net_names names needed k c
seen_appearances names needed k c =
    let calls = flat_map (call_names names needed) c.calls in
    let devices = flat_map device_nets c.devices in
    with_needs names needed (first_seen (first_seen (first_seen [] c.pins) (needed k)) devices) c.calls
    ∙ sym (seen_append (first_seen (first_seen [] c.pins) (needed k)) devices calls)
    ∙ sym (seen_append (first_seen [] c.pins) (needed k) (devices ++ calls))
    ∙ sym (seen_append [] c.pins (needed k ++ (devices ++ calls)))

-- ---- the names that a row says

tail_pairs : (x : ℕ) (xs : List ℕ) → AllPairs (λ a b. a < b) (x ∷ xs) → AllPairs (λ a b. a < b) xs
tail_pairs x xs h i j d lt l = h (suc i) (suc j) d (omega arith) (omega arith)

rising_of : (xs : List ℕ) → AllPairs (λ a b. a < b) xs → AreRising ◌<◌ xs
rising_of [] h = record {}
rising_of (x ∷ xs) h = ((λ y l. above y l), rising_of xs (tail_pairs x xs h))
  where
    above : (y : ℕ) → IsListed y xs → x < y
    above y l =
        let at = listed_at xs y l in
        let low = slice_get_within xs at.0 y at.1 in
        subst (λ (z : ℕ). x < z) (get_or_from_slice_get xs at.0 y y at.1) (h 0 (suc at.0) y (omega arith) (omega arith))

listed_has : (row : List ℕ) (j : ℕ) → IsListed j row → has_number row j ≡ true
listed_has row j l = any_listed (λ (i : ℕ). i == j) row j l ((Decides-eqb j j).1 refl)

has_listed : (row : List ℕ) (j : ℕ) → has_number row j ≡ true → IsListed j row
has_listed row j h = let r = listed_any (λ (i : ℕ). i == j) row h in subst (λ (i : ℕ). IsListed i row) ((Decides-eqb r.0 j).0 r.2) r.1

-- rising numbers of names from m on say those with P
picks_from : (P : List ℕ → Type 0) (globals gs : List (List ℕ)) (m : ℕ) (row : List ℕ) → AreRising ◌<◌ row → ((j : ℕ) → IsListed j row → m ≤ j) → ((j : ℕ) → IsListed j row → j < m + length gs)
    → ((i : ℕ) → slice_get globals (m + i) ≡ slice_get gs i) → ((i : ℕ) (g : List ℕ) → slice_get gs i ≡ Some g → IsListed (m + i) row ↔ P g) → Picks P gs (picked row globals)
picks_from P globals [] m [] r low up at says = refl
picks_from P globals [] m (j ∷ js) r low up at says = let a = low j (inl refl) in let b = up j (inl refl) in absurd (omega arith)
picks_from P globals (g ∷ gs) m [] r low up at says =
    inr (
      (λ p. (says 0 g refl).1 p),
      picks_from P globals gs (m + 1) [] r (λ j h. absurd h) (λ j h. absurd h) (λ i. let e : (m + 1) + i ≡ m + suc i = omega arith in ap (λ (k : ℕ). slice_get globals k) e ∙ at (suc i))
          (λ i x e. ((λ h. absurd h), (λ p. (says (suc i) x e).1 p))),
    )
picks_from P globals (g ∷ gs) m (j ∷ js) r low up at says = elim (ℕ_discrete j m) [
  | yes e ↦
      inl (
        (says 0 g refl).0 (inl (let z : m + 0 ≡ j = omega arith in z)),
        picked js globals,
        ap (λ (o : Option (List ℕ)). with_name o (picked js globals)) ((let z : j ≡ m + 0 = omega arith in ap (λ (k : ℕ). slice_get globals k) z) ∙ at 0),
        picks_from P globals gs (m + 1) js r.1 (λ i h. let l = r.0 i h in omega arith) (λ i h. let l = up i (inr h) in omega arith) further
            (λ i x is. (
              (λ h. (says (suc i) x is).0 (inr (subst (λ (k : ℕ). IsListed k js) (next i) h))),
              (λ p. elim ((says (suc i) x is).1 p) [ inl same ↦ absurd (omega arith) | inr h ↦ subst (λ (k : ℕ). IsListed k js) (sym (next i)) h ]),
            )),
      )
  | no ne ↦
      inr (
        (λ p. elim ((says 0 g refl).1 p) [ inl same ↦ (let z : j ≡ m = omega arith in ne z) | inr h ↦ (let a = r.0 (m + 0) h in let b = low j (inl refl) in absurd (omega arith)) ]),
        picks_from P globals gs (m + 1) (j ∷ js) r
            (λ i h. let b = low j (inl refl) in elim h [ inl same ↦ (let z : m < j = omega arith in omega arith) | inr l ↦ (let a = r.0 i l in omega arith) ])
            (λ i h. let l = up i h in omega arith)
            further
            (λ i x is. (
              (λ h. (says (suc i) x is).0 (subst (λ (k : ℕ). IsListed k (j ∷ js)) (next i) h)),
              (λ p. subst (λ (k : ℕ). IsListed k (j ∷ js)) (sym (next i)) ((says (suc i) x is).1 p)),
            )),
      )
]
  where
    next : (i : ℕ) → (m + 1) + i ≡ m + suc i
    next i = omega arith

    further : (i : ℕ) → slice_get globals ((m + 1) + i) ≡ slice_get gs i
    further i = ap (λ (k : ℕ). slice_get globals k) (next i) ∙ at (suc i)

picks : (P : List ℕ → Type 0) (globals : List (List ℕ)) (row : List ℕ) → IsRow globals row → ((j : ℕ) (g : List ℕ) → slice_get globals j ≡ Some g → (has_number row j ≡ true) ↔ P g) → Picks P globals (picked row globals)
picks P globals row n h =
    picks_from P globals globals 0 row (rising_of row (AllPairs-from_increasing row n.rising)) (λ j l. omega arith) (λ j l. let u = n.within j (listed_has row j l) in omega arith)
    (λ i. ap (λ (k : ℕ). slice_get globals k) (zero_more i))
    (λ i g is. (
      (λ l. (h i g is).0 (listed_has row i (subst (λ (k : ℕ). IsListed k row) (zero_more i) l))),
      (λ p. subst (λ (k : ℕ). IsListed k row) (sym (zero_more i)) (has_listed row i ((h i g is).1 p))),
    ))
  where
    zero_more : (i : ℕ) → 0 + i ≡ i
    zero_more i = omega arith

pub table_picks : (cs : List Circuit) (globals : List (List ℕ)) (rows : List (List ℕ)) → IsNeedTable cs globals rows
    → (k : ℕ) → k < length cs → Picks (λ g. Needs cs g k) globals (needed_of rows globals k)
table_picks cs globals rows t k l = picks (λ g. Needs cs g k) globals (slice_index_or rows k []) (t.numbers k l) (λ j g e. t.each k j g l e)

pub netlist_is : (circuits d2 d8 : List CircuitCards) (source d1 g d5 d7 names : List (List ℕ)) (rows d6 : List (Vec ℕ)) (n : plain.Netlist) → d2 ≡ circuits → d8 ≡ circuits → d1 ≡ source → g ≡ first_seen [] d1
    → d5 ≡ g → d7 ≡ g → d6 ≡ rows → names ≡ names_of (map circuit_seen circuits) → IsNeedTable (map circuit_seen d2) d5 (lists rows)
    → n.circuits ≡ rows_from names (needed_of (lists d6) d7) 0 (map circuit_seen d8) → IsNetlistOf (map circuit_seen circuits) source n
netlist_is circuits d2 d8 source d1 g d5 d7 names rows d6 n e2 e8 e1 eg e5 e7 e6 en t er =
    let is : g ≡ first_seen [] source = eg ∙ ap (λ (x : List (List ℕ)). first_seen [] x) e1 in
    let t1 = subst (λ (x : List CircuitCards). IsNeedTable (map circuit_seen x) d5 (lists rows)) e2 t in
    let t2 = subst (λ (x : List (List ℕ)). IsNeedTable (map circuit_seen circuits) x (lists rows)) (e5 ∙ is) t1 in
    record {
      needed = needed_of (lists rows) (first_seen [] source);
      needs = table_picks (map circuit_seen circuits) (first_seen [] source) (lists rows) t2;
      rows = er
          ∙ ap (λ (x : List (List ℕ)). rows_from x (needed_of (lists d6) d7) 0 (map circuit_seen d8)) en
          ∙ ap (λ (x : List (Vec ℕ)). rows_from (names_of (map circuit_seen circuits)) (needed_of (lists x) d7) 0 (map circuit_seen d8)) e6
          ∙ ap (λ (x : List (List ℕ)). rows_from (names_of (map circuit_seen circuits)) (needed_of (lists rows) x) 0 (map circuit_seen d8)) (e7 ∙ is)
          ∙ ap (λ (x : List CircuitCards). rows_from (names_of (map circuit_seen circuits)) (needed_of (lists rows) (first_seen [] source)) 0 (map circuit_seen x)) e8;
    }
