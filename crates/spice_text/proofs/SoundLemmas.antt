-- The netlist of ordered circuits is sound.
use Rattle.std.proofs.Common.{◌≡◌, inl, inr, ℕ, zero, suc, ◌+◌, ◌<◌, ◌≤◌, ◌==◌, Bool, true, false, not, List, [], ◌∷◌, ◌++◌, map, take, length, Option, Some, None, refl, sym, subst, ap, ◌∙◌, arith, true≢false}
use Rattle.base_laws.proofs.Items.{item_at, map_from}
use Rattle.std.proofs.lemmas.Bool.{or_right, cases_Bool, or_parts}
use Rattle.std.specs.Prelude.{slice_get, nat_lt}
use Rattle.std.specs.Str.{bytes_eq}
use Rattle.std.proofs.Math.Decide.{ℕ_discrete}
use Rattle.std.proofs.lemmas.Bool.Decides.{Decides-eqb}
use Rattle.std.proofs.lemmas.List.{length-map, length-append}
use Rattle.std.proofs.lemmas.Slice.Eq.{bytes_eq-Decides}
use Rattle.text_table.specs.Texts.{has_text, place_of}
use Rattle.call_order.specs.Order.{ReachesItself}
use Rattle.plain_netlist.specs.Lists.{AreApart}
use Rattle.plain_netlist.specs.Netlist as plain
use Rattle.plain_netlist.specs.Normal as normal
use Rattle.plain_netlist.specs.Sound as sound
use Rattle.plain_netlist.proofs.Faults.{nets_there}
use Rattle.plain_netlist.proofs.Numbered.{below_total}
use Rattle.net_model.specs.Faults as model
use Rattle.spice_rows.specs.Rows.{CallCard}
use Rattle.spice_text.specs.Gather.{Circuit}
use Rattle.spice_text.specs.Circuits.{names_of, called_in, call_lists}
use Rattle.spice_text.specs.Faults.{IsSecond, HasCall, is_missing, is_other_count, is_other_than, Lacks}
use Rattle.spice_text.specs.Needs.{first_seen}
use Rattle.spice_text.specs.Means.{appearances, net_names, call_row, circuit_row, rows_from}
use Rattle.spice_text.proofs.CallLemmas.{place_lt, is_there}
use Rattle.spice_text.proofs.NeedLemmas.{once, last_or, get_listed}
use Rattle.spice_text.proofs.NormalLemmas.{row_of, all_numbered}

-- ---- names of circuits

names_has : (cs : List Circuit) (c b : ℕ) (x : Circuit) → b < c → slice_get cs b ≡ Some x → has_text (names_of (take c cs)) x.name ≡ true
names_has [] c b x l e = let z : ⊥ = cc in absurd z
names_has (y ∷ ys) zero b x l e = absurd (omega arith)
names_has (y ∷ ys) (suc c) zero x l e =
    let s : x ≡ y = cc in
    let t : bytes_eq x.name y.name ≡ true = (bytes_eq-Decides x.name y.name).1 (ap (λ (z : Circuit). z.name) s) in
    rw t refl
names_has (y ∷ ys) (suc c) (suc b) x l e = or_right (bytes_eq x.name y.name) (has_text (names_of (take c ys)) x.name) (names_has ys c b x (omega arith) e)

second : (cs : List Circuit) (b c : ℕ) (x y : Circuit) → b < c → slice_get cs b ≡ Some x → slice_get cs c ≡ Some y → x.name ≡ y.name → IsSecond cs c
second cs b c x y l hx hy e = (y, hy, subst (λ (n : List ℕ). has_text (names_of (take c cs)) n ≡ true) e (names_has cs c b x l hx))

one_place : (b c : ℕ) → (b < c → ⊥) → (c < b → ⊥) → b ≡ c
one_place b c f g = elim (ℕ_discrete b c) [
  | yes e ↦ e
  | no ne ↦ elim (cases_Bool (nat_lt b c)) [
    | inl t ↦ absurd (f (grind (arith, t)))
    | inr n ↦ let l : c ≤ b = grind (arith, n) in absurd (g (elim (cases_Bool (nat_lt c b)) [ inl t ↦ (let q : c < b = grind (arith, t) in q) | inr m ↦ (let q : b ≤ c = grind (arith, m) in absurd (ne (omega arith))) ]))
  ]
]

-- ---- names of nets

snoc_apart : (xs : List (List ℕ)) (n : List ℕ) → AreApart xs → has_text xs n ≡ false → AreApart (xs ++ n ∷ [])
snoc_apart [] n a f = ((λ h. h), a)
snoc_apart (x ∷ xs) n a f =
    let s = or_parts (bytes_eq n x) (has_text xs n) f in
    ((λ h. elim (last_or xs x n h) [ inl l ↦ a.0 l | inr e ↦ true≢false (sym ((bytes_eq-Decides n x).1 (sym e)) ∙ s.0) ]), snoc_apart xs n a.1 s.1)

pub seen_apart : (seen ns : List (List ℕ)) → AreApart seen → AreApart (first_seen seen ns)
seen_apart seen [] a = a
seen_apart seen (n ∷ ns) a = elim (cases_Bool (has_text seen n)) [
  | inl t ↦ rw t (seen_apart seen ns a)
  | inr f ↦ rw f (seen_apart (seen ++ n ∷ []) ns (snoc_apart seen n a f))
]

-- ---- calls

row_back : (names : List (List ℕ)) (needed : ℕ → List (List ℕ)) (m i n : ℕ) (cs : List Circuit) (c : Circuit) → n ≡ m + i → slice_get cs i ≡ Some c
    → slice_get (rows_from names needed m cs) i ≡ Some (circuit_row names needed n c)
row_back names needed m i n [] c e h = let z : ⊥ = cc in absurd z
row_back names needed m zero n (x ∷ xs) c e h =
    let s : x ≡ c = cc in let q : m ≡ n = omega arith in
    ap (λ (y : Circuit). let o : Option plain.Circuit = Some (circuit_row names needed m y) in o) s ∙ ap (λ (k : ℕ). let o : Option plain.Circuit = Some (circuit_row names needed k c) in o) q
row_back names needed m (suc i) n (x ∷ xs) c e h = row_back names needed (m + 1) i n xs c (omega arith) h

circuits_same : (names : List (List ℕ)) (needed : ℕ → List (List ℕ)) (nets : List (List ℕ)) (rs : List CallCard) → map (λ (r : plain.CallRow). r.circuit) (map (call_row names needed nets) rs) ≡ map (called_in names) rs
circuits_same names needed nets [] = refl
circuits_same names needed nets (r ∷ rs) = ap (λ (ks : List ℕ). called_in names r ∷ ks) (circuits_same names needed nets rs)

lists_same : (names : List (List ℕ)) (needed : ℕ → List (List ℕ)) (m : ℕ) (cs : List Circuit) → map model.called_by (rows_from names needed m cs) ≡ map (λ (c : Circuit). map (called_in names) c.calls) cs
lists_same names needed m [] = refl
lists_same names needed m (c ∷ cs) =
    ap (λ (ks : List ℕ). ks ∷ map model.called_by (rows_from names needed (m + 1) cs)) (circuits_same names needed (net_names names needed m c) c.calls)
    ∙ ap (λ (rows : List (List ℕ)). map (called_in names) c.calls ∷ rows) (lists_same names needed (m + 1) cs)

counts_fit : (o : Option Circuit) (e : Circuit) (r : CallCard) → o ≡ Some e → is_other_than o r ≡ false → length r.nets ≡ length e.pins
counts_fit None e r s f = let z : ⊥ = cc in absurd z
counts_fit (Some d) e r s f =
    let same : d ≡ e = cc in
    elim (cases_Bool (length r.nets == length d.pins)) [
      | inl t ↦ (Decides-eqb (length r.nets) (length d.pins)).0 t ∙ ap (λ (c : Circuit). length c.pins) same
      | inr n ↦ absurd (true≢false (sym (ap (λ (b : Bool). not b) n) ∙ f))
    ]

nets_len : (f g : List ℕ → ℕ) (xs ys zs : List (List ℕ)) → length xs ≡ length ys → length (map f (xs ++ zs)) ≡ length (map g (ys ++ zs))
nets_len f g xs ys zs e =
    let a = length-map (xs ++ zs) f in let b = length-map (ys ++ zs) g in let c = length-append xs zs in let d = length-append ys zs in omega arith

pub sound_is : (cs : List Circuit) (needed : ℕ → List (List ℕ)) (n : plain.Netlist) → Lacks (IsSecond cs) → Lacks (HasCall cs (is_missing cs)) → Lacks (HasCall cs (is_other_count cs)) → Lacks (ReachesItself (call_lists cs))
    → model.CallListsLaw → n.circuits ≡ rows_from (names_of cs) needed 0 cs → sound.IsSoundNetlist n
sound_is cs needed n one called counts cycles law e = record {
  names = λ b c x y hx hy same.
      let p = at b x hx in let q = at c y hy in
      let s : p.0.name ≡ q.0.name = sym (ap (λ (z : plain.Circuit). z.name) p.2) ∙ same ∙ ap (λ (z : plain.Circuit). z.name) q.2 in
      one_place b c (λ l. one c (second cs b c p.0 q.0 l p.1 q.1 s)) (λ l. one b (second cs c b q.0 p.0 l q.1 p.1 (sym s)));
  net_names = λ c a b x name hx ha hb.
      let p = at c x hx in
      let apart : AreApart x.nets = subst (λ (z : plain.Circuit). AreApart z.nets) (sym p.2) (seen_apart [] (appearances (names_of cs) needed c p.0) (record {})) in
      one_place a b (λ l. once x.nets b a name apart hb ha l) (λ l. once x.nets a b name apart ha hb l);
  nets = nets_there n (λ c m x is h. below_total (length x.nets) 0 (normal.appearances x) (all_numbered (names_of cs) needed cs n e c x is) m h);
  calls = λ c k row h. fits c k row h.0 h.1 h.2;
  no_cycle = λ c h. cycles c (subst (λ (rows : List (List ℕ)). ReachesItself rows c) (ap (λ (xs : List plain.Circuit). map model.called_by xs) e ∙ lists_same (names_of cs) needed 0 cs) ((law.cycles n c).1 h));
}
  where
    at : (k : ℕ) (x : plain.Circuit) → plain.IsCircuit n k x → (c : Circuit) × (slice_get cs k ≡ Some c) × (x ≡ circuit_row (names_of cs) needed k c)
    at k x h = row_of (names_of cs) needed 0 k k cs x (omega arith) (sym (ap (λ (xs : List plain.Circuit). slice_get xs k) e) ∙ h)

    fits : (c k : ℕ) (row : plain.CallRow) (x : plain.Circuit) → plain.IsCircuit n c x → slice_get x.calls k ≡ Some row
        → (d : plain.Circuit) × plain.IsCircuit n row.circuit d × (length row.nets ≡ length d.pins)
    fits c k row x hx hr =
        let p = at c x hx in
        let nets = net_names (names_of cs) needed c p.0 in
        let m = map_from (call_row (names_of cs) needed nets) p.0.calls k row (sym (ap (λ (z : plain.Circuit). slice_get z.calls k) p.2) ∙ hr) in
        let in_cs = get_listed cs c p.0 p.1 in
        let in_calls = get_listed p.0.calls k m.0 m.1 in
        let number = called_in (names_of cs) m.0 in
        let less = place_lt (bytes_eq m.0.circuit) (names_of cs) (is_there cs p.0 m.0 called in_cs in_calls) in
        let len = length-map cs (λ (z : Circuit). z.name) in
        let d = item_at cs number (omega arith) in
        let fit : length m.0.nets ≡ length d.0.pins = elim (cases_Bool (is_other_count cs m.0)) [
          | inl t ↦ absurd (counts m.0.line (p.0, in_cs, (m.0, in_calls, t, refl)))
          | inr f ↦ counts_fit (slice_get cs number) d.0 m.0 d.1 f
        ] in
        let there : plain.IsCircuit n number (circuit_row (names_of cs) needed number d.0) =
        ap (λ (xs : List plain.Circuit). slice_get xs number) e ∙ row_back (names_of cs) needed 0 number number cs d.0 (omega arith) d.1 in
        subst (λ (r : plain.CallRow). (d : plain.Circuit) × plain.IsCircuit n r.circuit d × (length r.nets ≡ length d.pins)) m.2
        (circuit_row (names_of cs) needed number d.0, there, nets_len (place_of nets) (place_of (net_names (names_of cs) needed number d.0)) m.0.nets d.0.pins (needed number) fit)
