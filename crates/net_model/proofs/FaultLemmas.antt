-- Each test of a check finds the first circuit that shows its fault.
use Rattle.std.proofs.Common.{◌≡◌, ◌≢◌, ◌⊎◌, inl, inr, ℕ, zero, suc, ◌+◌, ◌<◌, ◌≤◌, true, false, ◌==◌, ◌||◌, nat_lt, List, [], ◌∷◌, ◌++◌, length, slice_get, Option, Some, None, refl, sym, ap, subst, ◌∙◌, arith, true≢false}
use Rattle.std.proofs.lemmas.Bool.{not-true, cases_Bool, or_left, or_right, or_cases}
use Rattle.std.specs.Prelude.{flat_map}
use Rattle.std.specs.List.{list_any}
use Rattle.std.specs.Str.{bytes_eq}
use Rattle.std.proofs.lemmas.Slice.Eq.{bytes_eq-Decides}
use Rattle.std.proofs.lemmas.List.Folds.{list_any-append}
use Rattle.std.proofs.lemmas.Bool.Decides.{Decides-eqb}
use Rattle.plain_netlist.specs.Lists.{IsListed}
use Rattle.plain_netlist.specs.Netlist.{DeviceRow, CallRow, Circuit, Netlist}
use Rattle.plain_netlist.specs.Devices.{terminal_nets}
use Rattle.plain_netlist.specs.Normal.{appearances}
use Rattle.plain_netlist.specs.Sound.{ShowsFault, NameClash, BadTerminal, NoSuchCircuit, PinCount}
use Rattle.plain_netlist.proofs.Members.{listed, position, in_left, in_right, either_side, in_all, from_all}
use Rattle.text_table.specs.Texts.{has_text}
use Rattle.net_model.specs.Tests.{first_of, has_twins, first_clash, is_out, is_bad_device, is_bad_call, has_bad_terminal, calls_none, is_other_count, has_other_count}
use Rattle.net_model.proofs.FirstLemmas.{FindsAt, finds_from, any_listed, any_has}

-- ---- a net that isn't there

is_past : (count n : ℕ) → is_out count n ≡ true → count ≤ n
is_past count n e = let f = not-true (nat_lt n count) e in grind (arith, f)

past_is : (count n : ℕ) → count ≤ n → is_out count n ≡ true
past_is count n l = elim (cases_Bool (nat_lt n count)) [ inl t ↦ absurd (grind (arith, t, l)) | inr f ↦ rw f refl ]

module _ (x : Circuit) where
  abbrev count : ℕ
  count = length x.nets

  device_has : (d : DeviceRow) → is_bad_device count d ≡ true → (n : ℕ) × IsListed n (terminal_nets d) × (count ≤ n)
  device_has d e = let n = any_has (is_out count) (terminal_nets d) e in (n.0, n.1, is_past count n.0 n.2)

  has_device : (d : DeviceRow) (n : ℕ) → IsListed n (terminal_nets d) → count ≤ n → is_bad_device count d ≡ true
  has_device d n h l = any_listed (is_out count) (terminal_nets d) n h (past_is count n l)

  abbrev on_devices : List ℕ
  on_devices = flat_map (λ (d : DeviceRow). terminal_nets d) x.devices

  abbrev on_calls : List ℕ
  on_calls = flat_map (λ (r : CallRow). r.nets) x.calls

  terminal_has : has_bad_terminal x ≡ true → (n : ℕ) × IsListed n (appearances x) × (count ≤ n)
  terminal_has e = elim (or_cases (list_any (is_out count) x.pins || list_any (is_bad_device count) x.devices) (list_any (is_bad_call count) x.calls) e) [
    | inr c ↦
        let r = any_has (is_bad_call count) x.calls c in
        let n = any_has (is_out count) r.0.nets r.2 in
        (n.0, in_right x.pins (on_devices ++ on_calls) n.0 (in_right on_devices on_calls n.0 (in_all (λ (y : CallRow). y.nets) x.calls r.0 n.0 r.1 n.1)), is_past count n.0 n.2)
    | inl m ↦ elim (or_cases (list_any (is_out count) x.pins) (list_any (is_bad_device count) x.devices) m) [
      | inl p ↦ let n = any_has (is_out count) x.pins p in (n.0, in_left x.pins (on_devices ++ on_calls) n.0 n.1, is_past count n.0 n.2)
      | inr d ↦
          let r = any_has (is_bad_device count) x.devices d in
          let n = device_has r.0 r.2 in
          (n.0, in_right x.pins (on_devices ++ on_calls) n.0 (in_left on_devices on_calls n.0 (in_all (λ (d : DeviceRow). terminal_nets d) x.devices r.0 n.0 r.1 n.1)), n.2)
    ]
  ]

  has_terminal : (n : ℕ) → IsListed n (appearances x) → count ≤ n → has_bad_terminal x ≡ true
  has_terminal n h l = elim (either_side x.pins (on_devices ++ on_calls) n h) [
    | inl p ↦ or_left _ (list_any (is_bad_call count) x.calls) (or_left _ (list_any (is_bad_device count) x.devices) (any_listed (is_out count) x.pins n p (past_is count n l)))
    | inr q ↦ elim (either_side on_devices on_calls n q) [
      | inl d ↦
          let r = from_all (λ (d : DeviceRow). terminal_nets d) x.devices n d in
          or_left _ (list_any (is_bad_call count) x.calls) (or_right (list_any (is_out count) x.pins) _ (any_listed (is_bad_device count) x.devices r.0 r.1 (has_device r.0 n r.2 l)))
      | inr c ↦
          let r = from_all (λ (y : CallRow). y.nets) x.calls n c in
          or_right (list_any (is_out count) x.pins || list_any (is_bad_device count) x.devices) _
          (any_listed (is_bad_call count) x.calls r.0 r.1 (any_listed (is_out count) r.0.nets n r.2 (past_is count n l)))
    ]
  ]

module _ (nl : Netlist) where
  pub terminals : FindsAt 0 (ShowsFault nl BadTerminal) (first_of has_bad_terminal nl.circuits)
  terminals = finds_from has_bad_terminal nl.circuits 0 (ShowsFault nl BadTerminal)
      (λ i x is t. let r = terminal_has x t in (x, r.0, is, r.1, r.2))
      (λ i (x, n, is, h, l). (x, is, has_terminal x n h l))

  -- ---- a call of no circuit

  pub missing : FindsAt 0 (ShowsFault nl NoSuchCircuit) (first_of (calls_none (length nl.circuits)) nl.circuits)
  missing = finds_from (calls_none (length nl.circuits)) nl.circuits 0 (ShowsFault nl NoSuchCircuit)
      (λ i x is t.
      let r = any_has (λ (y : CallRow). is_out (length nl.circuits) y.circuit) x.calls t in
      let k = position x.calls r.0 r.1 in
      (k.0, r.0, (x, is, k.1), is_past (length nl.circuits) r.0.circuit r.2))
      (λ i (k, row, (x, is, e), l).
      (x, is, any_listed (λ (y : CallRow). is_out (length nl.circuits) y.circuit) x.calls row (listed x.calls k row e) (past_is (length nl.circuits) row.circuit l)))

  -- ---- a call with another number of nets

  other_by : (o : Option Circuit) (row : CallRow) → is_other_count o row ≡ true → (d : Circuit) × (o ≡ Some d) × (length row.nets ≢ length d.pins)
  other_by None row t = let z : ⊥ = cc in absurd z
  other_by (Some d) row t = (d, refl, λ same. true≢false (sym ((Decides-eqb (length row.nets) (length d.pins)).1 same) ∙ not-true (length row.nets == length d.pins) t))

  by_other : (o : Option Circuit) (row : CallRow) (d : Circuit) → o ≡ Some d → length row.nets ≢ length d.pins → is_other_count o row ≡ true
  by_other o row d e ne = elim (cases_Bool (length row.nets == length d.pins)) [
    | inl same ↦ absurd (ne ((Decides-eqb (length row.nets) (length d.pins)).0 same))
    | inr f ↦ rw e (rw f refl)
  ]

  pub counts : FindsAt 0 (ShowsFault nl PinCount) (first_of (has_other_count nl.circuits) nl.circuits)
  counts = finds_from (has_other_count nl.circuits) nl.circuits 0 (ShowsFault nl PinCount)
      (λ i x is t.
      let r = any_has (λ (y : CallRow). is_other_count (slice_get nl.circuits y.circuit) y) x.calls t in
      let k = position x.calls r.0 r.1 in
      let d = other_by (slice_get nl.circuits r.0.circuit) r.0 r.2 in
      (k.0, r.0, d.0, (x, is, k.1), d.1, d.2))
      (λ i (k, row, d, (x, is, e), there, ne).
      (x, is, any_listed (λ (y : CallRow). is_other_count (slice_get nl.circuits y.circuit) y) x.calls row (listed x.calls k row e) (by_other (slice_get nl.circuits row.circuit) row d there ne)))

-- ---- names

one_more : (seen : List (List ℕ)) (m n : List ℕ) → has_text (seen ++ m ∷ []) n ≡ true → (has_text seen n ≡ true) ⊎ (m ≡ n)
one_more seen m n t = elim (or_cases (has_text seen n) (list_any (bytes_eq n) (m ∷ [])) (sym (list_any-append (bytes_eq n) seen (m ∷ [])) ∙ t)) [
  | inl old ↦ inl old
  | inr new ↦ elim (or_cases (bytes_eq n m) false new) [ inl e ↦ inr (sym ((bytes_eq-Decides n m).0 e)) | inr f ↦ let z : ⊥ = cc in absurd z ]
]

still : (seen : List (List ℕ)) (m n : List ℕ) → (has_text seen n ≡ true) ⊎ (m ≡ n) → has_text (seen ++ m ∷ []) n ≡ true
still seen m n (inl old) = list_any-append (bytes_eq n) seen (m ∷ []) ∙ or_left (has_text seen n) (list_any (bytes_eq n) (m ∷ [])) old
still seen m n (inr e) = list_any-append (bytes_eq n) seen (m ∷ []) ∙ or_right (has_text seen n) _ (or_left (bytes_eq n m) false ((bytes_eq-Decides n m).1 (sym e)))

-- a name that stands twice, or among those seen before
data Twins (seen names : List (List ℕ)) : Type 0 where
  Old : (b : ℕ) (n : List ℕ) → slice_get names b ≡ Some n → has_text seen n ≡ true → Twins seen names
  Both : (a b : ℕ) (n : List ℕ) → a < b → slice_get names a ≡ Some n → slice_get names b ≡ Some n → Twins seen names

has_both : (seen names : List (List ℕ)) → has_twins seen names ≡ true → Twins seen names
has_both seen [] t = let z : ⊥ = cc in absurd z
has_both seen (m ∷ names) t = elim (or_cases (has_text seen m) (has_twins (seen ++ m ∷ []) names) t) [
  | inl old ↦ Old 0 m refl old
  | inr rest ↦ elim (has_both (seen ++ m ∷ []) names rest) [
    | Old b n is h ↦ elim (one_more seen m n h) [ inl old ↦ Old (suc b) n is old | inr e ↦ Both 0 (suc b) n (omega arith) (ap Some e) is ]
    | Both a b n l is is' ↦ Both (suc a) (suc b) n (omega arith) is is'
  ]
]

old_has : (seen names : List (List ℕ)) (b : ℕ) (n : List ℕ) → slice_get names b ≡ Some n → has_text seen n ≡ true → has_twins seen names ≡ true
old_has seen [] b n is h = let z : ⊥ = cc in absurd z
old_has seen (m ∷ names) zero n is h = let same : n ≡ m = cc in or_left (has_text seen m) _ (subst (λ k. has_text seen k ≡ true) same h)
old_has seen (m ∷ names) (suc b) n is h = or_right (has_text seen m) _ (old_has (seen ++ m ∷ []) names b n is (still seen m n (inl h)))

both_has : (seen names : List (List ℕ)) (a b : ℕ) (n : List ℕ) → a < b → slice_get names a ≡ Some n → slice_get names b ≡ Some n → has_twins seen names ≡ true
both_has seen [] a b n l is is' = let z : ⊥ = cc in absurd z
both_has seen (m ∷ names) a zero n l is is' = absurd (omega arith)
both_has seen (m ∷ names) zero (suc b) n l is is' =
    let same : m ≡ n = cc in or_right (has_text seen m) _ (old_has (seen ++ m ∷ []) names b n is' (still seen m n (inr same)))
both_has seen (m ∷ names) (suc a) (suc b) n l is is' = or_right (has_text seen m) _ (both_has (seen ++ m ∷ []) names a b n (omega arith) is is')

-- circuit i clashes: its name was seen before, or stands before it, or two of its nets have one name
data Clashes (seen : List (List ℕ)) (cs : List Circuit) (i : ℕ) : Type 0 where
  Seen : (x : Circuit) → slice_get cs i ≡ Some x → has_text seen x.name ≡ true → Clashes seen cs i
  Before : (b : ℕ) (x y : Circuit) → b < i → slice_get cs b ≡ Some y → slice_get cs i ≡ Some x → y.name ≡ x.name → Clashes seen cs i
  Nets : (x : Circuit) → slice_get cs i ≡ Some x → has_twins [] x.nets ≡ true → Clashes seen cs i

on_clash : (seen : List (List ℕ)) (c : Circuit) (cs : List Circuit) (i : ℕ) → Clashes (seen ++ c.name ∷ []) cs i → Clashes seen (c ∷ cs) (suc i)
on_clash seen c cs i (Seen x is h) = elim (one_more seen c.name x.name h) [ inl old ↦ Seen x is old | inr e ↦ Before 0 x c (omega arith) refl is e ]
on_clash seen c cs i (Before b x y l is is' e) = Before (suc b) x y (omega arith) is is' e
on_clash seen c cs i (Nets x is h) = Nets x is h

off_clash : (seen : List (List ℕ)) (c : Circuit) (cs : List Circuit) (i : ℕ) → Clashes seen (c ∷ cs) (suc i) → Clashes (seen ++ c.name ∷ []) cs i
off_clash seen c cs i (Seen x is h) = Seen x is (still seen c.name x.name (inl h))
off_clash seen c cs i (Before zero x y l is is' e) = let same : c ≡ y = cc in Seen x is' (still seen c.name x.name (inr (ap (λ (z : Circuit). z.name) same ∙ e)))
off_clash seen c cs i (Before (suc b) x y l is is' e) = Before b x y (omega arith) is is' e
off_clash seen c cs i (Nets x is h) = Nets x is h

first_one : (seen : List (List ℕ)) (c : Circuit) (cs : List Circuit) → Clashes seen (c ∷ cs) 0 → (has_text seen c.name || has_twins [] c.nets) ≡ true
first_one seen c cs (Seen x is h) = let same : c ≡ x = cc in or_left (has_text seen c.name) _ (subst (λ (z : Circuit). has_text seen z.name ≡ true) (sym same) h)
first_one seen c cs (Before b x y l is is' e) = absurd (omega arith)
first_one seen c cs (Nets x is h) = let same : c ≡ x = cc in or_right (has_text seen c.name) _ (subst (λ (z : Circuit). has_twins [] z.nets ≡ true) (sym same) h)

clashes_on : (P Q : ℕ → Type 0) (k : ℕ) (o : Option ℕ) → ((i : ℕ) → P i → Q i) → ((i : ℕ) → Q i → P i) → FindsAt k P o → FindsAt k Q o
clashes_on P Q k None f g h = λ i q. h i (g i q)
clashes_on P Q k (Some m) f g h = (h.0, h.1, f h.0 h.2, λ j l q. h.3 j l (g j q))

later : (k : ℕ) (P : ℕ → Type 0) (o : Option ℕ) → (P 0 → ⊥) → FindsAt (k + 1) (λ i. P (suc i)) o → FindsAt k P o
later k P None none h = λ i p. go i p
  where
    go : (i : ℕ) → P i → ⊥
    go zero p = none p
    go (suc i) p = h i p
later k P (Some m) none h = (suc h.0, (let e = h.1 in omega arith), h.2, λ j l p. go j l p)
  where
    go : (j : ℕ) → j < suc h.0 → P j → ⊥
    go zero l p = none p
    go (suc j) l p = h.3 j (omega arith) p

clash_from : (seen : List (List ℕ)) (k : ℕ) (cs : List Circuit) → FindsAt k (Clashes seen cs) (first_clash seen k cs)
clash_from seen k [] = λ i h. no_circuit i h
  where
    no_circuit : (i : ℕ) → Clashes seen [] i → ⊥
    no_circuit i (Seen x is h) = cc
    no_circuit i (Before b x y l is is' e) = cc
    no_circuit i (Nets x is h) = cc
clash_from seen k (c ∷ cs) = elim (cases_Bool (has_text seen c.name || has_twins [] c.nets)) [
  | inl t ↦ rw t (0, (omega arith), here t, λ j l h. absurd (omega arith))
  | inr f ↦ rw f (later k (Clashes seen (c ∷ cs)) (first_clash (seen ++ c.name ∷ []) (k + 1) cs) (λ h. true≢false (sym (first_one seen c cs h) ∙ f))
      (clashes_on (Clashes (seen ++ c.name ∷ []) cs) (λ i. Clashes seen (c ∷ cs) (suc i)) (k + 1) (first_clash (seen ++ c.name ∷ []) (k + 1) cs) (on_clash seen c cs) (off_clash seen c cs) (clash_from (seen ++ c.name ∷ []) (k + 1) cs)))
]
  where
    here : (has_text seen c.name || has_twins [] c.nets) ≡ true → Clashes seen (c ∷ cs) 0
    here t = elim (or_cases (has_text seen c.name) (has_twins [] c.nets) t) [ inl h ↦ Seen c refl h | inr h ↦ Nets c refl h ]

shown : (nl : Netlist) (i : ℕ) → Clashes [] nl.circuits i → ShowsFault nl NameClash i
shown nl i (Seen x is h) = let z : ⊥ = cc in absurd z
shown nl i (Before b x y l is is' e) = inl (b, y, x, l, is, is', e)
shown nl i (Nets x is h) = elim (has_both [] x.nets h) [
  | Old b n is' h' ↦ let z : ⊥ = cc in absurd z
  | Both a b n l at' at'' ↦ inr (x, a, b, n, is, l, at', at'')
]

shows : (nl : Netlist) (i : ℕ) → ShowsFault nl NameClash i → Clashes [] nl.circuits i
shows nl i (inl (b, y, x, l, is, is', e)) = Before b x y l is is' e
shows nl i (inr (x, a, b, n, is, l, at', at'')) = Nets x is (both_has [] x.nets a b n l at' at'')

pub names : (nl : Netlist) → FindsAt 0 (ShowsFault nl NameClash) (first_clash [] 0 nl.circuits)
names nl = clashes_on (Clashes [] nl.circuits) (ShowsFault nl NameClash) 0 (first_clash [] 0 nl.circuits) (shown nl) (shows nl) (clash_from [] 0 nl.circuits)
