-- Where no circuit calls itself, calls go down in a height: the length of the longest path of calls.
use Rattle.std.proofs.Common.{◌≡◌, ◌⊎◌, inl, inr, ℕ, zero, suc, ◌+◌, ◌<◌, ◌≤◌, List, [], ◌∷◌, ◌++◌, length, Option, Some, None, slice_get, refl, sym, ◌∙◌, ap, subst, arith}
use Rattle.std.proofs.lemmas.Bool.Decides.{leb_tells}
use Rattle.std.proofs.lemmas.Option.{slice_get_within}
use Rattle.plain_netlist.specs.Lists.{IsListed, AreApart}
use Rattle.plain_netlist.specs.Netlist.{CallRow, Circuit, Netlist, IsCall}
use Rattle.plain_netlist.specs.Sound.{NameClash, BadTerminal, NoSuchCircuit, PinCount, CircuitCycle, IsCallPath, IsSoundNetlist, IsGood, HeightLaw, GoodLaw, GoodFaultLaw}
use Rattle.plain_netlist.proofs.Members.{listed, position, few}
use Rattle.plain_netlist.proofs.Faults.{is_there}
use Rattle.plain_netlist.proofs.Once.{one_circuit}

abbrev calls_or : Option Circuit → List CallRow
calls_or (Some x) = x.calls
calls_or None = []

abbrev calls_of : Netlist → ℕ → List CallRow
calls_of nl c = calls_or (slice_get nl.circuits c)

larger : ℕ → ℕ → ℕ
larger a b = elim (leb_tells a b) [ inl h ↦ b | inr h ↦ a ]

larger_first : (a b : ℕ) → a ≤ larger a b
unfolding larger
larger_first a b = elim (leb_tells a b) as (λ h. a ≤ elim h [ inl h ↦ b | inr h ↦ a ]) [ inl h ↦ h.1 | inr h ↦ (omega arith) ]

larger_second : (a b : ℕ) → b ≤ larger a b
unfolding larger
larger_second a b = elim (leb_tells a b) as (λ h. b ≤ elim h [ inl h ↦ b | inr h ↦ a ]) [ inl h ↦ (omega arith) | inr h ↦ (let g = h.1 in omega arith) ]

larger_one : (a b : ℕ) → (larger a b ≡ a) ⊎ (larger a b ≡ b)
unfolding larger
larger_one a b = elim (leb_tells a b) as (λ h. (elim h [ inl h ↦ b | inr h ↦ a ] ≡ a) ⊎ (elim h [ inl h ↦ b | inr h ↦ a ] ≡ b)) [ inl h ↦ inr refl | inr h ↦ inl refl ]

-- one above the highest called circuit
above : (ℕ → ℕ) → List CallRow → ℕ
above h [] = 0
above h (row ∷ rows) = larger (suc (h row.circuit)) (above h rows)

is_above : (h : ℕ → ℕ) (rows : List CallRow) (row : CallRow) → IsListed row rows → h row.circuit < above h rows
unfolding above
is_above h [] row i = absurd i
is_above h (r ∷ rows) row (inl e) =
    let l = larger_first (suc (h r.circuit)) (above h rows) in
    let s : h row.circuit ≡ h r.circuit = ap (λ (x : CallRow). h x.circuit) e in
    omega arith
is_above h (r ∷ rows) row (inr i) = let l = larger_second (suc (h r.circuit)) (above h rows) in let b = is_above h rows row i in omega arith

is_next : (h : ℕ → ℕ) (rows : List CallRow) → (above h rows ≡ 0) ⊎ ((row : CallRow) × IsListed row rows × (above h rows ≡ suc (h row.circuit)))
unfolding above
is_next h [] = inl refl
is_next h (r ∷ rows) = elim (larger_one (suc (h r.circuit)) (above h rows)) [
  | inl e ↦ inr (r, inl refl, e)
  | inr e ↦ elim (is_next h rows) [ inl z ↦ inl (e ∙ z) | inr (row, i, s) ↦ inr (row, inr i, e ∙ s) ]
]

-- the longest path of calls from a circuit, of so many steps at most
depth : Netlist → ℕ → ℕ → ℕ
depth nl zero c = 0
depth nl (suc n) c = above (depth nl n) (calls_of nl c)

module _ (nl : Netlist) where
  call_listed : (c k : ℕ) (row : CallRow) → IsCall nl c k row → IsListed row (calls_of nl c)
  call_listed c k row (x, is, e) = subst (λ o. IsListed row (calls_or o)) (sym is) (listed x.calls k row e)

  listed_call_from : (c : ℕ) (o : Option Circuit) (row : CallRow) → slice_get nl.circuits c ≡ o → IsListed row (calls_or o) → (k : ℕ) × IsCall nl c k row
  listed_call_from c None row e h = absurd h
  listed_call_from c (Some x) row e h = let p = position x.calls row h in (p.0, (x, e, p.1))

  listed_call : (c : ℕ) (row : CallRow) → IsListed row (calls_of nl c) → (k : ℕ) × IsCall nl c k row
  listed_call c row h = listed_call_from c (slice_get nl.circuits c) row refl h

  -- a path is no longer
  reaches : (n : ℕ) (path : List ℕ) (c d : ℕ) → IsCallPath nl c path d → length path ≤ n → length path ≤ depth nl n c
  unfolding depth
  reaches n [] c d h low = omega arith
  reaches zero (k ∷ ks) c d h low = absurd (omega arith)
  reaches (suc n) (k ∷ ks) c d (row, call, h) low =
      let b = reaches n ks row.circuit d h (omega arith) in
      let a = is_above (depth nl n) (calls_of nl c) row (call_listed c k row call) in
      omega arith

  -- and one is so long
  attained : (n c : ℕ) → (path : List ℕ) × (d : ℕ) × IsCallPath nl c path d × (length path ≡ depth nl n c)
  unfolding depth
  attained zero c = ([], c, refl, refl)
  attained (suc n) c = elim (is_next (depth nl n) (calls_of nl c)) [
    | inl z ↦ ([], c, refl, sym z)
    | inr (row, i, s) ↦
        let call = listed_call c row i in
        let r = attained n row.circuit in
        (call.0 ∷ r.0, r.1, (row, call.1, r.2), (let e = r.3 in omega arith))
  ]

  onward : (path : List ℕ) (c d j : ℕ) (row : CallRow) → IsCallPath nl c path d → IsCall nl d j row → IsCallPath nl c (path ++ j ∷ []) row.circuit
  onward [] c d j row h call = (row, subst (λ m. IsCall nl m j row) (sym h) call, refl)
  onward (k ∷ ks) c d j row (r, first, h) call = (r, first, onward ks r.circuit d j row h call)

  abbrev CallsOn : ℕ → ℕ → Type 0
  CallsOn c d = (k : ℕ) × (ks : List ℕ) × IsCallPath nl c (k ∷ ks) d

  further : (c d j : ℕ) (row : CallRow) → CallsOn c d → IsCall nl d j row → CallsOn c row.circuit
  further c d j row (k, ks, h) call = (k, ks ++ j ∷ [], onward (k ∷ ks) c d j row h call)

module _ (nl : Netlist) (s : IsSoundNetlist nl) where
  abbrev count : ℕ
  count = length nl.circuits

  new : (c : ℕ) (seen : List ℕ) → ((x : ℕ) → IsListed x seen → (x < count) × CallsOn nl x c) → IsListed c seen → ⊥
  new c seen calls i = s.no_cycle c (calls c i).1

  all_low : (c : ℕ) (seen : List ℕ) → c < count → ((x : ℕ) → IsListed x seen → (x < count) × CallsOn nl x c) → (x : ℕ) → IsListed x (c ∷ seen) → x < count
  all_low c seen low calls x (inl e) = subst (λ m. m < count) (sym e) low
  all_low c seen low calls x (inr i) = (calls x i).0

  -- each circuit on a path of calls is another one
  short : (path : List ℕ) (c d : ℕ) (seen : List ℕ) → c < count → AreApart seen → ((x : ℕ) → IsListed x seen → (x < count) × CallsOn nl x c) → IsCallPath nl c path d → length seen + length path < count
  short [] c d seen low apart calls h =
      let f = few (c ∷ seen) count (new c seen calls, apart) (all_low c seen low calls) in omega arith
  short (k ∷ ks) c d seen low apart calls (row, call, h) =
      let e = s.calls c k row call in
      let lower = slice_get_within nl.circuits row.circuit e.0 e.1 in
      let r = short ks row.circuit d (c ∷ seen) lower (new c seen calls, apart) (onto c k row seen low calls call) h in
      omega arith
    where
      onto : (c k : ℕ) (row : CallRow) (seen : List ℕ) → c < count → ((x : ℕ) → IsListed x seen → (x < count) × CallsOn nl x c) → IsCall nl c k row → (x : ℕ) → IsListed x (c ∷ seen) → (x < count) × CallsOn nl x row.circuit
      onto c k row seen low calls call x (inl e) = (subst (λ m. m < count) (sym e) low, subst (λ m. CallsOn nl m row.circuit) (sym e) (k, [], (row, call, refl)))
      onto c k row seen low calls call x (inr i) = let r = calls x i in (r.0, further nl x c k row r.1 call)

  height : ℕ → ℕ
  height c = depth nl count c

  lower : (c k : ℕ) (row : CallRow) → IsCall nl c k row → height row.circuit < height c
  unfolding height
  lower c k row call =
      let r = attained nl count row.circuit in
      let there : IsCallPath nl c (k ∷ r.0) r.1 = (row, call, r.2) in
      let x = call.0 in
      let low = slice_get_within nl.circuits c x call.1 in
      let m = short (k ∷ r.0) c r.1 [] low tt (λ y i. absurd i) there in
      let b = reaches nl count (k ∷ r.0) c r.1 there (omega arith) in
      let e = r.3 in
      omega arith

pub heights : HeightLaw
heights nl s = (height nl s, lower nl s)

pub good : GoodLaw
good nl s normal = (
  height nl s,
  record {
    within = s.nets;
    called = s.calls;
    lower = lower nl s;
    pins = λ c i n (x, is, e). (normal c x is).pins i n e;
  },
)

-- a path of calls goes down
pub goes_down : (nl : Netlist) (height : ℕ → ℕ) → IsGood nl height → (path : List ℕ) (c d : ℕ) → IsCallPath nl c path d → height d ≤ height c
goes_down nl height good [] c d h = let e : height c ≡ height d = ap height h in omega arith
goes_down nl height good (k ∷ ks) c d (row, call, h) = let a = good.lower c k row call in let b = goes_down nl height good ks row.circuit d h in omega arith

pub no_fault_in_good : GoodFaultLaw
no_fault_in_good nl height NameClash c good other h = other refl
no_fault_in_good nl height BadTerminal c good other (x, n, is, l, high) = let low = is_there nl c n x good.within is l in omega arith
no_fault_in_good nl height NoSuchCircuit c good other (k, row, call, high) = let d = good.called c k row call in let low = slice_get_within nl.circuits row.circuit d.0 d.1 in omega arith
no_fault_in_good nl height PinCount c good other (k, row, d, call, is, differ) =
    let e = good.called c k row call in
    differ (subst (λ (y : Circuit). length row.nets ≡ length y.pins) (one_circuit nl row.circuit e.0 d e.1 is) e.2)
no_fault_in_good nl height CircuitCycle c good other (k, ks, (row, call, h)) = let a = good.lower c k row call in let b = goes_down nl height good ks row.circuit c h in omega arith
