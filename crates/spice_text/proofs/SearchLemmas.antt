-- The searches find what is first wrong.
use Rattle.std.proofs.Common.{◌≡◌, ◌⊎◌, inl, inr, ℕ, zero, suc, ◌<◌, ◌≤◌, Bool, true, false, List, [], ◌∷◌, ◌++◌, take, Option, Some, None, refl, sym, subst, ap, ◌∙◌, arith}
use Rattle.std.proofs.lemmas.Bool.{cases_Bool}
use Rattle.std.specs.Prelude.{slice_get, nat_lt}
use Rattle.std.proofs.lemmas.List.{append-nil}
use Rattle.std.proofs.Common.{append_assoc}
use Rattle.text_table.specs.Texts.{has_text}
use Rattle.spice_rows.specs.Rows.{CallCard}
use Rattle.spice_text.specs.Gather.{Circuit}
use Rattle.spice_text.specs.Circuits.{names_of}
use Rattle.spice_text.specs.Faults.{IsSecond, IsCallOn, HasCall, IsLeast, Lacks, FindsLeast, IsCircuitsFault}
use Rattle.spice_text.specs.Search.{first_twice, SaysClash, lesser, least_in, least_in_all}
use Rattle.spice_rows.specs.declared.fault.SpiceFault.{SpiceFault}
use Rattle.spice_rows.specs.declared.fault.SpiceFault.TheVariants.{NameClash, NoSuchCircuit, PinCount, CircuitCycle}

-- ---- a name that stands twice

-- or among names seen before
abbrev Second : List (List ℕ) → List Circuit → ℕ → Type 0
Second seen cs k = (c : Circuit) × (slice_get cs k ≡ Some c) × (has_text (seen ++ names_of (take k cs)) c.name ≡ true)

abbrev Finds : List (List ℕ) → List Circuit → Option ℕ → Type 0
Finds seen cs None = (k : ℕ) → Second seen cs k → ⊥
Finds seen cs (Some line) = (k : ℕ) × IsLeast (Second seen cs) k × (c : Circuit) × (slice_get cs k ≡ Some c) × (c.line ≡ line)

not_first : (seen : List (List ℕ)) (c : Circuit) (cs : List Circuit) → has_text seen c.name ≡ false → Second seen (c ∷ cs) 0 → ⊥
not_first seen c cs f (d, is, has) =
    let same : c ≡ d = cc in
    let here : has_text seen d.name ≡ true = subst (λ (xs : List (List ℕ)). has_text xs d.name ≡ true) (append-nil seen) has in
    let there : has_text seen d.name ≡ false = subst (λ (x : Circuit). has_text seen x.name ≡ false) same f in
    let z : ⊥ = cc in z

down : (seen : List (List ℕ)) (c : Circuit) (cs : List Circuit) (k : ℕ) → Second seen (c ∷ cs) (suc k) → Second (seen ++ c.name ∷ []) cs k
down seen c cs k (d, is, has) = (d, is, subst (λ (xs : List (List ℕ)). has_text xs d.name ≡ true) (sym (append_assoc seen (c.name ∷ []) (names_of (take k cs)))) has)

up : (seen : List (List ℕ)) (c : Circuit) (cs : List Circuit) (k : ℕ) → Second (seen ++ c.name ∷ []) cs k → Second seen (c ∷ cs) (suc k)
up seen c cs k (d, is, has) = (d, is, subst (λ (xs : List (List ℕ)). has_text xs d.name ≡ true) (append_assoc seen (c.name ∷ []) (names_of (take k cs))) has)

later : (seen : List (List ℕ)) (c : Circuit) (cs : List Circuit) (o : Option ℕ) → has_text seen c.name ≡ false → Finds (seen ++ c.name ∷ []) cs o → Finds seen (c ∷ cs) o
later seen c cs None f h = λ k s. go k s
  where
    go : (k : ℕ) → Second seen (c ∷ cs) k → ⊥
    go zero s = not_first seen c cs f s
    go (suc k) s = h k (down seen c cs k s)
later seen c cs (Some line) f (k, least, d, is, at) = (suc k, record { holds = up seen c cs k least.holds; none = λ j l s. go j l s }, d, is, at)
  where
    go : (j : ℕ) → j < suc k → Second seen (c ∷ cs) j → ⊥
    go zero l s = not_first seen c cs f s
    go (suc j) l s = least.none j (omega arith) (down seen c cs j s)

finds : (seen : List (List ℕ)) (cs : List Circuit) → Finds seen cs (first_twice seen cs)
finds seen [] = λ k s. let e = s.1 in let z : ⊥ = cc in z
finds seen (c ∷ cs) = elim (cases_Bool (has_text seen c.name)) [
  | inl t ↦ rw t (0, record { holds = (c, refl, subst (λ (xs : List (List ℕ)). has_text xs c.name ≡ true) (sym (append-nil seen)) t); none = λ j l s. absurd (omega arith) }, c, refl, refl)
  | inr f ↦ rw f (later seen c cs (first_twice (seen ++ c.name ∷ []) cs) f (finds (seen ++ c.name ∷ []) cs))
]

pub none_second : (cs : List Circuit) → first_twice [] cs ≡ None → Lacks (IsSecond cs)
none_second cs e = subst (λ (o : Option ℕ). Finds [] cs o) e (finds [] cs)

pub clash_fault : (cs : List Circuit) (e : SpiceFault) → SaysClash (first_twice [] cs) e → IsCircuitsFault cs e
clash_fault cs (NameClash line) h = subst (λ (o : Option ℕ). Finds [] cs o) h (finds [] cs)
clash_fault cs (NoSuchCircuit l) h = absurd h
clash_fault cs (PinCount l) h = absurd h
clash_fault cs (CircuitCycle n) h = absurd h
clash_fault cs e h = h

-- ---- the least line

one_more : (P : ℕ → Type 0) (o : Option ℕ) (m : ℕ) → FindsLeast P o → FindsLeast (λ n. P n ⊎ (n ≡ m)) (lesser o m)
one_more P None m h = record { holds = inr refl; none = λ j l p. elim p [ inl a ↦ h j a | inr e ↦ absurd (omega arith) ] }
one_more P (Some k) m h = elim (cases_Bool (nat_lt m k)) [
  | inl t ↦ rw t (record { holds = inr refl; none = λ j l p. elim p [ inl a ↦ h.none j (let less : m < k = grind (arith, t) in omega arith) a | inr e ↦ absurd (omega arith) ] })
  | inr f ↦ rw f (record { holds = inl h.holds; none = λ j l p. elim p [ inl a ↦ h.none j l a | inr e ↦ absurd (let more : k ≤ m = grind (arith, f) in omega arith) ] })
]

same : (P Q : ℕ → Type 0) (o : Option ℕ) → ((n : ℕ) → P n → Q n) → ((n : ℕ) → Q n → P n) → FindsLeast P o → FindsLeast Q o
same P Q None to from h = λ n q. h n (from n q)
same P Q (Some m) to from h = record { holds = to m h.holds; none = λ j l q. h.none j l (from j q) }

in_calls : (test : CallCard → Bool) (rs : List CallCard) (P : ℕ → Type 0) (o : Option ℕ) → FindsLeast P o
    → FindsLeast (λ n. P n ⊎ IsCallOn rs test n) (least_in test o rs)
in_calls test [] P o h = same P (λ n. P n ⊎ IsCallOn [] test n) o (λ n p. inl p) (λ n q. elim q [ inl p ↦ p | inr c ↦ absurd c.1 ]) h
in_calls test (r ∷ rs) P o h = elim (cases_Bool (test r)) [
  | inl t ↦ rw t (same (λ n. (P n ⊎ (n ≡ r.line)) ⊎ IsCallOn rs test n) (λ n. P n ⊎ IsCallOn (r ∷ rs) test n) (least_in test (lesser o r.line) rs)
      (λ n q. elim q [ inl a ↦ elim a [ inl p ↦ inl p | inr e ↦ inr (r, inl refl, t, sym e) ] | inr c ↦ inr (c.0, inr c.1, c.2, c.3) ])
      (λ n q. elim q [ inl p ↦ inl (inl p) | inr c ↦ taken n c ])
      (in_calls test rs (λ n. P n ⊎ (n ≡ r.line)) (lesser o r.line) (one_more P o r.line h)))
  | inr f ↦ rw f (same (λ n. P n ⊎ IsCallOn rs test n) (λ n. P n ⊎ IsCallOn (r ∷ rs) test n) (least_in test o rs)
      (λ n q. elim q [ inl p ↦ inl p | inr c ↦ inr (c.0, inr c.1, c.2, c.3) ])
      (λ n q. elim q [ inl p ↦ inl p | inr c ↦ inr (left f n c) ])
      (in_calls test rs P o h))
]
  where
    taken : (n : ℕ) → IsCallOn (r ∷ rs) test n → (P n ⊎ (n ≡ r.line)) ⊎ IsCallOn rs test n
    taken n (s, inl e, t, at) = inl (inr (sym at ∙ ap (λ (x : CallCard). x.line) e))
    taken n (s, inr l, t, at) = inr (s, l, t, at)

    left : test r ≡ false → (n : ℕ) → IsCallOn (r ∷ rs) test n → IsCallOn rs test n
    left f n (s, inl e, t, at) = let z : ⊥ = cc in absurd z
    left f n (s, inr l, t, at) = (s, l, t, at)

in_all : (test : CallCard → Bool) (cs : List Circuit) (P : ℕ → Type 0) (o : Option ℕ) → FindsLeast P o
    → FindsLeast (λ n. P n ⊎ HasCall cs test n) (least_in_all test o cs)
in_all test [] P o h = same P (λ n. P n ⊎ HasCall [] test n) o (λ n p. inl p) (λ n q. elim q [ inl p ↦ p | inr c ↦ absurd c.1 ]) h
in_all test (c ∷ cs) P o h =
    same (λ n. (P n ⊎ IsCallOn c.calls test n) ⊎ HasCall cs test n) (λ n. P n ⊎ HasCall (c ∷ cs) test n) (least_in_all test (least_in test o c.calls) cs)
    (λ n q. elim q [ inl a ↦ elim a [ inl p ↦ inl p | inr x ↦ inr (c, inl refl, x) ] | inr x ↦ inr (x.0, inr x.1, x.2) ])
    (λ n q. elim q [ inl p ↦ inl (inl p) | inr x ↦ parted n x ])
    (in_all test cs (λ n. P n ⊎ IsCallOn c.calls test n) (least_in test o c.calls) (in_calls test c.calls P o h))
  where
    parted : (n : ℕ) → HasCall (c ∷ cs) test n → (P n ⊎ IsCallOn c.calls test n) ⊎ HasCall cs test n
    parted n (d, inl e, x) = inl (inr (subst (λ (y : Circuit). IsCallOn y.calls test n) e x))
    parted n (d, inr l, x) = inr (d, l, x)

pub least_is : (test : CallCard → Bool) (cs : List Circuit) → FindsLeast (HasCall cs test) (least_in_all test None cs)
least_is test cs = same (λ n. ⊥ ⊎ HasCall cs test n) (HasCall cs test) (least_in_all test None cs) (λ n q. elim q [ inl z ↦ absurd z | inr x ↦ x ]) (λ n x. inr x) (in_all test cs (λ n. ⊥) None (λ n z. z))
