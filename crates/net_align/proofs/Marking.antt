-- What marks say.
use Rattle.std.proofs.Common.{◌≡◌, ◌⊎◌, inl, inr, ℕ, zero, suc, ◌+◌, ◌<◌, ◌≤◌, Bool, true, false, List, [], ◌∷◌, ◌++◌, length, map, replicate, Option, Some, None, refl, sym, ◌∙◌, ap, subst, arith, true≢false}
use Rattle.base_laws.proofs.Items.{map_to, map_from}
use Rattle.std.specs.Prelude.{slice_set, slice_index_or}
use Rattle.std.proofs.Math.Decide.{ℕ_discrete}
use Rattle.std.proofs.lemmas.List.{get_or-set_same, get_or-set_other, length-set, length-replicate}
use Rattle.plain_netlist.specs.Lists.{IsListed}
use Rattle.plain_netlist.specs.Netlist.{CallRow, Circuit, Netlist, IsCall}
use Rattle.plain_netlist.proofs.Members.{listed, position}
use Rattle.net_model.specs.Faults.{called_by}
use Rattle.net_align.specs.Marks.{AreCallsOfCircuits, SoleBelow, FindsSole, marked, marked_by, circuits_called}

pub marked_long : (bs : List ℕ) (marks : List Bool) → length (marked bs marks) ≡ length marks
marked_long [] marks = refl
marked_long (b ∷ bs) marks = marked_long bs (slice_set marks b true) ∙ length-set marks b true

pub marked_more : (bs : List ℕ) (b : ℕ) (marks : List Bool) → marked (bs ++ b ∷ []) marks ≡ slice_set (marked bs marks) b true
marked_more [] b marks = refl
marked_more (x ∷ bs) b marks = marked_more bs b (slice_set marks x true)

pub marked_by_long : (cs : List Circuit) (marks : List Bool) → length (marked_by cs marks) ≡ length marks
marked_by_long [] marks = refl
marked_by_long (c ∷ cs) marks = marked_by_long cs (marked (called_by c) marks) ∙ marked_long (called_by c) marks

pub marked_by_more : (cs : List Circuit) (c : Circuit) (marks : List Bool) → marked_by (cs ++ c ∷ []) marks ≡ marked (called_by c) (marked_by cs marks)
marked_by_more [] c marks = refl
marked_by_more (x ∷ cs) c marks = marked_by_more cs c (marked (called_by x) marks)

abbrev pub Is : List Bool → ℕ → Type 0
Is marks b = slice_index_or marks b false ≡ true

pub set_or : (marks : List Bool) (a b : ℕ) → Is (slice_set marks a true) b → (b ≡ a) ⊎ Is marks b
set_or marks a b h = elim (ℕ_discrete b a) [
  | yes e ↦ inl e
  | no not ↦ inr (sym (get_or-set_other marks a b true false not) ∙ h)
]

pub set_is : (marks : List Bool) (a : ℕ) → a < length marks → Is (slice_set marks a true) a
set_is marks a low = get_or-set_same marks a true false low

pub set_stays : (marks : List Bool) (a b : ℕ) → b < length marks → Is marks b → Is (slice_set marks a true) b
set_stays marks a b low h = elim (ℕ_discrete b a) [
  | yes e ↦ subst (λ (x : ℕ). Is (slice_set marks a true) x) (sym e) (set_is marks a (subst (λ (x : ℕ). x < length marks) e low))
  | no not ↦ get_or-set_other marks a b true false not ∙ h
]

pub marked_or : (bs : List ℕ) (marks : List Bool) (b : ℕ) → Is (marked bs marks) b → IsListed b bs ⊎ Is marks b
marked_or [] marks b h = inr h
marked_or (x ∷ bs) marks b h = elim (marked_or bs (slice_set marks x true) b h) [
  | inl l ↦ inl (inr l)
  | inr s ↦ elim (set_or marks x b s) [ inl e ↦ inl (inl e) | inr m ↦ inr m ]
]

pub marked_stays : (bs : List ℕ) (marks : List Bool) (b : ℕ) → b < length marks → Is marks b → Is (marked bs marks) b
marked_stays [] marks b low h = h
marked_stays (x ∷ bs) marks b low h = marked_stays bs (slice_set marks x true) b (let e = length-set marks x true in omega (arith, e, low)) (set_stays marks x b low h)

pub marked_is : (bs : List ℕ) (marks : List Bool) (b : ℕ) → b < length marks → IsListed b bs → Is (marked bs marks) b
marked_is [] marks b low h = absurd h
marked_is (x ∷ bs) marks b low (inl e) =
    let l : b < length (slice_set marks x true) = let k = length-set marks x true in omega (arith, k, low) in
    marked_stays bs (slice_set marks x true) b l (subst (λ (y : ℕ). Is (slice_set marks y true) b) e (set_is marks b low))
marked_is (x ∷ bs) marks b low (inr h) = marked_is bs (slice_set marks x true) b (let e = length-set marks x true in omega (arith, e, low)) h

-- circuits that call

pub by_or : (cs : List Circuit) (marks : List Bool) (b : ℕ) → Is (marked_by cs marks) b → ((c : Circuit) × IsListed c cs × IsListed b (called_by c)) ⊎ Is marks b
by_or [] marks b h = inr h
by_or (x ∷ cs) marks b h = elim (by_or cs (marked (called_by x) marks) b h) [
  | inl l ↦ inl (l.0, inr l.1, l.2)
  | inr s ↦ elim (marked_or (called_by x) marks b s) [ inl l ↦ inl (x, inl refl, l) | inr m ↦ inr m ]
]

pub by_stays : (cs : List Circuit) (marks : List Bool) (b : ℕ) → b < length marks → Is marks b → Is (marked_by cs marks) b
by_stays [] marks b low h = h
by_stays (x ∷ cs) marks b low h = by_stays cs (marked (called_by x) marks) b (let e = marked_long (called_by x) marks in omega (arith, e, low)) (marked_stays (called_by x) marks b low h)

pub by_is : (cs : List Circuit) (marks : List Bool) (c : Circuit) (b : ℕ) → b < length marks → IsListed c cs → IsListed b (called_by c) → Is (marked_by cs marks) b
by_is [] marks c b low h l = absurd h
by_is (x ∷ cs) marks c b low (inl e) l =
    let k : b < length (marked (called_by x) marks) = let e = marked_long (called_by x) marks in omega (arith, e, low) in
    by_stays cs (marked (called_by x) marks) b k (marked_is (called_by x) marks b low (subst (λ (y : Circuit). IsListed b (called_by y)) e l))
by_is (x ∷ cs) marks c b low (inr h) l = by_is cs (marked (called_by x) marks) c b (let e = marked_long (called_by x) marks in omega (arith, e, low)) h l

pub none_set : (n b : ℕ) → Is (replicate n false) b → ⊥
none_set zero b h = true≢false (sym h)
none_set (suc n) zero h = true≢false (sym h)
none_set (suc n) (suc b) h = none_set n b h

pub called_long : (nl : Netlist) → length (circuits_called nl) ≡ length nl.circuits
called_long nl = marked_by_long nl.circuits (replicate (length nl.circuits) false) ∙ length-replicate (length nl.circuits) false

abbrev callee : CallRow → ℕ
callee r = r.circuit

-- a circuit is marked exactly where a call names it
pub called_is : (nl : Netlist) (c k b : ℕ) (row : CallRow) → AreCallsOfCircuits nl → IsCall nl c k row → row.circuit ≡ b → Is (circuits_called nl) b
called_is nl c k b row there h e =
    let low : b < length nl.circuits = let l = there c k row h in omega (arith, l, e) in
    let long : length (replicate (length nl.circuits) false) ≡ length nl.circuits = length-replicate (length nl.circuits) false in
    let on : IsListed row.circuit (called_by h.0) = listed (map callee h.0.calls) k row.circuit (map_to callee h.0.calls k row h.2) in
    by_is nl.circuits (replicate (length nl.circuits) false) h.0 b (omega (arith, low, long)) (listed nl.circuits c h.0 h.1) (subst (λ (y : ℕ). IsListed y (called_by h.0)) e on)

pub is_called : (nl : Netlist) (b : ℕ) → Is (circuits_called nl) b → (c : ℕ) × (k : ℕ) × (row : CallRow) × IsCall nl c k row × (row.circuit ≡ b)
is_called nl b h = elim (by_or nl.circuits (replicate (length nl.circuits) false) b h) [
  | inl l ↦
      let p = position nl.circuits l.0 l.1 in
      let q = position (called_by l.0) b l.2 in
      let r = map_from callee l.0.calls q.0 b q.1 in
      (p.0, q.0, r.0, (l.0, p.1, r.1), r.2)
  | inr none ↦ absurd (none_set (length nl.circuits) b none)
]

-- ---- the only one that isn't set

pub set_none : (marks : List Bool) (i : ℕ) (o : Option ℕ) → slice_index_or marks i false ≡ true → SoleBelow marks i o → SoleBelow marks (i + 1) o
set_none marks i None is h = λ c low u. elim (ℕ_discrete c i) [
  | yes e ↦ true≢false (sym is ∙ (ap (λ (x : ℕ). slice_index_or marks x false) (sym e) ∙ u.unset))
  | no not ↦ h c (omega (arith, low, not)) u
]
set_none marks i (Some b) is h = (
  let l = h.0 in omega arith,
  h.1,
  λ c low u. elim (ℕ_discrete c i) [
    | yes e ↦ absurd (true≢false (sym is ∙ (ap (λ (x : ℕ). slice_index_or marks x false) (sym e) ∙ u.unset)))
    | no not ↦ h.2 c (omega (arith, low, not)) u
  ],
)

pub set_first : (marks : List Bool) (i : ℕ) (o : Option ℕ) → o ≡ None → i < length marks → slice_index_or marks i false ≡ false → SoleBelow marks i o → SoleBelow marks (i + 1) (Some i)
set_first marks i (Some b) e low is h = let z : ⊥ = cc in absurd z
set_first marks i None e low is h = (
  omega arith,
  record { low = low; unset = is },
  λ c l u. elim (ℕ_discrete c i) [
    | yes same ↦ same
    | no not ↦ absurd (h c (omega (arith, l, not)) u)
  ],
)

pub set_second : (marks : List Bool) (i : ℕ) (o : Option ℕ) → (o ≡ None → ⊥) → i < length marks → slice_index_or marks i false ≡ false → SoleBelow marks i o → FindsSole marks None
set_second marks i None e low is h = absurd (e refl)
set_second marks i (Some b) e low is h = λ d s.
    let f : b ≡ d = s.one b h.1 in
    let g : i ≡ d = s.one i (record { low = low; unset = is }) in
    let l = h.0 in absurd (omega (arith, f, g, l))

pub set_all : (marks : List Bool) (i : ℕ) (o : Option ℕ) → length marks ≤ i → SoleBelow marks i o → FindsSole marks o
set_all marks i None long h = λ b s. h b (let l = s.here.low in omega arith) s.here
set_all marks i (Some b) long h = record { here = h.1; one = λ c u. h.2 c (let l = u.low in omega arith) u }
