-- Drafts have one first fault.
use Rattle.std.proofs.Common.{◌≡◌, ◌≢◌, ◌⊎◌, inl, inr, ℕ, zero, suc, ◌+◌, ◌<◌, ◌≤◌, ◌^◌, List, length, Option, Some, None, slice_get, refl, sym, ap, subst, ◌∙◌, arith}
use Rattle.std.proofs.Math.Decide.{ℕ_discrete}
use Rattle.rect_sets.specs.Rects.{OneListLaw}
use Rattle.gds_elements.specs.declared.library.GdsFault.TheVariants.{Bad, NoMemory as NoMemoryInStream}
use Rattle.gds_elements.specs.Meaning.{Library}
use Rattle.gds_elements.specs.Faults.{Accepts}
use Rattle.gds_elements.specs.Once as stream
use Rattle.cell_graph.specs.declared.drafts.DraftRef.{DraftRef}
use Rattle.cell_graph.specs.declared.drafts.CellDraft.{CellDraft}
use Rattle.cell_graph.specs.declared.drafts.LinkFault.{LinkFault}
use Rattle.cell_graph.specs.declared.drafts.LinkFault.TheVariants.{TooManyCells, DuplicateCell, NoSuchCell, Cycle, TooDeep, NoTop, TopUnclear, CoordinateRange, NoMemory as NoMemoryInLinks}
use Rattle.cell_graph.specs.Chains.{IsOnCycle, IsTooDeep, HasChain, IsHeightOf, IsFirst}
use Rattle.cell_graph.specs.Linked.{Linked}
use Rattle.cell_graph.specs.Drafts.{IsNamed, IsMissing, HasRef, Refers, IsRepeat, IsLoose, IsFirstLoose, IsRoot, IsTop, HasNoTop, HasTwoTops, IsFirstFar, HasFew, HasNoRepeat, HasNoLoose, HasNoCycle, HasNoDeep, IsFirstNamed, AreSound, IsFault, IsLink}
use Rattle.cell_graph.proofs.Raising.{short}
use Rattle.gds_layout.specs.declared.layout.LayoutFault.TheVariants.{Gds, Link, NoMemory}
use Rattle.gds_layout.specs.Drafts.{AreDraftsOf}
use Rattle.gds_layout.specs.Layouts.{IsLinkFault, IsNotLinked}
use Rattle.gds_layout.specs.Once.{NoFaultLaw, OneFaultLaw}
use Rattle.gds_layout.proofs.SameDrafts.{are_in, same_count, fault_too}

-- ---- first numbers

order : (i j : ℕ) → (i < j) ⊎ ((i ≡ j) ⊎ (j < i))
order zero zero = inr (inl refl)
order zero (suc j) = inl (omega arith)
order (suc i) zero = inr (inr (omega arith))
order (suc i) (suc j) = elim (order i j) [
  | inl lt ↦ inl (let f : suc i < suc j = omega (arith, lt) in f)
  | inr (inl e) ↦ inr (inl (ap (λ (n : ℕ). suc n) e))
  | inr (inr lt) ↦ inr (inr (let f : suc j < suc i = omega (arith, lt) in f))
]

one_first : (P : ℕ → Type 0) (i j : ℕ) → IsFirst P i → IsFirst P j → i ≡ j
one_first P i j a b = elim (order i j) [
  | inl lt ↦ absurd (b.before i lt a.here)
  | inr (inl e) ↦ e
  | inr (inr lt) ↦ absurd (a.before j lt b.here)
]

name_at : (cells : List CellDraft) (one other : List ℕ) (i j : ℕ) → IsNamed cells one i → IsNamed cells other j → i ≡ j → one ≡ other
name_at cells one other i j a b e =
    let there : slice_get cells j ≡ Some a.cell = subst (λ (k : ℕ). slice_get cells k ≡ Some a.cell) e a.there in
    let same : a.cell ≡ b.cell = (let f : Some a.cell ≡ Some b.cell = sym there ∙ b.there in cc) in
    sym a.named ∙ ap (λ (c : CellDraft). c.name) same ∙ b.named

one_first_named : (cells : List CellDraft) (P : ℕ → Type 0) (one other : List ℕ) → IsFirstNamed cells P one → IsFirstNamed cells P other → one ≡ other
one_first_named cells P one other (i, a, f) (j, b, g) = name_at cells one other i j a b (one_first P i j f g)

-- ---- the first reference to a missing cell

ref_at : (cells : List CellDraft) (i j k m : ℕ) (r q : DraftRef) → HasRef cells i k r → HasRef cells j m q → i ≡ j → k ≡ m → r ≡ q
ref_at cells i j k m r q a b e f =
    let there : slice_get cells j ≡ Some a.cell = subst (λ (n : ℕ). slice_get cells n ≡ Some a.cell) e a.there in
    let same : a.cell ≡ b.cell = (let g : Some a.cell ≡ Some b.cell = sym there ∙ b.there in cc) in
    let here : slice_get a.cell.refs.items m ≡ Some r = subst (λ (n : ℕ). slice_get a.cell.refs.items n ≡ Some r) f a.ref in
    let here_too : slice_get b.cell.refs.items m ≡ Some r = subst (λ (c : CellDraft). slice_get c.refs.items m ≡ Some r) same here in
    let g : Some r ≡ Some q = sym here_too ∙ b.ref in
    cc

is_loose : (cells : List CellDraft) (name : List ℕ) (h : IsFirstLoose cells name) → IsLoose cells h.cell h.number
is_loose cells name h = (h.ref, h.has, subst (λ (n : List ℕ). IsMissing cells n) (sym h.names) h.missing)

one_loose_in : (cells : List CellDraft) (one other : List ℕ) (a : IsFirstLoose cells one) (b : IsFirstLoose cells other) → a.cell ≡ b.cell → one ≡ other
one_loose_in cells one other a b e = elim (order a.number b.number) [
  | inl lt ↦ absurd (b.refs_before a.number lt (subst (λ (n : ℕ). IsLoose cells n a.number) e (is_loose cells one a)))
  | inr (inl f) ↦ sym a.names ∙ ap (λ (r : DraftRef). r.cell) (ref_at cells a.cell b.cell a.number b.number a.ref b.ref a.has b.has e f) ∙ b.names
  | inr (inr lt) ↦ absurd (a.refs_before b.number lt (subst (λ (n : ℕ). IsLoose cells n b.number) (sym e) (is_loose cells other b)))
]

one_loose : (cells : List CellDraft) (one other : List ℕ) → IsFirstLoose cells one → IsFirstLoose cells other → one ≡ other
one_loose cells one other a b = elim (order a.cell b.cell) [
  | inl lt ↦ absurd (b.cells_before a.cell a.number lt (is_loose cells one a))
  | inr (inl e) ↦ one_loose_in cells one other a b e
  | inr (inr lt) ↦ absurd (a.cells_before b.cell b.number lt (is_loose cells other b))
]

-- ---- the first cell out of range

-- a cell without a chain too long can't be without a height
no_height : (R : ℕ → ℕ → Type 0) (i : ℕ) → (IsTooDeep R i → ⊥) → ((h : ℕ) → IsHeightOf R i h → ⊥) → (left n : ℕ) → left + n ≡ 65 → HasChain R i n → ⊥
no_height R i deep none zero n e c = deep (n, (let lt : 64 < n = omega (arith, e) in lt), c)
no_height R i deep none (suc left) n e c = none n record {
  chain = c;
  longest = λ m h. elim (order n m) [
    | inl lt ↦ absurd (no_height R i deep none left (suc n) (omega (arith, e)) (short R i (suc n) m (let le : suc n ≤ m = omega (arith, lt) in le) h))
    | inr (inl f) ↦ (let le : m ≤ n = omega (arith, f) in le)
    | inr (inr lt) ↦ (let le : m ≤ n = omega (arith, lt) in le)
  ];
}

-- two first ones of different numbers can't be, whatever their heights
two_far : (cells : List CellDraft) (one other : List ℕ) (a : IsFirstFar cells one) (b : IsFirstFar cells other) → a.cell ≢ b.cell
    → (g h : ℕ) → IsHeightOf (Refers cells) a.cell g → IsHeightOf (Refers cells) b.cell h → ⊥
two_far cells one other a b apart g h x y = elim (order g h) [
  | inl lt ↦ b.before a.cell record { height_i = g; height_j = h; of_i = x; of_j = y; before = inl lt } a.far
  | inr (inr lt) ↦ a.before b.cell record { height_i = h; height_j = g; of_i = y; of_j = x; before = inl lt } b.far
  | inr (inl e) ↦ elim (order a.cell b.cell) [
    | inl lt ↦ b.before a.cell record { height_i = g; height_j = h; of_i = x; of_j = y; before = inr (e, lt) } a.far
    | inr (inl f) ↦ apart f
    | inr (inr lt) ↦ a.before b.cell record { height_i = h; height_j = g; of_i = y; of_j = x; before = inr (sym e, lt) } b.far
  ]
]

one_far : (cells : List CellDraft) → HasNoDeep cells → (one other : List ℕ) → IsFirstFar cells one → IsFirstFar cells other → one ≡ other
one_far cells deep one other a b = elim (ℕ_discrete a.cell b.cell) [
  | yes e ↦ name_at cells one other a.cell b.cell a.named b.named e
  | no apart ↦ absurd (
      no_height (Refers cells) a.cell (deep a.cell)
      (λ g x. no_height (Refers cells) b.cell (deep b.cell) (λ h y. two_far cells one other a b apart g h x y) 65 0 refl (b.cell, refl))
      65 0 refl (a.cell, refl))
]

-- ---- the tests, one after the other

abbrev OfRange : List CellDraft → LinkFault → Type 0
OfRange cells f = (name : List ℕ) × (f ≡ CoordinateRange name) × IsFirstFar cells name

abbrev Unclear : List CellDraft → Option (List ℕ) → LinkFault → Type 0
Unclear cells top f = (one : List ℕ) × (other : List ℕ) × (i : ℕ) × (j : ℕ) × (f ≡ TopUnclear one other) × IsNamed cells one i × IsNamed cells other j × HasTwoTops cells top i j

abbrev OfTop : List CellDraft → Option (List ℕ) → LinkFault → Type 0
OfTop cells top f = ((f ≡ NoTop) × HasNoTop cells top) ⊎ (Unclear cells top f ⊎ (((i : ℕ) × IsTop cells top i) × OfRange cells f))

abbrev OfDepth : List CellDraft → Option (List ℕ) → LinkFault → Type 0
OfDepth cells top f = ((name : List ℕ) × (f ≡ TooDeep name) × IsFirstNamed cells (IsTooDeep (Refers cells)) name) ⊎ (HasNoDeep cells × OfTop cells top f)

abbrev OfCycles : List CellDraft → Option (List ℕ) → LinkFault → Type 0
OfCycles cells top f = ((name : List ℕ) × (f ≡ Cycle name) × IsFirstNamed cells (IsOnCycle (Refers cells)) name) ⊎ (HasNoCycle cells × OfDepth cells top f)

abbrev OfNames : List CellDraft → Option (List ℕ) → LinkFault → Type 0
OfNames cells top f = ((name : List ℕ) × (f ≡ NoSuchCell name) × IsFirstLoose cells name) ⊎ (HasNoLoose cells × OfCycles cells top f)

abbrev OfRepeats : List CellDraft → Option (List ℕ) → LinkFault → Type 0
OfRepeats cells top f = ((name : List ℕ) × (f ≡ DuplicateCell name) × IsFirstNamed cells (IsRepeat cells) name) ⊎ (HasNoRepeat cells × OfNames cells top f)

abbrev OfCount : List CellDraft → Option (List ℕ) → LinkFault → Type 0
OfCount cells top f = ((f ≡ TooManyCells) × (2 ^ 16 < length cells)) ⊎ (HasFew cells × OfRepeats cells top f)

of_sound : (cells : List CellDraft) (top : Option (List ℕ)) (f : LinkFault) → AreSound cells → OfTop cells top f → OfCount cells top f
of_sound cells top f s h = inr (s.few, inr (s.once, inr (s.resolved, inr (s.no_cycle, inr (s.no_deep, h)))))

in_turn : (cells : List CellDraft) (top : Option (List ℕ)) (f : LinkFault) → IsFault cells top f → f ≢ NoMemoryInLinks → OfCount cells top f
in_turn cells top TooManyCells h some = inl (refl, h)
in_turn cells top (DuplicateCell name) h some = inr (h.0, inl (name, refl, h.1))
in_turn cells top (NoSuchCell name) h some = inr (h.0, inr (h.1, inl (name, refl, h.2)))
in_turn cells top (Cycle name) h some = inr (h.0, inr (h.1, inr (h.2, inl (name, refl, h.3))))
in_turn cells top (TooDeep name) h some = inr (h.0, inr (h.1, inr (h.2, inr (h.3, inl (name, refl, h.4)))))
in_turn cells top NoTop h some = of_sound cells top NoTop h.0 (inl (refl, h.1))
in_turn cells top (TopUnclear one other) (s, i, j, a, b, h) some = of_sound cells top (TopUnclear one other) s (inr (inl (one, other, i, j, refl, a, b, h)))
in_turn cells top (CoordinateRange name) (s, t, h) some = of_sound cells top (CoordinateRange name) s (inr (inr (t, (name, refl, h))))
in_turn cells top NoMemoryInLinks h some = absurd (some refl)

none_first : (cells : List CellDraft) (P : ℕ → Type 0) (name : List ℕ) → IsFirstNamed cells P name → ((i : ℕ) → P i → ⊥) → ⊥
none_first cells P name (i, n, h) none = none i h.here

none_loose : (cells : List CellDraft) (name : List ℕ) → IsFirstLoose cells name → HasNoLoose cells → ⊥
none_loose cells name h none = none h.cell h.number (is_loose cells name h)

-- a top and no top
top_or_none : (cells : List CellDraft) (top : Option (List ℕ)) (i : ℕ) → IsTop cells top i → HasNoTop cells top → ⊥
top_or_none cells None i (r, only) e = let lt = r.there in let len : length cells ≡ 0 = ap (λ (cs : List CellDraft). length cs) e in omega (arith, lt, len)
top_or_none cells (Some name) i n none = none i n

-- a top and two
top_or_two : (cells : List CellDraft) (top : Option (List ℕ)) (k i j : ℕ) → IsTop cells top k → HasTwoTops cells top i j → ⊥
top_or_two cells None k i j (r, only) two =
    let a = only i two.first.here in
    let b = only j two.next.here.1 in
    let lt = two.next.here.0 in
    omega (arith, a, b, lt)
top_or_two cells (Some name) k i j n two = absurd two

-- two and none
two_or_none : (cells : List CellDraft) (top : Option (List ℕ)) (i j : ℕ) → HasTwoTops cells top i j → HasNoTop cells top → ⊥
two_or_none cells None i j two e = let lt = two.first.here.there in let len : length cells ≡ 0 = ap (λ (cs : List CellDraft). length cs) e in omega (arith, lt, len)
two_or_none cells (Some name) i j two e = absurd two

one_two : (cells : List CellDraft) (top : Option (List ℕ)) (i j k m : ℕ) → HasTwoTops cells top i j → HasTwoTops cells top k m → (i ≡ k) × (j ≡ m)
one_two cells None i j k m a b =
    let first = one_first (IsRoot cells) i k a.first b.first in
    let next : IsFirst (λ (n : ℕ). (k < n) × IsRoot cells n) j = subst (λ (l : ℕ). IsFirst (λ (n : ℕ). (l < n) × IsRoot cells n) j) first a.next in
    (first, one_first (λ (n : ℕ). (k < n) × IsRoot cells n) j m next b.next)
one_two cells (Some name) i j k m a b = absurd a

module _ (cells : List CellDraft) (top : Option (List ℕ)) (f g : LinkFault) where
  on_unclear : Unclear cells top f → Unclear cells top g → f ≡ g
  on_unclear (one, other, i, j, e, a, b, h) (this, that, k, m, d, x, y, w) =
      let same = one_two cells top i j k m h w in
      let first = name_at cells one this i k a x same.0 in
      let next = name_at cells other that j m b y same.1 in
      e ∙ ap (λ (n : List ℕ). TopUnclear n other) first ∙ ap (λ (n : List ℕ). TopUnclear this n) next ∙ sym d

  on_top : HasNoDeep cells → OfTop cells top f → OfTop cells top g → f ≡ g
  on_top deep (inl a) (inl b) = a.0 ∙ sym b.0
  on_top deep (inl a) (inr (inl (one, other, i, j, e, x, y, h))) = absurd (two_or_none cells top i j h a.1)
  on_top deep (inl a) (inr (inr b)) = absurd (top_or_none cells top b.0.0 b.0.1 a.1)
  on_top deep (inr (inl (one, other, i, j, e, x, y, h))) (inl b) = absurd (two_or_none cells top i j h b.1)
  on_top deep (inr (inl a)) (inr (inl b)) = on_unclear a b
  on_top deep (inr (inl (one, other, i, j, e, x, y, h))) (inr (inr b)) = absurd (top_or_two cells top b.0.0 i j b.0.1 h)
  on_top deep (inr (inr a)) (inl b) = absurd (top_or_none cells top a.0.0 a.0.1 b.1)
  on_top deep (inr (inr a)) (inr (inl (one, other, i, j, e, x, y, h))) = absurd (top_or_two cells top a.0.0 i j a.0.1 h)
  on_top deep (inr (inr (t, (n, e, a)))) (inr (inr (u, (m, d, b)))) = e ∙ ap (λ (k : List ℕ). CoordinateRange k) (one_far cells deep n m a b) ∙ sym d

  on_depth : OfDepth cells top f → OfDepth cells top g → f ≡ g
  on_depth (inl (n, e, a)) (inl (m, d, b)) = e ∙ ap (λ (k : List ℕ). TooDeep k) (one_first_named cells (IsTooDeep (Refers cells)) n m a b) ∙ sym d
  on_depth (inl (n, e, a)) (inr b) = absurd (none_first cells (IsTooDeep (Refers cells)) n a b.0)
  on_depth (inr a) (inl (m, d, b)) = absurd (none_first cells (IsTooDeep (Refers cells)) m b a.0)
  on_depth (inr a) (inr b) = on_top a.0 a.1 b.1

  on_cycles : OfCycles cells top f → OfCycles cells top g → f ≡ g
  on_cycles (inl (n, e, a)) (inl (m, d, b)) = e ∙ ap (λ (k : List ℕ). Cycle k) (one_first_named cells (IsOnCycle (Refers cells)) n m a b) ∙ sym d
  on_cycles (inl (n, e, a)) (inr b) = absurd (none_first cells (IsOnCycle (Refers cells)) n a b.0)
  on_cycles (inr a) (inl (m, d, b)) = absurd (none_first cells (IsOnCycle (Refers cells)) m b a.0)
  on_cycles (inr a) (inr b) = on_depth a.1 b.1

  on_names : OfNames cells top f → OfNames cells top g → f ≡ g
  on_names (inl (n, e, a)) (inl (m, d, b)) = e ∙ ap (λ (k : List ℕ). NoSuchCell k) (one_loose cells n m a b) ∙ sym d
  on_names (inl (n, e, a)) (inr b) = absurd (none_loose cells n a b.0)
  on_names (inr a) (inl (m, d, b)) = absurd (none_loose cells m b a.0)
  on_names (inr a) (inr b) = on_cycles a.1 b.1

  on_repeats : OfRepeats cells top f → OfRepeats cells top g → f ≡ g
  on_repeats (inl (n, e, a)) (inl (m, d, b)) = e ∙ ap (λ (k : List ℕ). DuplicateCell k) (one_first_named cells (IsRepeat cells) n m a b) ∙ sym d
  on_repeats (inl (n, e, a)) (inr b) = absurd (none_first cells (IsRepeat cells) n a b.0)
  on_repeats (inr a) (inl (m, d, b)) = absurd (none_first cells (IsRepeat cells) m b a.0)
  on_repeats (inr a) (inr b) = on_names a.1 b.1

  one_fault : OfCount cells top f → OfCount cells top g → f ≡ g
  one_fault (inl a) (inl b) = a.0 ∙ sym b.0
  one_fault (inl a) (inr b) = absurd (let x = a.1 in let y = b.0 in let z : ⊥ = omega (arith, x, y) in z)
  one_fault (inr a) (inl b) = absurd (let x = a.0 in let y = b.1 in let z : ⊥ = omega (arith, x, y) in z)
  one_fault (inr a) (inr b) = on_repeats a.1 b.1

-- drafts that are linked have no fault
no_fault : (cells : List CellDraft) (top : Option (List ℕ)) (d : Linked) (f : LinkFault) → IsLink cells top d → OfCount cells top f → ⊥
no_fault cells top d f l (inl a) = let x = a.1 in let y = l.sound.few in omega (arith, x, y)
no_fault cells top d f l (inr (few, inl (n, e, a))) = none_first cells (IsRepeat cells) n a l.sound.once
no_fault cells top d f l (inr (few, inr (once, inl (n, e, a)))) = none_loose cells n a l.sound.resolved
no_fault cells top d f l (inr (few, inr (once, inr (resolved, inl (n, e, a))))) = none_first cells (IsOnCycle (Refers cells)) n a l.sound.no_cycle
no_fault cells top d f l (inr (few, inr (once, inr (resolved, inr (cycle, inl (n, e, a)))))) = none_first cells (IsTooDeep (Refers cells)) n a l.sound.no_deep
no_fault cells top d f l (inr (few, inr (once, inr (resolved, inr (cycle, inr (deep, inl a)))))) = top_or_none cells top d.top l.tops a.1
no_fault cells top d f l (inr (few, inr (once, inr (resolved, inr (cycle, inr (deep, inr (inl (one, other, i, j, e, x, y, h)))))))) = top_or_two cells top d.top i j l.tops h
no_fault cells top d f l (inr (few, inr (once, inr (resolved, inr (cycle, inr (deep, inr (inr (t, (n, e, a))))))))) = l.near a.cell a.far

-- ---- the faults of bytes

not_linked : (v : Library) (top : Option (List ℕ)) (f : LinkFault) → IsLinkFault v top f → IsNotLinked v top f × (f ≢ NoMemoryInLinks)
not_linked v top TooManyCells h = (h, λ e. cc)
not_linked v top (DuplicateCell name) h = (h, λ e. cc)
not_linked v top (NoSuchCell name) h = (h, λ e. cc)
not_linked v top (Cycle name) h = (h, λ e. cc)
not_linked v top (TooDeep name) h = (h, λ e. cc)
not_linked v top NoTop h = (h, λ e. cc)
not_linked v top (TopUnclear one other) h = (h, λ e. cc)
not_linked v top (CoordinateRange name) h = (h, λ e. cc)
not_linked v top NoMemoryInLinks h = absurd h

module _ (lists : OneListLaw) (libraries : stream.OneLibraryLaw) (no_faults : stream.NoFaultLaw) (one_faults : stream.OneFaultLaw) where
  -- a fault of the library's drafts is one of any others of it
  for_drafts : (v : Library) (top : Option (List ℕ)) (f : LinkFault) (drafts : List CellDraft) → AreDraftsOf v.cells drafts → IsLinkFault v top f → OfCount drafts top f
  for_drafts v top f drafts drafted h =
      let n = not_linked v top f h in
      let there = are_in lists v.cells n.0.drafts drafts n.0.drafted drafted in
      let back = are_in lists v.cells drafts n.0.drafts drafted n.0.drafted in
      let count : length n.0.drafts ≡ length drafts = same_count v.cells n.0.drafts n.0.drafted ∙ sym (same_count v.cells drafts drafted) in
      in_turn drafts top f (fault_too n.0.drafts drafts count there back top f n.0.fault) n.1

  pub no_fault_read : NoFaultLaw
  no_fault_read bytes top l (Gds (Bad number index offset)) read h = absurd (no_faults bytes read.library number index offset read.accepted h)
  no_fault_read bytes top l (Gds NoMemoryInStream) read h = absurd h
  no_fault_read bytes top l (Link f) read (v, accepted, h) =
      let here : IsLinkFault read.library top f = subst (λ (w : Library). IsLinkFault w top f) (libraries bytes v read.library accepted read.accepted) h in
      absurd (no_fault read.layout.drafts top l.design f read.layout.linked (for_drafts read.library top f read.layout.drafts read.layout.drafted here))
  no_fault_read bytes top l NoMemory read h = refl

  one_link : (bytes : List ℕ) (top : Option (List ℕ)) (f g : LinkFault) (v w : Library) → Accepts bytes v → Accepts bytes w → IsLinkFault v top f → IsLinkFault w top g → f ≡ g
  one_link bytes top f g v w x y h k =
      let here : IsLinkFault v top g = subst (λ (u : Library). IsLinkFault u top g) (libraries bytes w v y x) k in
      let n = not_linked v top f h in
      one_fault n.0.drafts top f g (in_turn n.0.drafts top f n.0.fault n.1) (for_drafts v top g n.0.drafts n.0.drafted here)

  pub one_fault_of : OneFaultLaw
  one_fault_of bytes top (Gds (Bad n i o)) (Gds (Bad m j q)) h k some more =
      let same = one_faults bytes n i o m j q h k in
      rw (same.0, same.1, same.2) refl
  one_fault_of bytes top (Gds (Bad n i o)) (Gds NoMemoryInStream) h k some more = absurd k
  one_fault_of bytes top (Gds (Bad n i o)) (Link g) h (v, accepted, k) some more = absurd (no_faults bytes v n i o accepted h)
  one_fault_of bytes top (Gds (Bad n i o)) NoMemory h k some more = absurd (more refl)
  one_fault_of bytes top (Gds NoMemoryInStream) g h k some more = absurd h
  one_fault_of bytes top (Link f) (Gds (Bad n i o)) (v, accepted, h) k some more = absurd (no_faults bytes v n i o accepted k)
  one_fault_of bytes top (Link f) (Gds NoMemoryInStream) h k some more = absurd k
  one_fault_of bytes top (Link f) (Link g) (v, x, h) (w, y, k) some more = ap (λ (e : LinkFault). Link e) (one_link bytes top f g v w x y h k)
  one_fault_of bytes top (Link f) NoMemory h k some more = absurd (more refl)
  one_fault_of bytes top NoMemory g h k some more = absurd (some refl)
