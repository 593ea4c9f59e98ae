-- Marks, a stack, and the walk that they keep.
use Rattle.std.proofs.Common.{◌≡◌, ◌⊎◌, inl, inr, ℕ, zero, suc, ◌+◌, ◌<◌, ◌≤◌, List, [], ◌∷◌, ◌++◌, Some, None, length, get_or, set, slice_get, refl, sym, ◌∙◌, ap, subst, arith, true, false, Bool, length-append}
use Rattle.std.proofs.Math.Decide.{ℕ_discrete}
use Rattle.std.proofs.Math.ListN.{replicate}
use Rattle.std.proofs.lemmas.List.{get_or-set_same, get_or-set_other, length-set, length-replicate}
use Rattle.std.proofs.lemmas.List.Sums.{sum_by-set}
use Rattle.std.proofs.lemmas.Option.{slice_get_within, slice_get-get_or}
use Rattle.cell_graph.specs.declared.cells.Place.{Place}
use Rattle.cell_graph.specs.Chains.{Leads}
use Rattle.cell_graph.specs.Parts.{Part, IsAmong, Places, AreInside, AreResolved}
use Rattle.cell_graph.specs.Marking.{IsMarked, IsOn, IsAmongFirst, AddsMarks, IsWalk, AreMarked, unmarked, one_if_free}

pub on_left : (s t : List ℕ) (j : ℕ) → IsOn s j → IsOn (s ++ t) j
on_left [] t j (k, e) = let f : None ≡ Some j = e in absurd (let z : ⊥ = cc in z)
on_left (x ∷ s) t j (zero, e) = (0, e)
on_left (x ∷ s) t j (suc k, e) = let h = on_left s t j (k, e) in (suc h.0, h.1)

pub on_last : (s : List ℕ) (x : ℕ) → IsOn (s ++ x ∷ []) x
on_last [] x = (0, refl)
on_last (y ∷ s) x = let h = on_last s x in (suc h.0, h.1)

pub on_split : (s : List ℕ) (x j : ℕ) → IsOn (s ++ x ∷ []) j → IsOn s j ⊎ (j ≡ x)
on_split [] x j (zero, e) = inr (let f : Some x ≡ Some j = e in let g : j ≡ x = cc in g)
on_split [] x j (suc k, e) = let f : None ≡ Some j = e in absurd (let z : ⊥ = cc in z)
on_split (y ∷ s) x j (zero, e) = inl (0, e)
on_split (y ∷ s) x j (suc k, e) = elim (on_split s x j (k, e)) [ inl h ↦ inl (suc h.0, h.1) | inr h ↦ inr h ]

pub marked_in : (marks : List Bool) (i : ℕ) → IsMarked marks i → i < length marks
marked_in [] i e = let f : false ≡ true = e in absurd (let z : ⊥ = cc in z)
marked_in (b ∷ marks) zero e = omega arith
marked_in (b ∷ marks) (suc i) e = let h = marked_in marks i e in omega arith

pub mark_old : (marks : List Bool) (stack : List ℕ) (cell : ℕ) → IsMarked marks cell → AddsMarks (λ i. i ≡ cell) marks marks stack stack
mark_old marks stack cell e = record {
  count = refl;
  stay = λ i h. h;
  here = λ i is. subst (IsMarked marks) (sym is) e;
  fresh = λ i h. inl h;
  lower = λ i h. h;
  upper = λ i h. inl h;
  size = refl;
}

pub mark_new : (marks : List Bool) (stack : List ℕ) (cell : ℕ) → cell < length marks → get_or marks cell false ≡ false → AddsMarks (λ i. i ≡ cell) marks (set marks cell true) stack (stack ++ cell ∷ [])
mark_new marks stack cell lt e =
    let same = get_or-set_same marks cell true false lt in
    record {
      count = length-set marks cell true;
      stay = λ i h. elim (ℕ_discrete i cell) [
        | yes is ↦ subst (IsMarked (set marks cell true)) (sym is) same
        | no not ↦ get_or-set_other marks cell i true false not ∙ h
      ];
      here = λ i is. subst (IsMarked (set marks cell true)) (sym is) same;
      fresh = λ i h. elim (ℕ_discrete i cell) [
        | yes is ↦ inr (is, subst (IsOn (stack ++ cell ∷ [])) (sym is) (on_last stack cell))
        | no not ↦ inl (sym (get_or-set_other marks cell i true false not) ∙ h)
      ];
      lower = λ i h. on_left stack (cell ∷ []) i h;
      upper = λ i h. on_split stack cell i h;
      size =
          let a = sum_by-set one_if_free marks cell true false lt in
          let b : one_if_free (get_or marks cell false) ≡ 1 = ap one_if_free e in
          let l = length-append stack (cell ∷ []) in
          let f : length (stack ++ cell ∷ []) + unmarked (set marks cell true) ≡ length stack + unmarked marks = omega arith in f;
    }

pub none_marked : (places : List Place) (marks : List Bool) (stack : List ℕ) → AddsMarks (IsAmongFirst places 0) marks marks stack stack
none_marked places marks stack = record {
  count = refl;
  stay = λ i h. h;
  here = λ i (k, p, lt, at, is). absurd (let z : ⊥ = omega arith in z);
  fresh = λ i h. inl h;
  lower = λ i h. h;
  upper = λ i h. inl h;
  size = refl;
}

first_more : (places : List Place) (n j : ℕ) → IsAmongFirst places n j → IsAmongFirst places (n + 1) j
first_more places n j (k, p, lt, at, is) = (k, p, (let f : k < n + 1 = omega arith in f), at, is)

pub marks_next : (places : List Place) (n : ℕ) (d : Place) (m m1 m2 : List Bool) (s s1 s2 : List ℕ) → n < length places
    → AddsMarks (IsAmongFirst places n) m m1 s s1 → AddsMarks (λ i. i ≡ (get_or places n d).cell) m1 m2 s1 s2 → AddsMarks (IsAmongFirst places (n + 1)) m m2 s s2
marks_next places n d m m1 m2 s s1 s2 lt a b =
    let p = get_or places n d in
    let at = slice_get-get_or places n d lt in
    let now : (i : ℕ) → i ≡ p.cell → IsAmongFirst places (n + 1) i = λ i is. (n, p, (let f : n < n + 1 = omega arith in f), at, sym is) in
    record {
      count = b.count ∙ a.count;
      stay = λ i h. b.stay i (a.stay i h);
      here = λ i (k, q, below, there, is). elim (ℕ_discrete k n) [
        | yes e ↦
            let f : slice_get places n ≡ Some q = subst (λ x. slice_get places x ≡ Some q) e there in
            let same : p ≡ q = (let g : Some p ≡ Some q = sym at ∙ f in cc) in
            b.here i (sym is ∙ ap (λ (r : Place). r.cell) (sym same))
        | no e ↦ b.stay i (a.here i (k, q, (let f : k < n = omega arith in f), there, is))
      ];
      fresh = λ i h. elim (b.fresh i h) [
        | inl g ↦ elim (a.fresh i g) [ inl x ↦ inl x | inr x ↦ inr (first_more places n i x.0, b.lower i x.1) ]
        | inr g ↦ inr (now i g.0, g.1)
      ];
      lower = λ i h. b.lower i (a.lower i h);
      upper = λ i h. elim (b.upper i h) [
        | inl g ↦ elim (a.upper i g) [ inl x ↦ inl x | inr x ↦ inr (first_more places n i x) ]
        | inr g ↦ inr (now i g)
      ];
      size = b.size ∙ a.size;
    }

pub all_marked : (places : List Place) (n : ℕ) (m m1 : List Bool) (s s1 : List ℕ) → length places ≤ n → AddsMarks (IsAmongFirst places n) m m1 s s1 → AddsMarks (IsAmong places) m m1 s s1
all_marked places n m m1 s s1 le a =
    let to : (i : ℕ) → IsAmong places i → IsAmongFirst places n i = λ i (k, p, at, is). let lt = slice_get_within places k p at in (k, p, (let f : k < n = omega arith in f), at, is) in
    let from : (i : ℕ) → IsAmongFirst places n i → IsAmong places i = λ i (k, p, lt, at, is). (k, p, at, is) in
    record {
      count = a.count;
      stay = a.stay;
      here = λ i h. a.here i (to i h);
      fresh = λ i h. elim (a.fresh i h) [ inl x ↦ inl x | inr x ↦ inr (from i x.0, x.1) ];
      lower = a.lower;
      upper = λ i h. elim (a.upper i h) [ inl x ↦ inl x | inr x ↦ inr (from i x) ];
      size = a.size;
    }

-- one more step at a chain's end
pub leads_on : (R : ℕ → ℕ → Type 0) (n i j k : ℕ) → Leads R i n j → R j k → Leads R i (suc n) k
leads_on R zero i j k l r = (k, subst (λ c. R c k) (sym l) r, refl)
leads_on R (suc n) i j k (c, first, l) r = (c, first, leads_on R n c j k l r)

part_is : (parts : List Part) (i j : ℕ) (part : Part) → slice_get parts i ≡ Some part → Places parts i j → IsAmong part.items j
part_is parts i j part there r =
    let same : r.part ≡ part = (let g : Some r.part ≡ Some part = sym r.there ∙ there in cc) in
    subst (λ (c : Part). IsAmong c.items j) same r.among

pub none_yet : (n i : ℕ) → IsMarked (replicate n false) i → ⊥
none_yet zero i e = let f : false ≡ true = e in cc
none_yet (suc n) zero e = let f : false ≡ true = e in cc
none_yet (suc n) (suc i) e = none_yet n i e

-- a part that was read
pub part_read : (parts : List Part) (i : ℕ) (part : Part) → i < length parts → part ≡ get_or parts i part → slice_get parts i ≡ Some part
part_read parts i part lt is = slice_get-get_or parts i part lt ∙ ap Some (sym is)

pub places_inside : (parts : List Part) (i : ℕ) (part : Part) (places : List Place) (n : ℕ) → AreResolved parts → i < length parts → part ≡ get_or parts i part → places ≡ part.items → n ≡ length parts
    → AreInside places n
places_inside parts i part places n h lt is are count = rw (are, count) (h.inside i part (part_read parts i part lt is))

pub walk_begins : (parts : List Part) (start : ℕ) (part : Part) (m m1 : List Bool) (s1 : List ℕ) → slice_get parts start ≡ Some part → m ≡ replicate (length parts) false
    → AddsMarks (IsAmong part.items) m m1 [] s1 → IsWalk parts start m1 s1
walk_begins parts start part m m1 s1 there fresh a =
    let none : (i : ℕ) → IsMarked m i → ⊥ = λ i h. none_yet (length parts) i (subst (λ (xs : List Bool). IsMarked xs i) fresh h) in
    let place : (j : ℕ) → IsAmong part.items j → Places parts start j = λ j h. record { part = part; there = there; among = h } in
    record {
      count = a.count ∙ ap length fresh ∙ length-replicate (length parts) false;
      below = λ i h. elim (a.fresh i h) [ inl x ↦ absurd (none i x) | inr x ↦ (0, (i, place i x.0, refl)) ];
      noted = λ i h. elim (a.fresh i h) [ inl x ↦ absurd (none i x) | inr x ↦ inl x.1 ];
      first = λ j r. a.here j (part_is parts start j part there r);
      stacked = λ i h. elim (a.upper i h) [ inl x ↦ (let f : None ≡ Some i = x.1 in absurd (let z : ⊥ = cc in z)) | inr x ↦ a.here i x ];
    }

pub walk_goes_on : (parts : List Part) (start next : ℕ) (part : Part) (m m1 : List Bool) (s rest s1 : List ℕ) → slice_get parts next ≡ Some part → s ≡ rest ++ next ∷ []
    → IsWalk parts start m s → AddsMarks (IsAmong part.items) m m1 rest s1 → IsWalk parts start m1 s1
walk_goes_on parts start next part m m1 s rest s1 there e w a =
    let on : IsOn s next = subst (λ t. IsOn t next) (sym e) (on_last rest next) in
    let here = w.below next (w.stacked next on) in
    let lower : (i : ℕ) → IsOn rest i → IsOn s i = λ i h. subst (λ t. IsOn t i) (sym e) (on_left rest (next ∷ []) i h) in
    record {
      count = a.count ∙ w.count;
      below = λ i h. elim (a.fresh i h) [
        | inl x ↦ w.below i x
        | inr x ↦ (suc here.0, leads_on (Places parts) (suc here.0) start next i here.1 (record { part = part; there = there; among = x.0 }))
      ];
      noted = λ i h. elim (a.fresh i h) [
        | inl x ↦ elim (w.noted i x) [
          | inl o ↦ elim (on_split rest next i (subst (λ t. IsOn t i) e o)) [
            | inl r ↦ inl (a.lower i r)
            | inr is ↦ inr (λ j r. a.here j (part_is parts next j part there (subst (λ k. Places parts k j) is r)))
          ]
          | inr f ↦ inr (λ j r. a.stay j (f j r))
        ]
        | inr x ↦ inl x.1
      ];
      first = λ j r. a.stay j (w.first j r);
      stacked = λ i h. elim (a.upper i h) [ inl x ↦ a.stay i (w.stacked i (lower i x)) | inr x ↦ a.here i x ];
    }

along : (parts : List Part) (start : ℕ) (m : List Bool) → IsWalk parts start m [] → (n k i : ℕ) → IsMarked m k → Leads (Places parts) k n i → IsMarked m i
along parts start m w zero k i h l = subst (IsMarked m) l h
along parts start m w (suc n) k i h (c, r, l) = elim (w.noted k h) [
  | inl o ↦ (let f : None ≡ Some k = o.1 in absurd (let z : ⊥ = cc in z))
  | inr f ↦ along parts start m w n c i (f c r) l
]

pub walk_ends : (parts : List Part) (start : ℕ) (m : List Bool) (s : List ℕ) → s ≡ [] → IsWalk parts start m s → AreMarked parts start m
walk_ends parts start m s e w0 =
    let w : IsWalk parts start m [] = subst (IsWalk parts start m) e w0 in
    record {
      count = w.count;
      exact = λ i. (w.below i, (λ (n, (c, r, l)). along parts start m w n c i (w.first c r) l));
    }

-- what stands last on the stack is a cell
pub next_inside : (parts : List Part) (start next : ℕ) (m : List Bool) (s rest : List ℕ) → s ≡ rest ++ next ∷ [] → IsWalk parts start m s → next < length parts
next_inside parts start next m s rest e w =
    let on : IsOn s next = subst (λ t. IsOn t next) (sym e) (on_last rest next) in
    subst (λ n. next < n) w.count (marked_in m next (w.stacked next on))

pub no_items : (s : List ℕ) → length s ≡ 0 → s ≡ []
no_items [] e = refl
no_items (x ∷ s) e = absurd (let z : ⊥ = omega arith in z)
