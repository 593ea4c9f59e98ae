-- Cells finished one by one.
use Rattle.std.proofs.Common.{◌≡◌, inl, inr, ℕ, zero, suc, ◌+◌, ◌<◌, ◌≤◌, Bool, List, [], ◌∷◌, ◌++◌, Option, Some, None, length, set, slice_get, refl, sym, ◌∙◌, ap, subst, arith, length-append}
use Rattle.base_laws.proofs.Items.{get_left, get_last}
use Rattle.std.proofs.Math.Decide.{ℕ_discrete}
use Rattle.std.proofs.lemmas.Option.{slice_get_within}
use Rattle.std.proofs.lemmas.List.{length-set}
use Rattle.cell_graph.specs.declared.cells.CellPart.{CellPart}
use Rattle.cell_graph.specs.declared.bounds.Bounds.{Bounds}
use Rattle.cell_graph.specs.declared.drafts.CellDraft.{CellDraft}
use Rattle.cell_graph.specs.Extents.{found_at}
use Rattle.cell_graph.specs.Parts.{Part}
use Rattle.cell_graph.specs.Rising.{height_in}
use Rattle.cell_graph.specs.Marking.{AreMarked, IsMarked}
use Rattle.cell_graph.specs.Finished.{IsMade, AreMadeTo, IsFromTop, AreReached}
use Rattle.cell_graph.proofs.Looking.{last_split}

pub record FinishedTo (drafts : List CellDraft) (all : List Part) (bounds : List (Option Bounds)) (heights : List ℕ) (i : ℕ) (parts : List Part) (cells : List CellPart) : Type 0 where
  pub made : AreMadeTo drafts all bounds heights i cells
  pub count : length parts ≡ length all
  pub later : (k : ℕ) (part : Part) → i ≤ k → slice_get all k ≡ Some part → slice_get parts k ≡ Some part

pub nothing_finished : (drafts : List CellDraft) (all : List Part) (bounds : List (Option Bounds)) (heights : List ℕ) → FinishedTo drafts all bounds heights 0 all []
nothing_finished drafts all bounds heights = record {
  made = record { count = refl; each = λ i c part p a b d. (let f : None ≡ Some p = d in absurd (let z : ⊥ = cc in z)) };
  count = refl;
  later = λ k part le e. e;
}

pub set_other : {A : Type 0} (xs : List A) (i k : ℕ) (x : A) → (i ≡ k → ⊥) → slice_get (set xs i x) k ≡ slice_get xs k
set_other [] i k x not = refl
set_other (y ∷ xs) zero zero x not = absurd (not refl)
set_other (y ∷ xs) zero (suc k) x not = refl
set_other (y ∷ xs) (suc i) zero x not = refl
set_other (y ∷ xs) (suc i) (suc k) x not = set_other xs i k x (λ e. not (ap suc e))

pub one_finished : (drafts : List CellDraft) (all : List Part) (bounds : List (Option Bounds)) (heights : List ℕ) (i : ℕ) (parts : List Part) (cells : List CellPart) (c : CellDraft) (part fresh : Part) (p : CellPart)
    → slice_get drafts i ≡ Some c → slice_get parts i ≡ Some part → IsMade c part.items (found_at bounds i) (height_in heights i) p
    → FinishedTo drafts all bounds heights i parts cells → FinishedTo drafts all bounds heights (i + 1) (set parts i fresh) (cells ++ p ∷ [])
one_finished drafts all bounds heights i parts cells c part fresh p at_c at_part made h = record {
  made = record {
    count = length-append cells (p ∷ []) ∙ ap (λ k. k + 1) h.made.count;
    each = λ k d q r at_d at_q at_r. elim (last_split cells p r k at_r) [
      | inl old ↦ h.made.each k d q r at_d at_q old
      | inr (e, same) ↦
          let is : k ≡ i = e ∙ h.made.count in
          let f : c ≡ d = (let g : Some c ≡ Some d = sym at_c ∙ subst (λ k. slice_get drafts k ≡ Some d) is at_d in cc) in
          let q_at : slice_get parts i ≡ Some q = h.later i q (omega arith) (subst (λ k. slice_get all k ≡ Some q) is at_q) in
          let g : part ≡ q = (let g : Some part ≡ Some q = sym at_part ∙ q_at in cc) in
          let a : IsMade d part.items (found_at bounds i) (height_in heights i) p = subst (λ (d : CellDraft). IsMade d part.items (found_at bounds i) (height_in heights i) p) f made in
          let b : IsMade d q.items (found_at bounds i) (height_in heights i) p = subst (λ (q : Part). IsMade d q.items (found_at bounds i) (height_in heights i) p) g a in
          subst (λ k. IsMade d q.items (found_at bounds k) (height_in heights k) r) (sym is) (subst (λ r. IsMade d q.items (found_at bounds i) (height_in heights i) r) (sym same) b)
    ];
  };
  count = length-set parts i fresh ∙ h.count;
  later = λ k q le at. set_other parts i k fresh (λ e. (let z : ⊥ = omega arith in z)) ∙ h.later k q (omega arith) at;
}

-- the order of what is reached
pub none_kept : (parts : List Part) (top : ℕ) (order : List ℕ) → AreReached parts top order 0 []
none_kept parts top order = record {
  inside = λ j i e. (let f : None ≡ Some i = e in absurd (let z : ⊥ = cc in z));
  all = λ k i lt. absurd (let z : ⊥ = omega arith in z);
  from = λ j i e. (let f : None ≡ Some i = e in absurd (let z : ⊥ = cc in z));
  rising = λ j k a b lt e f. (let g : None ≡ Some a = e in absurd (let z : ⊥ = cc in z));
}

pub one_kept : (parts : List Part) (top : ℕ) (order : List ℕ) (n i : ℕ) (kept : List ℕ) → slice_get order n ≡ Some i → IsFromTop parts top i → AreReached parts top order n kept
    → AreReached parts top order (n + 1) (kept ++ i ∷ [])
one_kept parts top order n i kept at from h = record {
  inside = λ j a e. elim (last_split kept i a j e) [ inl f ↦ h.inside j a f | inr f ↦ subst (IsFromTop parts top) (sym f.1) from ];
  all = λ k a lt e g. elim (ℕ_discrete k n) [
    | yes is ↦
        let same : i ≡ a = (let f : Some i ≡ Some a = sym at ∙ subst (λ k. slice_get order k ≡ Some a) is e in cc) in
        (length kept, subst (λ a. slice_get (kept ++ i ∷ []) (length kept) ≡ Some a) same (get_last kept i))
    | no not ↦ let r = h.all k a (let f : k < n = omega arith in f) e g in (r.0, get_left kept (i ∷ []) r.0 a r.1)
  ];
  from = λ j a e. elim (last_split kept i a j e) [
    | inl f ↦ let r = h.from j a f in let lt = r.1 in (r.0, (let g : r.0 < n + 1 = omega arith in g), r.2)
    | inr f ↦ (n, (let g : n < n + 1 = omega arith in g), subst (λ a. slice_get order n ≡ Some a) (sym f.1) at)
  ];
  rising = λ j k a b lt e f. elim (last_split kept i b k f) [
    | inl g ↦ elim (last_split kept i a j e) [
      | inl d ↦ h.rising j k a b lt d g
      | inr d ↦ let is = d.0 in let within = slice_get_within kept k b g in absurd (let z : ⊥ = omega arith in z)
    ]
    | inr g ↦ elim (last_split kept i a j e) [
      | inl d ↦ let r = h.from j a d in (r.0, n, r.1, r.2, subst (λ b. slice_get order n ≡ Some b) (sym g.1) at)
      | inr d ↦ let is = d.0 in let too = g.0 in absurd (let z : ⊥ = omega arith in z)
    ]
  ];
}

pub one_left : (parts : List Part) (top : ℕ) (order : List ℕ) (n i : ℕ) (kept : List ℕ) → slice_get order n ≡ Some i → (IsFromTop parts top i → ⊥) → AreReached parts top order n kept
    → AreReached parts top order (n + 1) kept
one_left parts top order n i kept at not h = record {
  inside = h.inside;
  all = λ k a lt e g. elim (ℕ_discrete k n) [
    | yes is ↦
        let same : a ≡ i = (let f : Some a ≡ Some i = sym (subst (λ k. slice_get order k ≡ Some a) is e) ∙ at in cc) in
        absurd (not (subst (IsFromTop parts top) same g))
    | no no_e ↦ h.all k a (let f : k < n = omega arith in f) e g
  ];
  from = λ j a e. (let r = h.from j a e in let lt = r.1 in (r.0, (let g : r.0 < n + 1 = omega arith in g), r.2));
  rising = h.rising;
}

pub top_reached : (parts : List Part) (top i : ℕ) → i ≡ top → IsFromTop parts top i
top_reached parts top i e = (0, sym e)

pub mark_reached : (parts : List Part) (top i : ℕ) (marks : List Bool) → AreMarked parts top marks → IsMarked marks i → IsFromTop parts top i
mark_reached parts top i marks h m = let r = (h.exact i).0 m in (suc r.0, r.1)

pub reached_mark : (parts : List Part) (top i : ℕ) (marks : List Bool) → AreMarked parts top marks → (i ≡ top → ⊥) → (IsMarked marks i → ⊥) → IsFromTop parts top i → ⊥
reached_mark parts top i marks h not_top not_marked (zero, l) = not_top (sym l)
reached_mark parts top i marks h not_top not_marked (suc n, l) = not_marked ((h.exact i).1 (n, l))

pub at_middle : {A : Type 0} (all xs ys rest : List A) (y : A) → all ≡ xs ++ rest → rest ≡ y ∷ ys → slice_get all (length xs) ≡ Some y
at_middle {A = A} all xs ys rest y e f = subst (λ all. slice_get all (length xs) ≡ Some y) (sym (e ∙ ap (λ r. xs ++ r) f)) (middle xs)
  where
    middle : (xs : List A) → slice_get (xs ++ y ∷ ys) (length xs) ≡ Some y
    middle [] = refl
    middle (x ∷ xs) = middle xs

pub one_yielded : {A : Type 0} (all xs ys rest : List A) (y : A) → all ≡ xs ++ rest → rest ≡ y ∷ ys → all ≡ (xs ++ y ∷ []) ++ ys
one_yielded {A = A} all xs ys rest y e f = e ∙ ap (λ r. xs ++ r) f ∙ joined xs
  where
    joined : (xs : List A) → xs ++ y ∷ ys ≡ (xs ++ y ∷ []) ++ ys
    joined [] = refl
    joined (x ∷ xs) = ap (λ zs. x ∷ zs) (joined xs)

pub all_finished : (drafts yielded rest : List CellDraft) (all : List Part) (bounds : List (Option Bounds)) (heights : List ℕ) (i : ℕ) (parts : List Part) (cells : List CellPart)
    → drafts ≡ yielded ++ rest → rest ≡ [] → i ≡ length yielded → FinishedTo drafts all bounds heights i parts cells → AreMadeTo drafts all bounds heights (length drafts) cells
all_finished drafts yielded rest all bounds heights i parts cells e f g h =
    let len : i ≡ length drafts = g ∙ sym (ap length (e ∙ ap (λ r. yielded ++ r) f ∙ append_nil yielded)) in
    record { count = h.made.count ∙ len; each = h.made.each }
  where
    append_nil : (xs : List CellDraft) → xs ++ [] ≡ xs
    append_nil [] = refl
    append_nil (x ∷ xs) = ap (λ ys. x ∷ ys) (append_nil xs)
