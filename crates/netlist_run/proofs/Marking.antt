-- What one mark more, and a row of them, change.
use Rattle.std.proofs.Common.{◌≡◌, ◌⊎◌, inl, inr, ℕ, zero, suc, ◌+◌, ◌*◌, ◌<◌, ◌≤◌, Bool, true, false, List, [], ◌∷◌, ◌++◌, length, refl, sym, ◌∙◌, ap, subst, arith, length-append}
use Rattle.std.specs.Prelude.{not, ◌&&◌, nat_lt, slice_index_or, slice_set, if◌then◌else◌}
use Rattle.std.proofs.Math.Decide.{ℕ_discrete}
use Rattle.std.proofs.lemmas.Bool.{ltb-true}
use Rattle.plain_netlist.specs.Lists.{IsListed}
use Rattle.plain_netlist.proofs.Members.{in_left, in_right, either_side}
use Rattle.netlist_run.specs.Marks.{IsMarked}
use Rattle.netlist_run.specs.Work.{Work, with_mark, with_row}

-- how many numbers aren't marked
pub unmarked : List Bool → ℕ
unmarked [] = 0
unmarked (true ∷ marks) = unmarked marks
unmarked (false ∷ marks) = suc (unmarked marks)

-- what is left to do, at most
unfoldable pub left : Work → ℕ
left w = 2 * unmarked w.marks + length w.work

pub record Grows (row : List ℕ) (p q : Work) : Type 0 where
  pub count : length q.marks ≡ length p.marks
  pub stay : (j : ℕ) → IsMarked p.marks j → IsMarked q.marks j
  pub all : (j : ℕ) → IsListed j row → j < length p.marks → IsMarked q.marks j
  pub only : (j : ℕ) → IsMarked q.marks j → IsMarked p.marks j ⊎ IsListed j row
  pub kept : (j : ℕ) → IsListed j p.work → IsListed j q.work
  pub fresh : (j : ℕ) → IsListed j q.work → IsListed j p.work ⊎ IsMarked q.marks j
  pub pushed : (j : ℕ) → IsMarked q.marks j → IsMarked p.marks j ⊎ IsListed j q.work
  pub less : left q ≤ left p

set_here : (xs : List Bool) (k : ℕ) (v : Bool) → k < length xs → slice_index_or (slice_set xs k v) k false ≡ v
set_here [] k v h = absurd (omega arith)
set_here (x ∷ xs) zero v h = refl
set_here (x ∷ xs) (suc k) v h = set_here xs k v (omega arith)

set_other : (xs : List Bool) (k : ℕ) (v : Bool) (j : ℕ) → (j ≡ k → ⊥) → slice_index_or (slice_set xs k v) j false ≡ slice_index_or xs j false
set_other [] k v j h = refl
set_other (x ∷ xs) zero v zero h = absurd (h refl)
set_other (x ∷ xs) zero v (suc j) h = refl
set_other (x ∷ xs) (suc k) v zero h = refl
set_other (x ∷ xs) (suc k) v (suc j) h = set_other xs k v j (λ e. h (ap suc e))

set_long : (xs : List Bool) (k : ℕ) (v : Bool) → length (slice_set xs k v) ≡ length xs
set_long [] k v = refl
set_long (x ∷ xs) zero v = refl
set_long (x ∷ xs) (suc k) v = ap suc (set_long xs k v)

set_less : (xs : List Bool) (k : ℕ) → k < length xs → slice_index_or xs k false ≡ false → suc (unmarked (slice_set xs k true)) ≡ unmarked xs
unfolding unmarked
set_less [] k h e = absurd (omega arith)
set_less (true ∷ xs) zero h e = absurd cc
set_less (false ∷ xs) zero h e = refl
set_less (true ∷ xs) (suc k) h e = set_less xs k (omega arith) e
set_less (false ∷ xs) (suc k) h e = ap suc (set_less xs k (omega arith) e)

same : (row : List ℕ) (p : Work) → ((j : ℕ) → IsListed j row → j < length p.marks → IsMarked p.marks j) → Grows row p p
same row p known = record {
  count = refl;
  stay = λ j h. h;
  all = known;
  only = λ j h. inl h;
  kept = λ j h. h;
  fresh = λ j h. inl h;
  pushed = λ j h. inl h;
  less = omega arith;
}

marked_new : (marks : List Bool) (work : List ℕ) (k : ℕ) → k < length marks → slice_index_or marks k false ≡ false
    → Grows (k ∷ []) (record { marks = marks; work = work }) (record { marks = slice_set marks k true; work = work ++ k ∷ [] })
unfolding left unmarked
marked_new marks work k lt e = record {
  count = set_long marks k true;
  stay = λ j h. elim (ℕ_discrete j k) [ yes is ↦ here j is | no not_is ↦ set_other marks k true j not_is ∙ h ];
  all = λ j h l. elim h [ inl is ↦ here j is | inr none ↦ absurd none ];
  only = λ j h. elim (ℕ_discrete j k) [ yes is ↦ inr (inl is) | no not_is ↦ inl (sym (set_other marks k true j not_is) ∙ h) ];
  kept = λ j h. in_left work (k ∷ []) j h;
  fresh = λ j h. elim (either_side work (k ∷ []) j h) [ inl a ↦ inl a | inr b ↦ elim b [ inl is ↦ inr (here j is) | inr none ↦ absurd none ] ];
  pushed = λ j h. elim (ℕ_discrete j k) [ yes is ↦ inr (in_right work (k ∷ []) j (inl is)) | no not_is ↦ inl (sym (set_other marks k true j not_is) ∙ h) ];
  less = fewer;
}
  where
    here : (j : ℕ) → j ≡ k → IsMarked (slice_set marks k true) j
    here j is = subst (λ (i : ℕ). IsMarked (slice_set marks k true) i) (sym is) (set_here marks k true lt)

    fewer : 2 * unmarked (slice_set marks k true) + length (work ++ k ∷ []) ≤ 2 * unmarked marks + length work
    fewer = let a = set_less marks k lt e in let b : length (work ++ k ∷ []) ≡ length work + 1 = length-append work (k ∷ []) in omega (arith, a, b)

by_test : (marks : List Bool) (work : List ℕ) (k : ℕ) (within there : Bool) → nat_lt k (length marks) ≡ within → slice_index_or marks k false ≡ there
    → Grows (k ∷ []) (record { marks = marks; work = work }) (if within && not there then record { marks = slice_set marks k true; work = work ++ k ∷ [] } else record { marks = marks; work = work })
by_test marks work k true false lt e = marked_new marks work k (ltb-true k (length marks) lt) e
by_test marks work k true true lt e =
    same (k ∷ []) (record { marks = marks; work = work }) (λ j h l. elim h [ inl is ↦ subst (λ (i : ℕ). IsMarked marks i) (sym is) e | inr none ↦ absurd none ])
by_test marks work k false there lt e =
    same (k ∷ []) (record { marks = marks; work = work }) (λ j h l. elim h [ inl is ↦ absurd (past j is l) | inr none ↦ absurd none ])
  where
    past : (j : ℕ) → j ≡ k → j < length marks → ⊥
    past j is l = let n : nat_lt k (length marks) ≡ false = lt in grind arith

pub mark_grows : (p : Work) (k : ℕ) → Grows (k ∷ []) p (with_mark p k)
mark_grows p k = by_test p.marks p.work k (nat_lt k (length p.marks)) (slice_index_or p.marks k false) refl refl

both : (k : ℕ) (row : List ℕ) (p q r : Work) → Grows (k ∷ []) p q → Grows row q r → Grows (k ∷ row) p r
both k row p q r a b = record {
  count = b.count ∙ a.count;
  stay = λ j h. b.stay j (a.stay j h);
  all = λ j h l. elim h [
    | inl is ↦ b.stay j (a.all j (inl is) l)
    | inr h ↦ b.all j h (subst (λ (n : ℕ). j < n) (sym a.count) l)
  ];
  only = λ j h. elim (b.only j h) [
    | inl g ↦ elim (a.only j g) [ inl f ↦ inl f | inr f ↦ elim f [ inl is ↦ inr (inl is) | inr none ↦ absurd none ] ]
    | inr g ↦ inr (inr g)
  ];
  kept = λ j h. b.kept j (a.kept j h);
  fresh = λ j h. elim (b.fresh j h) [
    | inl g ↦ elim (a.fresh j g) [ inl f ↦ inl f | inr f ↦ inr (b.stay j f) ]
    | inr g ↦ inr g
  ];
  pushed = λ j h. elim (b.pushed j h) [
    | inl g ↦ elim (a.pushed j g) [ inl f ↦ inl f | inr f ↦ inr (b.kept j f) ]
    | inr g ↦ inr g
  ];
  less = let x = a.less in let y = b.less in omega (arith, x, y);
}

pub row_grows : (row : List ℕ) (p : Work) → Grows row p (with_row p row)
row_grows [] p = same [] p (λ j h l. absurd h)
row_grows (k ∷ row) p = both k row p (with_mark p k) (with_row (with_mark p k) row) (mark_grows p k) (row_grows row (with_mark p k))
