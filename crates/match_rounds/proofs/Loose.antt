-- Parts after they were sorted.
use Rattle.std.proofs.Common.{◌≡◌, ◌≢◌, inl, inr, ◌↔◌, ◌<◌, ℕ, List, length, slice_index, sym, subst, ◌∙◌, ap, arith}
use Rattle.std.specs.List.Sorted.{IsPermutation}
use Rattle.std.proofs.lemmas.Bool.{cases_lt}
use Rattle.match_rounds.specs.declared.groups.Part.{Part}
use Rattle.match_rounds.specs.Pieces.{entry, AreOrdered, AreLoose, ArePieces, ArePartedBy, HasCount}
use Rattle.match_rounds.proofs.Reordered.{IsReordered, reordered}

of_parts : (xs ys : List Part) → IsPermutation xs ys → IsReordered xs ys (record { class = 0; count = 0; node = 0 })
of_parts xs ys h = reordered xs ys (record { class = 0; count = 0; node = 0 }) h

apart_any : (classes : List ℕ) (xs : List Part) (n i j : ℕ) → AreLoose classes xs n → i < length xs → j < length xs → i ≢ j → (entry xs i).node ≢ (entry xs j).node
apart_any classes xs n i j h li lj not e = elim (cases_lt i j) [
  | inl l ↦ h.once j i lj l e
  | inr l ↦ h.once i j li (omega (arith, not)) (sym e)
]

pub sorted_pieces : (classes : List ℕ) (xs ys : List Part) (n : ℕ) → AreLoose classes xs n → IsPermutation xs ys → AreOrdered ys → ArePieces classes ys n
sorted_pieces classes xs ys n h perm up =
    let r = of_parts xs ys perm in
    let long = r.long in
    record {
      below = λ e l. subst (λ (p : Part). p.node < n) (sym (r.is e (omega arith))) (h.below (r.from e) (r.from_below e (omega arith)));
      class = λ e l. ap (λ (p : Part). p.class) (r.is e (omega arith)) ∙ (h.class (r.from e) (r.from_below e (omega arith)) ∙ ap (λ (p : Part). slice_index classes p.node) (sym (r.is e (omega arith))));
      once = λ e f l m same. apart_any classes xs n (r.from f) (r.from e) h (r.from_below f (omega arith)) (r.from_below e (omega arith))
          (λ t. let a = r.one f (omega arith) in let b = r.one e (omega arith) in let c = ap r.back t in omega arith)
          (ap (λ (p : Part). p.node) (sym (r.is f (omega arith))) ∙ (same ∙ ap (λ (p : Part). p.node) (r.is e (omega arith))));
      sorted = up;
    }

pub sorted_counts : (xs ys : List Part) → IsPermutation xs ys → (a v : ℕ) → HasCount ys (length ys) a v ↔ HasCount xs (length xs) a v
sorted_counts xs ys perm a v =
    let r = of_parts xs ys perm in
    let long = r.long in (
      (λ t. let l = t.1 in (r.from t.0, r.from_below t.0 (omega arith), ap (λ (p : Part). p.node) (sym (r.is t.0 (omega arith))) ∙ t.2, ap (λ (p : Part). p.count) (sym (r.is t.0 (omega arith))) ∙ t.3)),
      (λ t. let l = t.1 in let b = r.back_below t.0 l in
          let same : entry ys (r.back t.0) ≡ entry xs t.0 = r.is (r.back t.0) b ∙ ap (entry xs) (r.onto t.0 l) in
          (r.back t.0, omega arith, ap (λ (p : Part). p.node) same ∙ t.2, ap (λ (p : Part). p.count) same ∙ t.3)),
    )

-- so they part classes alike
pub sorted_parted : (before after : List ℕ) (xs ys : List Part) (n : ℕ) → IsPermutation xs ys → ArePartedBy before after ys (length ys) n → ArePartedBy before after xs (length xs) n
sorted_parted before after xs ys n perm h a b la lb = (
  (λ e. let g = (h a b la lb).0 e in (
    g.0,
    (λ v. (
      (λ t. (sorted_counts xs ys perm b v).0 ((g.1 v).0 ((sorted_counts xs ys perm a v).1 t))),
      (λ t. (sorted_counts xs ys perm a v).0 ((g.1 v).1 ((sorted_counts xs ys perm b v).1 t))),
    )),
  )),
  (λ e. (h a b la lb).1 (
    e.0,
    (λ v. (
      (λ t. (sorted_counts xs ys perm b v).1 ((e.1 v).0 ((sorted_counts xs ys perm a v).0 t))),
      (λ t. (sorted_counts xs ys perm a v).1 ((e.1 v).1 ((sorted_counts xs ys perm b v).0 t))),
    )),
  )),
)
