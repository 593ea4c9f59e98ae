-- All nodes in one class.
use Rattle.std.proofs.Common.{◌≡◌, ◌≢◌, ◌⊎◌, inl, inr, ◌↔◌, ◌<◌, ◌≤◌, ◌*◌, ◌^◌, ◌==◌, ℕ, zero, suc, Bool, true, false, not, nat_eq, count_by, List, [], ◌∷◌, length, slice_index, slice_index_or, refl, sym, ◌∙◌, ap, arith, true≢false}
use Rattle.std.proofs.lemmas.Bool.Decides.{Decides-eqb}
use Rattle.std.proofs.Math.ListN.{replicate}
use Rattle.std.proofs.lemmas.List.{length-replicate, get_or-replicate}
use Rattle.round_laws.proofs.Agree.{count-cons, count_same}
use Rattle.match_laws.specs.Circuits.{numbers_from}
use Rattle.match_laws.proofs.Sums.{in_numbers}
use Rattle.match_rounds.specs.Order.{IsPlaced}
use Rattle.match_rounds.specs.Marks.{is_marked}
use Rattle.match_rounds.specs.Classes.{IsPartition, members}
use Rattle.match_rounds.specs.declared.classes.Classes.{Classes}

-- a list that has one value m times
pub record IsFull {X : Type 0} (xs : List X) (m : ℕ) (x d : X) : Type 0 where
  pub long : length xs ≡ m
  pub each : (i : ℕ) → i < m → slice_index_or xs i d ≡ x

pub record IsWhole (c : Classes) (left n m : ℕ) : Type 0 where
  pub inside : left ≤ n
  pub small : n < 2 ^ 32
  pub few : ((n ≡ 0) × (m ≡ 0)) ⊎ ((0 < n) × (m ≡ 1))
  pub placed : IsPlaced c.order n
  pub class : IsFull c.class_of.items n 0 0
  pub begin : IsFull c.begin.items m 0 0
  pub size : IsFull c.counts.size.items m n 0
  pub left_is : IsFull c.counts.left.items m left 0
  pub flag : c.counts.is_uneven ≡ not (nat_eq (2 * left) n)
  pub marks : IsFull c.marks.is_fresh.items m true false
  pub fresh : IsFull c.marks.fresh.items m 0 0

count_all : (xs : List ℕ) → count_by (λ (a : ℕ). true) xs ≡ length xs
count_all [] = refl
count_all (x ∷ xs) = count-cons (λ (a : ℕ). true) x xs ∙ (let h = count_all xs in omega arith)

numbers_long : (a n : ℕ) → length (numbers_from a n) ≡ n
numbers_long a zero = refl
numbers_long a (suc n) = let h = numbers_long (suc a) n in omega arith

-- all are members of the one class
all_members : (c : Classes) (left n m k : ℕ) → IsWhole c left n m → k ≤ n → members c.class_of.items 0 k ≡ k
all_members c left n m k h l =
    count_same (λ a. 0 == slice_index c.class_of.items a) (λ a. true) (numbers_from 0 k)
    (λ a i. let b = in_numbers a 0 k i in let hi = b.1 in (Decides-eqb 0 (slice_index c.class_of.items a)).1 (sym (h.class.each a (omega arith))))
    ∙ (count_all (numbers_from 0 k) ∙ numbers_long 0 k)

flag_is : (b : Bool) (left n : ℕ) → b ≡ not (nat_eq (2 * left) n) → (b ≡ true) ↔ (2 * left ≢ n)
flag_is b left n e = elim (is_it (nat_eq (2 * left) n)) [
  | inl t ↦ ((λ x y. true≢false (sym x ∙ (e ∙ ap not t))), (λ x. absurd (x ((Decides-eqb (2 * left) n).0 t))))
  | inr t ↦ ((λ x y. true≢false (sym ((Decides-eqb (2 * left) n).1 y) ∙ t)), (λ x. e ∙ ap not t))
]
  where
    is_it : (t : Bool) → (t ≡ true) ⊎ (t ≡ false)
    is_it true = inl refl
    is_it false = inr refl

pub whole : (c : Classes) (left n m : ℕ) → IsWhole c left n m → IsPartition c left n
whole c left n m h =
    let size_long = h.size.long in
    let left_long = h.left_is.long in
    let begin_long = h.begin.long in
    let marks_long = h.marks.long in
    let fresh_long = h.fresh.long in
    let flag = flag_is c.counts.is_uneven left n h.flag in
    let inside = h.inside in
    record {
      inside = h.inside;
      classes = record {
        placed = h.placed;
        long = h.class.long;
        small = h.small;
        begins = omega arith;
        marks = omega arith;
        below = λ a l. let z = h.class.each a l in elim h.few [ inl f ↦ (let n0 = f.0 in absurd (omega arith)) | inr f ↦ (let m1 = f.1 in omega arith) ];
        stands = λ d l k lk.
            let z = h.class.each (slice_index c.order.node_at.items k) (h.placed.node_below k lk) in
            let dz : d ≡ 0 = zero_of d (omega arith) in
            let b = h.begin.each d (omega arith) in
            let s = h.size.each d (omega arith) in
            ((λ t. (omega arith, omega arith)), (λ t. z ∙ sym dz));
        fits = λ d l. let b = h.begin.each d (omega arith) in let s = h.size.each d (omega arith) in omega arith;
        some = λ d l. let s = h.size.each d (omega arith) in elim h.few [ inl f ↦ (let m0 = f.1 in absurd (omega arith)) | inr f ↦ (let n1 = f.0 in omega arith) ];
      };
      counted = record {
        flagged = record {
          lefts = omega arith;
          flag = (
            (λ t. elim h.few [
              | inl f ↦ (let n0 = f.0 in absurd (flag.0 t (omega arith)))
              | inr f ↦ (0, (let m1 = f.1 in omega arith), (λ e. flag.0 t (let m1 = f.1 in let s = h.size.each 0 (omega arith) in let v = h.left_is.each 0 (omega arith) in omega arith)))
            ]),
            (λ u. flag.1 (λ e.
                let l = u.1 in
                let dz : u.0 ≡ 0 = zero_of u.0 (omega arith) in
                let s = h.size.each u.0 (omega arith) in
                let v = h.left_is.each u.0 (omega arith) in
                u.2 (omega arith))),
          );
        };
        left_is = λ d l. h.left_is.each d (omega arith) ∙ (sym (all_members c left n m left h inside) ∙ ap (λ (x : ℕ). members c.class_of.items x left) (sym (zero_of d (omega arith))));
        size_is = λ d l. h.size.each d (omega arith) ∙ (sym (all_members c left n m n h (omega arith)) ∙ ap (λ (x : ℕ). members c.class_of.items x n) (sym (zero_of d (omega arith))));
      };
      listed = record {
        below = λ i l. let z = h.fresh.each i (omega arith) in omega arith;
        marked = λ i l. ap (is_marked c.marks) (h.fresh.each i (omega arith)) ∙ h.marks.each 0 (omega arith);
        found = λ d l t. (0, omega arith, h.fresh.each 0 (omega arith) ∙ sym (zero_of d (omega arith)));
        once = λ i j l k. let z = zero_of i (omega arith) in absurd (omega arith);
      };
    }
  where
    zero_of : (d : ℕ) → d < m → d ≡ 0
    zero_of d l = elim h.few [ inl f ↦ (let m0 = f.1 in absurd (omega arith)) | inr f ↦ (let m1 = f.1 in omega arith) ]

pub full : {X : Type 0} (xs : List X) (m : ℕ) (x d : X) → xs ≡ replicate m x → IsFull xs m x d
full xs m x d e = record {
  long = ap length e ∙ length-replicate m x;
  each = λ i l. ap (λ ys. slice_index_or ys i d) e ∙ get_or-replicate m i x d l;
}
