-- Trees numbered one by one.
use Rattle.std.proofs.Common.{◌≡◌, ◌⊎◌, inl, inr, ℕ, ◌+◌, ◌<◌, List, [], ◌∷◌, ◌++◌, Option, Some, None, length, get_or, set, refl, sym, ◌∙◌, ap, subst, arith, length-append}
use Rattle.std.proofs.lemmas.List.{get_or-set_same, get_or-set_other, get_or_append_left, get_or_push, length-set}
use Rattle.std.proofs.Math.Decide.{ℕ_discrete}
use Rattle.plain_netlist.proofs.Links.{both, back}
use Rattle.link_classes.specs.declared.classes.Link.{Link}
use Rattle.link_classes.specs.Classes.{AreClasses}
use Rattle.link_classes.specs.Forest.{IsEdge, InOneTree, IsTop, IsForest, SameTrees, AreTreesOf, AreNumbered, SoFar}
use Rattle.link_classes.proofs.Trees.{edge_back, trees_on, trees_self}
use Rattle.link_classes.proofs.Tops.{one_top}

pub begin : (p : List ℕ) (at : List (Option ℕ)) → length at ≡ length p → ((r : ℕ) → get_or at r None ≡ None) → SoFar p p at 0 [] 0
begin p at wide none = record {
  same = trees_self p;
  wide = wide;
  long = refl;
  few = omega arith;
  met = λ j lt. absurd (omega arith);
  told = λ r x h. let e = none r in cc;
  below = λ j lt. absurd (omega arith);
  used = λ x lt. absurd (omega arith);
  earlier = λ j y lt. absurd (omega arith);
  apart = λ r s x h. let e = none r in cc;
}

-- the same, over other trees of the same numbers
pub moved_on : (p q t : List ℕ) (at : List (Option ℕ)) (i : ℕ) (c : List ℕ) (count : ℕ) → SameTrees q t → SoFar p q at i c count → SoFar p t at i c count
moved_on p q t at i c count same so = record {
  same = trees_on p q t so.same same;
  wide = so.wide;
  long = so.long;
  few = so.few;
  met = λ j lt. let m = so.met j lt in (m.0, same.kept m.0 m.1, m.2, m.3);
  told = λ r x h. let m = so.told r x h in (same.kept r m.0, m.1, m.2, m.3, m.4);
  below = so.below;
  used = so.used;
  earlier = so.earlier;
  apart = so.apart;
}

module _ (p q : List ℕ) (at : List (Option ℕ)) (i : ℕ) (c : List ℕ) (count v top : ℕ) (so : SoFar p q at i c count) (is_top : IsTop q top) (way : InOneTree q i top) where
  abbrev e : List ℕ
  e = c ++ v ∷ []

  was : (j : ℕ) → j < i → get_or e j 0 ≡ get_or c j 0
  was j less = let long = so.long in let l : j < length c = omega arith in get_or_append_left c (v ∷ []) 0 j l

  now : get_or e i 0 ≡ v
  now = get_or_push c v 0 i so.long

  longer : length e ≡ i + 1
  longer = let a = length-append c (v ∷ []) in let b = so.long in let f : length (v ∷ []) ≡ 1 = refl in omega arith

  last : (j : ℕ) → j < i + 1 → (j < i) ⊎ (j ≡ i)
  last j h = elim (ℕ_discrete j i) [ yes same ↦ inr same | no not ↦ inl (omega arith) ]

  here : InOneTree p i top
  here = (so.same.trees i top).0 way

  earlier_was : (j y : ℕ) → j < i → y < get_or e j 0 → (k : ℕ) × (k < j) × (get_or e k 0 ≡ y)
  earlier_was j y less h =
      let f = was j less in
      let o = so.earlier j y less (omega arith) in
      let lo = o.1 in
      (o.0, lo, was o.0 (omega arith) ∙ o.2)

  -- the tree was met before
  pub push_old : get_or at top None ≡ Some v → SoFar p q at (i + 1) e count
  push_old is =
      let told = so.told top v is in
      let less = told.2 in
      record {
        same = so.same;
        wide = so.wide;
        long = longer;
        few = let f = so.few in omega arith;
        met = λ j h. elim (last j h) [
          | inl lt ↦ let m = so.met j lt in (m.0, m.1, m.2, m.3 ∙ ap Some (sym (was j lt)))
          | inr s ↦ (top, is_top, subst (λ k. InOneTree p k top) (sym s) here, is ∙ ap Some (sym (subst (λ k. get_or e k 0 ≡ v) (sym s) now)))
        ];
        told = λ r x h. let m = so.told r x h in let l = m.2 in (m.0, m.1, omega arith, was m.1 l ∙ m.3, m.4);
        below = λ j h. elim (last j h) [
          | inl lt ↦ let a = was j lt in let b = so.below j lt in omega arith
          | inr s ↦ let a : get_or e j 0 ≡ v = subst (λ k. get_or e k 0 ≡ v) (sym s) now in let b = so.below told.1 told.2 in let d = told.3 in omega arith
        ];
        used = λ x lt. let o = so.used x lt in let l = o.1 in (o.0, omega arith, was o.0 l ∙ o.2);
        earlier = λ j y h lt. elim (last j h) [
          | inl l ↦ earlier_was j y l lt
          | inr s ↦
              let a : get_or e j 0 ≡ v = subst (λ k. get_or e k 0 ≡ v) (sym s) now in
              let b = was told.1 told.2 in
              let d = told.3 in
              let o = earlier_was told.1 y told.2 (omega arith) in
              let lo = o.1 in
              (o.0, omega arith, o.2)
        ];
        apart = so.apart;
      }

  -- the tree is met first
  pub push_new : get_or at top None ≡ None → v ≡ count → SoFar p q (set at top (Some count)) (i + 1) e (count + 1)
  push_new none is =
      let wide : top < length at = let a = is_top.0 in let b = so.wide in let d = so.same.long in omega arith in
      let at_top : get_or (set at top (Some count)) top None ≡ Some count = get_or-set_same at top (Some count) None wide in
      let other : (r : ℕ) → (r ≡ top → ⊥) → get_or (set at top (Some count)) r None ≡ get_or at r None = λ r n. get_or-set_other at top r (Some count) None n in
      let low : (r x : ℕ) → get_or at r None ≡ Some x → x < count = λ r x h. let m = so.told r x h in let b = so.below m.1 m.2 in let d = m.3 in omega arith in
      record {
        same = so.same;
        wide = length-set at top (Some count) ∙ so.wide;
        long = longer;
        few = let f = so.few in omega arith;
        met = λ j h. elim (last j h) [
          | inl lt ↦
              let m = so.met j lt in
              let n : m.0 ≡ top → ⊥ = λ f. let g : get_or at top None ≡ Some (get_or c j 0) = subst (λ k. get_or at k None ≡ Some (get_or c j 0)) f m.3 in cc in
              (m.0, m.1, m.2, other m.0 n ∙ m.3 ∙ ap Some (sym (was j lt)))
          | inr s ↦ (top, is_top, subst (λ k. InOneTree p k top) (sym s) here, at_top ∙ ap Some (sym is ∙ sym (subst (λ k. get_or e k 0 ≡ v) (sym s) now)))
        ];
        told = λ r x h. elim (ℕ_discrete r top) [
          | yes s ↦
              let f : Some count ≡ Some x = sym at_top ∙ subst (λ k. get_or (set at top (Some count)) k None ≡ Some x) s h in
              let g : count ≡ x = cc in
              (subst (λ k. IsTop q k) (sym s) is_top, i, omega arith, now ∙ is ∙ g, subst (λ k. InOneTree p i k) (sym s) here)
          | no n ↦ let m = so.told r x (sym (other r n) ∙ h) in let l = m.2 in (m.0, m.1, omega arith, was m.1 l ∙ m.3, m.4)
        ];
        below = λ j h. elim (last j h) [
          | inl lt ↦ let a = was j lt in let b = so.below j lt in omega arith
          | inr s ↦ let a : get_or e j 0 ≡ v = subst (λ k. get_or e k 0 ≡ v) (sym s) now in omega arith
        ];
        used = λ x lt. elim (ℕ_discrete x count) [
          | yes s ↦ (i, omega arith, now ∙ is ∙ sym s)
          | no n ↦ let o = so.used x (omega arith) in let l = o.1 in (o.0, omega arith, was o.0 l ∙ o.2)
        ];
        earlier = λ j y h lt. elim (last j h) [
          | inl l ↦ earlier_was j y l lt
          | inr s ↦
              let a : get_or e j 0 ≡ v = subst (λ k. get_or e k 0 ≡ v) (sym s) now in
              let o = so.used y (omega arith) in
              let l = o.1 in
              (o.0, omega arith, was o.0 l ∙ o.2)
        ];
        apart = λ r s x h g. elim (ℕ_discrete r top) [
          | yes a ↦ elim (ℕ_discrete s top) [
            | yes b ↦ a ∙ sym b
            | no n ↦
                let f : Some count ≡ Some x = sym at_top ∙ subst (λ k. get_or (set at top (Some count)) k None ≡ Some x) a h in
                let k : count ≡ x = cc in
                let m = low s x (sym (other s n) ∙ g) in
                absurd (omega arith)
          ]
          | no n ↦ elim (ℕ_discrete s top) [
            | yes b ↦
                let f : Some count ≡ Some x = sym at_top ∙ subst (λ k. get_or (set at top (Some count)) k None ≡ Some x) b g in
                let k : count ≡ x = cc in
                let m = low r x (sym (other r n) ∙ h) in
                absurd (omega arith)
            | no m ↦ so.apart r s x (sym (other r n) ∙ h) (sym (other s m) ∙ g)
          ]
        ];
      }

pub numbered : (p q r : List ℕ) (at : List (Option ℕ)) (c : List ℕ) (count : ℕ) → IsForest q r → SoFar p q at (length p) c count → AreNumbered p c count
numbered p q r at c count forest so = record {
  long = so.long;
  joined = λ i j li lj.
      let m = so.met i li in
      let n = so.met j lj in
      let back_j : InOneTree p n.0 j = back (IsEdge p) (edge_back p) j n.0 n.2 in (
        (λ same.
            let one : m.0 ≡ n.0 = so.apart m.0 n.0 (get_or c i 0) m.3 (n.3 ∙ ap Some (sym same)) in
            both (IsEdge p) i m.0 j m.2 (subst (λ k. InOneTree p k j) (sym one) back_j)),
        (λ way.
            let tops : InOneTree p m.0 n.0 = both (IsEdge p) m.0 i n.0 (back (IsEdge p) (edge_back p) i m.0 m.2) (both (IsEdge p) i j n.0 way n.2) in
            let one : m.0 ≡ n.0 = one_top q r forest m.0 n.0 m.1 n.1 ((so.same.trees m.0 n.0).1 tops) in
            let a : Some (get_or c i 0) ≡ Some (get_or c j 0) = sym m.3 ∙ ap (λ k. get_or at k None) one ∙ n.3 in
            cc),
      );
  below = so.below;
  used = so.used;
  earlier = so.earlier;
}

pub as_classes : (n : ℕ) (p : List ℕ) (ls : List Link) (c : List ℕ) (count : ℕ) → AreTreesOf p n ls → AreNumbered p c count → AreClasses n ls c count
as_classes n p ls c count tree h =
    let long = tree.long in
    record {
      long = h.long ∙ long;
      joined = λ i j li lj.
          let one = h.joined i j (omega arith) (omega arith) in
          let two = tree.trees i j in
          ((λ same. two.0 (one.0 same)), (λ way. one.1 (two.1 way)));
      below = λ i li. h.below i (omega arith);
      used = λ x lx. let o = h.used x lx in let l = o.1 in (o.0, omega arith, o.2);
      earlier = λ i y li ly. h.earlier i y (omega arith) ly;
    }
