-- Trees of numbers: a way up halved, and one tree hung on another.
use Rattle.std.proofs.Common.{◌≡◌, ◌⊎◌, inl, inr, ℕ, zero, suc, ◌+◌, ◌<◌, ◌≤◌, Bool, true, false, List, [], ◌∷◌, ◌++◌, length, get_or, set, take, refl, sym, ◌∙◌, ap, subst, arith}
use Rattle.std.proofs.Math.Dec.{eqb}
use Rattle.std.proofs.lemmas.Bool.{ne_eqb}
use Rattle.std.proofs.lemmas.Bool.Decides.{eqb_tells}
use Rattle.std.proofs.lemmas.List.{get_or-set_same, get_or-set_other, length-set, take_more}
use Rattle.std.proofs.Math.Decide.{ℕ_discrete}
use Rattle.plain_netlist.specs.Chains.{Reaches}
use Rattle.plain_netlist.proofs.Links.{stays, single, both, back, along}
use Rattle.link_classes.specs.declared.classes.Link.{Link}
use Rattle.link_classes.specs.Classes.{IsOf, IsLinked, AreInRange}
use Rattle.link_classes.specs.Forest.{IsUp, IsEdge, InOneTree, IsTop, one_if, tops_from, IsForest, SameTrees, AreAlone, IsJoinedBy, AreTreesOf, IsOnWay}

pub edge_back : (p : List ℕ) (i j : ℕ) → IsEdge p i j → IsEdge p j i
edge_back p i j (inl h) = inr h
edge_back p i j (inr h) = inl h

one_or_none : (b : Bool) → one_if b ≤ 1
one_or_none true = omega arith
one_or_none false = omega arith

pub tops_few : (k : ℕ) (p : List ℕ) → tops_from k p ≤ length p
tops_few k [] = omega arith
tops_few k (x ∷ xs) = let a = one_or_none (eqb x k) in let b = tops_few (suc k) xs in omega arith

tops_set : (k : ℕ) (p : List ℕ) (i v at : ℕ) → at ≡ k + i → i < length p → tops_from k (set p i v) + one_if (eqb (get_or p i 0) at) ≡ tops_from k p + one_if (eqb v at)
tops_set k [] i v at e lt = absurd (omega arith)
tops_set k (x ∷ xs) zero v at e lt = let s : at ≡ k = omega arith in rw s (omega arith)
tops_set k (x ∷ xs) (suc i) v at e lt = let rest = tops_set (suc k) xs i v at (omega arith) (omega arith) in omega arith

none_if : (a b : ℕ) → (a ≡ b → ⊥) → one_if (eqb a b) ≡ 0
none_if a b not = ap one_if (ne_eqb a b not)

some_if : (a b : ℕ) → a ≡ b → one_if (eqb a b) ≡ 1
some_if a b e = elim (eqb_tells a b) [ inl h ↦ ap one_if h.0 | inr h ↦ absurd (h.1 e) ]

-- a number that wasn't a top and is none now
pub tops_same : (p : List ℕ) (i v : ℕ) → i < length p → (get_or p i 0 ≡ i → ⊥) → (v ≡ i → ⊥) → tops_from 0 (set p i v) ≡ tops_from 0 p
tops_same p i v lt a b = let s = tops_set 0 p i v i (omega arith) lt in let n = none_if (get_or p i 0) i a in let m = none_if v i b in omega arith

-- a top that is none now
pub tops_less : (p : List ℕ) (i v : ℕ) → i < length p → get_or p i 0 ≡ i → (v ≡ i → ⊥) → tops_from 0 (set p i v) + 1 ≡ tops_from 0 p
tops_less p i v lt a b = let s = tops_set 0 p i v i (omega arith) lt in let n = some_if (get_or p i 0) i a in let m = none_if v i b in omega arith

pub trees_on : (p q r : List ℕ) → SameTrees p q → SameTrees q r → SameTrees p r
trees_on p q r a b = record {
  long = b.long ∙ a.long;
  kept = λ i h. b.kept i (a.kept i h);
  trees = λ i j. ((λ h. (a.trees i j).0 ((b.trees i j).0 h)), (λ h. (b.trees i j).1 ((a.trees i j).1 h)));
}

pub trees_self : (p : List ℕ) → SameTrees p p
trees_self p = record { long = refl; kept = λ i h. h; trees = λ i j. ((λ h. h), (λ h. h)) }

module _ (p r : List ℕ) (forest : IsForest p r) (x : ℕ) (inside : x < length p) (not : get_or p x 0 ≡ x → ⊥) where
  abbrev y : ℕ
  y = get_or p x 0

  abbrev z : ℕ
  z = get_or p y 0

  abbrev q : List ℕ
  q = set p x z

  y_in : y < length p
  y_in = forest.inside x inside

  higher : get_or r y 0 ≤ get_or r z 0
  higher = elim (ℕ_discrete z y) [ yes e ↦ rw e (omega arith) | no n ↦ (let h = forest.rises y y_in n in omega arith) ]

  pub rank_rises : get_or r x 0 < get_or r z 0
  rank_rises = let a = forest.rises x inside not in let b = higher in omega arith

  z_apart : z ≡ x → ⊥
  z_apart e = let a = rank_rises in let b : get_or r z 0 ≡ get_or r x 0 = ap (λ k. get_or r k 0) e in absurd (omega arith)

  long : length q ≡ length p
  long = length-set p x z

  at : get_or q x 0 ≡ z
  at = get_or-set_same p x z 0 inside

  other : (i : ℕ) → (i ≡ x → ⊥) → get_or q i 0 ≡ get_or p i 0
  other i n = get_or-set_other p x i z 0 n

  pub halved_forest : IsForest q r
  halved_forest = record {
    long = forest.long ∙ sym long;
    inside = λ i lt. elim (ℕ_discrete i x) [
      | yes e ↦ let v : get_or q i 0 ≡ z = subst (λ k. get_or q k 0 ≡ z) (sym e) at in let h = forest.inside y y_in in let l = long in omega arith
      | no n ↦ let v = other i n in let l = long in let h = forest.inside i (omega arith) in omega arith
    ];
    rises = λ i lt n. elim (ℕ_discrete i x) [
      | yes e ↦ let v : get_or q i 0 ≡ z = subst (λ k. get_or q k 0 ≡ z) (sym e) at in let h = rank_rises in rw (v, e) h
      | no m ↦ let v = other i m in let l = long in let lt' : i < length p = omega arith in let h = forest.rises i lt' (λ f. n (v ∙ f)) in rw v h
    ];
    few = λ i lt. let l = long in let lt' : i < length p = omega arith in let h = forest.few i lt' in let s = tops_same p x z inside not z_apart in omega arith;
  }

  up_new : (i j : ℕ) → IsUp p i j → InOneTree q i j
  up_new i j (lt, e) = elim (ℕ_discrete i x) [
    | yes same ↦
        let l = long in
        let first : IsEdge q x z = inl ((let k : x < length q = omega arith in k), at) in
        let yin = y_in in
        let second : IsEdge q y z = inl ((let k : y < length q = omega arith in k), other y not) in
        let way : InOneTree q x y = both (IsEdge q) x z y (single (IsEdge q) x z first) (back (IsEdge q) (edge_back q) y z (single (IsEdge q) y z second)) in
        let is : y ≡ j = subst (λ k. get_or p k 0 ≡ j) same e in
        subst (λ k. InOneTree q k j) (sym same) (subst (λ k. InOneTree q x k) is way)
    | no n ↦ let l = long in single (IsEdge q) i j (inl ((let k : i < length q = omega arith in k), other i n ∙ e))
  ]

  up_old : (i j : ℕ) → IsUp q i j → InOneTree p i j
  up_old i j (lt, e) = elim (ℕ_discrete i x) [
    | yes same ↦
        let yin = y_in in
        let way : InOneTree p x z = both (IsEdge p) x y z (single (IsEdge p) x y (inl (inside, refl))) (single (IsEdge p) y z (inl (yin, refl))) in
        let is : z ≡ j = sym at ∙ subst (λ k. get_or q k 0 ≡ j) same e in
        subst (λ k. InOneTree p k j) (sym same) (subst (λ k. InOneTree p x k) is way)
    | no n ↦ let l = long in single (IsEdge p) i j (inl ((let k : i < length p = omega arith in k), sym (other i n) ∙ e))
  ]

  edge_new : (i j : ℕ) → IsEdge p i j → InOneTree q i j
  edge_new i j (inl h) = up_new i j h
  edge_new i j (inr h) = back (IsEdge q) (edge_back q) j i (up_new j i h)

  edge_old : (i j : ℕ) → IsEdge q i j → InOneTree p i j
  edge_old i j (inl h) = up_old i j h
  edge_old i j (inr h) = back (IsEdge p) (edge_back p) j i (up_old j i h)

  halved : SameTrees p q
  halved = record {
    long = long;
    kept = λ i h. elim (ℕ_discrete i x) [
      | yes e ↦ absurd (not (subst (λ k. get_or p k 0 ≡ k) e h.1))
      | no n ↦ let l = long in let lt = h.0 in ((let k : i < length q = omega arith in k), other i n ∙ h.1)
    ];
    trees = λ i j. (along (IsEdge q) (IsEdge p) (λ k. k) edge_old i j, along (IsEdge p) (IsEdge q) (λ k. k) edge_new i j);
  }

  pub on_way : (first : List ℕ) (start : ℕ) → IsOnWay first p r start x → IsOnWay first q r start z
  on_way first start h =
      let l = long in
      let zin = forest.inside y y_in in
      record {
        forest = halved_forest;
        same = trees_on first p q h.same halved;
        inside = (let k : z < length q = omega arith in k);
        way = both (IsEdge q) start x z ((halved.trees start x).1 h.way) (single (IsEdge q) x z (inl ((let k : x < length q = omega arith in k), at)));
      }

-- the ranks of a forest of which one tree is hung on another
pub record AreRaised (r s : List ℕ) (low high : ℕ) : Type 0 where
  pub long : length s ≡ length r
  pub same : (i : ℕ) → (i ≡ high → ⊥) → get_or s i 0 ≡ get_or r i 0
  pub more : get_or r high 0 ≤ get_or s high 0
  pub one : get_or s high 0 ≤ get_or r high 0 + 1
  pub above : get_or r low 0 < get_or s high 0

pub raised_none : (r : List ℕ) (low high : ℕ) → get_or r low 0 < get_or r high 0 → AreRaised r r low high
raised_none r low high lt = record { long = refl; same = λ i n. refl; more = omega arith; one = omega arith; above = lt }

pub raised_one : (r : List ℕ) (low high : ℕ) → high < length r → get_or r low 0 ≡ get_or r high 0 → AreRaised r (set r high (get_or r high 0 + 1)) low high
raised_one r low high lt e =
    let at = get_or-set_same r high (get_or r high 0 + 1) 0 lt in
    record {
      long = length-set r high (get_or r high 0 + 1);
      same = λ i n. get_or-set_other r high i (get_or r high 0 + 1) 0 n;
      more = omega arith;
      one = omega arith;
      above = omega arith;
    }

module _ (p r s : List ℕ) (forest : IsForest p r) (low high : ℕ) (low_top : IsTop p low) (high_top : IsTop p high) (apart : low ≡ high → ⊥) where
  abbrev h : List ℕ
  h = set p low high

  h_long : length h ≡ length p
  h_long = length-set p low high

  h_at : get_or h low 0 ≡ high
  h_at = get_or-set_same p low high 0 low_top.0

  h_other : (i : ℕ) → (i ≡ low → ⊥) → get_or h i 0 ≡ get_or p i 0
  h_other i n = get_or-set_other p low i high 0 n

  fewer : tops_from 0 h + 1 ≡ tops_from 0 p
  fewer = tops_less p low high low_top.0 low_top.1 (λ e. apart (sym e))

  -- there is room for one more
  pub room : get_or r high 0 + 1 ≤ length p
  room = let a = forest.few high high_top.0 in let b = fewer in omega arith

  pub hung_forest : AreRaised r s low high → IsForest h s
  hung_forest raised = record {
    long = raised.long ∙ forest.long ∙ sym h_long;
    inside = λ i lt. elim (ℕ_discrete i low) [
      | yes e ↦ let v : get_or h i 0 ≡ high = subst (λ k. get_or h k 0 ≡ high) (sym e) h_at in let a = high_top.0 in let l = h_long in omega arith
      | no n ↦ let v = h_other i n in let l = h_long in let a = forest.inside i (omega arith) in omega arith
    ];
    rises = λ i lt n. elim (ℕ_discrete i low) [
      | yes e ↦
          let v : get_or h i 0 ≡ high = subst (λ k. get_or h k 0 ≡ high) (sym e) h_at in
          let a = raised.same low apart in
          let b = raised.above in
          let c : get_or s low 0 < get_or s high 0 = omega arith in
          rw (v, e) c
      | no m ↦
          let v = h_other i m in
          let l = h_long in
          let lt' : i < length p = omega arith in
          let not : get_or p i 0 ≡ i → ⊥ = λ f. n (v ∙ f) in
          let up = forest.rises i lt' not in
          let i_not : i ≡ high → ⊥ = λ f. not (subst (λ k. get_or p k 0 ≡ k) (sym f) high_top.1) in
          let a = raised.same i i_not in
          let b : get_or r (get_or p i 0) 0 ≤ get_or s (get_or p i 0) 0 = elim (ℕ_discrete (get_or p i 0) high) [
            | yes f ↦ rw f raised.more
            | no g ↦ let w = raised.same (get_or p i 0) g in omega arith
          ] in
          let c : get_or s i 0 < get_or s (get_or p i 0) 0 = omega arith in
          rw v c
    ];
    few = λ i lt.
        let l = h_long in
        let f = fewer in
        let lt' : i < length p = omega arith in
        let a = forest.few i lt' in
        elim (ℕ_discrete i high) [
          | yes e ↦ let b = raised.one in let c : get_or s i 0 ≤ get_or r i 0 + 1 = rw e b in omega arith
          | no n ↦ let b = raised.same i n in omega arith
        ];
  }

  module _ (link : Link) (ends : (InOneTree p link.one low × InOneTree p link.other high) ⊎ (InOneTree p link.one high × InOneTree p link.other low)) where
    abbrev N : ℕ → ℕ → Type 0
    N = IsEdge h

    abbrev M : ℕ → ℕ → Type 0
    M = λ a b. InOneTree p a b ⊎ IsOf link a b

    turn : (a b : ℕ) → M a b → M b a
    turn a b (inl t) = inl (back (IsEdge p) (edge_back p) a b t)
    turn a b (inr (inl e)) = inr (inr e)
    turn a b (inr (inr e)) = inr (inl e)

    up_kept : (i j : ℕ) → IsUp p i j → InOneTree h i j
    up_kept i j (lt, e) = elim (ℕ_discrete i low) [
      | yes same ↦ let f : get_or p i 0 ≡ i = subst (λ k. get_or p k 0 ≡ k) (sym same) low_top.1 in stays N i j (sym f ∙ e)
      | no n ↦ let l = h_long in single N i j (inl ((let k : i < length h = omega arith in k), h_other i n ∙ e))
    ]

    edge_kept : (i j : ℕ) → IsEdge p i j → InOneTree h i j
    edge_kept i j (inl u) = up_kept i j u
    edge_kept i j (inr u) = back N (edge_back h) j i (up_kept j i u)

    tree_kept : (i j : ℕ) → InOneTree p i j → InOneTree h i j
    tree_kept i j t = along (IsEdge p) N (λ k. k) edge_kept i j t

    joined_now : InOneTree h low high
    joined_now = let l = h_long in let a = low_top.0 in single N low high (inl ((let k : low < length h = omega arith in k), h_at))

    ends_now : InOneTree h link.one link.other
    ends_now = elim ends [
      | inl e ↦ both N link.one low link.other (tree_kept link.one low e.0) (both N low high link.other joined_now (back N (edge_back h) link.other high (tree_kept link.other high e.1)))
      | inr e ↦ both N link.one high link.other (tree_kept link.one high e.0) (both N high low link.other (back N (edge_back h) low high joined_now) (back N (edge_back h) link.other low (tree_kept link.other low e.1)))
    ]

    of_now : (i j : ℕ) → IsOf link i j → InOneTree h i j
    of_now i j (inl e) = subst (λ k. InOneTree h k j) e.0 (subst (λ k. InOneTree h link.one k) e.1 ends_now)
    of_now i j (inr e) = back N (edge_back h) j i (subst (λ k. InOneTree h k i) e.0 (subst (λ k. InOneTree h link.one k) e.1 ends_now))

    step_now : (i j : ℕ) → M i j → InOneTree h i j
    step_now i j (inl t) = tree_kept i j t
    step_now i j (inr e) = of_now i j e

    ends_old : Reaches M low high
    ends_old =
        let way : Reaches M link.one link.other = single M link.one link.other (inr (inl (refl, refl))) in
        elim ends [
          | inl e ↦ both M low link.one high (back M turn link.one low (single M link.one low (inl e.0))) (both M link.one link.other high way (single M link.other high (inl e.1)))
          | inr e ↦ both M low link.other high (back M turn link.other low (single M link.other low (inl e.1))) (both M link.other link.one high (back M turn link.one link.other way) (single M link.one high (inl e.0)))
        ]

    up_was : (i j : ℕ) → IsUp h i j → Reaches M i j
    up_was i j (lt, e) = elim (ℕ_discrete i low) [
      | yes same ↦
          let f : high ≡ j = sym h_at ∙ subst (λ k. get_or h k 0 ≡ j) same e in
          subst (λ k. Reaches M k j) (sym same) (subst (λ k. Reaches M low k) f ends_old)
      | no n ↦ let l = h_long in single M i j (inl (single (IsEdge p) i j (inl ((let k : i < length p = omega arith in k), sym (h_other i n) ∙ e))))
    ]

    edge_was : (i j : ℕ) → N i j → Reaches M i j
    edge_was i j (inl u) = up_was i j u
    edge_was i j (inr u) = back M turn j i (up_was j i u)

    pub hung : IsJoinedBy p link h
    hung = record { long = h_long; trees = λ i j. (along N M (λ k. k) edge_was i j, along M N (λ k. k) step_now i j) }

-- a link within a tree joins nothing
pub joined_already : (p : List ℕ) (link : Link) (a : ℕ) → InOneTree p link.one a → InOneTree p link.other a → IsJoinedBy p link p
joined_already p link a one other =
    let way : InOneTree p link.one link.other = both (IsEdge p) link.one a link.other one (back (IsEdge p) (edge_back p) link.other a other) in
    record {
      long = refl;
      trees = λ i j. (
        (λ t. single (λ x y. InOneTree p x y ⊎ IsOf link x y) i j (inl t)),
        along (λ x y. InOneTree p x y ⊎ IsOf link x y) (IsEdge p) (λ k. k) (λ x y h. elim h [
          | inl t ↦ t
          | inr o ↦ elim o [
            | inl e ↦ subst (λ k. InOneTree p k y) e.0 (subst (λ k. InOneTree p link.one k) e.1 way)
            | inr e ↦ back (IsEdge p) (edge_back p) y x (subst (λ k. InOneTree p k x) e.0 (subst (λ k. InOneTree p link.one k) e.1 way))
          ]
        ]) i j,
      );
    }

-- the trees before may be others of the same numbers
pub joined_from : (p q t : List ℕ) (link : Link) → SameTrees p q → IsJoinedBy q link t → IsJoinedBy p link t
joined_from p q t link same h =
    let R : ℕ → ℕ → Type 0 = λ a b. InOneTree p a b ⊎ IsOf link a b in
    let S : ℕ → ℕ → Type 0 = λ a b. InOneTree q a b ⊎ IsOf link a b in
    record {
      long = h.long ∙ same.long;
      trees = λ i j. (
        (λ w. along S R (λ k. k) (λ a b x. single R a b (elim x [ inl y ↦ inl ((same.trees a b).0 y) | inr y ↦ inr y ])) i j ((h.trees i j).0 w)),
        (λ w. (h.trees i j).1 (along R S (λ k. k) (λ a b x. single S a b (elim x [ inl y ↦ inl ((same.trees a b).1 y) | inr y ↦ inr y ])) i j w)),
      );
    }

linked_left : (ls ms : List Link) (i j : ℕ) → IsLinked ls i j → IsLinked (ls ++ ms) i j
linked_left [] ms i j h = absurd h
linked_left (l ∷ ls) ms i j (inl h) = inl h
linked_left (l ∷ ls) ms i j (inr h) = inr (linked_left ls ms i j h)

linked_last : (ls : List Link) (l : Link) (i j : ℕ) → IsOf l i j → IsLinked (ls ++ l ∷ []) i j
linked_last [] l i j h = inl h
linked_last (m ∷ ls) l i j h = inr (linked_last ls l i j h)

linked_either : (ls : List Link) (l : Link) (i j : ℕ) → IsLinked (ls ++ l ∷ []) i j → IsLinked ls i j ⊎ IsOf l i j
linked_either [] l i j (inl h) = inr h
linked_either [] l i j (inr h) = absurd h
linked_either (m ∷ ls) l i j (inl h) = inl (inl h)
linked_either (m ∷ ls) l i j (inr h) = elim (linked_either ls l i j h) [ inl a ↦ inl (inr a) | inr b ↦ inr b ]

-- one more link
pub one_more : (p q : List ℕ) (n : ℕ) (links : List Link) (k : ℕ) (d : Link) → k < length links → AreTreesOf p n (take k links) → IsJoinedBy p (get_or links k d) q → AreTreesOf q n (take (k + 1) links)
one_more p q n links k d lt h g =
    let ls = take k links in
    let l = get_or links k d in
    let R : ℕ → ℕ → Type 0 = λ a b. InOneTree p a b ⊎ IsOf l a b in
    let M : ℕ → ℕ → Type 0 = IsLinked (ls ++ l ∷ []) in
    let new : AreTreesOf q n (ls ++ l ∷ []) = record {
      long = g.long ∙ h.long;
      trees = λ i j. (
        (λ w. along R M (λ k. k) (λ a b x. elim x [
          | inl y ↦ along (IsLinked ls) M (λ k. k) (λ c e z. single M c e (linked_left ls (l ∷ []) c e z)) a b ((h.trees a b).0 y)
          | inr y ↦ single M a b (linked_last ls l a b y)
        ]) i j ((g.trees i j).0 w)),
        (λ w. (g.trees i j).1 (along M R (λ k. k) (λ a b x. single R a b (elim (linked_either ls l a b x) [
          | inl y ↦ inl ((h.trees a b).1 (single (IsLinked ls) a b y))
          | inr y ↦ inr y
        ])) i j w)),
      );
    } in
    subst (λ (m : List Link). AreTreesOf q n m) (sym (take_more links k d lt)) new

pub link_at : (n : ℕ) (ls : List Link) (i : ℕ) (e : Link) → AreInRange n ls → i < length ls → ((get_or ls i e).one < n) × ((get_or ls i e).other < n)
link_at n [] i e h lt = absurd (omega arith)
link_at n (l ∷ ls) zero e h lt = (h.0, h.1)
link_at n (l ∷ ls) (suc i) e h lt = link_at n ls i e h.2 (omega arith)

-- each number its own tree
pub alone : (p : List ℕ) (n : ℕ) → AreAlone p n → AreTreesOf p n []
alone p n h =
    let long = h.long in
    let own : (i : ℕ) → i < length p → get_or p i 0 ≡ i = λ i lt. h.own i (omega arith) in
    record {
      long = h.long;
      trees = λ i j. (
        along (IsEdge p) (IsLinked []) (λ k. k) (λ a b e. elim e [
          | inl u ↦ stays (IsLinked []) a b (sym (own a u.0) ∙ u.1)
          | inr u ↦ stays (IsLinked []) a b (sym u.1 ∙ own b u.0)
        ]) i j,
        along (IsLinked []) (IsEdge p) (λ k. k) (λ a b e. absurd e) i j,
      );
    }

pub alone_forest : (p r : List ℕ) → length r ≡ length p → AreAlone p (length p) → ((i : ℕ) → get_or r i 0 ≡ 0) → IsForest p r
alone_forest p r long h low = record {
  long = long;
  inside = λ i lt. let e = h.own i lt in omega arith;
  rises = λ i lt not. absurd (not (h.own i lt));
  few = λ i lt. let e = low i in let f = tops_few 0 p in omega arith;
}
