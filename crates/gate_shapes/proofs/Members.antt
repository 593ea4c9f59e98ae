-- Rectangles sorted out by their classes.
use Rattle.std.proofs.Common.{◌≡◌, ◌⊎◌, inl, inr, ℕ, zero, suc, ◌+◌, ◌<◌, ◌≤◌, ◌==◌, List, [], ◌∷◌, ◌++◌, Some, None, Bool, true, false, if◌then◌else◌, length, get_or, take, set, refl, sym, ◌∙◌, ap, subst, arith, eq-eqb, length-append}
use Rattle.base_laws.proofs.Tests.{if_true, if_false}
use Rattle.std.specs.Prelude.{slice_get, Vec}
use Rattle.std.specs.Global.{Global}
use Rattle.std.proofs.Math.Decide.{ℕ_discrete}
use Rattle.std.proofs.Math.ListN.{length-set}
use Rattle.std.proofs.lemmas.Bool.{ne_eqb}
use Rattle.std.proofs.lemmas.List.{take_more, take_all, length-take-le}
use Rattle.geo_base.specs.declared.shapes.Rect.{Rect}
use Rattle.rect_sets.specs.Rects.{AreAbove, IsOrdered, IsListed}
use Rattle.gate_shapes.specs.PartLists.{members}
use Rattle.gate_shapes.specs.Sorted.{AreSortedOut}

pub get_push : {A : Type 0} (xs : List A) (v u : A) (x : ℕ) → slice_get (xs ++ v ∷ []) x ≡ Some u → (slice_get xs x ≡ Some u) ⊎ ((u ≡ v) × (x ≡ length xs))
get_push [] v u zero e = inr (let f : Some v ≡ Some u = e in (cc), refl)
get_push [] v u (suc x) e = absurd (let f : None ≡ Some u = e in cc)
get_push (y ∷ xs) v u zero e = inl e
get_push (y ∷ xs) v u (suc x) e = elim (get_push xs v u x e) [ inl f ↦ inl f | inr f ↦ inr (f.0, ap (λ (n : ℕ). suc n) f.1) ]

get_set : {A : Type 0} (xs : List A) (k : ℕ) (v u : A) (x : ℕ) → slice_get (set xs k v) x ≡ Some u → ((x ≡ k) × (u ≡ v)) ⊎ ((x ≡ k → ⊥) × (slice_get xs x ≡ Some u))
get_set [] k v u x e = absurd (let f : None ≡ Some u = e in cc)
get_set (y ∷ xs) zero v u zero e = inl (refl, let f : Some v ≡ Some u = e in cc)
get_set (y ∷ xs) zero v u (suc x) e = inr ((λ z. absurd (omega (arith, z))), e)
get_set (y ∷ xs) (suc k) v u zero e = inr ((λ z. absurd (omega (arith, z))), e)
get_set (y ∷ xs) (suc k) v u (suc x) e = elim (get_set xs k v u x e) [ inl f ↦ inl (ap (λ (n : ℕ). suc n) f.0, f.1) | inr f ↦ inr ((λ z. f.0 (omega (arith, z))), f.1) ]

members_push : (x c : ℕ) (cs : List ℕ) (r : Rect) (rs : List Rect) → length cs ≡ length rs → members x (cs ++ c ∷ []) (rs ++ r ∷ []) ≡ (if c == x then members x cs rs ++ r ∷ [] else members x cs rs)
members_push x c [] r [] e = refl
members_push x c [] r (s ∷ rs) e = absurd (omega (arith, e))
members_push x c (d ∷ cs) r [] e = absurd (omega (arith, e))
members_push x c (d ∷ cs) r (s ∷ rs) e =
    let rest = members_push x c cs r rs (omega (arith, e)) in
    ap (λ (l : List Rect). if d == x then s ∷ l else l) rest ∙ swapped (d == x) (c == x) s (members x cs rs) r
  where
    swapped : (b a : Bool) (s : Rect) (l : List Rect) (r : Rect) → (if b then s ∷ (if a then l ++ r ∷ [] else l) else (if a then l ++ r ∷ [] else l)) ≡ (if a then (if b then s ∷ l else l) ++ r ∷ [] else (if b then s ∷ l else l))
    swapped true true s l r = refl
    swapped true false s l r = refl
    swapped false true s l r = refl
    swapped false false s l r = refl

pub sorted_none : AreSortedOut [] [] 0 []
sorted_none = record { long = refl; each = λ x u e. absurd (let f : None ≡ Some u = e in cc) }

pub sorted_empty : (n : ℕ) (lists : List (Vec Rect Global)) (v : Vec Rect Global) → v.items ≡ [] → AreSortedOut [] [] n lists → AreSortedOut [] [] (n + 1) (lists ++ v ∷ [])
sorted_empty n lists v none h = record {
  long = let e = h.long in omega (arith, length-append lists (v ∷ []));
  each = λ x u e. elim (get_push lists v u x e) [ inl f ↦ h.each x u f | inr f ↦ ap (λ (w : Vec Rect Global). w.items) f.0 ∙ none ];
}

pub sorted_more : (rects : List Rect) (cs : List ℕ) (count i : ℕ) (d : Rect) (lists : List (Vec Rect Global)) (old new : Vec Rect Global) → i < length rects → length cs ≡ length rects
    → slice_get lists (get_or cs i 0) ≡ Some old → new.items ≡ old.items ++ get_or rects i d ∷ [] → AreSortedOut (take i rects) (take i cs) count lists
    → AreSortedOut (take (i + 1) rects) (take (i + 1) cs) count (set lists (get_or cs i 0) new)
sorted_more rects cs count i d lists old new lt long at grown h = record {
  long = length-set lists (get_or cs i 0) new ∙ h.long;
  each = λ x u e.
      let c = get_or cs i 0 in
      let r = get_or rects i d in
      let both : members x (take (i + 1) cs) (take (i + 1) rects) ≡ (if c == x then members x (take i cs) (take i rects) ++ r ∷ [] else members x (take i cs) (take i rects)) =
      ap (λ (l : List ℕ). members x l (take (i + 1) rects)) (take_more cs i 0 (omega arith)) ∙ ap (λ (l : List Rect). members x (take i cs ++ c ∷ []) l) (take_more rects i d lt)
      ∙ members_push x c (take i cs) r (take i rects) (length-take-le i cs (omega arith) ∙ sym (length-take-le i rects (omega arith))) in
      elim (get_set lists c new u x e) [
        | inl f ↦
            let same : (c == x) ≡ true = eq-eqb c x (sym f.0) in
            ap (λ (w : Vec Rect Global). w.items) f.1 ∙ grown ∙ ap (λ (l : List Rect). l ++ r ∷ []) (h.each x old (subst (λ (n : ℕ). slice_get lists n ≡ Some old) (sym f.0) at))
            ∙ sym (both ∙ ap (λ (b : Bool). if b then members x (take i cs) (take i rects) ++ r ∷ [] else members x (take i cs) (take i rects)) same)
        | inr f ↦
            let other : (c == x) ≡ false = ne_eqb c x (λ z. f.0 (sym z)) in
            h.each x u f.1 ∙ sym (both ∙ ap (λ (b : Bool). if b then members x (take i cs) (take i rects) ++ r ∷ [] else members x (take i cs) (take i rects)) other)
      ];
}

pub sorted_all : (rects : List Rect) (cs : List ℕ) (count i : ℕ) (lists : List (Vec Rect Global)) → length rects ≤ i → length cs ≡ length rects → AreSortedOut (take i rects) (take i cs) count lists → AreSortedOut rects cs count lists
sorted_all rects cs count i lists le long h =
    subst (λ (l : List Rect). AreSortedOut l cs count lists) (take_all i rects le) (subst (λ (l : List ℕ). AreSortedOut (take i rects) l count lists) (take_all i cs (omega arith)) h)

-- the rectangles of a class

-- a member's place
pub record IsMemberAt (x : ℕ) (cs : List ℕ) (rs : List Rect) (r : Rect) (i : ℕ) : Type 0 where
  pub class : slice_get cs i ≡ Some x
  pub rect : slice_get rs i ≡ Some r

pub member_place : (x : ℕ) (cs : List ℕ) (rs : List Rect) (r : Rect) → IsListed r (members x cs rs) → (i : ℕ) × IsMemberAt x cs rs r i
member_place x [] rs r l = absurd l
member_place x (c ∷ cs) [] r l = absurd l
member_place x (c ∷ cs) (s ∷ rs) r l = elim (ℕ_discrete c x) [
  | yes e ↦ elim (subst (λ (m : List Rect). IsListed r m) (if_true (c == x) (s ∷ members x cs rs) (members x cs rs) (eq-eqb c x e)) l) [
    | inl f ↦ (zero, record { class = ap (λ (n : ℕ). Some n) e; rect = ap (λ (t : Rect). Some t) (sym f) })
    | inr g ↦ (let p = member_place x cs rs r g in (suc p.0, record { class = p.1.class; rect = p.1.rect }))
  ]
  | no not ↦ (let p = member_place x cs rs r (subst (λ (m : List Rect). IsListed r m) (if_false (c == x) (s ∷ members x cs rs) (members x cs rs) (ne_eqb c x not)) l) in (suc p.0, record { class = p.1.class; rect = p.1.rect }))
]

pub place_member : (x : ℕ) (cs : List ℕ) (rs : List Rect) (r : Rect) (i : ℕ) → slice_get cs i ≡ Some x → slice_get rs i ≡ Some r → IsListed r (members x cs rs)
place_member x [] rs r i e f = absurd (let g : None ≡ Some x = e in cc)
place_member x (c ∷ cs) [] r i e f = absurd (let g : None ≡ Some r = f in cc)
place_member x (c ∷ cs) (s ∷ rs) r zero e f =
    let same : c ≡ x = (let g : Some c ≡ Some x = e in cc) in
    let is : r ≡ s = (let g : Some s ≡ Some r = f in cc) in
    subst (λ (m : List Rect). IsListed r m) (sym (if_true (c == x) (s ∷ members x cs rs) (members x cs rs) (eq-eqb c x same))) (inl is)
place_member x (c ∷ cs) (s ∷ rs) r (suc i) e f =
    let rest = place_member x cs rs r i e f in
    elim (ℕ_discrete c x) [
      | yes same ↦ subst (λ (m : List Rect). IsListed r m) (sym (if_true (c == x) (s ∷ members x cs rs) (members x cs rs) (eq-eqb c x same))) (inr rest)
      | no not ↦ subst (λ (m : List Rect). IsListed r m) (sym (if_false (c == x) (s ∷ members x cs rs) (members x cs rs) (ne_eqb c x not))) rest
    ]

above_members : (x : ℕ) (q : Rect) (cs : List ℕ) (rs : List Rect) → AreAbove q rs → AreAbove q (members x cs rs)
above_members x q [] rs h = tt
above_members x q (c ∷ cs) [] h = tt
above_members x q (c ∷ cs) (s ∷ rs) h = elim (ℕ_discrete c x) [
  | yes same ↦ subst (λ (m : List Rect). AreAbove q m) (sym (if_true (c == x) (s ∷ members x cs rs) (members x cs rs) (eq-eqb c x same))) (h.0, above_members x q cs rs h.1)
  | no not ↦ subst (λ (m : List Rect). AreAbove q m) (sym (if_false (c == x) (s ∷ members x cs rs) (members x cs rs) (ne_eqb c x not))) (above_members x q cs rs h.1)
]

pub ordered_members : (x : ℕ) (cs : List ℕ) (rs : List Rect) → IsOrdered rs → IsOrdered (members x cs rs)
ordered_members x [] rs h = tt
ordered_members x (c ∷ cs) [] h = tt
ordered_members x (c ∷ cs) (s ∷ rs) h = elim (ℕ_discrete c x) [
  | yes same ↦ subst (λ (m : List Rect). IsOrdered m) (sym (if_true (c == x) (s ∷ members x cs rs) (members x cs rs) (eq-eqb c x same))) (above_members x s cs rs h.0, ordered_members x cs rs h.1)
  | no not ↦ subst (λ (m : List Rect). IsOrdered m) (sym (if_false (c == x) (s ∷ members x cs rs) (members x cs rs) (ne_eqb c x not))) (ordered_members x cs rs h.1)
]
