-- What parting off says of two nodes.
use Rattle.std.proofs.Common.{◌≡◌, ◌≢◌, inl, inr, ◌<◌, ◌≤◌, ◌+◌, ◌-◌, ◌==◌, ◌||◌, ℕ, zero, suc, Bool, true, false, cond, List, [], ◌∷◌, length, slice_index, take, refl, sym, subst, ◌∙◌, ap, arith, true≢false, nat_eq}
use Rattle.std.proofs.lemmas.Bool.{cases_Bool, or_cases, false_from_ne_true, or_left, or_right}
use Rattle.std.specs.List.{list_any, IsDistinct, AllByRecursion}
use Rattle.std.proofs.Math.Decide.{ℕ_discrete}
use Rattle.std.proofs.lemmas.List.Folds.{list_any_more}
use Rattle.std.proofs.lemmas.Bool.Decides.{Decides-eqb}
use Rattle.std.proofs.lemmas.Map.Steps.{length-le_from_distinct_below}
use Rattle.match_rounds.specs.declared.classes.Classes.{Classes}
use Rattle.match_rounds.specs.Order.{class_at, whole_of, is_among}
use Rattle.match_rounds.specs.Classes.{AreClasses, AreAlike, PartedLaw, class_count}

-- the values of f below k
abbrev down : (ℕ → ℕ) → ℕ → List ℕ
down f zero = []
down f (suc k) = f k ∷ down f k

down_long : (f : ℕ → ℕ) (k : ℕ) → length (down f k) ≡ k
down_long f zero = refl
down_long f (suc k) = let h = down_long f k in omega arith

in_down : (f : ℕ → ℕ) (q k : ℕ) → list_any (nat_eq q) (down f k) ≡ true → (i : ℕ) × (i < k) × (q ≡ f i)
in_down f q zero h = absurd (true≢false (sym h))
in_down f q (suc k) h = elim (or_cases (nat_eq q (f k)) (list_any (nat_eq q) (down f k)) h) [
  | inl e ↦ (k, omega arith, (Decides-eqb q (f k)).0 e)
  | inr r ↦ let g = in_down f q k r in let l = g.1 in (g.0, omega arith, g.2)
]

all_down : (f : ℕ → ℕ) (x k : ℕ) → ((j : ℕ) → j < k → f j ≢ x) → AllByRecursion (λ y. nat_eq x y ≡ false) (down f k)
all_down f x zero h = tt
all_down f x (suc k) h = (false_from_ne_true (nat_eq x (f k)) (λ t. h k (omega arith) (sym ((Decides-eqb x (f k)).0 t))), all_down f x k (λ j l. h j (omega arith)))

down_distinct : (f : ℕ → ℕ) (k : ℕ) → ((i j : ℕ) → i < k → j < i → f j ≢ f i) → IsDistinct nat_eq (down f k)
unfolding IsDistinct
down_distinct f zero h = tt
down_distinct f (suc k) h = (all_down f (f k) k (λ j l. h k j (omega arith) l), down_distinct f k (λ i j l m. h i j (omega arith) m))

-- k + 1 numbers below s, no two equal, are no more than s
few_below : (f : ℕ → ℕ) (k v s : ℕ) → ((i j : ℕ) → i < k → j < i → f j ≢ f i) → ((i : ℕ) → i < k → f i ≢ v) → ((i : ℕ) → i < k → f i < s) → v < s → k < s
unfolding IsDistinct
few_below f k v s distinct other below lv =
    let long = down_long f k in
    let h : length (v ∷ down f k) ≤ s = length-le_from_distinct_below (v ∷ down f k) s (all_down f v k other, down_distinct f k distinct)
    (λ q t. elim (or_cases (nat_eq q v) (list_any (nat_eq q) (down f k)) t) [
      | inl e ↦ subst (λ (x : ℕ). x < s) (sym ((Decides-eqb q v).0 e)) lv
      | inr r ↦ let g = in_down f q k r in subst (λ (x : ℕ). x < s) (sym g.2) (below g.0 g.1)
    ]) in
    omega arith

pub found : (nodes : List ℕ) (k a : ℕ) → k ≤ length nodes → is_among nodes k a ≡ true → (i : ℕ) × (i < k) × (slice_index nodes i ≡ a)
found nodes zero a l h = absurd (true≢false (sym h))
found nodes (suc k) a l h =
    let s : suc k ≡ k + 1 = omega arith in
    let more : list_any (λ x. x == a) (take (k + 1) nodes) ≡ (is_among nodes k a || (slice_index nodes k == a)) = list_any_more (λ x. x == a) nodes k 0 (omega arith) in
    let t : (is_among nodes k a || (slice_index nodes k == a)) ≡ true = sym more ∙ (ap (λ (m : ℕ). is_among nodes m a) (sym s) ∙ h) in
    elim (or_cases (is_among nodes k a) (slice_index nodes k == a) t) [
      | inl r ↦ let g = found nodes k a (omega arith) r in let m = g.1 in (g.0, omega arith, g.2)
      | inr e ↦ (k, omega arith, (Decides-eqb (slice_index nodes k) a).0 e)
    ]

pub has : (nodes : List ℕ) (k a i : ℕ) → k ≤ length nodes → i < k → slice_index nodes i ≡ a → is_among nodes k a ≡ true
has nodes zero a i l m e = absurd (omega arith)
has nodes (suc k) a i l m e =
    let s : suc k ≡ k + 1 = omega arith in
    let more : list_any (λ x. x == a) (take (k + 1) nodes) ≡ (is_among nodes k a || (slice_index nodes k == a)) = list_any_more (λ x. x == a) nodes k 0 (omega arith) in
    ap (λ (m : ℕ). is_among nodes m a) s ∙ (more ∙ elim (ℕ_discrete i k) [
      | yes is ↦ or_right (is_among nodes k a) (slice_index nodes k == a) ((Decides-eqb (slice_index nodes k) a).1 (ap (slice_index nodes) (sym is) ∙ e))
      | no not ↦ or_left (is_among nodes k a) (slice_index nodes k == a) (has nodes k a i (omega arith) (omega (arith, not)) e)
    ])

-- where the nodes are no fewer than their class, they are all of it
all_among : (old : Classes) (nodes : List ℕ) (n a : ℕ) → AreClasses old n → AreAlike old.class_of.items nodes n
    → slice_index old.counts.size.items (whole_of old.class_of.items nodes) ≤ length nodes → a < n → slice_index old.class_of.items a ≡ whole_of old.class_of.items nodes
    → is_among nodes (length nodes) a ≡ true
all_among old nodes n a h al few la is =
    let w : ℕ = whole_of old.class_of.items nodes in
    let low : whole_of old.class_of.items nodes < length old.counts.size.items = h.below (slice_index nodes 0) (al.below 0 al.some) in
    let stands = h.stands (whole_of old.class_of.items nodes) low in
    let at : (x : ℕ) → x < n → slice_index old.class_of.items x ≡ whole_of old.class_of.items nodes
    → (slice_index old.begin.items (whole_of old.class_of.items nodes) ≤ slice_index old.order.place_of.items x) × (slice_index old.order.place_of.items x < slice_index old.begin.items (whole_of old.class_of.items nodes) + slice_index old.counts.size.items (whole_of old.class_of.items nodes))
    = λ x l e. (stands (slice_index old.order.place_of.items x) (h.placed.place_below x l)).0 (ap (slice_index old.class_of.items) (h.placed.placed x l) ∙ e) in
    let same : (x y : ℕ) → x < n → y < n → slice_index old.order.place_of.items x ≡ slice_index old.order.place_of.items y → x ≡ y
    = λ x y l m e. sym (h.placed.placed x l) ∙ (ap (slice_index old.order.node_at.items) e ∙ h.placed.placed y m) in
    elim (cases_Bool (is_among nodes (length nodes) a)) [
      | inl r ↦ r
      | inr r ↦
          let here = at a la is in
          let lo = here.0 in
          let hi = here.1 in
          let b : ℕ = slice_index old.begin.items (whole_of old.class_of.items nodes) in
          let k = few_below (λ i. slice_index old.order.place_of.items (slice_index nodes i) - slice_index old.begin.items (whole_of old.class_of.items nodes)) (length nodes)
          (slice_index old.order.place_of.items a - slice_index old.begin.items (whole_of old.class_of.items nodes)) (slice_index old.counts.size.items (whole_of old.class_of.items nodes))
          (λ i j l m e.
          let x = at (slice_index nodes i) (al.below i l) (al.alike i l) in
          let y = at (slice_index nodes j) (al.below j (omega arith)) (al.alike j (omega arith)) in
          let x0 = x.0 in let y0 = y.0 in
          al.distinct i j l m (same (slice_index nodes j) (slice_index nodes i) (al.below j (omega arith)) (al.below i l) (omega arith)))
          (λ i l e.
          let x = at (slice_index nodes i) (al.below i l) (al.alike i l) in
          let x0 = x.0 in
          true≢false (sym (has nodes (length nodes) a i (omega arith) l (same (slice_index nodes i) a (al.below i l) la (omega arith))) ∙ r))
          (λ i l. let x = at (slice_index nodes i) (al.below i l) (al.alike i l) in let x0 = x.0 in let x1 = x.1 in omega arith)
          (omega arith) in
          absurd (omega arith)
    ]

-- classes are no more than nodes
pub few_classes : (c : Classes) (n : ℕ) → AreClasses c n → class_count c ≤ n
unfolding IsDistinct
few_classes c n h =
    let long = down_long (slice_index c.begin.items) (class_count c) in
    let few : length (down (slice_index c.begin.items) (class_count c)) ≤ n = length-le_from_distinct_below (down (slice_index c.begin.items) (class_count c)) n
    (down_distinct (slice_index c.begin.items) (class_count c) (λ i j l m e. let two = one i l (slice_index c.begin.items i) (omega arith) refl in let one = one j (omega arith) (slice_index c.begin.items i) (omega arith) e in omega arith))
    (λ q t. let g = in_down (slice_index c.begin.items) q (class_count c) t in subst (λ (x : ℕ). x < n) (sym g.2) (let f = h.fits g.0 g.1 in let s = h.some g.0 g.1 in omega arith)) in
    omega arith
  where
    one : (d : ℕ) → d < class_count c → (k : ℕ) → k < n → slice_index c.begin.items d ≡ k → class_at c.class_of.items c.order k ≡ d
    one d l k lk e = (h.stands d l k lk).1 (let s = h.some d l in (omega arith, omega arith))

pub parted : PartedLaw
parted old new nodes n h al (inl new_is) a b la lb =
    let low : whole_of old.class_of.items nodes < length old.counts.size.items = h.below (slice_index nodes 0) (al.below 0 al.some) in
    elim (cases_Bool (is_among nodes (length nodes) a)) [
      | inl ra ↦ elim (cases_Bool (is_among nodes (length nodes) b)) [
        | inl rb ↦
            let fa = found nodes (length nodes) a (omega arith) ra in
            let fb = found nodes (length nodes) b (omega arith) rb in
            let oa : slice_index old.class_of.items a ≡ whole_of old.class_of.items nodes = ap (slice_index old.class_of.items) (sym fa.2) ∙ al.alike fa.0 fa.1 in
            let ob : slice_index old.class_of.items b ≡ whole_of old.class_of.items nodes = ap (slice_index old.class_of.items) (sym fb.2) ∙ al.alike fb.0 fb.1 in
            ((λ e. (oa ∙ sym ob, ra ∙ sym rb)), (λ e. yes_is a la ra ∙ sym (yes_is b lb rb)))
        | inr rb ↦
            let lo = h.below b lb in
            ((λ e. absurd (not_new (sym (yes_is a la ra) ∙ (e ∙ no_is b lb rb)) lo)), (λ e. absurd (true≢false (sym ra ∙ (e.1 ∙ rb)))))
      ]
      | inr ra ↦ elim (cases_Bool (is_among nodes (length nodes) b)) [
        | inl rb ↦
            let lo = h.below a la in
            ((λ e. absurd (not_new (sym (yes_is b lb rb) ∙ (sym e ∙ no_is a la ra)) lo)), (λ e. absurd (true≢false (sym rb ∙ (sym e.1 ∙ ra)))))
        | inr rb ↦ ((λ e. (sym (no_is a la ra) ∙ (e ∙ no_is b lb rb), ra ∙ sym rb)), (λ e. no_is a la ra ∙ (e.0 ∙ sym (no_is b lb rb))))
      ]
    ]
  where
    yes_is : (x : ℕ) → x < n → is_among nodes (length nodes) x ≡ true → slice_index new.class_of.items x ≡ length old.counts.size.items
    yes_is x l r = new_is x l ∙ ap (λ (t : Bool). cond {A = ℕ} t (length old.counts.size.items) (slice_index old.class_of.items x)) r

    no_is : (x : ℕ) → x < n → is_among nodes (length nodes) x ≡ false → slice_index new.class_of.items x ≡ slice_index old.class_of.items x
    no_is x l r = new_is x l ∙ ap (λ (t : Bool). cond {A = ℕ} t (length old.counts.size.items) (slice_index old.class_of.items x)) r

    not_new : {m x : ℕ} → m ≡ x → x < m → ⊥
    not_new e l = omega arith
parted old new nodes n h al (inr same) a b la lb =
    ((λ e. let o = was a ∙ (e ∙ sym (was b)) in (o, alike o)), (λ e. sym (was a) ∙ (e.0 ∙ was b)))
  where
    was : (x : ℕ) → slice_index old.class_of.items x ≡ slice_index new.class_of.items x
    was x = ap (λ (xs : List ℕ). slice_index xs x) (sym same.1)

    none_other : (x : ℕ) → slice_index old.class_of.items x ≢ whole_of old.class_of.items nodes → is_among nodes (length nodes) x ≡ false
    none_other x not = false_from_ne_true (is_among nodes (length nodes) x) (λ t. let f = found nodes (length nodes) x (omega arith) t in not (ap (slice_index old.class_of.items) (sym f.2) ∙ al.alike f.0 f.1))

    alike : slice_index old.class_of.items a ≡ slice_index old.class_of.items b → is_among nodes (length nodes) a ≡ is_among nodes (length nodes) b
    alike o = elim (ℕ_discrete (slice_index old.class_of.items a) (whole_of old.class_of.items nodes)) [
      | yes is ↦ all_among old nodes n a h al same.0 la is ∙ sym (all_among old nodes n b h al same.0 lb (sym o ∙ is))
      | no not ↦ none_other a not ∙ sym (none_other b (λ t. not (o ∙ t)))
    ]
