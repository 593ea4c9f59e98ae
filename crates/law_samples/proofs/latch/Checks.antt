-- Tests over all nodes by which given colours are seen to be the classes of a round.
use Rattle.std.proofs.Common.{◌≡◌, inl, inr, ℕ, suc, ◌==◌, ◌&&◌, cond, Bool, true, false, List, [], ◌∷◌, ◌++◌, map, filter, refl, sym, subst, ◌∙◌, ap₂}
use Rattle.std.specs.List.{list_all, count_by}
use Rattle.std.specs.Bool.{beq}
use Rattle.std.proofs.lemmas.Bool.Decides.{Decides-eqb}
use Rattle.plain_netlist.specs.Lists.{IsListed}
use Rattle.round_laws.specs.Web.{Web, IsWeb, IsNode, agree, same_ends, on_left, on_right, IsEven, IsStable, first_of}
use Rattle.round_laws.proofs.Agree.{first, second, count_same, in_left, in_right}
use Rattle.round_laws.proofs.Stable.{ends_alike}

pub all_at : {X : Type 0} (p : X → Bool) (x : X) (xs : List X) → list_all p xs ≡ true → IsListed x xs → p x ≡ true
all_at p x [] h i = absurd i
all_at {X} p x (y ∷ ys) h (inl e) = subst (λ (z : X). p z ≡ true) (sym e) (first (p y) _ h)
all_at p x (y ∷ ys) h (inr i) = all_at p x ys (second (p y) _ h) i

beq_is : (a b : Bool) → beq a b ≡ true → a ≡ b
beq_is true true h = refl
beq_is true false h = absurd cc
beq_is false true h = absurd cc
beq_is false false h = refl

abbrev pub everyone : {N : Type 0} → Web N → List N
everyone w = w.left ++ w.right

abbrev pub pairs_all : {N : Type 0} → (N → N → Bool) → List N → Bool
pairs_all p xs = list_all (λ a. list_all (p a) xs) xs

-- these colours are those of round 0
abbrev pub starts : {N : Type 0} → Web N → (N → ℕ) → Bool
starts w colour = pairs_all (λ a b. beq (w.alike a b) (colour a == colour b)) (everyone w)

-- from these colours a round makes those
abbrev pub goes_on : {N : Type 0} → Web N → (N → ℕ) → (N → ℕ) → Bool
goes_on w colour new = pairs_all (λ a b. beq ((colour a == colour b) && same_ends (λ x y. colour x == colour y) (w.near a) (w.near b)) (new a == new b)) (everyone w)

-- as many of each colour on both sides
abbrev pub evens : {N : Type 0} → Web N → (N → ℕ) → Bool
evens w colour = list_all (λ a. count_by (λ x. colour a == colour x) w.left == count_by (λ x. colour a == colour x) w.right) (everyone w)

-- one of each colour on both sides
abbrev pub singles : {N : Type 0} → Web N → (N → ℕ) → Bool
singles w colour = list_all (λ a. (count_by (λ x. colour a == colour x) w.left == 1) && (count_by (λ x. colour a == colour x) w.right == 1)) (everyone w)

abbrev pub Holds : {N : Type 0} → Web N → ℕ → (N → ℕ) → Type 0
Holds {N} w k colour = (a b : N) → IsNode w a → IsNode w b → agree w k a b ≡ (colour a == colour b)

pub here : {N : Type 0} (w : Web N) (a : N) → IsNode w a → IsListed a (everyone w)
here w a (inl i) = in_left a w.left w.right i
here w a (inr i) = in_right a w.left w.right i

pairs_at : {N : Type 0} (p : N → N → Bool) (xs : List N) (a b : N) → pairs_all p xs ≡ true → IsListed a xs → IsListed b xs → p a b ≡ true
pairs_at p xs a b h i j = all_at (p a) b xs (all_at (λ x. list_all (p x) xs) a xs h i) j

pub started : {N : Type 0} (w : Web N) (colour : N → ℕ) → starts w colour ≡ true → Holds w 0 colour
started w colour h a b i j = beq_is _ _ (pairs_at _ (everyone w) a b h (here w a i) (here w b j))

pub went_on : {N : Type 0} (w : Web N) (k : ℕ) (colour new : N → ℕ) → IsWeb w → Holds w k colour → goes_on w colour new ≡ true → Holds w (suc k) new
went_on w k colour new web holds h a b i j =
    ap₂ (λ (x y : Bool). x && y) (holds a b i j) (ends_alike w (agree w k) (λ x y. colour x == colour y) web holds a b i j)
    ∙ beq_is _ _ (pairs_at _ (everyone w) a b h (here w a i) (here w b j))

pub stable_by : {N : Type 0} (w : Web N) (k : ℕ) (colour : N → ℕ) → Holds w k colour → Holds w (suc k) colour → IsStable w k
stable_by w k colour now next a b i j h = next a b i j ∙ (sym (now a b i j) ∙ h)

pub left_by : {N : Type 0} (w : Web N) (k : ℕ) (colour : N → ℕ) → Holds w k colour → (a : N) → IsNode w a → on_left w k a ≡ count_by (λ x. colour a == colour x) w.left
left_by w k colour holds a i = count_same (agree w k a) (λ x. colour a == colour x) w.left (λ x l. holds a x i (inl l))

pub right_by : {N : Type 0} (w : Web N) (k : ℕ) (colour : N → ℕ) → Holds w k colour → (a : N) → IsNode w a → on_right w k a ≡ count_by (λ x. colour a == colour x) w.right
right_by w k colour holds a i = count_same (agree w k a) (λ x. colour a == colour x) w.right (λ x l. holds a x i (inr l))

pub even_by : {N : Type 0} (w : Web N) (k : ℕ) (colour : N → ℕ) → Holds w k colour → evens w colour ≡ true → IsEven w k
even_by w k colour holds h a i = left_by w k colour holds a i ∙ ((Decides-eqb _ _).0 (all_at _ a (everyone w) h (here w a i)) ∙ sym (right_by w k colour holds a i))

pub single_left : {N : Type 0} (w : Web N) (k : ℕ) (colour : N → ℕ) → Holds w k colour → singles w colour ≡ true → (a : N) → IsNode w a → on_left w k a ≡ 1
single_left w k colour holds h a i = left_by w k colour holds a i ∙ (Decides-eqb _ _).0 (first _ _ (all_at _ a (everyone w) h (here w a i)))

pub single_right : {N : Type 0} (w : Web N) (k : ℕ) (colour : N → ℕ) → Holds w k colour → singles w colour ≡ true → (a : N) → IsNode w a → on_right w k a ≡ 1
single_right w k colour holds h a i =
    right_by w k colour holds a i ∙ (Decides-eqb _ _).0 (second (count_by (λ x. colour a == colour x) w.left == 1) _ (all_at _ a (everyone w) h (here w a i)))

pub filter_same : {X : Type 0} (p q : X → Bool) (xs : List X) → ((x : X) → IsListed x xs → p x ≡ q x) → filter p xs ≡ filter q xs
filter_same p q [] h = refl
filter_same {X} p q (x ∷ xs) h = ap₂ (λ (t : Bool) (ys : List X). cond t (x ∷ ys) ys) (h x (inl refl)) (filter_same p q xs (λ y i. h y (inr i)))

pub first_same : {X : Type 0} (p q : X → Bool) (xs : List X) (d : X) → ((x : X) → IsListed x xs → p x ≡ q x) → first_of p xs d ≡ first_of q xs d
first_same p q [] d h = refl
first_same {X} p q (x ∷ xs) d h = ap₂ (λ (t : Bool) (y : X). cond t x y) (h x (inl refl)) (first_same p q xs d (λ y i. h y (inr i)))

pub map_same : {X Y : Type 0} (f g : X → Y) (xs : List X) → ((x : X) → IsListed x xs → f x ≡ g x) → map f xs ≡ map g xs
map_same f g [] h = refl
map_same {X} {Y} f g (x ∷ xs) h = ap₂ (λ (y : Y) (ys : List Y). y ∷ ys) (h x (inl refl)) (map_same f g xs (λ y i. h y (inr i)))
