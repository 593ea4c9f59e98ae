-- Rounds only split classes, stay once no class splits, and come to that.
use Rattle.std.proofs.Common.{◌≡◌, ◌⊎◌, inl, inr, ℕ, zero, suc, ◌+◌, ◌≤◌, ◌==◌, ◌&&◌, cond, Bool, true, false, List, [], ◌∷◌, ◌++◌, length, refl, sym, subst, ◌∙◌, ap, ap₂, arith, true≢false}
use Rattle.base_laws.proofs.Tests.{same_truth}
use Rattle.std.proofs.lemmas.Bool.{and_from, or_cases, or_left, or_right}
use Rattle.std.specs.List.{list_all, list_any}
use Rattle.std.specs.Cmp.{IsEquivalence}
use Rattle.std.proofs.Math.Decide.{ℕ_discrete}
use Rattle.plain_netlist.specs.Lists.{IsListed}
use Rattle.round_laws.specs.Web.{same_port, End, Web, fits, same_ends, agree, IsWeb, IsNode, IsStable, classes}
use Rattle.round_laws.proofs.Agree.{count_same, first, second, equivalence, in_left, in_right}

pub agreed_before : {N : Type 0} (w : Web N) (k : ℕ) (a b : N) → agree w (suc k) a b ≡ true → agree w k a b ≡ true
agreed_before w k a b h = first (agree w k a b) _ h

pub agreed_first : {N : Type 0} (w : Web N) (k : ℕ) (a b : N) → agree w k a b ≡ true → w.alike a b ≡ true
agreed_first w zero a b h = h
agreed_first w (suc k) a b h = agreed_first w k a b (agreed_before w k a b h)

pub near_node : {N : Type 0} (w : Web N) → IsWeb w → (a : N) → IsNode w a → (e : End N) → IsListed e (w.near a) → IsNode w e.node
near_node w web a (inl i) e j = inl (web.left_near a i e j)
near_node w web a (inr i) e j = inr (web.right_near a i e j)

all_same : {X : Type 0} (p q : X → Bool) (xs : List X) → ((x : X) → IsListed x xs → p x ≡ q x) → list_all p xs ≡ list_all q xs
all_same p q [] h = refl
all_same p q (x ∷ xs) h = ap₂ (λ (a b : Bool). a && b) (h x (inl refl)) (all_same p q xs (λ y i. h y (inr i)))

pub in_either : {X : Type 0} (x : X) (xs ys : List X) → IsListed x (xs ++ ys) → IsListed x xs ⊎ IsListed x ys
in_either x [] ys i = inr i
in_either x (y ∷ xs) ys (inl e) = inl (inl e)
in_either x (y ∷ xs) ys (inr i) = elim (in_either x xs ys i) [ inl j ↦ inl (inr j) | inr j ↦ inr j ]

-- two tests that are one on the nodes find the same ends
pub ends_alike : {N : Type 0} (w : Web N) (f g : N → N → Bool) → IsWeb w → ((a b : N) → IsNode w a → IsNode w b → f a b ≡ g a b)
    → (a b : N) → IsNode w a → IsNode w b → same_ends f (w.near a) (w.near b) ≡ same_ends g (w.near a) (w.near b)
ends_alike {N} w f g web same a b i j = all_same _ _ (w.near a ++ w.near b) (λ c l.
    let node : IsNode w c.node = elim (in_either c (w.near a) (w.near b) l) [ inl h ↦ near_node w web a i c h | inr h ↦ near_node w web b j c h ] in
    ap₂ (λ (m n : ℕ). m == n)
    (count_same (fits f c) (fits g c) (w.near a) (λ e h. ap (λ (t : Bool). same_port c.port e.port && t) (same c.node e.node node (near_node w web a i e h))))
    (count_same (fits f c) (fits g c) (w.near b) (λ e h. ap (λ (t : Bool). same_port c.port e.port && t) (same c.node e.node node (near_node w web b j e h)))))

stays_next : {N : Type 0} (w : Web N) (k i : ℕ) → IsWeb w → IsStable w k → ((a b : N) → IsNode w a → IsNode w b → agree w i a b ≡ agree w k a b)
    → (a b : N) → IsNode w a → IsNode w b → agree w (suc i) a b ≡ agree w k a b
stays_next {N} w k i web stable same a b p q =
    same_truth (agree w (suc i) a b) (agree w k a b)
    (λ h. sym (same a b p q) ∙ agreed_before w i a b h)
    (λ h. and_from (agree w i a b) _ (same a b p q ∙ h)
    (ends_alike w (agree w i) (agree w k) web same a b p q ∙ second (agree w k a b) _ (stable a b p q h)))

pub stays : {N : Type 0} (w : Web N) (k j : ℕ) → IsWeb w → IsStable w k → k ≤ j → (a b : N) → IsNode w a → IsNode w b → agree w j a b ≡ agree w k a b
stays w k zero web stable le a b p q = let e : k ≡ zero = omega arith in subst (λ (i : ℕ). agree w zero a b ≡ agree w i a b) (sym e) refl
stays {N} w k (suc j) web stable le a b p q =
    elim (ℕ_discrete k (suc j)) [
      | yes e ↦ subst (λ (i : ℕ). agree w (suc j) a b ≡ agree w i a b) (sym e) refl
      | no not ↦
          let lower : k ≤ j = omega (arith, not) in
          stays_next w k j web stable (stays w k j web stable lower) a b p q
    ]

-- classes of a finer test
pub any_found : {X : Type 0} (p : X → Bool) (xs : List X) → list_any p xs ≡ true → (x : X) × IsListed x xs × (p x ≡ true)
any_found p [] h = absurd (true≢false (sym h))
any_found p (x ∷ xs) h =
    elim (or_cases (p x) _ h) [
      | inl r ↦ (x, inl refl, r)
      | inr r ↦ let f = any_found p xs r in (f.0, inr f.1, f.2)
    ]

pub any_of : {X : Type 0} (p : X → Bool) (x : X) (xs : List X) → IsListed x xs → p x ≡ true → list_any p xs ≡ true
any_of p x [] i h = absurd i
any_of {X} p x (y ∷ ys) (inl e) h = or_left _ _ (subst (λ (z : X). p z ≡ true) e h)
any_of p x (y ∷ ys) (inr i) h = or_right (p y) _ (any_of p x ys i h)

any_finer : {X : Type 0} (p q : X → Bool) (xs : List X) → ((x : X) → q x ≡ true → p x ≡ true) → list_any q xs ≡ true → list_any p xs ≡ true
any_finer p q xs h t = let f = any_found q xs t in any_of p f.0 xs f.1 (h f.0 f.2)

le_one : (a b : Bool) → (b ≡ true → a ≡ true) → cond a 0 1 ≤ cond b 0 1
le_one true b h = omega arith
le_one false true h = absurd (true≢false (sym (h refl)))
le_one false false h = omega arith

one_same : (a b : Bool) → ◌≡◌ {A = ℕ} (cond a 0 1) (cond b 0 1) → a ≡ true → b ≡ true
one_same true true h e = refl
one_same true false h e = absurd (omega arith)
one_same false b h e = absurd (true≢false (sym e))

le_one_here : (b : Bool) → cond b 0 1 ≤ 1
le_one_here true = omega arith
le_one_here false = omega arith

classes_grow : {N : Type 0} (f g : N → N → Bool) (xs : List N) → ((a b : N) → g a b ≡ true → f a b ≡ true) → classes f xs ≤ classes g xs
classes_grow f g [] h = omega arith
classes_grow f g (x ∷ xs) h =
    let head = le_one (list_any (f x) xs) (list_any (g x) xs) (any_finer (f x) (g x) xs (h x)) in
    let rest = classes_grow f g xs h in
    omega arith

classes-le-length : {N : Type 0} (f : N → N → Bool) (xs : List N) → classes f xs ≤ length xs
classes-le-length f [] = omega arith
classes-le-length f (x ∷ xs) = let head = le_one_here (list_any (f x) xs) in let rest = classes-le-length f xs in omega arith

head_same : {N : Type 0} (f g : N → N → Bool) (x : N) (xs : List N) → IsEquivalence f → IsEquivalence g → ((a b : N) → g a b ≡ true → f a b ≡ true)
    → (list_any (f x) xs ≡ true → list_any (g x) xs ≡ true)
    → ((a b : N) → IsListed a xs → IsListed b xs → f a b ≡ true → g a b ≡ true)
    → (b : N) → IsListed b xs → f x b ≡ true → g x b ≡ true
head_same f g x xs ef eg finer head rest b i h =
    let z = any_found (g x) xs (head (any_of (f x) b xs i h)) in
    let fz : f z.0 b ≡ true = sym (ef.congr x z.0 b (finer x z.0 z.2)) ∙ h in
    eg.congr x z.0 b z.2 ∙ rest z.0 b z.1 i fz

classes_same : {N : Type 0} (f g : N → N → Bool) (xs : List N) → IsEquivalence f → IsEquivalence g → ((a b : N) → g a b ≡ true → f a b ≡ true)
    → classes f xs ≡ classes g xs → (a b : N) → IsListed a xs → IsListed b xs → f a b ≡ true → g a b ≡ true
classes_same f g [] ef eg finer same a b i j h = absurd i
classes_same {N} f g (x ∷ xs) ef eg finer same a b i j h =
    let head = le_one (list_any (f x) xs) (list_any (g x) xs) (any_finer (f x) (g x) xs (finer x)) in
    let grown = classes_grow f g xs finer in
    let rest_same : classes f xs ≡ classes g xs = omega arith in
    let head_is : ◌≡◌ {A = ℕ} (cond (list_any (f x) xs) 0 1) (cond (list_any (g x) xs) 0 1) = omega arith in
    let rest : (c d : N) → IsListed c xs → IsListed d xs → f c d ≡ true → g c d ≡ true = classes_same f g xs ef eg finer rest_same in
    let first_same : (d : N) → IsListed d xs → f x d ≡ true → g x d ≡ true
    = head_same f g x xs ef eg finer (one_same _ _ head_is) rest in
    elim i [
      | inl a_is ↦ elim j [
        | inl b_is ↦ subst (λ (c : N). g a c ≡ true) (a_is ∙ sym b_is) (eg.refl a)
        | inr b_in ↦ subst (λ (c : N). g c b ≡ true) (sym a_is) (first_same b b_in (subst (λ (c : N). f c b ≡ true) a_is h))
      ]
      | inr a_in ↦ elim j [
        | inl b_is ↦ eg.symm a b ∙ subst (λ (c : N). g c a ≡ true) (sym b_is) (first_same a a_in (subst (λ (c : N). f c a ≡ true) b_is (ef.symm b a ∙ h)))
        | inr b_in ↦ rest a b a_in b_in h
      ]
    ]

listed_node : {N : Type 0} (w : Web N) (a : N) → IsNode w a → IsListed a (w.left ++ w.right)
listed_node w a (inl i) = in_left a w.left w.right i
listed_node w a (inr i) = in_right a w.left w.right i

pub comes : {N : Type 0} (w : Web N) → IsWeb w → (n k : ℕ) → length (w.left ++ w.right) ≤ classes (agree w k) (w.left ++ w.right) + n
    → (j : ℕ) × (j ≤ k + n) × IsStable w j
comes w web zero k le =
    let grown = classes_grow (agree w k) (agree w (suc k)) (w.left ++ w.right) (agreed_before w k) in
    let most = classes-le-length (agree w (suc k)) (w.left ++ w.right) in (
      k,
      omega arith,
      λ a b i j h.
          classes_same (agree w k) (agree w (suc k)) (w.left ++ w.right) (equivalence w web.alike k) (equivalence w web.alike (suc k))
          (agreed_before w k) (omega arith) a b (listed_node w a i) (listed_node w b j) h,
    )
comes w web (suc n) k le =
    elim (ℕ_discrete (classes (agree w k) (w.left ++ w.right)) (classes (agree w (suc k)) (w.left ++ w.right))) [
      | yes same ↦ (
        k,
        omega arith,
        λ a b i j h.
            classes_same (agree w k) (agree w (suc k)) (w.left ++ w.right) (equivalence w web.alike k) (equivalence w web.alike (suc k))
            (agreed_before w k) same a b (listed_node w a i) (listed_node w b j) h,
      )
      | no not ↦
          let grown = classes_grow (agree w k) (agree w (suc k)) (w.left ++ w.right) (agreed_before w k) in
          let found = comes w web n (suc k) (omega (arith, not)) in
          let within = found.1 in
          (found.0, omega arith, found.2)
    ]

pub finite : {N : Type 0} (w : Web N) → IsWeb w → (k : ℕ) × (k ≤ length (w.left ++ w.right)) × IsStable w k
finite w web = let found = comes w web (length (w.left ++ w.right)) 0 (omega arith) in let within = found.1 in (found.0, omega arith, found.2)
