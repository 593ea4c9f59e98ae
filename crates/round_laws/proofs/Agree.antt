-- Agreeing in a round is an equivalence, and a correspondence keeps it.
use Rattle.std.proofs.Common.{◌≡◌, ◌⊎◌, inl, inr, ℕ, zero, suc, ◌+◌, ◌==◌, ◌&&◌, cond, Bool, true, false, List, [], ◌∷◌, ◌++◌, refl, sym, subst, ◌∙◌, ap, ap₂, arith, true≢false}
use Rattle.base_laws.proofs.Tests.{same_truth}
use Rattle.std.proofs.lemmas.Bool.{and_from, cases_Bool, or_cases, or_left, or_right}
use Rattle.std.specs.List.{list_all, count_by}
use Rattle.std.specs.Cmp.{IsEquivalence, bool_eq_equiv}
use Rattle.std.specs.Bool.{Decides, beq}
use Rattle.std.proofs.Math.Path.{fun_ext}
use Rattle.std.proofs.lemmas.List.Sums.{sum_by-cons}
use Rattle.std.proofs.lemmas.Bool.Decides.{Decides-eqb}
use Rattle.plain_netlist.specs.Lists.{IsListed}
use Rattle.round_laws.specs.Web.{Port, EitherEnd, Other, Pin, same_port, End, Web, fits, same_ends, agree, IsWeb, IsEven, IsWebMap, Guess, under, alike_under, names, Keeps, IsRefuted}

-- counts
pub count-cons : {X : Type 0} (p : X → Bool) (x : X) (xs : List X) → count_by p (x ∷ xs) ≡ cond (p x) 1 0 + count_by p xs
count-cons p x xs = sum_by-cons (λ y. cond (p y) 1 0) x xs

pub count_same : {X : Type 0} (p q : X → Bool) (xs : List X) → ((x : X) → IsListed x xs → p x ≡ q x) → count_by p xs ≡ count_by q xs
count_same p q [] h = refl
count_same p q (x ∷ xs) h =
    let here : p x ≡ q x = h x (inl refl) in
    let rest = count_same p q xs (λ y i. h y (inr i)) in
    count-cons p x xs ∙ (ap (λ (b : Bool). cond b 1 0 + count_by p xs) here ∙ ap (λ (n : ℕ). cond (q x) 1 0 + n) rest) ∙ sym (count-cons q x xs)

pub count_like : {X : Type 0} (p q : X → Bool) (xs : List X) → ((x : X) → p x ≡ q x) → count_by p xs ≡ count_by q xs
count_like {X} p q xs h = ap (λ (r : X → Bool). count_by r xs) (fun_ext h)

pub count_none : {X : Type 0} (p : X → Bool) (xs : List X) → ((x : X) → IsListed x xs → p x ≡ false) → count_by p xs ≡ 0
count_none p [] h = refl
count_none p (x ∷ xs) h = count-cons p x xs ∙ (ap (λ (b : Bool). cond b 1 0 + count_by p xs) (h x (inl refl)) ∙ (let rest = count_none p xs (λ y i. h y (inr i)) in omega arith))

pub first : (a b : Bool) → (a && b) ≡ true → a ≡ true
first true b p = refl
first false b p = p

pub second : (a b : Bool) → (a && b) ≡ true → b ≡ true
second true b p = p
second false b p = absurd (true≢false (sym p))

-- ports
pub port_same : (p q : Port) → Decides (same_port p q) (p ≡ q)
port_same EitherEnd EitherEnd = ((λ _. refl), (λ _. refl))
port_same (Other k) (Other j) = ((λ h. ap Other ((Decides-eqb k j).0 h)), (λ h. let e : k ≡ j = cc in (Decides-eqb k j).1 e))
port_same (Pin p i) (Pin q j) = (
  (λ h. let a : p ≡ q = (Decides-eqb p q).0 (first _ _ h) in let b : i ≡ j = (Decides-eqb i j).0 (second _ _ h) in cc),
  (λ h. and_from _ _ ((Decides-eqb p q).1 cc) ((Decides-eqb i j).1 cc)),
)
port_same p q = ((λ h. absurd (true≢false (sym h))), (λ h. absurd cc))

port_refl : (p : Port) → same_port p p ≡ true
port_refl p = (port_same p p).1 refl

-- what fits under an equivalence
pub fits_refl : {N : Type 0} (same : N → N → Bool) → IsEquivalence same → (c : End N) → fits same c c ≡ true
fits_refl same eq c = and_from _ _ (port_refl c.port) (eq.refl c.node)

pub fits_congr : {N : Type 0} (same : N → N → Bool) → IsEquivalence same → (c d e : End N) → fits same c d ≡ true → fits same c e ≡ fits same d e
fits_congr same eq c d e h =
    let p : c.port ≡ d.port = (port_same c.port d.port).0 (first _ _ h) in
    let q : same c.node e.node ≡ same d.node e.node = eq.congr c.node d.node e.node (second _ _ h) in
    cc

-- a test that all pass, at one that fits
pub find_like : {X : Type 0} (like test : X → Bool) (xs : List X) → list_all test xs ≡ true
    → ((e : X) × (like e ≡ true) × (test e ≡ true)) ⊎ ((e : X) → IsListed e xs → like e ≡ false)
find_like {X} like test [] h = inr (λ e i. absurd i)
find_like {X} like test (x ∷ xs) h =
    elim (cases_Bool (like x)) [
      | inl yes_here ↦ inl (x, yes_here, first _ _ h)
      | inr not_here ↦ elim (find_like like test xs (second _ _ h)) [
        | inl found ↦ inl found
        | inr none ↦ inr (λ e i. elim i [ inl here ↦ subst (λ (y : X). like y ≡ false) (sym here) not_here | inr there ↦ none e there ])
      ]
    ]

pub in_left : {X : Type 0} (x : X) (xs ys : List X) → IsListed x xs → IsListed x (xs ++ ys)
in_left x [] ys i = absurd i
in_left x (y ∷ xs) ys (inl e) = inl e
in_left x (y ∷ xs) ys (inr i) = inr (in_left x xs ys i)

pub in_right : {X : Type 0} (x : X) (xs ys : List X) → IsListed x ys → IsListed x (xs ++ ys)
in_right x [] ys i = i
in_right x (y ∷ xs) ys i = inr (in_right x xs ys i)

all_of : {X : Type 0} (p : X → Bool) (xs : List X) → ((x : X) → p x ≡ true) → list_all p xs ≡ true
all_of p [] h = refl
all_of p (x ∷ xs) h = and_from _ _ (h x) (all_of p xs h)

-- equal counts of each end that is there are equal counts of every end
pub ends_count : {N : Type 0} (same : N → N → Bool) → IsEquivalence same → (xs ys : List (End N)) → same_ends same xs ys ≡ true
    → (c : End N) → count_by (fits same c) xs ≡ count_by (fits same c) ys
ends_count {N} same eq xs ys h c =
    elim (find_like (fits same c) (λ d. count_by (fits same d) xs == count_by (fits same d) ys) (xs ++ ys) h) [
      | inl found ↦
          let alike : (e : End N) → fits same c e ≡ fits same found.0 e = λ e. fits_congr same eq c found.0 e found.1 in
          count_like _ _ xs alike ∙ ((Decides-eqb _ _).0 found.2 ∙ sym (count_like _ _ ys alike))
      | inr none ↦ count_none _ xs (λ e i. none e (in_left e xs ys i)) ∙ sym (count_none _ ys (λ e i. none e (in_right e xs ys i)))
    ]

pub ends_same : {N : Type 0} (same : N → N → Bool) (xs ys : List (End N)) → ((c : End N) → count_by (fits same c) xs ≡ count_by (fits same c) ys) → same_ends same xs ys ≡ true
ends_same same xs ys h = all_of _ (xs ++ ys) (λ c. (Decides-eqb _ _).1 (h c))

-- agreeing is an equivalence
flip : {N : Type 0} (w : Web N) (k : ℕ) → IsEquivalence (agree w k) → (a b : N) → agree w (suc k) a b ≡ true → agree w (suc k) b a ≡ true
flip w k before a b h = and_from _ _ (before.symm b a ∙ first _ _ h)
    (ends_same (agree w k) (w.near b) (w.near a) (λ c. sym (ends_count (agree w k) before (w.near a) (w.near b) (second _ _ h) c)))

join : {N : Type 0} (w : Web N) (k : ℕ) → IsEquivalence (agree w k) → (a b c : N) → agree w (suc k) a b ≡ true → agree w (suc k) b c ≡ true → agree w (suc k) a c ≡ true
join w k before a b c g h = and_from _ _ (before.congr a b c (first _ _ g) ∙ first _ _ h)
    (ends_same (agree w k) (w.near a) (w.near c) (λ e.
    ends_count (agree w k) before (w.near a) (w.near b) (second _ _ g) e ∙ ends_count (agree w k) before (w.near b) (w.near c) (second _ _ h) e))

pub equivalence : {N : Type 0} (w : Web N) → IsEquivalence w.alike → (k : ℕ) → IsEquivalence (agree w k)
equivalence w eq zero = eq
equivalence {N} w eq (suc k) =
    let before : IsEquivalence (agree w k) = equivalence w eq k in
    record {
      refl = λ a. and_from _ _ (before.refl a) (ends_same (agree w k) (w.near a) (w.near a) (λ c. refl));
      symm = λ a b. same_truth (agree w (suc k) a b) (agree w (suc k) b a) (flip w k before a b) (flip w k before b a);
      congr = λ a b c h. same_truth (agree w (suc k) a c) (agree w (suc k) b c)
          (λ g. join w k before b a c (flip w k before a b h) g) (λ g. join w k before a b c h g);
    }

-- a test of a class gives a node and its image one answer
image_same : {N : Type 0} (w : Web N) (f : N → N) → IsWeb w → (k : ℕ) (c a : N) → agree w k a (f a) ≡ true → agree w k c a ≡ agree w k c (f a)
image_same w f web k c a h =
    let eq : IsEquivalence (agree w k) = equivalence w web.alike k in
    eq.symm c a ∙ (eq.congr a (f a) c h ∙ eq.symm (f a) c)

-- a correspondence
pub image_agrees : {N : Type 0} (w : Web N) (f : N → N) → IsWeb w → IsWebMap w f → (k : ℕ) (a : N) → IsListed a w.left → agree w k a (f a) ≡ true
image_agrees w f web carries zero a i = carries.alike a i
image_agrees {N} w f web carries (suc k) a i =
    and_from (agree w k a (f a)) _ (image_agrees w f web carries k a i) (ends_same (agree w k) (w.near a) (w.near (f a)) (λ c.
    count_same (fits (agree w k) c) (λ e. fits (agree w k) c (record { port = e.port; node = f e.node })) (w.near a)
    (λ e j. ap (λ (b : Bool). same_port c.port e.port && b)
    (image_same w f web k c.node e.node (image_agrees w f web carries k e.node (web.left_near a i e j))))
    ∙ sym (carries.near a i (fits (agree w k) c))))

pub counts_even : {N : Type 0} (w : Web N) (f : N → N) → IsWeb w → IsWebMap w f → (k : ℕ) → IsEven w k
counts_even w f web carries k c node =
    count_same (agree w k c) (λ a. agree w k c (f a)) w.left (λ a i. image_same w f web k c a (image_agrees w f web carries k a i))
    ∙ sym (carries.onto (agree w k c))

-- guesses
both_equivalence : {N : Type 0} (E F : N → N → Bool) → IsEquivalence E → IsEquivalence F → IsEquivalence (λ a b. E a b && F a b)
both_equivalence E F e f = record {
  refl = λ a. and_from _ _ (e.refl a) (f.refl a);
  symm = λ a b. ap₂ (λ (p q : Bool). p && q) (e.symm a b) (f.symm a b);
  congr = λ a b c h. ap₂ (λ (p q : Bool). p && q) (e.congr a b c (first _ _ h)) (f.congr a b c (second _ _ h));
}

pub at_equivalence : {N M : Type 0} (E : M → M → Bool) (h : N → M) → IsEquivalence E → IsEquivalence (λ a b. E (h a) (h b))
at_equivalence E h e = record {
  refl = λ a. e.refl (h a);
  symm = λ a b. e.symm (h a) (h b);
  congr = λ a b c. e.congr (h a) (h b) (h c);
}

pub under_equivalence : {N : Type 0} (w : Web N) (guesses : List (Guess N)) → IsEquivalence w.alike → IsEquivalence (alike_under w guesses)
under_equivalence w [] eq = eq
under_equivalence w (g ∷ gs) eq = both_equivalence _ _ (at_equivalence beq (names w g) bool_eq_equiv) (under_equivalence w gs eq)

pub under_web : {N : Type 0} (w : Web N) (guesses : List (Guess N)) → IsWeb w → IsWeb (under w guesses)
under_web w guesses web = record {
  is = web.is;
  alike = under_equivalence w guesses web.alike;
  left_near = web.left_near;
  right_near = web.right_near;
  apart = web.apart;
}

beq_same : (a b : Bool) → a ≡ b → beq a b ≡ true
beq_same a b h = subst (λ (c : Bool). beq a c ≡ true) h (bool_eq_equiv.refl a)

named_alike : {N : Type 0} (w : Web N) (f : N → N) → IsWeb w → IsWebMap w f → (g : Guess N) → f g.left ≡ g.right → IsListed g.left w.left → IsListed g.right w.right
    → (a : N) → IsListed a w.left → names w g a ≡ names w g (f a)
named_alike {N} w f web carries g kept left right a i = same_truth (names w g a) (names w g (f a))
    (λ h. elim (or_cases _ _ h) [
      | inl e ↦ or_right (w.is g.left (f a)) _ ((web.is g.right (f a)).1 (sym kept ∙ ap f ((web.is g.left a).0 e)))
      | inr e ↦ absurd (web.apart a i (subst (λ (n : N). IsListed n w.right) ((web.is g.right a).0 e) right))
    ])
    (λ h. elim (or_cases _ _ h) [
      | inl e ↦ absurd (web.apart (f a) (subst (λ (n : N). IsListed n w.left) ((web.is g.left (f a)).0 e) left) (carries.there a i))
      | inr e ↦ or_left _ (w.is g.right a) ((web.is g.left a).1 (carries.one g.left a left i (kept ∙ (web.is g.right (f a)).0 e)))
    ])

alike_kept : {N : Type 0} (w : Web N) (f : N → N) (guesses : List (Guess N)) → IsWeb w → IsWebMap w f → Keeps f guesses
    → ((g : Guess N) → IsListed g guesses → (IsListed g.left w.left) × IsListed g.right w.right)
    → (a : N) → IsListed a w.left → alike_under w guesses a (f a) ≡ true
alike_kept w f [] web carries keeps there a i = carries.alike a i
alike_kept w f (g ∷ gs) web carries keeps there a i =
    and_from _ _ (beq_same _ _ (named_alike w f web carries g (keeps g (inl refl)) (there g (inl refl)).0 (there g (inl refl)).1 a i))
    (alike_kept w f gs web carries (λ h j. keeps h (inr j)) (λ h j. there h (inr j)) a i)

pub carries_under : {N : Type 0} (w : Web N) (f : N → N) (guesses : List (Guess N)) → IsWeb w → IsWebMap w f → Keeps f guesses
    → ((g : Guess N) → IsListed g guesses → (IsListed g.left w.left) × IsListed g.right w.right) → IsWebMap (under w guesses) f
carries_under w f guesses web carries keeps there = record {
  there = carries.there;
  one = carries.one;
  onto = carries.onto;
  alike = alike_kept w f guesses web carries keeps there;
  near = carries.near;
}

pub refuted_none : {N : Type 0} (w : Web N) (f : N → N) (guesses : List (Guess N)) (r : ℕ) → IsWeb w → IsWebMap w f → Keeps f guesses
    → ((g : Guess N) → IsListed g guesses → (IsListed g.left w.left) × IsListed g.right w.right)
    → IsRefuted (under w guesses) r → ⊥
refuted_none w f guesses r web carries keeps there h =
    h.uneven.counts (counts_even (under w guesses) f (under_web w guesses web) (carries_under w f guesses web carries keeps there) r h.node h.uneven.node)
