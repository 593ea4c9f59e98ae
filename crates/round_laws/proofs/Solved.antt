-- Classes of one pair each are a correspondence.
use Rattle.std.proofs.Common.{◌≡◌, ◌⊎◌, inl, inr, ℕ, ◌+◌, ◌≤◌, cond, Bool, true, false, List, [], ◌∷◌, ◌++◌, refl, sym, subst, ◌∙◌, ap, ap₂, arith, true≢false}
use Rattle.base_laws.proofs.Tests.{same_truth}
use Rattle.std.proofs.lemmas.Bool.{cases_Bool}
use Rattle.std.specs.List.{list_any, count_by}
use Rattle.std.specs.Cmp.{IsEquivalence}
use Rattle.plain_netlist.specs.Lists.{IsListed}
use Rattle.round_laws.specs.Web.{Port, same_port, End, Web, fits, agree, IsWeb, IsNode, IsSolved, IsWebMap, Guess, under, alike_under, first_of, mate, on_right}
use Rattle.round_laws.proofs.Agree.{count-cons, count_like, count_none, first, second, equivalence, ends_count, under_web, fits_refl, fits_congr, port_same, in_left, in_right}
use Rattle.round_laws.proofs.Stable.{agreed_first, any_found, any_of, in_either}

abbrev pub one_if : Bool → ℕ
one_if b = cond b 1 0

one_if_true : (b : Bool) → b ≡ true → one_if b ≡ 1
one_if_true b h = ap one_if h

pub count-has : {X : Type 0} (p : X → Bool) (x : X) (xs : List X) → IsListed x xs → p x ≡ true → 1 ≤ count_by p xs
count-has p x [] i h = absurd i
count-has {X} p x (y ∷ ys) (inl e) h =
    let step = count-cons p y ys in
    let here = one_if_true (p y) (subst (λ (z : X). p z ≡ true) e h) in
    omega arith
count-has p x (y ∷ ys) (inr i) h =
    let step = count-cons p y ys in
    let rest = count-has p x ys i h in
    omega arith

pub only_one : {X : Type 0} (p : X → Bool) (xs : List X) (x y : X) → count_by p xs ≡ 1 → IsListed x xs → IsListed y xs → p x ≡ true → p y ≡ true → x ≡ y
only_one p [] x y one i j px py = absurd i
only_one p (z ∷ zs) x y one (inl a) (inl b) px py = a ∙ sym b
only_one {X} p (z ∷ zs) x y one (inl a) (inr j) px py =
    let step = count-cons p z zs in
    let here = one_if_true (p z) (subst (λ (v : X). p v ≡ true) a px) in
    let rest = count-has p y zs j py in
    absurd (omega arith)
only_one {X} p (z ∷ zs) x y one (inr i) (inl b) px py =
    let step = count-cons p z zs in
    let here = one_if_true (p z) (subst (λ (v : X). p v ≡ true) b py) in
    let rest = count-has p x zs i px in
    absurd (omega arith)
only_one p (z ∷ zs) x y one (inr i) (inr j) px py =
    let step = count-cons p z zs in
    let rest = count-has p x zs i px in
    only_one p zs x y (omega arith) i j px py

first_passes : {X : Type 0} (p : X → Bool) (xs : List X) (d : X) → 1 ≤ count_by p xs → (p (first_of p xs d) ≡ true) × IsListed (first_of p xs d) xs
first_passes p [] d h = absurd (omega arith)
first_passes {X} p (x ∷ xs) d h =
    elim (cases_Bool (p x)) [
      | inl r ↦ let e : first_of p (x ∷ xs) d ≡ x = ap (λ (b : Bool). cond b x (first_of p xs d)) r in
          (subst (λ (v : X). p v ≡ true) (sym e) r, inl e)
      | inr r ↦ let e : first_of p (x ∷ xs) d ≡ first_of p xs d = ap (λ (b : Bool). cond b x (first_of p xs d)) r in
          let step = count-cons p x xs in
          let none : one_if (p x) ≡ 0 = ap one_if r in
          let f = first_passes p xs d (omega arith) in
          (subst (λ (v : X). p v ≡ true) (sym e) f.0, inr (subst (λ (v : X). IsListed v xs) (sym e) f.1))
    ]

-- lists with as many of each class
pub record Cut {X : Type 0} (p : X → Bool) (ys : List X) : Type 0 where
  pub before : List X
  pub item : X
  pub behind : List X
  pub is : ys ≡ before ++ item ∷ behind
  pub passes : p item ≡ true

pub cut : {X : Type 0} (p : X → Bool) (ys : List X) → 1 ≤ count_by p ys → Cut p ys
cut p [] h = absurd (omega arith)
cut {X} p (y ∷ ys) h =
    elim (cases_Bool (p y)) [
      | inl r ↦ record { before = []; item = y; behind = ys; is = refl; passes = r }
      | inr r ↦
          let step = count-cons p y ys in
          let none : one_if (p y) ≡ 0 = ap one_if r in
          let c = cut p ys (omega arith) in
          record { before = y ∷ c.before; item = c.item; behind = c.behind; is = ap (λ (l : List X). y ∷ l) c.is; passes = c.passes }
    ]

pub count-mid : {X : Type 0} (p : X → Bool) (us : List X) (y : X) (vs : List X) → count_by p (us ++ y ∷ vs) ≡ one_if (p y) + count_by p (us ++ vs)
count-mid p [] y vs = count-cons p y vs
count-mid p (u ∷ us) y vs =
    let a = count-cons p u (us ++ y ∷ vs) in
    let b = count-cons p u (us ++ vs) in
    let rest = count-mid p us y vs in
    omega arith

pub in_mid : {X : Type 0} (x : X) (us : List X) (y : X) (vs : List X) → IsListed x (us ++ vs) → IsListed x (us ++ y ∷ vs)
in_mid x [] y vs i = inr i
in_mid x (u ∷ us) y vs (inl e) = inl e
in_mid x (u ∷ us) y vs (inr i) = inr (in_mid x us y vs i)

pub here_mid : {X : Type 0} (us : List X) (y : X) (vs : List X) → IsListed y (us ++ y ∷ vs)
here_mid [] y vs = inl refl
here_mid (u ∷ us) y vs = inr (here_mid us y vs)

-- where each class has as many in both lists, tests that say the same of like items pass as many
pub matched_counts : {X : Type 0} (same : X → X → Bool) → IsEquivalence same → (q p : X → Bool) (xs ys : List X)
    → ((c : X) → count_by (same c) xs ≡ count_by (same c) ys)
    → ((x y : X) → IsListed x xs → IsListed y ys → same x y ≡ true → q x ≡ p y)
    → count_by q xs ≡ count_by p ys
matched_counts same eq q p [] [] counts alike = refl
matched_counts same eq q p [] (y ∷ ys) counts alike =
    let one = count-has (same y) y (y ∷ ys) (inl refl) (eq.refl y) in
    let none = counts y in
    let nil : count_by (same y) [] ≡ 0 = refl in
    absurd (omega arith)
matched_counts {X} same eq q p (x ∷ xs) ys counts alike =
    let one = count-has (same x) x (x ∷ xs) (inl refl) (eq.refl x) in
    let there = counts x in
    let c = cut (same x) ys (omega arith) in
    let other : (d : X) → count_by (same d) xs ≡ count_by (same d) (c.before ++ c.behind)
    = λ d. less (same d) x c.item xs c.before c.behind (eq.symm d x ∙ (eq.congr x c.item d c.passes ∙ eq.symm c.item d))
    (counts d ∙ ap (count_by (same d)) c.is) in
    let rest : count_by q xs ≡ count_by p (c.before ++ c.behind)
    = matched_counts same eq q p xs (c.before ++ c.behind) other
    (λ a b i j h. alike a b (inr i) (subst (λ (l : List X). IsListed b l) (sym c.is) (in_mid b c.before c.item c.behind j)) h) in
    let head : q x ≡ p c.item = alike x c.item (inl refl) (subst (λ (l : List X). IsListed c.item l) (sym c.is) (here_mid c.before c.item c.behind)) c.passes in
    let left = count-cons q x xs in
    let right = count-mid p c.before c.item c.behind in
    let heads : one_if (q x) ≡ one_if (p c.item) = ap one_if head in
    let whole : count_by p ys ≡ count_by p (c.before ++ c.item ∷ c.behind) = ap (count_by p) c.is in
    omega arith
  where
    less : {X : Type 0} (r : X → Bool) (x y : X) (xs us vs : List X) → r x ≡ r y → count_by r (x ∷ xs) ≡ count_by r (us ++ y ∷ vs) → count_by r xs ≡ count_by r (us ++ vs)
    less r x y xs us vs e h =
        let a = count-cons r x xs in
        let b = count-mid r us y vs in
        let heads : one_if (r x) ≡ one_if (r y) = ap one_if e in
        omega arith

pub all_classes : {X : Type 0} (same : X → X → Bool) → IsEquivalence same → (xs ys : List X)
    → ((c : X) → IsListed c xs ⊎ IsListed c ys → count_by (same c) xs ≡ count_by (same c) ys)
    → (c : X) → count_by (same c) xs ≡ count_by (same c) ys
all_classes {X} same eq xs ys h c =
    elim (cases_Bool (list_any (same c) (xs ++ ys))) [
      | inl r ↦
          let f = any_found (same c) (xs ++ ys) r in
          let alike : (e : X) → same c e ≡ same f.0 e = λ e. eq.congr c f.0 e f.2 in
          count_like _ _ xs alike ∙ (h f.0 (in_either f.0 xs ys f.1) ∙ sym (count_like _ _ ys alike))
      | inr r ↦ count_none _ xs (λ e i. none_of (same c) (xs ++ ys) r e (in_left e xs ys i)) ∙ sym (count_none _ ys (λ e i. none_of (same c) (xs ++ ys) r e (in_right e xs ys i)))
    ]
  where
    none_of : {X : Type 0} (p : X → Bool) (zs : List X) → list_any p zs ≡ false → (e : X) → IsListed e zs → p e ≡ false
    none_of p zs r e i = elim (cases_Bool (p e)) [ inl t ↦ absurd (true≢false (sym (any_of p e zs i t) ∙ r)) | inr t ↦ t ]

pub ends_equivalence : {N : Type 0} (same : N → N → Bool) → IsEquivalence same → IsEquivalence (fits same)
ends_equivalence same eq = record {
  refl = λ c. fits_refl same eq c;
  symm = λ c d. same_truth (fits same c d) (fits same d c)
      (λ h. sym (fits_congr same eq c d c h) ∙ fits_refl same eq c)
      (λ h. sym (fits_congr same eq d c d h) ∙ fits_refl same eq d);
  congr = fits_congr same eq;
}

alike_from : {N : Type 0} (w : Web N) (guesses : List (Guess N)) (a b : N) → alike_under w guesses a b ≡ true → w.alike a b ≡ true
alike_from w [] a b h = h
alike_from w (g ∷ gs) a b h = alike_from w gs a b (second _ _ h)

-- the mates under guesses, where all classes of a stable round are one pair
mated : {N : Type 0} (w : Web N) (k : ℕ) → ((c : N) → IsNode w c → on_right w k c ≡ 1) → (a : N) → IsListed a w.left
    → (agree w k a (mate w k a) ≡ true) × IsListed (mate w k a) w.right
mated w k single a i = let one = single a (inl i) in first_passes (agree w k a) w.right a (omega arith)

mate_is : {N : Type 0} (w : Web N) (k : ℕ) → ((c : N) → IsNode w c → on_right w k c ≡ 1) → (a b : N) → IsListed a w.left → IsListed b w.right → agree w k a b ≡ true → mate w k a ≡ b
mate_is w k single a b i j h = let m = mated w k single a i in only_one (agree w k a) w.right (mate w k a) b (single a (inl i)) m.1 j m.0 h

pub solved_carries : {N : Type 0} (w : Web N) → IsWeb w → (solved : IsSolved w) → IsWebMap w (mate w solved.round)
solved_carries {N} w web solved =
    let k : ℕ = solved.round in
    let eq : IsEquivalence (agree w k) = equivalence w web.alike k in
    let m : (a : N) → IsListed a w.left → (agree w k a (mate w k a) ≡ true) × IsListed (mate w k a) w.right = mated w k solved.right in
    record {
      there = λ a i. (m a i).1;
      one = λ a b i j h. only_one (agree w k a) w.left a b (solved.left a (inl i)) i j (eq.refl a)
          (eq.congr a (mate w k a) b (m a i).0 ∙ (eq.symm (mate w k a) b ∙ subst (λ (n : N). agree w k b n ≡ true) (sym h) (m b j).0));
      onto = λ p. sym (matched_counts (agree w k) eq (λ a. p (mate w k a)) p w.left w.right
          (all_classes (agree w k) eq w.left w.right (λ c n. solved.left c n ∙ sym (solved.right c n)))
          (λ x y i j h. ap p (mate_is w k solved.right x y i j h)));
      alike = λ a i. agreed_first w k a (mate w k a) (m a i).0;
      near = λ a i p. sym (matched_counts (fits (agree w k)) (ends_equivalence (agree w k) eq)
          (λ e. p (record { port = e.port; node = mate w k e.node })) p (w.near a) (w.near (mate w k a))
          (ends_count (agree w k) eq (w.near a) (w.near (mate w k a))
          (second (agree w k a (mate w k a)) _ (solved.stable a (mate w k a) (inl i) (inr (m a i).1) (m a i).0)))
          (λ e d s t h. ap p (moved_is w k web solved.right a (mate w k a) i (m a i).1 e d s t h)));
    }
  where
    moved_is : {N : Type 0} (w : Web N) (k : ℕ) → IsWeb w → ((c : N) → IsNode w c → on_right w k c ≡ 1) → (a b : N) → IsListed a w.left → IsListed b w.right
        → (e d : End N) → IsListed e (w.near a) → IsListed d (w.near b) → fits (agree w k) e d ≡ true → (let r : End N = record { port = e.port; node = mate w k e.node } in r) ≡ d
    moved_is {N} w k web single a b i j e d s t h =
        let port : e.port ≡ d.port = (port_same e.port d.port).0 (first _ _ h) in
        let node : mate w k e.node ≡ d.node = mate_is w k single e.node d.node (web.left_near a i e s) (web.right_near b j d t) (second (same_port e.port d.port) _ h) in
        ap₂ (λ (p : Port) (n : N). let r : End N = record { port = p; node = n } in r) port node

pub solved_under : {N : Type 0} (w : Web N) (guesses : List (Guess N)) → IsWeb w → (solved : IsSolved (under w guesses)) → IsWebMap w (mate (under w guesses) solved.round)
solved_under w guesses web solved =
    let c = solved_carries (under w guesses) (under_web w guesses web) solved in
    record { there = c.there; one = c.one; onto = c.onto; alike = λ a i. alike_from w guesses a _ (c.alike a i); near = c.near }
