-- Nodes that agree so far agree further exactly where their changed neighbours do.
use Rattle.std.proofs.Common.{◌≡◌, ◌⊎◌, inl, inr, ℕ, suc, ◌+◌, ◌&&◌, cond, Bool, true, false, List, [], ◌∷◌, ◌++◌, filter, refl, sym, ◌∙◌, ap, ap₂, arith, true≢false}
use Rattle.base_laws.proofs.Tests.{same_truth}
use Rattle.std.proofs.lemmas.Bool.{and_from, cases_Bool, false_from_ne_true}
use Rattle.std.specs.List.{count_by, list_all}
use Rattle.std.specs.Cmp.{IsEquivalence}
use Rattle.std.proofs.lemmas.Bool.Decides.{Decides-eqb}
use Rattle.plain_netlist.specs.Lists.{IsListed}
use Rattle.round_laws.specs.Web.{same_port, End, Web, IsWeb, IsNode, fits, agree, same_ends}
use Rattle.round_laws.specs.Colours.{IsChanged, changed_ends}
use Rattle.round_laws.proofs.Agree.{count-cons, count_same, count_none, first, second, equivalence, ends_count}
use Rattle.round_laws.proofs.Stable.{agreed_before, near_node, in_either}
use Rattle.round_laws.proofs.Solved.{matched_counts, ends_equivalence}
use Rattle.round_laws.proofs.Guesses.{of_filter}

all_listed : {X : Type 0} (p : X → Bool) (xs : List X) → ((x : X) → IsListed x xs → p x ≡ true) → list_all p xs ≡ true
all_listed p [] h = refl
all_listed p (x ∷ xs) h = and_from (p x) _ (h x (inl refl)) (all_listed p xs (λ y i. h y (inr i)))

pub ends_same_in : {N : Type 0} (same : N → N → Bool) (xs ys : List (End N)) → ((c : End N) → IsListed c xs ⊎ IsListed c ys → count_by (fits same c) xs ≡ count_by (fits same c) ys) → same_ends same xs ys ≡ true
ends_same_in same xs ys h = all_listed _ (xs ++ ys) (λ c i. (Decides-eqb _ _).1 (h c (in_either c xs ys i)))

pub count-filter : {X : Type 0} (p q : X → Bool) (xs : List X) → count_by p (filter q xs) ≡ count_by (λ x. q x && p x) xs
count-filter p q [] = refl
count-filter {X} p q (x ∷ xs) =
    let step = count-cons (λ y. q y && p y) x xs in
    let rest = count-filter p q xs in
    elim (cases_Bool (q x)) [
      | inl r ↦
          let h : count_by p (filter q (x ∷ xs)) ≡ count_by p (x ∷ filter q xs) = ap (λ (t : Bool). count_by p (cond t (x ∷ filter q xs) (filter q xs))) r in
          let more = count-cons p x (filter q xs) in
          let one : ◌≡◌ {A = ℕ} (cond (q x && p x) 1 0) (cond (p x) 1 0) = ap (λ (t : Bool). cond {A = ℕ} (t && p x) 1 0) r in
          omega arith
      | inr r ↦
          let h : count_by p (filter q (x ∷ xs)) ≡ count_by p (filter q xs) = ap (λ (t : Bool). count_by p (cond t (x ∷ filter q xs) (filter q xs))) r in
          let none : ◌≡◌ {A = ℕ} (cond (q x && p x) 1 0) 0 = ap (λ (t : Bool). cond {A = ℕ} (t && p x) 1 0) r in
          omega arith
    ]

pub count_split : {X : Type 0} (p q r : X → Bool) (xs : List X) → ((x : X) → IsListed x xs → ◌≡◌ {A = ℕ} (cond (p x) 1 0) (cond (q x) 1 0 + cond (r x) 1 0))
    → count_by p xs ≡ count_by q xs + count_by r xs
count_split p q r [] h = refl
count_split p q r (x ∷ xs) h =
    let a = count-cons p x xs in
    let b = count-cons q x xs in
    let c = count-cons r x xs in
    let here = h x (inl refl) in
    let rest = count_split p q r xs (λ y i. h y (inr i)) in
    omega arith

-- an end of a changed class stands among the changed ends
count_changed : {N : Type 0} (w : Web N) (k : ℕ) (changed : N → Bool) → IsWeb w → IsChanged w k changed → (a : N) → IsNode w a → (c : End N) → IsNode w c.node → changed c.node ≡ true
    → count_by (fits (agree w (suc k)) c) (changed_ends changed (w.near a)) ≡ count_by (fits (agree w (suc k)) c) (w.near a)
count_changed {N} w k changed web ch a i c node is =
    count-filter (fits (agree w (suc k)) c) (λ e. changed e.node) (w.near a)
    ∙ count_same _ _ (w.near a) (λ e j. same_truth (changed e.node && fits (agree w (suc k)) c e) (fits (agree w (suc k)) c e)
    (λ h. second (changed e.node) _ h)
    (λ h. and_from (changed e.node) _ (sym (ch.whole c.node e.node node (near_node w web a i e j) (second (same_port c.port e.port) _ h)) ∙ is) h))

count_unchanged : {N : Type 0} (w : Web N) (k : ℕ) (changed : N → Bool) → IsWeb w → IsChanged w k changed → (a : N) → IsNode w a → (c : End N) → IsNode w c.node → changed c.node ≡ false
    → count_by (fits (agree w (suc k)) c) (changed_ends changed (w.near a)) ≡ 0
count_unchanged {N} w k changed web ch a i c node is =
    count-filter (fits (agree w (suc k)) c) (λ e. changed e.node) (w.near a)
    ∙ count_none _ (w.near a) (λ e j. false_from_ne_true (changed e.node && fits (agree w (suc k)) c e)
    (λ h. true≢false (sym (first (changed e.node) _ h) ∙ (sym (ch.whole c.node e.node node (near_node w web a i e j) (second (same_port c.port e.port) _ (second (changed e.node) _ h))) ∙ is))))

-- an unchanged class with the changed ones that left it
count_left : {N : Type 0} (w : Web N) (k : ℕ) (changed : N → Bool) → IsWeb w → IsChanged w k changed → (a : N) → IsNode w a → (c : End N) → IsNode w c.node → changed c.node ≡ false
    → count_by (fits (agree w k) c) (w.near a) ≡ count_by (fits (agree w (suc k)) c) (w.near a) + count_by (fits (agree w k) c) (changed_ends changed (w.near a))
count_left {N} w k changed web ch a i c node is =
    let filtered = count-filter (fits (agree w k) c) (λ e. changed e.node) (w.near a) in
    let split = count_split (fits (agree w k) c) (fits (agree w (suc k)) c) (λ e. changed e.node && fits (agree w k) c e) (w.near a)
    (λ e j. elim (cases_Bool (changed e.node)) [
      | inl r ↦
          let gone : fits (agree w (suc k)) c e ≡ false
          = false_from_ne_true _ (λ h. true≢false (sym r ∙ (sym (ch.whole c.node e.node node (near_node w web a i e j) (second (same_port c.port e.port) _ h)) ∙ is))) in
          let x : ◌≡◌ {A = ℕ} (cond (fits (agree w (suc k)) c e) 1 0) 0 = ap (λ (t : Bool). cond {A = ℕ} t 1 0) gone in
          let y : ◌≡◌ {A = ℕ} (cond (changed e.node && fits (agree w k) c e) 1 0) (cond (fits (agree w k) c e) 1 0) = ap (λ (t : Bool). cond {A = ℕ} (t && fits (agree w k) c e) 1 0) r in
          omega arith
      | inr r ↦
          let same : fits (agree w k) c e ≡ fits (agree w (suc k)) c e = same_truth _ _
          (λ h. and_from (same_port c.port e.port) _ (first (same_port c.port e.port) _ h) (ch.kept c.node e.node node (near_node w web a i e j) is r (second (same_port c.port e.port) _ h)))
          (λ h. and_from (same_port c.port e.port) _ (first (same_port c.port e.port) _ h) (agreed_before w k c.node e.node (second (same_port c.port e.port) _ h))) in
          let x : ◌≡◌ {A = ℕ} (cond (fits (agree w k) c e) 1 0) (cond (fits (agree w (suc k)) c e) 1 0) = ap (λ (t : Bool). cond {A = ℕ} t 1 0) same in
          let y : ◌≡◌ {A = ℕ} (cond (changed e.node && fits (agree w k) c e) 1 0) 0 = ap (λ (t : Bool). cond {A = ℕ} (t && fits (agree w k) c e) 1 0) r in
          omega arith
    ]) in
    split ∙ ap (λ (n : ℕ). count_by (fits (agree w (suc k)) c) (w.near a) + n) (sym filtered)

finer_end : {N : Type 0} (w : Web N) (k : ℕ) → IsEquivalence (fits (agree w k)) → (c x y : End N) → fits (agree w (suc k)) x y ≡ true → fits (agree w k) c x ≡ fits (agree w k) c y
finer_end w k eq c x y h =
    let coarse : fits (agree w k) x y ≡ true = and_from (same_port x.port y.port) _ (first (same_port x.port y.port) _ h) (agreed_before w k x.node y.node (second (same_port x.port y.port) _ h)) in
    eq.symm c x ∙ (eq.congr x y c coarse ∙ eq.symm y c)

forth : {N : Type 0} (w : Web N) (k : ℕ) (changed : N → Bool) → IsWeb w → IsChanged w k changed → (a b : N) → IsNode w a → IsNode w b → agree w (suc (suc k)) a b ≡ true
    → same_ends (agree w (suc k)) (changed_ends changed (w.near a)) (changed_ends changed (w.near b)) ≡ true
forth {N} w k changed web ch a b i j h =
    ends_same_in (agree w (suc k)) (changed_ends changed (w.near a)) (changed_ends changed (w.near b)) (λ c l.
    let node : IsNode w c.node = elim l [
      | inl m ↦ near_node w web a i c (of_filter (λ (e : End N). changed e.node) c (w.near a) m)
      | inr m ↦ near_node w web b j c (of_filter (λ (e : End N). changed e.node) c (w.near b) m)
    ] in
    elim (cases_Bool (changed c.node)) [
      | inl r ↦ count_changed w k changed web ch a i c node r
          ∙ (ends_count (agree w (suc k)) (equivalence w web.alike (suc k)) (w.near a) (w.near b) (second (agree w (suc k) a b) _ h) c
          ∙ sym (count_changed w k changed web ch b j c node r))
      | inr r ↦ count_unchanged w k changed web ch a i c node r ∙ sym (count_unchanged w k changed web ch b j c node r)
    ])

back : {N : Type 0} (w : Web N) (k : ℕ) (changed : N → Bool) → IsWeb w → IsChanged w k changed → (a b : N) → IsNode w a → IsNode w b → agree w (suc k) a b ≡ true
    → same_ends (agree w (suc k)) (changed_ends changed (w.near a)) (changed_ends changed (w.near b)) ≡ true → agree w (suc (suc k)) a b ≡ true
back {N} w k changed web ch a b i j h t =
    let eq : IsEquivalence (agree w k) = equivalence w web.alike k in
    let finer : IsEquivalence (agree w (suc k)) = equivalence w web.alike (suc k) in
    let counts : (c : End N) → count_by (fits (agree w (suc k)) c) (changed_ends changed (w.near a)) ≡ count_by (fits (agree w (suc k)) c) (changed_ends changed (w.near b))
    = ends_count (agree w (suc k)) finer (changed_ends changed (w.near a)) (changed_ends changed (w.near b)) t in
    and_from (agree w (suc k) a b) _ h (ends_same_in (agree w (suc k)) (w.near a) (w.near b) (λ c l.
    let node : IsNode w c.node = elim l [ inl m ↦ near_node w web a i c m | inr m ↦ near_node w web b j c m ] in
    elim (cases_Bool (changed c.node)) [
      | inl r ↦ sym (count_changed w k changed web ch a i c node r) ∙ (counts c ∙ count_changed w k changed web ch b j c node r)
      | inr r ↦
          let x = count_left w k changed web ch a i c node r in
          let y = count_left w k changed web ch b j c node r in
          let old = ends_count (agree w k) eq (w.near a) (w.near b) (second (agree w k a b) _ h) c in
          let gone = matched_counts (fits (agree w (suc k))) (ends_equivalence (agree w (suc k)) finer) (fits (agree w k) c) (fits (agree w k) c)
          (changed_ends changed (w.near a)) (changed_ends changed (w.near b)) counts (λ d e s u m. finer_end w k (ends_equivalence (agree w k) eq) c d e m) in
          omega arith
    ]))

pub fast : {N : Type 0} (w : Web N) (k : ℕ) (changed : N → Bool) → IsWeb w → IsChanged w k changed → (a b : N) → IsNode w a → IsNode w b → agree w (suc k) a b ≡ true
    → agree w (suc (suc k)) a b ≡ same_ends (agree w (suc k)) (changed_ends changed (w.near a)) (changed_ends changed (w.near b))
fast w k changed web ch a b i j h = same_truth _ _ (forth w k changed web ch a b i j) (back w k changed web ch a b i j h)

pub quiet : {N : Type 0} (w : Web N) (k : ℕ) (changed : N → Bool) → IsWeb w → IsChanged w k changed → (a b : N) → IsNode w a → IsNode w b → agree w (suc k) a b ≡ true
    → changed_ends changed (w.near a) ≡ [] → changed_ends changed (w.near b) ≡ [] → agree w (suc (suc k)) a b ≡ true
quiet {N} w k changed web ch a b i j h p q = fast w k changed web ch a b i j h
    ∙ ap₂ (λ (xs ys : List (End N)). same_ends (agree w (suc k)) xs ys) p q
