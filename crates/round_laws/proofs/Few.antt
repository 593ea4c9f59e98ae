-- A round that looks at all parts but one of each class.
use Rattle.std.proofs.Common.{◌≡◌, ◌⊎◌, inl, inr, ℕ, ◌+◌, ◌==◌, ◌&&◌, cond, Bool, true, false, List, ◌++◌, refl, sym, subst, ◌∙◌, ap, arith, true≢false}
use Rattle.base_laws.proofs.Tests.{same_truth}
use Rattle.std.proofs.lemmas.Bool.{and_from, cases_Bool, false_from_ne_true}
use Rattle.std.specs.List.{count_by, list_any}
use Rattle.std.specs.Cmp.{IsEquivalence}
use Rattle.std.proofs.lemmas.Bool.Decides.{Decides-eqb}
use Rattle.plain_netlist.specs.Lists.{IsListed}
use Rattle.round_laws.specs.Web.{Port, same_port, End, Web, IsWeb, IsNode, fits}
use Rattle.round_laws.specs.Colours.{changed_ends, ends_of, SplitsBy}
use Rattle.round_laws.proofs.Agree.{count_same, count_none, first, second, port_same, in_left, in_right}
use Rattle.round_laws.proofs.Stable.{near_node, in_either, any_found, any_of}
use Rattle.round_laws.proofs.Solved.{matched_counts, ends_equivalence}
use Rattle.round_laws.proofs.Guesses.{of_filter}
use Rattle.round_laws.proofs.Fast.{count-filter, count_split}
use Rattle.round_laws.specs.Parting.{IsParted}

-- nodes of one colour
abbrev pub one : {N : Type 0} → (N → ℕ) → N → N → Bool
one colour a b = colour a == colour b

pub one_equivalence : {N : Type 0} (colour : N → ℕ) → IsEquivalence (one colour)
one_equivalence colour = record {
  refl = λ a. (Decides-eqb (colour a) (colour a)).1 refl;
  symm = λ a b. same_truth _ _ (λ h. (Decides-eqb (colour b) (colour a)).1 (sym ((Decides-eqb (colour a) (colour b)).0 h))) (λ h. (Decides-eqb (colour a) (colour b)).1 (sym ((Decides-eqb (colour b) (colour a)).0 h)));
  congr = λ a b c h. ap (λ (x : ℕ). x == colour c) ((Decides-eqb (colour a) (colour b)).0 h);
}

-- counts that are equal for each end that occurs are equal for each port and colour
pub each_count : {N : Type 0} (colour : N → ℕ) (xs ys us vs : List (End N)) → ((e : End N) → IsListed e us → IsListed e xs) → ((e : End N) → IsListed e vs → IsListed e ys)
    → ((c : End N) → IsListed c xs ⊎ IsListed c ys → count_by (fits (one colour) c) us ≡ count_by (fits (one colour) c) vs)
    → (port : Port) (c : ℕ) → ends_of colour port c us ≡ ends_of colour port c vs
each_count {N} colour xs ys us vs iu iv h port c =
    elim (cases_Bool (list_any (λ e. same_port port e.port && (c == colour e.node)) (xs ++ ys))) [
      | inl r ↦
          let f = any_found (λ e. same_port port e.port && (c == colour e.node)) (xs ++ ys) r in
          let p : port ≡ f.0.port = (port_same port f.0.port).0 (first (same_port port f.0.port) _ f.2) in
          let q : c ≡ colour f.0.node = (Decides-eqb c (colour f.0.node)).0 (second (same_port port f.0.port) _ f.2) in
          let counts : ends_of colour f.0.port (colour f.0.node) us ≡ ends_of colour f.0.port (colour f.0.node) vs = h f.0 (in_either f.0 xs ys f.1) in
          subst (λ (x : Port). ends_of colour x c us ≡ ends_of colour x c vs) (sym p)
          (subst (λ (x : ℕ). ends_of colour f.0.port x us ≡ ends_of colour f.0.port x vs) (sym q) counts)
      | inr r ↦ count_none _ us (λ e i. not_any (λ x. same_port port x.port && (c == colour x.node)) (xs ++ ys) r e (in_left e xs ys (iu e i)))
          ∙ sym (count_none _ vs (λ e i. not_any (λ x. same_port port x.port && (c == colour x.node)) (xs ++ ys) r e (in_right e xs ys (iv e i))))
    ]
  where
    not_any : {X : Type 0} (p : X → Bool) (zs : List X) → list_any p zs ≡ false → (e : X) → IsListed e zs → p e ≡ false
    not_any p zs r e i = elim (cases_Bool (p e)) [ inl t ↦ absurd (true≢false (sym (any_of p e zs i t) ∙ r)) | inr t ↦ t ]

-- the ends at a changed class all stand among the changed ends
all_changed : {N : Type 0} (w : Web N) (old mid : N → ℕ) (changed : N → Bool) → IsWeb w → IsParted w old mid changed → (a : N) → IsNode w a → (c : End N) → IsNode w c.node → changed c.node ≡ true
    → count_by (fits (one mid) c) (changed_ends changed (w.near a)) ≡ count_by (fits (one mid) c) (w.near a)
all_changed {N} w old mid changed web h a i c node is =
    count-filter (fits (one mid) c) (λ e. changed e.node) (w.near a)
    ∙ count_same _ _ (w.near a) (λ e j. same_truth (changed e.node && fits (one mid) c e) (fits (one mid) c e)
    (λ t. second (changed e.node) _ t)
    (λ t. and_from (changed e.node) _ (sym (h.whole c.node e.node node (near_node w web a i e j) ((Decides-eqb (mid c.node) (mid e.node)).0 (second (same_port c.port e.port) _ t))) ∙ is) t))

none_changed : {N : Type 0} (w : Web N) (old mid : N → ℕ) (changed : N → Bool) → IsWeb w → IsParted w old mid changed → (a : N) → IsNode w a → (c : End N) → IsNode w c.node → changed c.node ≡ false
    → count_by (fits (one mid) c) (changed_ends changed (w.near a)) ≡ 0
none_changed {N} w old mid changed web h a i c node is =
    count-filter (fits (one mid) c) (λ e. changed e.node) (w.near a)
    ∙ count_none _ (w.near a) (λ e j. false_from_ne_true (changed e.node && fits (one mid) c e)
    (λ t. true≢false (sym (first (changed e.node) _ t)
    ∙ (sym (h.whole c.node e.node node (near_node w web a i e j) ((Decides-eqb (mid c.node) (mid e.node)).0 (second (same_port c.port e.port) _ (second (changed e.node) _ t)))) ∙ is))))

-- a class that was parted: its unchanged part and the changed ones
parts_sum : {N : Type 0} (w : Web N) (old mid : N → ℕ) (changed : N → Bool) → IsWeb w → IsParted w old mid changed → (a : N) → IsNode w a → (c : End N) → IsNode w c.node → changed c.node ≡ false
    → count_by (fits (one old) c) (w.near a) ≡ count_by (fits (one mid) c) (w.near a) + count_by (fits (one old) c) (changed_ends changed (w.near a))
parts_sum {N} w old mid changed web h a i c node is =
    let filtered = count-filter (fits (one old) c) (λ e. changed e.node) (w.near a) in
    let split = count_split (fits (one old) c) (fits (one mid) c) (λ e. changed e.node && fits (one old) c e) (w.near a)
    (λ e j. elim (cases_Bool (changed e.node)) [
      | inl r ↦
          let gone : fits (one mid) c e ≡ false
          = false_from_ne_true _ (λ t. true≢false (sym r ∙ (sym (h.whole c.node e.node node (near_node w web a i e j) ((Decides-eqb (mid c.node) (mid e.node)).0 (second (same_port c.port e.port) _ t))) ∙ is))) in
          let x : ◌≡◌ {A = ℕ} (cond (fits (one mid) c e) 1 0) 0 = ap (λ (t : Bool). cond {A = ℕ} t 1 0) gone in
          let y : ◌≡◌ {A = ℕ} (cond (changed e.node && fits (one old) c e) 1 0) (cond (fits (one old) c e) 1 0) = ap (λ (t : Bool). cond {A = ℕ} (t && fits (one old) c e) 1 0) r in
          omega arith
      | inr r ↦
          let same : fits (one old) c e ≡ fits (one mid) c e = same_truth _ _
          (λ t. and_from (same_port c.port e.port) _ (first (same_port c.port e.port) _ t)
          ((Decides-eqb (mid c.node) (mid e.node)).1 (h.kept c.node e.node node (near_node w web a i e j) is r ((Decides-eqb (old c.node) (old e.node)).0 (second (same_port c.port e.port) _ t)))))
          (λ t. and_from (same_port c.port e.port) _ (first (same_port c.port e.port) _ t)
          ((Decides-eqb (old c.node) (old e.node)).1 (h.finer c.node e.node node (near_node w web a i e j) ((Decides-eqb (mid c.node) (mid e.node)).0 (second (same_port c.port e.port) _ t))))) in
          let x : ◌≡◌ {A = ℕ} (cond (fits (one old) c e) 1 0) (cond (fits (one mid) c e) 1 0) = ap (λ (t : Bool). cond {A = ℕ} t 1 0) same in
          let y : ◌≡◌ {A = ℕ} (cond (changed e.node && fits (one old) c e) 1 0) 0 = ap (λ (t : Bool). cond {A = ℕ} (t && fits (one old) c e) 1 0) r in
          omega arith
    ]) in
    split ∙ ap (λ (n : ℕ). count_by (fits (one mid) c) (w.near a) + n) (sym filtered)

near_of : {N : Type 0} (w : Web N) (changed : N → Bool) (a : N) (e : End N) → IsListed e (changed_ends changed (w.near a)) → IsListed e (w.near a)
near_of {N} w changed a e i = of_filter (λ (x : End N). changed x.node) e (w.near a) i

all_from_few : {N : Type 0} (w : Web N) (old mid : N → ℕ) (changed : N → Bool) → IsWeb w → IsParted w old mid changed → (a b : N) → IsNode w a → IsNode w b → mid a ≡ mid b
    → ((port : Port) (c : ℕ) → ends_of mid port c (changed_ends changed (w.near a)) ≡ ends_of mid port c (changed_ends changed (w.near b)))
    → (port : Port) (c : ℕ) → ends_of mid port c (w.near a) ≡ ends_of mid port c (w.near b)
all_from_few {N} w old mid changed web h a b i j e few = each_count mid (w.near a) (w.near b) (w.near a) (w.near b) (λ x l. l) (λ x l. l) (λ c l.
    let node : IsNode w c.node = elim l [ inl m ↦ near_node w web a i c m | inr m ↦ near_node w web b j c m ] in
    elim (cases_Bool (changed c.node)) [
      | inl r ↦ sym (all_changed w old mid changed web h a i c node r) ∙ (few c.port (mid c.node) ∙ all_changed w old mid changed web h b j c node r)
      | inr r ↦
          let x = parts_sum w old mid changed web h a i c node r in
          let y = parts_sum w old mid changed web h b j c node r in
          let whole : count_by (fits (one old) c) (w.near a) ≡ count_by (fits (one old) c) (w.near b) = h.steady a b c.node i j node e r c.port in
          let gone = matched_counts (fits (one mid)) (ends_equivalence (one mid) (one_equivalence mid)) (fits (one old) c) (fits (one old) c)
          (changed_ends changed (w.near a)) (changed_ends changed (w.near b)) (λ d. few d.port (mid d.node))
          (λ d f s u m. same_old c d f (near_node w web a i d (near_of w changed a d s)) (near_node w web b j f (near_of w changed b f u)) m) in
          omega arith
    ])
  where
    same_old : (c d f : End N) → IsNode w d.node → IsNode w f.node → fits (one mid) d f ≡ true → fits (one old) c d ≡ fits (one old) c f
    same_old c d f nd nf m =
        let eq = ends_equivalence (one old) (one_equivalence old) in
        let o : fits (one old) d f ≡ true = and_from (same_port d.port f.port) _ (first (same_port d.port f.port) _ m)
        ((Decides-eqb (old d.node) (old f.node)).1 (h.finer d.node f.node nd nf ((Decides-eqb (mid d.node) (mid f.node)).0 (second (same_port d.port f.port) _ m)))) in
        eq.symm c d ∙ (eq.congr d f c o ∙ eq.symm f c)

few_from_all : {N : Type 0} (w : Web N) (old mid : N → ℕ) (changed : N → Bool) → IsWeb w → IsParted w old mid changed → (a b : N) → IsNode w a → IsNode w b
    → ((port : Port) (c : ℕ) → ends_of mid port c (w.near a) ≡ ends_of mid port c (w.near b))
    → (port : Port) (c : ℕ) → ends_of mid port c (changed_ends changed (w.near a)) ≡ ends_of mid port c (changed_ends changed (w.near b))
few_from_all {N} w old mid changed web h a b i j all = each_count mid (w.near a) (w.near b) (changed_ends changed (w.near a)) (changed_ends changed (w.near b)) (near_of w changed a) (near_of w changed b) (λ c l.
    let node : IsNode w c.node = elim l [ inl m ↦ near_node w web a i c m | inr m ↦ near_node w web b j c m ] in
    elim (cases_Bool (changed c.node)) [
      | inl r ↦ all_changed w old mid changed web h a i c node r ∙ (all c.port (mid c.node) ∙ sym (all_changed w old mid changed web h b j c node r))
      | inr r ↦ none_changed w old mid changed web h a i c node r ∙ sym (none_changed w old mid changed web h b j c node r)
    ])

pub few : {N : Type 0} (w : Web N) (old mid new : N → ℕ) (changed : N → Bool) → IsWeb w → IsParted w old mid changed
    → SplitsBy w (λ a. changed_ends changed (w.near a)) mid new → SplitsBy w w.near mid new
few w old mid new changed web h splits = λ a b i j. (
  (λ e. let s = (splits a b i j).0 e in (s.0, all_from_few w old mid changed web h a b i j s.0 s.1)),
  (λ s. (splits a b i j).1 (s.0, few_from_all w old mid changed web h a b i j s.1)),
)
