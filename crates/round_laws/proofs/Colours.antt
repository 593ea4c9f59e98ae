-- Colours that stand for agreeing in one round, split by counts, stand for agreeing in the next.
use Rattle.std.proofs.Common.{◌≡◌, inl, inr, ℕ, suc, ◌==◌, ◌&&◌, Bool, true, false, List, ◌++◌, sym, subst, ◌∙◌, ap, true≢false}
use Rattle.base_laws.proofs.Tests.{same_truth}
use Rattle.std.proofs.lemmas.Bool.{and_from, cases_Bool}
use Rattle.std.specs.List.{count_by, list_any}
use Rattle.std.proofs.lemmas.Bool.Decides.{Decides-eqb}
use Rattle.plain_netlist.specs.Lists.{IsListed}
use Rattle.round_laws.specs.Web.{Port, same_port, End, Web, IsWeb, IsNode, fits, agree, same_ends}
use Rattle.round_laws.specs.Colours.{IsChanged, changed_ends, AreColours, ends_of, SplitsBy}
use Rattle.round_laws.proofs.Agree.{count_same, count_none, first, second, equivalence, ends_count, port_same, in_left, in_right}
use Rattle.round_laws.proofs.Stable.{near_node, in_either, any_found, any_of}
use Rattle.round_laws.proofs.Guesses.{of_filter}
use Rattle.round_laws.proofs.Fast.{ends_same_in, fast}

colour_test : {N : Type 0} (w : Web N) (k : ℕ) (colour : N → ℕ) → AreColours w k colour → (a b : N) → IsNode w a → IsNode w b → agree w k a b ≡ (colour a == colour b)
colour_test w k colour h a b i j = same_truth _ _
    (λ t. (Decides-eqb (colour a) (colour b)).1 ((h a b i j).1 t))
    (λ t. (h a b i j).0 ((Decides-eqb (colour a) (colour b)).0 t))

count_colour : {N : Type 0} (w : Web N) (k : ℕ) (colour : N → ℕ) → AreColours w k colour → (c : End N) → IsNode w c.node → (es : List (End N)) → ((e : End N) → IsListed e es → IsNode w e.node)
    → count_by (fits (agree w k) c) es ≡ ends_of colour c.port (colour c.node) es
count_colour w k colour h c node es nodes = count_same _ _ es (λ e i. ap (λ (b : Bool). same_port c.port e.port && b) (colour_test w k colour h c.node e.node node (nodes e i)))

same_by_counts : {N : Type 0} (w : Web N) (k : ℕ) (colour : N → ℕ) → AreColours w k colour → (xs ys : List (End N)) → ((e : End N) → IsListed e xs → IsNode w e.node) → ((e : End N) → IsListed e ys → IsNode w e.node)
    → ((port : Port) (c : ℕ) → ends_of colour port c xs ≡ ends_of colour port c ys) → same_ends (agree w k) xs ys ≡ true
same_by_counts {N} w k colour h xs ys nx ny counts = ends_same_in (agree w k) xs ys (λ c l.
    let node : IsNode w c.node = elim l [ inl i ↦ nx c i | inr i ↦ ny c i ] in
    count_colour w k colour h c node xs nx ∙ (counts c.port (colour c.node) ∙ sym (count_colour w k colour h c node ys ny)))

pub counts_by_same : {N : Type 0} (w : Web N) (k : ℕ) (colour : N → ℕ) → IsWeb w → AreColours w k colour → (xs ys : List (End N)) → ((e : End N) → IsListed e xs → IsNode w e.node) → ((e : End N) → IsListed e ys → IsNode w e.node)
    → same_ends (agree w k) xs ys ≡ true → (port : Port) (c : ℕ) → ends_of colour port c xs ≡ ends_of colour port c ys
counts_by_same {N} w k colour web h xs ys nx ny same port c =
    elim (cases_Bool (list_any (λ e. same_port port e.port && (c == colour e.node)) (xs ++ ys))) [
      | inl r ↦
          let f = any_found (λ e. same_port port e.port && (c == colour e.node)) (xs ++ ys) r in
          let node : IsNode w f.0.node = elim (in_either f.0 xs ys f.1) [ inl i ↦ nx f.0 i | inr i ↦ ny f.0 i ] in
          let p : port ≡ f.0.port = (port_same port f.0.port).0 (first (same_port port f.0.port) _ f.2) in
          let q : c ≡ colour f.0.node = (Decides-eqb c (colour f.0.node)).0 (second (same_port port f.0.port) _ f.2) in
          let counts : ends_of colour f.0.port (colour f.0.node) xs ≡ ends_of colour f.0.port (colour f.0.node) ys
          = sym (count_colour w k colour h f.0 node xs nx) ∙ (ends_count (agree w k) (equivalence w web.alike k) xs ys same f.0 ∙ count_colour w k colour h f.0 node ys ny) in
          subst (λ (x : Port). ends_of colour x c xs ≡ ends_of colour x c ys) (sym p)
          (subst (λ (x : ℕ). ends_of colour f.0.port x xs ≡ ends_of colour f.0.port x ys) (sym q) counts)
      | inr r ↦ count_none _ xs (λ e i. not_any (λ x. same_port port x.port && (c == colour x.node)) (xs ++ ys) r e (in_left e xs ys i))
          ∙ sym (count_none _ ys (λ e i. not_any (λ x. same_port port x.port && (c == colour x.node)) (xs ++ ys) r e (in_right e xs ys i)))
    ]
  where
    not_any : {X : Type 0} (p : X → Bool) (zs : List X) → list_any p zs ≡ false → (e : X) → IsListed e zs → p e ≡ false
    not_any p zs r e i = elim (cases_Bool (p e)) [ inl t ↦ absurd (true≢false (sym (any_of p e zs i t) ∙ r)) | inr t ↦ t ]

pub round : {N : Type 0} (w : Web N) (k : ℕ) (colour new : N → ℕ) → IsWeb w → AreColours w k colour → SplitsBy w w.near colour new → AreColours w (suc k) new
round w k colour new web h splits = λ a b i j. (
  (λ e.
      let s = (splits a b i j).0 e in
      and_from (agree w k a b) _ ((h a b i j).0 s.0) (same_by_counts w k colour h (w.near a) (w.near b) (near_node w web a i) (near_node w web b j) s.1)),
  (λ t. (splits a b i j).1
      ((h a b i j).1 (first (agree w k a b) _ t), counts_by_same w k colour web h (w.near a) (w.near b) (near_node w web a i) (near_node w web b j) (second (agree w k a b) _ t))),
)

changed_nodes : {N : Type 0} (w : Web N) (changed : N → Bool) → IsWeb w → (a : N) → IsNode w a → (e : End N) → IsListed e (changed_ends changed (w.near a)) → IsNode w e.node
changed_nodes {N} w changed web a i e l = near_node w web a i e (of_filter (λ (x : End N). changed x.node) e (w.near a) l)

pub fast_round : {N : Type 0} (w : Web N) (k : ℕ) (changed : N → Bool) (colour new : N → ℕ) → IsWeb w → IsChanged w k changed → AreColours w (suc k) colour
    → SplitsBy w (λ a. changed_ends changed (w.near a)) colour new → AreColours w (suc (suc k)) new
fast_round w k changed colour new web ch h splits = λ a b i j. (
  (λ e.
      let s = (splits a b i j).0 e in
      let t : agree w (suc k) a b ≡ true = (h a b i j).0 s.0 in
      fast w k changed web ch a b i j t ∙ same_by_counts w (suc k) colour h (changed_ends changed (w.near a)) (changed_ends changed (w.near b)) (changed_nodes w changed web a i) (changed_nodes w changed web b j) s.1),
  (λ t.
      let s : agree w (suc k) a b ≡ true = first (agree w (suc k) a b) _ t in
      (splits a b i j).1 (
        (h a b i j).1 s,
        counts_by_same w (suc k) colour web h (changed_ends changed (w.near a)) (changed_ends changed (w.near b)) (changed_nodes w changed web a i) (changed_nodes w changed web b j)
            (sym (fast w k changed web ch a b i j s) ∙ t),
      )),
)
