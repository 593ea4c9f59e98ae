-- The first nets of names.
use Rattle.std.proofs.Common.{◌≡◌, inl, inr, ◌<◌, ◌≤◌, ◌+◌, ◌^◌, ℕ, Bool, true, false, cond, Option, Some, None, List, [], ◌∷◌, ◌++◌, length, slice_index_or, zero, suc, length-append, bytes_eq, refl, sym, subst, ◌∙◌, ap, arith, true≢false}
use Rattle.std.specs.Borrow.{Bor}
use Rattle.std.proofs.lemmas.Bool.{cases_lt}
use Rattle.std.proofs.lemmas.Slice.Eq.{bytes_eq-Decides}
use Rattle.match_laws.specs.Circuits.{Pair}
use Rattle.net_model.specs.declared.netlist.Circuit.{Circuit}
use Rattle.match_graph.specs.declared.graph.Graph.{Graph}
use Rattle.match_graph.specs.Graph.{nodes_of}
use Rattle.match_graph.proofs.Named.{right_first}
use Rattle.refine_match.specs.Candidates.{IsPairOf}
use Rattle.std.proofs.lemmas.List.{get_or_append_left, get_or_push}
use Rattle.refine_match.specs.Namesakes.{AreFirsts, AreNamesakesTo, IsFirstNet, name_of}

pub no_firsts : (c : Circuit) (n : ℕ) (found : Bor (List ℕ) → Option ℕ) → length c.nets.items ≤ n → ((q : Bor (List ℕ)) → found q ≡ None) → AreFirsts c n found
no_firsts c n found past none q = subst (IsFirstNet c n q.now) (sym (none q)) (λ m l u. absurd (omega arith))

-- one net more before those
pub first_more : (c : Circuit) (n : ℕ) (name : Bor (List ℕ)) (old new : Bor (List ℕ) → Option ℕ) → AreFirsts c (n + 1) old → n < length c.nets.items → name.now ≡ name_of c n → ((q : Bor (List ℕ)) → new q ≡ cond (bytes_eq name.now q.now) (Some n) (old q))
    → AreFirsts c n new
first_more c n name old new h low is updates q = go (bytes_eq name.now q.now) refl
  where
    kept : (o : Option ℕ) → (name.now ≡ q.now → ⊥) → IsFirstNet c (n + 1) q.now o → IsFirstNet c n q.now o
    kept (Some v) not f =
        let from = f.0 in (
          omega arith,
          f.1,
          f.2,
          λ m l u e. elim (cases_lt n m) [
            | inl k ↦ f.3 m (omega arith) u e
            | inr k ↦ let at : m ≡ n = omega arith in absurd (not (is ∙ (ap (name_of c) (sym at) ∙ e)))
          ],
        )
    kept None not f = λ m l u e. elim (cases_lt n m) [
      | inl k ↦ f m (omega arith) u e
      | inr k ↦ let at : m ≡ n = omega arith in not (is ∙ (ap (name_of c) (sym at) ∙ e))
    ]

    go : (b : Bool) → bytes_eq name.now q.now ≡ b → IsFirstNet c n q.now (new q)
    go true e = subst (IsFirstNet c n q.now) (sym (updates q ∙ ap (λ (u : Bool). cond {A = Option ℕ} u (Some n) (old q)) e)) (omega arith, low, sym is ∙ (bytes_eq-Decides name.now q.now).0 e, λ m l u f. l)
    go false e = subst (IsFirstNet c n q.now) (sym (updates q ∙ ap (λ (u : Bool). cond {A = Option ℕ} u (Some n) (old q)) e)) (kept (old q) (λ f. true≢false (sym ((bytes_eq-Decides name.now q.now).1 f) ∙ e)) (h q))

-- a name as it was read
pub name_read : (xs : List (List ℕ)) (k : ℕ) (x : List ℕ) → k < length xs → x ≡ slice_index_or xs k x → x ≡ slice_index_or xs k []
name_read [] k x l e = absurd (omega arith)
name_read (y ∷ xs) zero x l e = e
name_read (y ∷ xs) (suc k) x l e = name_read xs k x (omega arith) e

-- the namesakes of one net more
pub one_named : (left right : Circuit) (n : ℕ) (old new : List (Option ℕ)) (o : Option ℕ) → AreNamesakesTo left right old n → IsFirstNet right 0 (name_of left n) o → new ≡ old ++ o ∷ [] → AreNamesakesTo left right new (n + 1)
one_named left right n old new o h is e =
    let long : length old ≡ n = h.long in
    let more : length new ≡ length old + 1 = ap length e ∙ length-append old (o ∷ []) in
    record {
      long = omega arith;
      each = λ j l. elim (cases_lt j n) [
        | inl u ↦ subst (IsFirstNet right 0 (name_of left j)) (sym (ap (λ (xs : List (Option ℕ)). slice_index_or xs j None) e ∙ get_or_append_left old (o ∷ []) None j (omega arith))) (h.each j u)
        | inr u ↦
            let at : n ≡ j = omega arith in
            subst (λ (i : ℕ). IsFirstNet right 0 (name_of left i) (slice_index_or new i None)) at
            (subst (IsFirstNet right 0 (name_of left n)) (sym (ap (λ (xs : List (Option ℕ)). slice_index_or xs n None) e ∙ get_or_push old o None n long)) is)
      ];
    }

-- a circuit has no more nets than nodes
pub few_nets : (p : Pair) (g : Graph) (left right : Circuit) → IsPairOf p g left right → nodes_of g < 2 ^ 32 → length right.nets.items < 2 ^ 32
few_nets p g left right h small =
    let count = (right_first p g h.graph).nets in
    let same : length p.right.nets ≡ length right.nets.items = ap (λ (q : _). length q.nets) h.right_is in
    omega arith
