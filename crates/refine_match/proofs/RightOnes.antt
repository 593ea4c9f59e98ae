-- The right nodes of classes, and where they stand.
use Rattle.std.proofs.Common.{◌≡◌, inl, inr, ◌<◌, ◌≤◌, ◌+◌, ℕ, List, [], ◌∷◌, length, slice_index, slice_index_or, slice_set, sym, subst, ◌∙◌, ap, arith, length-append}
use Rattle.std.specs.Prelude.{Vec}
use Rattle.std.specs.Global.{Global}
use Rattle.std.proofs.lemmas.Bool.{cases_lt}
use Rattle.std.proofs.lemmas.List.{get_or_append_left, get_or_push, length-set}
use Rattle.match_graph.specs.declared.graph.Graph.{Graph}
use Rattle.match_graph.specs.Graph.{left_of, nodes_of}
use Rattle.match_rounds.specs.declared.classes.Classes.{Classes}
use Rattle.match_rounds.specs.Classes.{IsGrown, IsPartition, class_count, class_in}
use Rattle.refine_match.specs.declared.ties.Span.{Span}
use Rattle.refine_match.specs.declared.rights.Rights.{Rights}
use Rattle.refine_match.specs.declared.lists.Lists.{Lists}
use Rattle.refine_match.specs.Ties.{AreInOrder, IsFirstIn, IsSpanOf}
use Rattle.refine_match.specs.Rights.{AreFormerLists, AreListsOf, AreRightSpans, AreRightsOf, IsFirstRight, IsRightAdded, right_span}
use Rattle.refine_match.proofs.Tied.{former, span_like, span_longer, span_of_row}
use Rattle.refine_match.proofs.InOrder.{span_from, span_read, spans_set}

-- one class more is listed
pub one_right : (old new : Rights) (g : Graph) (c : Classes) (n : ℕ) (row : List ℕ) → AreRightSpans old g c → length old.spans.items ≡ n → AreInOrder row (class_in c) (left_of g) (nodes_of g) n → IsRightAdded old new row → AreRightSpans new g c
one_right old new g c n row spans count in_order added d l =
    let nodes = old.nodes.items in
    let none : Span = record { next = 0; end = 0 } in
    let fresh : Span = record { next = length nodes; end = length new.nodes.items } in
    let long : length new.nodes.items ≡ length nodes + length row = ap length added.nodes_are ∙ length-append nodes row in
    let more : length new.spans.items ≡ length old.spans.items + 1 = ap length added.spans_are ∙ length-append old.spans.items (fresh ∷ []) in
    let before : (k : ℕ) → k < length nodes → slice_index new.nodes.items k ≡ slice_index nodes k = λ k m.
    ap (λ (xs : List ℕ). slice_index xs k) added.nodes_are ∙ get_or_append_left nodes row 0 k m in
    elim (cases_lt d n) [
      | inl u ↦
          let kept : right_span new d ≡ right_span old d = ap (λ (xs : List Span). slice_index_or xs d none) added.spans_are ∙ get_or_append_left old.spans.items (fresh ∷ []) none d (omega arith) in
          subst (λ (s : Span). IsSpanOf new.nodes.items s (class_in c) (left_of g) (nodes_of g) d) (sym kept)
          (span_longer (class_in c) (left_of g) (nodes_of g) d nodes new.nodes.items (right_span old d) (omega arith) before (spans d (omega arith)))
      | inr u ↦
          let e : n ≡ d = omega arith in
          let last : right_span new n ≡ fresh = ap (λ (xs : List Span). slice_index_or xs n none) added.spans_are ∙ get_or_push old.spans.items fresh none n count in
          subst (λ (x : ℕ). IsSpanOf new.nodes.items (right_span new x) (class_in c) (left_of g) (nodes_of g) x) e
          (subst (λ (s : Span). IsSpanOf new.nodes.items s (class_in c) (left_of g) (nodes_of g) n) (sym last)
          (span_of_row (class_in c) (left_of g) (nodes_of g) n nodes row new.nodes.items in_order added.nodes_are))
    ]

pub one_more : (old new : Rights) (n : ℕ) (row : List ℕ) → length old.spans.items ≡ n → IsRightAdded old new row → length new.spans.items ≡ n + 1
one_more old new n row count added =
    let more = ap length added.spans_are ∙ length-append old.spans.items (record { next = length old.nodes.items; end = length new.nodes.items } ∷ []) in
    omega arith

-- the span of a class, as it was read
pub span_here : (r : Rights) (g : Graph) (c : Classes) (d : ℕ) (s : Span) → AreRightsOf r g c → d < class_count c → s ≡ slice_index_or r.spans.items d s → IsSpanOf r.nodes.items s (class_in c) (left_of g) (nodes_of g) d
span_here r g c d s h l e =
    let count = h.count in
    let low : d < length r.spans.items = omega arith in
    subst (λ (u : Span). IsSpanOf r.nodes.items u (class_in c) (left_of g) (nodes_of g) d) (sym (span_read r.spans.items d s low e)) (h.spans d low)

-- the first of its places with a node of the class has the least right node
pub first_right : (nodes : List ℕ) (s : Span) (g : Graph) (c : Classes) (d place y : ℕ) → IsSpanOf nodes s (class_in c) (left_of g) (nodes_of g) d → IsFirstIn nodes (class_in c) d s.next s.end place → place < s.end → y ≡ slice_index nodes place → IsFirstRight g c d y
first_right nodes s g c d place y span first inside is =
    let at = first.inside inside in
    let w = span.within place at.0 inside in
    record {
      right = subst (λ (x : ℕ). left_of g ≤ x) (sym is) w.0;
      below = subst (λ (x : ℕ). x < nodes_of g) (sym is) w.1;
      of = ap (class_in c) is ∙ at.1;
      first = λ a l m e.
          let r = span.found a l m e in
          elim (cases_lt r.0 place) [
            | inl u ↦ absurd (first.none r.0 r.1 u (ap (class_in c) r.3 ∙ e))
            | inr u ↦
                let up = span.rising place r.0 at.0 u r.2 in
                let there = r.3 in
                omega arith
          ];
    }

-- the nodes before it were dropped
pub passed : (r : Rights) (g : Graph) (c : Classes) (d place : ℕ) (s : Span) (vs : Vec Span Global) → AreRightsOf r g c → d < class_count c → s ≡ slice_index_or r.spans.items d s → IsFirstIn r.nodes.items (class_in c) d s.next s.end place
    → vs.items ≡ slice_set r.spans.items d (let u : Span = record { next = place; end = s.end } in u) → AreRightsOf (let u : Rights = record { nodes = r.nodes; spans = vs } in u) g c
passed r g c d place s vs h l e first set =
    let count = h.count in
    let low : d < length r.spans.items = omega arith in
    let shorter : Span = record { next = place; end = s.end } in
    record {
      count = ap length set ∙ (length-set r.spans.items d shorter ∙ h.count);
      spans = subst (λ (xs : List Span). (x : ℕ) → x < length xs → IsSpanOf r.nodes.items (slice_index_or xs x record { next = 0; end = 0 }) (class_in c) (left_of g) (nodes_of g) x) (sym set)
          (spans_set r.nodes.items r.spans.items (class_in c) (left_of g) (nodes_of g) d shorter h.spans low
          (span_from r.nodes.items s (class_in c) (left_of g) (nodes_of g) d place (span_here r g c d s h l e) first));
    }

-- the lists of classes are those of classes that are parts of these
pub former_lists : (l : Lists) (g : Graph) (old new : Classes) → IsPartition old (left_of g) (nodes_of g) → IsGrown old new → AreListsOf l g old → AreFormerLists l g new
former_lists l g old new part grown h =
    let long = part.classes.long in
    let count = h.rights.count in
    let more = grown.count in
    record {
      ties = former l.ties g old new part grown h.ties;
      fewer = omega arith;
      rights = λ d low. span_like (class_in old) (class_in new) (left_of g) (nodes_of g) d l.rights.nodes.items (right_span l.rights d) (λ a m n e. elim (grown.kept a (omega arith)) [
        | inl f ↦ sym f ∙ e
        | inr f ↦ absurd (omega arith)
      ]) (h.rights.spans d low);
    }
