-- The nodes of one more marked class are listed.
use Rattle.std.proofs.Common.{◌≡◌, ◌<◌, ◌≤◌, ◌+◌, ℕ, zero, suc, List, [], ◌∷◌, ◌++◌, length, slice_index, refl, sym, subst, ◌∙◌, ap, arith, length-append}
use Rattle.std.proofs.Math.Decide.{ℕ_discrete}
use Rattle.std.proofs.lemmas.List.{get_or_push, get_or_append_left}
use Rattle.match_rounds.specs.declared.classes.Classes.{Classes}
use Rattle.match_rounds.specs.Members.{IsCopied, start_at, fresh_at, IsSpan, AreMembers}

start_same : (es : List ℕ) (v j : ℕ) → j ≤ length es → start_at (es ++ v ∷ []) j ≡ start_at es j
start_same es v zero l = refl
start_same es v (suc j) l = get_or_append_left es (v ∷ []) 0 j (omega arith)

old_span : (c : Classes) (ms ns es : List ℕ) (v j b t : ℕ) → IsSpan c ms es j → j < length es → IsCopied ms ns c.order.node_at.items b t → b ≤ t → IsSpan c ns (es ++ v ∷ []) j
old_span c ms ns es v j b t h l copied bt =
    let start = start_same es v j (omega arith) in
    let end : slice_index (es ++ v ∷ []) j ≡ slice_index es j = get_or_append_left es (v ∷ []) 0 j l in
    let is = h.end in
    let fits = h.fits in
    let long = copied.long in
    record {
      end = omega arith;
      fits = omega arith;
      each = λ k m. ap (λ (x : ℕ). slice_index ns (x + k)) start ∙ (copied.kept (start_at es j + k) (omega arith) ∙ h.each k m);
    }

new_span : (c : Classes) (ms ns es : List ℕ) (i : ℕ) → length es ≡ i → start_at es i ≡ length ms
    → IsCopied ms ns c.order.node_at.items (slice_index c.begin.items (fresh_at c i)) (slice_index c.begin.items (fresh_at c i) + slice_index c.counts.size.items (fresh_at c i))
    → IsSpan c ns (es ++ length ns ∷ []) i
new_span c ms ns es i count last copied =
    let start = start_same es (length ns) i (omega arith) in
    let end : slice_index (es ++ length ns ∷ []) i ≡ length ns = get_or_push es (length ns) 0 i count in
    let long = copied.long in
    record {
      end = omega arith;
      fits = omega arith;
      each = λ k m. ap (λ (x : ℕ). slice_index ns (x + k)) (start ∙ last) ∙ copied.each k (omega arith);
    }

pub extended : (c : Classes) (ms ns es fs nodes : List ℕ) (i d b s : ℕ) → AreMembers c ms es i → d ≡ fresh_at c i → b ≡ slice_index c.begin.items d → s ≡ slice_index c.counts.size.items d
    → nodes ≡ c.order.node_at.items → IsCopied ms ns nodes b (b + s) → fs ≡ es ++ length ns ∷ [] → AreMembers c ns fs (i + 1)
extended c ms ns es fs nodes i d b s h ed eb es2 en copied ef =
    let count = h.count in
    let p1 = subst (λ (xs : List ℕ). IsCopied ms ns xs b (b + s)) en copied in
    let p2 = subst (λ (x : ℕ). IsCopied ms ns c.order.node_at.items x (x + s)) (eb ∙ ap (slice_index c.begin.items) ed) p1 in
    let p3 = subst (λ (x : ℕ). IsCopied ms ns c.order.node_at.items (slice_index c.begin.items (fresh_at c i)) (slice_index c.begin.items (fresh_at c i) + x)) (es2 ∙ ap (slice_index c.counts.size.items) ed) p2 in
    let grown : AreMembers c ns (es ++ length ns ∷ []) (i + 1) = record {
      count = length-append es (length ns ∷ []) ∙ ap (λ (x : ℕ). x + 1) count;
      last = subst (λ (m : ℕ). start_at (es ++ length ns ∷ []) m ≡ length ns) (let e : suc i ≡ i + 1 = omega arith in e) (get_or_push es (length ns) 0 i count);
      each = λ j l. elim (ℕ_discrete j i) [
        | yes e ↦ subst (λ (m : ℕ). IsSpan c ns (es ++ length ns ∷ []) m) (sym e) (new_span c ms ns es i count h.last p3)
        | no not ↦ old_span c ms ns es (length ns) j _ _ (h.each j (omega (arith, not))) (omega (arith, not)) p3 (omega arith)
      ];
    } in
    subst (λ (xs : List ℕ). AreMembers c ns xs (i + 1)) (sym ef) grown
