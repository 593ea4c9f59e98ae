use Rattle.std.proofs.Common.{◌≡◌, ◌∷◌, [], ◌++◌, ◌+◌, ◌∙◌, List, Some, length, length-append, slice_get, sym, ap, subst, append_assoc, append-nil, arith}
use Rattle.std.specs.Vec.Iter.{into_iter_items}
use Rattle.geo_base.specs.declared.shapes.Rect.{Rect}
use Rattle.flat_layout.specs.Gates.{geometry}
use Rattle.cell_graph.specs.Linked.{plain}
use Rattle.rule_text.specs.Seen.{rules_seen}
use Rattle.rule_layers.specs.Meaning.{wiring_of}
use Rattle.gate_phase.specs.Own.{IsHeldPart}
use Rattle.gate_search.specs.SearchLaws.{IsSearch}
use Rattle.gate_phase.proofs.Owning.{SoFar, all_so_far, held_part, item_here, nothing_left, so_far_more, told_part}
use Rattle.gate_phase.proofs.Numbering.{some_rule}
use Rattle.gate_phase.proofs.own.own_gates.Goals as goal

pub push_part-requires-clause-held : goal.push_part-requires-clause-held
push_part-requires-clause-held c =
    let d = c.args.at.now.site.design.now in let r = rules_seen c.args.at.now.site.rules.now in let at = c.loop-part in let x = c.in-Some.part in
    let u = some_rule r c.args.at.now.number c.requires.ready.known in
    let s = c.in_ok-parts.ensures u.0 u.1 in
    let steps : into_iter_items at.part-iterator ≡ x ∷ into_iter_items c.next.new.self = c.in-Some.ensures.steps.0 in
    let whole : at.yielded ++ (x ∷ into_iter_items c.next.new.self) ≡ c.in_ok-parts.parts.items = ap (λ (l : List (List Rect)). at.yielded ++ l) (sym steps) ∙ at.invariant.whole ∙ c.into_iter-part-iterator.ensures.into_iter_gives.0 in
    subst (λ n. IsHeldPart n d c.args.at.now.site.cell x) (c.requires.ready.reach u.0 u.1) (held_part d (geometry (wiring_of r) u.0) c.args.at.now.site.cell s.0 s.1 c.in_ok-parts.parts.items c.sound.ensures s.2 (length at.yielded) x (item_here at.yielded (into_iter_items c.next.new.self) c.in_ok-parts.parts.items x whole))

pub loop-part-preserved : goal.loop-part-preserved
loop-part-preserved c =
    let d = c.args.at.now.site.design.now in let r = rules_seen c.args.at.now.site.rules.now in let w = wiring_of r in let cell = c.args.at.now.site.cell in let at = c.loop-part in let x = c.in-Some.part in
    let rest = into_iter_items c.next.new.self in
    let steps : into_iter_items at.part-iterator ≡ x ∷ rest = c.in-Some.ensures.steps.0 in
    let first = into_iter_items c.into_iter-part-iterator.result in
    let whole : at.yielded ++ (x ∷ rest) ≡ first = ap (λ (l : List (List Rect)). at.yielded ++ l) (sym steps) ∙ at.invariant.whole in
    let gives : first ≡ c.in_ok-parts.parts.items = c.into_iter-part-iterator.ensures.into_iter_gives.0 in
    let here = item_here at.yielded rest first x whole in
    let long : length (at.yielded ++ x ∷ []) ≡ length at.yielded + 1 = length-append at.yielded (x ∷ []) in
    record {
      whole = append_assoc at.yielded (x ∷ []) rest ∙ whole;
      left = let was = at.invariant.left in let gone = c.in-Some.ensures.steps.1 in let short = ap length steps in omega arith;
      so_far = λ u gathered are known.
          let s = c.in_ok-parts.ensures u known in
          let told = told_part (plain d) (geometry w u) cell s.0 s.1 c.in_ok-parts.parts.items s.2 (length at.yielded) x (subst (λ (l : List (List Rect)). slice_get l (length at.yielded) ≡ Some x) gives here) in
          subst (λ n. SoFar (plain d) w u cell gathered first are n c.push_part.new.gates.items) (sym long)
          (so_far_more (plain d) w u cell gathered first are (length at.yielded) x here told at.gates.items (at.invariant.so_far u gathered are known) c.push_part.new.gates.items (c.in_ok-push_part.ensures u known told));
    }

pub returns : goal.returns
returns c = λ u known.
    let d = c.args.at.now.site.design.now in let r = rules_seen c.args.at.now.site.rules.now in let w = wiring_of r in let cell = c.args.at.now.site.cell in let at = c.loop-part in
    let first = into_iter_items c.into_iter-part-iterator.result in
    let none = c.in-None.ensures.steps in
    let empty : into_iter_items at.part-iterator ≡ [] = nothing_left _ (sym at.invariant.left ∙ none.0) in
    let all : at.yielded ≡ first = sym (append-nil at.yielded) ∙ ap (λ (l : List (List Rect)). at.yielded ++ l) (sym empty) ∙ at.invariant.whole in
    let gives : first ≡ c.in_ok-parts.parts.items = c.into_iter-part-iterator.ensures.into_iter_gives.0 in
    let s = c.in_ok-parts.ensures u known in
    let search : IsSearch (plain d) (geometry w u) cell s.0 s.1 first = subst (IsSearch (plain d) (geometry w u) cell s.0 s.1) (sym gives) s.2 in
    all_so_far (plain d) w u cell s.1 first search.parted s.0 (length at.yielded) at.gates.items search (let same = ap length all in omega arith) (at.invariant.so_far u s.1 search.parted known)
