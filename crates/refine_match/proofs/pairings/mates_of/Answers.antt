use Rattle.std.proofs.Common.{◌≡◌, ◌<◌, ◌∷◌, [], ℕ, List, length, slice_index, refl, sym, subst, ◌∙◌, ap, arith, length-append}
use Rattle.match_types.specs.Plain.{plain_kind, plain_node}
use Rattle.refine_match.specs.Choosing.{IsMate}
use Rattle.refine_match.specs.Pairings.{IsMateOf}
use Rattle.refine_match.proofs.Mates.{mates_more, place_plus}
use Rattle.refine_match.proofs.pairings.mates_of.Goals as goal

pub loop-node-preserved : goal.loop-node-preserved
loop-node-preserved c =
    let at = c.loop-node.invariant.0 in
    let place : c.loop-node.node ≡ _ = sym c.loop-node.invariant.0 ∙ sym (place_plus c.args.graph.now.left (plain_kind c.args.kind) (length c.loop-node.mates.items)) in
    let mate : IsMateOf c.args.graph.now c.args.classes.now (plain_kind c.args.kind) (length c.loop-node.mates.items) c.node.result.number = record {
      other = c.mate_of-mate.result;
      mate = subst (λ (x : ℕ). IsMate c.args.graph.now c.args.classes.now x c.mate_of-mate.result) place c.mate_of-mate.ensures;
      number_is = λ p h. (plain_node c.node.result, c.node.ensures p h, refl);
    } in (
      (let e = ap length c.in_ok-push.ensures.items ∙ length-append c.loop-node.mates.items (c.node.result.number ∷ []) in omega arith),
      subst (λ (xs : List ℕ). (k : ℕ) → k < length xs → IsMateOf c.args.graph.now c.args.classes.now (plain_kind c.args.kind) k (slice_index xs k)) (sym c.in_ok-push.ensures.items)
          (mates_more c.args.graph.now c.args.classes.now (plain_kind c.args.kind) c.loop-node.mates.items c.node.result.number c.loop-node.invariant.1 mate),
    )
