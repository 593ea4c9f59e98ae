use Rattle.std.proofs.Common.{rules, ◌<◌, ℕ, List, length, slice_index, refl, ◌∙◌, arith, length-set}
use Rattle.job_graph.specs.Graph.{AreAscending}
use Rattle.job_graph.proofs.Inputs.{has_within, item_has}
use Rattle.job_board.proofs.Edges.{edge_pushed}
use Rattle.job_board.proofs.layout.add_edges.Goals as goal

below : (inputs : List ℕ) (job q : ℕ) → AreAscending 0 inputs job → q < length inputs → slice_index inputs q < job
below inputs job q a l = (has_within 0 (slice_index inputs q) inputs job a (item_has inputs q 0 l)).1

pub index_mut-requires : goal.index_mut-requires
index_mut-requires c =
    let l : c.loop-place.place < length c.args.inputs.now = search rules in let b = below c.args.inputs.now c.args.job c.loop-place.place c.requires.inputs l in
    let n = c.loop-place.invariant.0 in let o = c.loop-place.edges.ok.0 in let j = c.requires.job in omega arith

pub loop-place-preserved : goal.loop-place-preserved
loop-place-preserved c =
    let l : c.loop-place.place < length c.args.inputs.now = search rules in let b = below c.args.inputs.now c.args.job c.loop-place.place c.requires.inputs l in
    let n = c.loop-place.invariant.0 in let j = c.requires.job in (
      length-set c.loop-place.edges.items _ _ ∙ n,
      edge_pushed c.args.inputs.now c.args.job c.args.first c.loop-place.place c.requires.inputs l c.args.edges.now.items c.loop-place.edges.items _ c.index_mut.result.now c.push.new.self (omega arith) c.loop-place.invariant.1 refl c.index_mut.ensures.value (c.in_ok-push.ensures {u = tt}).items,
    )
