use Rattle.std.proofs.Common.{◌≡◌, ◌<◌, ℕ, List, length, get_or, sym, ap, ◌∙◌, arith}
use Rattle.job_graph.specs.Graph.{AreInputs}
use Rattle.job_board.specs.Board.{BoardState}
use Rattle.job_board.specs.Rule.{graph_of}
use Rattle.job_board.specs.Layout.{edges_of}
use Rattle.job_board.specs.declared.layout.Edge.{Edge}
use Rattle.job_board.proofs.Pieces.{edge_at}
use Rattle.job_board.proofs.Waiting.{dependents_fit}
use Rattle.job_board.proofs.board.Board.add_dependents.Goals as goal

-- a dependent is a job of the graph
inside : (g x : List (List ℕ)) (job i n : ℕ) (edges : List Edge) (d : Edge) → AreInputs g → edges ≡ edges_of x job → x ≡ g → i < length edges → n ≡ length g → (get_or edges i d).to < n
inside g x job i n edges d a e s l count =
    let h = edge_at g job i edges d (e ∙ ap (λ z. edges_of z job) s) l in let f = (dependents_fit g a).edge job i h.0 in let low = f.0 in let to = h.1 in omega arith

pub add-requires : goal.add-requires
add-requires g c =
    let v = c.self.invariant in let pk = c.self.inside.table.shared.key in let plan = ap (λ (z : BoardState g.row.T.Denot g.row.T-Key.Denot). length (graph_of z.plan)) c.self.view_is in
    inside (graph_of pk) c.self.inside.layout.graph c.args.job c.loop-edge.edge-index c.loop-edge.tries c.edges-edge-items.result.now _ v.layout_is.sound c.edges-edge-items.ensures v.layout_is.graph c.loop-edge-test.true (c.loop-edge.invariant ∙ c.requires.tries ∙ sym plan)
