use Rattle.std.proofs.Common.{ℕ, subst}
use Rattle.match_graph.specs.Graph.{nodes_of}
use Rattle.match_rounds.specs.Classes.{class_in}
use Rattle.match_rounds.specs.Turned.{AreAllOf}
use Rattle.refine_match.specs.Sides.{rank_by}
use Rattle.refine_match.proofs.SureFirst.{best_first, not_some}
use Rattle.refine_match.proofs.candidates.Sides.next_candidate.Goals as goal

pub returns-in-Some : goal.returns-in-Some
returns-in-Some c =
    let g = c.args.self.now.graph.now in
    let d = class_in c.args.classes.now c.args.node in
    let items = c.members-members.result.now in
    let all = subst (λ (x : ℕ). AreAllOf (class_in c.args.classes.now) x items (nodes_of g)) c.of-class.ensures c.members-members.ensures in
    (items, all, best_first g c.args.classes.now (rank_by c.args.self.now c.args.node) d items c.in-Some.candidate c.args.last (not_some c.args.last c.if-is_none.ensures) all c.in-Some.ensures)
