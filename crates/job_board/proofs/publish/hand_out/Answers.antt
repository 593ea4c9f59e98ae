use Rattle.std.proofs.Common.{rules, ◌≡◌, ◌<◌, ◌≤◌, ℕ, suc, List, ◌∷◌, ◌++◌, length, drop, Some, None, sym, ap, ◌∙◌, refl, arith}
use Rattle.std.proofs.lemmas.List.{length-map}
use Rattle.job_graph.specs.Graph.{inputs_of}
use Rattle.job_board.specs.Rule.{dependents, graph_of, dependents_of}
use Rattle.job_board.specs.Notes.{IsRight}
use Rattle.job_board.specs.Slots.{edge_slot, held_by}
use Rattle.job_board.specs.Pieces.{waiting_slots}
use Rattle.job_board.specs.Layout.{edge_to, edges_of}
use Rattle.job_board.specs.declared.layout.Edge.{Edge}
use Rattle.job_board.proofs.Pieces.{right_again, edge_at, in_front, headed, told_more, may_tell, may_end, at_rest}
use Rattle.job_board.proofs.publish.hand_out.Goals as goal

many : (g : List (List ℕ)) (j : ℕ) (edges : List Edge) → edges ≡ edges_of g j → length edges ≡ length (inputs_of (dependents g) j)
many g j edges e = ap length e ∙ length-map (inputs_of (dependents g) j) (edge_to g j)

pub exchange-requires : goal.exchange-requires
exchange-requires g c = let p = graph_of c.args.table.now.shared.key in let v = c.loop-i.invariant in let l : c.loop-i.i < length c.args.edges.now = search rules in
    let e = edge_at p c.args.job c.loop-i.i c.args.edges.now record { to = 0; slot = 0 } c.requires.edges l in let to = inputs_of (dependents p) c.args.job in (
      v.0 ∙ c.requires.board.seat,
      (
        None,
        headed _ _ _ (ap (λ m. m.1) v.2 ∙ ap (λ z. z ++ held_by None p c.args.job None) (in_front None p c.args.job to c.loop-i.i e.0)
            ∙ ap (λ z. (z, None) ∷ waiting_slots None p c.args.job (drop (suc c.loop-i.i) to) ++ held_by None p c.args.job None) (sym e.2)),
      ),
    )

pub tell-requires-clause-work : goal.tell-requires-clause-work
tell-requires-clause-work g c κs within = let v = c.loop-i.invariant in let l : c.loop-i.i < length c.args.edges.now = search rules in let q = c.args.table.now.shared.key in
    let e = edge_at (graph_of q) c.args.job c.loop-i.i c.args.edges.now record { to = 0; slot = 0 } c.requires.edges l in let to = inputs_of (dependents_of q) c.args.job in
    may_tell (IsRight g.T.Defined.is_defined) q c.requires.fits c.args.seat.now.me.0 c.loop-i.seat.me c.exchange.new.seat.me c.args.job c.loop-i.i to refl (Some c.again.result)
    (right_again g.T.Defined.is_defined q c.args.job c.args.note.now c.again.result c.again.ensures c.requires.note) _ _ _ (e.2 ∙ ap (edge_slot (graph_of q) c.args.job) (sym e.1)) (sym e.1) e.0 v.2 c.exchange.ensures.3

pub end-requires-clause-work : goal.end-requires-clause-work
end-requires-clause-work g c κs within = let v = c.loop-i.invariant in let q = c.args.table.now.shared.key in let to = inputs_of (dependents_of q) c.args.job in let n = many (graph_of q) c.args.job c.args.edges.now c.requires.edges in
    let l : length c.args.edges.now ≤ c.loop-i.i = search rules in let h : c.loop-i.i ≤ length c.args.edges.now = search rules in
    may_end (IsRight g.T.Defined.is_defined) q c.requires.fits c.args.seat.now.me.0 c.loop-i.seat.me c.exchange-2.new.seat.me c.args.job c.loop-i.i to refl (Some c.again-2.result)
    (right_again g.T.Defined.is_defined q c.args.job c.args.note.now c.again-2.result c.again-2.ensures c.requires.note) None c.args.own c.requires.own (omega arith) (omega arith) v.2 c.exchange-2.ensures.3

pub returns-clause-rests : goal.returns-clause-rests
returns-clause-rests g c = let v = c.loop-i.invariant in let q = c.args.table.now.shared.key in let to = inputs_of (dependents_of q) c.args.job in let n = many (graph_of q) c.args.job c.args.edges.now c.requires.edges in let l : length c.args.edges.now ≤ c.loop-i.i = search rules in
    at_rest None q c.args.seat.now.me.0 c.loop-i.seat.me c.exchange-2.new.seat.me _ c.args.job c.loop-i.i c.args.own to (Some c.again-2.result) c.requires.board.plan (omega arith) v.2 c.exchange-2.ensures.3 c.end.ensures.ended

pub loop-i-preserved : goal.loop-i-preserved
loop-i-preserved g c = let p = graph_of c.args.table.now.shared.key in let v = c.loop-i.invariant in let l : c.loop-i.i < length c.args.edges.now = search rules in
    let e = edge_at p c.args.job c.loop-i.i c.args.edges.now record { to = 0; slot = 0 } c.requires.edges l in
    (search rules, search rules, told_more None (Some c.again.result) p c.args.seat.now.me.0 c.loop-i.seat.me c.exchange.new.seat.me c.tell.new.seat.me c.args.job c.loop-i.i _ (inputs_of (dependents p) c.args.job) (held_by None p c.args.job None) e.0 v.2 c.exchange.ensures.3 c.tell.ensures.told)
