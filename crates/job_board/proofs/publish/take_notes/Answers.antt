use Rattle.std.proofs.Common.{rules, ◌≡◌, ◌+◌, ◌<◌, ℕ, suc, List, [], ◌∷◌, ◌++◌, replicate, length, drop, take, slice_index, None, sym, subst, ap, ◌∙◌, arith}
use Rattle.std.proofs.lemmas.Grind.{common_steps}
use Rattle.atomic_table.specs.Table.{turned}
use Rattle.job_graph.specs.Graph.{inputs_of}
use Rattle.job_board.specs.Rule.{graph_of, dependents_of}
use Rattle.job_board.specs.Notes.{IsRight, AreNotes}
use Rattle.job_board.specs.Slots.{own_slot, numbered, AreRight}
use Rattle.job_board.specs.Pieces.{waiting_slots}
use Rattle.job_board.proofs.Pieces.{next_right, front_note, found_is, emptied, notes_more}
use Rattle.job_board.proofs.publish.take_notes.Goals as goal

pub exchange-found-requires : goal.exchange-found-requires
exchange-found-requires g c = let p = c.args.table.now.shared.key in let v = c.loop-i.invariant in let is : List ℕ = inputs_of (graph_of p) c.args.job in let l : c.loop-i.i < length is = search rules in
    let n = next_right (IsRight g.T.Defined.is_defined p) is c.loop-i.i v.5.0 l v.5.1 in
    (v.0 ∙ c.requires.board.seat, (n.0, front_note (c.args.first + c.loop-i.i) v.5.0 n.1 n.0 _ c.loop-i.seat.me.1 (ap (λ m. m.1) v.5.2) n.2))

pub unreachable-requires : goal.unreachable-requires
unreachable-requires g c = let p = c.args.table.now.shared.key in let v = c.loop-i.invariant in let is : List ℕ = inputs_of (graph_of p) c.args.job in let l : c.loop-i.i < length is = search rules in
    let n = next_right (IsRight g.T.Defined.is_defined p) is c.loop-i.i v.5.0 l v.5.1 in
    let same = found_is (c.args.first + c.loop-i.i) n.0 c.exchange-found.result c.loop-i.seat.me.1 (front_note (c.args.first + c.loop-i.i) v.5.0 n.1 n.0 _ c.loop-i.seat.me.1 (ap (λ m. m.1) v.5.2) n.2) c.exchange-found.ensures.2 in
    subst (IsRight g.T.Defined.is_defined p (slice_index is c.loop-i.i)) (sym same ∙ c.in_default.is) n.3

pub loop-i-preserved : goal.loop-i-preserved
loop-i-preserved g c = let p = c.args.table.now.shared.key in let v = c.loop-i.invariant in let is : List ℕ = inputs_of (graph_of p) c.args.job in let l : c.loop-i.i < length is = search rules in
    let n = next_right (IsRight g.T.Defined.is_defined p) is c.loop-i.i v.5.0 l v.5.1 in
    let same = found_is (c.args.first + c.loop-i.i) n.0 c.exchange-found.result c.loop-i.seat.me.1 (front_note (c.args.first + c.loop-i.i) v.5.0 n.1 n.0 _ c.loop-i.seat.me.1 (ap (λ m. m.1) v.5.2) n.2) c.exchange-found.ensures.2 in (
      search rules,
      search rules,
      first_of (search rules, grind (arith, common_steps)),
      first_of (search rules, grind (arith, common_steps)),
      subst (AreNotes g.T.Defined.is_defined p (take (c.loop-i.i + 1) is)) (sym c.in-Ok.ensures.items)
          (notes_more g.T.Defined.is_defined p is c.loop-i.i c.loop-i.notes.items c.in-Some.note l v.4 (subst (IsRight g.T.Defined.is_defined p (slice_index is c.loop-i.i)) (sym same ∙ c.in-Some.is) n.3)),
      (
        n.1,
        subst (λ k. AreRight (IsRight g.T.Defined.is_defined p) (drop k is) n.1) (let e : suc c.loop-i.i ≡ c.loop-i.i + 1 = omega arith in e) n.4,
        c.turn.ensures.2 ∙ ap (λ m. (m.0, turned m.1)) c.exchange-found.ensures.3
            ∙ (λ k. (
              (ap (λ m. m.0) v.5.2) k,
              (emptied None n.0 c.args.first c.loop-i.i n.1 (waiting_slots None (graph_of p) c.args.job (inputs_of (dependents_of p) c.args.job) ++ (own_slot (graph_of p) c.args.job, None) ∷ []) c.loop-i.seat.me.1
                  (ap (λ m. m.1) v.5.2 ∙ ap (λ ys. numbered (c.args.first + c.loop-i.i) ys ++ ((waiting_slots None (graph_of p) c.args.job (inputs_of (dependents_of p) c.args.job) ++ (own_slot (graph_of p) c.args.job, None) ∷ []) ++ numbered c.args.first (replicate c.loop-i.i None))) n.2)) k,
            )),
      ),
    )
