use Rattle.std.proofs.Common.{◌≡◌, ◌∙◌, Some, ap, sym, arith, slice_get}
use Rattle.std.proofs.lemmas.Option.{slice_get-get_or}
use Rattle.cell_graph.specs.Linked.{cell_at, own_of}
use Rattle.cell_context.specs.Placed.{Grows}
use Rattle.gate_phase.proofs.Marking.{inputs_more}
use Rattle.gate_phase.proofs.seeds.push_all_own.Goals as goal

pub loop-i-preserved : goal.loop-i-preserved
loop-i-preserved c =
    let d = c.args.design.now in let names = c.args.names.now in let marks = c.args.marks.now in let i = c.loop-i.i in let rule = c.index-names-i.result in
    let at : slice_get names i ≡ Some rule = slice_get-get_or names i rule c.loop-i-test.true ∙ ap Some (sym c.index-names-i.is) in
    let e = c.in_ok-push_own.ensures in let lt = c.loop-i-test.true in
    record {
      pieces = e.pieces;
      grows = λ q h. e.grows q (c.loop-i.invariant.grows q h);
      brings = inputs_more names marks i rule (λ k key. Grows (own_of (cell_at d c.args.cell) key) c.push_own.new.out.items) at (let n = c.requires.marks in omega arith)
          (λ k key below is q h. e.grows q (c.loop-i.invariant.brings k key below is q h)) e.brings;
    }

pub returns-clause-brings : goal.returns-clause-brings
returns-clause-brings c = λ k key lt. c.loop-i.invariant.brings k key (let a = c.loop-i-test.false in omega arith)
