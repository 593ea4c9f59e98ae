use Rattle.std.proofs.Common.{ℕ, List, get_or, sym, subst, arith}
use Rattle.cell_graph.specs.Spans.{ArePlacesIn}
use Rattle.cell_context.specs.Over.{AreVisitedAt}
use Rattle.cell_context.proofs.Near.{found_inside, all_visited}
use Rattle.cell_context.proofs.Visiting.{up_to}
use Rattle.cell_context.proofs.flats.visits.Goals as goal

pub push_kept-requires-clause-there : goal.push_kept-requires-clause-there
push_kept-requires-clause-there c =
    let are = subst (λ (l : List ℕ). ArePlacesIn c.args.design.now c.args.cell c.grown-wide.result l) (sym c.deref-i-items.ensures.value) c.in_ok-near.ensures in
    found_inside c.args.design.now c.args.cell c.grown-wide.result c.deref-i-items.result.now c.loop-i.i-index are c.loop-i-test.true

pub loop-i-preserved : goal.loop-i-preserved
loop-i-preserved c = record {
  each = c.in_ok-push_kept.ensures.each;
  found = up_to (λ k. AreVisitedAt c.args.by c.args.design.now c.args.cell c.args.skip c.args.window.now (get_or c.deref-i-items.result.now k 0) c.push_kept.new.out.items) c.loop-i.i-index
      (λ k lt row column p q step kept held met. c.in_ok-push_kept.ensures.stay row column p q (c.loop-i.invariant.found k lt row column p q step kept held met))
      c.in_ok-push_kept.ensures.found;
}

pub returns-clause-found : goal.returns-clause-found
returns-clause-found c =
    let are = subst (λ (l : List ℕ). ArePlacesIn c.args.design.now c.args.cell c.grown-wide.result l) (sym c.deref-i-items.ensures.value) c.in_ok-near.ensures in
    all_visited c.args.by c.args.design.now c.args.cell c.args.skip c.args.window.now c.grown-wide.result c.deref-i-items.result.now c.loop-i.out.items c.sound.ensures c.grown-wide.ensures are
    (λ k lt. c.loop-i.invariant.found k (let past = c.loop-i-test.false in omega (arith, lt, past)))
