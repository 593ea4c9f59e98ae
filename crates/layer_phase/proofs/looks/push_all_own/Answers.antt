use Rattle.std.proofs.Common.{◌≡◌, ◌∙◌, Some, ap, sym, subst, arith, length, slice_get}
use Rattle.std.proofs.lemmas.Option.{slice_get-get_or}
use Rattle.cell_graph.specs.Linked.{cell_at, own_of}
use Rattle.layer_phase.specs.Looks.{BringsOwn}
use Rattle.cell_context.specs.Placed.{Grows}
use Rattle.layer_phase.proofs.Held.{inputs_more}
use Rattle.layer_phase.proofs.looks.push_all_own.Goals as goal

pub loop-rule-preserved : goal.loop-rule-preserved
loop-rule-preserved c =
    let d = c.args.design.now in let names = c.args.names.now in let i = c.loop-rule.rule-index in let rule = c.rule-item.result in
    let at : slice_get names i ≡ Some rule = slice_get-get_or names i rule c.loop-rule-test.true ∙ ap Some (sym c.rule-item.is) in
    let e = c.in_ok-push_own.ensures in
    record {
      rects = e.rects;
      held = λ n h. e.held n (c.loop-rule.invariant.held n h);
      grows = λ q h. e.grows q (c.loop-rule.invariant.grows q h);
      brings = inputs_more names i rule (λ name key. Grows (own_of (cell_at d c.args.cell) key) c.push_own.new.out.items) at (λ name key lt is q h. e.grows q (c.loop-rule.invariant.brings name key lt is q h)) e.brings;
    }

pub returns-clause-brings : goal.returns-clause-brings
returns-clause-brings c =
    let end : c.loop-rule.rule-index ≡ length c.args.names.now = (let a = c.loop-rule-test.false in let b = c.loop-rule.auto.rule-index-end in omega arith) in
    subst (λ n. BringsOwn c.args.design.now c.args.cell c.args.names.now n c.loop-rule.out.items) end c.loop-rule.invariant.brings
