use Rattle.std.proofs.Common.{◌≡◌, ◌∙◌, Some, true, ap, sym, subst, arith, length, slice_get}
use Rattle.std.proofs.lemmas.Option.{slice_get-get_or}
use Rattle.geo_base.specs.declared.shapes.Square.{Square}
use Rattle.rect_sets.specs.Rects.{covers}
use Rattle.flat_layout.specs.Layout.{InFlatInput}
use Rattle.cell_graph.specs.Linked.{plain}
use Rattle.layer_phase.specs.Looks.{HaveFlat}
use Rattle.layer_phase.proofs.Held.{inputs_more}
use Rattle.layer_phase.proofs.exposed.push_all_flat.Goals as goal

pub loop-rule-preserved : goal.loop-rule-preserved
loop-rule-preserved c =
    let d = c.args.design.now in let names = c.args.names.now in let i = c.loop-rule.rule-index in let rule = c.rule-item.result in
    let at : slice_get names i ≡ Some rule = slice_get-get_or names i rule c.loop-rule-test.true ∙ ap Some (sym c.rule-item.is) in
    let e = c.in_ok-push_flat.ensures in
    record {
      rects = e.rects;
      held = e.held;
      flat = inputs_more names i rule (λ name key. (s : Square) → covers c.args.places.now s ≡ true → InFlatInput (plain d) c.args.cell key s → covers c.push_flat.new.out.items s ≡ true) at
          (λ name key lt is s h f. e.grows s (c.loop-rule.invariant.flat name key lt is s h f)) e.flat;
    }

pub returns-clause-flat : goal.returns-clause-flat
returns-clause-flat c =
    let end : c.loop-rule.rule-index ≡ length c.args.names.now = (let a = c.loop-rule-test.false in let b = c.loop-rule.auto.rule-index-end in omega arith) in
    subst (λ n. HaveFlat c.args.design.now c.args.names.now n c.args.cell c.args.places.now c.loop-rule.out.items) end c.loop-rule.invariant.flat
