use Rattle.std.proofs.Common.{rules, ◌≡◌, ◌∙◌, ◌<◌, ◌+◌, ◌^◌, ◌∷◌, [], ℕ, Some, ap, refl, sym, subst, arith, length, length-append, get_or, slice_get}
use Rattle.std.proofs.lemmas.Option.{get_or_from_slice_get, slice_get_within}
use Rattle.cell_graph.proofs.Finishes.{at_middle, one_yielded}
use Rattle.rule_layers.specs.Formulas.{formulas}
use Rattle.layer_phase.specs.Groups.{IsFlatAround}
use Rattle.layer_phase.proofs.Grouping.{finds_more, start, tree_count}
use Rattle.layer_phase.proofs.layers.fill_group.Goals as goal

pub overflow_cast-name : goal.overflow_cast-name
overflow_cast-name c =
    let had = c.loop-flat.invariant in
    let steps = (c.in-Some.ensures {u = tt}).steps.0 in
    let there = at_middle c.args.flats.items c.loop-flat.yielded c.next.new.self.rest.items c.loop-flat.flat-iterator.rest.items c.in-Some.flat had.0 steps in
    let lt : length c.loop-flat.yielded < length c.args.flats.items = slice_get_within c.args.flats.items (length c.loop-flat.yielded) c.in-Some.flat there in
    let trees = tree_count c.args.work.now.rules.now.names.items in let m = had.1 in let k = c.requires.count in
    let few = c.requires.work.ready.few in
    let small : c.loop-flat.name < 2 ^ 32 = omega (arith, trees, m, k, lt, few) in
    search (rules, arith)

pub fill_name-requires-clause-name : goal.fill_name-requires-clause-name
fill_name-requires-clause-name c =
    let had = c.loop-flat.invariant in
    let steps = (c.in-Some.ensures {u = tt}).steps.0 in
    let there = at_middle c.args.flats.items c.loop-flat.yielded c.next.new.self.rest.items c.loop-flat.flat-iterator.rest.items c.in-Some.flat had.0 steps in
    let lt : length c.loop-flat.yielded < length c.args.flats.items = slice_get_within c.args.flats.items (length c.loop-flat.yielded) c.in-Some.flat there in
    let m = had.1 in let k = c.requires.count in
    omega (arith, m, k, lt)

pub fill_name-requires-clause-flat : goal.fill_name-requires-clause-flat
fill_name-requires-clause-flat c = λ x derived far_is at.
    let had = c.loop-flat.invariant in
    let steps = (c.in-Some.ensures {u = tt}).steps.0 in
    let flats = c.args.flats.items in let flat = c.in-Some.flat in
    let there = at_middle flats c.loop-flat.yielded c.next.new.self.rest.items c.loop-flat.flat-iterator.rest.items flat had.0 steps in
    let item : get_or flats c.loop-flat.name [] ≡ flat = get_or_from_slice_get flats c.loop-flat.name flat [] (subst (λ n. slice_get flats n ≡ Some flat) (sym had.1) there) in
    subst (IsFlatAround c.args.group.now.reach c.args.work.now.design.now c.args.work.now.cell c.args.looks.now x) item (c.requires.flats c.loop-flat.name x derived far_is at)

pub loop-flat-init : goal.loop-flat-init
loop-flat-init c = (search rules, refl, start c.args.group.now.reach c.args.work.now.design.now c.args.work.now.cell (formulas c.args.work.now.rules.now.names.items) c.args.layers.now.items)

pub loop-flat-preserved : goal.loop-flat-preserved
loop-flat-preserved c =
    let had = c.loop-flat.invariant in
    let steps = (c.in-Some.ensures {u = tt}).steps.0 in
    let there = at_middle c.args.flats.items c.loop-flat.yielded c.next.new.self.rest.items c.loop-flat.flat-iterator.rest.items c.in-Some.flat had.0 steps in
    let m = had.1 in
    let names = c.args.work.now.rules.now.names.items in let name = c.loop-flat.name in let d = c.args.work.now.design.now in let far = c.args.group.now.reach in
    let flats = c.args.flats.items in let flat = c.in-Some.flat in let yielded = c.loop-flat.yielded in
    let e = c.in_ok-fill_name.ensures in (
      one_yielded flats yielded c.next.new.self.rest.items c.loop-flat.flat-iterator.rest.items flat had.0 steps,
      ap (λ (n : ℕ). n + 1) m ∙ sym (length-append yielded (flat ∷ [])),
      finds_more far d c.args.work.now.cell name names c.args.layers.now.items c.loop-flat.layers.items c.fill_name.new.layers.items had.2 e.count
          e.here e.none e.rest,
    )
