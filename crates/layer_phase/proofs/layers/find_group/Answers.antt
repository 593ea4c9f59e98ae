use Rattle.std.proofs.Common.{◌≡◌, ◌<◌, ◌≤◌, ◌+◌, ◌^◌, ◌∙◌, Bool, true, false, [], List, ap, sym, subst, arith, length, get_or}
use Rattle.std.proofs.lemmas.Option.{get_or_from_slice_get, slice_get-get_or}
use Rattle.geo_base.specs.declared.shapes.Rect.{Rect}
use Rattle.rect_sets.specs.Rects.{covers}
use Rattle.sized_layers.specs.Sizes.{IsSetWithin}
use Rattle.cell_graph.proofs.Bridge.{reference_at}
use Rattle.flat_laws.proofs.Moves.{within_same}
use Rattle.flat_layout.specs.Layers.{Empty, reach}
use Rattle.rule_layers.specs.Formulas.{formulas}
use Rattle.rule_text.specs.Seen.{rules_seen}
use Rattle.rule_text.specs.declared.rules.LayerRule.{LayerRule}
use Rattle.layer_phase.specs.Looks.{AreLooks, IsInput}
use Rattle.layer_phase.specs.Names.{AreFlats, IsFlatIn}
use Rattle.layer_phase.proofs.Around.{near_covered, wider_set}
use Rattle.layer_phase.proofs.Grouping.{group_near, tree_count}
use Rattle.layer_phase.proofs.Held.{rects_within}
use Rattle.layer_phase.proofs.Seeing.{input_too, marked_entry, member_marked, seen_near, there_too}
use Rattle.layer_phase.proofs.Telling.{entries}
use Rattle.layer_phase.proofs.layers.find_group.Goals as goal

pub looks-requires-clause-marked : goal.looks-requires-clause-marked
looks-requires-clause-marked c = λ name lt mark.
    let marks = subst (λ (l : List Bool). (name < length l) × (get_or l name false ≡ true)) c.deref-2.ensures.value (lt, mark) in
    marked_entry c.args.work.now.design.now (rules_seen c.args.work.now.rules.now) c.args.work.now.zones.now c.args.work.now.cell c.args.group.now name c.requires.work.ready c.requires.group marks.0 marks.1

pub looks-requires-clause-view : goal.looks-requires-clause-view
looks-requires-clause-view c =
    let same = ap length c.deref.ensures.value in let count = c.requires.group.seen.count in let few = c.requires.work.ready.few in
    record {
      few = omega (arith, same, count, few);
      count = ap length c.deref-2.ensures.value ∙ c.requires.group.count ∙ sym count ∙ sym same;
      most = group_near (rules_seen c.args.work.now.rules.now) c.args.group.now c.requires.work.ready.rules c.requires.group;
    }

pub looks-requires-clause-entries : goal.looks-requires-clause-entries
looks-requires-clause-entries c = λ i p at name lt.
    let names = c.args.work.now.rules.now.names.items in
    let trees = tree_count names in
    let count = c.requires.group.seen.count in
    let same = ap length c.deref.ensures.value in
    let within : name < length (formulas names) = omega (arith, trees, count, same, lt) in
    let from = (reference_at c.args.work.now.design.now c.args.work.now.cell i p c.sound.ensures at).2 in
    let ready = c.requires.work.ready in
    entries c.args.work.now.design.now (rules_seen c.args.work.now.rules.now) c.args.work.now.zones.now _ c.args.work.now.cell name ready.zones ready.reached (slice_get-get_or (formulas names) name Empty within) i 0 0 p
    (record { there = at; row_in = from.rows; column_in = from.columns })

pub around-requires-clause-within : goal.around-requires-clause-within
around-requires-clause-within c = wider_set (2 ^ 37) (2 ^ 39) c.in_ok-set.set (omega arith) c.in_ok-set.ensures.within

pub around-requires-clause-by : goal.around-requires-clause-by
around-requires-clause-by c = group_near (rules_seen c.args.work.now.rules.now) c.args.group.now c.requires.work.ready.rules c.requires.group

pub name_flats-requires-clause-within : goal.name_flats-requires-clause-within
name_flats-requires-clause-within c =
    let far = group_near (rules_seen c.args.work.now.rules.now) c.args.group.now c.requires.work.ready.rules c.requires.group in
    subst (IsSetWithin (2 ^ 38)) (sym c.set-there.ensures) (wider_set ((2 ^ 37) + c.args.group.now.reach) (2 ^ 38) c.in_ok-wide.wide (omega (arith, far)) (c.in_ok-wide.ensures.range (2 ^ 37) c.in_ok-set.ensures.within))

pub name_flats-requires-clause-near : goal.name_flats-requires-clause-near
name_flats-requires-clause-near c =
    let far = group_near (rules_seen c.args.work.now.rules.now) c.args.group.now c.requires.work.ready.rules c.requires.group in
    rects_within (2 ^ 39) c.set-there.result.now c.rects-rects.ensures.sound
    (subst (IsSetWithin (2 ^ 39)) (sym c.set-there.ensures) (wider_set ((2 ^ 37) + c.args.group.now.reach) (2 ^ 39) c.in_ok-wide.wide (omega (arith, far)) (c.in_ok-wide.ensures.range (2 ^ 37) c.in_ok-set.ensures.within)))

pub name_flats-requires-clause-reach : goal.name_flats-requires-clause-reach
name_flats-requires-clause-reach c = λ k.
    subst (λ (l : List LayerRule). reach (get_or (formulas l) k Empty) ≤ 10000) (sym c.deref-3.ensures.value) (seen_near (rules_seen c.args.work.now.rules.now) c.args.group.now k c.requires.work.ready.rules c.requires.group)

pub name_flats-requires-clause-own : goal.name_flats-requires-clause-own
name_flats-requires-clause-own c = λ name key is q e.
    let far = c.args.group.now.reach in
    let seen = subst (λ (l : List LayerRule). IsInput l name key) (c.deref-3.ensures.value ∙ sym c.deref.ensures.value) is in
    ap (λ (l : List Rect). covers l q) c.set-there.ensures ∙ c.in_ok-wide.ensures.squares q ∙ near_covered far c.in_ok-set.set q q (c.in_ok-set.ensures.own name key seen q q e (within_same far q)) (within_same far q)

pub fill_group-requires-clause-looks : goal.fill_group-requires-clause-looks
fill_group-requires-clause-looks c = λ k.
    let names = c.args.work.now.rules.now.names.items in let g = c.args.group.now in
    record {
      seen = g.names.items;
      tree = λ x is far at. there_too names g k x c.requires.group is far at;
      inputs = λ j key is. input_too names g j key c.requires.group is;
      marks = g.members.items;
      marked = λ x is far at. member_marked names g k x c.requires.group is far at;
      all = subst (λ (m : List Bool). AreLooks g.reach c.args.work.now.design.now c.args.work.now.zones.now g.names.items m c.args.work.now.cell c.in_ok-set.set) c.deref-2.ensures.value
          (subst (λ (l : List LayerRule). AreLooks g.reach c.args.work.now.design.now c.args.work.now.zones.now l c.deref-2.result.now c.args.work.now.cell c.in_ok-set.set) c.deref.ensures.value c.in_ok-set.ensures);
    }

pub fill_group-requires-clause-count : goal.fill_group-requires-clause-count
fill_group-requires-clause-count c =
    c.in_ok-flats.ensures.count ∙ ap length c.deref-3.ensures.value ∙ c.requires.group.seen.count ∙ sym (tree_count c.args.work.now.rules.now.names.items)

pub fill_group-requires-clause-flats : goal.fill_group-requires-clause-flats
fill_group-requires-clause-flats c = λ k x is far at.
    let g = c.args.group.now in let d = c.args.work.now.design.now in let cell = c.args.work.now.cell in
    let there = there_too c.args.work.now.rules.now.names.items g k x c.requires.group is far at in
    let flats : AreFlats d cell c.in_ok-wide.wide (formulas g.names.items) c.in_ok-flats.flats.items =
    subst (λ (l : List Rect). AreFlats d cell l (formulas g.names.items) c.in_ok-flats.flats.items) c.set-there.ensures
    (subst (λ (l : List LayerRule). AreFlats d cell c.set-there.result.now (formulas l) c.in_ok-flats.flats.items) c.deref-3.ensures.value c.in_ok-flats.ensures.flats) in (
      c.in_ok-wide.wide,
      c.in_ok-wide.ensures.squares,
      subst (λ y. IsFlatIn d cell c.in_ok-wide.wide y (get_or c.in_ok-flats.flats.items k [])) (get_or_from_slice_get (formulas g.names.items) k x Empty there) (flats k),
    )
