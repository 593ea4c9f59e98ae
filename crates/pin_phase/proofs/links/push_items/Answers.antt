use Rattle.std.proofs.Common.{◌≡◌, ◌<◌, ◌∙◌, ℕ, Bool, false, List, Some, get_or, length, slice_get, ap, sym, subst, arith}
use Rattle.std.proofs.lemmas.Option.{slice_get-get_or}
use Rattle.deep_tables.specs.declared.nets.Item.{Item}
use Rattle.pin_phase.specs.Links.{IsChildLink, lists_of}
use Rattle.pin_phase.specs.Sets.{Adds}
use Rattle.pin_phase.proofs.Added.{item_more, items_all}
use Rattle.pin_phase.proofs.links.push_items.Goals as goal

pub push_item-requires-clause-child : goal.push_item-requires-clause-child
push_item-requires-clause-child c = λ place net e.
    let items = c.args.nets.now.items.items in let i = c.loop-i.i in let item = c.index.result.now in
    let lt : i < length items = omega arith in
    let there : slice_get items i ≡ Some item = slice_get-get_or items i item lt ∙ ap (λ (x : Item). Some x) (sym c.index.ensures) in
    let r = c.requires.children i item there place net e in
    (r.0, r.1, subst (λ n. r.0.cell < n) (sym c.loop-i.invariant.count) r.2)

pub loop-i-preserved : goal.loop-i-preserved
loop-i-preserved c =
    let items = c.args.nets.now.items.items in let i = c.loop-i.i in let item = c.index.result.now in
    let busy : ℕ → Bool = λ x. get_or c.args.busy.now x false in
    let lt : i < length items = omega arith in
    item_more (IsChildLink c.args.job c.args.elements.now c.args.nets.now.net_of.items busy) items i item (lists_of c.args.lists.now.items) (lists_of c.loop-i.lists.items) (lists_of c.push_item.new.lists.items) lt c.index.ensures c.loop-i.invariant
    (subst (λ (l : List ℕ). Adds (IsChildLink c.args.job c.args.elements.now l busy i item) (lists_of c.loop-i.lists.items) (lists_of c.push_item.new.lists.items)) c.deref.ensures.value c.in_ok-push_item.ensures)

pub returns : goal.returns
returns c =
    items_all (IsChildLink c.args.job c.args.elements.now c.args.nets.now.net_of.items (λ x. get_or c.args.busy.now x false)) c.args.nets.now.items.items c.loop-i.i (lists_of c.args.lists.now.items) (lists_of c.loop-i.lists.items) (omega arith) c.loop-i.invariant
