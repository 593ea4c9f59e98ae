use Rattle.std.proofs.Common.{◌++◌, ◌∙◌, List, map, ap}
use Rattle.deep_tables.specs.Nets.{plain_item}
use Rattle.deep_tables.specs.declared.nets.Item.{Item as Code}
use Rattle.flat_layout.specs.Nets.{Global as GlobalItem, Item, child_items, own_items, run}
use Rattle.net_link_laws.specs.Places.{places_of}
use Rattle.net_phase.proofs.items.list_items.Goals as goal
use Rattle.net_walk.proofs.Placing.{behind_both}

pub returns : goal.returns
returns g c =
    let d = g.C.Cells.design c.args.cells.now in
    let w = g.C.Cells.wiring c.args.cells.now in
    let t = g.C.Cells.tables c.args.cells.now in
    let cell = c.args.cell in
    let owned = own_items t cell 0 w.conductors in
    let children = child_items t 0 (places_of d cell) in
    let first = c.in_ok-push_rects.ensures ∙ ap (λ (l : List Code). map plain_item l ++ owned) c.in_ok-out.ensures.items in
    c.in_ok-push_globals.ensures
    ∙ ap (λ (l : List Item). l ++ run GlobalItem 0 c.args.globals) (c.in_ok-push_placed.ensures ∙ ap (λ (l : List Item). l ++ children) first)
    ∙ behind_both owned children (run GlobalItem 0 c.args.globals)
    ∙ ap (λ n. owned ++ (children ++ run GlobalItem 0 n)) c.requires.globals
