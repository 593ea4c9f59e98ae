use Rattle.std.proofs.Common.{◌∙◌, List, map, ap, sym, subst}
use Rattle.cell_graph.specs.Linked.{plain}
use Rattle.deep_tables.specs.Nets.{plain_item}
use Rattle.deep_tables.specs.declared.nets.Item.TheVariants.{Global}
use Rattle.flat_layout.specs.Nets as flat
use Rattle.net_phase.proofs.Firsts.{IsCut, cut_of_map, cut_parts, items_cut, one_cut}
use Rattle.net_phase.proofs.below.BelowCells.first_place.Goals as goal
use Rattle.net_phase.specs.Below.{BelowSeen, tables_seen, wiring_seen}
use Rattle.net_phase.specs.Items.{is_before, stands_before}
use Rattle.net_walk.specs.Pairs.{first_of}

pub first_net-requires : goal.first_net-requires
first_net-requires c =
    let v = c.args.self.now in let place = c.args.number in let cell = c.args.cell in
    let items = c.items_at.result.now in
    let seen = ap (λ (z : BelowSeen). ((tables_seen z).nets cell).items) c.self.view_is in
    let same = c.items_at.ensures ∙ seen ∙ c.requires.nets.items in
    let cut : IsCut (is_before place) (map plain_item items) (first_of (plain v.design) (wiring_seen v) (tables_seen v) cell place) =
    subst (λ (l : List flat.Item). IsCut (is_before place) l (first_of (plain v.design) (wiring_seen v) (tables_seen v) cell place)) (sym same) (items_cut (plain v.design) (wiring_seen v) (tables_seen v) cell place) in
    cut_parts (stands_before place) items (first_of (plain v.design) (wiring_seen v) (tables_seen v) cell place) (cut_of_map plain_item (is_before place) items (first_of (plain v.design) (wiring_seen v) (tables_seen v) cell place) cut)

pub returns : goal.returns
returns c =
    let v = c.args.self.now in let place = c.args.number in let cell = c.args.cell in
    let items = c.items_at.result.now in
    let seen = ap (λ (z : BelowSeen). ((tables_seen z).nets cell).items) c.self.view_is in
    let same = c.items_at.ensures ∙ seen ∙ c.requires.nets.items in
    let cut : IsCut (is_before place) (map plain_item items) (first_of (plain v.design) (wiring_seen v) (tables_seen v) cell place) =
    subst (λ (l : List flat.Item). IsCut (is_before place) l (first_of (plain v.design) (wiring_seen v) (tables_seen v) cell place)) (sym same) (items_cut (plain v.design) (wiring_seen v) (tables_seen v) cell place) in
    let found : IsCut (stands_before place) items (first_of (plain v.design) (wiring_seen v) (tables_seen v) cell place) = cut_of_map plain_item (is_before place) items (first_of (plain v.design) (wiring_seen v) (tables_seen v) cell place) cut in
    one_cut (stands_before place) items (first_of (plain v.design) (wiring_seen v) (tables_seen v) cell place) c.first_net.result (Global 0) found c.first_net.ensures.bound c.first_net.ensures.point
