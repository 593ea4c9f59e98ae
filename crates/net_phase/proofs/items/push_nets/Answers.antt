use Rattle.std.proofs.Common.{◌∙◌, List, map, ap}
use Rattle.std.proofs.lemmas.List.{map_push}
use Rattle.deep_tables.specs.Nets.{plain_item}
use Rattle.deep_tables.specs.declared.nets.Item.{Item}
use Rattle.deep_tables.specs.declared.nets.Item.TheVariants as code
use Rattle.flat_layout.specs.Nets.{Child}
use Rattle.net_phase.proofs.Itemizing.{run_more}
use Rattle.net_phase.proofs.items.push_nets.Goals as goal
use Rattle.net_walk.proofs.Placing.{nothing_behind}

pub loop-net-init : goal.loop-net-init
loop-net-init c = nothing_behind (map plain_item c.args.out.now.items)

pub loop-net-preserved : goal.loop-net-preserved
loop-net-preserved c =
    ap (λ (l : List Item). map plain_item l) c.in_ok-push.ensures.items ∙ map_push plain_item c.loop-net.out.items (code.Child c.args.place c.loop-net.net)
    ∙ run_more (Child c.args.place) c.loop-net.net (map plain_item c.args.out.now.items) (map plain_item c.loop-net.out.items) c.loop-net.invariant
