use Rattle.std.proofs.Common.{◌∙◌, List, map, ap}
use Rattle.std.proofs.lemmas.List.{map_push}
use Rattle.deep_tables.specs.Nets.{plain_item}
use Rattle.deep_tables.specs.declared.nets.Item.{Item}
use Rattle.deep_tables.specs.declared.nets.Item.TheVariants as code
use Rattle.flat_layout.specs.Nets.{Global as GlobalItem}
use Rattle.net_phase.proofs.Itemizing.{run_more}
use Rattle.net_phase.proofs.items.push_globals.Goals as goal
use Rattle.net_walk.proofs.Placing.{nothing_behind}

pub loop-global-init : goal.loop-global-init
loop-global-init c = nothing_behind (map plain_item c.args.out.now.items)

pub loop-global-preserved : goal.loop-global-preserved
loop-global-preserved c =
    ap (λ (l : List Item). map plain_item l) c.in_ok-push.ensures.items ∙ map_push plain_item c.loop-global.out.items (code.Global c.loop-global.global)
    ∙ run_more GlobalItem c.loop-global.global (map plain_item c.args.out.now.items) (map plain_item c.loop-global.out.items) c.loop-global.invariant
