use Rattle.std.proofs.Common.{◌∙◌, List, map, ap}
use Rattle.std.proofs.lemmas.List.{map_push}
use Rattle.deep_tables.specs.Nets.{plain_item}
use Rattle.deep_tables.specs.declared.nets.Item.{Item}
use Rattle.deep_tables.specs.declared.nets.Item.TheVariants as code
use Rattle.flat_layout.specs.Nets.{Own}
use Rattle.net_phase.proofs.Itemizing.{run_more}
use Rattle.net_phase.proofs.items.push_own.Goals as goal
use Rattle.net_walk.proofs.Placing.{nothing_behind}

pub loop-rect-init : goal.loop-rect-init
loop-rect-init c = nothing_behind (map plain_item c.args.out.now.items)

pub loop-rect-preserved : goal.loop-rect-preserved
loop-rect-preserved c =
    ap (λ (l : List Item). map plain_item l) c.in_ok-push.ensures.items ∙ map_push plain_item c.loop-rect.out.items (code.Own c.args.conductor c.loop-rect.rect)
    ∙ run_more (Own c.args.conductor) c.loop-rect.rect (map plain_item c.args.out.now.items) (map plain_item c.loop-rect.out.items) c.loop-rect.invariant
