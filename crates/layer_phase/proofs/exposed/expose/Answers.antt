use Rattle.layer_phase.specs.declared.exposed.Exposed.{Exposed}
use Rattle.layer_phase.proofs.Exposing.{kept_at, kept_lists}
use Rattle.layer_phase.proofs.exposed.expose.Goals as goal

pub returns-in_ok-last-in-None-clause-lists : goal.returns-in_ok-last-in-None-clause-lists
returns-in_ok-last-in-None-clause-lists c =
    let last : Exposed = record { cell = c.args.cell; set = c.in_ok-set-in-None.set } in
    kept_lists c.args.view.now.reach c.args.view.now.design.now c.args.view.now.zones.now c.args.view.now.names.now c.args.memo.now.lists.items c.keep.new.memo.lists.items last c.in_ok-last-in-None.ensures.lists c.requires.lists
    c.in_ok-set-in-None.ensures.exposed c.in_ok-set-in-None.ensures.near

pub returns-in_ok-last-in-None-clause-at : goal.returns-in_ok-last-in-None-clause-at
returns-in_ok-last-in-None-clause-at c =
    let last : Exposed = record { cell = c.args.cell; set = c.in_ok-set-in-None.set } in
    kept_at c.args.memo.now.lists.items c.keep.new.memo.lists.items last c.in_ok-last-in-None.last c.in_ok-last-in-None.ensures.lists c.in_ok-last-in-None.ensures.at
