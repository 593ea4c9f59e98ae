use Rattle.std.proofs.Common.{subst, ◌↔◌, List, arith}
use Rattle.link_classes.specs.declared.classes.Link.{Link}
use Rattle.net_walk.proofs.Contacting.{window_contacts}
use Rattle.net_walk.proofs.Results.{if_ok}
use Rattle.net_walk.proofs.Walking.{near_close}
use Rattle.net_walk.proofs.contacts.window_contacts.Goals as goal
use Rattle.net_walk.specs.Contacts.{IsAcross, IsFromTo}
use Rattle.net_walk.specs.Walk.{place_of}

pub pair_links-requires-clause-one : goal.pair_links-requires-clause-one
pair_links-requires-clause-one g c = let count = c.count-count.ensures in let sum = c.in_ok-more.ensures.sum in record { nets = c.requires.nets; motion = near_close c.args.one.now.motion c.requires.close; room = omega (arith, count, sum) }

pub pair_links-requires-clause-other : goal.pair_links-requires-clause-other
pair_links-requires-clause-other g c = record { nets = c.requires.nets_too; motion = near_close c.args.other.now.motion c.requires.close_too; room = (let sum = c.in_ok-more.ensures.sum in omega (arith, sum)) }

pub returns : goal.returns
returns g c =
    if_ok _ _ c.across.result (λ v all.
    window_contacts (g.C.Cells.design c.args.cells.now) (g.C.Cells.wiring c.args.cells.now) (g.C.Cells.tables c.args.cells.now) (place_of c.args.one.now) (place_of c.args.other.now) c.requires.nets c.requires.nets_too c.args.window.now c.args.joins.now c.count-count.result
    c.in_ok-links.links.items v.items c.requires.window.enough c.requires.joins c.count-count.ensures c.in_ok-links.ensures
    (λ x y. subst (λ (l : List Link). IsFromTo v.items x y ↔ IsAcross l c.count-count.result x y) c.deref.ensures.value (all x y))) c.across.ensures
