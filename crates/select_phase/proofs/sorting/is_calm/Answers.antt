use Rattle.select_phase.proofs.Readiness.{calm_told, zone_there}
use Rattle.select_phase.proofs.sorting.is_calm.Goals as goal

pub indexed-zone-requires : goal.indexed-zone-requires
indexed-zone-requires c = zone_there c.args.site.now c.args.selection.now c.sound.ensures c.requires.ready

pub returns : goal.returns
returns c =
    calm_told c.args.site.now c.args.selection.now c.sound.ensures c.requires.ready c.args.part.now c.args.close.now c.indexed-zone.result.now c.reach-reach.result c.in_ok-apart.apart c.requires.held c.requires.close c.indexed-zone.ensures c.reach-reach.ensures
    c.in_ok-apart.ensures
