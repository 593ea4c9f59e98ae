use Rattle.std.proofs.Common.{refl, sym, subst}
use Rattle.std.specs.Option.{IsSome}
use Rattle.gate_phase.proofs.Closing.{open_told}
use Rattle.gate_phase.proofs.Ready.{open_here}
use Rattle.gate_phase.proofs.Results.{if_ok}
use Rattle.gate_phase.proofs.close.is_undisturbed.Goals as goal

pub indexed-zone-requires : goal.indexed-zone-requires
indexed-zone-requires c = subst IsSome (sym (open_here c.args.at.now c.sound.ensures c.requires.ready).1) refl

pub returns : goal.returns
returns c =
    if_ok _ _ c.misses.result (λ b told. open_told c.args.at.now.reach c.args.at.now.site.zones.now c.args.at.now.site.cell c.args.at.now.number c.args.close.now c.indexed-zone.result.now b c.indexed-zone.ensures told) c.misses.ensures
