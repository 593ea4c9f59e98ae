use Rattle.std.proofs.Common.{List, subst, sym}
use Rattle.geo_base.specs.declared.layer.LayerKey.{LayerKey}
use Rattle.deep_tables.specs.Frames.{IsFramedOpen}
use Rattle.zone_phase.proofs.Naming.{split_first}
use Rattle.zone_phase.proofs.devices.+names_zone.Goals as goal

pub returns : goal.returns
returns g c = λ n d cell trees h.
    subst (λ (keys : List LayerKey). IsFramedOpen n d keys cell c.in_ok-all.all) (sym (split_first trees c.args.names.now c.in-len1-up.len_at_least))
    (c.in_ok-all.ensures n d cell trees _ h (c.in_ok-others.ensures n d cell trees h))
