use Rattle.std.proofs.Common.{get_or, subst, sym}
use Rattle.flat_layout.specs.Layers.{Empty, inputs}
use Rattle.deep_tables.specs.Frames.{IsFramedOpen}
use Rattle.zone_phase.proofs.names.two_zones.Goals as goal

pub returns : goal.returns
returns c = λ n d cell trees h.
    c.in_ok-set.ensures n d cell trees (inputs (get_or trees c.args.b Empty)) h
    (subst (IsFramedOpen n d (inputs (get_or trees c.args.b Empty)) cell) (sym c.set_at.ensures) (h c.args.b))
