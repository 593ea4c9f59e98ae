use Rattle.std.proofs.Common.{get_or, subst, sym}
use Rattle.flat_layout.specs.Layers.{Empty, inputs}
use Rattle.deep_tables.specs.Frames.{IsFramedOpen}
use Rattle.zone_phase.proofs.unions.with_name.Goals as goal

pub returns : goal.returns
returns c = λ n d cell trees ys h g.
    c.in_ok-set.ensures n d (inputs (get_or trees c.args.name Empty)) ys cell
    (subst (IsFramedOpen n d (inputs (get_or trees c.args.name Empty)) cell) (sym c.set_at.ensures) (h c.args.name)) g
