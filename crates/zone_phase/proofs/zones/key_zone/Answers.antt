use Rattle.std.proofs.Common.{◌∙◌, sym}
use Rattle.zone_phase.proofs.zones.key_zone.Goals as goal

pub hull_zone-requires-clause-neighbours : goal.hull_zone-requires-clause-neighbours
hull_zone-requires-clause-neighbours g c = (c.requires.neighbours c.in-Some.hull (sym c.hull.ensures ∙ c.in-Some.is)).0

pub hull_zone-requires-clause-all : goal.hull_zone-requires-clause-all
hull_zone-requires-clause-all g c = (c.requires.neighbours c.in-Some.hull (sym c.hull.ensures ∙ c.in-Some.is)).1
