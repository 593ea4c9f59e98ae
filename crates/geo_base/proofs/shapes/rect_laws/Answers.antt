use Rattle.geo_base.proofs.Meeting as lemma
use Rattle.geo_base.proofs.shapes.rect_laws.Goals as goal

pub returns : goal.returns
returns c = lemma.rect_laws
