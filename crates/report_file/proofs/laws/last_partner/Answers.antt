use Rattle.report_file.proofs.TopPartner as lemma
use Rattle.report_file.proofs.laws.last_partner.Goals as goal

pub returns : goal.returns
returns c = λ d r layout top bad schematic text pairs v sound apart fine also first x b p.
    lemma.last_partner c.pairs.ensures.one_partner c.pairs.ensures.sides c.pairs.ensures.order c.alone_lines.ensures.alone c.alone_lines.ensures.apart c.alone_lines.ensures.longest r layout top schematic sound fine also first b p apart x.same x.compared x.lines x.turns
