use Rattle.netlist_file.proofs.GivenLemmas.{formed, writable}
use Rattle.netlist_file.proofs.laws.extracted_text.Goals as goal

pub returns : goal.returns
returns c = record {
  formed = formed;
  writable = writable;
  means = λ d w t g nl rules unit level text right classed spelled sound h.
      c.written_laws.ensures.written nl text sound (c.sound_netlist.ensures.good d w t g nl rules unit level right).1
      (writable d w t g nl rules unit level right classed spelled) h;
}
