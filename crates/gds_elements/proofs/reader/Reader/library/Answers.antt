use Rattle.std.proofs.Common.{refl}
use Rattle.gds_elements.proofs.reader.Reader.library.Goals as goal

pub returns : goal.returns
returns c = λ rs h. rw (h.header.version, h.header.dates, h.header.name, h.header.units, h.cells) refl
