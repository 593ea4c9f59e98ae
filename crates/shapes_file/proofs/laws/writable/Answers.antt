use Rattle.shapes_file.proofs.ReadBack.{read_back}
use Rattle.shapes_file.proofs.laws.writable.Goals as goal

pub returns : goal.returns
returns c = read_back c.read_again.ensures.heading c.read_again.ensures.references c.library_read.ensures
