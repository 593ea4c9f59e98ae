use Rattle.shapes_file.proofs.OneFile.{no_file, one_file, one_wide}
use Rattle.shapes_file.proofs.one.one_file.Goals as goal

pub returns : goal.returns
returns c = record {
  file = one_file c.one_list.ensures;
  wide = one_wide c.one_list.ensures;
  none = no_file c.one_list.ensures;
}
