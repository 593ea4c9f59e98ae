use Rattle.std.proofs.Common.{map, string_bytes}
use Rattle.lvs_words.specs.Commands.{said_of}
use Rattle.lvs_run.proofs.Stated.{fair}
use Rattle.lvs_run.proofs.words.read_work.Goals as goal

pub work_of-requires : goal.work_of-requires
work_of-requires c = fair (map string_bytes c.args.words.now) (said_of c.in_ok-stated.stated) c.in_ok-stated.ensures.found
