use Rattle.lvs_outside.proofs.WrittenFiles.{finished}
use Rattle.lvs_outside.proofs.loops.write_file.Goals as goal

pub returns : goal.returns
returns g c = finished _ _ _ _ _ _ c.finish_write.result c.in_ok-start_write.ensures c.in_ok-write_whole.ensures c.finish_write.ensures
