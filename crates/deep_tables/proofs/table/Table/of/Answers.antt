use Rattle.deep_tables.proofs.Finding.{job_in}
use Rattle.deep_tables.proofs.table.Table.of.Goals as goal

pub get-requires : goal.get-requires
get-requires g c = job_in c.self.inside.results c.self.inside.jobs.items c.args.self.now c.args.cell _ c.self.view_is c.requires c.index.ensures
