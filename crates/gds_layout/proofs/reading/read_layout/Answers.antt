use Rattle.cell_graph.specs.Tops.{now_of}
use Rattle.gds_layout.proofs.LinkLemmas.{only_stream, past_stream}
use Rattle.gds_layout.proofs.reading.read_layout.Goals as goal

pub returns-clause-stream : goal.returns-clause-stream
returns-clause-stream c = only_stream c.args.bytes.now (now_of c.args.top) c.read.result c.read.ensures.layout c.read.ensures.fault

pub returns-clause-past : goal.returns-clause-past
returns-clause-past c = past_stream c.args.bytes.now (now_of c.args.top) c.read.result c.read.ensures.fault
