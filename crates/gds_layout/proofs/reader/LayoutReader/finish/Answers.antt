use Rattle.cell_graph.specs.Tops.{now_of}
use Rattle.gds_layout.proofs.LinkLemmas.{only_stream, past_stream}
use Rattle.gds_layout.proofs.reader.LayoutReader.finish.Goals as goal

pub returns-clause-stream : goal.returns-clause-stream
returns-clause-stream c = only_stream c.args.self.fed (now_of c.args.top) c.answer.result c.answer.ensures.layout c.answer.ensures.fault

pub returns-clause-past : goal.returns-clause-past
returns-clause-past c = past_stream c.args.self.fed (now_of c.args.top) c.answer.result c.answer.ensures.fault
