use Rattle.std.proofs.Common.{[]}
use Rattle.gds_elements.proofs.Unique.{only_library, only_fault}
use Rattle.gds_elements.proofs.reading.read_library.Goals as goal

pub returns-clause-only : goal.returns-clause-only
returns-clause-only c = λ v h. only_library c.args.bytes.now v c.read.result c.read.ensures.found c.read.ensures.fault h

pub returns-clause-only_fault : goal.returns-clause-only_fault
returns-clause-only_fault c = λ n i o h. only_fault c.args.bytes.now [] n i o c.read.result c.read.ensures.found c.read.ensures.fault h
