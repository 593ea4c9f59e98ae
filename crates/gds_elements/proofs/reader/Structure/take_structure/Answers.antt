use Rattle.gds_elements.proofs.reader.Structure.take_structure.Goals as goal

pub returns-in-5 : goal.returns-in-5
returns-in-5 c = λ before form h. rw c.in-5.is (c.new.ensures.begun before form c.args.body.now c.exactly.ensures)
