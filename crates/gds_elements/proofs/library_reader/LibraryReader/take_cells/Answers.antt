use Rattle.std.proofs.Common.{arith}
use Rattle.gds_elements.specs.Token.{bytes_of}
use Rattle.gds_elements.proofs.library_reader.LibraryReader.take_cells.Goals as goal

pub invariant_of-self : goal.invariant_of-self
invariant_of-self c =
    let told = c.take_cells.ensures in
    let was = c.self.invariant in
    record {
      reading = told.reading (bytes_of c.self.inside.fed.value) was.reading;
      count = omega (arith, told.count, told.offset, was.count);
      room = omega (arith, told.offset, told.held, was.room);
    }

pub returns-clause-fillable : goal.returns-clause-fillable
returns-clause-fillable c = c.take_cells.ensures.fillable (bytes_of c.self.inside.fed.value) c.self.invariant.reading
