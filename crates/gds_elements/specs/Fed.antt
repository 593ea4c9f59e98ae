-- The fields of a reader in pieces.
use Rattle.std.specs.Prelude.{◌+◌, ◌≤◌, length, vec_len}
use Rattle.gds_elements.specs.FedSoFar.{FedSoFar}
use Rattle.gds_elements.specs.Pieces.{Fed}
use Rattle.gds_elements.specs.Reading.{taken_cells}
use Rattle.gds_elements.specs.Token.{bytes_of}
use Rattle.gds_elements.specs.declared.library_reader.LibraryReader.TheInside.{Inside}

-- the bytes fed, the fault and what was handed over, by the fields
abbrev pub fed_so_far : Inside → FedSoFar
fed_so_far r = record {
  fed = bytes_of r.fed.value;
  fault = r.pieces.fault;
  taken = taken_cells r.pieces.stream.kept.taken.value;
}

-- the pieces held are those of the bytes fed, and no longer than they
pub record IsReading (r : Inside) : Type 0 where
  pub reading : Fed (bytes_of r.fed.value) r.pieces
  pub count : r.pieces.stream.count ≤ r.pieces.stream.offset
  pub room : r.pieces.stream.offset + vec_len r.pieces.held ≤ length (bytes_of r.fed.value)
