use Rattle.std.proofs.Common.{◌≡◌, ◌++◌, drop}
use Rattle.gds_elements.specs.Token.{bytes_of}
use Rattle.gds_elements.proofs.fed.add_bytes.Given as goal

abbrev pub invariant-loop-byte : goal.invariant-loop-byte
invariant-loop-byte l = bytes_of l.fed.value ++ drop l.byte-index l.piece ≡ bytes_of l.fn.fed.value ++ l.piece
