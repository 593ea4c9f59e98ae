use Rattle.std.proofs.Common.{◌<◌, length, arith}
use Rattle.lvs_outside.specs.Token.{bytes_of}
use Rattle.lvs_outside.proofs.FirstEntry.{first_written, in_range}
use Rattle.lvs_outside.proofs.memory.MemoryDepotDepot.write.Goals as goal

pub append-requires : goal.append-requires
append-requires c =
    let files = c.args.self.now.files in
    let path = bytes_of c.args.self.now.path.value in
    let lt : c.in-Writing.number < length files.items = in_range files.items path c.in-Writing.number (first_written files.items path c.args.self.now.place c.in-Writing.number c.in-Writing.is c.args.self.now.in_place) in
    let size = files.ok.0 in
    omega arith
