use Rattle.std.proofs.Common.{◌≡◌, true, ◌∙◌}
use Rattle.lvs_outside.specs.Entries.{is_file_of}
use Rattle.lvs_outside.specs.Token.{bytes_of}
use Rattle.lvs_outside.proofs.FirstEntry.{starts_read}
use Rattle.lvs_outside.proofs.memory.MemoryDepotDepot.open_read.Goals as goal

pub invariant_of-self-in-Some : goal.invariant_of-self-in-Some
invariant_of-self-in-Some c =
    let first : is_file_of c.args.self.now.files.items c.args.path.now c.in-Some.number ≡ true = rw c.as_slice.ensures.value at c.in-Some.ensures in
    let path : bytes_of c.bytes_token.result.value ≡ c.args.path.now = c.bytes_token.ensures ∙ c.as_bytes.ensures.value in
    record { in_place = starts_read c.args.self.now.files.items c.args.path.now _ c.in-Some.number path first }
