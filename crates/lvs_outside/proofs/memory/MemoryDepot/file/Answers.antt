use Rattle.std.proofs.Common.{◌<◌, length, arith, ap, sym, ◌∙◌}
use Rattle.lvs_outside.specs.Store.{Holds}
use Rattle.lvs_outside.specs.declared.entries.Entry.{Entry}
use Rattle.lvs_outside.proofs.FirstEntry.{found, in_range}
use Rattle.lvs_outside.proofs.memory.MemoryDepot.file.Goals as goal

pub index-requires : goal.index-requires
index-requires c =
    let lt : c.in_ok-number.number < length c.as_slice.result.now = in_range c.as_slice.result.now c.args.path.now c.in_ok-number.number c.in_ok-number.ensures in
    omega arith

pub returns : goal.returns
returns c =
    let there = found c.as_slice.result.now c.args.path.now c.in_ok-number.number c.index.result.now c.in_ok-number.ensures in
    let is_told = rw c.as_slice.ensures.value at there.0 in
    is_told ∙ ap (λ (e : Entry). Holds e.bytes.items) (sym c.index.ensures) ∙ ap Holds (sym c.as_slice-2.ensures.value)
