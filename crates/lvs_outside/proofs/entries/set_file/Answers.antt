use Rattle.std.proofs.Common.{arith, ◌≡◌, ◌<◌, true, length, ap, string_bytes}
use Rattle.lvs_outside.specs.Entries.{is_file_of, told}
use Rattle.lvs_outside.specs.Store.{NoFile}
use Rattle.lvs_outside.proofs.FirstEntry.{in_range, is_set_there, is_set_new}
use Rattle.lvs_outside.specs.declared.entries.Entry.{Entry}
use Rattle.lvs_outside.proofs.entries.set_file.Goals as goal

pub index_mut-requires : goal.index_mut-requires
index_mut-requires c =
    let lt : c.in-Some.number < length c.as_slice.result.now = in_range c.as_slice.result.now c.args.path.now c.in-Some.number c.in-Some.ensures in
    omega arith

pub returns-in-Some-clause-ok : goal.returns-in-Some-clause-ok
returns-in-Some-clause-ok c =
    let first : is_file_of c.args.files.now.items c.args.path.now c.in-Some.number ≡ true = rw c.as_slice.ensures.value at c.in-Some.ensures in
    is_set_there c.args.files.now.items c.args.path.now c.in-Some.number _ c.index_mut.result.now first (ap (λ (e : Entry). string_bytes e.path) c.index_mut.ensures.value)

pub returns-in_ok-push-in-None-clause-ok : goal.returns-in_ok-push-in-None-clause-ok
returns-in_ok-push-in-None-clause-ok c =
    let none : told c.args.files.now.items c.args.path.now ≡ NoFile = rw c.as_slice.ensures.value at c.in-None.ensures in
    rw (c.in_ok-push-in-None.ensures.items, c.len-number.ensures, c.args.files.now.ok.0) (is_set_new c.args.files.now.items c.args.path.now _ none c.in_ok-path-in-None.ensures.ok)
