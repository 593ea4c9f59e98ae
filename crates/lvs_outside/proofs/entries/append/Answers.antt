use Rattle.std.proofs.Common.{ap, ◌∙◌, ◌++◌, string_bytes, is_ok, if◌then◌else◌}
use Rattle.lvs_outside.proofs.FirstEntry.{first-set, appends, keeps}
use Rattle.lvs_outside.specs.declared.entries.Entry.{Entry}
use Rattle.lvs_outside.proofs.entries.append.Goals as goal

pub returns-clause-first : goal.returns-clause-first
returns-clause-first c = first-set c.args.files.now.items c.args.number _ c.index_mut.result.now (ap (λ (e : Entry). string_bytes e.path) c.index_mut.ensures.value)

pub returns-clause-ok : goal.returns-clause-ok
returns-clause-ok c p h =
    let result = c.extend_from_slice.result in
    let held = c.extend_from_slice.ensures.items ∙ ap (λ (e : Entry). if is_ok result then e.bytes.items ++ c.args.piece.now else e.bytes.items) c.index_mut.ensures.value in
    appends c.args.files.now.items p c.args.number _ c.index_mut.result.now c.args.piece.now result h (ap (λ (e : Entry). string_bytes e.path) c.index_mut.ensures.value) held

pub returns-clause-err : goal.returns-clause-err
returns-clause-err c =
    let result = c.extend_from_slice.result in
    let held = c.extend_from_slice.ensures.items ∙ ap (λ (e : Entry). if is_ok result then e.bytes.items ++ c.args.piece.now else e.bytes.items) c.index_mut.ensures.value in
    keeps c.args.files.now.items c.args.number _ c.index_mut.result.now c.args.piece.now result (ap (λ (e : Entry). string_bytes e.path) c.index_mut.ensures.value) held
