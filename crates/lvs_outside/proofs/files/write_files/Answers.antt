use Rattle.std.proofs.Common.{sym, ◌∙◌}
use Rattle.lvs_outside.proofs.Writing.{one_more, one_failed}
use Rattle.lvs_outside.proofs.files.write_files.Goals as goal

pub files-preserved : goal.files-preserved
files-preserved g c =
    one_more _ _ _ c.files.rest.now c.file-item.result _ c.as_str.result.now c.as_slice.result.now c.write_file.result c.in-len1-up.len_at_least c.file-item.is
    c.as_str.ensures.value c.as_slice.ensures.value c.requires.apart c.files.invariant c.write_file.ensures (sym c.is_err.ensures.value ∙ c.if-is_err.false)

pub returns-then-is_err : goal.returns-then-is_err
returns-then-is_err g c = record {
  ok = tt;
  err = one_failed _ _ _ c.files.rest.now c.file-item.result _ c.as_str.result.now c.as_slice.result.now c.write_file.result c.in-len1-up.len_at_least c.file-item.is
      c.as_str.ensures.value c.as_slice.ensures.value c.requires.apart c.files.invariant c.write_file.ensures (sym c.is_err.ensures.value ∙ c.if-is_err.true);
}
