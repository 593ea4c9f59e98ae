use Rattle.std.proofs.Common.{◌++◌, map, ap, ◌∙◌}
use Rattle.gds_elements.specs.Reading.{cell_seen, taken_cells}
use Rattle.gds_elements.proofs.FillableLaw.{last_fillable}
use Rattle.gds_elements.proofs.reader.Reader.take_cells.Goals as goal

pub returns-clause-fillable : goal.returns-clause-fillable
returns-clause-fillable c = λ rs h p.
    let taken = taken_cells c.args.self.now.taken.value in
    last_fillable rs taken (map cell_seen c.replace-cells.result.items) p (ap (λ v. taken ++ map cell_seen v.items) c.replace-cells.ensures.value ∙ h.cells)
