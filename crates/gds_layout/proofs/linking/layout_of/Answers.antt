use Rattle.std.proofs.Common.{◌++◌, map, refl}
use Rattle.std.proofs.lemmas.Result.{err_from_is_err_and}
use Rattle.gds_elements.specs.Data.{unit_in}
use Rattle.gds_elements.specs.Fillable.{AreFillable}
use Rattle.gds_elements.specs.Reading.{cell_seen, library_after}
use Rattle.cell_graph.specs.Tops.{now_of}
use Rattle.gds_layout.proofs.Yielded.{last_of_all}
use Rattle.gds_layout.proofs.LinkLemmas.{keys_apart, arrays_some, unit_there, link_fault}
use Rattle.gds_layout.proofs.linking.layout_of.Goals as goal

pub add_all-requires : goal.add_all-requires
add_all-requires c =
    let rest = c.args.rest in
    last_of_all AreFillable c.requires.taken (map cell_seen rest.cells.items) (c.fillable.ensures (library_after c.requires.taken rest) c.requires.accepted)

pub link-requires-clause-keys : goal.link-requires-clause-keys
link-requires-clause-keys c =
    let cells = c.requires.taken ++ map cell_seen c.args.rest.cells.items in
    keys_apart cells c.add_all.new.self.cells.items (c.in_ok-add_all.ensures c.requires.taken c.requires.drawn).drafted

pub link-requires-clause-arrays : goal.link-requires-clause-arrays
link-requires-clause-arrays c =
    let cells = c.requires.taken ++ map cell_seen c.args.rest.cells.items in
    arrays_some cells c.add_all.new.self.cells.items (c.in_ok-add_all.ensures c.requires.taken c.requires.drawn).drafted (c.placeable.ensures (library_after c.requires.taken c.args.rest) c.requires.accepted)

pub returns-in_err-design-clause-fault : goal.returns-in_err-design-clause-fault
returns-in_err-design-clause-fault c =
    let p = err_from_is_err_and c.from_residual-in_err-design.result c.from_residual-in_err-design.ensures.1 in
    rw (p.1, p.2) (λ taken drawn accepted. link_fault (library_after taken c.args.rest) (now_of c.args.top) c.in_err-design.field-0.0 c.add_all.new.self.cells.items (c.in_ok-add_all.ensures taken drawn).drafted c.in_err-design.ensures.fault)

pub returns-clause-layout : goal.returns-clause-layout
returns-clause-layout c = λ taken drawn accepted.
    let done = c.in_ok-add_all.ensures taken drawn in
    record {
      header = record {
        version = refl;
        dates = refl;
        name = refl;
        units = refl;
        unit = unit_there c.unit_of.result c.unwrap_or-unit_pm.result (unit_in c.args.rest.units) c.unit_of.ensures (c.measured.ensures (library_after taken c.args.rest) accepted) c.unwrap_or-unit_pm.ensures;
      };
      cell_dates = done.dated;
      drafts = c.add_all.new.self.cells.items;
      drafted = done.drafted;
      linked = c.in_ok-design.ensures.design;
    }
