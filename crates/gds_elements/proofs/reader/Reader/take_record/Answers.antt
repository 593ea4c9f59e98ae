use Rattle.std.proofs.Common.{List, map, subst, sym, ap, ◌∙◌, ◌++◌, append_assoc}
use Rattle.gds_records.specs.Records.{◌▸◌}
use Rattle.gds_elements.specs.declared.reader.Header.{Header}
use Rattle.gds_elements.specs.declared.element.Element.{Element}
use Rattle.gds_elements.specs.Meaning as m
use Rattle.gds_elements.specs.Reading.{HoldsHeader, HoldsElement, cell_seen, rec, taken_cells}
use Rattle.gds_elements.proofs.Parts.{cells_still}
use Rattle.gds_elements.proofs.reader.Reader.take_record.Goals as goal

pub returns-then-kind-eq-ENDEL-clause-holds : goal.returns-then-kind-eq-ENDEL-clause-holds
returns-then-kind-eq-ENDEL-clause-holds c = λ before form h.
    let k = c.if-kind-eq-ENDEL.true in
    let body = c.args.body.now in
    let head = rw k at (c.in_ok-take_header.ensures before form h.header) in
    let said = c.in_ok-end_element.ensures in
    rw k record {
      header = subst (λ (x : Header). HoldsHeader (before ▸ rec 0x11 form body) x) (sym said.rest.0) head;
      structure = said.structure before form body h.element h.structure;
      element = said.element before form body;
      cells = ap (λ t. taken_cells t.value ++ map cell_seen c.end_element.new.self.cells.items) said.taken ∙ ap (λ v. taken_cells c.args.self.now.taken.value ++ map cell_seen v.items) said.rest.1 ∙ h.cells;
    }

pub returns-then-kind-eq-ENDSTR-clause-holds : goal.returns-then-kind-eq-ENDSTR-clause-holds
returns-then-kind-eq-ENDSTR-clause-holds c = λ before form h.
    let k = c.if-kind-eq-ENDSTR.true in
    let body = c.args.body.now in
    let head = rw k at (c.in_ok-take_header.ensures before form h.header) in
    let element = rw k at (c.in_ok-next.ensures before form h.element) in
    let said = c.in_ok-end_structure.ensures in
    rw k record {
      header = subst (λ (x : Header). HoldsHeader (before ▸ rec 0x07 form body) x) (sym said.rest.0) head;
      structure = said.structure before form body;
      element = subst (λ (x : Element). HoldsElement (before ▸ rec 0x07 form body) x) (sym said.rest.1) element;
      cells = ap (λ t. taken_cells t.value ++ map cell_seen c.end_structure.new.self.cells.items) said.taken
          ∙ ap (λ (cs : List m.Cell). taken_cells c.args.self.now.taken.value ++ cs) (said.cells before h.structure)
          ∙ sym (append_assoc (taken_cells c.args.self.now.taken.value) (map cell_seen c.args.self.now.cells.items) (m.open_cells before))
          ∙ ap (λ (cs : List m.Cell). cs ++ m.open_cells before) h.cells;
    }

pub returns-clause-holds : goal.returns-clause-holds
returns-clause-holds c = λ before form h.
    let r = rec c.args.kind form c.args.body.now in
    let still = cells_still before r c.if-kind-eq-ENDSTR.false in
    record {
      header = c.in_ok-take_header.ensures before form h.header;
      structure = c.in_ok-take_structure.ensures before form h.structure;
      element = c.in_ok-next.ensures before form h.element;
      cells = h.cells ∙ still;
    }
