-- Layouts that are alike are so both ways.
use Rattle.std.proofs.Common.{sym}
use Rattle.gds_layout.specs.Once.{IsAlike}
use Rattle.gds_layout.specs.declared.layout.Layout.{Layout}

pub alike_back : (l m : Layout) → IsAlike l m → IsAlike m l
alike_back l m h =
    let s = h.same in
    let head = s.header in
    record {
      same = record {
        header = record { version = sym head.version; dates = sym head.dates; name = sym head.name; units = sym head.units; unit = sym head.unit };
        dates = sym s.dates;
        cells = sym s.cells;
        top = sym s.top;
      };
      way = sym h.way;
    }
