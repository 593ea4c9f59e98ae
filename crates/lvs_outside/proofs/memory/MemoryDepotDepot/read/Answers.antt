use Rattle.std.proofs.Common.{◌<◌, ◌≤◌, ◌∙◌, ℕ, List, length, arith, ap, sym, subst, rules}
use Rattle.lvs_outside.specs.Store.{Holds, NextBytes, Forward}
use Rattle.lvs_outside.specs.Entries.{open_at}
use Rattle.lvs_outside.specs.Token.{bytes_of, count_of}
use Rattle.lvs_outside.specs.declared.entries.Entry.{Entry}
use Rattle.lvs_outside.specs.declared.entries.Place.{Place}
use Rattle.lvs_outside.proofs.FirstEntry.{first_read, in_range, read_in_file, reads_on, reads_next}
use Rattle.lvs_outside.proofs.memory.MemoryDepotDepot.read.Goals as goal

pub index-requires : goal.index-requires
index-requires c =
    let files = c.args.self.now.files in
    let path = bytes_of c.args.self.now.path.value in
    let lt : c.in-Reading.number < length files.items = in_range files.items path c.in-Reading.number (first_read files.items path c.args.self.now.place c.in-Reading.number c.in-Reading.at c.in-Reading.is c.args.self.now.in_place) in
    let size = files.ok.0 in
    omega arith

pub copy_next-count-requires-clause-start : goal.copy_next-count-requires-clause-start
copy_next-count-requires-clause-start c =
    let files = c.args.self.now.files in
    let path = bytes_of c.args.self.now.path.value in
    let bytes = c.as_slice.ensures.value ∙ ap (λ (e : Entry). e.bytes.items) c.index.ensures in
    subst (λ (xs : List ℕ). c.in-Reading.at ≤ length xs) (sym bytes) (read_in_file files.items path c.args.self.now.place c.in-Reading.number c.in-Reading.at c.index.result.now c.in-Reading.is c.args.self.now.in_place)

pub invariant_of-self-2 : goal.invariant_of-self-2
invariant_of-self-2 c =
    let files = c.args.self.now.files in
    let path = bytes_of c.args.self.now.path.value in
    let first = first_read files.items path c.args.self.now.place c.in-Reading.number c.in-Reading.at c.in-Reading.is c.args.self.now.in_place in
    let bytes = c.as_slice.ensures.value ∙ ap (λ (e : Entry). e.bytes.items) c.index.ensures in
    let next = subst (λ (xs : List ℕ). NextBytes (Holds xs) c.in-Reading.at c.copy_next-count.result c.copy_next-count.new.buf) bytes c.copy_next-count.ensures.next in
    record { in_place = reads_on files.items path c.in-Reading.number c.in-Reading.at c.copy_next-count.result c.index.result.now first next.1 }

pub returns-clause-reads : goal.returns-clause-reads
returns-clause-reads c =
    let files = c.args.self.now.files in
    let path = bytes_of c.args.self.now.path.value in
    let written = count_of c.args.self.now.written.value in
    let first = first_read files.items path c.args.self.now.place c.in-Reading.number c.in-Reading.at c.in-Reading.is c.args.self.now.in_place in
    let bytes = c.as_slice.ensures.value ∙ ap (λ (e : Entry). e.bytes.items) c.index.ensures in
    let next = subst (λ (xs : List ℕ). NextBytes (Holds xs) c.in-Reading.at c.copy_next-count.result c.copy_next-count.new.buf) bytes c.copy_next-count.ensures.next in
    record {
      ok = record {
        fits = c.copy_next-count.ensures.fits;
        bytes = reads_next files.items path c.args.self.now.place c.in-Reading.number c.in-Reading.at written c.copy_next-count.result c.copy_next-count.new.buf c.index.result.now c.in-Reading.is first next;
        behind = c.copy_next-count.ensures.behind;
        opened = ap (λ (o : Place). Forward (open_at o path written) c.copy_next-count.result) (sym c.in-Reading.is);
      };
      err = tt;
      rest = search rules;
      cause = search rules;
    }
