use Rattle.std.proofs.Common.{◌≡◌, ◌<◌, ◌≤◌, length, sym, subst, arith}
use Rattle.cell_graph.specs.Drafts.{IsNamed, IsMissing}
use Rattle.cell_graph.proofs.Looking.{place, at_place, place_named, named_place, names_count}
use Rattle.cell_graph.proofs.tops.top_of.Goals as goal

pub returns-then-i-cells-clause-fault : goal.returns-then-i-cells-clause-fault
returns-then-i-cells-clause-fault c =
    let cells = c.args.cells.now in
    let name = c.in-Some.name.now in
    let p : c.place-i.result ≡ place name cells = at_place cells name c.bytes.result.now c.args.names.now c.place-i.result c.place-i.ensures.place c.bytes.ensures.same c.requires.names in
    let end = c.if-i-cells.true in
    let missing : IsMissing cells name = λ j named. (let lt = named_place cells name j named in absurd (let z : ⊥ = omega arith in z)) in
    rw c.in-Some.is (c.requires.sound, missing)

pub returns-clause-tops : goal.returns-clause-tops
returns-clause-tops c =
    let cells = c.args.cells.now in
    let name = c.in-Some.name.now in
    let p : c.place-i.result ≡ place name cells = at_place cells name c.bytes.result.now c.args.names.now c.place-i.result c.place-i.ensures.place c.bytes.ensures.same c.requires.names in
    let not_end = c.if-i-cells.false in
    let within : c.place-i.result ≤ length c.args.names.now = c.place-i.ensures.within in
    let count : length c.args.names.now ≡ length cells = names_count cells c.args.names.now c.requires.names in
    let lt : place name cells < length cells = omega arith in
    let named : IsNamed cells name c.place-i.result = subst (IsNamed cells name) (sym p) (place_named cells name lt) in
    rw c.in-Some.is named
