use Rattle.std.proofs.Common.{◌≡◌, ◌<◌, ℕ, List, length, sym, subst, rules, arith}
use Rattle.std.proofs.lemmas.List.{length-map}
use Rattle.net_model.specs.Rows.{plain_circuit, plain_netlist}
use Rattle.pair_turns.proofs.Sides.{same_count}
use Rattle.pair_turns.proofs.limit.first_over.Goals as goal

pub sizes-requires-2-clause-few : goal.sizes-requires-2-clause-few
sizes-requires-2-clause-few c =
    let n = same_count (plain_netlist c.args.left.now) (plain_netlist c.args.right.now) c.requires.sides in
    let a = length-map c.args.left.now.circuits.items plain_circuit in
    let b = length-map c.args.right.now.circuits.items plain_circuit in
    let f : length c.args.goes.now < 4294967296 = search rules in
    let g = c.requires.goes in
    omega (arith, n, a, b, f, g)

pub sizes-requires-2-clause-goes : goal.sizes-requires-2-clause-goes
sizes-requires-2-clause-goes c =
    let n = same_count (plain_netlist c.args.left.now) (plain_netlist c.args.right.now) c.requires.sides in
    let a = length-map c.args.left.now.circuits.items plain_circuit in
    let b = length-map c.args.right.now.circuits.items plain_circuit in
    let g = c.requires.goes in
    omega (arith, n, a, b, g)

pub is_over-requires-clause-rights : goal.is_over-requires-clause-rights
is_over-requires-clause-rights c =
    let n = same_count (plain_netlist c.args.left.now) (plain_netlist c.args.right.now) c.requires.sides in
    let a = length-map c.args.left.now.circuits.items plain_circuit in
    let g = c.requires.goes in
    let r = c.in_ok-rights.ensures.long in
    let below : c.pairs.k < length c.args.goes.now = search rules in
    let same : c.deref-in-pairs.result.now ≡ c.in_ok-rights.rights.items = search rules in
    subst (λ (v : List ℕ). c.pairs.k < length v) (sym same) (omega (arith, n, a, g, r, below))
