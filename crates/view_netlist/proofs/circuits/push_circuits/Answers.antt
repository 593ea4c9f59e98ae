use Rattle.std.proofs.Common.{ℕ, ◌+◌, [], map, drop, get_or, subst, refl, List}
use Rattle.std.proofs.lemmas.List.{drop_all, drop_more}
use Rattle.net_model.specs.Rows.{plain_circuit}
use Rattle.spice_text.specs.Written.{AreOneByOne, HasWritten}
use Rattle.spice_text.proofs.WriteLemmas.{one_more, done, start}
use Rattle.view_netlist.specs.Circuits.{IsNumberText}
use Rattle.view_netlist.proofs.circuits.push_circuits.Goals as goal

pub circuits-init : goal.circuits-init
circuits-init c = start (AreOneByOne (IsNumberText c.args.names.now c.args.drawings.now (map plain_circuit c.args.circuits.now)) c.args.order.now) c.args.out.now.items

pub circuits-preserved : goal.circuits-preserved
circuits-preserved c =
    let P = IsNumberText c.args.names.now c.args.drawings.now (map plain_circuit c.args.circuits.now) in
    let order = c.args.order.now in
    let whole = AreOneByOne P order in
    let i = c.circuits.i in
    one_more P (get_or order i 0) (drop (i + 1) order) whole c.args.out.now.items c.circuits.out.items c.push_numbered.new.out.items
    (subst (λ (ks : List ℕ). HasWritten (AreOneByOne P ks) whole c.args.out.now.items c.circuits.out.items) (drop_more order i 0 c.circuits-test.true) c.circuits.invariant)
    c.in_ok-push_numbered.ensures

pub returns : goal.returns
returns c =
    let P = IsNumberText c.args.names.now c.args.drawings.now (map plain_circuit c.args.circuits.now) in
    let order = c.args.order.now in
    let whole = AreOneByOne P order in
    done (AreOneByOne P []) whole c.args.out.now.items c.circuits.out.items refl
    (subst (λ (ks : List ℕ). HasWritten (AreOneByOne P ks) whole c.args.out.now.items c.circuits.out.items) (drop_all c.circuits.i order c.circuits-test.false) c.circuits.invariant)
