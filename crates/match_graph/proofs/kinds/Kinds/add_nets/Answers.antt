use Rattle.std.proofs.Common.{◌≡◌, ◌+◌, ℕ, Bool, List, [], ◌∷◌, map, length, arith, subst}
use Rattle.match_laws.specs.Circuits.{OfNet, is_pin, numbers_from}
use Rattle.net_model.specs.Rows.{plain_circuit}
use Rattle.match_graph.specs.contracts.kinds.OwnPartialEq.TheImpl.{eq-value}
use Rattle.match_graph.specs.Kinds.{Adds, name_in, net_own}
use Rattle.match_graph.proofs.Numbered.{adds_more, nets_more, marked}
use Rattle.match_graph.proofs.kinds.Kinds.add_nets.Goals as goal

pub loop-n-preserved : goal.loop-n-preserved
loop-n-preserved c =
    let k = c.loop-n.n in
    let circuit = plain_circuit c.args.circuit.now in
    let own = net_own (name_in c.args.names.now) circuit in
    adds_more c.args.self.now c.loop-n.self c.add.new.self (map own (numbers_from 0 k)) (map own (numbers_from 0 (k + 1))) (own k) c.loop-n.invariant
    (subst (λ (q : List ℕ). Adds eq-value.it c.loop-n.self c.add.new.self (OfNet (is_pin circuit k) q ∷ [])) c.name_at-name.ensures
    (subst (λ (b : Bool). Adds eq-value.it c.loop-n.self c.add.new.self (OfNet b c.name_at-name.result.now ∷ [])) (marked c.args.circuit.now.pins.items c.args.marks.now k c.requires.pins (omega arith)) c.in_ok-add.ensures))
    (nets_more own k)

pub returns : goal.returns
returns c =
    let e : c.loop-n.n ≡ length c.args.circuit.now.nets.items = omega arith in
    subst (λ (m : ℕ). Adds eq-value.it c.args.self.now c.loop-n.self (map (net_own (name_in c.args.names.now) (plain_circuit c.args.circuit.now)) (numbers_from 0 m))) e c.loop-n.invariant
