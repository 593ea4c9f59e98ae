use Rattle.std.proofs.Common.{◌≡◌, ◌<◌, ℕ, List, Option, get_or, length, refl, sym, ◌∙◌, ap, arith}
use Rattle.composed_laws.specs.Answered.{children_of, pairing_or, right_pins}
use Rattle.job_graph.proofs.Inputs.{item_has}
use Rattle.match_types.specs.Children as pins
use Rattle.match_types.specs.declared.answer.Answer.{Answer}
use Rattle.net_model.specs.Rows.{plain_circuit, plain_netlist}
use Rattle.plain_netlist.specs.Netlist as plain
use Rattle.pair_jobs.proofs.Called.{count_of}
use Rattle.pair_jobs.proofs.Kept.{given_at, kept_more, kept_none}
use Rattle.pair_jobs.proofs.children.child_pins.Goals.{in-Some+in_ok-set-in-Some, in-None}
use Rattle.pair_jobs.proofs.children.child_pins.Goals as goal
use Rattle.pair_jobs.specs.Children.{answer_in, list_in}

pub index-circuit-requires : goal.index-circuit-requires
index-circuit-requires g c =
    let there = c.requires.there (get_or c.args.pairs.now c.loop-pair.pair-index 0) (item_has c.args.pairs.now c.loop-pair.pair-index 0 (omega arith)) in
    let count = count_of c.args.left.now in
    omega (arith, there, count)

pub get-requires : goal.get-requires
get-requires g c = c.requires.read (get_or c.args.pairs.now c.loop-pair.pair-index 0) (item_has c.args.pairs.now c.loop-pair.pair-index 0 (omega arith))

pub loop-pair-preserved : goal.loop-pair-preserved
loop-pair-preserved g c =
    let nl = c.args.left.now in
    let pairs = c.args.pairs.now in
    let n = c.loop-pair.pair-index in
    let q = get_or pairs n 0 in
    let circuit = c.index-circuit.result.now in
    let value = g.R.Reads.value c.args.reads.now in
    let there = c.requires.there q (item_has pairs n 0 (omega arith)) in
    let count = count_of nl in
    let within : q < length nl.circuits.items = omega (arith, there, count) in
    let F : ℕ → Option (List ℕ) = children_of (plain_netlist nl) (λ k. answer_in k (value k)) in
    let at : F q ≡ list_in c.in_ok-found.found =
    ap (λ (x : plain.Circuit). right_pins x (pairing_or (answer_in q (value q)))) (given_at nl q circuit within c.index-circuit.ensures)
    ∙ (ap (λ (o : Option Answer). right_pins (plain_circuit circuit) (pairing_or (answer_in q o))) c.get.ensures ∙ sym c.in_ok-found.ensures) in
    elim c.match-found.branch [
      | in-Some+in_ok-set-in-Some w ↦
          rw w.children-is (
            kept_more F (pins.children_of c.loop-pair.children) (pins.children_of w.set.new.self) pairs n q (omega arith) refl
                (w.in_ok-set-in-Some.ensures.set ∙ sym (at ∙ ap list_in w.in-Some.is)) w.in_ok-set-in-Some.ensures.rest c.loop-pair.invariant.0,
            w.in_ok-set-in-Some.ensures.told ∙ c.loop-pair.invariant.1,
          )
      | in-None w ↦ rw w.children-is (kept_none F (pins.children_of c.loop-pair.children) pairs n q (omega arith) refl (at ∙ ap list_in w.in-None.is) c.loop-pair.invariant.0, c.loop-pair.invariant.1)
    ]
