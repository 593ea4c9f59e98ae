use Rattle.std.proofs.Common.{ℕ, List, [], sym, subst, ap}
use Rattle.std.specs.Map.{lookup}
use Rattle.std.specs.HashMap.{get, hash_map_len}
use Rattle.net_model.specs.Rows.{plain_circuit}
use Rattle.match_graph.specs.contracts.kinds.OwnPartialEq.TheImpl.{eq-value}
use Rattle.match_graph.specs.declared.kinds.Kinds.{Kinds}
use Rattle.match_graph.specs.declared.kinds.Own.{Own}
use Rattle.match_graph.specs.Kinds.{IsNumbering, name_in, named_owns}
use Rattle.match_graph.proofs.Numbered.{adds_then, kinds_of, nothing}
use Rattle.match_graph.proofs.kinds.kinds_by.Goals as goal

pub returns : goal.returns
returns c =
    let left = plain_circuit c.args.left.now in
    let right = plain_circuit c.args.right.now in
    let first : Kinds = record { numbers = c.new.result; of_nodes = c.new-2.result } in
    let start : IsNumbering [] (get eq-value.it c.new.result) (hash_map_len c.new.result) c.new-2.result.items
    = subst (λ (xs : List ℕ). IsNumbering [] (get eq-value.it c.new.result) (hash_map_len c.new.result) xs) (sym c.new-2.ensures.items)
    (subst (λ (n : ℕ). IsNumbering [] (get eq-value.it c.new.result) n []) (sym c.new.ensures.len) (nothing (get eq-value.it c.new.result) (λ q. ap (λ (es : List (Own × ℕ)). lookup (eq-value.it q) es) c.new.ensures.empty))) in
    kinds_of _ (get eq-value.it c.add_circuit-2.new.self.numbers) (hash_map_len c.add_circuit-2.new.self.numbers) c.add_circuit-2.new.self.of_nodes.items
    (adds_then first c.add_circuit.new.self c.add_circuit-2.new.self (named_owns (name_in c.args.left_names.now) left) (named_owns (name_in c.args.right_names.now) right)
    c.in_ok-add_circuit.ensures c.in_ok-add_circuit-2.ensures
    [] start)
