use Rattle.std.proofs.Common.{◌≡◌, ℕ, ◌+◌, [], ◌∷◌, ◌++◌, cond, Option, Some, None, is_some, sym, subst, ◌∙◌, ap}
use Rattle.std.specs.HashMap.{get, hash_map_len}
use Rattle.match_graph.specs.contracts.kinds.OwnPartialEq.TheImpl.{eq-value}
use Rattle.match_graph.specs.Kinds.{IsNumbering, plain_own}
use Rattle.match_graph.proofs.Numbered.{seen, grown, moved}
use Rattle.match_graph.proofs.kinds.Kinds.add.Goals.{in-Some, in-None+in_ok-fresh-in-None+in_ok-insert-in-None}
use Rattle.match_graph.proofs.kinds.Kinds.add.Goals as goal

pub returns : goal.returns
returns c owns h = elim c.match-get.branch [
  | in-Some w ↦
      moved (owns ++ plain_own c.args.own ∷ []) c.args.self.now c.match-get.self w.in-Some.known.now c.match-get.kind c.push.new.self.items w.self-is w.kind-is c.in_ok-push.ensures.items
      (seen owns (get eq-value.it c.args.self.now.numbers) (hash_map_len c.args.self.now.numbers) c.args.self.now.of_nodes.items c.args.own w.in-Some.known.now h (sym w.in-Some.ensures.value))
  | in-None+in_ok-fresh-in-None+in_ok-insert-in-None w ↦
      let absent : get eq-value.it c.args.self.now.numbers c.args.own ≡ None = sym w.in-None.ensures.value in
      let is_fresh : hash_map_len c.args.self.now.numbers ≡ w.in_ok-fresh-in-None.fresh = sym (w.in_ok-fresh-in-None.ensures.ok ∙ w.len.ensures.len) in
      let longer : hash_map_len c.args.self.now.numbers + 1 ≡ hash_map_len w.insert.new.self
      = sym (w.in_ok-insert-in-None.ensures.len ∙ ap (λ (o : Option ℕ). hash_map_len c.args.self.now.numbers + cond {A = ℕ} (is_some o) 0 1) (w.in_ok-insert-in-None.ensures.old ∙ absent)) in
      moved (owns ++ plain_own c.args.own ∷ []) (record { numbers = w.insert.new.self; of_nodes = c.args.self.now.of_nodes }) c.match-get.self w.in_ok-fresh-in-None.fresh c.match-get.kind c.push.new.self.items w.self-is w.kind-is c.in_ok-push.ensures.items
      (subst (λ (n : ℕ). IsNumbering (owns ++ plain_own c.args.own ∷ []) (get eq-value.it w.insert.new.self) n (c.args.self.now.of_nodes.items ++ w.in_ok-fresh-in-None.fresh ∷ [])) longer
      (subst (λ (n : ℕ). IsNumbering (owns ++ plain_own c.args.own ∷ []) (get eq-value.it w.insert.new.self) (hash_map_len c.args.self.now.numbers + 1) (c.args.self.now.of_nodes.items ++ n ∷ [])) is_fresh
      (grown owns (get eq-value.it c.args.self.now.numbers) (get eq-value.it w.insert.new.self) (hash_map_len c.args.self.now.numbers) c.args.self.now.of_nodes.items c.args.own h absent
      (λ q. w.in_ok-insert-in-None.ensures.updates.0 q ∙ ap (λ (n : ℕ). cond (eq-value.it c.args.own q) (Some n) (get eq-value.it c.args.self.now.numbers q)) (sym is_fresh)))))
]
