use Rattle.std.proofs.Common.{ℕ, List, Option, ◌++◌, subst, ap, ap₂, ◌∙◌}
use Rattle.std.specs.Prelude.{IfOk}
use Rattle.net_model.specs.Rows.{plain_circuit}
use Rattle.match_laws.specs.Circuits.{Own as PlainOwn}
use Rattle.match_graph.specs.Kinds.{AreKindsOf, name_in, named_owns}
use Rattle.match_graph.proofs.Numbered.{owns_named}
use Rattle.match_graph.proofs.kinds.list_kinds.Goals as goal

pub returns : goal.returns
returns c =
    let left = plain_circuit c.args.left.now in
    let right = plain_circuit c.args.right.now in
    subst (λ (xs : List PlainOwn). IfOk c.kinds_by.result (λ kinds. AreKindsOf kinds.items xs))
    (ap₂ (λ (xs ys : List PlainOwn). xs ++ ys)
    (ap (λ (names : List (Option (List ℕ))). named_owns (name_in names) left) c.deref.ensures.value ∙ owns_named c.args.told left c.in_ok-left_names.left_names.items c.in_ok-left_names.ensures)
    (ap (λ (names : List (Option (List ℕ))). named_owns (name_in names) right) c.deref-2.ensures.value ∙ owns_named c.args.told right c.in_ok-right_names.right_names.items c.in_ok-right_names.ensures))
    c.kinds_by.ensures
