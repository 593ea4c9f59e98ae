use Rattle.std.proofs.Common.{◌≡◌, ◌-◌, ◌≤◌, ℕ, List, ◌∷◌, length, take, drop, sym, subst, rules}
use Rattle.std.specs.Prelude.{◌||◌}
use Rattle.net_names.specs.Folding.{folded_bytes}
use Rattle.text_table.specs.Texts.{has_text, with_text}
use Rattle.pair_turns.specs.Alone.{has_name}
use Rattle.pair_turns.proofs.Lists.{first_and_rest}
use Rattle.pair_turns.proofs.Tabled.{name_more}
use Rattle.pair_turns.proofs.alone.folded_table.Goals as goal

pub names-preserved : goal.names-preserved
names-preserved c q =
    let names = c.args.names.now in
    let table = c.names.table in
    let rest = c.names.rest.now in
    let x = c.name-item.result in
    let some : 1 ≤ length rest = search rules in
    let more = take (length rest - 1) (drop 1 rest) in
    let e : rest ≡ x ∷ more = first_and_rest rest x some c.name-item.is in
    let new : c.add_folded.new.table ≡ with_text table (folded_bytes x) = c.in_ok-add_folded.ensures in
    let old = subst (λ (rs : List (List ℕ)). (has_text table (folded_bytes q) || has_name rs q) ≡ has_name names q) e (c.names.invariant q) in
    subst (λ (t : List (List ℕ)). (has_text t (folded_bytes q) || has_name more q) ≡ has_name names q) (sym new)
    (name_more table (folded_bytes x) (folded_bytes q) (has_name more q) (has_name names q) old)
