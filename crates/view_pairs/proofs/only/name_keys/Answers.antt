use Rattle.std.proofs.Common.{◌≡◌, ◌∷◌, ◌∙◌, ◌-◌, ℕ, List, Option, length, take, drop, sym, ap, subst}
use Rattle.view_words.proofs.Rows.{first_and_rest}
use Rattle.view_pairs.specs.Only.{is_given}
use Rattle.view_pairs.proofs.Keying.{KeysSoFar, keys_on}
use Rattle.view_pairs.proofs.only.name_keys.Goals as goal

pub names-preserved : goal.names-preserved
names-preserved c =
    let rest = c.names.rest.now in
    let more = take (length rest - 1) (drop 1 rest) in
    let name = c.name-item.result in
    let start = c.args.table.now in
    let all = c.args.names.now in
    let keys = c.names.keys.items in
    let split : rest ≡ name ∷ more = first_and_rest rest name c.in-len1-up.len_at_least ∙ ap (λ (n : List ℕ). n ∷ more) (sym c.name-item.is) in
    subst (λ (ks : List (Option ℕ)). KeysSoFar is_given start c.name_key.new.table all more ks) (sym c.in_ok-push.ensures.items)
    (keys_on is_given start c.names.table all name more keys c.name_key.new.table c.in_ok-key.key
    (subst (λ (ts : List (List ℕ)). KeysSoFar is_given start c.names.table all ts keys) split c.names.invariant)
    c.in_ok-key.ensures.apart c.in_ok-key.ensures.grown c.in_ok-key.ensures.key)
