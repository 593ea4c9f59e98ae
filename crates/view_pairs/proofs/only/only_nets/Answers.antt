use Rattle.std.proofs.Common.{ℕ, List, Option, subst}
use Rattle.view_pairs.specs.Only.{AreKeysFirst, is_given}
use Rattle.view_pairs.proofs.Keying.{keys_stay, only_texts}
use Rattle.view_pairs.proofs.only.only_nets.Goals as goal

pub returns : goal.returns
returns c =
    let ls = c.args.lefts.now in
    let rs = c.args.rights.now in
    let lefts = c.in_ok-left_keys.left_keys.items in
    let rights = c.in_ok-right_keys.right_keys.items in
    let table = c.name_keys-2.new.table in
    let couples = c.in_ok-couples.couples.items in
    only_texts is_given table ls rs lefts rights couples c.in_ok-right_keys.ensures.apart
    (keys_stay is_given c.name_keys.new.table table ls lefts c.in_ok-right_keys.ensures.grown c.in_ok-left_keys.ensures.keys) c.in_ok-right_keys.ensures.keys
    (subst (λ (n : ℕ). AreKeysFirst n lefts rights couples) c.len.ensures
    (subst (λ (ks : List (Option ℕ)). AreKeysFirst c.len.result ks rights couples) c.deref.ensures.value
    (subst (λ (ks : List (Option ℕ)). AreKeysFirst c.len.result c.deref.result.now ks couples) c.deref-2.ensures.value c.in_ok-couples.ensures)))
