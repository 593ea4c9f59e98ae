use Rattle.std.proofs.Common.{◌≡◌, ◌∙◌, List, true, sym, ap, subst}
use Rattle.std.specs.List.{list_all}
use Rattle.net_model.specs.Rows.{plain_circuit}
use Rattle.view_pairs.specs.Partners.{IsFirst}
use Rattle.view_pairs.specs.Proposals.{is_alike_couple}
use Rattle.view_pairs.specs.declared.partners.Couple.{Couple}
use Rattle.view_pairs.proofs.Firsts.{all_pass, first_passing}
use Rattle.view_pairs.proofs.couples.partners_of.Goals as goal

pub returns-clause-alike : goal.returns-clause-alike
returns-clause-alike c k p at =
    let sides = c.args.sides.now in
    let is = is_alike_couple (plain_circuit sides.left.now) (plain_circuit sides.right.now) c.args.nets.now c.args.kind in
    let all : list_all is c.deref.result.now ≡ true = ap (λ (cs : List Couple). list_all is cs) (c.deref.ensures.value ∙ c.in_ok-alike.ensures) ∙ all_pass is c.args.couples.now in
    c.in_ok-found.ensures.couples is all k p at

pub returns-clause-first : goal.returns-clause-first
returns-clause-first c d first passing l r =
    let sides = c.args.sides.now in
    let is = is_alike_couple (plain_circuit sides.left.now) (plain_circuit sides.right.now) c.args.nets.now c.args.kind in
    c.in_ok-found.ensures.first d (subst (IsFirst d) (sym (c.deref.ensures.value ∙ c.in_ok-alike.ensures)) (first_passing is d c.args.couples.now first passing)) l r
