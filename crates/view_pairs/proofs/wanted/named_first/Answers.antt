use Rattle.std.proofs.Common.{sym, subst}
use Rattle.view_pairs.specs.Only.{IsOnly}
use Rattle.view_pairs.specs.Partners.{IsFirst, sure}
use Rattle.view_pairs.proofs.Firsts.{first_before}
use Rattle.view_pairs.proofs.wanted.named_first.Goals as goal

pub returns : goal.returns
returns c x k m passing l r =
    let left = subst (IsOnly x k) (sym c.deref.ensures.value) l in
    let right = subst (IsOnly x m) (sym c.deref-2.ensures.value) r in
    subst (IsFirst (sure k m)) (sym c.in_ok-nets.ensures) (first_before (sure k m) c.in_ok-first.first.items c.deref-3.result.now (c.in_ok-first.ensures x k m passing left right))
