use Rattle.std.proofs.Common.{◌≡◌, ◌++◌, ◌∙◌, ℕ, List, Option, sym, ap, subst}
use Rattle.view_pairs.specs.Keys.{couples_from}
use Rattle.view_pairs.specs.Partners.{IsFirst, sure}
use Rattle.view_pairs.specs.declared.partners.Couple.{Couple}
use Rattle.view_pairs.proofs.Keying.{keys_first}
use Rattle.view_pairs.proofs.only.couples_of.Goals as goal

pub returns : goal.returns
returns c x k m low left right =
    let lefts = c.args.lefts.now in
    let places = c.in_ok-places.places.items in
    let same : c.push_couples.new.out.items ≡ couples_from places 0 lefts =
    c.in_ok-push_couples.ensures ∙ ap (λ (cs : List Couple). cs ++ couples_from c.deref.result.now 0 lefts) c.new-couples.ensures.items
    ∙ ap (λ (ps : List (Option ℕ)). couples_from ps 0 lefts) c.deref.ensures.value in
    subst (IsFirst (sure k m)) (sym same) (keys_first c.args.count lefts c.args.rights.now places c.in_ok-places.ensures.long c.in_ok-places.ensures.found x k m low left right)
