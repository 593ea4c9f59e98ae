use Rattle.std.proofs.Common.{◌≡◌, ◌∷◌, ◌-◌, List, Option, Bool, length, take, drop, get_or, replicate, None, sym, subst, false}
use Rattle.view_pairs.specs.Partners.{AreClaimed}
use Rattle.view_pairs.specs.declared.partners.Couple.{Couple}
use Rattle.view_pairs.specs.declared.partners.Partner.{Partner}
use Rattle.view_pairs.proofs.Claims.{claims_start, claims_on, first_and_rest}
use Rattle.view_pairs.proofs.Firsts.{AllCome, all_on, all_start, claim_lefts}
use Rattle.view_pairs.proofs.partners.claimed.Goals as goal

pub couples-init : goal.couples-init
couples-init c =
    let n = c.args.lefts in
    let m = c.args.rights in
    let all = c.args.couples.now in (
      subst (λ (xs : List (Option Partner)). AreClaimed n m all all xs c.in_ok-claims.claims.taken.items) (sym c.in_ok-claims.ensures.lefts)
          (subst (λ (marks : List Bool). AreClaimed n m all all (replicate n None) marks) (sym c.in_ok-claims.ensures.taken) (claims_start n m all)),
      subst (λ (xs : List (Option Partner)). AllCome n m all all xs c.in_ok-claims.claims.taken.items) (sym c.in_ok-claims.ensures.lefts)
          (subst (λ (marks : List Bool). AllCome n m all all (replicate n None) marks) (sym c.in_ok-claims.ensures.taken) (all_start n m all)),
    )

pub couples-preserved : goal.couples-preserved
couples-preserved c =
    let rest = c.couples.rest.now in
    let none : Couple = record { left = 0; right = record { number = 0; tied = false } } in
    let more = take (length rest - 1) (drop 1 rest) in
    let first = get_or rest 0 none in
    let e : rest ≡ first ∷ more = first_and_rest rest none c.in-len1-up.len_at_least in
    let now = c.couples.claims in
    let new = c.claim.new.self in
    let n = c.args.lefts in
    let m = c.args.rights in
    let all = c.args.couples.now in (
      claims_on n m all more first now.lefts.items new.lefts.items now.taken.items new.taken.items
          (subst (λ (cs : List Couple). AreClaimed n m all cs now.lefts.items now.taken.items) e c.couples.invariant.0)
          c.claim.ensures.claimed c.claim.ensures.count c.claim.ensures.rights
          (claim_lefts now.lefts.items new.lefts.items now.taken.items new.taken.items first c.claim.ensures.claim),
      all_on n m all more first now.lefts.items new.lefts.items now.taken.items new.taken.items
          (subst (λ (cs : List Couple). AllCome n m all cs now.lefts.items now.taken.items) e c.couples.invariant.1) c.claim.ensures.claim,
    )
