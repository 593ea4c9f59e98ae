use Rattle.std.proofs.Common.{◌≡◌, ◌+◌, ◌++◌, ◌∷◌, [], ℕ, List, Some, None, sym, subst, ap, ◌∙◌, rules}
use Rattle.std.specs.Prelude.{slice_index_or}
use Rattle.net_align.specs.Paired.{ArePairsBelow, are_compared, compared_partner}
use Rattle.net_align.proofs.Pairing.{pair_added, none_added}
use Rattle.net_align.proofs.pairs.find_pairs.Goals.{in-Some+in_ok-number+in_ok-push+in_ok-number-2+in_ok-push-2, in_default}
use Rattle.net_align.proofs.pairs.find_pairs.Goals as goal

pub loop-a-preserved : goal.loop-a-preserved
loop-a-preserved c =
    let of = c.args.of.now in
    let m = c.args.marks.now in
    let test = are_compared c.args.top m.left_reached.now m.left_holds.now m.right_reached.now m.right_holds.now in
    let n = c.loop-a.a in
    let lefts = c.loop-a.lefts.items in
    let rights = c.loop-a.rights.items in
    let told : c.compared_partner.result ≡ compared_partner test n (slice_index_or of n None) = c.compared_partner.ensures in
    elim c.match-compared_partner.branch [
      | in-Some+in_ok-number+in_ok-push+in_ok-number-2+in_ok-push-2 w ↦
          let b = w.in-Some.b in
          let is : compared_partner test n (slice_index_or of n None) ≡ Some b = sym told ∙ w.in-Some.is in
          let at : w.in_ok-number.field-0 ≡ n = w.in_ok-number.ensures.ok in
          let to : w.in_ok-number-2.field-0 ≡ b = w.in_ok-number-2.ensures.ok in
          let l : c.match-compared_partner.lefts.items ≡ lefts ++ n ∷ [] = ap (λ (v : _). v.items) w.lefts-is ∙ (w.in_ok-push.ensures.items ∙ ap (λ (x : ℕ). lefts ++ x ∷ []) at) in
          let r : c.match-compared_partner.rights.items ≡ rights ++ b ∷ [] = ap (λ (v : _). v.items) w.rights-is ∙ (w.in_ok-push-2.ensures.items ∙ ap (λ (x : ℕ). rights ++ x ∷ []) to) in
          subst (λ (t : List ℕ). ArePairsBelow of test (n + 1) t c.match-compared_partner.rights.items) (sym l)
          (subst (λ (t : List ℕ). ArePairsBelow of test (n + 1) (lefts ++ n ∷ []) t) (sym r) (pair_added of test n lefts rights c.loop-a.invariant b is))
      | in_default w ↦
          let is : compared_partner test n (slice_index_or of n None) ≡ None = sym told ∙ search rules in
          let l : c.match-compared_partner.lefts.items ≡ lefts = ap (λ (v : _). v.items) w.lefts-is in
          let r : c.match-compared_partner.rights.items ≡ rights = ap (λ (v : _). v.items) w.rights-is in
          subst (λ (t : List ℕ). ArePairsBelow of test (n + 1) t c.match-compared_partner.rights.items) (sym l)
          (subst (λ (t : List ℕ). ArePairsBelow of test (n + 1) lefts t) (sym r) (none_added of test n lefts rights c.loop-a.invariant is))
    ]
