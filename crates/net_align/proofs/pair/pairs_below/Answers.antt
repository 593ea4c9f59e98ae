use Rattle.std.proofs.Common.{◌≡◌, ℕ, Bool, List, length, ap₂, subst, ◌∙◌}
use Rattle.net_model.proofs.CheckLemmas.{if_ok}
use Rattle.net_align.specs.Compared.{is_compared}
use Rattle.net_align.specs.Paired.{ArePairsBelow, are_compared}
use Rattle.net_align.specs.declared.pairs.Pairs.{Pairs}
use Rattle.net_align.proofs.pair.pairs_below.Goals as goal

pub returns : goal.returns
returns c =
    let of = c.args.of.now in
    let top = c.args.top in
    let found = are_compared top c.deref.result.now c.deref-2.result.now c.deref-3.result.now c.deref-4.result.now in
    let same : found ≡ is_compared top c.args.left.now c.args.right.now =
    ap₂ (λ (lr lh : List Bool). are_compared top lr lh c.deref-3.result.now c.deref-4.result.now) c.deref.ensures.value c.deref-2.ensures.value
    ∙ ap₂ (λ (rr rh : List Bool). are_compared top c.args.left.now.reached.items c.args.left.now.holds.items rr rh) c.deref-3.ensures.value c.deref-4.ensures.value in
    if_ok c.find_pairs.result (λ (p : Pairs). ArePairsBelow of found (length of) p.lefts.items p.rights.items)
    (λ (p : Pairs). ArePairsBelow of (is_compared top c.args.left.now c.args.right.now) (length of) p.lefts.items p.rights.items)
    (λ p h. subst (λ (test : ℕ → ℕ → Bool). ArePairsBelow of test (length of) p.lefts.items p.rights.items) same h) c.find_pairs.ensures
