use Rattle.std.proofs.Common.{◌≡◌, get_or, set, sym, ◌∙◌, ap, subst}
use Rattle.std.proofs.lemmas.List.{get_or_default}
use Rattle.link_classes.proofs.Trees.{on_way}
use Rattle.link_classes.proofs.forest.Forest.top.Goals as goal
use Rattle.link_classes.specs.Forest.{IsOnWay}

pub loop-x-preserved : goal.loop-x-preserved
loop-x-preserved c =
    let p = c.loop-x.self.parent.items in
    let r = c.loop-x.self.rank.items in
    let x = c.loop-x.x in
    let way = c.loop-x.invariant in
    let first : c.index.result.now ≡ get_or p x 0 = c.index.ensures ∙ get_or_default p x c.index.result.now 0 way.inside in
    let not : get_or p x 0 ≡ x → ⊥ = λ e. c.loop-x-test.true (first ∙ e) in
    let again : c.index-in-loop-x.result.now ≡ get_or p x 0 = c.index-in-loop-x.ensures ∙ get_or_default p x c.index-in-loop-x.result.now 0 way.inside in
    let up = c.index-up.result.now in
    let on : up ≡ get_or p (get_or p x 0) 0 = c.index-up.ensures ∙ ap (λ k. get_or p k up) again ∙ get_or_default p (get_or p x 0) up 0 (way.forest.inside x way.inside) in
    subst (λ k. IsOnWay c.args.self.now.parent.items (set p x k) r c.args.start k) (sym on) (on_way p r way.forest x way.inside not c.args.self.now.parent.items c.args.start way)
