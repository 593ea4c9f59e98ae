use Rattle.std.proofs.Common.{◌≡◌, ◌<◌, ◌+◌, get_or, set, length, sym, ◌∙◌, subst, arith}
use Rattle.std.proofs.lemmas.List.{get_or_default}
use Rattle.link_classes.proofs.Trees.{room, hung_forest, raised_none, raised_one}
use Rattle.link_classes.proofs.forest.Forest.hang.Goals.{then-index, else-index}
use Rattle.link_classes.proofs.forest.Forest.hang.Goals as goal
use Rattle.link_classes.specs.declared.forest.Forest.{Forest}
use Rattle.link_classes.specs.Forest.{IsForest}

pub overflow_add-index_mut : goal.overflow_add-index_mut
overflow_add-index_mut c =
    let p = c.args.self.now.parent.items in
    let r = c.args.self.now.rank.items in
    let v = c.index_mut.result.now in
    let high = c.args.high in
    let inside : high < length r = rw c.requires.forest.long c.requires.high.0 in
    let is : v ≡ get_or r high 0 = c.index_mut.ensures.value ∙ get_or_default r high v 0 inside in
    let enough = room p r r c.requires.forest c.args.low high c.requires.low c.requires.high c.requires.apart in
    let short = c.requires.short in
    omega arith

pub returns-clause-forest : goal.returns-clause-forest
returns-clause-forest c =
    let p = c.args.self.now.parent.items in
    let r = c.args.self.now.rank.items in
    let low = c.args.low in
    let high = c.args.high in
    let in_low : low < length r = rw c.requires.forest.long c.requires.low.0 in
    let in_high : high < length r = rw c.requires.forest.long c.requires.high.0 in
    let at_low : c.index.result.now ≡ get_or r low 0 = c.index.ensures ∙ get_or_default r low c.index.result.now 0 in_low in
    let at_high : c.index-2.result.now ≡ get_or r high 0 = c.index-2.ensures ∙ get_or_default r high c.index-2.result.now 0 in_high in
    elim c.if-index.branch [
      | then-index w ↦
          let v = w.index_mut.result.now in
          let is : v ≡ get_or r high 0 = w.index_mut.ensures.value ∙ get_or_default r high v 0 in_high in
          let same : get_or r low 0 ≡ get_or r high 0 = sym at_low ∙ w.if-index.true ∙ at_high in
          let done = hung_forest p r (set r high (get_or r high 0 + 1)) c.requires.forest low high c.requires.low c.requires.high c.requires.apart (raised_one r low high in_high same) in
          let then : IsForest (set p low high) (set r high (v + 1)) = subst (λ k. IsForest (set p low high) (set r high (k + 1))) (sym is) done in
          subst (λ (f : Forest). IsForest (set f.parent.items low high) f.rank.items) (sym w.self-is) then
      | else-index w ↦
          let not : get_or r low 0 ≡ get_or r high 0 → ⊥ = λ e. w.if-index.false (at_low ∙ e ∙ sym at_high) in
          let less : get_or r low 0 < get_or r high 0 = let a = c.requires.rank in omega arith in
          let done = hung_forest p r r c.requires.forest low high c.requires.low c.requires.high c.requires.apart (raised_none r low high less) in
          subst (λ (f : Forest). IsForest (set f.parent.items low high) f.rank.items) (sym w.self-is) done
    ]
