use Rattle.std.proofs.Common.{◌≡◌, ℕ, List, sym, subst, ◌∙◌, arith}
use Rattle.std.specs.HashMap.{get}
use Rattle.refine_match.specs.Namesakes.{IsFirstNet, is_same_name, name_of}
use Rattle.refine_match.proofs.Named.{name_read, one_named}
use Rattle.refine_match.proofs.namesakes.namesakes_by.Goals as goal

pub loop-n-preserved : goal.loop-n-preserved
loop-n-preserved c = λ right firsts.
    let left = c.args.left.now in
    let n = c.loop-n.n in
    let inside = c.loop-n-test.true in
    let long = c.len-n-end.ensures ∙ left.nets.ok.0 in
    let name : c.bytes.result.now ≡ name_of left n = c.bytes.ensures.same ∙ name_read left.nets.items n c.index.result.now (omega arith) c.index.ensures in
    let found = c.copied.ensures ∙ c.get.ensures.value in
    one_named left right n c.loop-n.namesakes.items c.push.new.self.items c.copied.result (c.loop-n.invariant right firsts)
    (subst (IsFirstNet right 0 (name_of left n)) (sym found)
    (subst (λ (q : List ℕ). IsFirstNet right 0 q (get is_same_name c.args.firsts.now c.bytes.result)) name (firsts c.bytes.result)))
    c.in_ok-push.ensures.items
