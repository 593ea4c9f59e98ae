use Rattle.std.proofs.Common.{Global, List, Vec, ◌+◌, ◌≡◌, map, subst, sym, ℕ, arith}
use Rattle.pin_phase.specs.Sets.{HaveNone}
use Rattle.pin_phase.proofs.Tagging.{none_more, none_yet}
use Rattle.pin_phase.proofs.sets.NetTags.new.Goals as goal

pub loop-init : goal.loop-init
loop-init c = none_yet (λ (v : Vec (List ℕ) Global). v.items) c.in_ok-lists.lists.items c.in_ok-lists.ensures.items

pub loop-preserved : goal.loop-preserved
loop-preserved c =
    subst (λ (l : List (Vec (List ℕ) Global)). HaveNone (c.loop.counter + 1) (map (λ (v : Vec (List ℕ) Global). v.items) l)) (sym c.in_ok-push.ensures.items)
    (none_more (λ (v : Vec (List ℕ) Global). v.items) c.loop.lists.items c.new.result c.loop.counter c.new.ensures.items c.loop.invariant)

pub returns : goal.returns
returns c =
    let end : c.loop.counter ≡ c.args.nets = omega arith in
    subst (λ (n : ℕ). HaveNone n (map (λ (v : Vec (List ℕ) Global). v.items) c.loop.lists.items)) end c.loop.invariant
