use Rattle.std.proofs.Common.{inl, inr, ◌+◌, ℕ, List, arith, refl, slice_index, sym, subst}
use Rattle.std.proofs.lemmas.Bool.{cases_lt}
use Rattle.refine_match.specs.Ties.{AreWithin}
use Rattle.refine_match.proofs.InOrder.{none_taken_yet, one_passed, one_taken}
use Rattle.refine_match.proofs.lefts.take_within.Goals as goal

pub loop-i-init : goal.loop-i-init
loop-i-init c = none_taken_yet c.clear.new.self.items c.args.nodes.now c.args.from c.args.to c.clear.ensures.items

pub loop-i-preserved : goal.loop-i-preserved
loop-i-preserved c =
    let nodes = c.args.nodes.now in
    let node = slice_index nodes c.loop-i.i in
    let from = c.args.from in
    let to = c.args.to in
    let xs = c.loop-i.found.items in
    let stays : List ℕ → Type 0 = λ ys. AreWithin ys nodes (c.loop-i.i + 1) from to in
    elim (cases_lt node from) [
      | inl u ↦ subst stays (sym (c.in_ok-take_node.ensures.low u)) (one_passed xs nodes c.loop-i.i from to c.loop-i.invariant (λ m n. omega arith))
      | inr u ↦ elim (cases_lt node to) [
        | inl v ↦ one_taken xs c.take_node.new.found.items nodes c.loop-i.i from to node c.loop-i.invariant refl u v (c.in_ok-take_node.ensures.inside u v)
        | inr v ↦ subst stays (sym (c.in_ok-take_node.ensures.high v)) (one_passed xs nodes c.loop-i.i from to c.loop-i.invariant (λ m n. omega arith))
      ]
    ]
