use Rattle.std.proofs.Common.{◌≡◌, ◌∙◌, ap, sym, arith, rules, List, ℕ, ◌++◌, ◌∷◌, []}
use Rattle.std.specs.List.{range_with_len}
use Rattle.net_walk.proofs.Numbering.{counted_more, numbers_all}
use Rattle.net_walk.proofs.cells.all_numbers.Goals as goal

pub loop-number-preserved : goal.loop-number-preserved
loop-number-preserved c =
    c.in_ok-push.ensures.items ∙ ap (λ (l : List ℕ). l ++ c.in_ok-place.place ∷ []) c.loop-number.invariant
    ∙ sym (counted_more c.loop-number.number c.in_ok-place.place (search rules))

pub returns : goal.returns
returns c =
    let end : c.loop-number.number ≡ c.args.count = omega arith in
    numbers_all c.args.count c.loop-number.numbers.items (c.loop-number.invariant ∙ ap (range_with_len 0) end)
