use Rattle.std.proofs.Common.{◌<◌, ◌≤◌, ℕ, List, [], ◌∷◌, ◌++◌, length, ap, ◌∙◌, arith, rules}
use Rattle.std.specs.Global.{Vec}
use Rattle.std.proofs.lemmas.List.{length-map}
use Rattle.device_merge.specs.Parts.{place_lists}
use Rattle.device_merge.proofs.Parted.{past_joined, set_joined}
use Rattle.device_merge.proofs.parts.join.Goals as goal

pub returns-then-at-len : goal.returns-then-at-len
returns-then-at-len c =
    let lists = c.args.places.now.items in
    let low : c.args.at < length lists = search rules in
    set_joined lists c.args.at c.push.new.self c.index_mut.result.now c.args.place low (c.in_ok-push.ensures.items ∙ ap (λ (l : Vec ℕ). l.items ++ c.args.place ∷ []) c.index_mut.ensures.value)

pub returns : goal.returns
returns c =
    let lists = c.args.places.now.items in
    let high : length lists ≤ c.args.at = search rules in
    let long = length-map lists (λ (l : Vec ℕ). l.items) in
    c.in_ok-keep.ensures
    ∙ (ap (λ (t : List ℕ). place_lists lists ++ t ∷ []) c.in_ok-list.ensures
    ∙ past_joined (place_lists lists) c.args.at c.args.place (omega arith))
