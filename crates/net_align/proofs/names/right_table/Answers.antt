use Rattle.std.proofs.Common.{◌≡◌, ◌<◌, ℕ, List, Some, length, slice_get, refl, ap, ◌∙◌, rules}
use Rattle.std.proofs.lemmas.Option.{slice_get_read}
use Rattle.net_names.specs.Folding.{folded_bytes}
use Rattle.text_table.specs.Texts.{has_text}
use Rattle.net_align.proofs.Finding.{not_yet}
use Rattle.net_align.proofs.names.right_table.Goals as goal

pub add_folded-requires : goal.add_folded-requires
add_folded-requires c =
    let same = c.args.same.now in
    let i = c.loop-line.line-index in
    let line = c.line-item.result in
    let below : i < length same = search rules in
    let has : slice_get same i ≡ Some line = slice_get_read same (length same) i line refl below c.line-item.is in
    ap (λ (t : List (List ℕ)). has_text t (folded_bytes line.1)) c.loop-line.invariant ∙ not_yet (λ p. folded_bytes p.1) same i line c.requires has
