use Rattle.std.proofs.Common.{ℕ, List, Option, ap, refl, length, ◌∙◌}
use Rattle.std.specs.Prelude.{unwrap_or}
use Rattle.std.specs.List.{position_or_len}
use Rattle.std.proofs.lemmas.List.Sums.{prefix_len-le-length}
use Rattle.geo_base.specs.declared.layer.LayerKey.{LayerKey}
use Rattle.geo_base.specs.Layers.{is_same_key}
use Rattle.gds_layout.proofs.Tables.{or_len}
use Rattle.gds_layout.proofs.keys.KeyTable.number.Goals as goal

pub returns : goal.returns
returns c =
    let place =
    c.unwrap_or.ensures
    ∙ ap (λ (n : ℕ). unwrap_or c.get_index_of.result n) c.len.ensures.len
    ∙ ap (λ (o : Option ℕ). unwrap_or o (length c.self.inside.keys.keys)) c.get_index_of.ensures.index
    ∙ or_len _ (length c.self.inside.keys.keys) _ refl (prefix_len-le-length _ c.self.inside.keys.keys)
    ∙ ap (λ (ks : List LayerKey). position_or_len (is_same_key c.args.key) ks) c.self.view_is in
    record { place = place; within = rw place (prefix_len-le-length _ c.args.self.now) }
