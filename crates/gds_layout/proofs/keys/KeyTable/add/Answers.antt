use Rattle.std.proofs.Common.{List, [], ◌∷◌, ◌++◌, ap, ◌∙◌}
use Rattle.std.specs.List.{list_any}
use Rattle.geo_base.specs.declared.layer.LayerKey.{LayerKey}
use Rattle.geo_base.specs.Layers.{is_same_key}
use Rattle.gds_layout.proofs.Tables.{pushed}
use Rattle.gds_layout.proofs.keys.KeyTable.add.Goals as goal

pub returns : goal.returns
returns c =
    c.in_ok-insert.ensures.keys
    ∙ pushed (list_any (is_same_key c.args.key) c.self.inside.keys.keys) c.self.inside.keys.keys c.args.key
    (ap (λ (ks : List LayerKey). list_any (is_same_key c.args.key) ks) c.self.view_is ∙ c.requires)
    ∙ ap (λ (ks : List LayerKey). ks ++ c.args.key ∷ []) c.self.view_is
