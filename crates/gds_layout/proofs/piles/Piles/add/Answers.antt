use Rattle.std.proofs.Common.{Bool, ap, ◌∙◌}
use Rattle.std.specs.Prelude.{◌||◌, ◌&&◌}
use Rattle.geo_base.specs.Layers.{is_same_key}
use Rattle.geo_base.specs.declared.layer.LayerKey.{LayerKey}
use Rattle.rect_sets.specs.Rects.{covers}
use Rattle.gds_layout.specs.Piles.{piles_cover}
use Rattle.gds_layout.proofs.Piling.{gained_keys, gained_sound, gained_covers, gained_has, gained_key}
use Rattle.gds_layout.proofs.piles.Piles.add.Goals as goal

pub returns-clause-piles : goal.returns-clause-piles
returns-clause-piles c =
    let was = c.in_ok-number.ensures.piles in
    let g = c.in_ok-lay_on.ensures in
    let more = c.in_ok-set.set in
    record {
      keys_are = gained_keys c.in_ok-number.number more c.number.new.self.list.items c.lay_on.new.list.items g ∙ was.keys_are;
      different = was.different;
      sound = gained_sound c.in_ok-number.number more c.number.new.self.list.items c.lay_on.new.list.items g was.sound c.rects-sound.ensures.sound;
    }

pub returns-clause-covers : goal.returns-clause-covers
returns-clause-covers c k s =
    let g = c.in_ok-lay_on.ensures in
    let more = c.in_ok-set.set in
    let list = c.number.new.self.list.items in
    let key = gained_key c.in_ok-number.number more list c.lay_on.new.list.items c.args.shape.now.key g c.in_ok-number.ensures.here in
    gained_covers c.in_ok-number.number more list c.lay_on.new.list.items g k s
    ∙ ap (λ (b : Bool). b || (is_same_key g.before.key k && covers more s)) (c.in_ok-number.ensures.covers k s)
    ∙ ap (λ (q : LayerKey). piles_cover c.args.self.now.list.items k s || (is_same_key q k && covers more s)) key
    ∙ ap (λ (b : Bool). piles_cover c.args.self.now.list.items k s || (is_same_key c.args.shape.now.key k && b))
    (c.in_ok-set.ensures s)

pub returns-clause-has : goal.returns-clause-has
returns-clause-has c k =
    let g = c.in_ok-lay_on.ensures in
    gained_has c.in_ok-number.number c.in_ok-set.set c.number.new.self.list.items c.lay_on.new.list.items g k ∙ c.in_ok-number.ensures.has k

pub returns-clause-keys : goal.returns-clause-keys
returns-clause-keys c =
    gained_keys c.in_ok-number.number c.in_ok-set.set c.number.new.self.list.items c.lay_on.new.list.items c.in_ok-lay_on.ensures ∙ c.in_ok-number.ensures.keys
