use Rattle.std.proofs.Common.{◌≡◌, ◌∙◌, ap, ℕ, List, Option, refl, length, arith}
use Rattle.std.specs.Prelude.{unwrap_or}
use Rattle.std.specs.List.{position_or_len}
use Rattle.std.proofs.lemmas.List.Sums.{prefix_len-le-length}
use Rattle.device_merge.specs.declared.keys.DeviceKey.{DeviceKey}
use Rattle.device_merge.specs.contracts.keys.DeviceKeyPartialEq.TheImpl.{eq-value}
use Rattle.device_merge.proofs.Alike.{as_many, placed, or_len}
use Rattle.device_merge.proofs.keys.Keys.place.Goals as goal

pub returns : goal.returns
returns c gs h =
    let count : c.len-count.result ≡ length c.self.inside.keys.keys = c.len-count.ensures.len in
    let many : length c.args.self.now ≡ length gs = as_many 0 c.args.self.now gs h in
    let all : c.len-count.result ≡ length gs = count ∙ ap (λ (ks : List DeviceKey). length ks) c.self.view_is ∙ many in
    c.unwrap_or.ensures
    ∙ ap (λ (n : ℕ). unwrap_or c.get_index_of.result n) count
    ∙ ap (λ (o : Option ℕ). unwrap_or o (length c.self.inside.keys.keys)) c.get_index_of.ensures.index
    ∙ or_len _ (length c.self.inside.keys.keys) _ refl (prefix_len-le-length _ c.self.inside.keys.keys)
    ∙ ap (λ (ks : List DeviceKey). position_or_len (eq-value.it c.key_of.result) ks) c.self.view_is
    ∙ placed 0 c.len-count.result c.args.self.now gs c.key_of.result _ h (omega arith) c.key_of.ensures
