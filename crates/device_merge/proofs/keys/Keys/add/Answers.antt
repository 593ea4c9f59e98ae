use Rattle.std.proofs.Common.{◌≡◌, ◌∙◌, ap, List, [], ◌∷◌, ◌++◌, length, sym, subst, false, arith}
use Rattle.std.specs.List.{list_any}
use Rattle.net_model.specs.Rows.{plain_device}
use Rattle.device_merge.specs.Keys.{AreKeys, lone}
use Rattle.device_merge.specs.declared.keys.DeviceKey.{DeviceKey}
use Rattle.device_merge.specs.contracts.keys.DeviceKeyPartialEq.TheImpl.{eq-value}
use Rattle.device_merge.proofs.Alike.{absent, as_many, keys_more, placed, pushed}
use Rattle.device_merge.proofs.keys.Keys.add.Goals as goal

pub returns : goal.returns
returns c gs h none place =
    let row = plain_device c.args.row.now in
    let keys = c.args.self.now in
    let many : length keys ≡ length gs = as_many 0 keys gs h in
    let count : c.len.result ≡ length gs = c.len.ensures.len ∙ ap (λ (ks : List DeviceKey). length ks) c.self.view_is ∙ many in
    let out : list_any (eq-value.it c.key_of.result) c.self.inside.keys.keys ≡ false
    = ap (λ (ks : List DeviceKey). list_any (eq-value.it c.key_of.result) ks) c.self.view_is
    ∙ absent keys (eq-value.it c.key_of.result) (placed 0 c.len.result keys gs c.key_of.result row h (omega arith) c.key_of.ensures ∙ none ∙ sym many) in
    let new : c.insert.new.self.keys ≡ keys ++ c.key_of.result ∷ []
    = c.in_ok-insert.ensures.keys
    ∙ pushed (list_any (eq-value.it c.key_of.result) c.self.inside.keys.keys) c.self.inside.keys.keys c.key_of.result out
    ∙ ap (λ (ks : List DeviceKey). ks ++ c.key_of.result ∷ []) c.self.view_is in
    subst (λ (ks : List DeviceKey). AreKeys 0 ks (gs ++ lone place row ∷ [])) (sym new)
    (keys_more 0 c.len.result keys gs c.key_of.result place row h (omega arith) c.key_of.ensures)
