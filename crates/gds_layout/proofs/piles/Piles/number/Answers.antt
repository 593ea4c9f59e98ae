use Rattle.std.proofs.Common.{◌≡◌, ◌<◌, ℕ, List, [], ◌∷◌, ◌++◌, length, refl, sym, ap, subst, ◌∙◌, arith}
use Rattle.std.specs.List.{All, list_any, position_or_len}
use Rattle.std.proofs.lemmas.List.Elements.{All-nil, All-push}
use Rattle.geo_base.specs.Layers.{is_same_key}
use Rattle.geo_base.specs.Rects.{IsRect}
use Rattle.geo_base.specs.declared.layer.LayerKey.{LayerKey}
use Rattle.gds_layout.specs.declared.piles.Laid.TheVariants.{Nothing}
use Rattle.gds_layout.specs.declared.piles.Pile.{Pile}
use Rattle.gds_layout.specs.Piles.{rects_of, keys_of, IsPileAt, AreDifferent}
use Rattle.gds_layout.proofs.Piling.{map_length, absent, found, different_more, keys_more, last_pile, has_already, key_added, key_among}
use Rattle.gds_layout.proofs.piles.Piles.number.Goals as goal

pub add-requires : goal.add-requires
add-requires c =
    let was = c.requires in
    let many : length c.args.self.now.keys ≡ length c.args.self.now.list.items = ap (λ (ks : List LayerKey). length ks) (sym was.keys_are) ∙ map_length c.args.self.now.list.items in
    let len = c.args.self.now.list.ok.0 in
    absent c.args.key c.args.self.now.keys (sym c.number-number.ensures.place ∙ c.if-number-len.true ∙ c.len.ensures ∙ len ∙ sym many)

pub returns-in_ok-push-clause-piles : goal.returns-in_ok-push-clause-piles
returns-in_ok-push-clause-piles c =
    let was = c.requires in
    let list = c.args.self.now.list.items in
    let key = c.args.key in
    let many : length c.args.self.now.keys ≡ length list = ap (λ (ks : List LayerKey). length ks) (sym was.keys_are) ∙ map_length list in
    let none = absent key c.args.self.now.keys (sym c.number-number.ensures.place ∙ c.if-number-len.true ∙ c.len.ensures ∙ c.args.self.now.list.ok.0 ∙ sym many) in
    let p : Pile = record { key = key; laid = Nothing } in
    let items : c.push.new.self.items ≡ list ++ p ∷ [] = c.in_ok-push.ensures.items in
    record {
      keys_are = ap keys_of items ∙ keys_more list p ∙ ap (λ (ks : List LayerKey). ks ++ key ∷ []) was.keys_are ∙ sym c.in_ok-add.ensures;
      different = subst AreDifferent (sym c.in_ok-add.ensures) (different_more c.args.self.now.keys key was.different none);
      sound =
          let P : Pile → Type 0 = λ q. All IsRect (rects_of q) in
          subst (λ (ps : List Pile). All P ps) (sym items) (All-push P list p was.sound (All-nil IsRect));
    }

pub returns-in_ok-push-clause-here : goal.returns-in_ok-push-clause-here
returns-in_ok-push-clause-here c =
    let list = c.args.self.now.list.items in
    let p : Pile = record { key = c.args.key; laid = Nothing } in
    subst (λ (ps : List Pile). IsPileAt ps c.args.key c.number-number.result) (sym c.in_ok-push.ensures.items)
    (last_pile list p c.args.key c.number-number.result (c.if-number-len.true ∙ c.len.ensures ∙ c.args.self.now.list.ok.0) refl)

pub returns-else-number-len-clause-here : goal.returns-else-number-len-clause-here
returns-else-number-len-clause-here c =
    let was = c.requires in
    let list = c.args.self.now.list.items in
    let place : c.number-number.result ≡ position_or_len (is_same_key c.args.key) (keys_of list) = c.number-number.ensures.place ∙ ap (λ (ks : List LayerKey). position_or_len (is_same_key c.args.key) ks) (sym was.keys_are) in
    let many : length c.args.self.now.keys ≡ length list = ap (λ (ks : List LayerKey). length ks) (sym was.keys_are) ∙ map_length list in
    let lt : c.number-number.result < length list = omega (arith, c.if-number-len.false, c.number-number.ensures.within, many, c.len.ensures, c.args.self.now.list.ok.0) in
    subst (λ (n : ℕ). IsPileAt list c.args.key n) (sym place) (found c.args.key list (subst (λ (n : ℕ). n < length list) place lt))

pub returns-else-number-len-clause-has : goal.returns-else-number-len-clause-has
returns-else-number-len-clause-has c = has_already c.args.self.now.list.items c.args.key c.number-number.result (returns-else-number-len-clause-here c)

pub returns-in_ok-push-clause-keys : goal.returns-in_ok-push-clause-keys
returns-in_ok-push-clause-keys c =
    let was = c.requires in
    let list = c.args.self.now.list.items in
    let key = c.args.key in
    let many : length c.args.self.now.keys ≡ length list = ap (λ (ks : List LayerKey). length ks) (sym was.keys_are) ∙ map_length list in
    let none = absent key c.args.self.now.keys (sym c.number-number.ensures.place ∙ c.if-number-len.true ∙ c.len.ensures ∙ c.args.self.now.list.ok.0 ∙ sym many) in
    let p : Pile = record { key = key; laid = Nothing } in
    let items : c.push.new.self.items ≡ list ++ p ∷ [] = c.in_ok-push.ensures.items in
    ap keys_of items ∙ keys_more list p ∙ key_added (keys_of list) key (ap (λ (ks : List LayerKey). list_any (is_same_key key) ks) was.keys_are ∙ none)

pub returns-else-number-len-clause-keys : goal.returns-else-number-len-clause-keys
returns-else-number-len-clause-keys c = key_among c.args.self.now.list.items c.args.key c.number-number.result (returns-else-number-len-clause-here c)
