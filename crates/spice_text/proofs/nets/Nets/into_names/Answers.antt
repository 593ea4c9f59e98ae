use Rattle.std.proofs.Common.{◌≡◌, ◌∙◌, ◌∷◌, ◌++◌, [], ◌<◌, List, ℕ, map, length, sym, ap}
use Rattle.std.specs.Global.{Vec}
use Rattle.std.proofs.lemmas.List.{append_assoc}
use Rattle.std.proofs.lemmas.List.Elements.{All-head, All-tail, All-same}
use Rattle.spice_text.proofs.nets.Nets.into_names.Goals as goal

abbrev texts_of : List (Vec ℕ) → List (List ℕ)
texts_of texts = map (λ text. text.items) texts

next_name : (names new before rest table : List (List ℕ)) (name text : List ℕ) → new ≡ names ++ name ∷ [] → name ≡ text → before ≡ text ∷ rest → names ++ before ≡ table → new ++ rest ≡ table
next_name names new before rest table name text en et eb h =
    ap (λ (l : List (List ℕ)). l ++ rest) en ∙ append_assoc names (name ∷ []) rest ∙ ap (λ (v : List ℕ). names ++ v ∷ rest) et ∙ ap (λ (l : List (List ℕ)). names ++ l) (sym eb) ∙ h

pub from_vec-requires : goal.from_vec-requires
from_vec-requires c =
    let step : texts_of c.texts.text-iterator.rest.items ≡ c.in-Some.text.items ∷ texts_of c.next.new.self.rest.items = ap texts_of c.in-Some.ensures.steps.0 in
    All-head (λ name. 0 < length name) c.in-Some.text.items (texts_of c.next.new.self.rest.items) (All-same (λ name. 0 < length name) _ _ (sym step) c.texts.invariant.1)

pub texts-preserved : goal.texts-preserved
texts-preserved c =
    let rest = texts_of c.next.new.self.rest.items in
    let step : texts_of c.texts.text-iterator.rest.items ≡ c.in-Some.text.items ∷ rest = ap texts_of c.in-Some.ensures.steps.0 in (
      next_name c.texts.names.items c.push.new.self.items (texts_of c.texts.text-iterator.rest.items) rest c.args.self.table c.from_vec.result c.in-Some.text.items c.in_ok-push.ensures.items c.from_vec.ensures step c.texts.invariant.0,
      All-tail (λ name. 0 < length name) c.in-Some.text.items rest (All-same (λ name. 0 < length name) _ _ (sym step) c.texts.invariant.1),
    )
