use Rattle.std.proofs.Common.{Global, List, Vec, ◌≡◌, ◌<◌, ◌∷◌, ◌++◌, [], ℕ, ◌∙◌, ap, get_or, length, map, subst, sym}
use Rattle.std.specs.Prelude.{set}
use Rattle.pin_phase.specs.Sets.{Adds}
use Rattle.pin_phase.proofs.Tagging.{adds_one}
use Rattle.pin_phase.proofs.sets.NetTags.add.Goals as goal

pub returns : goal.returns
returns c =
    let xs = c.self.inside.lists.items in let n = c.args.net in let tag = c.args.tag in
    let old = c.index_mut.result.now in let new = c.push.new.self in
    let value : new.items ≡ (get_or xs n old).items ++ tag ∷ [] = c.in_ok-push.ensures.items ∙ ap (λ (v : Vec (List ℕ) Global). v.items ++ tag ∷ []) c.index_mut.ensures.value in
    let fit : n < length (map (λ (v : Vec (List ℕ) Global). v.items) xs) = subst (λ (l : List (List (List ℕ))). n < length l) (sym c.self.view_is) c.requires in
    subst (λ (l : List (List (List ℕ))). Adds (λ (x : ℕ) (s : List ℕ). (x ≡ n) × (s ≡ tag)) l (map (λ (v : Vec (List ℕ) Global). v.items) (set xs n new))) c.self.view_is (adds_one (λ (v : Vec (List ℕ) Global). v.items) xs n new old tag fit value)
