use Rattle.std.proofs.Common.{rules, Global, List, Vec, ◌≡◌, ◌∷◌, ◌∙◌, [], ℕ, ap, map, subst, sym, arith}
use Rattle.std.proofs.lemmas.List.{map_push}
use Rattle.deep_tables.specs.Pins.{name_in}
use Rattle.pin_phase.proofs.Marking.{AreBasesTo, bases_all, bases_more, nothing}
use Rattle.pin_phase.proofs.sets.NetTags.bases.Goals as goal

pub loop-tags-preserved : goal.loop-tags-preserved
loop-tags-preserved c =
    let f : Vec (List ℕ) Global → List (List ℕ) = λ v. v.items in
    let rest = c.loop-tags.tags-iterator.rest.items in let tail = c.next.new.self.rest.items in
    let s : rest ≡ c.in-Some.tags ∷ tail = search rules in
    let e : map f rest ≡ c.in-Some.tags.items ∷ map f tail = ap (map f) s in
    let pushed = ap (map name_in) c.in_ok-push.ensures.items ∙ map_push name_in c.loop-tags.names.items c.in_ok-name.name in
    subst (AreBasesTo c.args.self (map f tail)) (sym pushed) (bases_more c.args.self (map f rest) (map f tail) c.in-Some.tags.items (map name_in c.loop-tags.names.items) (name_in c.in_ok-name.name) e c.in_ok-name.ensures c.loop-tags.invariant)

pub returns : goal.returns
returns c =
    let f : Vec (List ℕ) Global → List (List ℕ) = λ v. v.items in
    let long = c.loop-tags.tags-iterator.rest.ok.0 in let none = c.in-None.ensures.steps.0 in
    let s : c.loop-tags.tags-iterator.rest.items ≡ [] = nothing c.loop-tags.tags-iterator.rest.items (omega (arith, long, none)) in
    bases_all c.args.self (map f c.loop-tags.tags-iterator.rest.items) (map name_in c.loop-tags.names.items) (ap (map f) s) c.loop-tags.invariant
