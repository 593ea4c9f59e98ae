use Rattle.std.proofs.Common.{◌≡◌, ◌<◌, ◌++◌, ◌∷◌, [], length, sym, ◌∙◌, arith, rules}
use Rattle.std.proofs.lemmas.Grind.{common_steps}
use Rattle.net_names.proofs.Spelling.{read_on, read_badly}
use Rattle.net_names.proofs.escapes.unescape.Goals as goal

pub returns-in-None-clause-bad : goal.returns-in-None-clause-bad
returns-in-None-clause-bad c =
    let some : 0 < length c.fronts.rest.now = search rules in
    λ _. read_badly _ _ _ _ c.fronts.invariant some c.front_of-front.ensures.some
    (sym c.front_of-front.ensures.byte ∙ c.in-None.is) (sym c.front_of-front.ensures.width)

pub fronts-preserved : goal.fronts-preserved
fronts-preserved c =
    let some : 0 < length c.fronts.rest.now = search rules in
    let more : c.push.new.self.items ≡ c.fronts.bytes.items ++ c.in-Some.b ∷ [] = grind (arith, common_steps) in
    read_on _ c.fronts.bytes.items c.fronts.rest.now _ _ c.in-Some.b c.front_of-front.result.width c.fronts.invariant some c.front_of-front.ensures.some
    (sym c.front_of-front.ensures.byte ∙ c.in-Some.is) (sym c.front_of-front.ensures.width) more (grind (arith, common_steps))
