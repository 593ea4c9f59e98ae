use Rattle.std.proofs.Common.{◌≡◌, ◌∙◌, ◌++◌, [], ◌∷◌, map, ap}
use Rattle.std.proofs.lemmas.List.{map_push}
use Rattle.net_walk.specs.declared.globals.Grounded.{Grounded}
use Rattle.rule_layers.specs.Meaning.{line}
use Rattle.text_table.specs.Texts.{place_of, with_text}
use Rattle.net_phase.proofs.wires.push_ground.Goals as goal
use Rattle.net_phase.specs.Wires.{ground_line}

pub returns-clause-names : goal.returns-clause-names
returns-clause-names c = c.in_ok-at.ensures.texts ∙ ap (with_text c.args.names.now) c.bytes.ensures.same

pub returns-clause-lines : goal.returns-clause-lines
returns-clause-lines c =
    let old = c.args.lines.now.items in
    let g : Grounded = record { conductor = c.args.global.now.0; global = c.in_ok-place.place } in
    let at : c.in_ok-place.place ≡ place_of c.args.names.now c.args.global.now.1 = c.in_ok-place.ensures.ok ∙ c.in_ok-at.ensures.number ∙ ap (place_of c.args.names.now) c.bytes.ensures.same in
    ap (map ground_line) c.in_ok-push.ensures.items ∙ map_push ground_line old g ∙ ap (λ n. map ground_line old ++ line c.args.global.now.0 n ∷ []) at
