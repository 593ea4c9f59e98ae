use Rattle.std.proofs.Common.{ℕ, List, [], ◌∷◌, ◌++◌, map, Vec, Global, ap, ◌∙◌}
use Rattle.net_model.specs.Rows.{plain_circuit, plain_netlist}
use Rattle.part_origins.specs.Inside.{plain_inside}
use Rattle.part_origins.specs.Made.{held_of, origins_of}
use Rattle.part_origins.proofs.origins.add_origins.Goals as goal

pub returns-clause-held : goal.returns-clause-held
returns-clause-held c =
    let g = plain_netlist c.args.source.now.written.now in
    let old = map (λ (p : Vec ℕ Global). p.items) c.args.held.now.items in
    c.in_ok-add_pins.ensures
    ∙ ap (λ (pins : List ℕ). old ++ pins ∷ [])
    (c.in_ok-held_of.ensures
    ∙ ap (held_of g c.args.c)
    (c.deref-2.ensures.value
    ∙ (c.in_ok-one.ensures.nets
    ∙ ap (λ (h : List (Vec ℕ Global)). (origins_of g (map plain_inside c.args.source.now.insides.now) c.args.source.now.numbers.now (map (λ (p : Vec ℕ Global). p.items) h) c.args.c (plain_circuit c.args.aligned.now)).nets) c.deref.ensures.value)))
