use Rattle.std.proofs.Common.{ℕ, List, ◌∙◌, ap, get_or, map}
use Rattle.rule_text.specs.Reaches.{reaches}
use Rattle.rule_text.specs.Seen.{rules_seen}
use Rattle.rule_text.specs.declared.rules.LayerRule.{LayerRule}
use Rattle.rule_text.specs.declared.rules.Output.{Output}
use Rattle.rule_layers.specs.Formulas.{greatest}
use Rattle.layout_shapes.proofs.Furthest.{by_reaches}
use Rattle.layout_shapes.proofs.reach.output_reach.Goals as goal

pub returns : goal.returns
returns c =
    let r = rules_seen c.args.rules.now in
    c.furthest.ensures
    ∙ ap (λ (ns : List ℕ). greatest (map (λ (o : Output). get_or ns o.layer 0) c.deref-2.result.now)) c.deref-3.ensures.value
    ∙ ap (λ (os : List Output). greatest (map (λ (o : Output). get_or c.in_ok-found.found.items o.layer 0) os)) c.deref-2.ensures.value
    ∙ by_reaches r c.in_ok-found.found.items (c.in_ok-found.ensures ∙ ap (λ (ns : List LayerRule). reaches ns) c.deref.ensures.value)
