use Rattle.std.proofs.Common.{rules, ◌++◌, ◌∙◌, ap}
use Rattle.std.proofs.lemmas.Fn.{filter_same}
use Rattle.cell_graph.proofs.layering.replaced.Goals as goal

pub returns : goal.returns
returns c = c.in_ok-append.ensures.items ∙ ap (λ l. l ++ c.args.further.items) (filter_same _ _ _ (λ x b f' k. search rules) _ _ c.retain.ensures.filtered)
