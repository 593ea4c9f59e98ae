use Rattle.std.proofs.Common.{arith, ◌≡◌, ◌∙◌, ◌++◌, ◌∷◌, [], ℕ, List, ap, map, sym, length}
use Rattle.std.proofs.lemmas.List.{length_push, map-append}
use Rattle.rule_text.specs.declared.rules.LayerRule.{LayerRule}
use Rattle.rule_text.specs.Reaches.{reach_by, reaches}
use Rattle.rule_text.proofs.ReachLemmas.{reaches_more}
use Rattle.rule_text.proofs.reader.Reader.define.Goals as goal

pub returns-clause-ready : goal.returns-clause-ready
returns-clause-ready c =
    let ready = c.requires.ready in let names = c.args.self.now.rules.names.items in let form = c.args.form in
    let reach : c.reach_by-reach.result ≡ reach_by (reaches names) form = c.reach_by-reach.ensures ∙ ap (λ (l : List ℕ). reach_by l form) (c.deref.ensures.value ∙ ready.distances) in
    record {
      names = c.in_ok-add.ensures
          ∙ ap (λ (l : List (List ℕ)). l ++ c.args.name.now ∷ []) ready.names
          ∙ ap (λ (w : List ℕ). map (λ (n : LayerRule). n.name) names ++ w ∷ []) (sym c.in_ok-name_of.ensures)
          ∙ sym (map-append (λ (n : LayerRule). n.name) names _)
          ∙ ap (map (λ (n : LayerRule). n.name)) (sym c.in_ok-push-2.ensures.items);
      distances = c.in_ok-push.ensures.items
          ∙ ap (λ (l : List ℕ). l ++ c.reach_by-reach.result ∷ []) ready.distances
          ∙ ap (λ n. reaches names ++ n ∷ []) reach
          ∙ sym (reaches_more names _)
          ∙ ap reaches (sym c.in_ok-push-2.ensures.items);
      keys = ready.keys;
      classes = ready.classes;
      others = ready.others;
      layouts = ready.layouts;
      schematics = ready.schematics;
      flat_layouts = ready.flat_layouts;
      flat_schematics = ready.flat_schematics;
      count = let e = ap length c.in_ok-push-2.ensures.items ∙ length_push names _ in let lt = c.requires.room in omega (arith, e, lt);
      lines = ready.lines;
      other_lines = ready.other_lines;
    }
