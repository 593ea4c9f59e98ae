use Rattle.std.proofs.Common.{◌≡◌, ◌<◌, ◌^◌, ◌∙◌, ℕ, None, ap, get_or, length, sym, subst}
use Rattle.cell_graph.specs.Linked.{Linked, plain}
use Rattle.deep_tables.proofs.Finding.{some_at}
use Rattle.deep_tables.specs.Entries.{entry}
use Rattle.deep_tables.specs.Jobs.{AreFreeJobs}
use Rattle.deep_tables.specs.Layers.{AreLayers}
use Rattle.deep_tables.specs.Nets.{AreCellNets}
use Rattle.flat_layout.specs.Layout.{IsReached}
use Rattle.gate_phase.proofs.work.DeviceWork.new.Goals as goal
use Rattle.gate_phase.specs.Judged.{rule_grounds}
use Rattle.net_phase.proofs.Knowing.{right_known}
use Rattle.net_phase.specs.Reading.{nets_of}
use Rattle.rule_layers.specs.Meaning.{device_rules}
use Rattle.rule_text.specs.Reaches.{reaches}
use Rattle.rule_text.specs.Seen.{rules_seen}
use Rattle.rule_text.specs.declared.rules.RuleSet.{RuleSet}

pub known_nets-requires : goal.known_nets-requires
known_nets-requires c cell reached =
    let w = c.args.wired.now in
    some_at (AreCellNets (plain w.design) (rules_seen w.rules) cell) _ (c.requires.nets cell (subst (λ (x : Linked). IsReached (plain x) cell) c.design-design.ensures reached))

pub invariant_of-result : goal.invariant_of-result
invariant_of-result c =
    let w = c.args.wired.now in let d = w.design in let r = rules_seen w.rules in
    let known = nets_of c.in_ok-known.known.items in
    record {
      few = subst (λ (x : RuleSet). length (device_rules (rules_seen x)) < 2 ^ 32) c.rules-rules.ensures c.in_ok-device_count.ensures.few;
      zones = c.requires.zones;
      layers = record {
        table = subst (AreLayers (plain d) r) (sym c.in_ok-indexed.ensures.table) c.requires.layers;
        reaches = c.in_ok-indexed.ensures.reaches ∙ ap (λ (x : RuleSet). reaches x.names.items) c.rules-rules.ensures;
      };
      grounds = c.in_ok-grounds.ensures ∙ ap (λ (x : RuleSet). rule_grounds (rules_seen x)) c.rules-rules.ensures;
      nets = right_known d r w.own c.args.nets.now known c.sound.ensures.own c.requires.nets
          (subst (λ (x : Linked). (cell : ℕ) → IsReached (plain x) cell → get_or known cell None ≡ entry c.args.nets.now cell) c.design-design.ensures c.in_ok-known.ensures);
      graph = subst (λ (x : Linked). AreFreeJobs x c.in_ok-graph.graph) c.design-design.ensures c.in_ok-graph.ensures;
    }
