use Rattle.std.proofs.Common.{◌≡◌, ◌∙◌, ℕ, List, None, Option, ap, get_or, sym, subst}
use Rattle.std.specs.Borrow.{Bor}
use Rattle.cell_graph.specs.Linked.{IsSound, Linked, plain}
use Rattle.deep_tables.proofs.Finding.{some_at}
use Rattle.deep_tables.proofs.Together.{right_gates}
use Rattle.deep_tables.specs.Entries.{entry}
use Rattle.deep_tables.specs.Gates.{gates_of}
use Rattle.deep_tables.specs.Nets.{AreCellNets}
use Rattle.deep_tables.specs.declared.nets.CellNets.{CellNets}
use Rattle.flat_layout.specs.Layout.{IsReached}
use Rattle.net_phase.proofs.Knowing.{right_known}
use Rattle.net_phase.proofs.Righting.{tables_by}
use Rattle.net_phase.specs.Below.{BelowSeen, tables_seen, wiring_seen}
use Rattle.net_phase.specs.Reading.{nets_of}
use Rattle.net_phase.specs.Wired.{with_nets}
use Rattle.rule_layers.specs.Meaning.{globals_of, labels_of}
use Rattle.rule_text.specs.Seen.{rules_seen}
use Rattle.rule_text.specs.declared.rules.RuleSet.{RuleSet}
use Rattle.zone_phase.specs.Graph.{AreParentJobs}
use Rattle.pin_phase.specs.Links.{AreKnownGates, AreKnownNets, AreLinks, lists_of}
use Rattle.pin_phase.proofs.Making.{gates_all, known_all}
use Rattle.pin_phase.proofs.phase.PinPhase.new.Goals as goal

pub known_nets-requires : goal.known_nets-requires
known_nets-requires c cell reached =
    let w = c.args.wired.now in
    some_at (AreCellNets (plain w.design) (rules_seen w.rules) cell) _ (c.requires.nets cell (subst (λ (x : Linked). IsReached (plain x) cell) c.design-design.ensures reached))

pub find_links-requires-clause-design : goal.find_links-requires-clause-design
find_links-requires-clause-design c = ap (λ (z : BelowSeen). plain z.design) c.below-cells.ensures ∙ ap (λ (x : Linked). plain x) (sym c.design-design.ensures)

pub find_links-requires-clause-nets : goal.find_links-requires-clause-nets
find_links-requires-clause-nets c =
    let w = c.args.wired.now in let d = w.design in let r = rules_seen w.rules in
    let known = nets_of c.in_ok-known.known.items in
    let same = c.below-cells.ensures ∙ ap (λ (l : List (Option (Bor CellNets))). with_nets w (nets_of l)) c.deref.ensures.value in
    let sound = subst (λ (x : Linked). IsSound x) c.design-design.ensures c.sound-2.ensures in
    let each = subst (λ (x : Linked). (cell : ℕ) → IsReached (plain x) cell → get_or known cell None ≡ entry c.args.nets.now cell) c.design-design.ensures c.in_ok-known.ensures in
    let right = right_known d r w.own c.args.nets.now known c.sound.ensures.own c.requires.nets each in
    subst (λ (x : Linked). AreKnownNets (plain x) (wiring_seen c.below-cells.result) (tables_seen c.below-cells.result) c.args.nets.now) (sym c.design-design.ensures)
    (subst (λ (z : BelowSeen). AreKnownNets (plain d) (wiring_seen z) (tables_seen z) c.args.nets.now) (sym same) (known_all d r w.own c.args.nets.now known sound c.sound.ensures.rules c.requires.nets each right))

pub find_links-requires-clause-gates : goal.find_links-requires-clause-gates
find_links-requires-clause-gates c =
    let w = c.args.wired.now in let d = w.design in let r = rules_seen w.rules in
    let known = nets_of c.in_ok-known.known.items in
    let same = c.below-cells.ensures ∙ ap (λ (l : List (Option (Bor CellNets))). with_nets w (nets_of l)) c.deref.ensures.value in
    let sound = subst (λ (x : Linked). IsSound x) c.design-design.ensures c.sound-2.ensures in
    let each = subst (λ (x : Linked). (cell : ℕ) → IsReached (plain x) cell → get_or known cell None ≡ entry c.args.nets.now cell) c.design-design.ensures c.in_ok-known.ensures in
    let right = right_known d r w.own c.args.nets.now known c.sound.ensures.own c.requires.nets each in
    subst (λ (x : Linked). AreKnownGates (plain x) (tables_seen c.below-cells.result) c.args.gates.now) (sym c.design-design.ensures)
    (subst (λ (z : BelowSeen). AreKnownGates (plain d) (tables_seen z) c.args.gates.now) (sym same) (gates_all d r w.own known c.args.gates.now sound c.sound.ensures.rules c.requires.gates right))

pub invariant_of-result : goal.invariant_of-result
invariant_of-result c =
    let w = c.args.wired.now in let d = w.design in let r = rules_seen w.rules in
    let known = nets_of c.in_ok-known.known.items in
    let same = c.below-cells.ensures ∙ ap (λ (l : List (Option (Bor CellNets))). with_nets w (nets_of l)) c.deref.ensures.value in
    let each = subst (λ (x : Linked). (cell : ℕ) → IsReached (plain x) cell → get_or known cell None ≡ entry c.args.nets.now cell) c.design-design.ensures c.in_ok-known.ensures in
    let right = right_known d r w.own c.args.nets.now known c.sound.ensures.own c.requires.nets each in
    record {
      lines = c.in_ok-lines.ensures ∙ ap (λ (x : RuleSet). labels_of (rules_seen x)) c.rules-rules.ensures;
      globals = c.in_ok-globals.ensures ∙ ap (λ (x : RuleSet). globals_of (rules_seen x)) c.rules-rules.ensures;
      nets = right;
      gates = gates_of c.args.gates.now;
      right = right_gates (plain d) r (tables_by w.own known) c.args.gates.now right c.requires.gates;
      links = subst (λ (x : Linked). AreLinks x (tables_seen (with_nets w known)) (gates_of c.args.gates.now) (lists_of c.in_ok-links.links.items)) c.design-design.ensures
          (subst (λ (z : BelowSeen). AreLinks c.design-design.result.now (tables_seen z) (gates_of c.args.gates.now) (lists_of c.in_ok-links.links.items)) same c.in_ok-links.ensures);
      graph = subst (λ (x : Linked). AreParentJobs x c.in_ok-graph.graph) c.design-design.ensures c.in_ok-graph.ensures;
    }
