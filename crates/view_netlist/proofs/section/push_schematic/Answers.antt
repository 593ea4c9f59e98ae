use Rattle.std.proofs.Common.{◌<◌, ◌∙◌, ℕ, List, length, map, subst, sym, ap}
use Rattle.std.specs.List.{All}
use Rattle.net_model.specs.Rows.{plain_circuit}
use Rattle.view_netlist.specs.Classes.{used_classes}
use Rattle.view_netlist.specs.Kinds.{Class, class_seen}
use Rattle.view_netlist.specs.Section.{IsSectionText}
use Rattle.view_netlist.proofs.Orders.{order_there}
use Rattle.view_netlist.proofs.section.push_schematic.Goals as goal

pub push_section-requires : goal.push_section-requires
push_section-requires c =
    subst (λ (ks : List ℕ). All (λ k. k < length c.args.circuits.now) ks) (sym c.deref-2.ensures.value) (order_there c.args.circuits.now c.in_ok-order.order.items c.in_ok-order.ensures)

pub returns : goal.returns
returns c =
    let cs = map plain_circuit c.args.circuits.now in
    let names = c.in_ok-names.names in
    let text = c.in_ok-push_section.ensures in
    let classes = ap (map class_seen) c.deref.ensures.value ∙ c.in_ok-classes.ensures in (
      text.0,
      text.1,
      record {
        names = names;
        own = c.in_ok-names.ensures;
        order = c.in_ok-order.order.items;
        callees_first = c.in_ok-order.ensures;
        is = subst (λ (ks : List ℕ). IsSectionText names (used_classes cs) cs ks text.0) c.deref-2.ensures.value (subst (λ (ts : List Class). IsSectionText names ts cs c.deref-2.result.now text.0) classes text.2);
      },
    )
