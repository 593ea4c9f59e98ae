use Rattle.std.proofs.Common.{sym, map, subst, List, ℕ}
use Rattle.net_model.specs.Rows.{plain_netlist}
use Rattle.spice_rows.specs.Sizes.{read_limit}
use Rattle.spice_text.specs.Gather.{Circuit}
use Rattle.spice_text.specs.Circuits.{all_of, call_lists}
use Rattle.spice_text.specs.Means.{IsNetlistOf}
use Rattle.spice_text.specs.Ordered.{IsOrdered}
use Rattle.spice_text.specs.Seen.{cards_seen, circuit_seen}
use Rattle.spice_text.proofs.PinLemmas.{normal_is}
use Rattle.spice_text.proofs.SoundLemmas.{sound_is}
use Rattle.spice_text.specs.Faults.{AreOrdered}
use Rattle.call_order.specs.Order.{lists}
use Rattle.spice_text.proofs.read.read_spice.Goals as goal

pub returns-clause-netlist : goal.returns-clause-netlist
returns-clause-netlist c =
    let cards = cards_seen c.in_ok-all.all in
    let o : IsOrdered cards c.in_ok-cards.cards = c.in_ok-cards.ensures.ordered in
    let n = plain_netlist c.in_ok-netlist.netlist in
    let one = subst (λ (cs : List Circuit). IsNetlistOf cs c.in_ok-cards.cards.globals.items n) o.circuits c.in_ok-netlist.ensures in
    record {
      cards = cards;
      read = c.in_ok-all.ensures.cards;
      ended = o.ended;
      one = o.order.one;
      called = o.order.called;
      counts = o.order.counts;
      cycles = c.order_laws.ensures.no_cycle (call_lists (all_of cards)) c.in_ok-cards.cards.order.items o.order.in_order;
      netlist = subst (λ (gs : List (List ℕ)). IsNetlistOf (all_of cards) gs n) o.globals one;
    }

pub returns-clause-normal : goal.returns-clause-normal
returns-clause-normal c =
    let cards = cards_seen c.in_ok-all.all in
    let o : IsOrdered cards c.in_ok-cards.cards = c.in_ok-cards.ensures.ordered in
    let n = plain_netlist c.in_ok-netlist.netlist in
    let one = subst (λ (cs : List Circuit). IsNetlistOf cs c.in_ok-cards.cards.globals.items n) o.circuits c.in_ok-netlist.ensures in
    let made = subst (λ (gs : List (List ℕ)). IsNetlistOf (all_of cards) gs n) o.globals one in
    normal_is read_limit c.args.bytes.now cards made.needed n c.in_ok-all.ensures.cards made.needs made.rows

pub returns-clause-sound : goal.returns-clause-sound
returns-clause-sound c =
    let cs = map circuit_seen c.in_ok-cards.cards.circuits.items in
    let o : IsOrdered (cards_seen c.in_ok-all.all) c.in_ok-cards.cards = c.in_ok-cards.ensures.ordered in
    let made = c.in_ok-netlist.ensures in
    let order = subst (λ (x : List Circuit). AreOrdered x c.in_ok-cards.cards.names (lists c.in_ok-cards.cards.calls.items) c.in_ok-cards.cards.order.items) (sym o.circuits) o.order in
    sound_is cs made.needed (plain_netlist c.in_ok-netlist.netlist) order.one order.called order.counts
    (c.order_laws.ensures.no_cycle (call_lists cs) c.in_ok-cards.cards.order.items order.in_order) c.call_list_laws.ensures made.rows
