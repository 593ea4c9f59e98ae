use Rattle.std.proofs.Common.{rules, ◌≡◌, subst, true, false, IfErr, OnOk, Result, Ok, Err}
use Rattle.spice_cards.specs.Seen.{params_seen, words_seen}
use Rattle.netlist_turn.specs.CardLaw.{kept_words}
use Rattle.netlist_turn.specs.DevicesSeen.{device_seen, keys_seen}
use Rattle.netlist_turn.specs.Listed.{has_nets, has_odd_count}
use Rattle.netlist_turn.specs.Made.{Made}
use Rattle.netlist_turn.specs.Seen.{seen, SaysFault}
use Rattle.netlist_turn.specs.Turning.{device_said}
use Rattle.netlist_turn.specs.declared.fault.TurnFault.{TurnFault}
use Rattle.netlist_turn.specs.declared.fault.TurnFault.TheVariants.{DeviceNets, OddCount}
use Rattle.netlist_turn.proofs.DeviceLemmas.{none_wrong}
use Rattle.netlist_turn.proofs.listed.take_netted.Goals as goal

pub returns-clause-made : goal.returns-clause-made
returns-clause-made c =
    let long : has_nets c.args.head.row (device_seen c.args.device.now) (kept_words c.args.head.row (words_seen c.args.words.now)) ≡ true = search rules in
    let even : has_odd_count c.args.settings.now (keys_seen c.args.device.now.keys.items) (params_seen c.args.params.now) ≡ false = search rules in
    subst (λ (r : Result Made TurnFault). OnOk c.take_said.result (r ≡ Ok (seen c.take_said.new.made)))
    (none_wrong (has_nets c.args.head.row (device_seen c.args.device.now) (kept_words c.args.head.row (words_seen c.args.words.now)))
    (has_odd_count c.args.settings.now (keys_seen c.args.device.now.keys.items) (params_seen c.args.params.now)) (Err (DeviceNets c.args.head.line)) (Err (OddCount c.args.head.line))
    (device_said c.args.settings.now c.args.head.row c.args.kind (device_seen c.args.device.now) (seen c.args.made.now) c.args.head.line c.args.head.first.now (words_seen c.args.words.now) (params_seen c.args.params.now)) long even)
    c.take_said.ensures.made

pub returns-clause-fault : goal.returns-clause-fault
returns-clause-fault c =
    let long : has_nets c.args.head.row (device_seen c.args.device.now) (kept_words c.args.head.row (words_seen c.args.words.now)) ≡ true = search rules in
    let even : has_odd_count c.args.settings.now (keys_seen c.args.device.now.keys.items) (params_seen c.args.params.now) ≡ false = search rules in
    subst (λ (r : Result Made TurnFault). IfErr c.take_said.result (λ e. SaysFault e r))
    (none_wrong (has_nets c.args.head.row (device_seen c.args.device.now) (kept_words c.args.head.row (words_seen c.args.words.now)))
    (has_odd_count c.args.settings.now (keys_seen c.args.device.now.keys.items) (params_seen c.args.params.now)) (Err (DeviceNets c.args.head.line)) (Err (OddCount c.args.head.line))
    (device_said c.args.settings.now c.args.head.row c.args.kind (device_seen c.args.device.now) (seen c.args.made.now) c.args.head.line c.args.head.first.now (words_seen c.args.words.now) (params_seen c.args.params.now)) long even)
    c.take_said.ensures.fault
