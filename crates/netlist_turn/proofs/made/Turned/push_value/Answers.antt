use Rattle.std.proofs.Common.{◌≡◌, OnOk, subst}
use Rattle.std.specs.Option.{option_copied}
use Rattle.spice_cards.specs.Seen.{param_seen}
use Rattle.netlist_turn.specs.Made.{Made}
use Rattle.netlist_turn.specs.Seen.{seen}
use Rattle.netlist_turn.proofs.SizeLemmas.{value_is}
use Rattle.netlist_turn.proofs.made.Turned.push_value.Goals as goal

pub returns : goal.returns
returns c =
    subst (λ (m : Made). OnOk c.write.result (seen c.write.new.self ≡ m))
    (value_is c.args.settings.now c.args.row (seen c.args.self.now) c.args.line (param_seen c.args.param.now) c.unquoted-plain.result.now c.meant.result.now (option_copied c.in_ok-found.found) c.factor_at-factor.result
    (seen c.unquote.new.self) (seen c.name.new.self) (seen c.push_by_factor.new.self) c.unquoted-plain.ensures c.in_ok-unquote.ensures c.in_ok-found.ensures c.in_ok-name.ensures c.factor_at-factor.ensures c.meant.ensures
    c.in_ok-push_by_factor.ensures) c.write.ensures
