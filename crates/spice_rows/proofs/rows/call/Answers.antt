use Rattle.std.proofs.Common.{◌≡◌, sym, ◌∙◌, rules, Some}
use Rattle.spice_cards.specs.Seen.{words_seen, params_seen}
use Rattle.spice_rows.specs.Names.{names_of}
use Rattle.spice_rows.proofs.NameLemmas.{call_is, refused_is}
use Rattle.spice_rows.proofs.rows.call.Goals as goal

pub returns-then-has_other : goal.returns-then-has_other
returns-then-has_other c =
    let e : names_of (words_seen c.args.words.now) ≡ Some c.in-Some.nets.items = search rules in
    refused_is c.args.line _ c.in-Some.nets.items c.pop.new.self.items c.in-Some-pop.circuit (params_seen c.args.params.now) e c.in-Some-pop.ensures.items (sym c.has_other.ensures ∙ c.if-has_other.true)

pub returns : goal.returns
returns c =
    let e : names_of (words_seen c.args.words.now) ≡ Some c.in-Some.nets.items = search rules in
    call_is c.args.line _ c.in-Some.nets.items c.pop.new.self.items c.in-Some-pop.circuit (params_seen c.args.params.now) e c.in-Some-pop.ensures.items (sym c.has_other.ensures ∙ c.if-has_other.false)
