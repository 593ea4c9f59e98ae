use Rattle.std.proofs.Common.{ℕ, List, ap, refl, subst, sym}
use Rattle.std.specs.Option.{option_map}
use Rattle.net_model.specs.Rows.{plain_netlist}
use Rattle.rule_text.specs.Seen.{rules_seen}
use Rattle.view_cross.specs.Whole.{AreWhole}
use Rattle.view_cross.specs.declared.rows.Row.{Row}
use Rattle.view_file.specs.Cross.{lists_of}
use Rattle.view_run.specs.Views.{IsPageAsked, shown_lefts, shown_rights}
use Rattle.view_run.proofs.Assembled.{database_as}
use Rattle.view_run.proofs.Shown.{whole_lists}
use Rattle.view_run.proofs.making.view_compared.Goals as goal

pub write_database-requires-clause-whole : goal.write_database-requires-clause-whole
write_database-requires-clause-whole c =
    let one = plain_netlist c.args.showing.now.both.now.layout in
    let two = plain_netlist c.args.showing.now.both.now.schematic in
    let o = c.args.showing.now.compared.now in
    subst (λ (ls : List (List Row)). AreWhole (shown_lefts one o) (shown_rights two o) ls) (sym (ap lists_of c.deref.ensures.value)) (whole_lists one two o _ c.in_ok-rows.ensures.whole)

pub returns-clause-written : goal.returns-clause-written
returns-clause-written c =
    let l = c.args.showing.now.layout.now in
    let p = c.args.showing.now.picture.now in
    let o = c.args.showing.now.compared.now in
    let one = plain_netlist c.args.showing.now.both.now.layout in
    let two = plain_netlist c.args.showing.now.both.now.schematic in
    let rows = lists_of c.in_ok-rows.rows.items in
    let page = option_map (λ text. text.items) c.in_ok-page.page in
    record {
      rows = rows;
      proposed = c.in_ok-rows.ensures.proposed;
      database = database_as l (rules_seen c.args.showing.now.rules.now) p one two o c.circuit_name-name.result.now _ c.args.told.bad.now c.args.told.bad.now (lists_of c.deref.result.now) rows c.in_ok-text.text.items c.circuit_name-name.ensures refl
          (ap lists_of c.deref.ensures.value) c.in_ok-text.ensures;
      page_is = subst (λ (ls : List (List Row)). IsPageAsked c.args.told.paged l.header.unit_pm p o ls page) (ap lists_of c.deref-2.ensures.value) c.in_ok-page.ensures;
    }
