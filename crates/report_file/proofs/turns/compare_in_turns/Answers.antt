use Rattle.std.proofs.Common.{◌≡◌, ◌∙◌, ℕ, Bool, List, [], Option, Some, None, refl, sym, ap, subst}
use Rattle.std.proofs.lemmas.List.{append-nil}
use Rattle.match_flow.proofs.Sided.{none_is}
use Rattle.match_report.specs.declared.report.Compared.{Compared}
use Rattle.net_align.specs.Names.{left_names, right_names}
use Rattle.net_model.specs.Rows.{plain_netlist}
use Rattle.pair_turns.specs.Alone.{all_names, longest}
use Rattle.pair_turns.specs.Seen.{names_in}
use Rattle.plain_netlist.specs.Lists.{AreApart}
use Rattle.report_file.specs.Compared.{IsComparison}
use Rattle.report_file.specs.Taken.{AddsTurn}
use Rattle.report_file.proofs.Taking.{begins, compared_count, compared_sides, ended, fewer, none_of, told_so, went_on}
use Rattle.report_file.proofs.Turned.{lefts_once, rights_once}
use Rattle.report_file.proofs.turns.compare_in_turns.Goals as goal
use Rattle.rule_text.specs.Seen.{rules_seen}

pub turns-init : goal.turns-init
turns-init g c =
    let r = rules_seen c.args.rules.now in
    let layout = plain_netlist c.args.layout.now in
    let schematic = plain_netlist c.args.schematic.now in
    let begun = names_in c.in_ok-alone.alone in
    let longest_is : c.longest_name-most.result ≡ longest (all_names layout schematic r.same begun)
    = c.longest_name-most.ensures ∙ ap (λ (same : List (List ℕ × List ℕ)). longest (all_names layout schematic same begun)) c.deref.ensures.value in
    begins c.alone_lines.ensures.longest r layout c.args.top schematic begun c.requires.rules c.in_ok-alone.ensures c.longest_name-most.result longest_is c.new-lines.result.items c.new-lines.ensures.items

pub compare_by-requires-clause-lefts : goal.compare_by-requires-clause-lefts
compare_by-requires-clause-lefts g c κs within =
    let r = rules_seen c.args.rules.now in
    let most = c.longest_name-most.result in
    let alone = names_in c.turns.alone in
    let told = told_so most alone r.same c.deref-in-turns.result.now c.in_ok-same.same.items c.deref-in-turns-2.result.now c.deref-in-turns.ensures.value c.in_ok-same.ensures c.deref-in-turns-2.ensures.value in
    subst (λ (same : List (List ℕ × List ℕ)). AreApart (left_names same)) (sym told)
    (lefts_once c.alone_lines.ensures.apart (plain_netlist c.args.layout.now) (plain_netlist c.args.schematic.now) r.same most alone c.turns.invariant.fit c.requires.rules.formed.layouts)

pub compare_by-requires-clause-rights : goal.compare_by-requires-clause-rights
compare_by-requires-clause-rights g c κs within =
    let r = rules_seen c.args.rules.now in
    let most = c.longest_name-most.result in
    let alone = names_in c.turns.alone in
    let told = told_so most alone r.same c.deref-in-turns.result.now c.in_ok-same.same.items c.deref-in-turns-2.result.now c.deref-in-turns.ensures.value c.in_ok-same.ensures c.deref-in-turns-2.ensures.value in
    subst (λ (same : List (List ℕ × List ℕ)). AreApart (right_names same)) (sym told)
    (rights_once c.alone_lines.ensures.apart (plain_netlist c.args.layout.now) (plain_netlist c.args.schematic.now) r.same most alone c.turns.invariant.fit c.requires.rules.formed.schematics)

pub returns-in_default : goal.returns-in_default
returns-in_default g c =
    let r = rules_seen c.args.rules.now in
    let layout = plain_netlist c.args.layout.now in
    let top = c.args.top in
    let schematic = plain_netlist c.args.schematic.now in
    let begun = names_in c.in_ok-alone.alone in
    let most = c.longest_name-most.result in
    let alone = names_in c.turns.alone in
    let same = c.deref-in-turns-2.result.now in
    let lines = c.turns.lines.items in
    let told = told_so most alone r.same c.deref-in-turns.result.now c.in_ok-same.same.items same c.deref-in-turns.ensures.value c.in_ok-same.ensures c.deref-in-turns-2.ensures.value in
    let longest_is : most ≡ longest (all_names layout schematic r.same begun)
    = c.longest_name-most.ensures ∙ ap (λ (ls : List (List ℕ × List ℕ)). longest (all_names layout schematic ls begun)) c.deref.ensures.value in
    let none = none_of c.in_ok-found.field-0 c.in_default.not-Some in
    let compared : IsComparison r layout top schematic same None = subst (λ (o : Option Compared). IsComparison r layout top schematic same o) none c.in_ok-found.ensures in
    record {
      same = same;
      turns = ended r layout top schematic most begun alone lines c.turns.invariant same told longest_is c.in_ok-alone.ensures None [] lines compared refl (sym (append-nil lines));
      comparison = compared;
    }

pub take_apart-requires-clause-sides : goal.take_apart-requires-clause-sides
take_apart-requires-clause-sides g c =
    let r = rules_seen c.args.rules.now in
    let layout = plain_netlist c.args.layout.now in
    let schematic = plain_netlist c.args.schematic.now in
    let same = c.deref-in-turns-2.result.now in
    let compared : IsComparison r layout c.args.top schematic same (Some c.in-Some.found) = subst (λ (o : Option Compared). IsComparison r layout c.args.top schematic same o) c.in-Some.is c.in_ok-found.ensures in
    compared_sides r layout c.args.top schematic same c.in-Some.found compared

pub take_apart-requires-clause-count : goal.take_apart-requires-clause-count
take_apart-requires-clause-count g c =
    let r = rules_seen c.args.rules.now in
    let layout = plain_netlist c.args.layout.now in
    let schematic = plain_netlist c.args.schematic.now in
    let same = c.deref-in-turns-2.result.now in
    let compared : IsComparison r layout c.args.top schematic same (Some c.in-Some.found) = subst (λ (o : Option Compared). IsComparison r layout c.args.top schematic same o) c.in-Some.is c.in_ok-found.ensures in
    compared_count r layout c.args.top schematic same c.in-Some.found compared

pub returns-in_default-2 : goal.returns-in_default-2
returns-in_default-2 g c =
    let r = rules_seen c.args.rules.now in
    let layout = plain_netlist c.args.layout.now in
    let top = c.args.top in
    let schematic = plain_netlist c.args.schematic.now in
    let begun = names_in c.in_ok-alone.alone in
    let most = c.longest_name-most.result in
    let alone = names_in c.turns.alone in
    let same = c.deref-in-turns-2.result.now in
    let lines = c.turns.lines.items in
    let found = c.in-Some.found in
    let told = told_so most alone r.same c.deref-in-turns.result.now c.in_ok-same.same.items same c.deref-in-turns.ensures.value c.in_ok-same.ensures c.deref-in-turns-2.ensures.value in
    let longest_is : most ≡ longest (all_names layout schematic r.same begun)
    = c.longest_name-most.ensures ∙ ap (λ (ls : List (List ℕ × List ℕ)). longest (all_names layout schematic ls begun)) c.deref.ensures.value in
    let compared : IsComparison r layout top schematic same (Some found) = subst (λ (o : Option Compared). IsComparison r layout top schematic same o) c.in-Some.is c.in_ok-found.ensures in
    let last = c.in_ok-goes.ensures.last (none_is c.in_ok-goes.field-0 c.in_default-2.not-Some) in
    record {
      same = same;
      turns = ended r layout top schematic most begun alone lines c.turns.invariant same told longest_is c.in_ok-alone.ensures (Some found) last.0 c.take_apart.new.lines.items compared last.2 last.1;
      comparison = compared;
    }

pub turns-smaller : goal.turns-smaller
turns-smaller g c =
    let r = rules_seen c.args.rules.now in
    let layout = plain_netlist c.args.layout.now in
    let top = c.args.top in
    let schematic = plain_netlist c.args.schematic.now in
    let most = c.longest_name-most.result in
    let alone = names_in c.turns.alone in
    let same = c.deref-in-turns-2.result.now in
    let found = c.in-Some.found in
    let told = told_so most alone r.same c.deref-in-turns.result.now c.in_ok-same.same.items same c.deref-in-turns.ensures.value c.in_ok-same.ensures c.deref-in-turns-2.ensures.value in
    let compared : IsComparison r layout top schematic same (Some found) = subst (λ (o : Option Compared). IsComparison r layout top schematic same o) c.in-Some.is c.in_ok-found.ensures in
    let adds : AddsTurn r found c.in-Some-2.goes.items c.turns.lines.items c.take_apart.new.lines.items = rw c.in-Some-2.is at c.in_ok-goes.ensures.turn in
    let goes = c.deref-in-turns-3.result.now in
    let adds_goes : AddsTurn r found goes c.turns.lines.items c.take_apart.new.lines.items = subst (λ (gs : List Bool). AddsTurn r found gs c.turns.lines.items c.take_apart.new.lines.items) (sym c.deref-in-turns-3.ensures.value) adds in
    fewer r layout top schematic most (names_in c.in_ok-alone.alone) alone c.turns.lines.items c.turns.invariant same told c.alone_lines.ensures.alone c.requires.layout c.requires.schematic found compared goes
    c.take_apart.new.lines.items adds_goes (names_in c.add.new.self) c.in_ok-add.ensures

pub turns-preserved : goal.turns-preserved
turns-preserved g c =
    let r = rules_seen c.args.rules.now in
    let layout = plain_netlist c.args.layout.now in
    let top = c.args.top in
    let schematic = plain_netlist c.args.schematic.now in
    let most = c.longest_name-most.result in
    let alone = names_in c.turns.alone in
    let same = c.deref-in-turns-2.result.now in
    let found = c.in-Some.found in
    let told = told_so most alone r.same c.deref-in-turns.result.now c.in_ok-same.same.items same c.deref-in-turns.ensures.value c.in_ok-same.ensures c.deref-in-turns-2.ensures.value in
    let compared : IsComparison r layout top schematic same (Some found) = subst (λ (o : Option Compared). IsComparison r layout top schematic same o) c.in-Some.is c.in_ok-found.ensures in
    let adds : AddsTurn r found c.in-Some-2.goes.items c.turns.lines.items c.take_apart.new.lines.items = rw c.in-Some-2.is at c.in_ok-goes.ensures.turn in
    let goes = c.deref-in-turns-3.result.now in
    let adds_goes : AddsTurn r found goes c.turns.lines.items c.take_apart.new.lines.items = subst (λ (gs : List Bool). AddsTurn r found gs c.turns.lines.items c.take_apart.new.lines.items) (sym c.deref-in-turns-3.ensures.value) adds in
    went_on r layout top schematic most (names_in c.in_ok-alone.alone) alone c.turns.lines.items c.turns.invariant same told c.alone_lines.ensures.alone c.requires.layout c.requires.schematic found compared goes
    c.take_apart.new.lines.items adds_goes (names_in c.add.new.self) c.in_ok-add.ensures
