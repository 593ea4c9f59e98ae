use Rattle.std.proofs.Common.{◌≡◌, ℕ, List, [], Option, Some, None, sym, ap, ◌∙◌, rules}
use Rattle.std.specs.Prelude.{slice_index_or}
use Rattle.net_model.specs.Rows.{plain_netlist}
use Rattle.net_align.specs.Names.{found_in, names_of}
use Rattle.net_align.specs.Found.{if_unsaid}
use Rattle.net_align.proofs.Rows.{name_or}
use Rattle.net_align.proofs.partners.unless_said.Goals as goal

pub returns-in-Some : goal.returns-in-Some
returns-in-Some c =
    let nl = c.args.schematic.now in
    let b = c.args.b in
    let name : slice_index_or (names_of (plain_netlist nl)) b [] ≡ c.in_ok-name.name = name_or nl.circuits.items b c.index.result.now c.requires c.index.ensures ∙ sym c.in_ok-name.ensures in
    let found : found_in c.args.naming.now.rights c.in_ok-name.name ≡ Some c.in-Some.field-0 = search rules in
    sym (ap (λ (t : List ℕ). if_unsaid (found_in c.args.naming.now.rights t) b) name ∙ ap (λ (o : Option ℕ). if_unsaid o b) found)

pub returns : goal.returns
returns c =
    let nl = c.args.schematic.now in
    let b = c.args.b in
    let name : slice_index_or (names_of (plain_netlist nl)) b [] ≡ c.in_ok-name.name = name_or nl.circuits.items b c.index.result.now c.requires c.index.ensures ∙ sym c.in_ok-name.ensures in
    let found : found_in c.args.naming.now.rights c.in_ok-name.name ≡ None = search rules in
    sym (ap (λ (t : List ℕ). if_unsaid (found_in c.args.naming.now.rights t) b) name ∙ ap (λ (o : Option ℕ). if_unsaid o b) found)
