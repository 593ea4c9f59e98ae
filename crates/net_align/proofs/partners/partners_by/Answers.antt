use Rattle.std.proofs.Common.{◌≡◌, ℕ, List, Option, Some, length, slice_get, subst, ◌∙◌}
use Rattle.base_laws.proofs.Items.{map_to}
use Rattle.net_names.specs.Folding.{folded_bytes}
use Rattle.plain_netlist.specs.Netlist.{Circuit}
use Rattle.net_model.specs.Rows.{plain_netlist, plain_circuit}
use Rattle.net_model.proofs.CheckLemmas.{if_ok}
use Rattle.net_align.specs.Names.{names_of, partners_named}
use Rattle.net_align.specs.Found.{ArePartnersBy, AreSettled}
use Rattle.net_align.proofs.Rows.{circuit_at}
use Rattle.net_align.proofs.partners.partners_by.Goals as goal

pub returns : goal.returns
returns c =
    let l = plain_netlist c.args.layout.now in
    let s = plain_netlist c.args.schematic.now in
    let top = c.args.top in
    let n = c.args.naming.now in
    let place = c.in_ok-by_place.by_place in
    let named : slice_get (names_of l) top ≡ Some (folded_bytes c.index.result.now.name) =
    map_to (λ (k : Circuit). folded_bytes k.name) l.circuits top (plain_circuit c.index.result.now) (circuit_at c.args.layout.now top c.index.result.now c.requires.top c.index.ensures) in
    let of_is : c.deref.result.now ≡ partners_named n l = c.deref.ensures.value ∙ c.in_ok-of.ensures in
    if_ok c.settle.result (λ new. AreSettled c.deref.result.now top place (length c.deref.result.now) new.items) (λ new. ArePartnersBy n l s top new.items)
    (λ new h. record {
      name = folded_bytes c.index.result.now.name;
      named = named;
      place = place;
      placed = c.in_ok-by_place.ensures;
      settled = subst (λ (of : List (Option ℕ)). AreSettled of top place (length of) new.items) of_is h;
    }) c.settle.ensures
