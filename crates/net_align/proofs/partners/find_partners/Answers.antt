use Rattle.std.proofs.Common.{◌<◌, length, refl, arith}
use Rattle.std.proofs.lemmas.List.{length-map}
use Rattle.net_model.specs.Rows.{plain_netlist, plain_circuit}
use Rattle.net_model.proofs.CheckLemmas.{if_ok}
use Rattle.net_align.specs.Names.{partners_named}
use Rattle.net_align.specs.Found.{ArePartners, ArePartnersBy}
use Rattle.net_align.proofs.Partnered.{partners_found}
use Rattle.net_align.proofs.partners.find_partners.Goals as goal

pub returns : goal.returns
returns c =
    let l = plain_netlist c.args.layout.now in
    let s = plain_netlist c.args.schematic.now in
    let top = c.args.top in
    let n = c.in_ok-naming.naming in
    let of = partners_named n l in
    let xs = c.args.layout.now.circuits.items in
    let low : top < length l.circuits = let k = length-map xs plain_circuit in let r = c.requires.top in omega (arith, k, r) in
    if_ok c.partners_by.result (λ new. ArePartnersBy n l s top new.items) (λ new. ArePartners l s top c.args.same.now new.items)
    (λ new h. partners_found l s top c.args.same.now n c.in_ok-naming.ensures c.requires.circuits c.requires.lefts c.requires.rights c.requires.calls h.name h.named h.place of new.items low refl h.placed h.settled) c.partners_by.ensures
