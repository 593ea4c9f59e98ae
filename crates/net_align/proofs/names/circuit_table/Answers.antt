use Rattle.std.proofs.Common.{◌≡◌, ◌<◌, ℕ, List, Some, length, map, slice_get, refl, sym, subst, ap, ◌∙◌, rules}
use Rattle.std.proofs.lemmas.List.{take_all}
use Rattle.std.proofs.lemmas.Option.{slice_get_read}
use Rattle.net_names.specs.Folding.{folded_bytes}
use Rattle.text_table.specs.Texts.{has_text}
use Rattle.net_model.specs.declared.netlist.Circuit.{Circuit}
use Rattle.net_align.specs.Names.{AreOnce}
use Rattle.net_align.proofs.Finding.{not_yet}
use Rattle.net_align.proofs.Rows.{own_names}
use Rattle.net_align.proofs.names.circuit_table.Goals as goal

pub add_folded-requires : goal.add_folded-requires
add_folded-requires c =
    let xs = c.deref-circuit-items.result.now in
    let i = c.loop-circuit.circuit-index in
    let x = c.circuit-item.result in
    let below : i < length xs = search rules in
    let has : slice_get xs i ≡ Some x = slice_get_read xs (length xs) i x refl below c.circuit-item.is in
    let names : map (λ (k : Circuit). folded_bytes k.name) xs ≡ _ = ap (λ (t : List Circuit). map (λ (k : Circuit). folded_bytes k.name) t) c.deref-circuit-items.ensures.value ∙ own_names c.args.netlist.now.circuits.items in
    ap (λ (t : List (List ℕ)). has_text t (folded_bytes x.name)) c.loop-circuit.invariant ∙ not_yet (λ (k : Circuit). folded_bytes k.name) xs i x (subst (λ (t : List (List ℕ)). AreOnce t) (sym names) c.requires) has

pub returns : goal.returns
returns c =
    let xs = c.deref-circuit-items.result.now in
    c.loop-circuit.invariant
    ∙ (ap (λ (t : List Circuit). map (λ (k : Circuit). folded_bytes k.name) t) (take_all c.loop-circuit.circuit-index xs (search rules) ∙ c.deref-circuit-items.ensures.value)
    ∙ own_names c.args.netlist.now.circuits.items)
