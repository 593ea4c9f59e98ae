use Rattle.std.proofs.Common.{◌≡◌, ◌<◌, ℕ, List, Option, Some, None, length, get_or, refl}
use Rattle.std.proofs.lemmas.Option.{none-some}
use Rattle.plain_netlist.specs.Netlist.{Netlist}
use Rattle.net_model.specs.Rows.{plain_netlist}
use Rattle.net_align.specs.Compared.{IsTopPartner}
use Rattle.net_align.specs.Found.{ArePartners}
use Rattle.net_align.specs.Names.{left_names, right_names}
use Rattle.net_align.proofs.BelowTop.{calls_there}
use Rattle.net_align.proofs.PairKept.{is_once, names_once}
use Rattle.net_align.proofs.PairMade.{has_partner, partner_has}
use Rattle.net_align.proofs.Placed.{low_in}
use Rattle.net_align.proofs.pair.partner_of_top.Goals as goal

pub find_partners-requires-clause-circuits : goal.find_partners-requires-clause-circuits
find_partners-requires-clause-circuits c =
    names_once (plain_netlist c.args.schematic.now) c.requires.schematic.names

pub find_partners-requires-clause-lefts : goal.find_partners-requires-clause-lefts
find_partners-requires-clause-lefts c =
    is_once (left_names c.args.same.now) c.requires.lefts

pub find_partners-requires-clause-rights : goal.find_partners-requires-clause-rights
find_partners-requires-clause-rights c =
    is_once (right_names c.args.same.now) c.requires.rights

pub find_partners-requires-clause-calls : goal.find_partners-requires-clause-calls
find_partners-requires-clause-calls c =
    calls_there (plain_netlist c.args.schematic.now) c.requires.schematic.sound

top_partner : (layout schematic : Netlist) (top : ℕ) (same : List (List ℕ × List ℕ)) (of : List (Option ℕ)) → ArePartners layout schematic top same of → top < length layout.circuits
    → (o : Option ℕ) → o ≡ get_or of top o → IsTopPartner layout schematic top same o
top_partner layout schematic top same of are low None read =
    λ b h. none-some b (partner_has layout schematic top same of are top None low read b h)
top_partner layout schematic top same of are low (Some b) read =
    has_partner layout schematic top same of are top (Some b) low read b refl

pub returns : goal.returns
returns c =
    top_partner _ _ _ _ _ c.in_ok-of.ensures (low_in c.args.layout.now c.args.top c.requires.top) _ c.index.ensures
