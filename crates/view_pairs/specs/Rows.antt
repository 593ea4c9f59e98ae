-- The rows of a proposal.
use Rattle.std.specs.Prelude.{ℕ, ◌+◌, Bool, List, [], ◌∷◌, ◌++◌, Option, Some, None, map}
use Rattle.std.specs.Prelude.{slice_get}
use Rattle.plain_netlist.specs.Netlist.{Circuit}
use Rattle.view_cross.specs.Matched.{left_alone, right_alone}
use Rattle.view_cross.specs.declared.rows.Kind.{Kind}
use Rattle.view_cross.specs.declared.rows.Kind.TheVariants.{Net, Pin, Device, Call}
use Rattle.view_cross.specs.declared.rows.Mark.{Mark}
use Rattle.view_cross.specs.declared.rows.Row.{Row}
use Rattle.view_pairs.specs.Marks.{call_mark, device_mark, left_odds, mark_both, net_mark}
use Rattle.view_pairs.specs.Marks.{pin_net_mark, right_odds}
use Rattle.view_pairs.specs.declared.partners.Partner.{Partner}
use Rattle.view_pairs.specs.declared.partners.Partners.{Partners}
use Rattle.view_pairs.specs.declared.proposal.Proposal.{Proposal}

-- the partners of the pins of each pair
abbrev pub pins_of : List Proposal → List (List (Option Partner))
pins_of xs = map (λ x. x.pins.lefts.items) xs

-- what the rows of a pair are made from: whether names tell its pins apart, its circuits, the
-- partners of the pins of the pairs before it, its proposal
pub record Asked : Type 0 where
  pub told : Bool
  pub left : Circuit
  pub right : Circuit
  pub pins : List (List (Option Partner))
  pub proposal : Proposal

abbrev pub asked : Bool → Circuit → Circuit → List Proposal → Proposal → Asked
asked told a b before x = record {
  told = told;
  left = a;
  right = b;
  pins = pins_of before;
  proposal = x;
}

-- a pin is marked as its net
abbrev pub mark_at : Asked → Kind → ℕ → Partner → Mark
mark_at q Net k p = net_mark q.told q.left q.right
    (left_odds q.left q.right q.pins q.proposal) (right_odds q.left q.right q.pins q.proposal) k p
mark_at q Pin k p = mark_both (pin_net_mark q.told q.left q.right
    (left_odds q.left q.right q.pins q.proposal) (right_odds q.left q.right q.pins q.proposal))
    (slice_get q.left.pins k) (slice_get q.right.pins p.number) p
mark_at q Device k p = mark_both (device_mark q.proposal.nets) (slice_get q.left.devices k)
    (slice_get q.right.devices p.number) p
mark_at q Call k p = mark_both (call_mark q.proposal.nets q.pins) (slice_get q.left.calls k)
    (slice_get q.right.calls p.number) p

abbrev pub entry_row : (ℕ → Partner → Mark) → Kind → ℕ → Option Partner → Row
entry_row mark kind k None = left_alone kind k
entry_row mark kind k (Some p) =
    record { kind = kind; left = Some k; right = Some p.number; mark = mark k p }

-- the left nodes from the k-th on
abbrev pub left_rows : (ℕ → Partner → Mark) → Kind → ℕ → List (Option Partner) → List Row
left_rows mark kind k [] = []
left_rows mark kind k (e ∷ entries) =
    entry_row mark kind k e ∷ left_rows mark kind (k + 1) entries

abbrev pub kind_rows : Asked → Kind → Partners → List Row
kind_rows q kind x = left_rows (mark_at q kind) kind 0 x.lefts.items
    ++ map (right_alone kind) x.free.items

-- all nodes of both circuits
abbrev pub proposal_rows : Asked → List Row
proposal_rows q = kind_rows q Net q.proposal.nets ++ (kind_rows q Pin q.proposal.pins
    ++ (kind_rows q Device q.proposal.devices ++ kind_rows q Call q.proposal.calls))
