-- Pairs, pairings and answers as plain records.
use Rattle.std.specs.Prelude.{map}
use Rattle.round_laws.specs.Nodes.{Node as PlainNode, Side as PlainSide, Layout, Schematic, Kind}
use Rattle.round_laws.specs.Nodes.{Net, Device, Call}
use Rattle.round_laws.specs.Guesses.{Row, Outcome, IsRefutedIn, IsBelow, IsOpen}
use Rattle.match_laws.specs.Circuits.{Pair, Pairing as PlainPairing, node}
use Rattle.match_laws.specs.Answer.{Answer as PlainAnswer, Match, DiffersInRound, DiffersByTree}
use Rattle.match_laws.specs.Answer.{Undecided, Skipped}
use Rattle.net_model.specs.declared.netlist.Circuit.{Circuit}
use Rattle.net_model.specs.Rows.{plain_circuit}
use Rattle.match_types.specs.Children.{children_of, is_told}
use Rattle.match_types.specs.declared.child_pins.ChildPins.{ChildPins}
use Rattle.match_types.specs.declared.answer.Pairing.{Pairing}
use Rattle.match_types.specs.declared.answer.Node.{Node}
use Rattle.match_types.specs.declared.answer.Guess.{Guess}
use Rattle.match_types.specs.declared.answer.Side.{Side}
use Rattle.match_types.specs.declared.answer.Side.TheVariants as side
use Rattle.match_types.specs.declared.answer.NodeKind.{NodeKind}
use Rattle.match_types.specs.declared.answer.NodeKind.TheVariants as kind
use Rattle.match_types.specs.declared.answer.GuessEnd.{GuessEnd}
use Rattle.match_types.specs.declared.answer.GuessEnd.TheVariants as end
use Rattle.match_types.specs.declared.answer.Evidence.{Evidence}
use Rattle.match_types.specs.declared.answer.Evidence.TheVariants as evidence
use Rattle.match_types.specs.declared.answer.Answer.{Answer}
use Rattle.match_types.specs.declared.answer.Answer.TheVariants as answer

-- two circuits to be compared, as plain records
abbrev pub pair_of : Circuit → Circuit → ChildPins → Pair
pair_of left right children = record {
  left = plain_circuit left;
  right =
      plain_circuit right;
  children = children_of children;
  told = is_told children;
}

abbrev pub plain_pairing : Pairing → PlainPairing
plain_pairing f = record { nets = f.nets.items; devices = f.devices.items; calls = f.calls.items }

abbrev pub plain_side : Side → PlainSide
plain_side side.Layout = Layout
plain_side side.Schematic = Schematic

abbrev pub plain_kind : NodeKind → Kind
plain_kind kind.Net = Net
plain_kind kind.Device = Device
plain_kind kind.Call = Call

abbrev pub plain_node : Node → PlainNode
plain_node n = node (plain_side n.side) (plain_kind n.kind) n.number

abbrev pub plain_end : GuessEnd → Outcome
plain_end (end.Refuted round) = IsRefutedIn round
plain_end end.Below = IsBelow
plain_end end.Open = IsOpen

-- a guess as a row: the left node is the layout's, the right one the schematic's
abbrev pub row_of : Guess → Row
row_of g = record {
  depth = g.depth;
  left = node Layout (plain_kind g.kind) g.left;
  right = node Schematic (plain_kind g.kind) g.right;
  outcome = plain_end g.end;
}

abbrev pub plain_evidence : Evidence → PlainAnswer
plain_evidence (evidence.Round round node left right) =
    DiffersInRound round (plain_node node) left right
plain_evidence (evidence.Tree guesses) = DiffersByTree (map row_of guesses.items)

abbrev pub plain_answer : Answer → PlainAnswer
plain_answer (answer.Match pairing) = Match (plain_pairing pairing)
plain_answer (answer.Differs e) = plain_evidence e
plain_answer (answer.Undecided guesses) = Undecided (map row_of guesses.items)
plain_answer (answer.Skipped pair) = Skipped pair
