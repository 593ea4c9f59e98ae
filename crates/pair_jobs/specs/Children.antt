-- The pins of the called pairs, from their answers.
use Rattle.std.specs.Prelude.{◌≡◌, ℕ, cond, List, Option, Some, None}
use Rattle.std.specs.Global.{Vec}
use Rattle.plain_netlist.specs.Netlist.{Netlist}
use Rattle.match_laws.specs.Answer.{Answer, Skipped}
use Rattle.composed_laws.specs.Answered.{children_of}
use Rattle.job_graph.specs.Graph.{has}
use Rattle.match_types.specs.Children as pins
use Rattle.match_types.specs.Plain.{plain_answer}
use Rattle.match_types.specs.declared.answer.Answer as rows
use Rattle.match_types.specs.declared.child_pins.ChildPins.{ChildPins}

-- a value that was read
abbrev pub answer_in : ℕ → Option rows.Answer → Answer
answer_in pair (Some v) = plain_answer v
answer_in pair None = Skipped pair

-- a list, or none
abbrev pub list_in : Option (Vec ℕ) → Option (List ℕ)
list_in (Some v) = Some v.items
list_in None = None

-- the pins are those of these pairs where they are matched, and none of any other
abbrev pub AreChildrenOf : Netlist → (ℕ → Option rows.Answer) → List ℕ → ChildPins → Type 0
AreChildrenOf left value inputs c = (pair : ℕ)
    → pins.children_of c pair ≡ cond (has pair inputs)
    (children_of left (λ q. answer_in q (value q)) pair) None
