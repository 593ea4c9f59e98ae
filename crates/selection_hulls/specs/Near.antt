-- Designs whose hulls leave room for what selections reach beyond them.
use Rattle.std.specs.Prelude.{◌≡◌, ℕ, ◌*◌, ◌^◌, min, List, length, Option}
use Rattle.cell_graph.specs.Drafts.{IsLink}
use Rattle.cell_graph.specs.Firsts.{HasNone}
use Rattle.cell_graph.specs.Linked.{IsSound, Linked, plain}
use Rattle.cell_graph.specs.declared.drafts.CellDraft.{CellDraft}
use Rattle.cell_graph.specs.declared.drafts.LinkFault.{LinkFault}
use Rattle.cell_graph.specs.declared.drafts.LinkFault.TheVariants.{NoMemory}
use Rattle.depth_designs.specs.Stages.{IsStageFault}
use Rattle.layout_shapes.specs.Wide.{IsFarOut}
use Rattle.rule_text.specs.Reaches.{MOST_REACH}
use Rattle.rule_text.specs.Rules.{Rules}
use Rattle.rule_text.specs.Sound.{IsSound as AreSound}

-- How far from what is drawn the rules' selections reach at most: none further than a name may. So
-- many that no hull leaves room for them count as the least number of which that holds.
abbrev pub selects_reach : Rules → ℕ
selects_reach r = min (length r.selects) (2 ^ 23) * MOST_REACH

-- no hull, grown so far, leaves plus or minus 2^36
abbrev pub HasRoom : Rules → Linked → Type 0
HasRoom r d = HasNone (λ cell. IsFarOut (plain d) (selects_reach r) cell) (length d.cells)

-- then the selections bring no hull out of range: what is refused is want of memory
abbrev pub RoomLaw : Type 0
RoomLaw = (r : Rules) (cells : List CellDraft) (top : Option (List ℕ)) (d : Linked)
    (fault : LinkFault) → AreSound r → IsLink cells top d → IsSound d → HasRoom r d
    → IsStageFault r d fault → fault ≡ NoMemory
