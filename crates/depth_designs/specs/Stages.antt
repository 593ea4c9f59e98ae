-- A design with the layers of the rules' selections.
use Rattle.std.specs.Prelude.{◌≡◌, ℕ, suc, ◌+◌, List, [], Some, map}
use Rattle.std.specs.Global.{Vec}
use Rattle.cell_graph.specs.Layering.{AreFurther, HaveNames, IsLayerFault}
use Rattle.cell_graph.specs.Linked.{IsSound, Linked, cell_at, keeping, layer_keys}
use Rattle.cell_graph.specs.declared.cells.CellPart.{CellPart}
use Rattle.cell_graph.specs.declared.cells.OwnLayer.{OwnLayer}
use Rattle.cell_graph.specs.declared.drafts.LinkFault.{LinkFault}
use Rattle.cell_graph.specs.declared.drafts.LinkFault.TheVariants.{CoordinateRange, NoMemory}
use Rattle.flat_layout.specs.declared.way.Way.TheVariants.{Disturbed}
use Rattle.geo_base.specs.Layers.{IsStreamKey}
use Rattle.geo_base.specs.declared.layer.LayerKey.{LayerKey}
use Rattle.plain_netlist.specs.Lists.{IsListed}
use Rattle.rule_stages.specs.Stages.{at_depth, from_depth, stage_of}
use Rattle.rule_text.specs.Rules.{Rules}
use Rattle.rule_text.specs.declared.rules.SelectRule.{SelectRule}
use Rattle.select_laws.specs.Staged.{AreInTurn, IsKeyOf, Stage}
use Rattle.staged_designs.specs.Depths.{AreFound, stage_keys}
use Rattle.staged_layouts.specs.Staged.{AreFresh, IsStagedDesign}

abbrev pub stages_by : Rules → List SelectRule → List Stage
stages_by r selected = map (stage_of r) selected

-- all layers that a cell holds are ones that a stream may have
abbrev pub AreDrawn : Linked → Type 0
AreDrawn d = (i : ℕ) (c : CellPart) (key : LayerKey) → cell_at d i ≡ Some c
    → IsListed key (layer_keys c.layers.items) → IsStreamKey key

-- no cell holds one of these layers
abbrev pub AreUnused : Linked → List Stage → Type 0
AreUnused d stages = (i : ℕ) (c : CellPart) (key : LayerKey) → cell_at d i ≡ Some c
    → IsKeyOf stages key → IsListed key (layer_keys c.layers.items) → ⊥

-- what cells hold of selections would bring a hull out of range
pub record IsFarBy (r : Rules) (d : Linked) (selected : List SelectRule) (fault : LinkFault) :
    Type 0 where
  pub further : List (Vec OwnLayer)
  pub layers : AreFurther d.cells (stage_keys (stages_by r selected)) further
  pub found : AreFound d (stages_by r selected) further
  pub fresh : AreFresh d (stages_by r selected) further
  pub far : IsLayerFault d.cells (stage_keys (stages_by r selected)) further fault

abbrev pub IsDepthFault : Rules → Linked → List SelectRule → LinkFault → Type 0
IsDepthFault r d selected (CoordinateRange name) = IsFarBy r d selected (CoordinateRange name)
IsDepthFault r d selected fault = fault ≡ NoMemory

-- those of a depth over the design with all before
pub record IsFarStage (r : Rules) (d : Linked) (fault : LinkFault) : Type 0 where
  pub count : ℕ
  pub design : Linked
  pub staged : IsStagedDesign (stages_by r (from_depth r 1 count)) (keeping Disturbed d) design
  pub far : IsFarBy r design (at_depth r (suc count)) fault

-- a hull out of range, by its cell's name, or want of memory
abbrev pub IsStageFault : Rules → Linked → LinkFault → Type 0
IsStageFault r d (CoordinateRange name) = IsFarStage r d (CoordinateRange name)
IsStageFault r d fault = fault ≡ NoMemory

-- ---- depth after depth

-- a design has no selections of its own
abbrev pub NoneLaw : Type 0
NoneLaw = (d : Linked) → IsSound d → IsStagedDesign [] d d

-- with the selections of the next depth it has those of one depth more
abbrev pub NextDepthLaw : Type 0
NextDepthLaw = (r : Rules) (d m e : Linked) (count : ℕ)
    → IsStagedDesign (stages_by r (from_depth r 1 count)) d m
    → IsStagedDesign (stages_by r (at_depth r (count + 1))) m e
    → IsStagedDesign (stages_by r (from_depth r 1 (count + 1))) d e

-- whose layers no cell held before
abbrev pub UnusedLaw : Type 0
UnusedLaw = (r : Rules) (d m : Linked) (count : ℕ) → AreDrawn d
    → IsStagedDesign (stages_by r (from_depth r 1 count)) d m
    → AreUnused m (stages_by r (at_depth r (count + 1)))

abbrev pub NamesLaw : Type 0
NamesLaw = (stages : List Stage) (d e : Linked) → IsStagedDesign stages d e → HaveNames d.cells
    → HaveNames e.cells

-- selections are the same in each way of keeping squares
abbrev pub WayLaw : Type 0
WayLaw = (stages : List Stage) (d e : Linked) → AreInTurn stages → IsSound (keeping d.way e)
    → IsStagedDesign stages (keeping Disturbed d) e → IsStagedDesign stages d (keeping d.way e)

-- what is refused at a depth is a fault of all
abbrev pub FaultLaw : Type 0
FaultLaw = (r : Rules) (d m : Linked) (count : ℕ) (fault : LinkFault)
    → IsStagedDesign (stages_by r (from_depth r 1 count)) (keeping Disturbed d) m
    → IsDepthFault r m (at_depth r (count + 1)) fault → IsStageFault r d fault
