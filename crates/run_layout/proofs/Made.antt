-- What is made of a layout that was read.
use Rattle.std.proofs.Common.{◌≡◌, inr, ℕ, List, Option, Some, None, refl}
use Rattle.cell_graph.specs.Layering.{HaveNames, NamesLaw}
use Rattle.cell_graph.specs.Linked.{Linked, cell_at, IsSound as IsSoundDesign}
use Rattle.cell_graph.specs.declared.drafts.LinkFault.{LinkFault}
use Rattle.cell_graph.specs.declared.drafts.LinkFault.TheVariants.{CoordinateRange, NoMemory}
use Rattle.depth_designs.specs.Stages.{IsStageFault}
use Rattle.gds_layout.specs.Layouts.{IsRead}
use Rattle.gds_layout.specs.declared.layout.Layout.{Layout}
use Rattle.gds_layout.specs.declared.layout.LayoutFault.TheVariants.{Link}
use Rattle.layout_shapes.specs.Written.{name_of}
use Rattle.rule_layers.specs.Meaning.{way_of}
use Rattle.rule_stages.specs.Stages.{InTurnLaw, stages_of}
use Rattle.rule_text.specs.Rules.{Rules}
use Rattle.rule_text.specs.Sound.{IsSound}
use Rattle.staged_layouts.specs.Staged.{IsStagedDesign, IsStagedLayout, ShowsSelectionsLaw}
use Rattle.run_layout.specs.Far.{IsFirstOut}
use Rattle.selection_hulls.specs.Near.{RoomLaw, selects_reach}
use Rattle.run_layout.specs.RunLayout.{IsDrawnLayout, IsRunFault, IsRunLayout}

pub names : NamesLaw → (bytes : List ℕ) (top : Option (List ℕ)) (l : Layout) → IsRead bytes top l → HaveNames l.design.cells
names law bytes top l h = let of = h.layout in law of.drafts top l.design of.linked

module _ (bytes : List ℕ) (top : Option (List ℕ)) (r : Rules) (l : Layout) (read : IsRead bytes top l) (way : l.design.way ≡ way_of r) (sound : IsSound r) where
  drawn : IsDrawnLayout bytes top r l
  drawn = record { read = read; way = way; rules = sound }

  pub made : InTurnLaw → ShowsSelectionsLaw → IsFirstOut l.design (selects_reach r) None → (e : Linked) → IsStagedDesign (stages_of r) l.design e → IsRunLayout bytes top r (record { header = l.header; cell_dates = l.cell_dates; design = e })
  made turns shows near e is =
      let m : Layout = record { header = l.header; cell_dates = l.cell_dates; design = e } in
      let staged : IsStagedLayout (stages_of r) l m = record { header = refl; dates = refl; design = is } in
      record {
        drawn = l;
        is = drawn;
        near = near;
        staged = staged;
        shows = shows (stages_of r) l m (turns r sound) staged;
      }

  pub far : (cell : ℕ) (name : List ℕ) → IsFirstOut l.design (selects_reach r) (Some cell) → name ≡ name_of (cell_at l.design cell) → IsRunFault bytes top r (Link (CoordinateRange name))
  far cell name first named = inr (name, refl, record { drawn = l; is = drawn; far = record { cell = cell; first = first; named = named } })

-- where no hull is too far out, what is refused of the selections is want of memory
pub only_memory : RoomLaw → (bytes : List ℕ) (top : Option (List ℕ)) (r : Rules) (l : Layout) → IsRead bytes top l → IsSound r → IsSoundDesign l.design → IsFirstOut l.design (selects_reach r) None → (f : LinkFault) → IsStageFault r l.design f → f ≡ NoMemory
only_memory law bytes top r l h sound good near f is =
    let of = h.layout in law r of.drafts top l.design f sound of.linked good near is
