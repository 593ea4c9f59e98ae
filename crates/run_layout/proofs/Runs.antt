-- One layout on which a run works, or one fault.
use Rattle.std.proofs.Common.{◌≢◌, inl, inr, ℕ, List, Option, sym, ◌∙◌, ap}
use Rattle.cell_graph.specs.declared.drafts.LinkFault.TheVariants.{CoordinateRange}
use Rattle.gds_layout.specs.Layouts.{IsFaultOf}
use Rattle.gds_layout.specs.Once.{IsAlike, NoFaultLaw, OneFaultLaw, OneLayoutLaw}
use Rattle.gds_layout.specs.declared.layout.Layout.{Layout}
use Rattle.gds_layout.specs.declared.layout.LayoutFault.{LayoutFault}
use Rattle.gds_layout.specs.declared.layout.LayoutFault.TheVariants.{Link, NoMemory}
use Rattle.rule_stages.specs.Stages.{InTurnLaw, stages_of}
use Rattle.rule_text.specs.Rules.{Rules}
use Rattle.staged_layouts.specs.Staged.{StagedAlikeLaw, StagedFitsLaw}
use Rattle.run_layout.specs.RunLayout.{IsDrawnLayout, IsTooFar, NoRunFaultLaw, OneRunFaultLaw, OneRunLayoutLaw, RunFitsLaw}
use Rattle.run_layout.proofs.Alike.{none_far, one_far}

drawn_alike : OneLayoutLaw → (bytes : List ℕ) (top : Option (List ℕ)) (r : Rules) (l k : Layout) → IsDrawnLayout bytes top r l → IsDrawnLayout bytes top r k → IsAlike l k
drawn_alike layouts bytes top r l k x y = record { same = layouts bytes top l k x.read y.read; way = x.way ∙ sym y.way }

pub one_run : OneLayoutLaw → InTurnLaw → StagedAlikeLaw → OneRunLayoutLaw
one_run layouts turns law bytes top r l m x y =
    law (stages_of r) x.drawn y.drawn l m (turns r x.is.rules) (drawn_alike layouts bytes top r x.drawn y.drawn x.is y.is) x.staged y.staged

pub no_fault : OneLayoutLaw → NoFaultLaw → NoRunFaultLaw
no_fault layouts apart bytes top r l fault x (inl h) = apart bytes top x.drawn fault x.is.read h
no_fault layouts apart bytes top r l fault x (inr h) =
    let y = h.2 in
    absurd (none_far r x.drawn y.drawn (drawn_alike layouts bytes top r x.drawn y.drawn x.is y.is) h.0 x.near y.far)

-- what was read has no fault
never : NoFaultLaw → (bytes : List ℕ) (top : Option (List ℕ)) (r : Rules) (name : List ℕ) (f : LayoutFault) → IsFaultOf bytes top f → f ≢ NoMemory → IsTooFar bytes top r name → ⊥
never apart bytes top r name f h not x = not (apart bytes top x.drawn f x.is.read h)

pub one_fault : OneLayoutLaw → NoFaultLaw → OneFaultLaw → OneRunFaultLaw
one_fault layouts apart one bytes top r f g (inl h) (inl k) a b = one bytes top f g h k a b
one_fault layouts apart one bytes top r f g (inl h) (inr k) a b = absurd (never apart bytes top r k.0 f h a k.2)
one_fault layouts apart one bytes top r f g (inr h) (inl k) a b = absurd (never apart bytes top r h.0 g k b h.2)
one_fault layouts apart one bytes top r f g (inr h) (inr k) a b =
    let x = h.2 in
    let y = k.2 in
    h.1
    ∙ ap (λ (n : List ℕ). Link (CoordinateRange n)) (one_far r x.drawn y.drawn (drawn_alike layouts bytes top r x.drawn y.drawn x.is y.is) h.0 k.0 x.far y.far)
    ∙ sym k.1

pub fits : StagedFitsLaw → RunFitsLaw
fits law bytes top r l x drawn = law (stages_of r) x.drawn l drawn x.staged
