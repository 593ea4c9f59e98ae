-- Entries of parents.
use Rattle.std.proofs.Common.{◌≡◌, ◌⊎◌, ◌↔◌, inl, inr, ℕ, zero, suc, ◌<◌, ◌-◌, true, false, List, [], ◌∷◌, Option, Some, None, refl, sym, ◌∙◌, subst, arith, length, slice_index_or, IsSomeAnd}
use Rattle.geo_base.specs.declared.layer.LayerKey.{LayerKey}
use Rattle.geo_base.specs.declared.shapes.Rect.{Rect}
use Rattle.geo_base.specs.declared.shapes.Square.{Square}
use Rattle.rect_sets.specs.Rects.{covers}
use Rattle.flat_layout.specs.Layout.{IsReached, Some_of}
use Rattle.geo_base.specs.Rects.{has}
use Rattle.zone_phase.specs.declared.neighbours.Neighbour.{Neighbour}
use Rattle.zone_phase.specs.Neighbours.{IsOverBy}
use Rattle.cell_graph.specs.Linked.{Linked, IsSound, plain}
use Rattle.deep_tables.specs.declared.zones.CellZones.{CellZones}
use Rattle.deep_tables.specs.Frames.{IsFramedZone}
use Rattle.deep_tables.specs.Entries.{downward_cell}
use Rattle.zone_phase.specs.declared.uses.Use.{Use}
use Rattle.zone_phase.specs.Jobs.{HasName, IsEntry, zone_in, IsFromUses}

pub at_any : {A : Type 0} (xs : List A) (k : ℕ) (a b : A) → k < length xs → slice_index_or xs k a ≡ slice_index_or xs k b
at_any [] k a b lt = absurd (let z : ⊥ = omega arith in z)
at_any (x ∷ xs) zero a b lt = refl
at_any (x ∷ xs) (suc k) a b lt = at_any xs k a b (omega arith)

pub some_and : {A : Type 0} (P : A → Type 0) (o : Option A) (x : A) → o ≡ Some x → IsSomeAnd o P → P x
some_and P o x e h = subst (λ p. IsSomeAnd p P) e h

pub entry_zone : (margin : ℕ) (d : Linked) (key : LayerKey) (name cell : ℕ) (o : Option CellZones) → IsSomeAnd o (IsEntry margin d key name cell) → IsFramedZone margin d (key ∷ []) cell (zone_in o name)
entry_zone margin d key name cell None h = absurd h
entry_zone margin d key name cell (Some v) h = h.1

pub job_reached : (d : Linked) (job : ℕ) → IsSound d → job < length d.order → IsReached (plain d) (downward_cell d job)
job_reached d job sound lt = sound.order.reached (length d.order - 1 - job) (omega arith)

pub made_of : (d : Linked) (value : ℕ → Option CellZones) (name cell : ℕ) (key : LayerKey) (g : Rect) (uses : List Use) (near : List Neighbour) (set old out new : List Rect) → old ≡ [] → ((s : Square) → covers set s ≡ covers new s)
    → ((q : Square) → (covers out q ≡ true) ↔ ((covers old q ≡ true) ⊎ IsFromUses d value name cell key g uses (length uses) q))
    → ((q : Square) → (covers new q ≡ true) ↔ ((covers out q ≡ true) ⊎ ((has g q ≡ true) × Some_of (IsOverBy d key q) near)))
    → (q : Square) → (covers set q ≡ true) ↔ (IsFromUses d value name cell key g uses (length uses) q ⊎ ((has g q ≡ true) × Some_of (IsOverBy d key q) near))
made_of d value name cell key g uses near set old out new none same h k q = (
  (λ e. elim ((k q).0 (sym (same q) ∙ e)) [
    | inl f ↦ elim ((h q).0 f) [
      | inl x ↦ let z : false ≡ true = subst (λ l. covers l q ≡ true) none x in absurd (let y : ⊥ = cc in y)
      | inr j ↦ inl j
    ]
    | inr o ↦ inr o
  ]),
  (λ j. same q ∙ (k q).1 (elim j [ inl u ↦ inl ((h q).1 (inr u)) | inr o ↦ inr o ])),
)

-- an entry with the cell's squares has squares of the name
pub entry_name : (margin : ℕ) (d : Linked) (key : LayerKey) (name cell : ℕ) (o : Option CellZones) → IsSomeAnd o (IsEntry margin d key name cell) → IsSomeAnd o (HasName name)
entry_name margin d key name cell None h = h
entry_name margin d key name cell (Some v) h = h.0
