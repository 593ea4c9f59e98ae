-- What is found too far, by its place in a list.
use Rattle.std.proofs.Common.{◌≡◌, ◌<◌, ◌∙◌, inl, inr, ℕ, zero, suc, Bool, true, false, cond, filter, List, [], ◌∷◌, ◌++◌, refl, Option, Result, Ok, Err, IsErrOf, ap, get_or, length, map, slice_get, sym, arith}
use Rattle.base_laws.proofs.Items.{map_to}
use Rattle.cell_graph.specs.Linked.{plain}
use Rattle.deep_tables.specs.declared.circuits.CellCircuit.{CellCircuit}
use Rattle.flat_laws.proofs.Items.{placed_at}
use Rattle.flat_layout.specs.Layout.{Some_of}
use Rattle.flat_layout.specs.Nets.{Tables}
use Rattle.net_phase.specs.Elements.{AreElements}
use Rattle.net_walk.specs.Walk.{place_of}
use Rattle.net_walk.specs.declared.cells.Element.{Element}
use Rattle.view_shapes.specs.ReadLaws.{Called}
use Rattle.view_drawing.specs.Calls.{called_motions, has_circuit}
use Rattle.view_drawing.specs.Far.{Call, HasFarCall, ReachesFar}
use Rattle.view_drawing.specs.declared.source.Source.{Source}

abbrev pub fault_of : {T E : Type 0} → E → Result T E → E
fault_of d (Ok v) = d
fault_of d (Err e) = e

-- an error is that of another result as well
pub err_as : {T U E : Type 0} (a b : E) → IsErrOf {T = T} (Err a) b → IsErrOf {T = U} (Err a) b
err_as {T} {U} {E} a b s = ap (λ (z : E). let r : Result U E = Err z in r) (ap (fault_of a) s)

pub some_at : {A : Type 0} (P : A → Type 0) (xs : List A) (k : ℕ) (d : A) → k < length xs → P (get_or xs k d) → Some_of P xs
some_at P [] k d lt h = absurd (omega arith)
some_at P (x ∷ xs) zero d lt h = inl h
some_at P (x ∷ xs) (suc k) d lt h = inr (some_at P xs k d (omega arith) h)

-- a call that is too far is that of a placement
pub far_placed : (s : Source) (t : Tables) (called : Called) (cell : ℕ) (es : List Element) → AreElements s.design.now cell es → HasFarCall s.circuits.now es → ReachesFar s t called cell
far_placed s t called cell es all h =
    let k = h.0 in
    let e = h.1 in
    Call k (place_of e) (placed_at (plain s.design.now) cell k (place_of e) (sym (ap (λ ps. slice_get ps k) all.all) ∙ map_to place_of es k e h.2)) h.3.0 h.3.1

called_if : (b : Bool) (e : Element) (es : List Element) → map (λ (x : Element). x.motion) (cond b (e ∷ es) es) ≡ map (λ (x : Element). x.motion) (cond b (e ∷ []) []) ++ map (λ (x : Element). x.motion) es
called_if true e es = refl
called_if false e es = refl

-- the first placement's call, and those of the others
pub called_one : (table : List (Option CellCircuit)) (e : Element) (es : List Element) → called_motions table (e ∷ es) ≡ called_motions table (e ∷ []) ++ called_motions table es
called_one table e es = called_if (has_circuit table e.cell) e (filter (λ (x : Element). has_circuit table x.cell) es)
