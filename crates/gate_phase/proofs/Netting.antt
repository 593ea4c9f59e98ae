-- The net of a square, from the pieces of a window of one square.
use Rattle.std.proofs.Common.{◌≡◌, ◌<◌, ◌≤◌, ◌+◌, ◌-◌, ◌++◌, ◌∙◌, inl, ℕ, zero, suc, List, [], ◌∷◌, Some, None, slice_get, get_or, length, length-append, refl, sym, ap, subst, arith}
use Rattle.std.proofs.lemmas.Int.{ints}
use Rattle.geo_base.specs.declared.shapes.Rect.{Rect}
use Rattle.geo_base.specs.declared.shapes.Square.{Square}
use Rattle.flat_layout.specs.Layout.{Design}
use Rattle.flat_layout.specs.Nets.{AreNets, Global, Item, NetHolds, Tables, child_items, no_cell, own_items, run}
use Rattle.flat_layout.specs.Plane.{IsIn}
use Rattle.flat_layout.specs.Regions.{At, Ground, Wiring}
use Rattle.cell_graph.proofs.Bridge.{has_in}
use Rattle.cell_graph.proofs.Elements.{in_second}
use Rattle.net_link_laws.specs.declared.piece.NetPiece.{NetPiece}
use Rattle.net_walk.specs.Walk.{IsCollection, IsInside}
use Rattle.gate_phase.specs.Own.{unit_window}
use Rattle.gate_phase.proofs.Holding.{unit_has}

-- a rectangle in the window of one square has it
has_square : (s : Square) (r : Rect) → IsInside r (unit_window s) → IsIn s r
has_square s r h =
    let wide = h.rect.wide in let high = h.rect.high in let x1 = h.x1 in let x2 = h.x2 in let y1 = h.y1 in let y2 = h.y2 in
    ((omega (arith, ints)), (omega (arith, ints)), (omega (arith, ints)), (omega (arith, ints)))

pub first_holds : (d : Design) (t : Tables) (cell conductor : ℕ) (s : Square) (w : Rect) (pieces : List NetPiece) (p : NetPiece) → w ≡ unit_window s → Some p ≡ slice_get pieces 0 → IsCollection d t cell conductor w pieces → NetHolds d t cell p.net (At conductor s)
first_holds d t cell conductor s w [] p e at h = let f : Some p ≡ None = at in let z : ⊥ = cc in absurd z
first_holds d t cell conductor s w (x ∷ xs) p e at h =
    let same : x ≡ p = (let f : Some p ≡ Some x = at in cc) in
    let inside : IsInside x.rect (unit_window s) = subst (IsInside x.rect) e h.inside.0 in
    subst (λ (y : NetPiece). NetHolds d t cell y.net (At conductor s)) same (h.collected.each x.net s (inl (refl, has_square s x.rect inside))).1

pub none_holds : (d : Design) (t : Tables) (cell conductor : ℕ) (s : Square) (w : Rect) (pieces : List NetPiece) → w ≡ unit_window s → None ≡ slice_get pieces 0 → IsCollection d t cell conductor w pieces → (x : ℕ) → NetHolds d t cell x (At conductor s) → ⊥
none_holds d t cell conductor s w [] e at h x holds = h.collected.found x s (subst (IsIn s) (sym e) (has_in (unit_window s) s (unit_has s))) holds
none_holds d t cell conductor s w (y ∷ ys) e at h x holds = let f : None ≡ Some y = at in let z : ⊥ = cc in z

run_at : (f : ℕ → Item) (k n i : ℕ) → i < n → slice_get (run f k n) i ≡ Some (f (k + i))
run_at f k zero i lt = absurd (let z : ⊥ = omega arith in z)
run_at f k (suc n) zero lt = ap (λ j. Some (f j)) (let e : k ≡ k + 0 = omega arith in e)
run_at f k (suc n) (suc i) lt = run_at f (suc k) n i (omega arith) ∙ ap (λ j. Some (f j)) (let e : suc k + i ≡ k + suc i = omega arith in e)

run_length : (f : ℕ → Item) (k n : ℕ) → length (run f k n) ≡ n
run_length f k zero = refl
run_length f k (suc n) = ap suc (run_length f (suc k) n)

-- the globals stand last among the items
global_at : (a b : List Item) (n g at : ℕ) → g < n → at ≡ length (a ++ (b ++ run Global 0 n)) → slice_get (a ++ (b ++ run Global 0 n)) (at - n + g) ≡ Some (Global g)
global_at a b n g at lt e =
    let last = run_length Global 0 n in let l1 = length-append a (b ++ run Global 0 n) in let l2 = length-append b (run Global 0 n) in
    let place : length a + (length b + g) ≡ at - n + g = omega arith in
    subst (λ i. slice_get (a ++ (b ++ run Global 0 n)) i ≡ Some (Global g)) place (in_second a (b ++ run Global 0 n) (length b + g) (Global g) (in_second b (run Global 0 n) g (Global g) (run_at Global 0 n g lt ∙ ap (λ j. Some (Global j)) (let z : 0 + g ≡ g = omega arith in z))))

-- so there is a net of each
pub globals_fit : (d : Design) (w : Wiring) (t : Tables) (cell : ℕ) → AreNets d w t cell (t.nets cell) → length w.globals ≤ length (t.nets cell).net_of
globals_fit d w t cell h =
    let a = own_items t cell 0 w.conductors in let b = child_items t 0 (get_or d.cells cell no_cell).places in let n = length w.globals in
    let last = run_length Global 0 n in let l1 = length-append a (b ++ run Global 0 n) in let l2 = length-append b (run Global 0 n) in
    let e = h.numbers in let f = ap length h.items in omega arith

pub global_holds : (d : Design) (w : Wiring) (t : Tables) (cell g net : ℕ) → AreNets d w t cell (t.nets cell) → g < length w.globals → slice_get (t.nets cell).net_of (length (t.nets cell).net_of - length w.globals + g) ≡ Some net → NetHolds d t cell net (Ground g)
global_holds d w t cell g net h lt at =
    let a = own_items t cell 0 w.conductors in let b = child_items t 0 (get_or d.cells cell no_cell).places in
    let place = length (t.nets cell).net_of - length w.globals + g in
    record {
      index = place;
      item = Global g;
      is_of = record {
        listed = subst (λ (l : List Item). slice_get l place ≡ Some (Global g)) (sym h.items) (global_at a b (length w.globals) g (length (t.nets cell).net_of) lt (h.numbers ∙ ap length h.items));
        numbered = at;
      };
      holds = record { depth = 0; holds = refl };
    }
