-- Rectangles by the numbers of their nets, one piece more.
use Rattle.std.proofs.Common.{◌≡◌, ◌<◌, ◌≤◌, ◌∙◌, ℕ, zero, suc, ◌+◌, List, [], ◌∷◌, ◌++◌, Option, Some, None, get_or, length, refl, sym, subst, ap, arith, append_assoc, append-nil}
use Rattle.std.specs.Prelude.{set}
use Rattle.std.specs.Global.{Vec}
use Rattle.view_netlist.specs.declared.drawing.Shape.{Shape}
use Rattle.view_shapes.specs.declared.pieces.Piece.{Piece}
use Rattle.view_drawing.specs.Nets.{HasNone, HaveShapes, IsPushed, list_at, only_at, shape_at, shape_of, shapes_at}

count_set : (xs : List (Vec Shape)) (k : ℕ) (w : Vec Shape) → length (set xs k w) ≡ length xs
count_set [] k w = refl
count_set (x ∷ xs) zero w = refl
count_set (x ∷ xs) (suc k) w = ap suc (count_set xs k w)

put : (xs : List (Vec Shape)) (k : ℕ) (v w : Vec Shape) (s : Shape) → k < length xs → v ≡ get_or xs k v → w.items ≡ v.items ++ s ∷ [] → (a : ℕ) → list_at (set xs k w) a ≡ list_at xs a ++ only_at k (s ∷ []) a
put [] k v w s lt at e a = absurd (omega arith)
put (x ∷ xs) zero v w s lt at e zero = e ∙ ap (λ (q : Vec Shape). q.items ++ s ∷ []) at
put (x ∷ xs) zero v w s lt at e (suc a) = sym (append-nil (list_at xs a))
put (x ∷ xs) (suc k) v w s lt at e zero = sym (append-nil x.items)
put (x ∷ xs) (suc k) v w s lt at e (suc a) = put xs k v w s (omega arith) at e a

only_other : (k a : ℕ) (shapes : List Shape) → a < k → only_at k shapes a ≡ []
only_other zero a shapes lt = absurd (omega arith)
only_other (suc k) zero shapes lt = refl
only_other (suc k) (suc a) shapes lt = only_other k a shapes (omega arith)

pub pushed : (xs : List (Vec Shape)) (k : ℕ) (v w : Vec Shape) (p : Piece) → k < length xs → v ≡ get_or xs k v → w.items ≡ v.items ++ shape_of p ∷ [] → IsPushed (Some k) p xs (set xs k w)
pushed xs k v w p lt at e = record { long = count_set xs k w; each = λ a l. put xs k v w (shape_of p) lt at e a }

pub pushed_past : (xs : List (Vec Shape)) (k : ℕ) (p : Piece) → length xs ≤ k → IsPushed (Some k) p xs xs
pushed_past xs k p past = record {
  long = refl;
  each = λ a l. sym (ap (λ (q : List Shape). list_at xs a ++ q) (only_other k a (shape_of p ∷ []) (omega (arith, past, l))) ∙ append-nil (list_at xs a));
}

pub pushed_none : (xs : List (Vec Shape)) (p : Piece) → IsPushed None p xs xs
pushed_none xs p = record { long = refl; each = λ a l. sym (append-nil (list_at xs a)) }

pub none_more : (n : ℕ) (xs : List (Vec Shape)) (v : Vec Shape) → v.items ≡ [] → HasNone n xs → HasNone (n + 1) (xs ++ v ∷ [])
none_more n xs v e h = record { long = longer xs ∙ ap (λ (k : ℕ). k + 1) h.long; none = none xs h.none }
  where
    longer : (ys : List (Vec Shape)) → length (ys ++ v ∷ []) ≡ length ys + 1
    longer [] = refl
    longer (y ∷ ys) = let g = longer ys in omega (arith, g)

    none : (ys : List (Vec Shape)) → ((a : ℕ) → list_at ys a ≡ []) → (a : ℕ) → list_at (ys ++ v ∷ []) a ≡ []
    none [] g zero = e
    none [] g (suc a) = refl
    none (y ∷ ys) g zero = g zero
    none (y ∷ ys) g (suc a) = none ys (λ b. g (suc b)) a

-- the rectangles that are in the lists, and the pieces that are left
pub record ShapesSoFar (count : ℕ) (numbers : List (Option ℕ)) (lists : List (Vec Shape)) (rest pieces : List Piece) : Type 0 where
  pub long : length lists ≡ count
  pub each : (a : ℕ) → a < count → list_at lists a ++ shapes_at numbers rest a ≡ shapes_at numbers pieces a

pub shapes_start : (count : ℕ) (numbers : List (Option ℕ)) (lists : List (Vec Shape)) (pieces : List Piece) → HasNone count lists → ShapesSoFar count numbers lists pieces pieces
shapes_start count numbers lists pieces h = record { long = h.long; each = λ a l. ap (λ (q : List Shape). q ++ shapes_at numbers pieces a) (h.none a) }

pub shapes_more : (count : ℕ) (numbers : List (Option ℕ)) (old new : List (Vec Shape)) (number : Option ℕ) (p : Piece) (rest more pieces : List Piece)
    → ShapesSoFar count numbers old rest pieces → rest ≡ p ∷ more → number ≡ get_or numbers p.net None → IsPushed number p old new → ShapesSoFar count numbers new more pieces
shapes_more count numbers old new number p rest more pieces h e at g =
    let one = get_or numbers p.net None in
    let put : IsPushed one p old new = subst (λ (n : Option ℕ). IsPushed n p old new) at g in
    record {
      long = put.long ∙ h.long;
      each = λ a l.
          ap (λ (q : List Shape). q ++ shapes_at numbers more a) (put.each a (subst (λ (n : ℕ). a < n) (sym h.long) l))
          ∙ append_assoc (list_at old a) (shape_at one p a) (shapes_at numbers more a)
          ∙ ap (λ (ps : List Piece). list_at old a ++ shapes_at numbers ps a) (sym e)
          ∙ h.each a l;
    }

pub shapes_end : (count : ℕ) (numbers : List (Option ℕ)) (lists : List (Vec Shape)) (rest pieces : List Piece) → rest ≡ [] → ShapesSoFar count numbers lists rest pieces → HaveShapes count numbers pieces lists
shapes_end count numbers lists rest pieces e h = record {
  long = h.long;
  each = λ a l. sym (append-nil (list_at lists a)) ∙ ap (λ (ps : List Piece). list_at lists a ++ shapes_at numbers ps a) (sym e) ∙ h.each a l;
}

pub none_yet : (xs : List (Vec Shape)) → xs ≡ [] → HasNone 0 xs
none_yet xs e = record { long = ap length e; none = λ a. ap (λ (ys : List (Vec Shape)). list_at ys a) e ∙ no_list a }
  where
    no_list : (a : ℕ) → list_at [] a ≡ []
    no_list zero = refl
    no_list (suc a) = refl
