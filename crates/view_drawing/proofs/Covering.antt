-- The rectangles of a circuit's nets cover what these nets show.
use Rattle.std.proofs.Common.{◌≡◌, ◌<◌, ◌⊎◌, ◌↔◌, inl, inr, ◌∙◌, ℕ, zero, suc, Bool, List, [], ◌∷◌, ◌++◌, Option, Some, None, slice_get, get_or, length, map, refl, sym, subst, ap, arith}
use Rattle.std.specs.Global.{Vec}
use Rattle.std.specs.List.{All}
use Rattle.std.proofs.lemmas.Option.{none-some, slice_get_within, get_or_from_slice_get, same_Some}
use Rattle.std.proofs.lemmas.List.{get_or_default, length-map}
use Rattle.std.proofs.lemmas.List.Elements.{All-append, All-cons, All-nil}
use Rattle.flat_layout.specs.Layout.{Design, Some_of}
use Rattle.flat_layout.specs.Nets.{Tables}
use Rattle.flat_layout.specs.Plane.{IsIn}
use Rattle.geo_base.specs.declared.shapes.Square.{Square}
use Rattle.view_shapes.specs.ReadLaws.{Called}
use Rattle.view_netlist.specs.Drawing.{AreSmallShapes}
use Rattle.view_netlist.specs.declared.drawing.Shape.{Shape}
use Rattle.view_words.specs.Numbers.{IsSmallRect}
use Rattle.view_shapes.specs.Pieces.{AreSmall, IsOver}
use Rattle.view_shapes.specs.Shown.{IsShownWanted}
use Rattle.view_shapes.specs.declared.pieces.Piece.{Piece}
use Rattle.view_drawing.specs.Nets.{HaveShapes, list_at, only_at, shape_at, shape_of, shapes_at}
use Rattle.view_drawing.specs.Shown.{AreNetsDrawn, TellsNets, HasShape}

some_split : (P : Shape → Type 0) (xs ys : List Shape) → Some_of P (xs ++ ys) → Some_of P xs ⊎ Some_of P ys
some_split P [] ys h = inr h
some_split P (x ∷ xs) ys (inl h) = inl (inl h)
some_split P (x ∷ xs) ys (inr h) = elim (some_split P xs ys h) [ inl a ↦ inl (inr a) | inr b ↦ inr b ]

some_left : (P : Shape → Type 0) (xs ys : List Shape) → Some_of P xs → Some_of P (xs ++ ys)
some_left P [] ys h = absurd h
some_left P (x ∷ xs) ys (inl h) = inl h
some_left P (x ∷ xs) ys (inr h) = inr (some_left P xs ys h)

some_right : (P : Shape → Type 0) (xs ys : List Shape) → Some_of P ys → Some_of P (xs ++ ys)
some_right P [] ys h = h
some_right P (x ∷ xs) ys h = inr (some_right P xs ys h)

in_only : (P : Shape → Type 0) (k a : ℕ) (s : Shape) → Some_of P (only_at k (s ∷ []) a) → (k ≡ a) × P s
in_only P zero zero s (inl h) = (refl, h)
in_only P zero zero s (inr h) = absurd h
in_only P zero (suc a) s h = absurd h
in_only P (suc k) zero s h = absurd h
in_only P (suc k) (suc a) s h = let r = in_only P k a s h in (ap suc r.0, r.1)

only_in : (P : Shape → Type 0) (a : ℕ) (s : Shape) → P s → Some_of P (only_at a (s ∷ []) a)
only_in P zero s h = inl h
only_in P (suc a) s h = only_in P a s h

-- a piece's rectangle stands at its net's number alone
in_shape : (P : Shape → Type 0) (o : Option ℕ) (p : Piece) (a : ℕ) → Some_of P (shape_at o p a) → (o ≡ Some a) × P (shape_of p)
in_shape P None p a h = absurd h
in_shape P (Some k) p a h = let r = in_only P k a (shape_of p) h in (ap Some r.0, r.1)

shape_in : (P : Shape → Type 0) (o : Option ℕ) (p : Piece) (a : ℕ) → o ≡ Some a → P (shape_of p) → Some_of P (shape_at o p a)
shape_in P o p a e h = subst (λ (n : Option ℕ). Some_of P (shape_at n p a)) (sym e) (only_in P a (shape_of p) h)

abbrev Has : ℕ → Square → Shape → Type 0
Has c q s = (s.layer ≡ c) × IsIn q s.rect

over_net : (numbers : List (Option ℕ)) (a x c : ℕ) (q : Square) → ((y : ℕ) → get_or numbers y None ≡ Some a → y ≡ x) → (ps : List Piece) → HasShape (shapes_at numbers ps a) c q → IsOver ps c x q
over_net numbers a x c q one [] h = h
over_net numbers a x c q one (p ∷ ps) h =
    elim (some_split (Has c q) (shape_at (get_or numbers p.net None) p a) (shapes_at numbers ps a) h) [
      | inl here ↦ let r = in_shape (Has c q) (get_or numbers p.net None) p a here in inl (r.1.0, one p.net r.0, r.1.1)
      | inr rest ↦ inr (over_net numbers a x c q one ps rest)
    ]

net_over : (numbers : List (Option ℕ)) (a x c : ℕ) (q : Square) → get_or numbers x None ≡ Some a → (ps : List Piece) → IsOver ps c x q → HasShape (shapes_at numbers ps a) c q
net_over numbers a x c q has [] h = h
net_over numbers a x c q has (p ∷ ps) (inl h) =
    some_left (Has c q) (shape_at (get_or numbers p.net None) p a) (shapes_at numbers ps a)
    (shape_in (Has c q) (get_or numbers p.net None) p a (ap (λ (y : ℕ). get_or numbers y None) h.1 ∙ has) (h.0, h.2))
net_over numbers a x c q has (p ∷ ps) (inr h) =
    some_right (Has c q) (shape_at (get_or numbers p.net None) p a) (shapes_at numbers ps a) (net_over numbers a x c q has ps h)

told : (numbers : List (Option ℕ)) (y a : ℕ) → get_or numbers y None ≡ Some a → slice_get numbers y ≡ Some (Some a)
told [] zero a e = absurd (none-some a e)
told [] (suc y) a e = absurd (none-some a e)
told (n ∷ ns) zero a e = ap Some e
told (n ∷ ns) (suc y) a e = told ns y a e

pub nets_drawn : (d : Design) (t : Tables) (called : Called) (cell : ℕ) (wanted : List Bool) (numbers : List (Option ℕ)) (nets : List ℕ) (count : ℕ) (pieces : List Piece) (lists : List (Vec Shape))
    → ((c x : ℕ) (q : Square) → IsOver pieces c x q ↔ IsShownWanted d t called cell wanted c x q) → HaveShapes count numbers pieces lists
    → TellsNets wanted numbers nets → length nets ≡ count → AreNetsDrawn d t called cell nets (list_at lists)
nets_drawn d t called cell wanted numbers nets count pieces lists shown have tells long a x c q is =
    let lt : a < count = subst (λ (n : ℕ). a < n) long (slice_get_within nets a x is) in
    let same : list_at lists a ≡ shapes_at numbers pieces a = have.each a lt in
    let one : (y : ℕ) → get_or numbers y None ≡ Some a → y ≡ x = λ y e. same_Some y x (sym (tells.stands y a (told numbers y a e)) ∙ is) in
    let has : get_or numbers x None ≡ Some a = get_or_from_slice_get numbers x (Some a) None (tells.has x a is) in (
      (λ h. ((shown c x q).0 (over_net numbers a x c q one pieces (subst (λ (ss : List Shape). HasShape ss c q) same h))).1),
      (λ h. subst (λ (ss : List Shape). HasShape ss c q) (sym same) (net_over numbers a x c q has pieces ((shown c x q).1 (tells.marked x a is, h)))),
    )

abbrev Small : Shape → Type 0
Small s = IsSmallRect s.rect

small_only : (k a : ℕ) (s : Shape) → Small s → All Small (only_at k (s ∷ []) a)
small_only zero zero s h = All-cons Small s [] h (All-nil Small)
small_only zero (suc a) s h = All-nil Small
small_only (suc k) zero s h = All-nil Small
small_only (suc k) (suc a) s h = small_only k a s h

small_one : (o : Option ℕ) (p : Piece) (a : ℕ) → IsSmallRect p.rect → All Small (shape_at o p a)
small_one None p a h = All-nil Small
small_one (Some k) p a h = small_only k a (shape_of p) h

small_at : (numbers : List (Option ℕ)) (ps : List Piece) (a : ℕ) → AreSmall ps → All Small (shapes_at numbers ps a)
small_at numbers [] a h = All-nil Small
small_at numbers (p ∷ ps) a h =
    let o = get_or numbers p.net None in
    All-append Small (shape_at o p a) (shapes_at numbers ps a) (small_one o p a h.0) (small_at numbers ps a h.1)

pub small_lists : (count : ℕ) (numbers : List (Option ℕ)) (pieces : List Piece) (lists : List (Vec Shape)) → HaveShapes count numbers pieces lists → AreSmall pieces → All AreSmallShapes (map (λ v. v.items) lists)
small_lists count numbers pieces lists have small k d lt =
    let long = length-map lists (λ (v : Vec Shape). v.items) in
    let l : k < count = let all = have.long in omega (arith, lt, long, all) in
    let same : get_or (map (λ (v : Vec Shape). v.items) lists) k d ≡ shapes_at numbers pieces k = get_or_default (map (λ (v : Vec Shape). v.items) lists) k d [] lt ∙ have.each k l in
    subst (λ (ss : List Shape). All Small ss) (sym same) (small_at numbers pieces k small)
