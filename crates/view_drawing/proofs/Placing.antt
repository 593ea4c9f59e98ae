-- Places of devices stay right while regions are added.
use Rattle.std.proofs.Common.{◌≡◌, ◌∙◌, ◌<◌, ◌≤◌, ◌-◌, ◌+◌, ℕ, ℤ, zero, suc, Bool, true, false, cond, List, [], ◌∷◌, ◌++◌, Some, drop, get_or, length, map, slice_get, take, arith, refl, sym, subst, ap, append_assoc, append-nil}
use Rattle.std.specs.List.{All}
use Rattle.std.proofs.lemmas.List.{take_all}
use Rattle.std.proofs.lemmas.List.Elements.{All-append}
use Rattle.std.proofs.lemmas.Option.{none-some, same_Some}
use Rattle.deep_tables.specs.declared.gates.Gate.{Gate}
use Rattle.geo_base.specs.declared.shapes.Rect.{Rect}
use Rattle.plain_netlist.specs.Netlist.{DeviceRow}
use Rattle.view_netlist.specs.Drawing.{AreSmallPlaces}
use Rattle.view_netlist.specs.Kinds.{Class, class_of}
use Rattle.view_netlist.specs.declared.drawing.DevicePlace.{DevicePlace}
use Rattle.view_drawing.specs.Devices.{AddsRegions, Area, ArePlaces, AreSmallRegions, IsListedRegion, IsPlaceOf, good_of, is_good}
use Rattle.view_drawing.specs.Far.{HasFarGate}

pub none_added : (rs : List Area) → AddsRegions rs rs
none_added rs = ([], sym (append-nil rs))

pub added_twice : (a b c : List Area) → AddsRegions a b → AddsRegions b c → AddsRegions a c
added_twice a b c h g = (h.0 ++ g.0, g.1 ∙ ap (λ (l : List Area). l ++ g.0) h.1 ∙ append_assoc a h.0 g.0)

get_front : (xs ys : List Area) (k : ℕ) (r : Area) → slice_get xs k ≡ Some r → slice_get (xs ++ ys) k ≡ Some r
get_front [] ys k r e = absurd (none-some r e)
get_front (x ∷ xs) ys zero r e = e
get_front (x ∷ xs) ys (suc k) r e = get_front xs ys k r e

pub still_listed : (a b : List Area) (k : ℕ) (class : Class) (rects : List Rect) → AddsRegions a b → IsListedRegion a k class rects → IsListedRegion b k class rects
still_listed a b k class rects h l = subst (λ (rs : List Area). IsListedRegion rs k class rects) (sym h.1) (get_front a h.0 k _ l)

pub still_place : (a b : List Area) (class : Class) (g : Gate) (p : DevicePlace) → AddsRegions a b → IsPlaceOf a class g p → IsPlaceOf b class g p
still_place a b class g p h l = record { at = l.at; region = still_listed a b p.region class _ h l.region }

pub still_places : (a b : List Area) (gs : List Gate) (rows : List DeviceRow) (ps : List DevicePlace) → AddsRegions a b → ArePlaces a gs rows ps → ArePlaces b gs rows ps
still_places a b [] rows ps h l = l
still_places a b (g ∷ gs) [] ps h l = l
still_places a b (g ∷ gs) (r ∷ rs) [] h l = l
still_places a b (g ∷ gs) (r ∷ rs) (p ∷ ps) h l = (still_place a b (class_of r) g p h l.0, still_places a b gs rs ps h l.1)

-- what is placed of the gates and rows that are left stands behind what was placed before
abbrev pub Goes : List Area → List Gate → List DeviceRow → List DevicePlace → List Gate → List DeviceRow → Type 0
Goes now left rest out gates rows = (rs : List Area) (ps : List DevicePlace) → AddsRegions now rs → ArePlaces rs (good_of left) rest ps → ArePlaces rs (good_of gates) rows (out ++ ps)

pub goes_none : (now : List Area) (gates : List Gate) (rows : List DeviceRow) → Goes now gates rows [] gates rows
goes_none now gates rows rs ps a h = h

pub goes_bad : (now : List Area) (g : Gate) (more : List Gate) (rest : List DeviceRow) (out : List DevicePlace) (gates : List Gate) (rows : List DeviceRow) → is_good g.state ≡ false
    → Goes now (g ∷ more) rest out gates rows → Goes now more rest out gates rows
goes_bad now g more rest out gates rows bad h rs ps a l =
    h rs ps a (subst (λ (b : Bool). ArePlaces rs (cond b (g ∷ good_of more) (good_of more)) rest ps) (sym bad) l)

pub goes_good : (now new : List Area) (g : Gate) (more : List Gate) (r : DeviceRow) (rest : List DeviceRow) (p : DevicePlace) (out : List DevicePlace) (gates : List Gate) (rows : List DeviceRow) → is_good g.state ≡ true
    → AddsRegions now new → IsPlaceOf new (class_of r) g p → Goes now (g ∷ more) (r ∷ rest) out gates rows → Goes new more rest (out ++ p ∷ []) gates rows
goes_good now new g more r rest p out gates rows good added is h rs ps a l =
    let one : ArePlaces rs (g ∷ good_of more) (r ∷ rest) (p ∷ ps) = (still_place new rs (class_of r) g p a is, l) in
    let all = h rs (p ∷ ps) (added_twice now new rs added a) (subst (λ (b : Bool). ArePlaces rs (cond b (g ∷ good_of more) (good_of more)) (r ∷ rest) (p ∷ ps)) (sym good) one) in
    subst (λ (l : List DevicePlace). ArePlaces rs (good_of gates) rows l) (sym (append_assoc out (p ∷ []) ps)) all

ends : (rs : List Area) (gates : List Gate) (rows : List DeviceRow) (out : List DevicePlace) → ArePlaces rs (good_of gates) rows (out ++ []) → ArePlaces rs (good_of gates) rows out
ends rs gates rows out h = subst (λ (l : List DevicePlace). ArePlaces rs (good_of gates) rows l) (append-nil out) h

pub goes_end : (now : List Area) (left : List Gate) (rest : List DeviceRow) (out : List DevicePlace) (gates : List Gate) (rows : List DeviceRow) → left ≡ [] → Goes now left rest out gates rows → ArePlaces now (good_of gates) rows out
goes_end now left rest out gates rows e h =
    ends now gates rows out (h now [] (none_added now) (subst (λ (l : List Gate). ArePlaces now (good_of l) rest []) (sym e) refl))

no_rows : (now : List Area) (gs : List Gate) → ArePlaces now gs [] []
no_rows now [] = refl
no_rows now (g ∷ gs) = refl

pub goes_short : (now : List Area) (left : List Gate) (rest : List DeviceRow) (out : List DevicePlace) (gates : List Gate) (rows : List DeviceRow) → rest ≡ [] → Goes now left rest out gates rows → ArePlaces now (good_of gates) rows out
goes_short now left rest out gates rows e h =
    ends now gates rows out (h now [] (none_added now) (subst (λ (l : List DeviceRow). ArePlaces now (good_of left) l []) (sym e) (no_rows now (good_of left))))

pub record PlacesSoFar (old now : List Area) (left : List Gate) (rest : List DeviceRow) (out : List DevicePlace) (gates : List Gate) (rows : List DeviceRow) : Type 0 where
  pub added : AddsRegions old now
  pub small : AreSmallRegions old → AreSmallRegions now
  pub goes : Goes now left rest out gates rows
  pub small_places : AreSmallPlaces out
  pub far : HasFarGate left → HasFarGate gates

-- ---- one region more

one_all : {A : Type 0} (P : A → Type 0) (x : A) → P x → All P (x ∷ [])
one_all P x h zero d lt = h
one_all P x h (suc k) d lt = absurd (omega arith)

pub all_one : {A : Type 0} (P : A → Type 0) (xs : List A) (x : A) → All P xs → P x → All P (xs ++ x ∷ [])
all_one P xs x h p = All-append P xs (x ∷ []) h (one_all P x p)

-- ---- lists from their ends

pub nil_of : {A B : Type 0} (f : A → B) (xs : List A) → length xs < 1 → map f xs ≡ []
nil_of f [] lt = refl
nil_of f (x ∷ xs) lt = absurd (omega arith)

pub front : {A B : Type 0} (f : A → B) (xs : List A) (x : A) → 1 ≤ length xs → x ≡ get_or xs 0 x → map f xs ≡ f x ∷ map f (take (length xs - 1) (drop 1 xs))
front f [] x some e = absurd (omega arith)
front {A} f (y ∷ ys) x some e =
    let rest : take (length (y ∷ ys) - 1) ys ≡ ys = take_all (length (y ∷ ys) - 1) ys (omega arith) in
    ap (λ (z : A). f z ∷ map f ys) (sym e) ∙ ap (λ (zs : List A). f x ∷ map f zs) (sym rest)

pub front_is : {A : Type 0} (xs : List A) (x : A) → 1 ≤ length xs → x ≡ get_or xs 0 x → xs ≡ x ∷ take (length xs - 1) (drop 1 xs)
front_is [] x some e = absurd (omega arith)
front_is {A} (y ∷ ys) x some e =
    let rest : take (length (y ∷ ys) - 1) ys ≡ ys = take_all (length (y ∷ ys) - 1) ys (omega arith) in
    ap (λ (z : A). z ∷ ys) (sym e) ∙ ap (λ (zs : List A). x ∷ zs) (sym rest)

pub drop_at : {A : Type 0} (xs : List A) (k : ℕ) (x : A) → slice_get xs k ≡ Some x → drop k xs ≡ x ∷ drop (k + 1) xs
drop_at [] k x e = absurd (none-some x e)
drop_at {A} (y ∷ ys) zero x e = ap (λ (z : A). z ∷ ys) (same_Some _ _ e)
drop_at {A} (y ∷ ys) (suc k) x e =
    let n : suc k + 1 ≡ suc (k + 1) = omega arith in
    drop_at ys k x e ∙ ap (λ (m : ℕ). x ∷ drop m (y ∷ ys)) (sym n)

pub same_rect : (a b : Rect) → a.x1 ≡ b.x1 → a.y1 ≡ b.y1 → a.x2 ≡ b.x2 → a.y2 ≡ b.y2 → a ≡ b
same_rect a b e f g h =
    ap (λ (z : ℤ). let r : Rect = record { x1 = z; y1 = a.y1; x2 = a.x2; y2 = a.y2 } in r) e
    ∙ ap (λ (z : ℤ). let r : Rect = record { x1 = b.x1; y1 = z; x2 = a.x2; y2 = a.y2 } in r) f
    ∙ ap (λ (z : ℤ). let r : Rect = record { x1 = b.x1; y1 = b.y1; x2 = z; y2 = a.y2 } in r) g
    ∙ ap (λ (z : ℤ). let r : Rect = record { x1 = b.x1; y1 = b.y1; x2 = b.x2; y2 = z } in r) h

pub same_area : (class other : Class) (rects others : List Rect) → class ≡ other → rects ≡ others → (let a : Area = record { class = class; rects = rects } in a) ≡ (let b : Area = record { class = other; rects = others } in b)
same_area class other rects others e f =
    ap (λ (l : Class). let a : Area = record { class = l; rects = rects } in a) e ∙ ap (λ (l : List Rect). let a : Area = record { class = other; rects = l } in a) f
