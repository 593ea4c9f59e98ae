-- Shapes put behind those of a list by its number.
use Rattle.std.proofs.Common.{◌≡◌, ◌⊎◌, inl, inr, ℕ, zero, suc, ◌+◌, ◌<◌, ◌≤◌, List, [], ◌∷◌, ◌++◌, length, map, get_or, Option, Some, None, slice_get, refl, sym, ◌∙◌, ap, subst, arith}
use Rattle.base_laws.proofs.Items.{map_to, map_from}
use Rattle.std.specs.Prelude.{slice_index_or, slice_set, replicate}
use Rattle.std.specs.Global.{Vec}
use Rattle.std.proofs.lemmas.Option.{none-some, same_Some}
use Rattle.plain_netlist.specs.Lists.{IsListed}
use Rattle.plain_netlist.proofs.Members.{listed, position, in_left, in_right, either_side}
use Rattle.geo_base.specs.declared.motion.Motion.{Motion}
use Rattle.part_origins.specs.Inside.{PlainSpot}
use Rattle.view_netlist.specs.Drawing.{drawn_of}
use Rattle.view_netlist.specs.declared.drawing.Drawing.{Drawing}
use Rattle.view_netlist.specs.declared.drawing.Shape.{Shape}
use Rattle.view_joined.specs.Moved.{moved_shape}
use Rattle.view_joined.specs.Nets.{shape_lists, put, put_if, spot_put, all_put, IsNetShape, AreJoined}
use Rattle.view_joined.specs.Spots.{still}

pub set_put : (lists : List (Vec Shape)) (q : ℕ) (v d : Vec Shape) (xs : List Shape) → q < length lists → v.items ≡ (slice_index_or lists q d).items ++ xs → shape_lists (slice_set lists q v) ≡ put q xs (shape_lists lists)
set_put [] q v d xs low e = absurd (omega arith)
set_put (l ∷ ls) zero v d xs low e = ap (λ (t : List Shape). t ∷ shape_lists ls) e
set_put (l ∷ ls) (suc q) v d xs low e = ap (λ (t : List (List Shape)). l.items ∷ t) (set_put ls q v d xs (omega arith) e)

pub put_past : (lists : List (List Shape)) (q : ℕ) (xs : List Shape) → length lists ≤ q → lists ≡ put q xs lists
put_past [] q xs low = refl
put_past (l ∷ ls) zero xs low = absurd (omega arith)
put_past (l ∷ ls) (suc q) xs low = ap (λ (t : List (List Shape)). l ∷ t) (put_past ls q xs (omega arith))

put_long : (lists : List (List Shape)) (q : ℕ) (xs : List Shape) → length (put q xs lists) ≡ length lists
put_long [] q xs = refl
put_long (l ∷ ls) zero xs = refl
put_long (l ∷ ls) (suc q) xs = ap suc (put_long ls q xs)

put_if_long : (o : Option ℕ) (xs : List Shape) (lists : List (List Shape)) → length (put_if o xs lists) ≡ length lists
put_if_long None xs lists = refl
put_if_long (Some q) xs lists = put_long lists q xs

-- what stands in list q then
put_from : (lists : List (List Shape)) (p q : ℕ) (xs : List Shape) (t : Shape) → IsListed t (get_or (put p xs lists) q []) → IsListed t (get_or lists q []) ⊎ ((p ≡ q) × IsListed t xs)
put_from [] p q xs t h = inl h
put_from (l ∷ ls) zero zero xs t h = elim (either_side l xs t h) [ inl a ↦ inl a | inr b ↦ inr (refl, b) ]
put_from (l ∷ ls) zero (suc q) xs t h = inl h
put_from (l ∷ ls) (suc p) zero xs t h = inl h
put_from (l ∷ ls) (suc p) (suc q) xs t h = elim (put_from ls p q xs t h) [ inl a ↦ inl a | inr b ↦ inr (ap suc b.0, b.1) ]

put_old : (lists : List (List Shape)) (p q : ℕ) (xs : List Shape) (t : Shape) → IsListed t (get_or lists q []) → IsListed t (get_or (put p xs lists) q [])
put_old [] p q xs t h = h
put_old (l ∷ ls) zero zero xs t h = in_left l xs t h
put_old (l ∷ ls) zero (suc q) xs t h = h
put_old (l ∷ ls) (suc p) zero xs t h = h
put_old (l ∷ ls) (suc p) (suc q) xs t h = put_old ls p q xs t h

put_new : (lists : List (List Shape)) (q : ℕ) (xs : List Shape) (t : Shape) → q < length lists → IsListed t xs → IsListed t (get_or (put q xs lists) q [])
put_new [] q xs t low h = absurd (omega arith)
put_new (l ∷ ls) zero xs t low h = in_right l xs t h
put_new (l ∷ ls) (suc q) xs t low h = put_new ls q xs t (omega arith) h

if_from : (o : Option ℕ) (lists : List (List Shape)) (q : ℕ) (xs : List Shape) (t : Shape) → IsListed t (get_or (put_if o xs lists) q []) → IsListed t (get_or lists q []) ⊎ ((o ≡ Some q) × IsListed t xs)
if_from None lists q xs t h = inl h
if_from (Some p) lists q xs t h = elim (put_from lists p q xs t h) [ inl a ↦ inl a | inr b ↦ inr (ap Some b.0, b.1) ]

if_old : (o : Option ℕ) (lists : List (List Shape)) (q : ℕ) (xs : List Shape) (t : Shape) → IsListed t (get_or lists q []) → IsListed t (get_or (put_if o xs lists) q [])
if_old None lists q xs t h = h
if_old (Some p) lists q xs t h = put_old lists p q xs t h

if_new : (o : Option ℕ) (lists : List (List Shape)) (q : ℕ) (xs : List Shape) (t : Shape) → o ≡ Some q → q < length lists → IsListed t xs → IsListed t (get_or (put_if o xs lists) q [])
if_new o lists q xs t e low h = subst (λ (z : Option ℕ). IsListed t (get_or (put_if z xs lists) q [])) (sym e) (put_new lists q xs t low h)

-- the shapes of a spot's nets, the first of them being net n
record OfSpot (numbers : List (Option ℕ)) (m : Motion) (nets : List (List Shape)) (n : ℕ) (flats : List ℕ) (q : ℕ) (t : Shape) : Type 0 where
  net : ℕ
  flat : ℕ
  there : slice_get flats net ≡ Some flat
  number : slice_index_or numbers flat None ≡ Some q
  shape : Shape
  drawn : IsListed shape (get_or nets (n + net) [])
  moved : t ≡ moved_shape m shape

module _ (numbers : List (Option ℕ)) where
  spot_long : (m : Motion) (nets : List (List Shape)) (flats : List ℕ) (n : ℕ) (lists : List (List Shape)) → length (spot_put numbers m nets n flats lists) ≡ length lists
  spot_long m nets [] n lists = refl
  spot_long m nets (f ∷ fs) n lists =
      spot_long m nets fs (n + 1) (put_if (slice_index_or numbers f None) (map (moved_shape m) (get_or nets n [])) lists) ∙ put_if_long (slice_index_or numbers f None) (map (moved_shape m) (get_or nets n [])) lists

  from_moved : (m : Motion) (shapes : List Shape) (t : Shape) → IsListed t (map (moved_shape m) shapes) → (s : Shape) × IsListed s shapes × (t ≡ moved_shape m s)
  from_moved m shapes t h =
      let i = position (map (moved_shape m) shapes) t h in
      let s = map_from (moved_shape m) shapes i.0 t i.1 in
      (s.0, listed shapes i.0 s.0 s.1, sym s.2)

  in_moved : (m : Motion) (shapes : List Shape) (s : Shape) → IsListed s shapes → IsListed (moved_shape m s) (map (moved_shape m) shapes)
  in_moved m shapes s h =
      let i = position shapes s h in
      listed (map (moved_shape m) shapes) i.0 (moved_shape m s) (map_to (moved_shape m) shapes i.0 s i.1)

  spot_from : (m : Motion) (nets : List (List Shape)) (flats : List ℕ) (n : ℕ) (lists : List (List Shape)) (q : ℕ) (t : Shape) → IsListed t (get_or (spot_put numbers m nets n flats lists) q [])
      → IsListed t (get_or lists q []) ⊎ OfSpot numbers m nets n flats q t
  spot_from m nets [] n lists q t h = inl h
  spot_from m nets (f ∷ fs) n lists q t h =
      let o = slice_index_or numbers f None in
      let xs : List Shape = map (moved_shape m) (get_or nets n []) in
      elim (spot_from m nets fs (n + 1) (put_if o xs lists) q t h) [
        | inl a ↦ elim (if_from o lists q xs t a) [
          | inl b ↦ inl b
          | inr b ↦
              let s = from_moved m (get_or nets n []) t b.1 in
              inr (record { net = 0; flat = f; there = refl; number = b.0; shape = s.0; drawn = subst (λ (k : ℕ). IsListed s.0 (get_or nets k [])) (let e : n ≡ n + 0 = omega arith in e) s.1; moved = s.2 })
        ]
        | inr b ↦ inr (record {
          net = suc b.net;
          flat = b.flat;
          there = b.there;
          number = b.number;
          shape = b.shape;
          drawn = subst (λ (k : ℕ). IsListed b.shape (get_or nets k [])) (let e : (n + 1) + b.net ≡ n + suc b.net = omega arith in e) b.drawn;
          moved = b.moved;
        })
      ]

  spot_old : (m : Motion) (nets : List (List Shape)) (flats : List ℕ) (n : ℕ) (lists : List (List Shape)) (q : ℕ) (t : Shape) → IsListed t (get_or lists q []) → IsListed t (get_or (spot_put numbers m nets n flats lists) q [])
  spot_old m nets [] n lists q t h = h
  spot_old m nets (f ∷ fs) n lists q t h =
      let o = slice_index_or numbers f None in
      let xs : List Shape = map (moved_shape m) (get_or nets n []) in
      spot_old m nets fs (n + 1) (put_if o xs lists) q t (if_old o lists q xs t h)

  spot_new : (m : Motion) (nets : List (List Shape)) (flats : List ℕ) (n : ℕ) (lists : List (List Shape)) (q k flat : ℕ) (s : Shape) → q < length lists → slice_get flats k ≡ Some flat → slice_index_or numbers flat None ≡ Some q
      → IsListed s (get_or nets (n + k) []) → IsListed (moved_shape m s) (get_or (spot_put numbers m nets n flats lists) q [])
  spot_new m nets [] n lists q k flat s low at num h = absurd (none-some flat at)
  spot_new m nets (f ∷ fs) n lists q zero flat s low at num h =
      let o = slice_index_or numbers f None in
      let xs : List Shape = map (moved_shape m) (get_or nets n []) in
      let same : f ≡ flat = same_Some _ _ at in
      let here : IsListed s (get_or nets n []) = subst (λ (j : ℕ). IsListed s (get_or nets j [])) (let e : n + 0 ≡ n = omega arith in e) h in
      spot_old m nets fs (n + 1) (put_if o xs lists) q (moved_shape m s)
      (if_new o lists q xs (moved_shape m s) (ap (λ (j : ℕ). slice_index_or numbers j None) same ∙ num) low (in_moved m (get_or nets n []) s here))
  spot_new m nets (f ∷ fs) n lists q (suc k) flat s low at num h =
      let o = slice_index_or numbers f None in
      let xs : List Shape = map (moved_shape m) (get_or nets n []) in
      let long = put_if_long o xs lists in
      spot_new m nets fs (n + 1) (put_if o xs lists) q k flat s (omega arith) at num (subst (λ (j : ℕ). IsListed s (get_or nets j [])) (let e : n + suc k ≡ (n + 1) + k = omega arith in e) h)

-- all spots
module _ (all : List PlainSpot) (motions : List Motion) (drawings : List Drawing) (numbers : List (Option ℕ)) where
  all_long : (ss : List PlainSpot) (i : ℕ) (lists : List (List Shape)) → length (all_put numbers motions drawings i ss lists) ≡ length lists
  all_long [] i lists = refl
  all_long (s ∷ ss) i lists =
      all_long ss (i + 1) (spot_put numbers (get_or motions i still) (drawn_of drawings s.circuit).nets 0 s.nets lists) ∙ spot_long numbers (get_or motions i still) (drawn_of drawings s.circuit).nets s.nets 0 lists

  all_from : (ss : List PlainSpot) (i : ℕ) (lists : List (List Shape)) (q : ℕ) (t : Shape) → ((j : ℕ) (s : PlainSpot) → slice_get ss j ≡ Some s → slice_get all (i + j) ≡ Some s)
      → IsListed t (get_or (all_put numbers motions drawings i ss lists) q []) → IsListed t (get_or lists q []) ⊎ IsNetShape all motions drawings numbers q t
  all_from [] i lists q t at h = inl h
  all_from (s ∷ ss) i lists q t at h =
      let m = get_or motions i still in
      let nets = (drawn_of drawings s.circuit).nets in
      elim (all_from ss (i + 1) (spot_put numbers m nets 0 s.nets lists) q t (λ j u e. subst (λ (n : ℕ). slice_get all n ≡ Some u) (let z : i + suc j ≡ (i + 1) + j = omega arith in z) (at (suc j) u e)) h) [
        | inl a ↦ elim (spot_from numbers m nets s.nets 0 lists q t a) [
          | inl b ↦ inl b
          | inr b ↦ inr (record {
            spot = i;
            of = s;
            is = subst (λ (n : ℕ). slice_get all n ≡ Some s) (let z : i + 0 ≡ i = omega arith in z) (at 0 s refl);
            net = b.net;
            flat = b.flat;
            there = b.there;
            number = b.number;
            shape = b.shape;
            drawn = subst (λ (n : ℕ). IsListed b.shape (get_or nets n [])) (let z : 0 + b.net ≡ b.net = omega arith in z) b.drawn;
            moved = b.moved;
          })
        ]
        | inr b ↦ inr b
      ]

  all_old : (ss : List PlainSpot) (i : ℕ) (lists : List (List Shape)) (q : ℕ) (t : Shape) → IsListed t (get_or lists q []) → IsListed t (get_or (all_put numbers motions drawings i ss lists) q [])
  all_old [] i lists q t h = h
  all_old (s ∷ ss) i lists q t h =
      let m = get_or motions i still in
      let nets = (drawn_of drawings s.circuit).nets in
      all_old ss (i + 1) (spot_put numbers m nets 0 s.nets lists) q t (spot_old numbers m nets s.nets 0 lists q t h)

  all_new : (ss : List PlainSpot) (i : ℕ) (lists : List (List Shape)) (q j k flat : ℕ) (u : PlainSpot) (s : Shape) → q < length lists → slice_get ss j ≡ Some u → slice_get u.nets k ≡ Some flat → slice_index_or numbers flat None ≡ Some q
      → IsListed s (get_or (drawn_of drawings u.circuit).nets k []) → IsListed (moved_shape (get_or motions (i + j) still) s) (get_or (all_put numbers motions drawings i ss lists) q [])
  all_new [] i lists q j k flat u s low is at num h = absurd (none-some u is)
  all_new (v ∷ vs) i lists q zero k flat u s low is at num h =
      let m = get_or motions i still in
      let nets = (drawn_of drawings v.circuit).nets in
      let same : v ≡ u = same_Some _ _ is in
      let there : slice_get v.nets k ≡ Some flat = subst (λ (z : PlainSpot). slice_get z.nets k ≡ Some flat) (sym same) at in
      let drawn : IsListed s (get_or nets (0 + k) []) = subst (λ (n : ℕ). IsListed s (get_or nets n [])) (let z : k ≡ 0 + k = omega arith in z) (subst (λ (z : PlainSpot). IsListed s (get_or (drawn_of drawings z.circuit).nets k [])) (sym same) h) in
      let one = spot_new numbers m nets v.nets 0 lists q k flat s low there num drawn in
      subst (λ (n : ℕ). IsListed (moved_shape (get_or motions n still) s) (get_or (all_put numbers motions drawings i (v ∷ vs) lists) q [])) (let z : i ≡ i + 0 = omega arith in z)
      (all_old vs (i + 1) (spot_put numbers m nets 0 v.nets lists) q (moved_shape m s) one)
  all_new (v ∷ vs) i lists q (suc j) k flat u s low is at num h =
      let m = get_or motions i still in
      let nets = (drawn_of drawings v.circuit).nets in
      let long = spot_long numbers m nets v.nets 0 lists in
      subst (λ (n : ℕ). IsListed (moved_shape (get_or motions n still) s) (get_or (all_put numbers motions drawings i (v ∷ vs) lists) q [])) (let z : (i + 1) + j ≡ i + suc j = omega arith in z)
      (all_new vs (i + 1) (spot_put numbers m nets 0 v.nets lists) q j k flat u s (omega arith) is at num h)

none_in : (count q : ℕ) (t : Shape) → IsListed t (get_or (let e : List (List Shape) = replicate count [] in e) q []) → ⊥
none_in zero q t h = h
none_in (suc count) zero t h = h
none_in (suc count) (suc q) t h = none_in count q t h

long_none : (count : ℕ) → length (let e : List (List Shape) = replicate count [] in e) ≡ count
long_none zero = refl
long_none (suc count) = let e = long_none count in omega arith

pub are_joined : (spots : List PlainSpot) (motions : List Motion) (drawings : List Drawing) (numbers : List (Option ℕ)) (count : ℕ) (lists : List (List Shape)) → lists ≡ all_put numbers motions drawings 0 spots (replicate count [])
    → AreJoined spots motions drawings numbers count lists
are_joined spots motions drawings numbers count lists e =
    let empty : List (List Shape) = replicate count [] in
    let made : List (List Shape) = all_put numbers motions drawings 0 spots empty in
    subst (λ (z : List (List Shape)). AreJoined spots motions drawings numbers count z) (sym e) (record {
      count_is = all_long spots motions drawings numbers spots 0 empty ∙ long_none count;
      each = λ q t low. (
        (λ h. elim (all_from spots motions drawings numbers spots 0 empty q t (λ j s at. subst (λ (n : ℕ). slice_get spots n ≡ Some s) (let z : j ≡ 0 + j = omega arith in z) at) h) [
          | inl a ↦ absurd (none_in count q t a)
          | inr b ↦ b
        ]),
        (λ h.
            let long = long_none count in
            let new = all_new spots motions drawings numbers spots 0 empty q h.spot h.net h.flat h.of h.shape (omega arith) h.is h.there h.number h.drawn in
            subst (λ (u : Shape). IsListed u (get_or made q [])) (sym h.moved) (subst (λ (n : ℕ). IsListed (moved_shape (get_or motions n still) h.shape) (get_or made q [])) (let z : 0 + h.spot ≡ h.spot = omega arith in z) new)),
      );
    })
