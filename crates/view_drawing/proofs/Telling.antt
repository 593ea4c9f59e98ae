-- The names of a circuit's nets tell which nets of its cell they are.
use Rattle.std.proofs.Common.{◌≡◌, ◌<◌, ◌≤◌, ◌∙◌, inl, inr, ℕ, zero, suc, ◌+◌, ◌^◌, Bool, true, false, List, [], ◌∷◌, ◌++◌, Option, Some, map, length, slice_get, get_or, refl, sym, subst, ap, arith, append_assoc, append-nil, ◌||◌}
use Rattle.base_laws.proofs.Items.{item_at, map_to}
use Rattle.std.proofs.lemmas.Bool.{cases_Bool}
use Rattle.std.specs.Str.{bytes_eq}
use Rattle.std.proofs.lemmas.Option.{none-some, same_Some, slice_get_within, get_or_from_slice_get}
use Rattle.std.proofs.lemmas.List.{length-map}
use Rattle.std.proofs.lemmas.Slice.Eq.{bytes_eq-Decides}
use Rattle.net_names.specs.Folding.{folded_bytes}
use Rattle.circuit_phase.proofs.Leading.{at_place}
use Rattle.flat_layout.specs.Circuits.{AreCircuitNets, drawn_names, drawn_nets, true_places}
use Rattle.flat_layout.specs.Pins.{CellPins}
use Rattle.plain_netlist.proofs.Listing.{apart_at}
use Rattle.plain_netlist.proofs.Members.{listed, position}
use Rattle.plain_netlist.specs.Lists.{AreApart, IsListed}
use Rattle.plain_netlist.specs.Netlist.{Circuit}
use Rattle.spice_text.specs.Needs.{first_seen}
use Rattle.text_table.specs.Texts.{has_text, place_of, with_text}
use Rattle.view_drawing.specs.Numbers.{left_if, spread}
use Rattle.view_drawing.specs.Shown.{TellsNets}

-- ---- numbers spread over marks

spread_at : (marks : List Bool) (ns : List ℕ) (from k x n : ℕ) → slice_get (true_places from marks) k ≡ Some x → slice_get ns k ≡ Some n → (i : ℕ) × (x ≡ from + i) × (slice_get (spread marks ns) i ≡ Some (Some n))
spread_at [] ns from k x n e f = absurd (none-some x e)
spread_at (false ∷ marks) ns from k x n e f =
    let r = spread_at marks ns (suc from) k x n e f in
    (suc r.0, (let g : x ≡ suc from + r.0 = r.1 in omega arith), r.2)
spread_at (true ∷ marks) [] from k x n e f = absurd (none-some n f)
spread_at (true ∷ marks) (m ∷ ns) from zero x n e f = (0, (let g : from ≡ x = same_Some _ _ e in omega arith), f_is)
  where
    f_is : Some (Some m) ≡ Some (Some n)
    f_is = ap (λ (o : Option ℕ). Some o) f
spread_at (true ∷ marks) (m ∷ ns) from (suc k) x n e f =
    let r = spread_at marks ns (suc from) k x n e f in
    (suc r.0, (let g : x ≡ suc from + r.0 = r.1 in omega arith), r.2)

marked_at : (marks : List Bool) (ns : List ℕ) (x a : ℕ) → slice_get (spread marks ns) x ≡ Some (Some a) → slice_get marks x ≡ Some true
marked_at [] ns x a e = absurd (none-some (Some a) e)
marked_at (false ∷ marks) ns zero a e = absurd (let z : ⊥ = cc in z)
marked_at (true ∷ marks) ns zero a e = refl
marked_at (mark ∷ marks) ns (suc x) a e = marked_at marks (left_if mark ns) x a e

-- ---- texts that are apart

apart_of : (xs : List (List ℕ)) → ((i j : ℕ) (a : List ℕ) → slice_get xs i ≡ Some a → slice_get xs j ≡ Some a → i ≡ j) → AreApart xs
apart_of [] h = tt
apart_of (x ∷ xs) h = (
  (λ l. let p = position xs x l in absurd (let e : 0 ≡ suc p.0 = h 0 (suc p.0) x refl p.1 in omega arith)),
  apart_of xs (λ i j a f g. let e : suc i ≡ suc j = h (suc i) (suc j) a f g in omega arith),
)

place_is : (xs : List (List ℕ)) (a : ℕ) (n : List ℕ) → AreApart xs → slice_get xs a ≡ Some n → place_of xs n ≡ a
place_is [] a n h e = absurd (none-some n e)
place_is (x ∷ xs) zero n h e =
    let same : n ≡ x = sym (same_Some _ _ e) in
    let t : bytes_eq n x ≡ true = (bytes_eq-Decides n x).1 same in
    rw t refl
place_is (x ∷ xs) (suc a) n h e = elim (cases_Bool (bytes_eq n x)) [
  | inl t ↦
      let same : n ≡ x = (bytes_eq-Decides n x).0 t in
      absurd (h.0 (subst (λ (m : List ℕ). IsListed m xs) same (listed xs a n e)))
  | inr f ↦ rw f (ap (λ (k : ℕ). 1 + k) (place_is xs a n h.1 e) ∙ (let g : 1 + a ≡ suc a = omega arith in g))
]

get_mid : (seen : List (List ℕ)) (n : List ℕ) (ns : List (List ℕ)) → slice_get (seen ++ n ∷ ns) (length seen) ≡ Some n
get_mid [] n ns = refl
get_mid (x ∷ seen) n ns = get_mid seen n ns

not_seen : (seen : List (List ℕ)) (n : List ℕ) (ns : List (List ℕ)) → AreApart (seen ++ n ∷ ns) → has_text seen n ≡ false
not_seen [] n ns h = refl
not_seen (x ∷ seen) n ns h = elim (cases_Bool (bytes_eq n x)) [
  | inl t ↦
      let same : n ≡ x = (bytes_eq-Decides n x).0 t in
      absurd (h.0 (subst (λ (m : List ℕ). IsListed m (seen ++ n ∷ ns)) same (listed (seen ++ n ∷ ns) (length seen) n (get_mid seen n ns))))
  | inr f ↦ ap (λ b. b || has_text seen n) f ∙ not_seen seen n ns h.1
]

-- texts that are apart are all seen first where they stand
seen_all : (seen ns : List (List ℕ)) → AreApart (seen ++ ns) → first_seen seen ns ≡ seen ++ ns
seen_all seen [] h = sym (append-nil seen)
seen_all seen (n ∷ ns) h =
    let new : has_text seen n ≡ false = not_seen seen n ns h in
    let one : with_text seen n ≡ seen ++ n ∷ [] = rw new refl in
    let same : (seen ++ n ∷ []) ++ ns ≡ seen ++ n ∷ ns = append_assoc seen (n ∷ []) ns in
    ap (λ (s : List (List ℕ)). first_seen s ns) one
    ∙ seen_all (seen ++ n ∷ []) ns (subst (λ (l : List (List ℕ)). AreApart l) (sym same) h)
    ∙ same

-- ---- the names tell

module _ (pins : CellPins) (drawn : List Bool) (nets : List ℕ) (c : Circuit) (h : AreCircuitNets pins drawn nets c)
    (few : (i j : ℕ) (a : List ℕ) → slice_get (drawn_names pins drawn) i ≡ Some a → slice_get (drawn_names pins drawn) j ≡ Some a → i ≡ j) where
  -- a circuit's net: its place among the drawn nets, whose name is its own
  record Tells (a x : ℕ) : Type 0 where
    place : ℕ
    stands : slice_get (drawn_nets drawn) place ≡ Some x
    name : List ℕ
    named : slice_get c.nets a ≡ Some name
    own : slice_get (drawn_names pins drawn) place ≡ Some name

  tells : (a x : ℕ) → slice_get nets a ≡ Some x → Tells a x
  tells a x e =
      let is : slice_get drawn x ≡ Some true = (h.each x).0 (listed nets a x e) in
      let p = position (drawn_nets drawn) x (at_place drawn x is) in
      let name = item_at c.nets a (subst (λ (n : ℕ). a < n) (sym h.count) (slice_get_within nets a x e)) in
      record { place = p.0; stands = p.1; name = name.0; named = name.1; own = sym (h.named a p.0 x e p.1) ∙ name.1 }

  names_apart : (i j : ℕ) (a : List ℕ) → slice_get c.nets i ≡ Some a → slice_get c.nets j ≡ Some a → i ≡ j
  names_apart i j a f g =
      let x = item_at nets i (subst (λ (n : ℕ). i < n) h.count (slice_get_within c.nets i a f)) in
      let y = item_at nets j (subst (λ (n : ℕ). j < n) h.count (slice_get_within c.nets j a g)) in
      let s = tells i x.0 x.1 in
      let t = tells j y.0 y.1 in
      let place : s.place ≡ t.place = few s.place t.place a (s.own ∙ (sym s.named ∙ f)) (t.own ∙ (sym t.named ∙ g)) in
      let same : x.0 ≡ y.0 = same_Some _ _ (sym s.stands ∙ ap (λ (k : ℕ). slice_get (drawn_nets drawn) k) place ∙ t.stands) in
      apart_at x.0 nets i j h.apart x.1 (y.1 ∙ ap Some (sym same))

  abbrev pub places : List ℕ
  places = map (place_of (first_seen [] c.nets)) (drawn_names pins drawn)

  has_number : (x a : ℕ) → slice_get nets a ≡ Some x → slice_get (spread drawn places) x ≡ Some (Some a)
  has_number x a e =
      let t = tells a x e in
      let apart = apart_of c.nets names_apart in
      let all : first_seen [] c.nets ≡ c.nets = seen_all [] c.nets apart in
      let at : place_of (first_seen [] c.nets) t.name ≡ a = ap (λ (l : List (List ℕ)). place_of l t.name) all ∙ place_is c.nets a t.name apart t.named in
      let r = spread_at drawn places 0 t.place x a t.stands (map_to (place_of (first_seen [] c.nets)) (drawn_names pins drawn) t.place t.name t.own ∙ ap Some at) in
      subst (λ (i : ℕ). slice_get (spread drawn places) i ≡ Some (Some a)) (let g : x ≡ 0 + r.0 = r.1 in let s : r.0 ≡ x = omega arith in s) r.2

  pub numbers_tell : TellsNets drawn (spread drawn places) nets
  numbers_tell = record {
    stands = λ x a e.
        let p = position nets x ((h.each x).1 (marked_at drawn places x a e)) in
        let same : p.0 ≡ a = let f = sym (has_number x p.0 p.1) ∙ e in cc in
        subst (λ (i : ℕ). slice_get nets i ≡ Some x) same p.1;
    has = has_number;
    marked = λ x a e. get_or_from_slice_get drawn x true false ((h.each x).0 (listed nets a x e));
  }

-- ---- drawn nets

places_short : (k : ℕ) (bs : List Bool) → length (true_places k bs) ≤ length bs
places_short k [] = omega arith
places_short k (true ∷ bs) = let h = places_short (suc k) bs in omega (arith, h)
places_short k (false ∷ bs) = let h = places_short (suc k) bs in omega (arith, h)

-- a cell has no more drawn names than nets
pub names_few : (pins : CellPins) (drawn : List Bool) → length drawn < 2 ^ 32 → length (map (λ x. folded_bytes (get_or pins.names x [])) (drawn_nets drawn)) < 2 ^ 32
names_few pins drawn few =
    let long = length-map (drawn_nets drawn) (λ x. folded_bytes (get_or pins.names x [])) in
    let short = places_short 0 drawn in
    omega (arith, long, short, few)
