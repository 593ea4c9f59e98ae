-- What a merged circuit expands to is, when merged, what the given one expands to, when merged.
use Rattle.std.proofs.Common.{◌≡◌, inl, inr, ℕ, ◌+◌, true, false, suc, ◌<◌, length, List, [], ◌∷◌, ◌++◌, map, refl, sym, ◌∙◌, ap, subst, arith, true≢false}
use Rattle.std.proofs.Math.Decide.{ℕ_discrete}
use Rattle.plain_netlist.specs.Lists.{IsListed, AreApart, AreRising}
use Rattle.plain_netlist.specs.Devices.{Row, AreRowsAlike}
use Rattle.plain_netlist.proofs.Rows.{rows_same, rows_wider, rows_over}
use Rattle.plain_netlist.specs.Netlist.{DeviceRow, Netlist, Slot, slot, IsEitherJoin, InOneNet, HasDevice, IsOnPin}
use Rattle.plain_netlist.specs.Flats.{Flat, Corresponds, row_at, expanded}
use Rattle.plain_netlist.proofs.Links.{stays, both, back}
use Rattle.plain_netlist.proofs.Members.{in_left, in_right, either_side}
use Rattle.plain_netlist.proofs.Once.{one_device}
use Rattle.merge_laws.specs.Merge.{may_merge_row, added_size, with_added, width_of, AreAlike, Known, total_width, AreOnce, IsClass, IsMergedWidth, with_width, AreDevicesAlike, merged}
use Rattle.merge_laws.specs.Grouped.{is_alike, Placed, Group, members, sum_width, merged_row, merged_netlist, IsGroup, IsMadeOf, MergedExpandsLaw}
use Rattle.merge_laws.proofs.Alike.{On, again, both_merge, alike_merges, alike_turned, alike_through, alike_law}
use Rattle.merge_laws.proofs.Totals.{one_total}
use Rattle.merge_laws.proofs.Nets as nets

rising_on : {A : Type 0} (R : A → A → Type 0) (xs ys : List A) → AreRising R xs → AreRising R ys → ((x y : A) → IsListed x xs → IsListed y ys → R x y) → AreRising R (xs ++ ys)
rising_on R [] ys a b each = b
rising_on R (x ∷ xs) ys a b each = (
  (λ y i. elim (either_side xs ys y i) [ inl j ↦ a.0 y j | inr j ↦ each x y (inl refl) j ]),
  rising_on R xs ys a.1 b (λ u y i j. each u y (inr i) j),
)

listed_map : {A B : Type 0} (f : A → B) (xs : List A) (b : B) → IsListed b (map f xs) → (a : A) × IsListed a xs × (b ≡ f a)
listed_map f [] b i = absurd i
listed_map f (x ∷ xs) b (inl e) = (x, inl refl, e)
listed_map f (x ∷ xs) b (inr i) = let r = listed_map f xs b i in (r.0, inr r.1, r.2)

map_listed : {A B : Type 0} (f : A → B) (xs : List A) (a : A) → IsListed a xs → IsListed (f a) (map f xs)
map_listed f [] a i = absurd i
map_listed f (x ∷ xs) a (inl e) = inl (ap f e)
map_listed f (x ∷ xs) a (inr i) = inr (map_listed f xs a i)

abbrev known_by : Slot → Row Slot → Known Slot Slot
known_by s r = record { name = s; row = r }

module _ (nl : Netlist) (t : ℕ) where
  abbrev ml : Netlist
  ml = merged_netlist nl

  abbrev F : Flat Slot Slot
  F = expanded nl t

  abbrev G : Flat Slot Slot
  G = expanded ml t

  abbrev Same : Slot → Slot → Type 0
  Same = InOneNet nl t

  abbrev At : List ℕ → ℕ → Group → Type 0
  At path j g = IsGroup nl t path j g

  abbrev Alike : Row Slot → Row Slot → Type 0
  Alike r s = AreAlike Same r s

  turned : (r s : Row Slot) → Alike r s → Alike s r
  turned r s l = alike_turned Same (λ a b h. back (IsEitherJoin nl t) (λ x y j. elim j [ inl i ↦ inr i | inr i ↦ inl i ]) a b h) r s l

  through : (r s u : Row Slot) → Alike r s → Alike s u → Alike r u
  through r s u a b = alike_through Same (λ x y z h g. both (IsEitherJoin nl t) x y z h g) r s u a b

  -- alike over the merged netlist is alike over the given one, and back
  alike_there : (r s : Row Slot) → Alike r s → AreAlike (InOneNet ml t) r s
  alike_there r s l = record { merges = l.merges; rows = rows_wider Same (InOneNet ml t) (λ a b h. nets.net_there nl t a b h) (with_width r 0) (with_width s 0) l.rows }

  alike_here : (r s : Row Slot) → AreAlike (InOneNet ml t) r s → Alike r s
  alike_here r s l = record { merges = l.merges; rows = rows_wider (InOneNet ml t) Same (λ a b h. nets.net_back nl t a b h) (with_width r 0) (with_width s 0) l.rows }

  merges_with : (r s : Row Slot) → Alike r s → may_merge_row s ≡ true
  merges_with r s l = sym (alike_merges Same r s l) ∙ l.merges

  stay : (a b : Slot) → a ≡ b → Same a b
  stay a b e = stays (IsEitherJoin nl t) a b e

  -- alike rows of one circuit are alike at the end of a path; the width is of no account
  alike_at : (path : List ℕ) (g : Group) (b : DeviceRow) → On g.first.row b → Alike (row_at path (merged_row g)) (row_at path b)
  alike_at path g b l =
      let r = rows_over (λ (m n : ℕ). m ≡ n) Same (slot path) (slot path) (λ m n e. stay (slot path m) (slot path n) (ap (slot path) e)) (with_width g.first.row 0) (with_width b 0) l.rows in
      record {
        merges = l.merges;
        rows = record { kind = r.kind; class = r.class; sizes = again g.first.row.sizes (sum_width (members g)) 0 ∙ r.sizes; ends = r.ends; others = r.others };
      }

  -- a member is its group's first but for the width
  member_rows : (path : List ℕ) (j : ℕ) (g : Group) (d : Placed) → At path j g → IsListed d (members g) → AreRowsAlike (λ (m n : ℕ). m ≡ n) (with_width g.first.row 0) (with_width d.row 0)
  member_rows path j g d at (inl e) = subst (λ (z : Placed). AreRowsAlike (λ (m n : ℕ). m ≡ n) (with_width g.first.row 0) (with_width z.row 0)) (sym e) (rows_same (λ (m n : ℕ). m ≡ n) (λ n. refl) (with_width g.first.row 0))
  member_rows path j g d at (inr i) = (alike_law g.first.row d.row (nets.group_alike nl path t j g d at i)).rows

  itself : (a : DeviceRow) → may_merge_row a ≡ true → On a a
  itself a m = record { merges = m; rows = rows_same (λ (m n : ℕ). m ≡ n) (λ n. refl) (with_width a 0) }

  member_on : (path : List ℕ) (j : ℕ) (g : Group) (d : Placed) → At path j g → IsListed d (members g) → may_merge_row g.first.row ≡ true → On g.first.row d.row
  member_on path j g d at i m = record { merges = m; rows = member_rows path j g d at i }

  member_alike : (path : List ℕ) (j : ℕ) (g : Group) (d : Placed) → At path j g → IsListed d (members g) → may_merge_row g.first.row ≡ true → Alike (row_at path (merged_row g)) (row_at path d.row)
  member_alike path j g d at i m = alike_at path g d.row (member_on path j g d at i m)

  -- a member may merge where its group may
  member_merges : (path : List ℕ) (j : ℕ) (g : Group) (d : Placed) → At path j g → IsListed d (members g) → may_merge_row g.first.row ≡ may_merge_row d.row
  member_merges path j g d at i = both_merge (λ (m n : ℕ). m ≡ n) (with_width g.first.row 0) (with_width d.row 0) (member_rows path j g d at i)

  alone : (path : List ℕ) (j : ℕ) (g : Group) → At path j g → may_merge_row g.first.row ≡ false → g.others ≡ []
  alone path j g at m = of g.others (λ d i. nets.group_alike nl path t j g d at i)
    where
      of : (ds : List Placed) → ((d : Placed) → IsListed d ds → is_alike g.first.row d.row ≡ true) → ds ≡ []
      of [] each = refl
      of (d ∷ ds) each = absurd (true≢false (sym (alike_law g.first.row d.row (each d (inl refl))).merges ∙ m))

  alone_width : (path : List ℕ) (j : ℕ) (g : Group) → At path j g → may_merge_row g.first.row ≡ false → sum_width (members g) ≡ width_of g.first.row
  alone_width path j g at m =
      let e : sum_width (members g) ≡ width_of g.first.row + 0 = ap (λ ds. width_of g.first.row + sum_width ds) (alone path j g at m) in
      omega arith

  -- the width of a group's row is the sum over its members, also where rows have no width
  group_width : (path : List ℕ) (j : ℕ) (g : Group) → At path j g → width_of (merged_row g) ≡ sum_width (members g)
  group_width path j g at = of g.first.row.sizes g.others (λ d i. (member_rows path j g d at (inr i)).sizes)
    where
      none : (s z : List ℕ) → with_added s 0 ≡ s → length s < 2 → s ≡ with_added z 0 → added_size z ≡ 0
      none s [] f low e = refl
      none s (a ∷ []) f low e = refl
      none s (a ∷ b ∷ m) f low e = let n : length s ≡ suc (suc (length m)) = ap length e in absurd (omega arith)

      none_all : (s : List ℕ) → with_added s 0 ≡ s → length s < 2 → (ds : List Placed) → ((d : Placed) → IsListed d ds → with_added s 0 ≡ with_added d.row.sizes 0) → sum_width ds ≡ 0
      none_all s f low [] each = refl
      none_all s f low (d ∷ ds) each =
          let h = none s d.row.sizes f low (sym f ∙ each d (inl refl)) in
          let rest = none_all s f low ds (λ e i. each e (inr i)) in
          omega arith

      of : (s : List ℕ) (ds : List Placed) → ((d : Placed) → IsListed d ds → with_added s 0 ≡ with_added d.row.sizes 0) → added_size (with_added s (added_size s + sum_width ds)) ≡ added_size s + sum_width ds
      of [] ds each = let z = none_all [] refl (omega arith) ds each in omega arith
      of (x ∷ []) ds each = let z = none_all (x ∷ []) refl (omega arith) ds each in omega arith
      of (x ∷ y ∷ s) ds each = refl

  abbrev known : List ℕ → Placed → Known Slot Slot
  known path d = record { name = slot path d.place; row = row_at path d.row }

  -- m is one of those that the device n of the merged netlist was made of
  abbrev IsOf : Known Slot Slot → Known Slot Slot → Type 0
  IsOf n m = (g : Group) × (d : Placed) × At n.name.path n.name.net g × IsListed d (members g) × (m ≡ known n.name.path d) × (n.row ≡ row_at n.name.path (merged_row g))

  -- all that the devices of the merged netlist in a list were made of
  record Spread (ns ms : List (Known Slot Slot)) : Type 0 where
    pub from : (m : Known Slot Slot) → IsListed m ms → (n : Known Slot Slot) × IsListed n ns × IsOf n m
    pub to : (n : Known Slot Slot) (g : Group) (d : Placed) → IsListed n ns → At n.name.path n.name.net g → IsListed d (members g) → IsListed (known n.name.path d) ms
    pub once : AreOnce (λ (a b : Slot). a ≡ b) ns → AreOnce (λ (a b : Slot). a ≡ b) ms
    pub widths : total_width ns ≡ total_width ms

  total_on : (path : List ℕ) (ds : List Placed) (ms : List (Known Slot Slot)) → total_width (map (known path) ds ++ ms) ≡ sum_width ds + total_width ms
  total_on path [] ms = omega arith
  total_on path (d ∷ ds) ms = let e = total_on path ds ms in omega arith

  rising_known : (path : List ℕ) (ds : List Placed) → AreApart (map (λ (d : Placed). d.place) ds) → AreOnce (λ (a b : Slot). a ≡ b) (map (known path) ds)
  rising_known path [] a = tt
  rising_known path (d ∷ ds) a = (
    (λ m i e. let r = listed_map (known path) ds m i in
        let p : d.place ≡ r.0.place = ap (λ (s : Slot). s.net) (e ∙ ap (λ (z : Known Slot Slot). z.name) r.2) in
        a.0 (subst (λ k. IsListed k (map (λ (d : Placed). d.place) ds)) (sym p) (map_listed (λ (d : Placed). d.place) ds r.0 r.1))),
    rising_known path ds a.1,
  )

  spread : (ns : List (Known Slot Slot)) → ((n : Known Slot Slot) → IsListed n ns → G.has_device n.name n.row) → (ms : List (Known Slot Slot)) × Spread ns ms
  spread [] has = ([], record { from = λ m i. absurd i; to = λ n g d i. absurd i; once = λ o. tt; widths = refl })
  spread (n ∷ ns) has =
      let rest = spread ns (λ m i. has m (inr i)) in
      let hd = has n (inl refl) in
      let path = n.name.path in
      let g = nets.has_group nl path t n.name.net hd.0 hd.1 in
      let row : n.row ≡ row_at path (merged_row g.0) = hd.2 ∙ ap (row_at path) (sym g.2) in
      let mine = map (known path) (members g.0) in (
        mine ++ rest.0,
        record {
          from = λ m i. elim (either_side mine rest.0 m i) [
            | inl j ↦ let r = listed_map (known path) (members g.0) m j in (n, inl refl, (g.0, r.0, g.1, r.1, r.2, row))
            | inr j ↦ let r = rest.1.from m j in (r.0, inr r.1, r.2)
          ];
          to = λ o h d i at j. elim i [
            | inl e ↦ in_left mine rest.0 (known o.name.path d) (first n o g.0 h d (sym e) g.1 at j)
            | inr k ↦ in_right mine rest.0 (known o.name.path d) (rest.1.to o h d k at j)
          ];
          once = λ o. rising_on (λ (a b : Known Slot Slot). a.name ≡ b.name → ⊥) mine rest.0 (rising_known path (members g.0) (nets.group_apart nl path t n.name.net g.0 g.1)) (rest.1.once o.1)
              (λ x y i j e.
              let r = listed_map (known path) (members g.0) x i in
              let s = rest.1.from y j in
              o.0 s.0 s.1 (apart_from n s.0 x y g.0 r.0 g.1 r.1 r.2 e s.2));
          widths = let a = total_on path (members g.0) rest.0 in let b = rest.1.widths in let c : width_of n.row ≡ sum_width (members g.0) = ap (λ (z : Row Slot). width_of z) row ∙ group_width path n.name.net g.0 g.1 in omega arith;
        },
      )
    where
      first : (n o : Known Slot Slot) (g h : Group) (d : Placed) → n ≡ o → At n.name.path n.name.net g → At o.name.path o.name.net h → IsListed d (members h) → IsListed (known o.name.path d) (map (known n.name.path) (members g))
      first n o g h d e at it i =
          let same : g ≡ h = nets.one_group nl o.name.path t o.name.net g h (subst (λ (z : Known Slot Slot). At z.name.path z.name.net g) e at) it in
          let l : IsListed d (members g) = subst (λ (z : Group). IsListed d (members z)) (sym same) i in
          subst (λ (z : Known Slot Slot). IsListed (known z.name.path d) (map (known n.name.path) (members g))) e (map_listed (known n.name.path) (members g) d l)

      apart_from : (n o x y : Known Slot Slot) (g : Group) (d : Placed) → At n.name.path n.name.net g → IsListed d (members g) → x ≡ known n.name.path d → x.name ≡ y.name → IsOf o y → n.name ≡ o.name
      apart_from n o x y g d at i p e (h, f, it, j, q, row) =
          let names : slot n.name.path d.place ≡ slot o.name.path f.place = sym (ap (λ (z : Known Slot Slot). z.name) p) ∙ (e ∙ ap (λ (z : Known Slot Slot). z.name) q) in
          let paths : n.name.path ≡ o.name.path = ap (λ (s : Slot). s.path) names in
          let places : d.place ≡ f.place = ap (λ (s : Slot). s.net) names in
          let both : n.name.net ≡ o.name.net = nets.group_one nl o.name.path t n.name.net o.name.net g h d f (subst (λ k. At k n.name.net g) paths at) it i j places in
          slots n.name o.name paths both
        where
          slots : (a b : Slot) → a.path ≡ b.path → a.net ≡ b.net → a ≡ b
          slots a b p q = subst (λ x. a ≡ slot x b.net) p (subst (λ y. a ≡ slot a.path y) q refl)

  -- the class of a row of the merged netlist, spread, is that of each row alike to it
  class_spread : (r s : Row Slot) (ns ms : List (Known Slot Slot)) → Alike r s → IsClass G r ns → Spread ns ms → IsClass F s ms
  class_spread r s ns ms like is sp = record {
    each = λ m i. ours m (sp.from m i);
    all = λ a u has l. theirs a u has l;
    once = sp.once is.once;
  }
    where
      ours : (m : Known Slot Slot) → (n : Known Slot Slot) × IsListed n ns × IsOf n m → F.has_device m.name m.row × Alike s m.row
      ours m (n, j, (g, d, at, k, e, row)) =
          let near : Alike r n.row = alike_here r n.row (is.each n j).1 in
          let near_row : Alike r (row_at n.name.path (merged_row g)) = subst (λ (z : Row Slot). Alike r z) row near in
          let merges : may_merge_row g.first.row ≡ true = merges_with r (row_at n.name.path (merged_row g)) near_row in
          let far = member_alike n.name.path n.name.net g d at k merges in
          let all : Alike s (row_at n.name.path d.row) = through s r (row_at n.name.path d.row) (turned r s like) (through r (row_at n.name.path (merged_row g)) (row_at n.name.path d.row) near_row far) in
          subst (λ (z : Known Slot Slot). F.has_device z.name z.row × Alike s z.row) (sym e)
          ((d.row, nets.member_has nl n.name.path t n.name.net g d at k, refl), all)

      theirs : (a : Slot) (u : Row Slot) → F.has_device a u → Alike s u → (d : Known Slot Slot) × IsListed d ms × (a ≡ d.name)
      theirs a u (row, has, e) l =
          let g = nets.in_group nl a.path t a.net row has in
          let d : Placed = record { place = a.net; row = row } in
          let near : Alike s (row_at a.path row) = subst (λ (z : Row Slot). Alike s z) e l in
          let merges : may_merge_row g.1.first.row ≡ true = member_merges a.path g.0 g.1 d g.2 g.3 ∙ merges_with s (row_at a.path row) near in
          let mid = member_alike a.path g.0 g.1 d g.2 g.3 merges in
          let up : Alike r (row_at a.path (merged_row g.1)) = through r s (row_at a.path (merged_row g.1)) like (through s (row_at a.path row) (row_at a.path (merged_row g.1)) near (turned (row_at a.path (merged_row g.1)) (row_at a.path row) mid)) in
          let n = is.all (slot a.path g.0) (row_at a.path (merged_row g.1)) (merged_row g.1, nets.group_has nl a.path t g.0 g.1 g.2, refl) (alike_there r (row_at a.path (merged_row g.1)) up) in
          let paths : a.path ≡ n.0.name.path = ap (λ (z : Slot). z.path) n.2 in
          let it : At n.0.name.path n.0.name.net g.1 = subst (λ (z : Slot). At z.path z.net g.1) n.2 g.2 in
          let listed = sp.to n.0 g.1 d n.1 it g.3 in
          (known n.0.name.path d, listed, ap (λ p. slot p a.net) paths)

  -- a device's row is one
  one_row : (m n : Known Slot Slot) → F.has_device m.name m.row → F.has_device n.name n.row → m.name ≡ n.name → m ≡ n
  one_row m n (row, has, e) (other, also, f) p =
      let rows : row ≡ other = one_device nl n.name.path t n.name.net row other (subst (λ (z : Slot). HasDevice nl t z.path z.net row) p has) also in
      let both : m.row ≡ n.row = e ∙ (ap (row_at m.name.path) rows ∙ (ap (λ (z : Slot). row_at z.path other) p ∙ sym f)) in
      same m n p both
    where
      same : (m n : Known Slot Slot) → m.name ≡ n.name → m.row ≡ n.row → m ≡ n
      same m n p q = subst (λ x. m ≡ known_by x n.row) p (subst (λ y. m ≡ known_by m.name y) q refl)

  apart_once : (ms : List (Known Slot Slot)) → AreOnce (λ (a b : Slot). a ≡ b) ms → AreApart ms
  apart_once [] o = tt
  apart_once (m ∷ ms) o = ((λ i. o.0 m i refl), apart_once ms o.1)

  -- the class of a row has one total width
  class_total : (s : Row Slot) (ms ks : List (Known Slot Slot)) → IsClass F s ms → IsClass F s ks → total_width ms ≡ total_width ks
  class_total s ms ks a b = one_total ms ks (apart_once ms a.once) (apart_once ks b.once) (λ z i. go ms ks a b z i) (λ z i. go ks ms b a z i)
    where
      go : (ms ks : List (Known Slot Slot)) → IsClass F s ms → IsClass F s ks → (z : Known Slot Slot) → IsListed z ms → IsListed z ks
      go ms ks a b z i =
          let e = a.each z i in
          let d = b.all z.name z.row e.0 e.1 in
          let f = b.each d.0 d.1 in
          subst (λ (k : Known Slot Slot). IsListed k ks) (sym (one_row z d.0 e.0 f.0 d.2)) d.1

  -- of a list's devices those that are the first of their group, as devices of the merged netlist
  record Gathered (ms ns : List (Known Slot Slot)) : Type 0 where
    pub from : (n : Known Slot Slot) → IsListed n ns → (g : Group) × At n.name.path n.name.net g × (n.row ≡ row_at n.name.path (merged_row g)) × (m : Known Slot Slot) × IsListed m ms × (m.name ≡ slot n.name.path g.first.place)
    pub to : (m : Known Slot Slot) (j : ℕ) (g : Group) → IsListed m ms → At m.name.path j g → m.name.net ≡ g.first.place → (n : Known Slot Slot) × IsListed n ns × (slot m.name.path j ≡ n.name)
    pub once : AreOnce (λ (a b : Slot). a ≡ b) ms → AreOnce (λ (a b : Slot). a ≡ b) ns

  gather : (ms : List (Known Slot Slot)) → ((m : Known Slot Slot) → IsListed m ms → F.has_device m.name m.row) → (ns : List (Known Slot Slot)) × Gathered ms ns
  gather [] has = ([], record { from = λ n i. absurd i; to = λ m j g i. absurd i; once = λ o. tt })
  gather (m ∷ ms) has =
      let rest = gather ms (λ n i. has n (inr i)) in
      let hd = has m (inl refl) in
      let g = nets.in_group nl m.name.path t m.name.net hd.0 hd.1 in
      elim (ℕ_discrete m.name.net g.1.first.place) [
        | yes e ↦ taken m ms hd.0 g.0 g.1 g.2 g.3 e rest.0 rest.1
        | no differs ↦ passed m ms hd.0 g.0 g.1 g.2 g.3 differs rest.0 rest.1
      ]
    where
      of_group : (m : Known Slot Slot) (row : DeviceRow) (j k : ℕ) (g h : Group) → At m.name.path j g → IsListed (record { place = m.name.net; row = row }) (members g) → At m.name.path k h → m.name.net ≡ h.first.place → j ≡ k
      of_group m row j k g h at i it e = nets.group_one nl m.name.path t j k g h (record { place = m.name.net; row = row }) h.first at it i (inl refl) e

      taken : (m : Known Slot Slot) (ms : List (Known Slot Slot)) (row : DeviceRow) (j : ℕ) (g : Group) → At m.name.path j g → IsListed (record { place = m.name.net; row = row }) (members g) → m.name.net ≡ g.first.place
          → (ns : List (Known Slot Slot)) → Gathered ms ns → (ns : List (Known Slot Slot)) × Gathered (m ∷ ms) ns
      taken m ms row j g at i e ns got =
          let n = known_by (slot m.name.path j) (row_at m.name.path (merged_row g)) in (
            n ∷ ns,
            record {
              from = λ o l. elim l [
                | inl q ↦ subst (λ (z : Known Slot Slot). (g : Group) × At z.name.path z.name.net g × (z.row ≡ row_at z.name.path (merged_row g)) × (x : Known Slot Slot) × IsListed x (m ∷ ms) × (x.name ≡ slot z.name.path g.first.place)) (sym q)
                    (g, at, refl, m, inl refl, ap (slot m.name.path) e)
                | inr k ↦ let r = got.from o k in (r.0, r.1, r.2, r.3, inr r.4, r.5)
              ];
              to = λ x k h l it f. elim l [
                | inl q ↦ (n, inl refl, same x k h q it f)
                | inr l ↦ let r = got.to x k h l it f in (r.0, inr r.1, r.2)
              ];
              once = λ o. (
                (λ x l p.
                    let r = got.from x l in
                    let paths : m.name.path ≡ x.name.path = ap (λ (s : Slot). s.path) p in
                    let groups_one : g ≡ r.0 = nets.one_group nl x.name.path t x.name.net g r.0 (subst (λ (s : Slot). At s.path s.net g) p at) r.1 in
                    let names : m.name ≡ r.3.name = ap (slot m.name.path) (e ∙ ap (λ (z : Group). z.first.place) groups_one) ∙ (ap (λ p. slot p r.0.first.place) paths ∙ sym r.5) in
                    o.0 r.3 r.4 names),
                got.once o.1,
              );
            },
          )
        where
          same : (x : Known Slot Slot) (k : ℕ) (h : Group) → x ≡ m → At x.name.path k h → x.name.net ≡ h.first.place → slot x.name.path k ≡ slot m.name.path j
          same x k h q it f =
              let here = subst (λ (z : Known Slot Slot). At z.name.path k h × (z.name.net ≡ h.first.place)) q (it, f) in
              let number : j ≡ k = of_group m row j k g h at i here.0 here.1 in
              ap (λ (z : Known Slot Slot). slot z.name.path k) q ∙ ap (slot m.name.path) (sym number)

      passed : (m : Known Slot Slot) (ms : List (Known Slot Slot)) (row : DeviceRow) (j : ℕ) (g : Group) → At m.name.path j g → IsListed (record { place = m.name.net; row = row }) (members g) → (m.name.net ≡ g.first.place → ⊥)
          → (ns : List (Known Slot Slot)) → Gathered ms ns → (ns : List (Known Slot Slot)) × Gathered (m ∷ ms) ns
      passed m ms row j g at i differs ns got = (
        ns,
        record {
          from = λ o l. let r = got.from o l in (r.0, r.1, r.2, r.3, inr r.4, r.5);
          to = λ x k h l it f. elim l [
            | inl q ↦ absurd (other x k h q it f)
            | inr l ↦ got.to x k h l it f
          ];
          once = λ o. got.once o.1;
        },
      )
        where
          other : (x : Known Slot Slot) (k : ℕ) (h : Group) → x ≡ m → At x.name.path k h → x.name.net ≡ h.first.place → ⊥
          other x k h q it f =
              let here = subst (λ (z : Known Slot Slot). At z.name.path k h × (z.name.net ≡ h.first.place)) q (it, f) in
              let number : j ≡ k = of_group m row j k g h at i here.0 here.1 in
              let one : g ≡ h = nets.one_group nl m.name.path t k g h (subst (λ n. At m.name.path n g) number at) here.0 in
              differs (here.1 ∙ ap (λ (z : Group). z.first.place) (sym one))

  -- the class of a row, gathered, is that of each row of the merged netlist alike to it
  class_gathered : (r s : Row Slot) (ms ns : List (Known Slot Slot)) → Alike r s → IsClass F s ms → Gathered ms ns → IsClass G r ns
  class_gathered r s ms ns like is got = record {
    each = λ n i. ours n (got.from n i);
    all = λ a u has l. theirs a u has (alike_here r u l);
    once = got.once is.once;
  }
    where
      ours : (n : Known Slot Slot) → (g : Group) × At n.name.path n.name.net g × (n.row ≡ row_at n.name.path (merged_row g)) × (m : Known Slot Slot) × IsListed m ms × (m.name ≡ slot n.name.path g.first.place) → G.has_device n.name n.row × AreAlike (InOneNet ml t) r n.row
      ours n (g, at, e, m, i, names) =
          let it = is.each m i in
          let first : F.has_device (slot n.name.path g.first.place) (row_at n.name.path g.first.row) = (g.first.row, nets.member_has nl n.name.path t n.name.net g g.first at (inl refl), refl) in
          let one : m ≡ known_by (slot n.name.path g.first.place) (row_at n.name.path g.first.row) = one_row m (known_by (slot n.name.path g.first.place) (row_at n.name.path g.first.row)) it.0 first names in
          let near : Alike s (row_at n.name.path g.first.row) = subst (λ (z : Known Slot Slot). Alike s z.row) one it.1 in
          let merges : may_merge_row g.first.row ≡ true = merges_with s (row_at n.name.path g.first.row) near in
          let mid = member_alike n.name.path n.name.net g g.first at (inl refl) merges in
          let all : Alike r (row_at n.name.path (merged_row g)) = through r s (row_at n.name.path (merged_row g)) like (through s (row_at n.name.path g.first.row) (row_at n.name.path (merged_row g)) near (turned (row_at n.name.path (merged_row g)) (row_at n.name.path g.first.row) mid)) in
          ((merged_row g, nets.group_has nl n.name.path t n.name.net g at, e), alike_there r n.row (subst (λ (z : Row Slot). Alike r z) (sym e) all))

      theirs : (a : Slot) (u : Row Slot) → G.has_device a u → Alike r u → (n : Known Slot Slot) × IsListed n ns × (a ≡ n.name)
      theirs a u (row, has, e) l =
          let g = nets.has_group nl a.path t a.net row has in
          let near : Alike r (row_at a.path (merged_row g.0)) = subst (λ (z : Row Slot). Alike r z) (e ∙ ap (row_at a.path) (sym g.2)) l in
          let merges : may_merge_row g.0.first.row ≡ true = merges_with r (row_at a.path (merged_row g.0)) near in
          let mid = member_alike a.path a.net g.0 g.0.first g.1 (inl refl) merges in
          let down : Alike s (row_at a.path g.0.first.row) = through s r (row_at a.path g.0.first.row) (turned r s like) (through r (row_at a.path (merged_row g.0)) (row_at a.path g.0.first.row) near mid) in
          let m = is.all (slot a.path g.0.first.place) (row_at a.path g.0.first.row) (g.0.first.row, nets.member_has nl a.path t a.net g.0 g.0.first g.1 (inl refl), refl) down in
          let paths : a.path ≡ m.0.name.path = ap (λ (z : Slot). z.path) m.2 in
          let it : At m.0.name.path a.net g.0 = subst (λ p. At p a.net g.0) paths g.1 in
          let n = got.to m.0 a.net g.0 m.1 it (sym (ap (λ (z : Slot). z.net) m.2)) in
          (n.0, n.1, ap (λ p. slot p a.net) paths ∙ n.2)

  -- a group's width when merged is that of its members when merged, and back
  width_spread : (path : List ℕ) (j : ℕ) (g : Group) (w : ℕ) → At path j g → IsMergedWidth G (row_at path (merged_row g)) w → IsMergedWidth F (row_at path g.first.row) w
  width_spread path j g w at (inl (merges, ns, is, e)) =
      let sp = spread ns (λ n i. (is.each n i).0) in
      inl (merges, sp.0, class_spread (row_at path (merged_row g)) (row_at path g.first.row) ns sp.0 (member_alike path j g g.first at (inl refl) merges) is sp.1, e ∙ sp.1.widths)
  width_spread path j g w at (inr (not, e)) = inr (not, e ∙ (group_width path j g at ∙ alone_width path j g at not))

  width_gathered : (path : List ℕ) (j : ℕ) (g : Group) (d : Placed) (w : ℕ) → At path j g → IsListed d (members g) → IsMergedWidth F (row_at path d.row) w → IsMergedWidth G (row_at path (merged_row g)) w
  width_gathered path j g d w at i (inl (merges, ms, is, e)) =
      let first : may_merge_row g.first.row ≡ true = member_merges path j g d at i ∙ merges in
      let like = member_alike path j g d at i first in
      let got = gather ms (λ m k. (is.each m k).0) in
      let all = class_gathered (row_at path (merged_row g)) (row_at path d.row) ms got.0 like is got.1 in
      let sp = spread got.0 (λ n k. (all.each n k).0) in
      let again = class_spread (row_at path (merged_row g)) (row_at path d.row) got.0 sp.0 like all sp.1 in
      inl (first, got.0, all, e ∙ (class_total (row_at path d.row) ms sp.0 is again ∙ sym sp.1.widths))
  width_gathered path j g d w at i (inr (not, e)) =
      let first : may_merge_row g.first.row ≡ false = member_merges path j g d at i ∙ not in
      let same : width_of d.row ≡ width_of g.first.row = (elim i [ inl q ↦ ap (λ (z : Placed). width_of z.row) q | inr k ↦ absurd (let z : IsListed d [] = subst (λ ds. IsListed d ds) (alone path j g at first) k in z) ]) in
      inr (first, e ∙ (same ∙ sym (group_width path j g at ∙ alone_width path j g at first)))

  -- rows of a group and a member of it, with one width
  rows_alike : (path : List ℕ) (j : ℕ) (g : Group) (d : Placed) (w : ℕ) → At path j g → IsListed d (members g) → AreRowsAlike (λ (a x : Slot). a ≡ x) (with_width (row_at path (merged_row g)) w) (with_width (row_at path d.row) w)
  rows_alike path j g d w at i =
      let sum : ℕ = sum_width (members g) in
      let l = member_rows path j g d at i in
      let r = rows_over (λ (m n : ℕ). m ≡ n) (λ (a x : Slot). a ≡ x) (slot path) (slot path) (λ m n e. ap (slot path) e) (with_width g.first.row 0) (with_width d.row 0) l in
      record {
        kind = r.kind;
        class = r.class;
        sizes = again g.first.row.sizes sum w ∙ (sym (again g.first.row.sizes 0 w) ∙ (ap (λ z. with_added z w) l.sizes ∙ again d.row.sizes 0 w));
        ends = r.ends;
        others = r.others;
      }

  there : (a : Slot) (r : Row Slot) → (merged G).has_device a r → (x : Slot) × (s : Row Slot) × (merged F).has_device x s × IsMadeOf nl t a x × AreRowsAlike (λ (a x : Slot). a ≡ x) r s
  there a r (base, (row, has, q), w, is, e) =
      let g = nets.has_group nl a.path t a.net row has in
      let bases : base ≡ row_at a.path (merged_row g.0) = q ∙ ap (row_at a.path) (sym g.2) in
      let width = width_spread a.path a.net g.0 w g.1 (subst (λ (z : Row Slot). IsMergedWidth G z w) bases is) in
      let rows : r ≡ with_width (row_at a.path (merged_row g.0)) w = e ∙ ap (λ (z : Row Slot). with_width z w) bases in (
        slot a.path g.0.first.place,
        with_width (row_at a.path g.0.first.row) w,
        (row_at a.path g.0.first.row, (g.0.first.row, nets.member_has nl a.path t a.net g.0 g.0.first g.1 (inl refl), refl), w, width, refl),
        (g.0, g.0.first, g.1, inl refl, refl),
        subst (λ (z : Row Slot). AreRowsAlike (λ (a x : Slot). a ≡ x) z (with_width (row_at a.path g.0.first.row) w)) (sym rows) (rows_alike a.path a.net g.0 g.0.first w g.1 (inl refl)),
      )

  here : (x : Slot) (s : Row Slot) → (merged F).has_device x s → (a : Slot) × (r : Row Slot) × (merged G).has_device a r × IsMadeOf nl t a x × AreRowsAlike (λ (a x : Slot). a ≡ x) r s
  here x s (base, (row, has, q), w, is, e) =
      let g = nets.in_group nl x.path t x.net row has in
      let d : Placed = record { place = x.net; row = row } in
      let width = width_gathered x.path g.0 g.1 d w g.2 g.3 (subst (λ (z : Row Slot). IsMergedWidth F z w) q is) in
      let rows : s ≡ with_width (row_at x.path row) w = e ∙ ap (λ (z : Row Slot). with_width z w) q in (
        slot x.path g.0,
        with_width (row_at x.path (merged_row g.1)) w,
        (row_at x.path (merged_row g.1), (merged_row g.1, nets.group_has nl x.path t g.0 g.1 g.2, refl), w, width, refl),
        (g.1, d, g.2, g.3, refl),
        subst (λ (z : Row Slot). AreRowsAlike (λ (a x : Slot). a ≡ x) (with_width (row_at x.path (merged_row g.1)) w) z) (sym rows) (rows_alike x.path g.0 g.1 d w g.2 g.3),
      )

  -- rows that the devices of the merged and of the given netlist have are those of the groups and of their members
  group_row : (a : Slot) (g : Group) (r : Row Slot) → At a.path a.net g → G.has_device a r → r ≡ row_at a.path (merged_row g)
  group_row a g r at (row, has, e) =
      let h = nets.has_group nl a.path t a.net row has in
      e ∙ (ap (row_at a.path) (sym h.2) ∙ ap (λ (z : Group). row_at a.path (merged_row z)) (nets.one_group nl a.path t a.net h.0 g h.1 at))

  member_row : (a : Slot) (g : Group) (d : Placed) (r : Row Slot) → At a.path a.net g → IsListed d (members g) → F.has_device (slot a.path d.place) r → r ≡ row_at a.path d.row
  member_row a g d r at i (row, has, e) = e ∙ ap (row_at a.path) (one_device nl a.path t d.place row d.row has (nets.member_has nl a.path t a.net g d at i))

  -- devices made of alike groups are alike
  made_alike : (a b : Slot) (g h : Group) (d f : Placed) → At a.path a.net g → At b.path b.net h → IsListed d (members g) → IsListed f (members h)
      → Alike (row_at a.path (merged_row g)) (row_at b.path (merged_row h)) → AreDevicesAlike F (slot a.path d.place) (slot b.path f.place)
  made_alike a b g h d f at it i j l =
      let left = member_alike a.path a.net g d at i l.merges in
      let right = member_alike b.path b.net h f it j (merges_with (row_at a.path (merged_row g)) (row_at b.path (merged_row h)) l) in (
        slot a.path d.place,
        slot b.path f.place,
        row_at a.path d.row,
        row_at b.path f.row,
        refl,
        (d.row, nets.member_has nl a.path t a.net g d at i, refl),
        refl,
        (f.row, nets.member_has nl b.path t b.net h f it j, refl),
        through (row_at a.path d.row) (row_at a.path (merged_row g)) (row_at b.path f.row) (turned (row_at a.path (merged_row g)) (row_at a.path d.row) left)
            (through (row_at a.path (merged_row g)) (row_at b.path (merged_row h)) (row_at b.path f.row) l right),
      )

  merges_alike : (path : List ℕ) (g : Group) → may_merge_row g.first.row ≡ true → Alike (row_at path (merged_row g)) (row_at path (merged_row g))
  merges_alike path g m = let one = alike_at path g g.first.row (itself g.first.row m) in through (row_at path (merged_row g)) (row_at path g.first.row) (row_at path (merged_row g)) one (turned (row_at path (merged_row g)) (row_at path g.first.row) one)

  -- members of one group are one device or alike
  in_one : (a : Slot) (g : Group) (d f : Placed) → At a.path a.net g → IsListed d (members g) → IsListed f (members g) → (merged F).one_device (slot a.path d.place) (slot a.path f.place)
  in_one a g d f at (inl e) (inl q) = inl (ap (λ (z : Placed). slot a.path z.place) (e ∙ sym q))
  in_one a g d f at (inl e) (inr j) = inr (made_alike a a g g d f at at (inl e) (inr j) (merges_alike a.path g (alike_law g.first.row f.row (nets.group_alike nl a.path t a.net g f at j)).merges))
  in_one a g d f at (inr i) j = inr (made_alike a a g g d f at at (inr i) j (merges_alike a.path g (alike_law g.first.row d.row (nets.group_alike nl a.path t a.net g d at i)).merges))

  one_there : (a b x y : Slot) → IsMadeOf nl t a x → IsMadeOf nl t b y → (merged G).one_device a b → (merged F).one_device x y
  one_there a b x y (g, d, at, i, e) (h, f, it, j, p) one = subst (λ z. (merged F).one_device z y) (sym e) (subst (λ z. (merged F).one_device (slot a.path d.place) z) (sym p) (go one))
    where
      go : (merged G).one_device a b → (merged F).one_device (slot a.path d.place) (slot b.path f.place)
      go (inl same) =
          let on : At a.path a.net h = subst (λ (z : Slot). At z.path z.net h) (sym same) it in
          let groups_one : h ≡ g = nets.one_group nl a.path t a.net h g on at in
          subst (λ (z : Slot). (merged F).one_device (slot a.path d.place) (slot z.path f.place)) same
          (in_one a g d f at i (subst (λ (z : Group). IsListed f (members z)) groups_one j))
      go (inr (c, k, r, s, to_c, has_c, to_k, has_k, l)) =
          let left : r ≡ row_at a.path (merged_row g) = group_row a g r at (subst (λ z. G.has_device z r) (sym to_c) has_c) in
          let right : s ≡ row_at b.path (merged_row h) = group_row b h s it (subst (λ z. G.has_device z s) (sym to_k) has_k) in
          let near : Alike (row_at a.path (merged_row g)) s = subst (λ (z : Row Slot). Alike z s) left (alike_here r s l) in
          inr (made_alike a b g h d f at it i j (subst (λ (z : Row Slot). Alike (row_at a.path (merged_row g)) z) right near))

  one_here : (a b x y : Slot) → IsMadeOf nl t a x → IsMadeOf nl t b y → (merged F).one_device x y → (merged G).one_device a b
  one_here a b x y (g, d, at, i, e) (h, f, it, j, p) one = go (subst (λ z. (merged F).one_device (slot a.path d.place) z) p (subst (λ z. (merged F).one_device z y) e one))
    where
      go : (merged F).one_device (slot a.path d.place) (slot b.path f.place) → (merged G).one_device a b
      go (inl names) =
          let paths : a.path ≡ b.path = ap (λ (s : Slot). s.path) names in
          let places : d.place ≡ f.place = ap (λ (s : Slot). s.net) names in
          let both : a.net ≡ b.net = nets.group_one nl b.path t a.net b.net g h d f (subst (λ k. At k a.net g) paths at) it i j places in
          inl (subst (λ k. a ≡ slot k b.net) paths (subst (λ k. a ≡ slot a.path k) both refl))
      go (inr (c, k, r, s, to_c, has_c, to_k, has_k, l)) =
          let left : r ≡ row_at a.path d.row = member_row a g d r at i (subst (λ z. F.has_device z r) (sym to_c) has_c) in
          let right : s ≡ row_at b.path f.row = member_row b h f s it j (subst (λ z. F.has_device z s) (sym to_k) has_k) in
          let near : Alike (row_at a.path d.row) s = subst (λ (z : Row Slot). Alike z s) left l in
          let both : Alike (row_at a.path d.row) (row_at b.path f.row) = subst (λ (z : Row Slot). Alike (row_at a.path d.row) z) right near in
          let merges : may_merge_row g.first.row ≡ true = member_merges a.path a.net g d at i ∙ both.merges in
          let others : may_merge_row h.first.row ≡ true = member_merges b.path b.net h f it j ∙ merges_with (row_at a.path d.row) (row_at b.path f.row) both in
          let up = member_alike a.path a.net g d at i merges in
          let far = turned (row_at b.path (merged_row h)) (row_at b.path f.row) (member_alike b.path b.net h f it j others) in
          let all : Alike (row_at a.path (merged_row g)) (row_at b.path (merged_row h)) = through (row_at a.path (merged_row g)) (row_at a.path d.row) (row_at b.path (merged_row h)) up (through (row_at a.path d.row) (row_at b.path f.row) (row_at b.path (merged_row h)) both far) in
          inr (
            a,
            b,
            row_at a.path (merged_row g),
            row_at b.path (merged_row h),
            refl,
            (merged_row g, nets.group_has nl a.path t a.net g at, refl),
            refl,
            (merged_row h, nets.group_has nl b.path t b.net h it, refl),
            alike_there (row_at a.path (merged_row g)) (row_at b.path (merged_row h)) all,
          )

  pub expands : Corresponds (merged G) (merged F) (IsMadeOf nl t) (λ (a x : Slot). a ≡ x)
  expands = record {
    there = there;
    back = here;
    devices = λ a b x y k m. (one_there a b x y k m, one_here a b x y k m);
    nets = λ a b x y e q. (
      (λ one. subst (λ z. InOneNet nl t z y) e (subst (λ z. InOneNet nl t a z) q (nets.net_back nl t a b one))),
      (λ one. nets.net_there nl t a b (subst (λ z. InOneNet nl t z b) (sym e) (subst (λ z. InOneNet nl t x z) (sym q) one))),
    );
    pins = λ a x e. (
      (λ p. subst (λ z. IsOnPin nl t z) e (nets.pin_back nl t a p)),
      (λ p. nets.pin_there nl t a (subst (λ z. IsOnPin nl t z) (sym e) p)),
    );
  }

pub merged_expands : MergedExpandsLaw
merged_expands nl t = expands nl t
