-- A layout has one shapes file.
use Rattle.std.proofs.Common.{◌≡◌, ◌⊎◌, inl, inr, ℕ, zero, suc, ◌+◌, ◌<◌, Bool, true, false, ◌||◌, List, [], ◌∷◌, map, length, get_or, Option, Some, None, slice_get, refl, sym, ap, subst, ◌∙◌, arith}
use Rattle.base_laws.proofs.Items.{one_list}
use Rattle.std.specs.Prelude.{slice_index, IsSomeAnd}
use Rattle.std.specs.List.{Contains, fold, list_any, sum_by}
use Rattle.std.proofs.lemmas.Bool.{cases_lt}
use Rattle.std.proofs.lemmas.List.Kept.{AllPairs-from_increasing}
use Rattle.std.proofs.lemmas.Option.{slice_get_within, slice_get-get_or}
use Rattle.geo_base.specs.declared.layer.LayerKey.{LayerKey}
use Rattle.geo_base.specs.declared.shapes.Rect.{Rect}
use Rattle.rect_sets.specs.Rects.{OneListLaw, covers}
use Rattle.flat_layout.specs.Layout as flat
use Rattle.flat_layout.specs.Layers.{Formula}
use Rattle.flat_layout.specs.Values.{IsLocalLayer}
use Rattle.cell_graph.specs.declared.cells.Place.{Place}
use Rattle.cell_graph.specs.declared.cells.CellPart.{CellPart}
use Rattle.cell_graph.specs.Linked.{Linked, plain, cell_at, places_at}
use Rattle.deep_tables.specs.Entries.{entry}
use Rattle.deep_tables.specs.Layers.{AreLayers, AreCellLayers, squares_on}
use Rattle.deep_tables.specs.declared.layers.CellLayers.{CellLayers}
use Rattle.rule_layers.specs.Formulas.{formulas}
use Rattle.rule_text.specs.declared.rules.Output.{Output}
use Rattle.rule_text.specs.Rules.{Rules}
use Rattle.gds_elements.specs.Meaning.{Ref}
use Rattle.gds_shapes.specs.Stream.{Heading, Drawn, library_bytes}
use Rattle.gds_layout.specs.declared.layout.Header.{Header}
use Rattle.gds_layout.specs.declared.layout.Layout.{Layout}
use Rattle.gds_layout.specs.Once.{IsSameHeader, IsSameLayout, contents}
use Rattle.gds_layout.proofs.SamePlain.{same_plain}
use Rattle.layout_shapes.specs.Wide.{IsFarOut, IsWideCell, has_wide_line, is_wide_line, output_reach}
use Rattle.layout_shapes.specs.Written.{heading_of, name_of, ref_of, squares_of, line_of, drawn, AreReached}
use Rattle.shapes_file.specs.File.{IsNarrow, IsShapesFile, IsWide, count_in}
use Rattle.shapes_file.specs.One.{IsSameCell, IsSameFile, NoFileLaw, OneFileLaw, OneWideLaw}

-- ---- lists

map_same : {A B : Type 0} (f g : A → B) (xs : List A) → ((x : A) → f x ≡ g x) → map f xs ≡ map g xs
map_same f g [] h = refl
map_same f g (x ∷ xs) h = ap (λ y. y ∷ map f xs) (h x) ∙ ap (λ ys. g x ∷ ys) (map_same f g xs h)

-- numbers that rise and are the same are one list
abbrev Below : ℕ → List ℕ → Type 0
Below x xs = (k : ℕ) → k < length xs → x < slice_index xs k

abbrev Rises : List ℕ → Type 0
Rises [] = Unit {0}
Rises (x ∷ xs) = Below x xs × Rises xs

rises : (xs : List ℕ) → ((i j d : ℕ) → i < j → j < length xs → get_or xs i d < get_or xs j d) → Rises xs
rises [] h = tt
rises (x ∷ xs) h = (
  λ k lt. h 0 (suc k) 0 (omega arith) (omega (arith, lt)),
  rises xs (λ i j d lt within. h (suc i) (suc j) d (omega (arith, lt)) (omega (arith, within))),
)

abbrev Has : List ℕ → ℕ → Type 0
Has xs x = (k : ℕ) × (slice_get xs k ≡ Some x)

has : (xs : List ℕ) (x : ℕ) → Contains xs x → Has xs x
has xs x (k, lt, e) = (k, slice_get-get_or xs k x lt ∙ ap Some e)

contains : (xs : List ℕ) (x : ℕ) → Has xs x → Contains xs x
contains xs x (k, e) = (k, slice_get_within xs k x e, at_there xs k x e)
  where
    at_there : (ys : List ℕ) (j x : ℕ) → slice_get ys j ≡ Some x → get_or ys j x ≡ x
    at_there [] j x e = refl
    at_there (y ∷ ys) zero x e = cc
    at_there (y ∷ ys) (suc j) x e = at_there ys j x e

below_at : (x : ℕ) (xs : List ℕ) (k y : ℕ) → Below x xs → slice_get xs k ≡ Some y → x < y
below_at x xs k y h e =
    let lt = slice_get_within xs k y e in
    let here : Some (slice_index xs k) ≡ Some y = sym (slice_get-get_or xs k 0 lt) ∙ e in
    let same : slice_index xs k ≡ y = cc in
    subst (λ (n : ℕ). x < n) same (h k lt)

-- the first of a rising list is below each other
first_least : (x : ℕ) (xs : List ℕ) (y : ℕ) → Below x xs → Has (x ∷ xs) y → (x ≡ y) ⊎ (x < y)
first_least x xs y h (zero, e) = inl (let same : x ≡ y = cc in same)
first_least x xs y h (suc k, e) = inr (below_at x xs k y h e)

tail_has : (x : ℕ) (xs : List ℕ) (y : ℕ) → Has (x ∷ xs) y → x < y → Has xs y
tail_has x xs y (zero, e) lt = let same : x ≡ y = cc in absurd (omega (arith, same, lt))
tail_has x xs y (suc k, e) lt = (k, e)

one_rising : (xs ys : List ℕ) → Rises xs → Rises ys → ((n : ℕ) → Has xs n → Has ys n) → ((n : ℕ) → Has ys n → Has xs n) → xs ≡ ys
one_rising [] [] a b to back = refl
one_rising (x ∷ xs) [] a b to back = let h = to x (0, refl) in let e : None ≡ Some x = h.1 in absurd cc
one_rising [] (y ∷ ys) a b to back = let h = back y (0, refl) in let e : None ≡ Some y = h.1 in absurd cc
one_rising (x ∷ xs) (y ∷ ys) a b to back =
    let one : x ≡ y = same_first (first_least y ys x b.0 (to x (0, refl))) (first_least x xs y a.0 (back y (0, refl))) in
    let rest : xs ≡ ys = one_rising xs ys a.1 b.1
    (λ n h. tail_has y ys n (to n (suc h.0, h.1)) (subst (λ (m : ℕ). m < n) one (below_at x xs h.0 n a.0 h.1)))
    (λ n h. tail_has x xs n (back n (suc h.0, h.1)) (subst (λ (m : ℕ). m < n) (sym one) (below_at y ys h.0 n b.0 h.1))) in
    ap (λ (z : ℕ). z ∷ xs) one ∙ ap (λ (zs : List ℕ). y ∷ zs) rest
  where
    same_first : (y ≡ x) ⊎ (y < x) → (x ≡ y) ⊎ (x < y) → x ≡ y
    same_first (inl e) q = sym e
    same_first (inr lt) (inl e) = e
    same_first (inr lt) (inr more) = absurd (omega (arith, lt, more))

-- ---- the layouts

-- what is written of a cell
pub record IsSameAt (a b : Option CellPart) : Type 0 where
  pub name : name_of a ≡ name_of b
  pub places : places_at a ≡ places_at b

same_at : (xs ys : List CellPart) (i : ℕ) → map contents xs ≡ map contents ys → IsSameAt (slice_get xs i) (slice_get ys i)
same_at [] [] i e = record { name = refl; places = refl }
same_at (x ∷ xs) [] i e = absurd cc
same_at [] (y ∷ ys) i e = absurd cc
same_at (x ∷ xs) (y ∷ ys) zero e =
    let first : contents x ≡ contents y = cc in
    record { name = ap (λ (p : flat.Cell × List Place). p.0.name) first; places = ap (λ (p : flat.Cell × List Place). p.1) first }
same_at (x ∷ xs) (y ∷ ys) (suc i) e = let rest : map contents xs ≡ map contents ys = cc in same_at xs ys i rest

same_ref : (d e : Linked) → map contents d.cells ≡ map contents e.cells → (p : Place) → ref_of d p ≡ ref_of e p
same_ref d e cells p =
    ap (λ (n : List ℕ). let r : Ref = record { cell = n; motion = p.motion; columns = p.columns; rows = p.rows; column_step = p.column_step; row_step = p.row_step } in r)
    (same_at d.cells e.cells p.cell cells).name

same_refs : (d e : Linked) → map contents d.cells ≡ map contents e.cells → (cell : ℕ) → map (ref_of d) (places_at (cell_at d cell)) ≡ map (ref_of e) (places_at (cell_at e cell))
same_refs d e cells cell =
    ap (map (ref_of d)) (same_at d.cells e.cells cell cells).places ∙ map_same (ref_of d) (ref_of e) (places_at (cell_at e cell)) (same_ref d e cells)

same_heading : (a b : Header) → IsSameHeader a b → heading_of a ≡ heading_of b
same_heading a b h =
    ap (λ (x : List ℕ). let k : Heading = record { version = x; dates = a.dates; name = a.name.items; units = a.units } in k) h.version
    ∙ ap (λ (x : List ℕ). let k : Heading = record { version = b.version; dates = x; name = a.name.items; units = a.units } in k) h.dates
    ∙ ap (λ (x : List ℕ). let k : Heading = record { version = b.version; dates = b.dates; name = x; units = a.units } in k) h.name
    ∙ ap (λ (x : List ℕ). let k : Heading = record { version = b.version; dates = b.dates; name = b.name.items; units = x } in k) h.units

-- ---- the layers of a cell

module _ (lists : OneListLaw) (d : flat.Design) (r : Rules) where
  agree : (a b : Bool) → (a ≡ true → b ≡ true) → (b ≡ true → a ≡ true) → a ≡ b
  agree true true f g = refl
  agree true false f g = sym (f refl)
  agree false true f g = g refl
  agree false false f g = refl

  one_layer : (cell : ℕ) (x : Formula) (v w : List Rect) → IsLocalLayer d x cell v → IsLocalLayer d x cell w → v ≡ w
  one_layer cell x v w a b = lists v w a.canonical b.canonical
      (λ s. agree (covers v s) (covers w s) (λ e. (b.each s).1 ((a.each s).0 e)) (λ e. (a.each s).1 ((b.each s).0 e)))

  there : (xs : List Formula) (k : ℕ) → k < length xs → (x : Formula) × (slice_get xs k ≡ Some x)
  there [] k lt = absurd (omega (arith, lt))
  there (x ∷ xs) zero lt = (x, refl)
  there (x ∷ xs) (suc k) lt = there xs k (omega (arith, lt))

  same_layers : (cell : ℕ) (v w : CellLayers) → AreCellLayers d r cell v → AreCellLayers d r cell w → v.layers.items ≡ w.layers.items
  same_layers cell v w a b = one_list v.layers.items w.layers.items (a.names ∙ sym b.names)
      (λ k x y p q.
      let lt = slice_get_within v.layers.items k x p in
      let name = there (formulas r.names) k (let count = a.names in omega (arith, lt, count)) in
      one_layer cell name.0 x y (a.layers k name.0 x name.1 p) (b.layers k name.0 y name.1 q))

  one_entry : (cell layer : ℕ) (a b : Option CellLayers) → IsSomeAnd a (AreCellLayers d r cell) → IsSomeAnd b (AreCellLayers d r cell) → squares_on a layer ≡ squares_on b layer
  one_entry cell layer None b x y = absurd x
  one_entry cell layer (Some v) None x y = absurd y
  one_entry cell layer (Some v) (Some w) x y = ap (λ (ls : List (List Rect)). slice_get ls layer) (same_layers cell v w x y)

  one_line : (table other : List (Option CellLayers)) → AreLayers d r table → AreLayers d r other → (cell : ℕ) → flat.IsReached d cell → (o : Output) → line_of table cell o ≡ line_of other cell o
  one_line table other a b cell reached o =
      ap (λ (s : Option (List Rect)). (o.key, squares_of s)) (one_entry cell o.layer (entry table cell) (entry other cell) (a cell reached) (b cell reached))

-- ---- what is written

same_drawn : (l m : Layout) (r : Rules) (table other : List (Option CellLayers)) (cell : ℕ) → IsSameLayout l m → ((o : Output) → line_of table cell o ≡ line_of other cell o) → drawn l r table cell ≡ drawn m r other cell
same_drawn l m r table other cell s lines =
    let name = (same_at l.design.cells m.design.cells cell s.cells).name in
    let refs = same_refs l.design m.design s.cells cell in
    let layers = map_same (line_of table cell) (line_of other cell) r.outputs lines in
    ap (λ (ds : List (List ℕ)). let k : Drawn = record { dates = get_or ds cell []; name = name_of (cell_at l.design cell); refs = map (ref_of l.design) (places_at (cell_at l.design cell)); layers = map (line_of table cell) r.outputs } in k) s.dates
    ∙ ap (λ (n : List ℕ). let k : Drawn = record { dates = get_or m.cell_dates.items cell []; name = n; refs = map (ref_of l.design) (places_at (cell_at l.design cell)); layers = map (line_of table cell) r.outputs } in k) name
    ∙ ap (λ (rs : List Ref). let k : Drawn = record { dates = get_or m.cell_dates.items cell []; name = name_of (cell_at m.design cell); refs = rs; layers = map (line_of table cell) r.outputs } in k) refs
    ∙ ap (λ (ls : List (LayerKey × List Rect)). let k : Drawn = record { dates = get_or m.cell_dates.items cell []; name = name_of (cell_at m.design cell); refs = map (ref_of m.design) (places_at (cell_at m.design cell)); layers = ls } in k) layers

map_each : {A B : Type 0} (f g : A → B) (xs : List A) → ((k : ℕ) (x : A) → slice_get xs k ≡ Some x → f x ≡ g x) → map f xs ≡ map g xs
map_each f g [] h = refl
map_each f g (x ∷ xs) h = ap (λ y. y ∷ map f xs) (h 0 x refl) ∙ ap (λ ys. g x ∷ ys) (map_each f g xs (λ k y e. h (suc k) y e))

fold_same : {A : Type 0} (f g : A → ℕ) (n : ℕ) (xs : List A) → ((k : ℕ) (x : A) → slice_get xs k ≡ Some x → f x ≡ g x) → fold (λ a x. a + f x) n xs ≡ fold (λ a x. a + g x) n xs
fold_same f g n [] h = refl
fold_same f g n (x ∷ xs) h = ap (λ (m : ℕ). fold (λ a y. a + f y) (n + m) xs) (h 0 x refl) ∙ fold_same f g (n + g x) xs (λ k y e. h (suc k) y e)

sum_same : {A : Type 0} (f g : A → ℕ) (xs : List A) → ((k : ℕ) (x : A) → slice_get xs k ≡ Some x → f x ≡ g x) → sum_by f xs ≡ sum_by g xs
sum_same f g xs h = fold_same f g 0 xs h

reached_once : (d e : Linked) (xs ys : List ℕ) → plain d ≡ plain e → AreReached d xs → AreReached e ys → xs ≡ ys
reached_once d e xs ys same a b = one_rising xs ys (rises xs (AllPairs-from_increasing xs a.ascending)) (rises ys (AllPairs-from_increasing ys b.ascending))
    (λ n h. has ys n ((b.each n).1 (subst (λ (f : flat.Design). flat.IsReached f n) same ((a.each n).0 (contains xs n h)))))
    (λ n h. has xs n ((a.each n).1 (subst (λ (f : flat.Design). flat.IsReached f n) (sym same) ((b.each n).0 (contains ys n h)))))

module _ (lists : OneListLaw) (l m : Layout) (r : Rules) (s : IsSameLayout l m) (way : l.design.way ≡ m.design.way) where
  one_text : (text other : List ℕ) (cells others rectangles more : ℕ) → IsShapesFile l r text cells rectangles → IsShapesFile m r other others more → IsSameFile text other cells others rectangles more
  one_text text other cells others rectangles more a b =
      let same = same_plain l.design m.design s.cells s.top way in
      let reached : a.written.cells ≡ b.written.cells = reached_once l.design m.design a.written.cells b.written.cells same a.written.reached b.written.reached in
      let layers : AreLayers (plain l.design) r b.table = subst (λ (f : flat.Design). AreLayers f r b.table) (sym same) b.layers in
      let lines = λ (k cell : ℕ) (e : slice_get a.written.cells k ≡ Some cell). one_line lists (plain l.design) r a.table b.table a.layers layers cell ((a.written.reached.each cell).0 (contains a.written.cells cell (k, e))) in
      let drawn_same : map (drawn l r a.table) a.written.cells ≡ map (drawn m r b.table) a.written.cells =
      map_each (drawn l r a.table) (drawn m r b.table) a.written.cells (λ k cell e. same_drawn l m r a.table b.table cell s (lines k cell e)) in
      let counted : sum_by (count_in a.table r) a.written.cells ≡ sum_by (count_in b.table r) a.written.cells =
      sum_same (count_in a.table r) (count_in b.table r) a.written.cells
      (λ k cell e. sum_same (λ o. length (line_of a.table cell o).1) (λ o. length (line_of b.table cell o).1) r.outputs (λ j o f. ap (λ (x : LayerKey × List Rect). length x.1) (lines k cell e o))) in
      record {
        text =
            a.written.exact
            ∙ ap (λ (h : Heading). library_bytes h (map (drawn l r a.table) a.written.cells)) (same_heading l.header m.header s.header)
            ∙ ap (λ (ds : List Drawn). library_bytes (heading_of m.header) ds) drawn_same
            ∙ ap (λ (cs : List ℕ). library_bytes (heading_of m.header) (map (drawn m r b.table) cs)) reached
            ∙ sym b.written.exact;
        cell_count = a.cell_count ∙ ap (λ (cs : List ℕ). length cs) reached ∙ sym b.cell_count;
        rectangle_count = a.rectangle_count ∙ counted ∙ ap (λ (cs : List ℕ). sum_by (count_in b.table r) cs) reached ∙ sym b.rectangle_count;
      }

pub one_file : OneListLaw → OneFileLaw
one_file lists l m r text other cells others rectangles more alike a b = one_text lists l m r alike.same alike.way text other cells others rectangles more a b

-- ---- the cell for which there is no file

any_same : {A : Type 0} (f g : A → Bool) (xs : List A) → ((x : A) → f x ≡ g x) → list_any f xs ≡ list_any g xs
any_same f g [] h = refl
any_same f g (x ∷ xs) h = ap (λ (b : Bool). b || list_any f xs) (h x) ∙ ap (λ (b : Bool). g x || b) (any_same f g xs h)

apart : (a b : ℕ) → (a < b → ⊥) → (b < a → ⊥) → a ≡ b
apart a b f g = elim (cases_lt a b) [ inl lt ↦ absurd (f lt) | inr le ↦ elim (cases_lt b a) [ inl lt ↦ absurd (g lt) | inr more ↦ omega (arith, le, more) ] ]

module _ (lists : OneListLaw) (l m : Layout) (r : Rules) (s : IsSameLayout l m) (way : l.design.way ≡ m.design.way) where
  -- what is wide by one table of the layers is so by another
  one_lines : (table other : List (Option CellLayers)) → AreLayers (plain l.design) r table → AreLayers (plain l.design) r other → (cell : ℕ) → flat.IsReached (plain l.design) cell → has_wide_line table r cell ≡ has_wide_line other r cell
  one_lines table other a b cell reached =
      any_same (λ (o : Output). is_wide_line (line_of table cell o).1) (λ (o : Output). is_wide_line (line_of other cell o).1) r.outputs
      (λ o. ap (λ (x : LayerKey × List Rect). is_wide_line x.1) (one_line lists (plain l.design) r table other a b cell reached o))

  one_plain : plain l.design ≡ plain m.design
  one_plain = same_plain l.design m.design s.cells s.top way

  wide_too : (table other : List (Option CellLayers)) → AreLayers (plain l.design) r table → AreLayers (plain m.design) r other → (cell : ℕ) → flat.IsReached (plain l.design) cell → IsWideCell (plain l.design) r table cell → IsWideCell (plain m.design) r other cell
  wide_too table other a b cell reached (inl e) = inl (sym (one_lines table other a (subst (λ (f : flat.Design). AreLayers f r other) (sym one_plain) b) cell reached) ∙ e)
  wide_too table other a b cell reached (inr f) = inr (subst (λ (d : flat.Design). IsFarOut d (output_reach r) cell) one_plain f)

  wide_back : (table other : List (Option CellLayers)) → AreLayers (plain l.design) r table → AreLayers (plain m.design) r other → (cell : ℕ) → flat.IsReached (plain l.design) cell → IsWideCell (plain m.design) r other cell → IsWideCell (plain l.design) r table cell
  wide_back table other a b cell reached (inl e) = inl (one_lines table other a (subst (λ (f : flat.Design). AreLayers f r other) (sym one_plain) b) cell reached ∙ e)
  wide_back table other a b cell reached (inr f) = inr (subst (λ (d : flat.Design). IsFarOut d (output_reach r) cell) (sym one_plain) f)

  there_too : (cell : ℕ) → flat.IsReached (plain l.design) cell → flat.IsReached (plain m.design) cell
  there_too cell h = subst (λ (f : flat.Design). flat.IsReached f cell) one_plain h

  here_too : (cell : ℕ) → flat.IsReached (plain m.design) cell → flat.IsReached (plain l.design) cell
  here_too cell h = subst (λ (f : flat.Design). flat.IsReached f cell) (sym one_plain) h

  one_number : (cell other : ℕ) → IsWide l r cell → IsWide m r other → cell ≡ other
  one_number cell other a b =
      let there = here_too other b.first.0 in
      apart cell other
      (λ lt. b.first.2 cell lt (there_too cell a.first.0) (wide_too a.table b.table a.layers b.layers cell a.first.0 a.first.1))
      (λ lt. a.first.2 other lt there (wide_back a.table b.table a.layers b.layers other there b.first.1))

  one_cell : (cell other : ℕ) → IsWide l r cell → IsWide m r other → IsSameCell l m cell other
  one_cell cell other a b =
      let same = one_number cell other a b in
      record { number = same; name = (same_at l.design.cells m.design.cells cell s.cells).name ∙ ap (λ (k : ℕ). name_of (cell_at m.design k)) same }

  no_cell : (cell : ℕ) → IsNarrow l r → IsWide m r cell → ⊥
  no_cell cell a b =
      let there = here_too cell b.first.0 in
      a.narrow cell there (wide_back a.table b.table a.layers b.layers cell there b.first.1)

pub one_wide : OneListLaw → OneWideLaw
one_wide lists l m r cell other alike a b = one_cell lists l m r alike.same alike.way cell other a b

pub no_file : OneListLaw → NoFileLaw
no_file lists l m r cell alike a b = no_cell lists l m r alike.same alike.way cell a b
