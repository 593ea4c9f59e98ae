-- What holds of a layout's design, by the drafts that it was linked from.
use Rattle.std.proofs.Common.{◌≡◌, inl, inr, ℕ, suc, ◌<◌, List, [], ◌∷◌, length, slice_get, Option, Some, None, refl, sym, ap, subst, ◌∙◌, arith}
use Rattle.base_laws.proofs.Items.{item_at}
use Rattle.std.proofs.lemmas.Bool.{cases_lt}
use Rattle.std.proofs.lemmas.Option.{slice_get_within}
use Rattle.flat_layout.specs.Layout as flat
use Rattle.flat_layout.specs.Layout.{IsHeight, IsPlaced, IsReached, Leads}
use Rattle.cell_graph.specs.Chains.{IsHeightOf, HasChain}
use Rattle.cell_graph.specs.Drafts.{IsLink, IsPartOf, IsResolved, IsNamed, IsTop, Refers}
use Rattle.cell_graph.specs.Linked.{Linked, plain, cell_at, places_at, height_at, height_of}
use Rattle.cell_graph.specs.declared.cells.CellPart.{CellPart}
use Rattle.cell_graph.specs.declared.cells.Place.{Place}
use Rattle.cell_graph.specs.declared.drafts.CellDraft.{CellDraft}
use Rattle.cell_graph.specs.declared.drafts.DraftRef.{DraftRef}
use Rattle.cell_graph.proofs.Bridge.{step_of}
use Rattle.layout_shapes.specs.Written.{name_of}

-- a cell, and its draft
pub record IsDrafted (ds : List CellDraft) (d : Linked) (k : ℕ) : Type 0 where
  pub part : CellPart
  pub draft : CellDraft
  pub part_at : cell_at d k ≡ Some part
  pub draft_at : slice_get ds k ≡ Some draft
  pub is : IsPartOf ds k draft part

pub drafted : (ds : List CellDraft) (top : Option (List ℕ)) (d : Linked) (k : ℕ) → IsLink ds top d → k < length ds → IsDrafted ds d k
drafted ds top d k link lt =
    let part = item_at d.cells k (let count = link.count in omega (arith, lt, count)) in
    let draft = item_at ds k lt in
    record { part = part.0; draft = draft.0; part_at = part.1; draft_at = draft.1; is = link.each k draft.0 part.0 draft.1 part.1 }

-- a reference, and its draft
pub record IsRefDrafted (ds : List CellDraft) (d : Linked) (k : ℕ) (p : Place) : Type 0 where
  pub cell : IsDrafted ds d k
  pub number : ℕ
  pub ref : DraftRef
  pub ref_at : slice_get cell.draft.refs.items number ≡ Some ref
  pub is : IsResolved ds ref p

pub ref_drafted : (ds : List CellDraft) (top : Option (List ℕ)) (d : Linked) (k i : ℕ) (p : Place) → IsLink ds top d → slice_get (places_at (cell_at d k)) i ≡ Some p → IsRefDrafted ds d k p
ref_drafted ds top d k i p link = at (cell_at d k) refl
  where
    at : (o : Option CellPart) → cell_at d k ≡ o → slice_get (places_at o) i ≡ Some p → IsRefDrafted ds d k p
    at None e f = absurd (let g : None ≡ Some p = f in let z : ⊥ = cc in z)
    at (Some c) e f =
        let cell = drafted ds top d k link (let within = slice_get_within d.cells k c e in let count = link.count in omega (arith, within, count)) in
        let same : c ≡ cell.part = (let g : Some c ≡ Some cell.part = sym e ∙ cell.part_at in cc) in
        let here : slice_get cell.part.places.items i ≡ Some p = subst (λ (x : CellPart). slice_get x.places.items i ≡ Some p) same f in
        let within = slice_get_within cell.part.places.items i p here in
        let ref = item_at cell.draft.refs.items i (let count = cell.is.places.count in omega (arith, within, count)) in
        record { cell = cell; number = i; ref = ref.0; ref_at = ref.1; is = cell.is.places.each i ref.0 p ref.1 here }

-- the drafts refer as the placements do
refers : (ds : List CellDraft) (d : Linked) (k : ℕ) (p : Place) → IsRefDrafted ds d k p → Refers ds k p.cell
refers ds d k p h = record { number = h.number; ref = h.ref; has = record { cell = h.cell.draft; there = h.cell.draft_at; ref = h.ref_at }; names = h.is.names }

named_in : (ds : List CellDraft) (name : List ℕ) (i : ℕ) → IsNamed ds name i → i < length ds
named_in ds name i h = slice_get_within ds i h.cell h.there

-- ---- heights

higher : (R : ℕ → ℕ → Type 0) (i j m n : ℕ) → R i j → IsHeightOf R i m → IsHeightOf R j n → n < m
higher R i j m n step above below =
    let chain : HasChain R i (suc n) = (below.chain.0, (j, step, below.chain.1)) in
    let le = above.longest (suc n) chain in
    omega (arith, le)

pub heights : (ds : List CellDraft) (top : Option (List ℕ)) (d : Linked) → IsLink ds top d → IsHeight (plain d) (height_at d)
heights ds top d link k n p placed =
    let s = step_of d k n p placed in
    let above = ref_drafted ds top d k s.index s.from link s.step.there in
    let below = drafted ds top d s.from.cell link (named_in ds above.ref.cell s.from.cell above.is.names) in
    let lt = higher (Refers ds) k s.from.cell above.cell.part.height below.part.height (refers ds d k s.from above) above.cell.is.height below.is.height in
    let one : height_at d p.cell ≡ below.part.height = ap (λ (x : flat.Place). height_at d x.cell) s.is ∙ ap height_of below.part_at in
    let two : height_at d k ≡ above.cell.part.height = ap height_of above.cell.part_at in
    omega (arith, lt, one, two)

-- ---- reached cells

top_in : (ds : List CellDraft) (top : Option (List ℕ)) (i : ℕ) → IsTop ds top i → i < length ds
top_in ds None i h = h.0.there
top_in ds (Some name) i h = named_in ds name i h

placed_in : (ds : List CellDraft) (top : Option (List ℕ)) (d : Linked) (k n : ℕ) (p : flat.Place) → IsLink ds top d → IsPlaced (plain d) k n p → p.cell < length ds
placed_in ds top d k n p link placed =
    let s = step_of d k n p placed in
    let h = ref_drafted ds top d k s.index s.from link s.step.there in
    let within = named_in ds h.ref.cell s.from.cell h.is.names in
    let same : p.cell ≡ s.from.cell = ap (λ (x : flat.Place). x.cell) s.is in
    omega (arith, within, same)

led_in : (ds : List CellDraft) (top : Option (List ℕ)) (d : Linked) (path : List ℕ) (from to : ℕ) → IsLink ds top d → from < length ds → Leads (plain d) from path to → to < length ds
led_in ds top d [] from to link lt h = subst (λ (k : ℕ). k < length ds) h lt
led_in ds top d (n ∷ path) from to link lt h = led_in ds top d path h.0.cell to link (placed_in ds top d from n h.0 link h.1) h.2

pub reached_in : (ds : List CellDraft) (top : Option (List ℕ)) (d : Linked) (k : ℕ) → IsLink ds top d → IsReached (plain d) k → k < length ds
reached_in ds top d k link h = led_in ds top d h.path d.top k link (top_in ds top d.top link.tops) h.leads

-- no two cells have one name
pub one_name : (ds : List CellDraft) (top : Option (List ℕ)) (d : Linked) (j k : ℕ) → IsLink ds top d → j < length ds → k < length ds → name_of (cell_at d j) ≡ name_of (cell_at d k) → j ≡ k
one_name ds top d j k link in_j in_k e = elim (cases_lt j k) [
  | inl lt ↦ absurd (repeats j k in_j in_k e lt)
  | inr le ↦ elim (cases_lt k j) [ inl lt ↦ absurd (repeats k j in_k in_j (sym e) lt) | inr ge ↦ omega (arith, le, ge) ]
]
  where
    named : (i : ℕ) (name : List ℕ) → i < length ds → name_of (cell_at d i) ≡ name → IsNamed ds name i
    named i name lt f =
        let h = drafted ds top d i link lt in
        let g : name_of (cell_at d i) ≡ h.part.name = ap name_of h.part_at in
        record { cell = h.draft; there = h.draft_at; named = sym h.is.name ∙ sym g ∙ f }

    repeats : (m n : ℕ) → m < length ds → n < length ds → name_of (cell_at d m) ≡ name_of (cell_at d n) → m < n → ⊥
    repeats m n in_m in_n f lt = link.sound.once n (record {
      name = name_of (cell_at d n);
      here = named n (name_of (cell_at d n)) in_n refl;
      earlier = m;
      before = lt;
      there = named m (name_of (cell_at d n)) in_m f;
    })
