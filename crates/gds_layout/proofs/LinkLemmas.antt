-- What the structures' cells promise to be linked, and the answers.
use Rattle.std.proofs.Common.{◌≡◌, ℕ, zero, suc, List, [], ◌∷◌, Option, Some, None, slice_get, refl, sym, subst, MatchOption}
use Rattle.std.specs.Prelude.{Result, Ok, Err, IfOk, IfErr, IfSome, unwrap_or}
use Rattle.std.specs.List.{All, AllByRecursion}
use Rattle.std.proofs.lemmas.List.Elements.{recursion_from_All}
use Rattle.gds_elements.specs.Units.{IsUnit}
use Rattle.gds_elements.specs.Meaning.{Ref, Cell, Library}
use Rattle.gds_elements.specs.Faults.{Accepts, FirstFault, IsAccepted}
use Rattle.gds_elements.specs.Placeable.{HasPlacements, ArePlaceable}
use Rattle.gds_elements.specs.Reading.{library_after}
use Rattle.gds_elements.specs.declared.library.Library as lib
use Rattle.gds_elements.specs.declared.library.GdsFault.{GdsFault}
use Rattle.gds_elements.specs.declared.library.GdsFault.TheVariants.{Bad, NoMemory as NoMemoryInStream}
use Rattle.gds_elements.proofs.Unique.{no_fault, one_fault}
use Rattle.cell_graph.specs.declared.drafts.DraftRef.{DraftRef}
use Rattle.cell_graph.specs.declared.drafts.CellDraft.{CellDraft}
use Rattle.cell_graph.specs.declared.drafts.LinkFault.{LinkFault}
use Rattle.cell_graph.specs.declared.drafts.LinkFault.TheVariants.{TooManyCells, DuplicateCell, NoSuchCell, Cycle, TooDeep, NoTop, TopUnclear, CoordinateRange, NoMemory as NoMemoryInLinks}
use Rattle.cell_graph.specs.Drafts.{IsFault}
use Rattle.cell_graph.specs.Extents.{HasElements, HaveArrays}
use Rattle.cell_graph.specs.Linked.{layer_keys}
use Rattle.plain_netlist.specs.Lists.{AreApart}
use Rattle.gds_layout.specs.declared.drafts.Drawn.{Drawn}
use Rattle.gds_layout.specs.declared.layout.Layout.{Layout}
use Rattle.gds_layout.specs.declared.layout.LayoutFault.{LayoutFault}
use Rattle.gds_layout.specs.declared.layout.LayoutFault.TheVariants.{Gds, Link, NoMemory}
use Rattle.gds_layout.specs.Causes.{of_links}
use Rattle.gds_layout.specs.Drafts.{ref_of, IsDraftOf, AreDraftsOf, AreDrawn}
use Rattle.gds_layout.specs.Layouts.{IsLayoutOf, IsRead, IsFaultOfLibrary, IsFaultOf, OnlyStreamFault, IsPastStream}
use Rattle.gds_layout.proofs.Yielded.{seen_at}

-- ---- what `link` asks

pub keys_apart : (cells : List Cell) (ds : List CellDraft) → AreDraftsOf cells ds → (i : ℕ) (d : CellDraft) → slice_get ds i ≡ Some d → AreApart (layer_keys d.layers.items)
keys_apart [] [] h i d e = absurd cc
keys_apart (c ∷ cells) [] h i d e = absurd h
keys_apart [] (x ∷ ds) h i d e = absurd h
keys_apart (c ∷ cells) (x ∷ ds) h zero d e = let same : x ≡ d = cc in subst (λ (y : CellDraft). AreApart (layer_keys y.layers.items)) same h.0.layers.apart
keys_apart (c ∷ cells) (x ∷ ds) h (suc i) d e = keys_apart cells ds h.1 i d e

draft_places : (c : Cell) (d : CellDraft) → IsDraftOf c d → ArePlaceable c → (k : ℕ) (r : DraftRef) → slice_get d.refs.items k ≡ Some r → HasElements r
draft_places c d h p k r e =
    let one = seen_at HasPlacements ref_of d.refs.items k r (subst (λ (rs : List Ref). All HasPlacements rs) (sym h.refs) p) e in
    record { rows = one.rows; columns = one.columns }

places_by : (cells : List Cell) (ds : List CellDraft) → AreDraftsOf cells ds → AllByRecursion ArePlaceable cells → (i k : ℕ) (d : CellDraft) (r : DraftRef) → slice_get ds i ≡ Some d → slice_get d.refs.items k ≡ Some r → HasElements r
places_by [] [] h p i k d r e f = absurd cc
places_by (c ∷ cells) [] h p i k d r e f = absurd h
places_by [] (x ∷ ds) h p i k d r e f = absurd h
places_by (c ∷ cells) (x ∷ ds) h p zero k d r e f = let same : d ≡ x = cc in draft_places c x h.0 p.0 k r (subst (λ (y : CellDraft). slice_get y.refs.items k ≡ Some r) same f)
places_by (c ∷ cells) (x ∷ ds) h p (suc i) k d r e f = places_by cells ds h.1 p.1 i k d r e f

pub arrays_some : (cells : List Cell) (ds : List CellDraft) → AreDraftsOf cells ds → All ArePlaceable cells → HaveArrays ds
arrays_some cells ds h p i k r has = places_by cells ds h (recursion_from_All ArePlaceable cells p) i k has.cell r has.there has.ref

-- ---- the unit

pub unit_there : (o : Option ℕ) (u : ℕ) (bytes : List ℕ) → MatchOption o ((k : ℕ) → IsUnit bytes k → ⊥) (λ k. IsUnit bytes k) → (k : ℕ) × IsUnit bytes k → u ≡ unwrap_or o 0 → IsUnit bytes u
unit_there (Some k) u bytes h some e = subst (λ (n : ℕ). IsUnit bytes n) (sym e) h
unit_there None u bytes h some e = absurd (h some.0 some.1)

-- ---- faults of linking

pub link_fault : (v : Library) (top : Option (List ℕ)) (f : LinkFault) (drafts : List CellDraft) → AreDraftsOf v.cells drafts → IsFault drafts top f → IsFaultOfLibrary v top (of_links f)
link_fault v top TooManyCells drafts d h = record { drafts = drafts; drafted = d; fault = h }
link_fault v top (DuplicateCell name) drafts d h = record { drafts = drafts; drafted = d; fault = h }
link_fault v top (NoSuchCell name) drafts d h = record { drafts = drafts; drafted = d; fault = h }
link_fault v top (Cycle name) drafts d h = record { drafts = drafts; drafted = d; fault = h }
link_fault v top (TooDeep name) drafts d h = record { drafts = drafts; drafted = d; fault = h }
link_fault v top NoTop drafts d h = record { drafts = drafts; drafted = d; fault = h }
link_fault v top (TopUnclear one other) drafts d h = record { drafts = drafts; drafted = d; fault = h }
link_fault v top (CoordinateRange name) drafts d h = record { drafts = drafts; drafted = d; fault = h }
link_fault v top NoMemoryInLinks drafts d h = tt

-- ---- the answers of a reader whose stream is accepted

abbrev answered : lib.Library → Result lib.Library GdsFault
answered v = Ok v

pub never_met : (o : Option GdsFault) (v : lib.Library) → IfSome o (λ f. answered v ≡ Err f) → o ≡ None
never_met None v h = refl
never_met (Some f) v h = absurd cc

pub read_of : (fed : List ℕ) (taken : List Cell) (rest : lib.Library) (d : Drawn) (top : Option (List ℕ)) (result : Result Layout LayoutFault) → AreDrawn taken d → Accepts fed (library_after taken rest)
    → IfOk result (λ l. (taken : List Cell) → AreDrawn taken d → IsAccepted (library_after taken rest) → IsLayoutOf (library_after taken rest) top l) → IfOk result (IsRead fed top)
read_of fed taken rest d top (Ok l) drawn a h = record { library = library_after taken rest; accepted = a; layout = h taken drawn (fed, a) }
read_of fed taken rest d top (Err f) drawn a h = tt

pub fault_of : (fed : List ℕ) (taken : List Cell) (rest : lib.Library) (d : Drawn) (top : Option (List ℕ)) (result : Result Layout LayoutFault) → AreDrawn taken d → Accepts fed (library_after taken rest)
    → IfErr result (λ f. (taken : List Cell) → AreDrawn taken d → IsAccepted (library_after taken rest) → IsFaultOfLibrary (library_after taken rest) top f) → IfErr result (IsFaultOf fed top)
fault_of fed taken rest d top (Ok l) drawn a h = tt
fault_of fed taken rest d top (Err (Gds f)) drawn a h = absurd (h taken drawn (fed, a))
fault_of fed taken rest d top (Err (Link f)) drawn a h = (library_after taken rest, a, h taken drawn (fed, a))
fault_of fed taken rest d top (Err NoMemory) drawn a h = tt

pub only_stream : (fed : List ℕ) (top : Option (List ℕ)) (result : Result Layout LayoutFault) → IfOk result (IsRead fed top) → IfErr result (IsFaultOf fed top)
    → (number index offset : ℕ) → FirstFault fed number index offset → OnlyStreamFault number index offset result
only_stream fed top (Ok l) h g number index offset f = no_fault fed h.library number index offset h.accepted f
only_stream fed top (Err (Gds (Bad n i o))) h g number index offset f = one_fault fed n i o number index offset g f
only_stream fed top (Err (Gds NoMemoryInStream)) h g number index offset f = absurd g
only_stream fed top (Err (Link l)) h g number index offset f = no_fault fed g.0 number index offset g.1 f
only_stream fed top (Err NoMemory) h g number index offset f = tt

pub past_stream : (fed : List ℕ) (top : Option (List ℕ)) (result : Result Layout LayoutFault) → IfErr result (IsFaultOf fed top) → (v : Library) → Accepts fed v → IsPastStream result
past_stream fed top (Ok l) g v a = tt
past_stream fed top (Err (Gds (Bad n i o))) g v a = no_fault fed v n i o a g
past_stream fed top (Err (Gds NoMemoryInStream)) g v a = g
past_stream fed top (Err (Link l)) g v a = tt
past_stream fed top (Err NoMemory) g v a = tt
