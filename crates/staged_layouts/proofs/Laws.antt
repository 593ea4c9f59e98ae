-- What holds of staged layouts.
use Rattle.std.proofs.Common.{◌≡◌, ◌↔◌, ℕ, List, map, length, Option, Some, None, get_or, slice_get, refl, sym, ◌∙◌, ap, subst}
use Rattle.std.specs.List.{All}
use Rattle.base_laws.proofs.Items.{map_from, map_to, one_entry, one_list}
use Rattle.base_laws.proofs.Lists.{map_count}
use Rattle.rect_sets.specs.Rects.{OneListLaw}
use Rattle.geo_base.specs.declared.layer.LayerKey.{LayerKey}
use Rattle.geo_base.specs.declared.shapes.Square.{Square}
use Rattle.flat_layout.specs.Layout as flat
use Rattle.flat_layout.specs.Layout.{IsHeight, IsOwn}
use Rattle.cell_graph.specs.Laws.{HeightLaw, OwnLaw}
use Rattle.cell_graph.specs.Linked.{cell_at, height_at, plain, plain_cell}
use Rattle.cell_graph.specs.declared.cells.CellPart.{CellPart}
use Rattle.cell_graph.specs.declared.cells.Place.{Place}
use Rattle.cell_graph.proofs.Resolving.{at_too}
use Rattle.gds_elements.specs.Meaning.{Ref}
use Rattle.gds_layout.specs.Once.{IsAlike, IsSameHeader, contents}
use Rattle.gds_layout.specs.declared.layout.Header.{Header}
use Rattle.gds_layout.specs.declared.layout.Layout.{Layout}
use Rattle.gds_layout.proofs.SamePlain.{same_plain}
use Rattle.gds_shapes.specs.Accepted.{IsHeading}
use Rattle.gds_shapes.specs.Data.{IsData, IsNamed}
use Rattle.gds_shapes.specs.References.{FitsReference}
use Rattle.layout_shapes.specs.Writable.{FitsStream, IsWritableCell}
use Rattle.layout_shapes.specs.Written.{heading_of, name_of, ref_of}
use Rattle.select_laws.specs.Staged.{AreInTurn, IsStaged, Stage, StagedLaw, UnreadLaw}
use Rattle.staged_designs.proofs.Mixed.{AreAlike}
use Rattle.staged_layouts.specs.Staged.{IsStagedLayout, ShowsSelectionsLaw, StagedAlikeLaw, StagedFitsLaw}
use Rattle.staged_layouts.proofs.Agreeing.{AreOnlyReached, agree}
use Rattle.staged_layouts.proofs.Cells.{one_cell}
use Rattle.staged_layouts.proofs.Stages.{reached_back, reached_on, staged_own, staged_places, staged_texts, staged_top}

-- ---- alike layouts

module _ (own : OwnLaw) (lists : OneListLaw) (stages : List Stage) (l k m n : Layout) (turns : AreInTurn stages) (alike : IsAlike l k) (x : IsStagedLayout stages l m) (y : IsStagedLayout stages k n) where
  abbrev d : flat.Design
  d = plain l.design

  abbrev e : flat.Design
  e = plain m.design

  abbrev g : flat.Design
  g = plain n.design

  one_plain : plain l.design ≡ plain k.design
  one_plain = same_plain l.design k.design alike.same.cells alike.same.top alike.way

  theirs : IsStaged d stages g
  theirs = subst (λ (f : flat.Design). IsStaged f stages g) (sym one_plain) y.design.staged

  both : AreAlike e g
  both = record {
    top = staged_top stages d g theirs ∙ sym (staged_top stages d e x.design.staged);
    count = map_count plain_cell m.design.cells
        ∙ x.design.count
        ∙ sym (map_count contents l.design.cells)
        ∙ ap (λ (cs : List (flat.Cell × List Place)). length cs) alike.same.cells
        ∙ map_count contents k.design.cells
        ∙ sym y.design.count
        ∙ sym (map_count plain_cell n.design.cells);
    places = λ cell i p.
        let a = staged_places stages d g theirs cell i p in
        let b = staged_places stages d e x.design.staged cell i p in ((λ h. b.1 (a.0 h)), (λ h. a.1 (b.0 h)));
    texts = λ cell t.
        let a = staged_texts stages d g theirs cell t in
        let b = staged_texts stages d e x.design.staged cell t in ((λ h. b.1 (a.0 h)), (λ h. a.1 (b.0 h)));
  }

  mine_only : AreOnlyReached stages e
  mine_only cell key q is h = reached_on stages d e x.design.staged cell (x.design.only cell key q is h)

  theirs_only : AreOnlyReached stages g
  theirs_only cell key q is h = reached_on stages d g theirs cell (subst (λ (f : flat.Design). flat.IsReached f cell) (sym one_plain) (y.design.only cell key q is h))

  own_same : (cell : ℕ) (key : LayerKey) (q : Square) → IsOwn g cell key q ↔ IsOwn e cell key q
  own_same cell key q = agree stages d d e g turns x.design.staged theirs both
      (λ at i z apart_from.
      let a = staged_own stages d g i theirs apart_from at z in
      let b = staged_own stages d e i x.design.staged apart_from at z in ((λ h. b.1 (a.0 h)), (λ h. a.1 (b.0 h))))
      mine_only theirs_only cell key q

  cells_same : map contents m.design.cells ≡ map contents n.design.cells
  cells_same = one_list (map contents m.design.cells) (map contents n.design.cells)
      (map_count contents m.design.cells
      ∙ x.design.count
      ∙ sym (map_count contents l.design.cells)
      ∙ ap (λ (cs : List (flat.Cell × List Place)). length cs) alike.same.cells
      ∙ map_count contents k.design.cells
      ∙ sym y.design.count
      ∙ sym (map_count contents n.design.cells))
      (λ i a b at there.
      let p = map_from contents m.design.cells i a at in
      let q = map_from contents n.design.cells i b there in
      let c = at_too m.design.cells l.design.cells i p.0 x.design.count p.1 in
      let f = at_too n.design.cells k.design.cells i q.0 y.design.count q.1 in
      let s = x.design.cells i c.0 p.0 c.1 p.1 in
      let t = y.design.cells i f.0 q.0 f.1 q.1 in
      let drawn : contents c.0 ≡ contents f.0 = one_entry (slice_get (map contents l.design.cells) i) (contents c.0) (contents f.0)
      (map_to contents l.design.cells i c.0 c.1)
      (subst (λ (cs : List (flat.Cell × List Place)). slice_get cs i ≡ Some (contents f.0)) (sym alike.same.cells) (map_to contents k.design.cells i f.0 f.1)) in
      sym p.2
      ∙ one_cell own lists stages m.design n.design x.design.sound y.design.sound i c.0 f.0 p.0 q.0 s t p.1 q.1 (λ key z. own_same i key z) drawn
      ∙ q.2)

  pub staged_alike : IsAlike m n
  staged_alike = record {
    same = record {
      header = subst (λ (h : Header). IsSameHeader h n.header) (sym x.header) (subst (λ (h : Header). IsSameHeader l.header h) (sym y.header) alike.same.header);
      dates = x.dates ∙ alike.same.dates ∙ sym y.dates;
      cells = cells_same;
      top = x.design.top ∙ alike.same.top ∙ sym y.design.top;
    };
    way = x.design.way ∙ alike.way ∙ sym y.design.way;
  }

pub alike_law : OwnLaw → OneListLaw → StagedAlikeLaw
alike_law own lists stages l k m n turns alike x y = staged_alike own lists stages l k m n turns alike x y

-- ---- room in a stream

module _ (stages : List Stage) (l m : Layout) (x : IsStagedLayout stages l m) where
  name_same : (i : ℕ) → name_of (cell_at m.design i) ≡ name_of (cell_at l.design i)
  name_same i = by (cell_at m.design i) (cell_at l.design i) refl refl
    where
      by : (o p : Option CellPart) → cell_at m.design i ≡ o → cell_at l.design i ≡ p → name_of o ≡ name_of p
      by None None e f = refl
      by None (Some c) e f =
          let p = at_too l.design.cells m.design.cells i c (sym x.design.count) f in
          absurd (let g : None ≡ Some p.0 = sym e ∙ p.1 in let z : ⊥ = cc in z)
      by (Some p) None e f =
          let c = at_too m.design.cells l.design.cells i p x.design.count e in
          absurd (let g : None ≡ Some c.0 = sym f ∙ c.1 in let z : ⊥ = cc in z)
      by (Some p) (Some c) e f = (x.design.cells i c p f e).name

  ref_same : (p : Place) → ref_of m.design p ≡ ref_of l.design p
  ref_same p =
      ap (λ (n : List ℕ). let r : Ref = record { cell = n; motion = p.motion; columns = p.columns; rows = p.rows; column_step = p.column_step; row_step = p.row_step } in r) (name_same p.cell)

  cell_writable : (i : ℕ) (p : CellPart) → ((j : ℕ) (c : CellPart) → slice_get l.design.cells j ≡ Some c → IsWritableCell l.design c) → slice_get m.design.cells i ≡ Some p → IsWritableCell m.design p
  cell_writable i p each at =
      let c = at_too m.design.cells l.design.cells i p x.design.count at in
      let s = x.design.cells i c.0 p c.1 at in
      let fine = each i c.0 c.1 in
      record {
        name = subst (λ (n : List ℕ). IsNamed n) (sym s.name) fine.name;
        refs = subst (λ (ps : List Place). All (λ q. FitsReference (ref_of m.design q)) ps) (sym s.places)
            (λ k q lt. subst (λ (r : Ref). FitsReference r) (sym (ref_same (get_or c.0.places.items k q))) (fine.refs k q lt));
      }

  pub staged_fits : HeightLaw → FitsStream l → FitsStream m
  staged_fits heights fits = record {
    room = record {
      heading = subst (λ (h : Header). IsHeading (heading_of h)) (sym x.header) fits.room.heading;
      count = ap (λ (ds : List (List ℕ)). length ds) x.dates ∙ fits.room.count ∙ sym x.design.count;
      dates = subst (λ (ds : List (List ℕ)). All (IsData 24) ds) (sym x.dates) fits.room.dates;
      each = λ i p at. cell_writable i p fits.room.each at;
    };
    names = λ i j a b same. fits.names i j (reached_back stages (plain l.design) (plain m.design) x.design.staged i a) (reached_back stages (plain l.design) (plain m.design) x.design.staged j b)
        (sym (name_same i) ∙ same ∙ name_same j);
    heights = heights m.design x.design.sound;
  }

pub fits_law : HeightLaw → StagedFitsLaw
fits_law heights stages l m fits x = staged_fits stages l m x heights fits

-- ---- the flat selections

pub shows_law : HeightLaw → UnreadLaw → StagedLaw → ShowsSelectionsLaw
shows_law heights unread staged stages l m turns x =
    let d = plain l.design in
    let e = plain m.design in
    let lower : IsHeight d (height_at m.design) = λ cell k p placed. heights m.design x.design.sound cell k p ((staged_places stages d e x.design.staged cell k p).1 placed) in
    record {
      top = x.design.top;
      each = λ i s at q. staged d e (height_at m.design) stages lower turns x.design.staged i s at q;
      unread = λ name free. (unread d e stages name x.design.staged free).1;
    }
