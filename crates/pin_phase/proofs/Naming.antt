-- The tags of nets, from texts, lines and globals.
use Rattle.std.proofs.Common.{◌≡◌, ◌⊎◌, inl, inr, ℕ, zero, suc, ◌<◌, true, List, [], ◌∷◌, Some, map, slice_get, refl, sym, ◌∙◌, ap, subst, arith}
use Rattle.base_laws.proofs.Items.{map_to}
use Rattle.geo_base.specs.Layers.{is_same_key}
use Rattle.geo_base.specs.declared.layer.LayerKey.{LayerKey}
use Rattle.geo_base.specs.declared.shapes.Point.{Point}
use Rattle.cell_graph.proofs.Bridge.{part_of}
use Rattle.cell_graph.specs.declared.cells.CellPart.{CellPart}
use Rattle.cell_graph.specs.declared.cells.RawText.{RawText}
use Rattle.cell_graph.specs.Linked.{Linked, cell_at, plain, plain_cell, plain_text}
use Rattle.flat_laws.proofs.Items.{items_sound}
use Rattle.flat_layout.specs.Layout.{Design, Some_of, Text}
use Rattle.flat_layout.specs.Layout as flat
use Rattle.flat_layout.specs.Nets.{AreNets, IsItemLink, NetHolds, Tables}
use Rattle.flat_layout.specs.Pins.{IsNodeTag, IsTag}
use Rattle.flat_layout.specs.Regions.{At, Ground, Label, Node, Wiring}
use Rattle.flat_layout.specs.Plane.{IsCorner}
use Rattle.plain_netlist.proofs.Links.{single}
use Rattle.net_link_laws.specs.declared.piece.NetPiece.{NetPiece}
use Rattle.pin_phase.specs.Corners.{AreAtCorners, IsPieceOf}
use Rattle.pin_phase.specs.Lines.{label}
use Rattle.pin_phase.specs.Sets.{Adds, HaveNone, OfSome}
use Rattle.pin_phase.specs.Tagged.{AreTags, AreTextsOf, IsGlobalTag, IsLineTag, IsRawTag}
use Rattle.pin_phase.specs.declared.lines.TextLine.{TextLine}
use Rattle.pin_phase.proofs.Added.{added_as}

pub same_key : (a b : LayerKey) → is_same_key a b ≡ true → a ≡ b
same_key a b h =
    let x : a.layer ≡ b.layer = grind arith in
    let y : a.datatype ≡ b.datatype = grind arith in
    ap (λ (v : ℕ). let k : LayerKey = record { layer = v; datatype = a.datatype } in k) x ∙ ap (λ (v : ℕ). let k : LayerKey = record { layer = b.layer; datatype = v } in k) y

pub own_key : (a b : LayerKey) → a ≡ b → is_same_key a b ≡ true
own_key a b e = subst (λ (k : LayerKey). is_same_key a k ≡ true) e (grind arith)

-- what holds a node is a net of the cell
pub held_in : (d : Design) (w : Wiring) (t : Tables) (cell x : ℕ) (n : Node) → AreNets d w t cell (t.nets cell) → NetHolds d t cell x n → x < (t.nets cell).count
held_in d w t cell x n nets h = nets.below h.index x h.is_of.numbered

pub pieces_in : (d : Design) (w : Wiring) (t : Tables) (cell c : ℕ) (at : Point) (pieces : List NetPiece) → AreNets d w t cell (t.nets cell) → AreAtCorners d t cell c at pieces → (x : ℕ) → IsPieceOf pieces x → x < (t.nets cell).count
pieces_in d w t cell c at pieces nets are x h = let k = (are x).0 h in held_in d w t cell x (At c k.square) nets k.holds

-- the tags of a line's pieces
pub line_tags : (d : Design) (t : Tables) (cell : ℕ) (text : RawText) (line : TextLine) (pieces : List NetPiece) (string : List ℕ) (old new : List (List (List ℕ))) → is_same_key line.key text.key ≡ true → string ≡ text.text.items
    → AreAtCorners d t cell line.conductor text.at pieces → Adds (λ (x : ℕ) (s : List ℕ). IsPieceOf pieces x × (s ≡ string)) old new → Adds (IsLineTag d t cell text line) old new
line_tags d t cell text line pieces string old new key same are h =
    added_as (λ (x : ℕ) (s : List ℕ). IsPieceOf pieces x × (s ≡ string)) (IsLineTag d t cell text line) old new (λ x s. (
      (λ e. record { key = same_key line.key text.key key; corner = (are x).0 e.0; string = e.1 ∙ same }),
      (λ g. ((are x).1 g.corner, g.string ∙ sym same)),
    )) h

-- a node is in one net
pub one_global : (d : Design) (w : Wiring) (t : Tables) (cell g x y : ℕ) → AreNets d w t cell (t.nets cell) → NetHolds d t cell x (Ground g) → NetHolds d t cell y (Ground g) → x ≡ y
one_global d w t cell g x y nets h k =
    let link : IsItemLink d w t cell h.item k.item = record {
      from = items_sound d w t cell (t.nets cell) nets h.index h.item h.is_of.listed;
      to = items_sound d w t cell (t.nets cell) nets k.index k.item k.is_of.listed;
      one = Ground g;
      other = Ground g;
      held = h.holds;
      others = k.holds;
      touch = refl;
    } in
    (nets.joined h.index k.index h.item k.item x y h.is_of k.is_of).1 (single (IsItemLink d w t cell) h.item k.item link)

pub global_tags : (d : Design) (w : Wiring) (t : Tables) (cell g net : ℕ) (tag name : List ℕ) (old new : List (List (List ℕ))) → AreNets d w t cell (t.nets cell) → NetHolds d t cell net (Ground g) → tag ≡ name
    → Adds (λ (x : ℕ) (s : List ℕ). (x ≡ net) × (s ≡ tag)) old new → Adds (IsGlobalTag d t cell g name) old new
global_tags d w t cell g net tag name old new nets holds same h =
    added_as (λ (x : ℕ) (s : List ℕ). (x ≡ net) × (s ≡ tag)) (IsGlobalTag d t cell g name) old new (λ x s. (
      (λ e. (subst (λ y. NetHolds d t cell y (Ground g)) (sym e.0) holds, e.1 ∙ same)),
      (λ k. (one_global d w t cell g x net nets k.0 holds, k.1 ∙ sym same)),
    )) h

some_at : {A B : Type 0} (P : B → Type 0) (f : A → B) (xs : List A) (j : ℕ) (a : A) → slice_get xs j ≡ Some a → P (f a) → Some_of P (map f xs)
some_at P f [] j a at h = absurd (let z : ⊥ = cc in z)
some_at {A} {B} P f (x ∷ xs) zero a at h = inl (subst (λ (y : A). P (f y)) (let e : Some a ≡ Some x = sym at in let g : a ≡ x = cc in g) h)
some_at P f (x ∷ xs) (suc j) a at h = inr (some_at P f xs j a at h)

at_some : {A B : Type 0} (P : B → Type 0) (f : A → B) (xs : List A) → Some_of P (map f xs) → (j : ℕ) × (a : A) × (slice_get xs j ≡ Some a) × P (f a)
at_some P f [] h = absurd h
at_some P f (x ∷ xs) (inl e) = (0, x, refl, e)
at_some P f (x ∷ xs) (inr h) = let r = at_some P f xs h in (suc r.0, r.1, r.2, r.3)

-- the texts of a design's cell
pub texts_of : (d : Linked) (cell : ℕ) (part : CellPart) (texts : List RawText) → cell_at d cell ≡ Some part → texts ≡ part.texts.items → AreTextsOf (plain d) cell texts
texts_of d cell part texts at same text = (
  (λ h.
      let m = part_of d cell h.0 h.1 in
      let one : m.0 ≡ part = (let e : Some m.0 ≡ Some part = sym m.1 ∙ at in cc) in
      let there : Some_of (λ t. t ≡ text) (map plain_text part.texts.items) = subst (λ (p : CellPart). Some_of (λ t. t ≡ text) (map plain_text p.texts.items)) one (subst (λ (c : flat.Cell). Some_of (λ t. t ≡ text) c.texts) (sym m.2) h.2) in
      let r = at_some (λ t. t ≡ text) plain_text part.texts.items there in
      (r.0, r.1, subst (λ (l : List RawText). slice_get l r.0 ≡ Some r.1) (sym same) r.2, r.3)),
  (λ r. (plain_cell part, map_to plain_cell d.cells cell part at, some_at (λ t. t ≡ text) plain_text part.texts.items r.0 r.1 (subst (λ (l : List RawText). slice_get l r.0 ≡ Some r.1) same r.2) r.3)),
)

module _ (d : Design) (w : Wiring) (t : Tables) (cell : ℕ) (texts : List RawText) (lines : List TextLine) (are : AreTextsOf d cell texts) (wired : map label lines ≡ w.labels) where
  abbrev ByText : ℕ → List ℕ → Type 0
  ByText x s = OfSome (λ i text. IsRawTag d t cell lines text) texts x s

  abbrev ByGlobal : ℕ → List ℕ → Type 0
  ByGlobal x s = OfSome (IsGlobalTag d t cell) w.globals x s

  text_tag : (x : ℕ) (s : List ℕ) → ByText x s → IsTag d w t cell x s
  text_tag x s h =
      let raw = h.1 in let line = h.3.1 in let k = h.3.3 in
      let text : Text = plain_text raw in
      let on : Some_of (λ l. (l.key ≡ text.key) × (l.conductor ≡ line.conductor)) w.labels =
      subst (λ (ls : List Label). Some_of (λ l. (l.key ≡ text.key) × (l.conductor ≡ line.conductor)) ls) wired (some_at (λ (l : Label). (l.key ≡ text.key) × (l.conductor ≡ line.conductor)) label lines h.3.0 line h.3.2 (k.key, refl)) in
      (At line.conductor k.corner.square, k.corner.holds, (text, record { has = (are text).1 (h.0, raw, h.2, refl); line = on; corner = k.corner.corner }, sym k.string))

  global_tag : (x : ℕ) (s : List ℕ) → ByGlobal x s → IsTag d w t cell x s
  global_tag x s h = (Ground h.0, h.3.0, h.2 ∙ ap Some (sym h.3.1))

  by_node : (x : ℕ) (s : List ℕ) (n : Node) → NetHolds d t cell x n → IsNodeTag d w cell n s → ByText x s ⊎ ByGlobal x s
  by_node x s (Ground g) holds tag = inr (g, s, tag, (holds, refl))
  by_node x s (At c q) holds tag =
      let on = tag.1 in
      let raw = (are tag.0).0 on.has in
      let same : plain_text raw.1 ≡ tag.0 = raw.3 in
      let l = at_some (λ (l : Label). (l.key ≡ tag.0.key) × (l.conductor ≡ c)) label lines (subst (λ (ls : List Label). Some_of (λ l. (l.key ≡ tag.0.key) × (l.conductor ≡ c)) ls) (sym wired) on.line) in
      let is : IsLineTag d t cell raw.1 l.1 x s = record {
        key = l.3.0 ∙ sym (ap (λ (u : Text). u.key) same);
        corner = record {
          square = q;
          corner = subst (λ (u : Text). IsCorner u.at q) (sym same) on.corner;
          holds = subst (λ e. NetHolds d t cell x (At e q)) (sym l.3.1) holds;
        };
        string = sym tag.2 ∙ sym (ap (λ (u : Text). u.string) same);
      } in
      inl (raw.0, raw.1, raw.2, (l.0, l.1, l.2, is))

  pub all_tags : (none old new : List (List (List ℕ))) → HaveNone (t.nets cell).count none → Adds ByText none old → Adds ByGlobal old new → AreTags d w t cell new
  all_tags none old new h f g = record {
    count = g.count ∙ (f.count ∙ h.count);
    each = λ x s. (
      (λ m. elim ((g.each x s).0 m) [
        | inl k ↦ elim ((f.each x s).0 k) [ inl z ↦ absurd (h.none x s z) | inr e ↦ text_tag x s e ]
        | inr e ↦ global_tag x s e
      ]),
      (λ m. elim (by_node x s m.0 m.1 m.2) [ inl e ↦ (g.each x s).1 (inl ((f.each x s).1 (inr e))) | inr e ↦ (g.each x s).1 (inr e) ]),
    );
  }
