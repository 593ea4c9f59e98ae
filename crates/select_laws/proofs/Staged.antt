-- Selections one after the other.
use Rattle.std.proofs.Common.{◌≡◌, ◌↔◌, inl, inr, ℕ, zero, suc, List, [], ◌∷◌, Some, slice_get, refl, sym, ◌∙◌, ap, subst}
use Rattle.flat_layout.specs.Layers.{Input, inputs, InFlat}
use Rattle.flat_layout.specs.Layout.{Design, InFlatInput, IsHeight, Some_of}
use Rattle.flat_layout.specs.Parts.{Counts, IsCloseTo}
use Rattle.geo_base.specs.declared.layer.LayerKey.{LayerKey}
use Rattle.geo_base.specs.declared.shapes.Square.{Square}
use Rattle.plain_netlist.proofs.Links.{single, along}
use Rattle.flat_laws.proofs.Names.{more_left, more_right}
use Rattle.flat_layout.specs.Parts.{Joint, AreAdjacent, InRegion}
use Rattle.select_laws.specs.Selects.{Ask, Interacting, Overlapping, Inside, Outside, WithArea, Has, Select, IsSelected}
use Rattle.select_laws.specs.Layered.{IsLayered}
use Rattle.select_laws.specs.Staged.{Stage, IsStaged, IsKeyOf, Reads, IsBefore, UnreadLaw, StagedLaw}
use Rattle.select_laws.proofs.Choice.{on_side}
use Rattle.select_laws.proofs.Kept.{in_close}
use Rattle.select_laws.proofs.Layered.{name_same, selected}

-- what is asked is asked of sets of squares alone
module _ (A B : Square → Type 0) (same : (q : Square) → A q ↔ B q) where
  pub region_same : (j : Joint) (s q : Square) → InRegion j A s q → InRegion j B s q
  region_same j s q h = record {
    from = (same s).0 h.from;
    joined = along (AreAdjacent j A) (AreAdjacent j B) (λ v. v) (λ a b k. single (AreAdjacent j B) a b (record { from = (same a).0 k.from; to = (same b).0 k.to; edge = k.edge })) s q h.joined;
  }

  pub close_same : (q : Square) → IsCloseTo A q → IsCloseTo B q
  close_same q h = record { square = h.square; in_part = (same h.square).0 h.in_part; around = h.around }

  counts_same : (n : ℕ) → Counts A n → Counts B n
  counts_same n c = record { all = c.all; apart = c.apart; each = λ q. ((λ b. (c.each q).0 ((same q).1 b)), (λ l. (same q).0 ((c.each q).1 l))); count = c.count }

-- of the other squares only those in the region or beside it count
has_to : (ask : Ask) (A B O P : Square → Type 0) → ((q : Square) → A q ↔ B q) → ((q : Square) → IsCloseTo B q → O q ↔ P q) → Has ask A O → Has ask B P
has_to Interacting A B O P same others h = let c = close_same A B same h.0 h.1 in (h.0, c, (others h.0 c).0 h.2)
has_to Overlapping A B O P same others h = let b = (same h.0).0 h.1 in (h.0, b, (others h.0 (in_close B h.0 b)).0 h.2)
has_to Inside A B O P same others h = λ q b. (others q (in_close B q b)).0 (h q ((same q).1 b))
has_to Outside A B O P same others h = λ q b o. h q ((same q).1 b) ((others q (in_close B q b)).1 o)
has_to (WithArea low high) A B O P same others h = (h.0, counts_same A B same h.0 h.1, h.2, h.3)

turn : (A B : Square → Type 0) → ((q : Square) → A q ↔ B q) → (q : Square) → B q ↔ A q
turn A B same q = ((same q).1, (same q).0)

pub has_same : (ask : Ask) (A B O P : Square → Type 0) → ((q : Square) → A q ↔ B q) → ((q : Square) → IsCloseTo B q → O q ↔ P q) → Has ask A O ↔ Has ask B P
has_same ask A B O P same others = (
  has_to ask A B O P same others,
  has_to ask B A P O (turn A B same) (λ q c. let o = others q (close_same A B same q c) in (o.1, o.0)),
)

module _ (d e : Design) (x : Select) (cell : ℕ) (region : (q : Square) → InFlat e cell x.region q ↔ InFlat d cell x.region q) (other : (q : Square) → InFlat e cell x.other q ↔ InFlat d cell x.other q) where
  abbrev E : Square → Type 0
  E = InFlat e cell x.region

  abbrev D : Square → Type 0
  D = InFlat d cell x.region

  pub selected_same : (s : Square) → IsSelected e x cell s ↔ IsSelected d x cell s
  selected_same s =
      let way : (q : Square) → InRegion x.joint E s q ↔ InRegion x.joint D s q = λ q. (region_same E D region x.joint s q, region_same D E (turn E D region) x.joint s q) in
      let has = has_same x.ask (InRegion x.joint E s) (InRegion x.joint D s) (InFlat e cell x.other) (InFlat d cell x.other) way (λ z near. other z) in
      let side = on_side x.side (Has x.ask (InRegion x.joint E s) (InFlat e cell x.other)) (Has x.ask (InRegion x.joint D s) (InFlat d cell x.other)) has in (
        (λ h. record { is = (region s).0 h.is; chosen = side.0 h.chosen }),
        (λ h. record { is = (region s).1 h.is; chosen = side.1 h.chosen }),
      )

-- what isn't read
pub unread : UnreadLaw
unread d e [] name staged free = (ap (λ (x : Design). x.top) (sym staged), λ cell q. ((λ h. subst (λ x. InFlat x cell name q) (sym staged) h), (λ h. subst (λ x. InFlat x cell name q) staged h)))
unread d e (s ∷ ss) name staged free =
    let m = staged.0 in
    let rest = unread m e ss name staged.3 (λ key l. free key (inr l)) in
    let one = name_same d m s.key staged.1.same name (free s.key (inl refl)) in
    (rest.0 ∙ staged.1.same.top, λ cell q. ((λ h. (one cell q).0 ((rest.1 cell q).0 h)), (λ h. (rest.1 cell q).1 ((one cell q).1 h))))

lower_there : (d m : Design) (height : ℕ → ℕ) (s : Stage) → IsLayered d m s.key s.select → IsHeight d height → IsHeight m height
lower_there d m height s layered lower cell k p placed = lower cell k p ((layered.same.places cell k p).0 placed)

-- a selection stands as it was found
stands : (d e : Design) (height : ℕ → ℕ) (s : Stage) (ss : List Stage) → IsHeight d height → IsBefore s ss → IsStaged d (s ∷ ss) e → (q : Square) → InFlatInput e e.top s.key q ↔ IsSelected e s.select e.top q
stands d e height s ss lower before staged q =
    let m = staged.0 in
    let x = s.select in
    let none = λ (key : LayerKey) (l : IsKeyOf (s ∷ ss) key) (r : Reads s key). not_read key l r in
    let found = selected d m s.key height x lower staged.2 staged.1 q in
    let key = unread m e ss (Input s.key) staged.3 (λ k l r. off k l r) in
    let region = unread d e (s ∷ ss) x.region staged (λ k l r. none k l (more_left (λ i. i ≡ k) (inputs x.region) (inputs x.other) r)) in
    let other = unread d e (s ∷ ss) x.other staged (λ k l r. none k l (more_right (λ i. i ≡ k) (inputs x.region) (inputs x.other) r)) in
    let same = selected_same d e x e.top (λ z. region.1 e.top z) (λ z. other.1 e.top z) q in (
      (λ h.
          let at_m : InFlatInput m m.top s.key q = subst (λ t. InFlatInput m t s.key q) key.0 ((key.1 e.top q).0 h) in
          same.1 (subst (λ t. IsSelected d x t q) (sym region.0) (found.0 at_m))),
      (λ h.
          let at_d : IsSelected d x d.top q = subst (λ t. IsSelected d x t q) region.0 (same.0 h) in
          (key.1 e.top q).1 (subst (λ t. InFlatInput m t s.key q) (sym key.0) (found.1 at_d))),
    )
  where
    not_read : (key : LayerKey) → IsKeyOf (s ∷ ss) key → Reads s key → ⊥
    not_read key (inl e) r = before.own (subst (λ k. Reads s k) (sym e) r)
    not_read key (inr l) r = before.unread key l r

    off : (k : LayerKey) → IsKeyOf ss k → Some_of (λ i. i ≡ k) (s.key ∷ []) → ⊥
    off k l (inl e) = before.apart (subst (λ i. IsKeyOf ss i) (sym e) l)
    off k l (inr h) = h

pub staged_law : StagedLaw
staged_law d e height [] lower turns staged i s at q = absurd (none i at)
  where
    none : (i : ℕ) → slice_get [] i ≡ Some s → ⊥
    none zero a = cc
    none (suc n) a = cc
staged_law d e height (t ∷ ts) lower turns staged zero s at q =
    let same : t ≡ s = cc in
    subst (λ v. InFlatInput e e.top v.key q ↔ IsSelected e v.select e.top q) same (stands d e height t ts lower turns.0 staged q)
staged_law d e height (t ∷ ts) lower turns staged (suc i) s at q =
    staged_law staged.0 e height ts (lower_there d staged.0 height t staged.1 lower) turns.1 staged.3 i s at q
