-- The chosen regions of the cells' own, as a further layer, are the flat selection.
use Rattle.std.proofs.Common.{◌≡◌, ◌↔◌, inl, inr, ℕ, ℤ, pos, negsuc, List, [], ◌∷◌, refl, sym, subst}
use Rattle.flat_layout.specs.Layers.{Formula, Input, Empty, Binary, Sized, inputs, Combines, InFlat}
use Rattle.flat_layout.specs.Layout.{Design, Some_of, Leads, Takes, InFlatInput, IsReached, IsHeight}
use Rattle.flat_layout.specs.Plane.{IsSized}
use Rattle.geo_base.specs.Motions.{moved_square}
use Rattle.geo_base.specs.declared.layer.LayerKey.{LayerKey}
use Rattle.geo_base.specs.declared.layer.Op.{Op}
use Rattle.geo_base.specs.declared.layer.Op.TheVariants.{And, Or, Not, Xor}
use Rattle.geo_base.specs.declared.shapes.Square.{Square}
use Rattle.flat_laws.proofs.Cover.{reached_below}
use Rattle.flat_laws.proofs.Names.{more_left, more_right}
use Rattle.select_laws.specs.Layered.{IsSameElse, IsLayered}
use Rattle.select_laws.specs.Selects.{Select, IsSelected, sight}
use Rattle.select_laws.specs.SelectLaws.{OthersLaw, SelectedLaw}
use Rattle.flat_layout.specs.Parts.{Joint}
use Rattle.select_laws.specs.Whole.{RegionAt, IsWhole, IsOwnRegion, ArePartedRegions}
use Rattle.flat_layout.specs.Gates.{Geometry, IsSoundGeometry}
use Rattle.flat_laws.proofs.Joints.{region_has, region_back, region_on}
use Rattle.select_laws.proofs.Kept.{region_down}
use Rattle.select_laws.proofs.Once.{each_once, top_whole, whole_along}
use Rattle.select_laws.proofs.Choice.{reads_region, same_choice}

combined : (op : Op) (A B C D : Type 0) → A ↔ C → B ↔ D → Combines op A B → Combines op C D
combined And A B C D f g h = (f.0 h.0, g.0 h.1)
combined Or A B C D f g (inl h) = inl (f.0 h)
combined Or A B C D f g (inr h) = inr (g.0 h)
combined Not A B C D f g h = (f.0 h.0, λ k. h.1 (g.1 k))
combined Xor A B C D f g (inl h) = inl (f.0 h.0, λ k. h.1 (g.1 k))
combined Xor A B C D f g (inr h) = inr (g.0 h.0, λ k. h.1 (f.1 k))

sized_same : (A B : Square → Type 0) (by : ℤ) (q : Square) → ((z : Square) → A z → B z) → IsSized by A q → IsSized by B q
sized_same A B (pos n) q same h = record { square = h.square; within = h.within; has = same h.square h.has }
sized_same A B (negsuc n) q same h = λ z near. same z (h z near)

pub leads_of : (d : Design) (from : ℕ) (ks : List ℕ) (to : ℕ) (s q : Square) → Takes d from ks to s q → Leads d from ks to
leads_of d from [] to s q h = h.0
leads_of d from (k ∷ ks) to s q h = (h.0, h.1, leads_of d h.0.cell ks to s h.2 h.3)

module _ (d e : Design) (key : LayerKey) (same : IsSameElse d e key) where
  pub takes_down : (from : ℕ) (ks : List ℕ) (to : ℕ) (s q : Square) → Takes e from ks to s q → Takes d from ks to s q
  takes_down from [] to s q h = h
  takes_down from (k ∷ ks) to s q h = (h.0, (same.places from k h.0).0 h.1, h.2, takes_down h.0.cell ks to s h.2 h.3, h.4)

  pub takes_up : (from : ℕ) (ks : List ℕ) (to : ℕ) (s q : Square) → Takes d from ks to s q → Takes e from ks to s q
  takes_up from [] to s q h = h
  takes_up from (k ∷ ks) to s q h = (h.0, (same.places from k h.0).1 h.1, h.2, takes_up h.0.cell ks to s h.2 h.3, h.4)

  input_same : (other : LayerKey) → (other ≡ key → ⊥) → (cell : ℕ) (q : Square) → InFlatInput e cell other q ↔ InFlatInput d cell other q
  input_same other not cell q = (
    (λ h. record { path = h.path; end = h.end; square = h.square; takes = takes_down cell h.path h.end h.square q h.takes; own = (same.own h.end other h.square not).0 h.own }),
    (λ h. record { path = h.path; end = h.end; square = h.square; takes = takes_up cell h.path h.end h.square q h.takes; own = (same.own h.end other h.square not).1 h.own }),
  )

  pub name_same : (name : Formula) → (Some_of (λ k. k ≡ key) (inputs name) → ⊥) → (cell : ℕ) (q : Square) → InFlat e cell name q ↔ InFlat d cell name q
  name_same (Input other) not cell q = input_same other (λ h. not (inl h)) cell q
  name_same Empty not cell q = ((λ h. h), (λ h. h))
  name_same (Binary op a b) not cell q =
      let one = name_same a (λ h. not (more_left (λ k. k ≡ key) (inputs a) (inputs b) h)) cell q in
      let two = name_same b (λ h. not (more_right (λ k. k ≡ key) (inputs a) (inputs b) h)) cell q in (
        (λ h. combined op _ _ _ _ one two h),
        (λ h. combined op _ _ _ _ (one.1, one.0) (two.1, two.0) h),
      )
  name_same (Sized by a) not cell q = (
    (λ h. sized_same (InFlat e cell a) (InFlat d cell a) by q (λ z. (name_same a not cell z).0) h),
    (λ h. sized_same (InFlat d cell a) (InFlat e cell a) by q (λ z. (name_same a not cell z).1) h),
  )

pub others : OthersLaw
others d e key name same not cell q = name_same d e key same name not cell q

-- along a path it is the same whether a whole region is chosen
pub chosen_along : (d : Design) (x : Select) (path : List ℕ) (cell end : ℕ) (s q : Square) → IsReached d cell → Takes d cell path end s q → IsWhole d x.joint (sight x) end s
    → IsSelected d x cell q ↔ IsSelected d x end s
chosen_along d x [] cell end s q reached takes whole =
    let e : IsSelected d x cell q ≡ IsSelected d x end s = cc in ((λ h. subst (λ (A : Type 0). A) e h), (λ h. subst (λ (A : Type 0). A) (sym e) h))
chosen_along d x (k ∷ ks) cell end s q reached takes whole =
    let below = reached_below d cell k takes.0 reached takes.1 in
    let rest = chosen_along d x ks takes.0.cell end s takes.2 below takes.3 whole in
    let there = whole_along d x.joint (sight x) (reads_region x) ks takes.0.cell end s takes.2 below takes.3 whole in
    let one = same_choice d x cell k takes.0 takes.2 reached takes.1 there in (
      (λ h. rest.0 (one.0 (subst (λ v. IsSelected d x cell v) (sym takes.4) h))),
      (λ h. subst (λ v. IsSelected d x cell v) takes.4 (one.1 (rest.1 h))),
    )

module _ (d : Design) (j : Joint) (g : Geometry) (sound : IsSoundGeometry g) where
  -- each square of the image of a whole region is the image of one of its squares, by the same path
  pub pull : (path : List ℕ) (cell end : ℕ) (s place q : Square) → IsReached d cell → Takes d cell path end s place → IsWhole d j g end s → RegionAt d j g cell place q
      → (c : Square) × Takes d cell path end c q × RegionAt d j g end s c
  pull [] cell end s place q reached takes whole region =
      (q, (takes.0, refl), subst (λ c. RegionAt d j g c s q) takes.0 (subst (λ v. RegionAt d j g cell v q) (sym takes.1) region))
  pull (k ∷ ks) cell end s place q reached takes whole region =
      let below = reached_below d cell k takes.0 reached takes.1 in
      let there = whole_along d j g sound ks takes.0.cell end s takes.2 below takes.3 whole in
      let r = region_down d j g sound cell k takes.0 takes.2 reached takes.1 there q (subst (λ v. RegionAt d j g cell v q) (sym takes.4) region) in
      let rest = pull ks takes.0.cell end s takes.2 r.0 below takes.3 whole r.2 in
      (rest.0, (takes.0, takes.1, r.0, rest.1, r.1), rest.2)

  pub whole_on : (cell : ℕ) (s c : Square) → IsWhole d j g cell s → RegionAt d j g cell s c → IsWhole d j g cell c
  whole_on cell s c h region = record {
    is = region_has j (InFlat d cell g.region) s c region;
    calm = λ q k. h.calm q (record { square = k.square; in_part = region_on j (InFlat d cell g.region) s c k.square region k.in_part; around = k.around });
  }

  pub own_on : (cell : ℕ) (s c : Square) → IsOwnRegion d j g cell s → RegionAt d j g cell s c → IsOwnRegion d j g cell c
  own_on cell s c h region = record {
    whole = whole_on cell s c h.whole region;
    new = λ b. h.new (record { number = b.number; place = b.place; square = b.square; placed = b.placed; whole = b.whole; image = region_on j (InFlat d cell g.region) s c (moved_square b.place.motion b.square) region b.image });
  }

module _ (d e : Design) (key : LayerKey) (height : ℕ → ℕ) (x : Select) (lower : IsHeight d height) (parted : ArePartedRegions d x.joint (sight x)) (layered : IsLayered d e key x) where
  top_reached : IsReached d d.top
  top_reached = record { path = []; leads = refl }

  flat_of : (q : Square) → InFlatInput e d.top key q → IsSelected d x d.top q
  flat_of q h =
      let takes = takes_down d e key layered.same d.top h.path h.end h.square q h.takes in
      let reached : IsReached d h.end = record { path = h.path; leads = leads_of d d.top h.path h.end h.square q takes } in
      let own = (layered.new h.end h.square reached).0 h.own in
      (chosen_along d x h.path d.top h.end h.square q top_reached takes own.own.whole).1 own.selected

  covers_of : (q : Square) → IsSelected d x d.top q → InFlatInput e d.top key q
  covers_of q h =
      let sound = reads_region x in
      let whole = top_whole d x.joint (sight x) height lower q h.is in
      let f = (each_once d x.joint (sight x) height sound lower parted d.top q top_reached whole).0 in
      let image = region_back x.joint (InFlat d d.top x.region) q f.place f.image in
      let c = pull d x.joint (sight x) sound f.path d.top f.end f.square f.place q top_reached f.takes f.own.whole image in
      let own = own_on d x.joint (sight x) sound f.end f.square c.0 f.own c.2 in
      let reached : IsReached d f.end = record { path = f.path; leads = leads_of d d.top f.path f.end c.0 q c.1 } in
      let here = (chosen_along d x f.path d.top f.end c.0 q top_reached c.1 own.whole).0 h in
      record {
        path = f.path;
        end = f.end;
        square = c.0;
        takes = takes_up d e key layered.same d.top f.path f.end c.0 q c.1;
        own = (layered.new f.end c.0 reached).1 (record { own = own; selected = here });
      }

pub selected : SelectedLaw
selected d e key height x lower parted layered q = (
  (λ h. flat_of d e key height x lower parted layered q (subst (λ t. InFlatInput e t key q) layered.same.top h)),
  (λ h. subst (λ t. InFlatInput e t key q) (sym layered.same.top) (covers_of d e key height x lower parted layered q h)),
)
