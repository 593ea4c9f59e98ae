-- Each whole region is the image of one region of a cell's own along one path.
use Rattle.std.proofs.Common.{◌≡◌, inl, inr, ℕ, zero, suc, ◌<◌, List, [], ◌∷◌, refl, sym, subst, arith}
use Rattle.std.proofs.Math.Decide.{ℕ_discrete}
use Rattle.flat_layout.specs.Gates.{Geometry, IsSoundGeometry}
use Rattle.flat_layout.specs.Layers.{inputs, reach, InFlat, IsLone}
use Rattle.flat_layout.specs.Layout.{Place, Design, IsPlaced, Takes, IsReached, IsHeight}
use Rattle.geo_base.specs.Motions.{moved_square}
use Rattle.geo_base.specs.declared.shapes.Square.{Square}
use Rattle.flat_laws.proofs.Paths.{same_place}
use Rattle.flat_laws.proofs.Lone.{lone, near_disturbed}
use Rattle.flat_laws.proofs.Cover.{reached_below}
use Rattle.flat_laws.proofs.Moves.{wider}
use Rattle.flat_laws.proofs.Names.{fewer}
use Rattle.flat_laws.proofs.Shut.{calm_top}
use Rattle.flat_layout.specs.Parts.{Joint}
use Rattle.select_laws.specs.RegionLaws.{OneRegionPlaceLaw, EachRegionLaw, TopRegionLaw}
use Rattle.select_laws.specs.Whole.{RegionAt, IsWhole, IsWholeBelow, IsOwnRegion, IsFoundRegion, ArePartedRegions}
use Rattle.flat_laws.proofs.Joints.{region_has, region_self, region_on, region_between}
use Rattle.select_laws.proofs.Kept.{close_in, squares, region_up, region_down, still}

-- others can't make a whole region's square alone
pub not_lone : (d : Design) (j : Joint) (g : Geometry) (cell : ℕ) (s : Square) → IsSoundGeometry g → IsWhole d j g cell s → IsLone d cell g.region s → ⊥
not_lone d j g cell s sound whole h =
    let near = near_disturbed d cell g.region s h in
    whole.calm s (close_in d j g cell s s (region_self j (InFlat d cell g.region) s whole.is)) (record {
      square = near.0;
      within = wider (reach g.region) g.reach near.0 s sound.reach near.1;
      disturbed = fewer d (inputs g.region) g.keys cell near.0 sound.keys near.2;
    })

pub one_place : OneRegionPlaceLaw
one_place d j g cell s sound reached a b =
    elim (ℕ_discrete a.number b.number) [
      | yes e ↦ e
      | no not ↦
          let way = region_between j (InFlat d cell g.region) s (moved_square b.place.motion b.square) (moved_square a.place.motion a.square) b.image a.image in
          let r = region_down d j g sound cell b.number b.place b.square reached b.placed b.whole (moved_square a.place.motion a.square) way in
          let there = region_has j (InFlat d b.place.cell g.region) b.square r.0 r.2 in
          absurd (not_lone d j g a.place.cell a.square sound a.whole (lone d.way d g.region cell a.number b.number a.place b.place a.square r.0 reached a.placed b.placed not (sym r.1) there))
    ]

-- the image of a whole region along a path is whole
pub whole_along : (d : Design) (j : Joint) (g : Geometry) (sound : IsSoundGeometry g) (path : List ℕ) (cell end : ℕ) (s q : Square) → IsReached d cell → Takes d cell path end s q → IsWhole d j g end s → IsWhole d j g cell q
whole_along d j g sound [] cell end s q reached takes h = subst (λ c. IsWhole d j g c q) (sym takes.0) (subst (λ x. IsWhole d j g end x) takes.1 h)
whole_along d j g sound (k ∷ ks) cell end s q reached takes h =
    let below = whole_along d j g sound ks takes.0.cell end s takes.2 (reached_below d cell k takes.0 reached takes.1) takes.3 h in
    subst (λ x. IsWhole d j g cell x) takes.4 (still d j g sound cell k takes.0 takes.2 reached takes.1 below)

-- a region that comes through a placement
below_of : (d : Design) (j : Joint) (g : Geometry) (sound : IsSoundGeometry g) (cell : ℕ) (s : Square) (k : ℕ) (ks : List ℕ) (end : ℕ) (r q : Square) → IsReached d cell → (takes : Takes d cell (k ∷ ks) end r q) → RegionAt d j g cell s q → IsWhole d j g end r → IsWholeBelow d j g cell s
below_of d j g sound cell s k ks end r q reached takes image h = record {
  number = k;
  place = takes.0;
  square = takes.2;
  placed = takes.1;
  whole = whole_along d j g sound ks takes.0.cell end r takes.2 (reached_below d cell k takes.0 reached takes.1) takes.3 h;
  image = subst (λ x. RegionAt d j g cell s x) (sym takes.4) image;
}

unique : (d : Design) (j : Joint) (g : Geometry) (sound : IsSoundGeometry g) (fp gp : List ℕ) (cell : ℕ) (s : Square) → IsReached d cell
    → (fe : ℕ) (fs fq : Square) → Takes d cell fp fe fs fq → RegionAt d j g cell s fq → IsOwnRegion d j g fe fs
    → (ge : ℕ) (gs gq : Square) → Takes d cell gp ge gs gq → RegionAt d j g cell s gq → IsOwnRegion d j g ge gs
    → (gp ≡ fp) × RegionAt d j g fe fs gs
unfolding below_of
unique d j g sound [] [] cell s reached fe fs fq ft fi fg ge gs gq gt gi gg =
    let way = region_between j (InFlat d cell g.region) s fq gq fi gi in
    let one : RegionAt d j g cell fs gq = subst (λ x. RegionAt d j g cell x gq) (sym ft.1) way in
    let two : RegionAt d j g cell fs gs = subst (λ x. RegionAt d j g cell fs x) (sym gt.1) one in
    (refl, subst (λ c. RegionAt d j g c fs gs) ft.0 two)
unique d j g sound [] (k ∷ ks) cell s reached fe fs fq ft fi fg ge gs gq gt gi gg =
    let here : IsOwnRegion d j g cell fq = subst (λ c. IsOwnRegion d j g c fq) (sym ft.0) (subst (λ x. IsOwnRegion d j g fe x) ft.1 fg) in
    absurd (here.new (below_of d j g sound cell fq k ks ge gs gq reached gt (region_between j (InFlat d cell g.region) s fq gq fi gi) gg.whole))
unique d j g sound (k ∷ ks) [] cell s reached fe fs fq ft fi fg ge gs gq gt gi gg =
    let here : IsOwnRegion d j g cell gq = subst (λ c. IsOwnRegion d j g c gq) (sym gt.0) (subst (λ x. IsOwnRegion d j g ge x) gt.1 gg) in
    absurd (here.new (below_of d j g sound cell gq k ks fe fs fq reached ft (region_between j (InFlat d cell g.region) s gq fq gi fi) fg.whole))
unique d j g sound (k ∷ ks) (i ∷ js) cell s reached fe fs fq ft fi fg ge gs gq gt gi gg =
    let a = below_of d j g sound cell s k ks fe fs fq reached ft fi fg.whole in
    let b = below_of d j g sound cell s i js ge gs gq reached gt gi gg.whole in
    let e : k ≡ i = one_place d j g cell s sound reached a b in
    let place : gt.0 ≡ ft.0 = same_place d cell k gt.0 ft.0 (subst (λ n. IsPlaced d cell n gt.0) (sym e) gt.1) ft.1 in
    let rest : Takes d ft.0.cell js ge gs gt.2 = subst (λ (r : Place). Takes d r.cell js ge gs gt.2) place gt.3 in
    let image_g : RegionAt d j g cell s (moved_square ft.0.motion gt.2) = subst (λ (r : Place). RegionAt d j g cell s (moved_square r.motion gt.2)) place b.image in
    let way = region_between j (InFlat d cell g.region) s (moved_square ft.0.motion ft.2) (moved_square ft.0.motion gt.2) a.image image_g in
    let down = (squares d j g sound cell k ft.0 ft.2 reached ft.1 a.whole gt.2).0 way in
    let r = unique d j g sound ks js ft.0.cell ft.2 (reached_below d cell k ft.0 reached ft.1) fe fs ft.2 ft.3 (region_self j (InFlat d ft.0.cell g.region) ft.2 a.whole.is) fg ge gs gt.2 rest down gg in
    let paths : js ≡ ks = r.0 in
    (cc, r.1)

exists : (d : Design) (j : Joint) (g : Geometry) (sound : IsSoundGeometry g) (height : ℕ → ℕ) → IsHeight d height → ArePartedRegions d j g
    → (n cell : ℕ) (s : Square) → height cell < n → IsReached d cell → IsWhole d j g cell s → IsFoundRegion d j g cell s
exists d j g sound height linked parted zero cell s lt reached h = absurd (omega arith)
exists d j g sound height linked parted (suc n) cell s lt reached h =
    elim (parted cell s reached h) [
      | inl gate ↦ record { path = []; end = cell; square = s; place = s; takes = (refl, refl); image = region_self j (InFlat d cell g.region) s h.is; own = gate }
      | inr below ↦
          let down = linked cell below.number below.place below.placed in
          let f = exists d j g sound height linked parted n below.place.cell below.square (omega arith) (reached_below d cell below.number below.place reached below.placed) below.whole in
          record {
            path = below.number ∷ f.path;
            end = f.end;
            square = f.square;
            place = moved_square below.place.motion f.place;
            takes = (below.place, below.placed, f.place, f.takes, refl);
            image = region_on j (InFlat d cell g.region) s (moved_square below.place.motion below.square) (moved_square below.place.motion f.place) below.image
                (region_up d j g sound cell below.number below.place below.square reached below.placed below.whole f.place f.image);
            own = f.own;
          }
    ]

pub each_once : EachRegionLaw
each_once d j g height sound linked parted cell s reached settled =
    let lt : height cell < suc (height cell) = omega arith in
    let f = exists d j g sound height linked parted (suc (height cell)) cell s lt reached settled in
    (f, λ h. unique d j g sound f.path h.path cell s reached f.end f.square f.place f.takes f.image f.own h.end h.square h.place h.takes h.image h.own)

pub top_whole : TopRegionLaw
top_whole d j g height linked s h = record { is = h; calm = λ q c h. calm_top d height linked g.keys h.square h.disturbed }
