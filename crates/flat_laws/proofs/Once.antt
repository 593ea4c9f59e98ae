-- Each settled gate is the image of one listed gate along one path.
use Rattle.std.proofs.Common.{◌≡◌, ◌⊎◌, inl, inr, ℕ, zero, suc, ◌<◌, List, [], ◌∷◌, refl, sym, subst, arith}
use Rattle.std.proofs.Math.Decide.{ℕ_discrete}
use Rattle.flat_laws.specs.GateLaws.{OnePlaceLaw, GateLaw, TopLaw}
use Rattle.flat_layout.specs.Gates.{Geometry, IsSoundGeometry, InGate, IsSettled, IsGateBelow, IsListedGate, IsFound}
use Rattle.flat_layout.specs.Layers.{InFlat}
use Rattle.flat_layout.specs.Layout.{Place, Design, IsPlaced, Takes, IsReached, IsHeight}
use Rattle.flat_layout.specs.Parts.{Edges}
use Rattle.geo_base.specs.Motions.{moved_square}
use Rattle.geo_base.specs.declared.shapes.Square.{Square}
use Rattle.flat_laws.proofs.Paths.{same_place}
use Rattle.flat_laws.proofs.Calm.{top_calm}
use Rattle.flat_laws.proofs.Lone.{lone, lone_top}
pub use Rattle.flat_laws.proofs.Shut.{calm_top}
use Rattle.flat_laws.proofs.Cover.{reached_below}
use Rattle.flat_laws.proofs.Joints.{region_has, region_back, region_on, region_between, region_self}
use Rattle.flat_laws.proofs.Kept.{squares, gate_up, gate_down, still}

-- a gate is a region along edges
module _ (d : Design) (g : Geometry) (cell : ℕ) where
  abbrev Flat : Square → Type 0
  Flat = InFlat d cell g.region

  pub gate_flat : (s q : Square) → InGate d g cell s q → InFlat d cell g.region q
  gate_flat s q h = region_has Edges Flat s q h

  pub gate_back : (s q : Square) → InGate d g cell s q → InGate d g cell q s
  gate_back s q h = region_back Edges Flat s q h

  pub gate_on : (s q r : Square) → InGate d g cell s q → InGate d g cell q r → InGate d g cell s r
  gate_on s q r h i = region_on Edges Flat s q r h i

  pub gate_between : (s q r : Square) → InGate d g cell s q → InGate d g cell s r → InGate d g cell q r
  gate_between s q r h i = region_between Edges Flat s q r h i

  pub gate_self : (s : Square) → InFlat d cell g.region s → InGate d g cell s s
  gate_self s h = region_self Edges Flat s h

-- the square of the first that others can't make alone lies in the second's gate
pub one_place : OnePlaceLaw
one_place d g cell s sound reached a b =
    elim (ℕ_discrete a.number b.number) [
      | yes e ↦ e
      | no not ↦
          let mine = gate_up d g sound cell a.number a.place a.square reached a.placed a.settled a.settled.mine a.settled.in_gate in
          let above = gate_on d g cell s (moved_square a.place.motion a.square) (moved_square a.place.motion a.settled.mine) a.image mine in
          let one = gate_between d g cell s (moved_square b.place.motion b.square) (moved_square a.place.motion a.settled.mine) b.image above in
          let r = gate_down d g sound cell b.number b.place b.square reached b.placed b.settled (moved_square a.place.motion a.settled.mine) one in
          let there = gate_flat d g b.place.cell b.square r.0 r.2 in
          absurd (a.settled.alone (lone d.way d g.region cell a.number b.number a.place b.place a.settled.mine r.0 reached a.placed b.placed not (sym r.1) there))
    ]

-- the image of a settled gate along a path is settled
pub settled_along : (d : Design) (g : Geometry) (sound : IsSoundGeometry g) (path : List ℕ) (cell end : ℕ) (s q : Square) → IsReached d cell → Takes d cell path end s q → IsSettled d g end s → IsSettled d g cell q
settled_along d g sound [] cell end s q reached takes h = subst (λ c. IsSettled d g c q) (sym takes.0) (subst (λ x. IsSettled d g end x) takes.1 h)
settled_along d g sound (k ∷ ks) cell end s q reached takes h =
    let below = settled_along d g sound ks takes.0.cell end s takes.2 (reached_below d cell k takes.0 reached takes.1) takes.3 h in
    subst (λ x. IsSettled d g cell x) takes.4 (still d g sound cell k takes.0 takes.2 reached takes.1 below)

-- a gate that comes through a placement
below_of : (d : Design) (g : Geometry) (sound : IsSoundGeometry g) (cell : ℕ) (s : Square) (k : ℕ) (ks : List ℕ) (end : ℕ) (r q : Square) → IsReached d cell → (takes : Takes d cell (k ∷ ks) end r q) → InGate d g cell s q → IsSettled d g end r → IsGateBelow d g cell s
below_of d g sound cell s k ks end r q reached takes image h = record {
  number = k;
  place = takes.0;
  square = takes.2;
  placed = takes.1;
  settled = settled_along d g sound ks takes.0.cell end r takes.2 (reached_below d cell k takes.0 reached takes.1) takes.3 h;
  image = subst (λ x. InGate d g cell s x) (sym takes.4) image;
}

unique : (d : Design) (g : Geometry) (sound : IsSoundGeometry g) (fp gp : List ℕ) (cell : ℕ) (s : Square) → IsReached d cell
    → (fe : ℕ) (fs fq : Square) → Takes d cell fp fe fs fq → InGate d g cell s fq → IsListedGate d g fe fs
    → (ge : ℕ) (gs gq : Square) → Takes d cell gp ge gs gq → InGate d g cell s gq → IsListedGate d g ge gs
    → (gp ≡ fp) × InGate d g fe fs gs
unfolding below_of
unique d g sound [] [] cell s reached fe fs fq ft fi fg ge gs gq gt gi gg =
    let way = gate_between d g cell s fq gq fi gi in
    let one : InGate d g cell fs gq = subst (λ x. InGate d g cell x gq) (sym ft.1) way in
    let two : InGate d g cell fs gs = subst (λ x. InGate d g cell fs x) (sym gt.1) one in
    (refl, subst (λ c. InGate d g c fs gs) ft.0 two)
unique d g sound [] (k ∷ ks) cell s reached fe fs fq ft fi fg ge gs gq gt gi gg =
    let here : IsListedGate d g cell fq = subst (λ c. IsListedGate d g c fq) (sym ft.0) (subst (λ x. IsListedGate d g fe x) ft.1 fg) in
    absurd (here.new (below_of d g sound cell fq k ks ge gs gq reached gt (gate_between d g cell s fq gq fi gi) gg.settled))
unique d g sound (k ∷ ks) [] cell s reached fe fs fq ft fi fg ge gs gq gt gi gg =
    let here : IsListedGate d g cell gq = subst (λ c. IsListedGate d g c gq) (sym gt.0) (subst (λ x. IsListedGate d g ge x) gt.1 gg) in
    absurd (here.new (below_of d g sound cell gq k ks fe fs fq reached ft (gate_between d g cell s gq fq gi fi) fg.settled))
unique d g sound (k ∷ ks) (j ∷ js) cell s reached fe fs fq ft fi fg ge gs gq gt gi gg =
    let a = below_of d g sound cell s k ks fe fs fq reached ft fi fg.settled in
    let b = below_of d g sound cell s j js ge gs gq reached gt gi gg.settled in
    let e : k ≡ j = one_place d g cell s sound reached a b in
    let place : gt.0 ≡ ft.0 = same_place d cell k gt.0 ft.0 (subst (λ i. IsPlaced d cell i gt.0) (sym e) gt.1) ft.1 in
    let rest : Takes d ft.0.cell js ge gs gt.2 = subst (λ (r : Place). Takes d r.cell js ge gs gt.2) place gt.3 in
    let image_g : InGate d g cell s (moved_square ft.0.motion gt.2) = subst (λ (r : Place). InGate d g cell s (moved_square r.motion gt.2)) place b.image in
    let way = gate_between d g cell s (moved_square ft.0.motion ft.2) (moved_square ft.0.motion gt.2) a.image image_g in
    let down = (squares d g sound cell k ft.0 ft.2 reached ft.1 a.settled gt.2).0 way in
    let r = unique d g sound ks js ft.0.cell ft.2 (reached_below d cell k ft.0 reached ft.1) fe fs ft.2 ft.3 (gate_self d g ft.0.cell ft.2 a.settled.is) fg ge gs gt.2 rest down gg in
    let paths : js ≡ ks = r.0 in
    (cc, r.1)

exists : (d : Design) (g : Geometry) (sound : IsSoundGeometry g) (height : ℕ → ℕ) → IsHeight d height → ((cell : ℕ) (s : Square) → IsReached d cell → IsSettled d g cell s → IsListedGate d g cell s ⊎ IsGateBelow d g cell s)
    → (n cell : ℕ) (s : Square) → height cell < n → IsReached d cell → IsSettled d g cell s → IsFound d g cell s
exists d g sound height linked parted zero cell s lt reached h = absurd (omega arith)
exists d g sound height linked parted (suc n) cell s lt reached h =
    elim (parted cell s reached h) [
      | inl gate ↦ record { path = []; end = cell; square = s; place = s; takes = (refl, refl); image = gate_self d g cell s h.is; gate = gate }
      | inr below ↦
          let down = linked cell below.number below.place below.placed in
          let f = exists d g sound height linked parted n below.place.cell below.square (omega arith) (reached_below d cell below.number below.place reached below.placed) below.settled in
          record {
            path = below.number ∷ f.path;
            end = f.end;
            square = f.square;
            place = moved_square below.place.motion f.place;
            takes = (below.place, below.placed, f.place, f.takes, refl);
            image = gate_on d g cell s (moved_square below.place.motion below.square) (moved_square below.place.motion f.place) below.image
                (gate_up d g sound cell below.number below.place below.square reached below.placed below.settled f.place f.image);
            gate = f.gate;
          }
    ]

pub each_once : GateLaw
each_once d g height sound linked parted cell s reached settled =
    let lt : height cell < suc (height cell) = omega arith in
    let f = exists d g sound height linked parted (suc (height cell)) cell s lt reached settled in
    (f, λ h. unique d g sound f.path h.path cell s reached f.end f.square f.place f.takes f.image f.gate h.end h.square h.place h.takes h.image h.gate)

pub top_settled : TopLaw
top_settled d g height linked s h = record {
  is = h;
  calm = λ q c. top_calm d height linked g.keys g.reach q;
  mine = s;
  in_gate = gate_self d g d.top s h;
  alone = λ a. lone_top d height linked g.region s a;
}
