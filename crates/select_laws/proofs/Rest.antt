-- Own regions lie among what a cell holds itself and what goes up to it.
use Rattle.std.proofs.Common.{◌≡◌, ◌⊎◌, ◌↔◌, inl, inr, ℕ, List, [], ◌∷◌, refl, sym, ◌∙◌, subst}
use Rattle.std.proofs.Math.Decide.{ℕ_discrete}
use Rattle.flat_layout.specs.Gates.{Geometry, IsReadBy, IsSoundGeometry}
use Rattle.flat_layout.specs.Layers.{Formula, Input, Empty, Binary, Sized, InFlat, IsKept, IsLocal, IsStirred}
use Rattle.flat_layout.specs.Layout.{Place, Design, IsPlaced, IsReached}
use Rattle.flat_layout.specs.Parts.{IsCloseTo}
use Rattle.geo_base.specs.Motions.{moved_square}
use Rattle.geo_base.specs.declared.shapes.Square.{Square}
use Rattle.plain_netlist.specs.Chains.{IsChain}
use Rattle.plain_netlist.proofs.Links.{single, along}
use Rattle.flat_laws.proofs.Cover.{kept_above, kept_here, reached_below}
use Rattle.flat_laws.proofs.Leaving.{calm_unstirred}
use Rattle.flat_laws.proofs.Lone.{lone}
use Rattle.flat_laws.proofs.Moves.{within_same}
use Rattle.flat_laws.proofs.Paths.{same_place, disturbs, moved_square-injective}
use Rattle.flat_laws.proofs.Terminals.{keep}
use Rattle.flat_layout.specs.Parts.{Joint, AreAdjacent, InRegion}
use Rattle.select_laws.specs.Whole.{RegionAt, IsWhole, IsWholeBelow}
use Rattle.select_laws.specs.Rest.{IsRest, IsRestBelow, IsCandidate, ArePartedSquares, AreCandidates, RestLaw, CandidateLaw, ToldLaw, PartedRestLaw}
use Rattle.flat_laws.proofs.Joints.{joint_around, joint_back, region_self, region_back, region_between, region_next}
use Rattle.select_laws.proofs.Kept.{close_in, region_down, still}
use Rattle.select_laws.proofs.Layered.{whole_on}
use Rattle.select_laws.proofs.Once.{not_lone}

pub kept_flat : (d : Design) (cell : ℕ) (name : Formula) (q : Square) → IsKept d cell name q → InFlat d cell name q
kept_flat d cell (Input key) q h = h
kept_flat d cell Empty q h = h
kept_flat d cell (Binary op a b) q h = h.0
kept_flat d cell (Sized by a) q h = h.0

-- what a cell holds itself isn't in a calm flat square of a placed cell
local_not : (d : Design) (g : Geometry) (name : Formula) → IsReadBy g name → (cell k : ℕ) (p : Place) (c q : Square) → IsReached d cell → IsPlaced d cell k p → moved_square p.motion c ≡ q
    → InFlat d p.cell name c → (IsStirred d g.keys g.reach p.cell c → ⊥) → IsLocal d cell name q → ⊥
local_not d g (Input key) read cell k p c q reached placed e flat calm own =
    calm (record {
      square = c;
      within = within_same g.reach c;
      disturbed = disturbs d g.keys key cell k p c q [] cell reached placed (read.keys key (inl refl)) (refl, sym e) own (λ h. let f : k ∷ h.0 ≡ [] = h.1 in cc);
    })
local_not d g Empty read cell k p c q reached placed e flat calm own = own
local_not d g (Binary op a b) read cell k p c q reached placed e flat calm own =
    own.1 (record { number = k; place = p; square = c; placed = placed; kept = keep d g p.cell (Binary op a b) c read (calm_unstirred d g.keys g.reach p.cell c calm) flat; image = e })
local_not d g (Sized by a) read cell k p c q reached placed e flat calm own =
    own.1 (record { number = k; place = p; square = c; placed = placed; kept = keep d g p.cell (Sized by a) c read (calm_unstirred d g.keys g.reach p.cell c calm) flat; image = e })

module _ (d : Design) (j : Joint) (g : Geometry) (sound : IsSoundGeometry g) (cell : ℕ) (reached : IsReached d cell) where
  abbrev F : Square → Type 0
  F = InFlat d cell g.region

  abbrev C : Square → Type 0
  C = IsCandidate d j g cell

  -- each square of a region from below is the image of a square there whose region is whole
  pub at_square : (q : Square) → (b : IsWholeBelow d j g cell q) → (c : Square) × (moved_square b.place.motion c ≡ q) × IsWhole d j g b.place.cell c
  at_square q b =
      let way = region_back j F q (moved_square b.place.motion b.square) b.image in
      let r = region_down d j g sound cell b.number b.place b.square reached b.placed b.whole q way in
      (r.0, r.1, whole_on d j g sound b.place.cell b.square r.0 b.whole r.2)

  self_calm : (x : ℕ) (c : Square) → IsWhole d j g x c → IsStirred d g.keys g.reach x c → ⊥
  self_calm x c h = h.calm c (close_in d j g x c c (region_self j (InFlat d x g.region) c h.is))

  not_rest : (q : Square) → IsRestBelow d j g cell q → IsWholeBelow d j g cell q → ⊥
  not_rest q a b =
      let c = at_square q b in
      let same_image : moved_square a.place.motion a.square ≡ moved_square b.place.motion c.0 = a.image ∙ sym c.1 in
      elim (ℕ_discrete a.number b.number) [
        | yes e ↦
            let there : IsPlaced d cell b.number a.place = subst (λ i. IsPlaced d cell i a.place) e a.placed in
            let place : b.place ≡ a.place = same_place d cell b.number b.place a.place b.placed there in
            let whole : IsWhole d j g a.place.cell c.0 = subst (λ (p : Place). IsWhole d j g p.cell c.0) place c.2 in
            let image : moved_square a.place.motion a.square ≡ moved_square a.place.motion c.0 = subst (λ (p : Place). moved_square a.place.motion a.square ≡ moved_square p.motion c.0) place same_image in
            let one : a.square ≡ c.0 = moved_square-injective a.place.motion a.square c.0 image in
            a.rest.torn (subst (λ v. IsWhole d j g a.place.cell v) (sym one) whole)
        | no not ↦
            let there = kept_flat d a.place.cell g.region a.square a.rest.kept in
            not_lone d j g b.place.cell c.0 sound c.2 (lone d.way d g.region cell b.number a.number b.place a.place c.0 a.square reached b.placed a.placed (λ e. not (sym e)) (sym same_image) there)
      ]

  pub not_below : (q : Square) → C q → IsWholeBelow d j g cell q → ⊥
  not_below q (inl h) b =
      let c = at_square q b in
      local_not d g g.region sound cell b.number b.place c.0 q reached b.placed c.1 c.2.is (self_calm b.place.cell c.0 c.2) h
  not_below q (inr a) b = not_rest q a b

  pub to_kept : (q : Square) → C q → IsKept d cell g.region q
  to_kept q (inl h) = kept_here d cell g.region q h
  to_kept q (inr a) = subst (λ v. IsKept d cell g.region v) a.image (kept_above d cell a.number a.place g.region a.square reached a.placed a.rest.kept)

  pub to_flat : (q : Square) → C q → F q
  to_flat q h = kept_flat d cell g.region q (to_kept q h)

  below_on : (q a : Square) → IsWholeBelow d j g cell q → RegionAt d j g cell q a → IsWholeBelow d j g cell a
  below_on q a b region = record { number = b.number; place = b.place; square = b.square; placed = b.placed; whole = b.whole; image = region_between j F q a (moved_square b.place.motion b.square) region b.image }

  -- what comes from below as a whole region is whole here
  whole_here : (q : Square) → IsWholeBelow d j g cell q → IsWhole d j g cell q
  whole_here q b = let c = at_square q b in subst (λ v. IsWhole d j g cell v) c.1 (still d j g sound cell b.number b.place c.0 reached b.placed c.2)

  module _ (parted : ArePartedSquares d g cell) where
    from_kept : (q : Square) → IsKept d cell g.region q → (IsWholeBelow d j g cell q → ⊥) → C q
    from_kept q kept none =
        elim (parted q kept) [
          | inl h ↦ inl h
          | inr b ↦ inr (record {
            number = b.number;
            place = b.place;
            square = b.square;
            placed = b.placed;
            rest = record {
              kept = b.kept;
              torn = λ w. none (record { number = b.number; place = b.place; square = b.square; placed = b.placed; whole = w; image = subst (λ v. RegionAt d j g cell q v) (sym b.image) (region_self j F q (kept_flat d cell g.region q kept)) });
            };
            image = b.image;
          })
        ]

    keeps : (q : Square) → F q → (IsStirred d g.keys g.reach cell q → ⊥) → IsKept d cell g.region q
    keeps q h calm = keep d g cell g.region q sound (calm_unstirred d g.keys g.reach cell q calm) h

    pub candidates : (q : Square) → AreCandidates d j g cell q
    candidates q = record {
      rest = λ r. from_kept q r.kept (λ b. r.torn (whole_here q b));
      own = λ o. from_kept q (keeps q o.whole.is (self_calm cell q o.whole)) o.new;
      whole = λ c w. record { whole = w; new = not_below q c };
      torn = λ c n. record { kept = to_kept q c; torn = n };
    }

    module _ (s : Square) (here : C s) where
      abbrev P : Square → Type 0
      P = InRegion j C s

      part_in : (q : Square) → P q → RegionAt d j g cell s q
      part_in q h = record {
        from = to_flat s here;
        joined = along (AreAdjacent j C) (AreAdjacent j F) (λ v. v) (λ a b k. single (AreAdjacent j F) a b (record { from = to_flat a k.from; to = to_flat b k.to; edge = k.edge })) s q h.joined;
      }

      abbrev IsCalm : Type 0
      IsCalm = (q : Square) → IsCloseTo P q → IsStirred d g.keys g.reach cell q → ⊥

      -- a flat neighbour of a candidate is one where what is close is calm
      next : IsCalm → (a x : Square) → P a → C a → AreAdjacent j F a x → C x
      next calm a x part is step =
          let kept = keeps x step.to (calm x (record { square = a; in_part = part; around = joint_around j a x step.edge })) in
          let back_step : AreAdjacent j F x a = record { from = step.to; to = step.from; edge = joint_back j a x step.edge } in
          let region : RegionAt d j g cell x a = region_next j F x x a (region_self j F x step.to) back_step in
          from_kept x kept (λ b. not_below a is (below_on x a b region))

      goes : IsCalm → (a q : Square) (via : List Square) → P a → C a → IsChain (AreAdjacent j F) a via q → P q
      goes calm a q [] part is chain = subst (λ v. P v) chain part
      goes calm a q (x ∷ via) part is chain =
          let there = next calm a x part is chain.0 in
          goes calm x q via (region_next j C s a x part (record { from = is; to = there; edge = chain.0.edge })) there chain.1

      in_part_of : IsCalm → (q : Square) → RegionAt d j g cell s q → P q
      in_part_of calm q h = goes calm s q h.joined.via (region_self j C s here) here h.joined.chain

      to_whole : IsCalm → IsWhole d j g cell s
      to_whole calm = record {
        is = to_flat s here;
        calm = λ q c. calm q (record { square = c.square; in_part = in_part_of calm c.square c.in_part; around = c.around });
      }

      from_whole : IsWhole d j g cell s → IsCalm
      from_whole h = λ q c. h.calm q (record { square = c.square; in_part = part_in c.square c.in_part; around = c.around })

      pub told : (IsCalm ↔ IsWhole d j g cell s) × (IsWhole d j g cell s → (q : Square) → P q ↔ RegionAt d j g cell s q)
      told = ((to_whole, from_whole), λ w q. (part_in q, in_part_of (from_whole w) q))

pub rest_law : RestLaw
rest_law d j g cell sound reached parted q = candidates d j g sound cell reached parted q

pub candidate_law : CandidateLaw
candidate_law d j g cell sound reached parted s here = told d j g sound cell reached parted s here

pub told_law : ToldLaw
told_law d j g cell sound reached parted below decided q kept = elim (parted q kept) [
  | inl h ↦ of_candidate (inl h)
  | inr b ↦
      elim (below b.number b.place b.placed b.square b.kept) [
        | inl w ↦ inl (subst (λ v. IsWhole d j g cell v) b.image (still d j g sound cell b.number b.place b.square reached b.placed w))
        | inr r ↦ of_candidate (inr (record { number = b.number; place = b.place; square = b.square; placed = b.placed; rest = r; image = b.image }))
      ]
]
  where
    of_candidate : IsCandidate d j g cell q → IsWhole d j g cell q ⊎ IsRest d j g cell q
    of_candidate c = elim (decided q c) [ inl w ↦ inl w | inr n ↦ inr (record { kept = kept; torn = n }) ]

pub parted_rest : PartedRestLaw
parted_rest d j g sound parted told cell s reached whole =
    let kept = keep d g cell g.region s sound (calm_unstirred d g.keys g.reach cell s (self_calm d j g sound cell reached cell s whole)) whole.is in
    let all = candidates d j g sound cell reached (parted cell reached) s in
    elim (parted cell reached s kept) [
      | inl h ↦ inl (all.whole (inl h) whole)
      | inr b ↦
          elim (told b.place.cell (reached_below d cell b.number b.place reached b.placed) b.square b.kept) [
            | inl w ↦ inr (record { number = b.number; place = b.place; square = b.square; placed = b.placed; whole = w; image = subst (λ v. RegionAt d j g cell s v) (sym b.image) (region_self j (InFlat d cell g.region) s whole.is) })
            | inr r ↦ inl (all.whole (inr (record { number = b.number; place = b.place; square = b.square; placed = b.placed; rest = r; image = b.image })) whole)
          ]
    ]
