-- How one placement lies beside another.
use Rattle.std.proofs.Common.{◌≡◌, pos, refl, sym, ap, arith}
use Rattle.std.proofs.lemmas.Int.{ints}
use Rattle.flat_laws.proofs.Squares.{same_square}
use Rattle.flat_layout.specs.Layout.{Place}
use Rattle.geo_base.specs.Motions.{moved_square}
use Rattle.geo_base.specs.declared.motion.Motion.{Motion}
use Rattle.geo_base.specs.declared.motion.Turn.TheVariants.{R0}
use Rattle.geo_base.specs.declared.shapes.Square.{Square}
use Rattle.net_link_laws.proofs.Looking.{alike}
use Rattle.net_link_laws.specs.Windows.{AreMovedAlike}
use Rattle.net_walk.specs.Relative.{IsRelative, SameContactLaw}

abbrev stay : Motion
stay = record { turn = R0; dx = pos 0; dy = pos 0 }

stays_there : (s : Square) → moved_square stay s ≡ s
stays_there s = same_square (moved_square stay s) s (omega (arith, ints)) (omega (arith, ints))

-- the pair as the other's cell sees it
seen_from : (p q r s : Place) (rel : Motion) → r.cell ≡ p.cell → s.cell ≡ q.cell → IsRelative r.motion s.motion rel → AreMovedAlike s.motion (record { cell = p.cell; motion = rel }) (record { cell = q.cell; motion = stay }) r s
seen_from p q r s rel one other h = record {
  one = one;
  other = other;
  moves_one = λ m. sym (h.squares m);
  moves_other = λ m. ap (moved_square s.motion) (sym (stays_there m));
}

pub same_contacts : SameContactLaw
same_contacts d w t p q r s rel x y one other h g =
    let a = alike d w t q.motion (record { cell = p.cell; motion = rel }) (record { cell = q.cell; motion = stay }) p q x y (seen_from p q p q rel refl refl h) in
    let b = alike d w t s.motion (record { cell = p.cell; motion = rel }) (record { cell = q.cell; motion = stay }) r s x y (seen_from p q r s rel one other g) in
    ((λ k. b.0 (a.1 k)), (λ k. a.0 (b.1 k)))
