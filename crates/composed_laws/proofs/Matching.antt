-- What the aligned netlists correspond by, the given ones do.
use Rattle.std.proofs.Common.{◌≡◌, ℕ, true, [], inl, refl, subst}
use Rattle.plain_netlist.specs.Netlist.{Netlist}
use Rattle.plain_netlist.specs.Flats.{Corresponds, expanded, Reversed, Through}
use Rattle.plain_netlist.proofs.Alike.{reversed, through}
use Rattle.match_laws.specs.Circuits.{Pairing}
use Rattle.align_laws.specs.Aligned.{IsAligned, IsDeviceAligned, IsNetAligned}
use Rattle.align_laws.specs.Cut.{Alignment}
use Rattle.align_laws.specs.Partners.{IsPair}
use Rattle.align_laws.proofs.Kept.{aligned_corresponds}
use Rattle.align_laws.proofs.Sides.{aligned_sides}
use Rattle.composed_laws.specs.Composed.{AreDevicesPaired, AreNetsPaired}
use Rattle.composed_laws.specs.Matched.{AreDevicesMatched, AreNetsMatched, AlignedMatchLaw, MatchedNetlistsLaw, MatchedTopsLaw}
use Rattle.composed_laws.proofs.Answered.{answered}
use Rattle.composed_laws.proofs.Pairs.{composes}

-- the aligned netlists expand to the same
module _ (layout l r schematic : Netlist) (v w : Alignment) (a : IsAligned layout l v) (b : IsAligned schematic r w) (pairings : ℕ → Pairing) (c d : ℕ) (kept : v.kept c ≡ true) (also : w.kept d ≡ true) where
  joined : Corresponds (expanded l (v.number c)) (expanded r (w.number d)) (AreDevicesPaired l pairings (v.number c)) (AreNetsPaired l pairings (v.number c))
      → Corresponds (expanded layout c) (expanded schematic d) (AreDevicesMatched layout l r schematic v w a b pairings c d) (AreNetsMatched layout l r schematic v w a b pairings c d)
  joined m =
      let G = expanded layout c in
      let L = expanded l (v.number c) in
      let R = expanded r (w.number d) in
      let S = expanded schematic d in
      let device = AreDevicesPaired l pairings (v.number c) in
      let net = AreNetsPaired l pairings (v.number c) in
      let back = reversed S R (IsDeviceAligned schematic r w b d) (IsNetAligned schematic r w b d) (aligned_corresponds schematic r w b d also) in
      let right = through L R S device net (Reversed (IsDeviceAligned schematic r w b d)) (Reversed (IsNetAligned schematic r w b d)) m back in
      through G L S (IsDeviceAligned layout l v a c) (IsNetAligned layout l v a c) (Through device (Reversed (IsDeviceAligned schematic r w b d))) (Through net (Reversed (IsNetAligned schematic r w b d)))
      (aligned_corresponds layout l v a c kept) right

pub aligned_match : AlignedMatchLaw
aligned_match layout l r schematic v w a b children pairings match sl sr c d kept also number =
    joined layout l r schematic v w a b pairings c d kept also
    (subst (λ (u : ℕ). Corresponds (expanded l (v.number c)) (expanded r u) (AreDevicesPaired l pairings (v.number c)) (AreNetsPaired l pairings (v.number c))) number (composes l r children pairings match sl sr (v.number c)))

pub matched_netlists : MatchedNetlistsLaw
matched_netlists layout schematic top right_top same left right v w p asked answers pairings each all c d pair =
    let sides = aligned_sides layout schematic top right_top same left right v w p in
    let m = answered left right asked answers pairings sides each all in
    aligned_match layout left right schematic v w p.left_aligned p.right_aligned _ pairings m.0 m.1 m.2 c d ((p.pairs.left_kept c).1 (d, pair)) ((p.pairs.right_kept d).1 (c, pair)) (p.pairs.together c d pair)

pub matched_tops : MatchedTopsLaw
matched_tops layout schematic top right_top same left right v w p asked answers pairings each all =
    let pair : IsPair layout schematic top same right_top top right_top = record { tops = p.partner; partner = p.partner; called = ([], refl); right_called = ([], refl); devices = inl refl } in
    matched_netlists layout schematic top right_top same left right v w p asked answers pairings each all top right_top pair
