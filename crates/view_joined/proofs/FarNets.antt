-- A far rectangle among those that nets have is one of a net inside, moved.
use Rattle.std.proofs.Common.{◌<◌, inl, inr, ℕ, suc, List, [], ◌∷◌, get_or, length, refl, subst, arith}
use Rattle.flat_layout.specs.Layout.{Some_of}
use Rattle.geo_base.specs.declared.motion.Motion.{Motion}
use Rattle.part_origins.specs.Inside.{PlainInside}
use Rattle.part_origins.specs.Made.{PlainOrigins}
use Rattle.plain_netlist.specs.Lists.{IsListed}
use Rattle.view_drawing.specs.Devices.{Area}
use Rattle.view_drawing.specs.Far.{IsFar}
use Rattle.view_netlist.specs.declared.drawing.Drawing.{Drawing}
use Rattle.view_netlist.specs.declared.drawing.Shape.{Shape}
use Rattle.view_joined.specs.Far.{HasFarShape, JoinsFar, Net}
use Rattle.view_joined.specs.Nets.{AreJoined}
use Rattle.view_joined.specs.Spots.{AreMotions}

in_shapes : (shapes : List Shape) → HasFarShape shapes → (t : Shape) × IsListed t shapes × IsFar t.rect
in_shapes [] h = absurd h
in_shapes (s ∷ shapes) (inl h) = (s, inl refl, h)
in_shapes (s ∷ shapes) (inr h) = let r = in_shapes shapes h in (r.0, inr r.1, r.2)

in_lists : (lists : List (List Shape)) → Some_of HasFarShape lists → (q : ℕ) × (t : Shape) × (q < length lists) × IsListed t (get_or lists q []) × IsFar t.rect
in_lists [] h = absurd h
in_lists (l ∷ lists) (inl h) = let r = in_shapes l h in (0, r.0, omega arith, r.1, r.2)
in_lists (l ∷ lists) (inr h) = let r = in_lists lists h in let lt = r.2 in (suc r.0, r.1, omega arith, r.3, r.4)

pub far_net : (x : PlainInside) (o : PlainOrigins) (drawings : List Drawing) (count : ℕ) (areas : List Area) (motions : List Motion) (lists : List (List Shape))
    → AreMotions x.spots drawings [] x.spots motions → AreJoined x.spots motions drawings o.nets count lists → Some_of HasFarShape lists → JoinsFar x o drawings areas
far_net x o drawings count areas motions lists moved joined h =
    let r = in_lists lists h in
    let lt : r.0 < count = subst (λ n. r.0 < n) joined.count_is r.2 in
    Net motions moved r.0 r.1 ((joined.each r.0 r.1 lt).0 r.3) r.4
