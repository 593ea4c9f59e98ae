-- What is drawn of circuits that are answered as others, one after the other.
use Rattle.std.proofs.Common.{◌≡◌, List, [], ◌∷◌, ◌++◌, refl, subst, sym, append_assoc, append-nil}
use Rattle.plain_netlist.specs.Netlist.{Circuit}
use Rattle.view_netlist.specs.Drawing.{Drawn}
use Rattle.view_picture.specs.Picture.{AreAllPlaced, IsPlacedAs}

-- what is drawn of those that are left stands behind what was drawn before
abbrev pub PlacesOn : List Circuit → List Circuit → List Drawn → List Drawn → List Circuit → List Circuit → List Drawn → Type 0
PlacesOn ms cs ds out all_ms all_cs all_ds = (vs : List Drawn) → AreAllPlaced ms cs ds vs → AreAllPlaced all_ms all_cs all_ds (out ++ vs)

pub places_next : (a : Circuit) (ms : List Circuit) (c : Circuit) (cs : List Circuit) (d : Drawn) (ds : List Drawn) (v : Drawn) (out : List Drawn) (all_ms all_cs : List Circuit) (all_ds : List Drawn)
    → IsPlacedAs a c d v → PlacesOn (a ∷ ms) (c ∷ cs) (d ∷ ds) out all_ms all_cs all_ds → PlacesOn ms cs ds (out ++ v ∷ []) all_ms all_cs all_ds
places_next a ms c cs d ds v out all_ms all_cs all_ds is h vs more =
    subst (λ (z : List Drawn). AreAllPlaced all_ms all_cs all_ds z) (sym (append_assoc out (v ∷ []) vs)) (h (v ∷ vs) (is, more))

places_end : (ms cs : List Circuit) (ds out : List Drawn) (all_ms all_cs : List Circuit) (all_ds : List Drawn) → AreAllPlaced ms cs ds [] → PlacesOn ms cs ds out all_ms all_cs all_ds → AreAllPlaced all_ms all_cs all_ds out
places_end ms cs ds out all_ms all_cs all_ds here h = subst (λ (z : List Drawn). AreAllPlaced all_ms all_cs all_ds z) (append-nil out) (h [] here)

pub no_drawing : (ms cs : List Circuit) (ds out : List Drawn) (all_ms all_cs : List Circuit) (all_ds : List Drawn) → ds ≡ [] → PlacesOn ms cs ds out all_ms all_cs all_ds → AreAllPlaced all_ms all_cs all_ds out
no_drawing ms cs [] out all_ms all_cs all_ds e h = places_end ms cs [] out all_ms all_cs all_ds refl h
no_drawing ms cs (d ∷ ds) out all_ms all_cs all_ds e h = let z : ⊥ = cc in absurd z

pub no_left : (ms cs : List Circuit) (ds out : List Drawn) (all_ms all_cs : List Circuit) (all_ds : List Drawn) → cs ≡ [] → PlacesOn ms cs ds out all_ms all_cs all_ds → AreAllPlaced all_ms all_cs all_ds out
no_left ms [] [] out all_ms all_cs all_ds e h = places_end ms [] [] out all_ms all_cs all_ds refl h
no_left [] [] (d ∷ ds) out all_ms all_cs all_ds e h = places_end [] [] (d ∷ ds) out all_ms all_cs all_ds refl h
no_left (a ∷ ms) [] (d ∷ ds) out all_ms all_cs all_ds e h = places_end (a ∷ ms) [] (d ∷ ds) out all_ms all_cs all_ds refl h
no_left ms (c ∷ cs) ds out all_ms all_cs all_ds e h = let z : ⊥ = cc in absurd z

pub no_other : (ms cs : List Circuit) (ds out : List Drawn) (all_ms all_cs : List Circuit) (all_ds : List Drawn) → ms ≡ [] → PlacesOn ms cs ds out all_ms all_cs all_ds → AreAllPlaced all_ms all_cs all_ds out
no_other [] cs [] out all_ms all_cs all_ds e h = places_end [] cs [] out all_ms all_cs all_ds refl h
no_other [] cs (d ∷ ds) out all_ms all_cs all_ds e h = places_end [] cs (d ∷ ds) out all_ms all_cs all_ds refl h
no_other (a ∷ ms) cs ds out all_ms all_cs all_ds e h = let z : ⊥ = cc in absurd z
