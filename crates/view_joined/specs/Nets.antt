-- The rectangles of the nets of aligned circuits.
use Rattle.std.specs.Prelude.{◌≡◌, ◌↔◌, ◌+◌, ◌<◌, ℕ, zero, suc, List, [], ◌∷◌, ◌++◌, length, map}
use Rattle.std.specs.Prelude.{get_or, Option, Some, None, slice_get, slice_index_or}
use Rattle.std.specs.Global.{Vec}
use Rattle.geo_base.specs.declared.motion.Motion.{Motion}
use Rattle.part_origins.specs.Inside.{PlainSpot}
use Rattle.plain_netlist.specs.Lists.{IsListed}
use Rattle.view_netlist.specs.Drawing.{drawn_of}
use Rattle.view_netlist.specs.declared.drawing.Drawing.{Drawing}
use Rattle.view_netlist.specs.declared.drawing.Shape.{Shape}
use Rattle.view_joined.specs.Moved.{moved_shape}
use Rattle.view_joined.specs.Spots.{still}

abbrev pub shape_lists : List (Vec Shape) → List (List Shape)
shape_lists lists = map (λ l. l.items) lists

-- shapes behind those of a list, by its number
abbrev pub put : ℕ → List Shape → List (List Shape) → List (List Shape)
put q shapes [] = []
put zero shapes (l ∷ ls) = (l ++ shapes) ∷ ls
put (suc q) shapes (l ∷ ls) = l ∷ put q shapes ls

abbrev pub put_if : Option ℕ → List Shape → List (List Shape) → List (List Shape)
put_if None shapes lists = lists
put_if (Some q) shapes lists = put q shapes lists

module _ (numbers : List (Option ℕ)) where
  -- the shapes of a circuit's nets that have these flat numbers, the first of them being net n
  abbrev pub spot_put : Motion → List (List Shape) → ℕ → List ℕ → List (List Shape)
      → List (List Shape)
  spot_put m nets n [] lists = lists
  spot_put m nets n (flat ∷ flats) lists = spot_put m nets (n + 1) flats
      (put_if (slice_index_or numbers flat None) (map (moved_shape m) (get_or nets n [])) lists)

  -- those of all spots, the first of them being spot i
  abbrev pub all_put : List Motion → List Drawing → ℕ → List PlainSpot → List (List Shape)
      → List (List Shape)
  all_put motions drawings i [] lists = lists
  all_put motions drawings i (s ∷ ss) lists = all_put motions drawings (i + 1) ss
      (spot_put (get_or motions i still) (drawn_of drawings s.circuit).nets 0 s.nets lists)

-- shape t is that of a net of a spot that is the aligned circuit's net q, moved as the spot is
pub record IsNetShape (spots : List PlainSpot) (motions : List Motion) (drawings : List Drawing)
    (numbers : List (Option ℕ)) (q : ℕ) (t : Shape) : Type 0 where
  pub spot : ℕ
  pub of : PlainSpot
  pub is : slice_get spots spot ≡ Some of
  pub net : ℕ
  pub flat : ℕ
  pub there : slice_get of.nets net ≡ Some flat
  pub number : slice_index_or numbers flat None ≡ Some q
  pub shape : Shape
  pub drawn : IsListed shape (get_or (drawn_of drawings of.circuit).nets net [])
  pub moved : t ≡ moved_shape (get_or motions spot still) shape

-- each net has these shapes
pub record AreJoined (spots : List PlainSpot) (motions : List Motion) (drawings : List Drawing)
    (numbers : List (Option ℕ)) (count : ℕ) (lists : List (List Shape)) : Type 0 where
  pub count_is : length lists ≡ count
  pub each : (q : ℕ) (t : Shape) → q < count
      → IsListed t (get_or lists q []) ↔ IsNetShape spots motions drawings numbers q t
