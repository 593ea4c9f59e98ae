-- Where the parts of an aligned netlist are from, in the words of its definition.
use Rattle.std.specs.Prelude.{◌≡◌, ◌↔◌, ◌<◌, ℕ, true, cond, List, [], ◌∷◌, ◌++◌, length, map}
use Rattle.std.specs.Prelude.{Option, Some, None, slice_get, slice_index_or}
use Rattle.plain_netlist.specs.Lists.{IsListed, AreApart}
use Rattle.plain_netlist.specs.Netlist.{Circuit, Netlist, IsCircuit, Slot, slot}
use Rattle.plain_netlist.specs.Sound.{IsCallPath}
use Rattle.align_laws.specs.Aligned.{IsAligned, HasOnlyKept}
use Rattle.align_laws.specs.Cut.{Alignment, CutCall, cut_calls}
use Rattle.align_laws.specs.Flat.{Maps, net_image}
use Rattle.align_laws.specs.Lists.{DeviceAt, given_of, maps_of}
use Rattle.align_laws.specs.Words.{IsInside}
use Rattle.part_origins.specs.Inside.{PlainSpot}
use Rattle.part_origins.specs.Made.{AllOrigins, PlainOrigins, inside_at}
use Rattle.part_origins.specs.declared.inside.Part.{Part}

-- no two circuits have one name
abbrev pub AreNamedApart : Netlist → Type 0
AreNamedApart nl = (a b : ℕ) (x y : Circuit) → IsCircuit nl a x → IsCircuit nl b y
    → x.name ≡ y.name → a ≡ b

-- the path to spot i: none to the circuit itself; else the path to the spot of the call, which is
-- an earlier one, and the call
abbrev pub IsPathBy : List (List ℕ) → ℕ → Option Part → List ℕ → Type 0
IsPathBy paths i None path = path ≡ []
IsPathBy paths i (Some call) path = (up : List ℕ) × (slice_get paths call.spot ≡ Some up)
    × (call.spot < i) × (up ++ call.number ∷ [] ≡ path)

-- the paths to all spots
pub record ArePaths (spots : List PlainSpot) (paths : List (List ℕ)) : Type 0 where
  pub long : length spots ≡ length paths
  pub each : (i : ℕ) (s : PlainSpot) (path : List ℕ) → slice_get spots i ≡ Some s
      → slice_get paths i ≡ Some path → IsPathBy paths i s.by path

abbrev pub path_at : List (List ℕ) → ℕ → List ℕ
path_at paths i = slice_index_or paths i []

-- the device that a part is, and the path of the call that it is
abbrev pub slot_of : List (List ℕ) → Part → Slot
slot_of paths p = slot (path_at paths p.spot) p.number

abbrev pub way_of : List (List ℕ) → Part → List ℕ
way_of paths p = path_at paths p.spot ++ p.number ∷ []

module _ (g o : Netlist) (w : Alignment) (a : IsAligned g o w) where
  -- flattening, as it is in this alignment
  abbrev pub flat_maps : Maps
  flat_maps = maps_of g a.goes a.by.flats

  -- the number that a net inside circuit c has in the aligned netlist, if it is kept
  abbrev pub aligned_number : ℕ → Slot → Option ℕ
  aligned_number c s = cond (w.held c (net_image flat_maps c s).net)
      (Some (w.new c (net_image flat_maps c s).net)) None

  -- x has the origins of the parts of circuit c, where these are the spots inside it
  pub record AreOrigins (spots : List PlainSpot) (c : ℕ) (x : PlainOrigins) : Type 0 where
    pub circuit : x.circuit ≡ c
    pub paths : List (List ℕ)
    pub are : ArePaths spots paths
    pub inside : (path : List ℕ) → IsListed path paths ↔ IsInside g flat_maps c path
    pub once : AreApart paths
    pub ends : (i : ℕ) (s : PlainSpot) (path : List ℕ) → slice_get spots i ≡ Some s
        → slice_get paths i ≡ Some path
        → IsCallPath g c path s.circuit × (length s.nets ≡ length (given_of g s.circuit).nets)
    pub devices : map (slot_of paths) x.devices
        ≡ map (λ (d : DeviceAt). d.from) (a.by.flats c).devices
    pub calls : map (way_of paths) x.calls
        ≡ map (λ (r : CutCall). flat_maps.way c r.from) (cut_calls a.by.flat w c)
    pub nets : (i n : ℕ) (s : PlainSpot) (path : List ℕ) → slice_get spots i ≡ Some s
        → slice_get paths i ≡ Some path → n < length s.nets
        → slice_index_or x.nets (slice_index_or s.nets n 0) None ≡ aligned_number c (slot path n)

-- the origins of the parts of the aligned netlist o of g, however it is seen as aligned: for each
-- of its circuits those of the one that it is
pub record HaveOrigins (g o : Netlist) (x : AllOrigins) : Type 0 where
  pub count : length x.circuits ≡ length o.circuits
  pub each : (w : Alignment) (a : IsAligned g o w) → HasOnlyKept o w → (c : ℕ) → w.kept c ≡ true
      → (y : PlainOrigins) × (slice_get x.circuits (w.number c) ≡ Some y)
      × AreOrigins g o w a (inside_at x.insides c).spots c y
