-- What is written of a size by the scale is, read again, the exact product.
use Rattle.std.specs.Prelude.{◌≡◌, ℕ, ◌*◌, ◌^◌, ◌≤◌, List, Some, Ok}
use Rattle.fixed_num.specs.Values.{IsArea}
use Rattle.spice_rows.specs.Sizes.{area_of, value_of}
use Rattle.netlist_turn.specs.Scale.{micro_text, pico_text, scaled_area, scaled_length}

-- femtometres that are written are read as they were
abbrev pub WrittenSizeLaw : Type 0
WrittenSizeLaw = (n : ℕ) → n ≤ 10 ^ 18 → value_of (Some (10 ^ 18)) (micro_text n) ≡ Ok n

-- and square picometres
abbrev pub WrittenAreaLaw : Type 0
WrittenAreaLaw = (n : ℕ) → n ≤ 10 ^ 30 → area_of (Some (10 ^ 30)) (pico_text n) ≡ Ok n

-- the text is worth a number of 10^-24, and n femtometres are that times the scale of 10^-15
pub record IsProduct (scale : ℕ) (text : List ℕ) (n : ℕ) : Type 0 where
  pub size : ℕ
  pub worth : IsArea text size
  pub exact : n * 10 ^ 24 ≡ size * scale

abbrev pub ProductLaw : Type 0
ProductLaw = (scale : ℕ) (text : List ℕ) (n : ℕ) → scaled_length scale text ≡ Ok n
    → IsProduct scale text n

-- the text is worth a number of 10^-24, and n square picometres are that times the scale's square
pub record IsSquared (scale : ℕ) (text : List ℕ) (n : ℕ) : Type 0 where
  pub size : ℕ
  pub worth : IsArea text size
  pub exact : n * 10 ^ 30 ≡ size * (scale * scale)

abbrev pub SquareLaw : Type 0
SquareLaw = (scale : ℕ) (text : List ℕ) (n : ℕ) → scaled_area scale text ≡ Ok n
    → IsSquared scale text n
