-- Base names from lists of tags.
use Rattle.std.specs.Prelude.{◌≡◌, ◌↔◌, ℕ, List, [], Some, get_or, length, slice_get}
use Rattle.plain_netlist.specs.Lists.{AreRising, IsListed}
use Rattle.flat_layout.specs.Pins.{IsTextBefore, with_commas}

-- the tags that are given, each once, in byte order, joined by commas
pub record IsBaseOf (given : List (List ℕ)) (base : List ℕ) : Type 0 where
  pub tags : List (List ℕ)
  pub each : (s : List ℕ) → IsListed s tags ↔ IsListed s given
  pub rising : AreRising IsTextBefore tags
  pub joined : base ≡ with_commas tags

-- of each list of tags, the base name
pub record AreBasesOf (tags : List (List (List ℕ))) (names : List (List ℕ)) : Type 0 where
  pub count : length names ≡ length tags
  pub each : (x : ℕ) (base : List ℕ) → slice_get names x ≡ Some base
      → IsBaseOf (get_or tags x []) base
