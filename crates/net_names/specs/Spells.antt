-- Which names a text spells, by rule.
use Rattle.std.specs.Prelude.{◌≡◌, ◌↔◌, ◌⊎◌, ℕ, ◌+◌, ◌*◌, ◌<◌, List, [], ◌∷◌, Some, length}
use Rattle.std.specs.Prelude.{slice_index, IsTrue}
use Rattle.std.specs.Char.{is_ascii_graphic}
use Rattle.net_names.specs.Escapes.{hex_value, escaped, unescaped}

-- the letter of a hexadecimal escape
abbrev pub IsHexLetter : ℕ → Type 0
IsHexLetter c = (c ≡ 0x78) ⊎ (c ≡ 0x58)

-- a text spells a name: no text spells no bytes; a byte but the backslash spells itself; a
-- backslash before a printable byte but x and X spells that byte; and \x or \X before two
-- hexadecimal digits spells the byte of these digits
pub data Spells : List ℕ → List ℕ → Type 0 where
  End : Spells [] []
  Itself : (b : ℕ) (text bytes : List ℕ) → (b ≡ 0x5C → ⊥) → Spells text bytes
      → Spells (b ∷ text) (b ∷ bytes)
  Behind : (b : ℕ) (text bytes : List ℕ) → IsTrue (is_ascii_graphic b) → (IsHexLetter b → ⊥)
      → Spells text bytes → Spells (0x5C ∷ b ∷ text) (b ∷ bytes)
  Hexadecimal : (x h l high low : ℕ) (text bytes : List ℕ) → IsHexLetter x → hex_value h ≡ Some high
      → hex_value l ≡ Some low → Spells text bytes
      → Spells (0x5C ∷ x ∷ h ∷ l ∷ text) ((high * 16 + low) ∷ bytes)

-- what is read from a text is what it spells
abbrev pub ReadAsSpelledLaw : Type 0
ReadAsSpelledLaw = (text bytes : List ℕ) → (unescaped text ≡ Some bytes) ↔ Spells text bytes

-- a name as it is written spells that name
abbrev pub WrittenAsSpelledLaw : Type 0
WrittenAsSpelledLaw = (bytes : List ℕ) → ((k : ℕ) → k < length bytes → slice_index bytes k < 256)
    → Spells (escaped bytes) bytes
