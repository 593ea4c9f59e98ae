-- A file whose lines are joined as they stand, and what a run makes of such a file.
use Rattle.std.specs.Prelude.{◌≡◌, ◌⊎◌, ℕ, Bool, true, false, ◌==◌, ◌&&◌, ◌||◌, not, List, [], ◌∷◌}
use Rattle.std.specs.Prelude.{Ok, length}
use Rattle.plain_netlist.specs.Netlist.{Netlist}
use Rattle.rule_lines.specs.Lines.{chopped, lines_of}
use Rattle.spice_cards.specs.Cards.{cards_of, early_more}
use Rattle.spice_cards.specs.Tokens.{is_blank}
use Rattle.spice_rows.specs.Sizes.{read_limit}
use Rattle.spice_text.specs.Means.{Means}
use Rattle.netlist_lines.specs.Names.{has_special}
use Rattle.netlist_join.specs.Directives.{EndsFile, Nothing, directive}
use Rattle.netlist_join.specs.Joining.{Made, joined}
use Rattle.netlist_join.specs.declared.files.File.{File}
use Rattle.netlist_turn.specs.KeptLaw.{IsQuiet, IsWhole}
use Rattle.netlist_turn.specs.Words.{has_escape}
use Rattle.netlist_run.specs.Accepted.{IsJoined}
use Rattle.netlist_run.specs.Kept.{EndsLast}
use Rattle.netlist_run.specs.Words.{Asked}

-- a comment line; or one that no blank begins, without a backslash, `;`, `$` and quotes
abbrev pub stays : List ℕ → Bool
stays [] = true
stays (b ∷ bytes) = b == 0x2A || (not (is_blank b) && not (has_special (b ∷ bytes)))

-- and no CR ends it
pub record IsPlain (line : List ℕ) : Type 0 where
  pub stays : stays line ≡ true
  pub whole : chopped line ≡ line

-- lines that say nothing of files, but for `.END` in the last one
abbrev pub ArePlain : List (List ℕ) → Type 0
ArePlain [] = Unit {0}
ArePlain (line ∷ lines) = IsPlain line × (((directive line ≡ Nothing) × ArePlain lines)
    ⊎ ((directive line ≡ EndsFile) × (lines ≡ [])))

-- a file of plain lines is joined to a text with its cards
pub record HasCards (bytes : List ℕ) (m : Made) : Type 0 where
  pub cards : cards_of m.text ≡ cards_of bytes
  pub early : early_more m.text ≡ early_more bytes
  pub plain : has_escape m.text ≡ false

abbrev pub PlainFileLaw : Type 0
PlainFileLaw = (f : File) (m : Made) → ArePlain (lines_of f.bytes.items)
    → joined (f ∷ []) 1 false ≡ Ok m → HasCards f.bytes.items m

-- of one plain file, of which no circuit and no device is to be left out, and of which nothing is
-- told but cards that say nothing, a run writes what means what the file means as it stands
abbrev pub KeptFileLaw : Type 0
KeptFileLaw = (f : File) (a : Asked) (text lines : List ℕ) (n : Netlist)
    → ArePlain (lines_of f.bytes.items) → EndsLast (cards_of f.bytes.items)
    → length a.inputs ≡ 1 → a.has_title ≡ false → (j : IsJoined (f ∷ []) a text lines)
    → IsWhole j.output.settings → IsQuiet j.output.made
    → Means read_limit f.bytes.items n → Means read_limit text n
