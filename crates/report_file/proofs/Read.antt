-- The circuits of a text's cards have folded names.
use Rattle.std.proofs.Common.{◌≡◌, ℕ, List, [], ◌∷◌, Option, Some, None, Ok, refl, subst}
use Rattle.net_names.specs.Escapes.{unescaped}
use Rattle.plain_netlist.specs.Lists.{IsListed}
use Rattle.report_file.proofs.Folded.{IsFolded, folded_twice}
use Rattle.spice_rows.specs.Names.{folded_some, name_of, name_onto, names_of}
use Rattle.spice_rows.specs.Sizes.{Limits}
use Rattle.spice_text.proofs.OpenedLemmas.{each_opened}
use Rattle.spice_text.specs.Circuits.{all_of}
use Rattle.spice_text.specs.Gather.{Circuit, Cards, reading_of}

-- ---- the names that words spell

abbrev IsNameFolded : Option (List ℕ) → Type 0
IsNameFolded None = Unit {0}
IsNameFolded (Some n) = IsFolded n

abbrev IsFirstFolded : Option (List (List ℕ)) → Type 0
IsFirstFolded None = Unit {0}
IsFirstFolded (Some []) = Unit {0}
IsFirstFolded (Some (n ∷ ns)) = IsFolded n

some_folded : (text : Option (List ℕ)) → IsNameFolded (folded_some text)
some_folded None = record {}
some_folded (Some text) = folded_twice text

name_folded : (word : List ℕ) → IsNameFolded (name_of word)
name_folded [] = record {}
name_folded (b ∷ bytes) = some_folded (unescaped (b ∷ bytes))

onto_folded : (n : Option (List ℕ)) (ns : Option (List (List ℕ))) → IsNameFolded n → IsFirstFolded (name_onto n ns)
onto_folded None None h = record {}
onto_folded None (Some ns) h = record {}
onto_folded (Some n) None h = record {}
onto_folded (Some n) (Some ns) h = h

first_folded : (words : List (List ℕ)) → IsFirstFolded (names_of words)
first_folded [] = record {}
first_folded (w ∷ ws) = onto_folded (name_of w) (names_of ws) (name_folded w)

-- ---- so each circuit of the cards has a folded name

abbrev pub AreFolded : List Circuit → Type 0
AreFolded cs = (c : Circuit) → IsListed c cs → IsFolded c.name

pub names_folded : (limit : Option Limits) (bytes : List ℕ) (cards : Cards) → reading_of limit bytes ≡ Ok cards → AreFolded (all_of cards)
names_folded limit bytes cards e =
    each_opened (λ name pins. IsFolded name) (λ words name pins named apart. subst IsFirstFolded named (first_folded words)) refl limit bytes cards e
