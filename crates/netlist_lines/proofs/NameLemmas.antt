-- An escaped name is read as it stood.
use Rattle.std.proofs.Common.{◌≡◌, inl, inr, ℕ, Bool, true, false, List, [], ◌∷◌, ◌++◌, refl, sym, ap, subst, ◌∙◌, append_assoc, arith}
use Rattle.std.specs.Prelude.{◌==◌, ◌||◌, Result, Ok, if◌then◌else◌}
use Rattle.std.proofs.lemmas.List.{append-nil}
use Rattle.std.proofs.lemmas.Bool.{eqb-true, cases_Bool, or_parts}
use Rattle.net_names.specs.Spells.{Spells, End, Itself, Behind, IsHexLetter, ReadAsSpelledLaw}
use Rattle.spice_cards.specs.Tokens.{is_blank}
use Rattle.netlist_lines.specs.Cleaning.{cleaned, spelled, Step}
use Rattle.netlist_lines.specs.declared.cleaning.At.TheVariants.{Before, Escaped}
use Rattle.netlist_lines.specs.declared.cleaning.LineFault.{LineFault}
use Rattle.netlist_lines.specs.Names.{spelled_all, has_blank, EscapedNameLaw}

pub made_to : (a b : List ℕ) → a ≡ b → (let o : Result (List ℕ) LineFault = Ok a in o) ≡ Ok b
made_to a b e = ap (λ (x : List ℕ). let o : Result (List ℕ) LineFault = Ok x in o) e

kept : (made : List ℕ) (word : List ℕ) → has_blank word ≡ false → cleaned made Escaped word ≡ Ok (made ++ spelled_all word)
kept made [] h = made_to made (made ++ []) (sym (append-nil made))
kept made (b ∷ bytes) h =
    ap (λ (t : Bool). let s : Step = (if t then record { text = b ∷ []; at = Before } else record { text = spelled b; at = Escaped }) in cleaned (made ++ s.text) s.at bytes) ((or_parts (is_blank b) (has_blank bytes) h).0)
    ∙ kept (made ++ spelled b) bytes ((or_parts (is_blank b) (has_blank bytes) h).1)
    ∙ made_to ((made ++ spelled b) ++ spelled_all bytes) (made ++ (spelled b ++ spelled_all bytes)) (append_assoc made (spelled b) (spelled_all bytes))

backslash : IsHexLetter 0x5C → ⊥
backslash (inl p) = omega arith
backslash (inr q) = omega arith

equals : IsHexLetter 0x3D → ⊥
equals (inl p) = omega arith
equals (inr q) = omega arith

one : (b : ℕ) (text bytes : List ℕ) → Spells text bytes → Spells (spelled b ++ text) (b ∷ bytes)
one b text bytes s = elim (cases_Bool (b == 0x5C)) [
  | inl e ↦ let is : b ≡ 0x5C = eqb-true b 0x5C e in subst (λ (x : ℕ). Spells (spelled x ++ text) (x ∷ bytes)) (sym is) (Behind 0x5C text bytes refl backslash s)
  | inr f ↦ elim (cases_Bool (b == 0x3D)) [
    | inl e ↦ let is : b ≡ 0x3D = eqb-true b 0x3D e in subst (λ (x : ℕ). Spells (spelled x ++ text) (x ∷ bytes)) (sym is) (Behind 0x3D text bytes refl equals s)
    | inr g ↦ plain f g
  ]
]
  where
    plain : (b == 0x5C) ≡ false → (b == 0x3D) ≡ false → Spells (spelled b ++ text) (b ∷ bytes)
    plain f g =
        let e : (b == 0x5C || b == 0x3D) ≡ false = ap (λ (t : Bool). t || b == 0x3D) f ∙ g in
        let other : b ≡ 0x5C → ⊥ = λ p. let q : (b == 0x5C) ≡ true = ap (λ (x : ℕ). x == 0x5C) p in let r : true ≡ false = sym q ∙ f in cc in
        subst (λ (t : Bool). Spells ((if t then 0x5C ∷ b ∷ [] else b ∷ []) ++ text) (b ∷ bytes)) (sym e) (Itself b text bytes other s)

spells : (word : List ℕ) → Spells (spelled_all word) word
spells [] = End
spells (b ∷ bytes) = one b (spelled_all bytes) bytes (spells bytes)

pub escaped_name : ReadAsSpelledLaw → EscapedNameLaw
escaped_name law made word h = record {
  text = kept (made ++ 0x5C ∷ 0x5C ∷ []) word h ∙ made_to ((made ++ 0x5C ∷ 0x5C ∷ []) ++ spelled_all word) (made ++ spelled_all (0x5C ∷ word)) (append_assoc made (0x5C ∷ 0x5C ∷ []) (spelled_all word));
  read = (law (spelled_all (0x5C ∷ word)) (0x5C ∷ word)).1 (spells (0x5C ∷ word));
}
