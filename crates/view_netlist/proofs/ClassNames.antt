-- Classes in order of first sight, and their names.
use Rattle.std.proofs.Common.{◌≡◌, ℕ, Bool, true, false, ◌&&◌, ◌||◌, bytes_eq, map, ap₂, List, [], ◌∷◌, ◌++◌, drop, get_or, refl, sym, ap, subst, ◌∙◌, arith}
use Rattle.std.specs.Prelude.{codes}
use Rattle.std.specs.List.{list_any}
use Rattle.std.proofs.lemmas.List.{map-append}
use Rattle.indexmap.specs.IndexSet.{insert_key}
use Rattle.net_names.specs.Folding.{folded_byte, folded_bytes}
use Rattle.plain_netlist.specs.declared.kinds.DeviceKind.{DeviceKind}
use Rattle.plain_netlist.specs.declared.kinds.DeviceKind.TheVariants.{Mos4, ResistorWithBulk, Diode}
use Rattle.plain_netlist.specs.Kinds.{same_device_kind}
use Rattle.plain_netlist.specs.contracts.kinds.DeviceKindPartialEq.TheImpl.{eq-value as same}
use Rattle.view_netlist.specs.contracts.kinds.DeviceClassPartialEq.TheImpl.{eq-value}
use Rattle.view_netlist.specs.declared.kinds.DeviceClass.{DeviceClass}
use Rattle.view_netlist.specs.Classes.{first_classes, with_class}
use Rattle.view_netlist.specs.Kinds.{Class, OneNameLaw, class_seen, kind_mark, same_class}

-- a folded text's first byte is folded
first_folded : (a : List ℕ) (b : ℕ) (bs : List ℕ) → folded_bytes a ≡ a → a ≡ b ∷ bs → folded_byte b ≡ b
first_folded a b bs folded e =
    let same : folded_bytes (b ∷ bs) ≡ b ∷ bs = subst (λ (t : List ℕ). folded_bytes t ≡ t) e folded in
    ap (λ (t : List ℕ). get_or t 0 0) same

no_resistor : (a c : List ℕ) → folded_bytes a ≡ a → a ≡ codes "resistor." ++ c → ⊥
no_resistor a c folded e = let big : 0x52 ≡ 0x72 = first_folded a 0x72 (codes "esistor." ++ c) folded e in omega (arith, big)

no_diode : (a c : List ℕ) → folded_bytes a ≡ a → a ≡ codes "diode." ++ c → ⊥
no_diode a c folded e = let big : 0x44 ≡ 0x64 = first_folded a 0x64 (codes "iode." ++ c) folded e in omega (arith, big)

apart : (c d : List ℕ) → codes "resistor." ++ c ≡ codes "diode." ++ d → ⊥
apart c d e = let first : 0x72 ≡ 0x64 = ap (λ (t : List ℕ). get_or t 0 0) e in omega (arith, first)

abbrev named : DeviceKind → List ℕ → Class
named kind name = record { kind = kind; name = name }

by_kinds : (k j : DeviceKind) (a b : List ℕ) → folded_bytes a ≡ a → folded_bytes b ≡ b → kind_mark k ++ a ≡ kind_mark j ++ b → named k a ≡ named j b
by_kinds Mos4 Mos4 a b f g e = ap (named Mos4) e
by_kinds ResistorWithBulk ResistorWithBulk a b f g e = ap (named ResistorWithBulk) (ap (drop 9) e)
by_kinds Diode Diode a b f g e = ap (named Diode) (ap (drop 6) e)
by_kinds Mos4 ResistorWithBulk a b f g e = absurd (no_resistor a b f e)
by_kinds Mos4 Diode a b f g e = absurd (no_diode a b f e)
by_kinds ResistorWithBulk Mos4 a b f g e = absurd (no_resistor b a g (sym e))
by_kinds ResistorWithBulk Diode a b f g e = absurd (apart a b e)
by_kinds Diode Mos4 a b f g e = absurd (no_diode b a g (sym e))
by_kinds Diode ResistorWithBulk a b f g e = absurd (apart b a (sym e))

pub one_name : OneNameLaw
one_name a b f g e = by_kinds a.kind b.kind a.name b.name f g e

-- ---- in order of first sight

kind_is : (k j : DeviceKind) → same.it k j ≡ same_device_kind k j
kind_is Mos4 Mos4 = refl
kind_is Mos4 ResistorWithBulk = refl
kind_is Mos4 Diode = refl
kind_is ResistorWithBulk Mos4 = refl
kind_is ResistorWithBulk ResistorWithBulk = refl
kind_is ResistorWithBulk Diode = refl
kind_is Diode Mos4 = refl
kind_is Diode ResistorWithBulk = refl
kind_is Diode Diode = refl

-- the derived test
class_is : (a b : DeviceClass) → eq-value.it a b ≡ same_class (class_seen a) (class_seen b)
class_is a b = ap (λ (t : Bool). t && bytes_eq a.name.now b.name.now) (kind_is a.kind b.kind)

listed_too : (c : DeviceClass) (keys : List DeviceClass) → list_any (eq-value.it c) keys ≡ list_any (same_class (class_seen c)) (map class_seen keys)
listed_too c [] = refl
listed_too c (k ∷ keys) = ap₂ (λ (s t : Bool). s || t) (class_is c k) (listed_too c keys)

-- where one is added
pub class_more : (keys : List DeviceClass) (c : DeviceClass) → map class_seen (insert_key eq-value.it keys c) ≡ with_class (map class_seen keys) (class_seen c)
class_more keys c = by (list_any (eq-value.it c) keys) refl
  where
    by : (t : Bool) → list_any (eq-value.it c) keys ≡ t → map class_seen (insert_key eq-value.it keys c) ≡ with_class (map class_seen keys) (class_seen c)
    by true e = rw (e, sym (listed_too c keys) ∙ e) refl
    by false e = rw (e, sym (listed_too c keys) ∙ e) (map-append class_seen keys (c ∷ []))

pub classes_append : (seen cs more : List Class) → first_classes seen (cs ++ more) ≡ first_classes (first_classes seen cs) more
classes_append seen [] more = refl
classes_append seen (c ∷ cs) more = classes_append (with_class seen c) cs more
