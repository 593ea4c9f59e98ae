-- Keys of transistors, and which transistors are alike.
use Rattle.std.proofs.Common.{◌≡◌, ◌<◌, ◌≤◌, ◌+◌, inl, inr, ℕ, suc, Bool, true, false, ◌==◌, ◌&&◌, ◌||◌, nat_lt, cond, Some, None, List, [], ◌∷◌, length, refl, ap, ap₂, ◌∙◌, sym, subst, arith, true≢false, ◌++◌}
use Rattle.base_laws.proofs.Tests.{same_truth, turned_test}
use Rattle.std.proofs.lemmas.Bool.{cases_Bool}
use Rattle.std.specs.Prelude.{if◌then◌else◌, not, bytes_eq, unwrap_or}
use Rattle.std.specs.Option.{option_eq}
use Rattle.std.specs.List.{list_any, position_or_len}
use Rattle.std.proofs.lemmas.Slice.Eq.{bytes_eq-Decides}
use Rattle.plain_netlist.specs.Netlist.{DeviceRow}
use Rattle.merge_laws.specs.Grouped.{Group, is_alike, same_ends}
use Rattle.merge_laws.specs.Merge.{may_merge, may_merge_row, with_added}
use Rattle.plain_netlist.specs.declared.kinds.DeviceKind.{DeviceKind}
use Rattle.plain_netlist.specs.declared.kinds.DeviceKind.TheVariants.{Mos4, ResistorWithBulk, Diode}
use Rattle.plain_netlist.specs.contracts.kinds.DeviceKindPartialEq.TheImpl.{eq-value as same}
use Rattle.plain_netlist.specs.Devices.{Both, exchanged}
use Rattle.plain_netlist.specs.Kinds.{kind_number, same_device_kind}
use Rattle.plain_netlist.proofs.Rows.{same_kind}
use Rattle.device_merge.specs.Keys.{AreKeys, IsKey, SaysTerminals, lone, lower, higher, place_of}
use Rattle.device_merge.specs.contracts.keys.DeviceKeyPartialEq.TheImpl.{eq-value}
use Rattle.device_merge.specs.declared.keys.DeviceKey.{DeviceKey}

-- the two nets in the order of their numbers
pub ordered : (a b c d : ℕ) (p q : Bool) → nat_lt a b ≡ p → nat_lt c d ≡ q
    → (((if p then a else b) == (if q then c else d)) && ((if p then b else a) == (if q then d else c))) ≡ ((c == a && d == b) || (c == b && d == a))
ordered a b c d true true e f = grind (arith, e, f)
ordered a b c d true false e f = grind (arith, e, f)
ordered a b c d false true e f = grind (arith, e, f)
ordered a b c d false false e f = grind (arith, e, f)

pub channel : (a b c d : ℕ) → ((lower a b == lower c d) && (higher a b == higher c d)) ≡ ((c == a && d == b) || (c == b && d == a))
channel a b c d = ordered a b c d (nat_lt a b) (nat_lt c d) refl refl

pub bytes_turned : (xs ys : List ℕ) → bytes_eq xs ys ≡ bytes_eq ys xs
bytes_turned xs ys = same_truth (bytes_eq xs ys) (bytes_eq ys xs) (λ e. (bytes_eq-Decides ys xs).1 (sym ((bytes_eq-Decides xs ys).0 e))) (λ e. (bytes_eq-Decides xs ys).1 (sym ((bytes_eq-Decides ys xs).0 e)))

-- the tests of a key in their order
abbrev key_tests : (k c s l h t f o : Bool) → Bool
key_tests k c s l h t f o = k && (c && (s && (l && (h && (t && (f && o))))))

abbrev alike_tests : (m k c s o e : Bool) → Bool
alike_tests m k c s o e = m && k && c && s && o && e

-- of one kind and class, and yet apart
keys_apart : (k c s l h t f o : Bool) → (k ≡ true → c ≡ true → o ≡ false) → key_tests k c s l h t f o ≡ false
keys_apart false c s l h t f o not = refl
keys_apart true false s l h t f o not = refl
keys_apart true true false l h t f o not = refl
keys_apart true true true false h t f o not = refl
keys_apart true true true true false t f o not = refl
keys_apart true true true true true false f o not = refl
keys_apart true true true true true true false o not = refl
keys_apart true true true true true true true o not = not refl refl

rows_apart : (m k c s o e : Bool) → (m ≡ true → k ≡ true → c ≡ true → ⊥) → alike_tests m k c s o e ≡ false
rows_apart false k c s o e not = refl
rows_apart true false c s o e not = refl
rows_apart true true false s o e not = refl
rows_apart true true true s o e not = absurd (not refl refl refl)

-- the tests of a key are those of alike devices in theirs
tests : (k c s l h t f e : Bool) → (l && h) ≡ e → key_tests k c s l h t f true ≡ alike_tests true k c (s && true) (t && (f && true)) e
tests false c s l h t f e is = refl
tests true false s l h t f e is = refl
tests true true false l h t f e is = refl
tests true true true true true false f e is = refl
tests true true true true false false f e is = refl
tests true true true false h false f e is = refl
tests true true true true true true false e is = refl
tests true true true true false true false e is = refl
tests true true true false h true false e is = refl
tests true true true true true true true e is = is
tests true true true true false true true e is = is
tests true true true false h true true e is = is

kind_is : (k j : DeviceKind) → same.it k j ≡ same_device_kind k j
kind_is Mos4 Mos4 = refl
kind_is Mos4 ResistorWithBulk = refl
kind_is Mos4 Diode = refl
kind_is ResistorWithBulk Mos4 = refl
kind_is ResistorWithBulk ResistorWithBulk = refl
kind_is ResistorWithBulk Diode = refl
kind_is Diode Mos4 = refl
kind_is Diode ResistorWithBulk = refl
kind_is Diode Diode = refl

-- devices of one kind and class merge alike
one_may : (row first : DeviceRow) → row.kind ≡ first.kind → row.class ≡ first.class → may_merge_row row ≡ may_merge_row first
one_may row first k c = ap (λ (kind : DeviceKind). may_merge kind row.class) k ∙ ap (may_merge first.kind) c

-- where one of the two may not merge, the places of those alike to none tell them apart
lone_apart : (m p : Bool) (i n : ℕ) → i < n → m ≡ false → p ≡ false → option_eq ◌==◌ (if m then None else Some n) (if p then None else Some i) ≡ false
lone_apart false false i n low e f = grind (arith, low)
lone_apart true p i n low e f = absurd (true≢false e)
lone_apart false true i n low e f = absurd (true≢false f)

pub same_key : (q k : DeviceKey) (n place : ℕ) (row first : DeviceRow) → place < n → IsKey q n row → IsKey k place first → eq-value.it q k ≡ is_alike first row
same_key q k n place row first low a b = elim (cases_Bool (may_merge_row first)) [
  | inr off ↦ apart (λ e. e ∙ off) (λ e. off) ∙ sym (rows_apart (may_merge_row first) _ _ _ _ _ (λ on i c. true≢false (sym on ∙ off)))
  | inl on ↦ elim (cases_Bool (may_merge_row row)) [
    | inr off ↦ apart (λ e. off) (λ e. sym e ∙ off)
        ∙ sym (rows_apart _ (same_device_kind first.kind row.kind) (bytes_eq first.class row.class) _ _ _ (λ m i c.
        true≢false (sym on ∙ one_may first row ((same_kind first.kind row.kind).0 i) ((bytes_eq-Decides first.class row.class).0 c) ∙ off)))
    | inl too ↦ both (a.says too) (b.says on) on too
  ]
]
  where
    apart : (may_merge_row row ≡ may_merge_row first → may_merge_row row ≡ false) → (may_merge_row row ≡ may_merge_row first → may_merge_row first ≡ false) → eq-value.it q k ≡ false
    apart f g = keys_apart (same.it q.kind k.kind) (bytes_eq q.class.now k.class.now) (q.kept == k.kept) (q.low == k.low) (q.high == k.high) (q.third == k.third) (q.fourth == k.fourth) (option_eq ◌==◌ q.alone k.alone)
        (λ i c.
        let kind : row.kind ≡ first.kind = sym a.kind ∙ (same_kind q.kind k.kind).0 (sym (kind_is q.kind k.kind) ∙ i) ∙ b.kind in
        let class : row.class ≡ first.class = sym a.class ∙ (bytes_eq-Decides q.class.now k.class.now).0 c ∙ b.class in
        let may = one_may row first kind class in
        ap₂ (option_eq ◌==◌) a.alone b.alone ∙ lone_apart (may_merge_row row) (may_merge_row first) place n low (f may) (g may))

    both : SaysTerminals q row → SaysTerminals k first → may_merge_row first ≡ true → may_merge_row row ≡ true → eq-value.it q k ≡ is_alike first row
    both x y on too =
        let kinds : same.it q.kind k.kind ≡ same_device_kind first.kind row.kind = kind_is q.kind k.kind ∙ ap₂ same_device_kind a.kind b.kind ∙ turned_test (kind_number row.kind) (kind_number first.kind) in
        let classes : bytes_eq q.class.now k.class.now ≡ bytes_eq first.class row.class = ap₂ bytes_eq a.class b.class ∙ bytes_turned row.class first.class in
        let kept = turned_test q.kept k.kept in
        let third = turned_test q.third k.third in
        let fourth = turned_test q.fourth k.fourth in
        let lone : option_eq ◌==◌ q.alone k.alone ≡ true = ap₂ (option_eq ◌==◌) a.alone b.alone ∙ rw (on, too) refl in
        let ends : ((q.low == k.low) && (q.high == k.high)) ≡ (same_ends (Both y.a y.b) (Both x.a x.b) || same_ends (Both y.a y.b) (Both x.b x.a))
        = rw (x.low, x.high, y.low, y.high) (channel x.a x.b y.a y.b) in
        let here : key_tests (same.it q.kind k.kind) (bytes_eq q.class.now k.class.now) (q.kept == k.kept) (q.low == k.low) (q.high == k.high) (q.third == k.third) (q.fourth == k.fourth) (option_eq ◌==◌ q.alone k.alone)
        ≡ key_tests (same_device_kind first.kind row.kind) (bytes_eq first.class row.class) (k.kept == q.kept) (q.low == k.low) (q.high == k.high) (k.third == q.third) (k.fourth == q.fourth) true
        = cc in
        let crossed : exchanged row.ends ≡ Both x.b x.a = ap exchanged x.ends in
        let there : alike_tests (may_merge_row first) (same_device_kind first.kind row.kind) (bytes_eq first.class row.class) (bytes_eq (with_added first.sizes 0) (with_added row.sizes 0)) (bytes_eq first.others row.others)
        (same_ends first.ends row.ends || same_ends first.ends (exchanged row.ends))
        ≡ alike_tests true (same_device_kind first.kind row.kind) (bytes_eq first.class row.class) (bytes_eq (k.kept ∷ 0 ∷ []) (q.kept ∷ 0 ∷ [])) (bytes_eq (k.third ∷ k.fourth ∷ []) (q.third ∷ q.fourth ∷ []))
        (same_ends (Both y.a y.b) (Both x.a x.b) || same_ends (Both y.a y.b) (Both x.b x.a))
        = (let s = x.sizes in let t = y.sizes in let o = x.others in let p = y.others in let d = x.ends in let e = y.ends in cc) in
        here ∙ tests (same_device_kind first.kind row.kind) (bytes_eq first.class row.class) (k.kept == q.kept) (q.low == k.low) (q.high == k.high) (k.third == q.third) (k.fourth == q.fourth) _ ends ∙ sym there

-- the place of a key among the keys of the groups
pub placed : (n m : ℕ) (keys : List DeviceKey) (gs : List Group) (q : DeviceKey) (row : DeviceRow) → AreKeys n keys gs → n + length gs ≤ m → IsKey q m row
    → position_or_len (eq-value.it q) keys ≡ place_of gs row
placed n m [] [] q row h low k = refl
placed n m (key ∷ keys) (g ∷ gs) q row h low k =
    rw (same_key q key m n row g.first.row (omega arith) k h.0)
    (ap (λ (i : ℕ). cond (not (is_alike g.first.row row)) (1 + i) 0) (placed (suc n) m keys gs q row h.1 (omega arith) k))
placed n m [] (g ∷ gs) q row h low k = absurd h
placed n m (key ∷ keys) [] q row h low k = absurd h

-- as many keys as groups
pub as_many : (n : ℕ) (keys : List DeviceKey) (gs : List Group) → AreKeys n keys gs → length keys ≡ length gs
as_many n [] [] h = refl
as_many n (key ∷ keys) (g ∷ gs) h = ap (λ (i : ℕ). suc i) (as_many (suc n) keys gs h.1)
as_many n [] (g ∷ gs) h = absurd h
as_many n (key ∷ keys) [] h = absurd h

-- the place, or the length
pub or_len : (n m : ℕ) (b : Bool) → nat_lt n m ≡ b → n ≤ m → unwrap_or (cond b (Some n) None) m ≡ n
or_len n m true e h = refl
or_len n m false e h = grind (arith, e, h)

-- a key that isn't found isn't there
pub absent : {A : Type 0} (xs : List A) (p : A → Bool) → position_or_len p xs ≡ length xs → list_any p xs ≡ false
absent [] p e = refl
absent (x ∷ xs) p e = elim (cases_Bool (p x)) [
  | inl y ↦ let z : 0 ≡ suc (length xs) = sym (rw y refl) ∙ e in absurd (omega arith)
  | inr n ↦ rw n (absent xs p (let z : 1 + position_or_len p xs ≡ suc (length xs) = sym (rw n refl) ∙ e in omega arith))
]

-- what isn't there goes last
pub pushed : {A : Type 0} (b : Bool) (xs : List A) (x : A) → b ≡ false → cond b xs (xs ++ x ∷ []) ≡ xs ++ x ∷ []
pushed b xs x e = rw e refl

-- a key behind those of the groups
pub keys_more : (n m : ℕ) (keys : List DeviceKey) (gs : List Group) (key : DeviceKey) (place : ℕ) (row : DeviceRow) → AreKeys n keys gs → m ≡ n + length gs → IsKey key m row
    → AreKeys n (keys ++ key ∷ []) (gs ++ lone place row ∷ [])
keys_more n m [] [] key place row h e k = (subst (λ (i : ℕ). IsKey key i row) (let z : m ≡ n = omega arith in z) k, tt)
keys_more n m (o ∷ keys) (g ∷ gs) key place row h e k = (h.0, keys_more (suc n) m keys gs key place row h.1 (omega arith) k)
keys_more n m [] (g ∷ gs) key place row h e k = absurd h
keys_more n m (o ∷ keys) [] key place row h e k = absurd h
