-- Options, read one after the other.
use Rattle.std.proofs.Common.{◌≡◌, ◌+◌, ◌++◌, ℕ, Bool, true, false, List, [], ◌∷◌, length, take, drop, get_or, map, ◌≤◌, ◌-◌, subst, if◌then◌else◌, Option, Some, None, refl, sym, ap, ◌∙◌, arith, append_assoc}
use Rattle.std.proofs.lemmas.List.{drop_all, take_all}
use Rattle.std.specs.List.{position_or_len, before_first, after_first}
use Rattle.lvs_words.specs.Flags.{is_same}
use Rattle.lvs_words.specs.Seen.{seen, seen_all}
use Rattle.lvs_words.specs.declared.items.Item.{Item as Code}
use Rattle.lvs_words.specs.declared.flag.Flag.{Flag}
use Rattle.lvs_words.specs.Items.{Item, AreValues, value_of, holds_value, is_equals, is_value, items, named, onto, own_item}

-- these options, then those
abbrev pub behind : List Item → Option (List Item) → Option (List Item)
behind is None = None
behind is (Some more) = Some (is ++ more)

pub behind_one : (is : List Item) (i : Item) (more : Option (List Item)) → behind (is ++ i ∷ []) more ≡ behind is (onto (Some i) more)
behind_one is i None = refl
behind_one is i (Some more) = ap (λ (xs : List Item). Some xs) (append_assoc is (i ∷ []) more)

pub behind_none : (o : Option (List Item)) → behind [] o ≡ o
behind_none None = refl
behind_none (Some more) = refl

pub values_one : (is : List Item) (i : Item) → AreValues is → is_value i.value ≡ true → AreValues (is ++ i ∷ [])
values_one [] i h v = (v, tt)
values_one (x ∷ xs) i h v = (h.0, values_one xs i h.1 v)

pub items_own : (w : List ℕ) (ws : List (List ℕ)) → holds_value w ≡ true → items (w ∷ ws) ≡ onto (own_item w) (items ws)
items_own w [] h = rw h refl
items_own w (v ∷ vs) h = rw h refl

pub items_two : (w v : List ℕ) (ws : List (List ℕ)) → holds_value w ≡ false → items (w ∷ v ∷ ws) ≡ onto (named w v) (items ws)
items_two w v ws h = rw h refl

pub items_lone : (w : List ℕ) → holds_value w ≡ false → items (w ∷ []) ≡ None
items_lone w h = rw h refl

pub own_as : (w name value : List ℕ) (o : Option Item) → name ≡ before_first is_equals w → value ≡ after_first is_equals w → named name value ≡ o → own_item w ≡ o
own_as w name value o e f h = sym (ap (λ (n : List ℕ). named n value) e ∙ ap (λ (v : List ℕ). named (before_first is_equals w) v) f) ∙ h

past_end : (w : List ℕ) → drop (length w + 1) w ≡ []
past_end w = drop_all (length w + 1) w (omega arith)

-- no value stands behind a `=` that isn't there
pub own_none : (w : List ℕ) → position_or_len is_equals w ≡ length w → own_item w ≡ None
own_none w e = let past : after_first is_equals w ≡ [] = ap (λ (n : ℕ). drop (n + 1) w) e ∙ past_end w in ap (λ (v : List ℕ). named (before_first is_equals w) v) past

value_in : (b : Bool) (x : List ℕ) (o : Option (List ℕ)) (v : List ℕ) → is_value x ≡ true → (o ≡ Some v → is_value v ≡ true) → (if b then Some x else o) ≡ Some v → is_value v ≡ true
value_in true x o v h k e = let same : x ≡ v = cc in subst (λ (w : List ℕ). is_value w ≡ true) same h
value_in false x o v h k e = k e

-- a value that stands there is one
pub value_there : (flag : Flag) (is : List Item) (v : List ℕ) → AreValues is → value_of flag is ≡ Some v → is_value v ≡ true
value_there flag [] v h e = cc
value_there flag (i ∷ is) v h e = value_in (is_same i.flag flag) i.value (value_of flag is) v h.0 (λ f. value_there flag is v h.1 f) e

seen_one : (xs : List Code) (i : Code) → seen_all (xs ++ i ∷ []) ≡ seen_all xs ++ seen i ∷ []
seen_one [] i = refl
seen_one (x ∷ xs) i = ap (λ (ys : List Item). seen x ∷ ys) (seen_one xs i)

-- one more option was read
pub kept_one : (new found : List Code) (i : Code) (ws bs : List (List ℕ)) (whole : Option (List Item)) → new ≡ found ++ i ∷ [] → behind (seen_all found) (items ws) ≡ whole
    → items ws ≡ onto (Some (seen i)) (items bs) → behind (seen_all new) (items bs) ≡ whole
kept_one new found i ws bs whole e had next =
    ap (λ (xs : List Code). behind (seen_all xs) (items bs)) e ∙ (ap (λ (xs : List Item). behind xs (items bs)) (seen_one found i)
    ∙ (behind_one (seen_all found) (seen i) (items bs) ∙ (sym (ap (λ (o : Option (List Item)). behind (seen_all found) o) next) ∙ had)))

pub values_kept : (new found : List Code) (i : Code) → new ≡ found ++ i ∷ [] → AreValues (seen_all found) → is_value (seen i).value ≡ true → AreValues (seen_all new)
values_kept new found i e had value =
    subst (λ (xs : List Code). AreValues (seen_all xs)) (sym e) (subst (λ (xs : List Item). AreValues xs) (sym (seen_one found i)) (values_one (seen_all found) (seen i) had value))

-- the first of the words, and those behind it
pub front_of : {A : Type 0} → (f : A → List ℕ) (ws : List A) (w : A) → 1 ≤ length ws → w ≡ get_or ws 0 w → map f ws ≡ f w ∷ map f (take (length ws - 1) (drop 1 ws))
front_of f [] w some e = absurd (omega arith)
front_of {A} f (x ∷ xs) w some e =
    let rest : take (length (x ∷ xs) - 1) xs ≡ xs = take_all (length (x ∷ xs) - 1) xs (omega arith) in
    ap (λ (y : A). f y ∷ map f xs) (sym e) ∙ ap (λ (ys : List A). f w ∷ map f ys) (sym rest)
