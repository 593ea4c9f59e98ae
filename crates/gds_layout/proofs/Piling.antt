-- Rectangles laid on piles.
use Rattle.std.proofs.Common.{◌≡◌, ℕ, zero, suc, ◌+◌, ◌<◌, Bool, true, false, cond, List, [], ◌∷◌, ◌++◌, length, set, Some, slice_get, refl, sym, ap, subst, ◌∙◌, arith}
use Rattle.std.proofs.lemmas.Map.Keys.{any_passes_from_place}
use Rattle.std.proofs.lemmas.Bool.{or_parts}
use Rattle.std.specs.Prelude.{◌||◌, ◌&&◌, not}
use Rattle.std.specs.List.{All, AllByRecursion, list_any, position_or_len}
use Rattle.std.proofs.lemmas.List.{map-append}
use Rattle.std.proofs.lemmas.List.Folds.{list_any-append}
use Rattle.std.proofs.lemmas.List.Elements.{All-append, All-set, recursion_from_All}
use Rattle.geo_base.specs.Layers.{is_same_key}
use Rattle.geo_base.specs.Rects.{IsRect}
use Rattle.geo_base.specs.declared.layer.LayerKey.{LayerKey}
use Rattle.geo_base.specs.declared.shapes.Rect.{Rect}
use Rattle.geo_base.specs.declared.shapes.Square.{Square}
use Rattle.rect_sets.specs.Rects.{covers}
use Rattle.gds_layout.specs.declared.piles.Pile.{Pile}
use Rattle.gds_layout.specs.Shapes.{with_key}
use Rattle.gds_layout.specs.Piles.{rects_of, keys_of, AreDifferent, is_on, piles_cover, has_pile, IsPileAt, Gains}

-- ---- keys

pub same_key : (k m : LayerKey) → is_same_key k m ≡ true → k ≡ m
same_key k m h =
    let a : k.layer ≡ m.layer = grind (arith) in
    let b : k.datatype ≡ m.datatype = grind (arith) in
    ap (λ n. let q : LayerKey = record { layer = n; datatype = k.datatype } in q) a ∙ ap (λ n. let q : LayerKey = record { layer = m.layer; datatype = n } in q) b

pub itself : (k : LayerKey) → is_same_key k k ≡ true
itself k = grind (arith)

pub other_key : (k m : LayerKey) → is_same_key k m ≡ false → is_same_key m k ≡ false
other_key k m h = by_test (is_same_key m k) refl
  where
    by_test : (b : Bool) → is_same_key m k ≡ b → b ≡ false
    by_test false e = refl
    by_test true e = let same = same_key m k e in let bad : true ≡ false = sym (itself k) ∙ ap (λ (q : LayerKey). is_same_key k q) (sym same) ∙ h in absurd cc

-- ---- the number of a layer

absent_by : (b : Bool) (n len : ℕ) (rest : Bool) → cond (not b) (1 + n) 0 ≡ suc len → (n ≡ len → rest ≡ false) → (b || rest) ≡ false
absent_by true n len rest e f = absurd (omega (arith, e))
absent_by false n len rest e f = f (omega (arith, e))

pub absent : (key : LayerKey) (ks : List LayerKey) → position_or_len (is_same_key key) ks ≡ length ks → list_any (is_same_key key) ks ≡ false
absent key [] e = refl
absent key (k ∷ ks) e = absent_by (is_same_key key k) (position_or_len (is_same_key key) ks) (length ks) (list_any (is_same_key key) ks) e (absent key ks)

found_by : (key : LayerKey) (p : Pile) (ps : List Pile) (b : Bool) (n i : ℕ) → is_same_key key p.key ≡ b → cond (not b) (1 + n) 0 ≡ i → i < suc (length ps) → (n < length ps → IsPileAt ps key n) → IsPileAt (p ∷ ps) key i
found_by key p ps true n i e f lt h = subst (λ (j : ℕ). IsPileAt (p ∷ ps) key j) f record { pile = p; there = refl; key_is = sym (same_key key p.key e) }
found_by key p ps false n i e f lt h =
    let is = h (omega (arith, f, lt)) in
    let next : suc n ≡ i = omega (arith, f) in
    subst (λ (j : ℕ). IsPileAt (p ∷ ps) key j) next record { pile = is.pile; there = is.there; key_is = is.key_is }

pub found : (key : LayerKey) (ps : List Pile) → position_or_len (is_same_key key) (keys_of ps) < length ps → IsPileAt ps key (position_or_len (is_same_key key) (keys_of ps))
found key [] lt = absurd (omega (arith, lt))
found key (p ∷ ps) lt = found_by key p ps (is_same_key key p.key) (position_or_len (is_same_key key) (keys_of ps)) _ refl refl lt (found key ps)

pub different_more : (ks : List LayerKey) (key : LayerKey) → AreDifferent ks → list_any (is_same_key key) ks ≡ false → AreDifferent (ks ++ key ∷ [])
different_more [] key d none = (refl, tt)
different_more (k ∷ ks) key d none =
    let parts = or_parts (is_same_key key k) (list_any (is_same_key key) ks) none in (
      list_any-append (is_same_key k) ks (key ∷ []) ∙ neither (list_any (is_same_key k) ks) (is_same_key k key) d.0 (other_key key k parts.0),
      different_more ks key d.1 parts.1,
    )
  where
    neither : (a b : Bool) → a ≡ false → b ≡ false → (a || (b || false)) ≡ false
    neither a b e f = rw (e, f) refl

pub map_length : (ps : List Pile) → length (keys_of ps) ≡ length ps
map_length [] = refl
map_length (p ∷ ps) = ap (λ (n : ℕ). suc n) (map_length ps)

pub keys_more : (ps : List Pile) (p : Pile) → keys_of (ps ++ p ∷ []) ≡ keys_of ps ++ p.key ∷ []
keys_more ps p = map-append (λ (q : Pile). q.key) ps (p ∷ [])

-- ---- the pile of a number

at_end : (ps : List Pile) (p : Pile) → slice_get (ps ++ p ∷ []) (length ps) ≡ Some p
at_end [] p = refl
at_end (q ∷ ps) p = at_end ps p

pub last_pile : (ps : List Pile) (p : Pile) (key : LayerKey) (n : ℕ) → n ≡ length ps → p.key ≡ key → IsPileAt (ps ++ p ∷ []) key n
last_pile ps p key n e f = subst (λ (j : ℕ). IsPileAt (ps ++ p ∷ []) key j) (sym e) record { pile = p; there = at_end ps p; key_is = f }

pub has_already : (ps : List Pile) (key : LayerKey) (n : ℕ) → IsPileAt ps key n → (k : LayerKey) → has_pile ps k ≡ (has_pile ps k || is_same_key key k)
has_already ps key n is k = by_test (is_same_key key k) refl
  where
    by_test : (b : Bool) → is_same_key key k ≡ b → has_pile ps k ≡ (has_pile ps k || b)
    by_test false e = or_none (has_pile ps k)
      where
        or_none : (a : Bool) → a ≡ (a || false)
        or_none true = refl
        or_none false = refl
    by_test true e =
        let on : has_pile ps k ≡ true = any_passes_from_place (λ (p : Pile). is_same_key p.key k) ps n is.pile is.there (ap (λ (q : LayerKey). is_same_key q k) is.key_is ∙ e) in
        on ∙ sym (ap (λ (b : Bool). b || true) on)

-- the key isn't among them, and is added; or it is
pub key_added : (keys : List LayerKey) (key : LayerKey) → list_any (is_same_key key) keys ≡ false → keys ++ key ∷ [] ≡ with_key keys key
key_added keys key none = rw none refl

among_at : (ps : List Pile) (key : LayerKey) (n : ℕ) (p : Pile) → slice_get ps n ≡ Some p → p.key ≡ key → list_any (is_same_key key) (keys_of ps) ≡ true
among_at [] key n p e f = absurd cc
among_at (q ∷ ps) key zero p e f =
    let same : q ≡ p = cc in
    ap (λ (b : Bool). b || list_any (is_same_key key) (keys_of ps)) (ap (λ (k : LayerKey). is_same_key key k) (ap (λ (r : Pile). r.key) same ∙ f) ∙ itself key)
among_at (q ∷ ps) key (suc n) p e f = either (is_same_key key q.key) (list_any (is_same_key key) (keys_of ps)) (among_at ps key n p e f)
  where
    either : (a b : Bool) → b ≡ true → (a || b) ≡ true
    either true b e = refl
    either false b e = e

pub key_among : (ps : List Pile) (key : LayerKey) (n : ℕ) → IsPileAt ps key n → keys_of ps ≡ with_key (keys_of ps) key
key_among ps key n is = rw (among_at ps key n is.pile is.there is.key_is) refl

-- ---- a pile that gained rectangles

or_more : (a b c : Bool) → ((a || b) || c) ≡ ((a || c) || b)
or_more true b c = refl
or_more false true true = refl
or_more false true false = refl
or_more false false c = or_none c
  where
    or_none : (c : Bool) → c ≡ (c || false)
    or_none true = refl
    or_none false = refl

or_assoc : (a b c : Bool) → (a || (b || c)) ≡ ((a || b) || c)
or_assoc true b c = refl
or_assoc false b c = refl

pub any_set : {A : Type 0} (f : A → Bool) (xs : List A) (i : ℕ) (x y : A) (b : Bool) → slice_get xs i ≡ Some x → f y ≡ (f x || b) → list_any f (set xs i y) ≡ (list_any f xs || b)
any_set f [] i x y b e h = absurd cc
any_set f (z ∷ xs) zero x y b e h =
    let same : z ≡ x = cc in
    ap (λ (t : Bool). t || list_any f xs) h ∙ or_more (f x) b (list_any f xs) ∙ ap (λ (t : Bool). (t || list_any f xs) || b) (sym (ap f same))
any_set f (z ∷ xs) (suc i) x y b e h = ap (λ (t : Bool). f z || t) (any_set f xs i x y b e h) ∙ or_assoc (f z) (list_any f xs) b

keys_set : (ps : List Pile) (i : ℕ) (p q : Pile) → slice_get ps i ≡ Some p → q.key ≡ p.key → keys_of (set ps i q) ≡ keys_of ps
keys_set [] i p q e h = absurd cc
keys_set (z ∷ ps) zero p q e h = let same : z ≡ p = cc in ap (λ (k : LayerKey). k ∷ keys_of ps) (h ∙ sym (ap (λ (r : Pile). r.key) same))
keys_set (z ∷ ps) (suc i) p q e h = ap (λ (ks : List LayerKey). z.key ∷ ks) (keys_set ps i p q e h)

pub gained_keys : (n : ℕ) (more : List Rect) (old new : List Pile) → Gains n more old new → keys_of new ≡ keys_of old
gained_keys n more old new g = ap keys_of g.is ∙ keys_set old n g.before g.after g.there g.key_is

abbrev Sound : List Pile → Type 0
Sound ps = All (λ q. All IsRect (rects_of q)) ps

rects_at : (ps : List Pile) (i : ℕ) (p : Pile) → AllByRecursion (λ (q : Pile). All IsRect (rects_of q)) ps → slice_get ps i ≡ Some p → All IsRect (rects_of p)
rects_at [] i p h e = absurd cc
rects_at (q ∷ ps) zero p h e = let same : q ≡ p = cc in subst (λ (r : Pile). All IsRect (rects_of r)) same h.0
rects_at (q ∷ ps) (suc i) p h e = rects_at ps i p h.1 e

pub gained_sound : (n : ℕ) (more : List Rect) (old new : List Pile) → Gains n more old new → Sound old → All IsRect more → Sound new
gained_sound n more old new g h m =
    let P : Pile → Type 0 = λ q. All IsRect (rects_of q) in
    let before = rects_at old n g.before (recursion_from_All P old h) g.there in
    let after : All IsRect (rects_of g.after) = subst (λ (rs : List Rect). All IsRect rs) (sym g.rects_are) (All-append IsRect (rects_of g.before) more before m) in
    subst Sound (sym g.is) (All-set P old n g.after after h)

and_or : (a b c : Bool) → (a && (b || c)) ≡ ((a && b) || (a && c))
and_or true b c = refl
and_or false b c = refl

pub gained_covers : (n : ℕ) (more : List Rect) (old new : List Pile) (g : Gains n more old new) (k : LayerKey) (s : Square) → piles_cover new k s ≡ (piles_cover old k s || (is_same_key g.before.key k && covers more s))
gained_covers n more old new g k s =
    let on = is_same_key g.before.key k in
    let after : is_on k s g.after ≡ (is_on k s g.before || (on && covers more s)) =
    ap (λ (q : LayerKey). is_same_key q k && covers (rects_of g.after) s) g.key_is
    ∙ ap (λ (rs : List Rect). on && covers rs s) g.rects_are
    ∙ ap (λ (b : Bool). on && b) (list_any-append _ (rects_of g.before) more)
    ∙ and_or on (covers (rects_of g.before) s) (covers more s) in
    ap (λ (ps : List Pile). piles_cover ps k s) g.is ∙ any_set (is_on k s) old n g.before g.after (on && covers more s) g.there after

pub gained_has : (n : ℕ) (more : List Rect) (old new : List Pile) → Gains n more old new → (k : LayerKey) → has_pile new k ≡ has_pile old k
gained_has n more old new g k =
    ap (λ (ps : List Pile). has_pile ps k) g.is
    ∙ any_set (λ (p : Pile). is_same_key p.key k) old n g.before g.after false g.there (ap (λ (q : LayerKey). is_same_key q k) g.key_is ∙ or_none (is_same_key g.before.key k))
    ∙ sym (or_none (has_pile old k))
  where
    or_none : (a : Bool) → a ≡ (a || false)
    or_none true = refl
    or_none false = refl

pub gained_key : (n : ℕ) (more : List Rect) (old new : List Pile) (key : LayerKey) (g : Gains n more old new) → IsPileAt old key n → g.before.key ≡ key
gained_key n more old new key g is = let same : g.before ≡ is.pile = cc in ap (λ (p : Pile). p.key) same ∙ is.key_is
