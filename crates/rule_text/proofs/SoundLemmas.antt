-- A statement that passes keeps the entries sound.
use Rattle.std.proofs.Common.{◌≡◌, inl, inr, ℕ, zero, suc, ◌+◌, ◌<◌, ◌≤◌, List, [], ◌∷◌, ◌++◌, length, map, Bool, true, false, cond, Option, Some, None, refl, sym, ap, subst, ◌∙◌, arith}
use Rattle.base_laws.proofs.Items.{push_cases, get_front, get_last, push_old}
use Rattle.std.proofs.lemmas.Option.{slice_get_within}
use Rattle.std.proofs.lemmas.Bool.{and_parts, or_parts}
use Rattle.std.specs.Prelude.{◌||◌, not, nat_le, slice_get, if◌then◌else◌}
use Rattle.std.specs.List.{All, list_any, list_all, position_or_len}
use Rattle.std.specs.Str.{bytes_eq}
use Rattle.std.proofs.lemmas.List.{map-append, length-map, length-append}
use Rattle.std.proofs.lemmas.Slice.Eq.{bytes_eq-Decides}
use Rattle.net_names.specs.Folding.{folded_bytes}
use Rattle.geo_base.specs.declared.layer.LayerKey.{LayerKey}
use Rattle.rule_text.specs.declared.fault.RuleFault.{RuleFault}
use Rattle.rule_text.specs.declared.rules.LayerForm.{LayerForm}
use Rattle.rule_text.specs.declared.rules.LayerForm.TheVariants as form
use Rattle.rule_text.specs.declared.rules.LayerRule.{LayerRule}
use Rattle.rule_text.specs.declared.rules.Output.{Output}
use Rattle.rule_text.specs.declared.rules.SelectRule.{SelectRule}
use Rattle.rule_text.specs.declared.rules.MosRule.{MosRule}
use Rattle.rule_text.specs.declared.rules.MoreRule.{MoreRule}
use Rattle.rule_text.specs.declared.rules.MoreRule.TheVariants as more
use Rattle.rule_text.specs.Rows.{is_string, Form, Input, Labels, Empty, Binary, Sized, Mos, More, Resistor, Diode, Statement, Define, Choice, Choose, Draw, Connect, Global, Extract, Further, Same, FlattenLayout, FlattenSchematic, FlattenUnmatched, SamePins, KeepCovered, Combine, MaxGuesses, Accepted}
use Rattle.rule_text.specs.Rules.{Rules, no_rules, names_of, place_of, is_defined, is_text_rule, has_texts, is_labels, operands_of, uses_of, reach_of, is_far, is_twice, is_misplaced, statement_fault, numbered, mos_rule, further_rule, class_in, has_class, mos_classes, more_classes, named, select_key, select_rule, choosing, drawn, extracting, going_on, paired, names_layout, names_schematic, flattening_layout, flattening_schematic, with_statement}
use Rattle.geo_base.specs.Layers.{IsStreamKey, is_same_key}
use Rattle.rule_text.specs.Filled.{IsFilled, IsFilledForm, IsString, class_of}
use Rattle.rule_text.specs.Reaches.{MOST_REACH, reach_by, reaches}
use Rattle.rule_text.specs.Reading.{is_connected, is_more_connected, first_loose, first_loose_more, lesser, loose_of}
use Rattle.plain_netlist.specs.Lists.{AreApart, AreRising}
use Rattle.plain_netlist.proofs.Listing.{apart_at, at_apart, rising_at, at_rising}
use Rattle.rule_text.specs.Sound.{Each, IsLayer, AreOperands, IsReadable, IsSelectRule, IsNamedBefore, AreJoined, AreMosLayers, AreMoreLayers, IsFormed, IsSound}
use Rattle.rule_text.proofs.ReachLemmas.{reaches_more}
use Rattle.std.proofs.lemmas.List.Elements.{All-nil, All-push}

-- what a statement that passes is known of
tests : (a z b c d : Bool) (f y g h i : RuleFault) → (if not a then Some f else if z then Some y else if b then Some g else if c then Some h else if d then Some i else None) ≡ None
    → (a ≡ true) × (z ≡ false) × (b ≡ false) × (c ≡ false)
tests false z b c d f y g h i e = absurd cc
tests true true b c d f y g h i e = absurd cc
tests true false true c d f y g h i e = absurd cc
tests true false false true d f y g h i e = absurd cc
tests true false false false d f y g h i e = (refl, refl, refl, refl)

-- lists with an entry more

pub each_more : {A : Type 0} (P : ℕ → A → Type 0) (xs : List A) (x : A) → Each P xs → P (length xs) x → Each P (xs ++ x ∷ [])
each_more {A = A} P xs x each last = λ k y e. elim (push_cases xs x y k e) [
  | inl h ↦ each k y h
  | inr (at, same) ↦ subst (λ (z : A). P k z) same (subst (λ (j : ℕ). P j x) (sym at) last)
]

lacks : {A : Type 0} (p : A → Bool) (xs : List A) (k : ℕ) (x : A) → list_any p xs ≡ false → slice_get xs k ≡ Some x → p x ≡ true → ⊥
lacks p [] k x none e h = absurd cc
lacks p (y ∷ ys) zero x none e h =
    let same : y ≡ x = cc in
    let yes_ : p y ≡ true = ap p same ∙ h in
    let no_ = or_parts (p y) (list_any p ys) none in
    let wrong : true ≡ false = sym yes_ ∙ no_.0 in absurd cc
lacks p (y ∷ ys) (suc k) x none e h = lacks p ys k x (or_parts (p y) (list_any p ys) none).1 e h

pub apart_more : {A : Type 0} (p : A → Bool) (xs : List A) (x : A) → p x ≡ true → list_any p xs ≡ false → AreApart xs → AreApart (xs ++ x ∷ [])
apart_more p xs x is none apart = at_apart (xs ++ x ∷ []) (λ j k y e f. elim (push_cases xs x y j e) [
  | inl h ↦ elim (push_cases xs x y k f) [
    | inl g ↦ apart_at y xs j k apart h g
    | inr (at, same) ↦ absurd (lacks p xs j y none h (ap p (sym same) ∙ is))
  ]
  | inr (at, same) ↦ elim (push_cases xs x y k f) [
    | inl g ↦ absurd (lacks p xs k y none g (ap p (sym same) ∙ is))
    | inr (also, too) ↦ at ∙ sym also
  ]
])

map_apart : {A B : Type 0} (p : B → Bool) (f : A → B) (xs : List A) (x : A) → p (f x) ≡ true → list_any p (map f xs) ≡ false → AreApart (map f xs) → AreApart (map f (xs ++ x ∷ []))
map_apart {B = B} p f xs x is none apart =
    subst (λ (ys : List B). AreApart ys) (sym (map-append f xs (x ∷ []))) (apart_more p (map f xs) (f x) is none apart)

same_bytes : (w : List ℕ) → bytes_eq w w ≡ true
same_bytes w = (bytes_eq-Decides w w).1 refl

same_key : (k : LayerKey) → is_same_key k k ≡ true
same_key k = grind arith

-- names

place_step : (b : Bool) (n m : ℕ) (rest : Bool) → (b || rest) ≡ true → (rest ≡ true → n < m) → cond (not b) (1 + n) 0 < suc m
place_step true n m rest e h = omega arith
place_step false n m rest e h = omega (arith, h e)

pub place_below : {A : Type 0} (p : A → Bool) (xs : List A) → list_any p xs ≡ true → position_or_len p xs < length xs
place_below p [] e = absurd cc
place_below p (x ∷ xs) e = place_step (p x) (position_or_len p xs) (length xs) (list_any p xs) e (λ h. place_below p xs h)

pub name_below : (w : List ℕ) (r : Rules) → is_defined w r ≡ true → place_of w r < length r.names
name_below w r e = subst (λ (n : ℕ). place_of w r < n) (length-map r.names (λ n. n.name)) (place_below (bytes_eq w) (names_of r) e)

layer : (w : List ℕ) (r : Rules) → is_defined w r ≡ true → is_labels w r ≡ false → IsLayer r.names (place_of w r)
layer w r e f = record { below = name_below w r e; plain = f }

texts_kept : (names : List LayerRule) (n : LayerRule) (k : ℕ) → k < length names → has_texts k (names ++ n ∷ []) ≡ has_texts k names
texts_kept names n k h = ap (λ o. is_text_rule o) (get_front names (n ∷ []) k h)

more_below : (names : List LayerRule) (n : LayerRule) (k : ℕ) → k < length names → k < length (names ++ n ∷ [])
more_below names n k h = let e = length-append names (n ∷ []) in omega (arith, e, h)

layer_kept : (names : List LayerRule) (n : LayerRule) (k : ℕ) → IsLayer names k → IsLayer (names ++ n ∷ []) k
layer_kept names n k h = record { below = more_below names n k h.below; plain = texts_kept names n k h.below ∙ h.plain }

joined_kept : (names : List LayerRule) (n : LayerRule) (a b : ℕ) → AreJoined names a b → AreJoined (names ++ n ∷ []) a b
joined_kept names n a b h = record {
  left = more_below names n a h.left;
  right = more_below names n b h.right;
  plain = rw (texts_kept names n a h.left, texts_kept names n b h.right) h.plain;
}

mos_kept : (names : List LayerRule) (n : LayerRule) (d : MosRule) → AreMosLayers names d → AreMosLayers (names ++ n ∷ []) d
mos_kept names n d h = record {
  sd = layer_kept names n d.sd h.sd;
  g = layer_kept names n d.g h.g;
  w = layer_kept names n d.w h.w;
  ts = layer_kept names n d.ts h.ts;
  tg = layer_kept names n d.tg h.tg;
  tb = layer_kept names n d.tb h.tb;
}

more_kept : (names : List LayerRule) (n : LayerRule) (d : MoreRule) → AreMoreLayers names d → AreMoreLayers (names ++ n ∷ []) d
more_kept names n (more.Resistor class r c w ta tw) h =
    (layer_kept names n r h.0, layer_kept names n c h.1, layer_kept names n w h.2, layer_kept names n ta h.3, layer_kept names n tw h.4)
more_kept names n (more.Diode class p m ta tc) h = (layer_kept names n p h.0, layer_kept names n m h.1, layer_kept names n ta h.2, layer_kept names n tc h.3)

operands_kept : (names : List LayerRule) (n : LayerRule) (k : ℕ) (f : LayerForm) → AreOperands names k f → AreOperands (names ++ n ∷ []) k f
operands_kept names n k (form.Input key) h = tt
operands_kept names n k (form.Labels key) h = tt
operands_kept names n k form.Empty h = tt
operands_kept names n k (form.Binary op a b) h = (h.0, h.1, layer_kept names n a h.2, layer_kept names n b h.3)
operands_kept names n k (form.Sized a by) h = (h.0, layer_kept names n a h.1, h.2)

-- the layers that a statement uses

abbrev AllLayers : Rules → List (List ℕ) → Type 0
AllLayers r [] = Unit {0}
AllLayers r (w ∷ ws) = IsLayer r.names (place_of w r) × AllLayers r ws

all_layers : (r : Rules) (ws : List (List ℕ)) → list_all (λ w. is_defined w r) ws ≡ true → list_any (λ w. is_labels w r) ws ≡ false → AllLayers r ws
all_layers r [] e f = tt
all_layers r (w ∷ ws) e f =
    let d = and_parts (is_defined w r) (list_all (λ v. is_defined v r) ws) e in
    let l = or_parts (is_labels w r) (list_any (λ v. is_labels v r) ws) f in
    (layer w r d.0 l.0, all_layers r ws d.1 l.1)

new_operands : (r : Rules) (f : Form) (n : LayerRule) → list_all (λ w. is_defined w r) (operands_of f) ≡ true → list_any (λ w. is_labels w r) (operands_of f) ≡ false → IsFilledForm f
    → AreOperands (r.names ++ n ∷ []) (length r.names) (numbered r f)
new_operands r (Input key) n e g filled = tt
new_operands r (Labels key) n e g filled = tt
new_operands r Empty n e g filled = tt
new_operands r (Sized a by) n e g filled =
    let ls = all_layers r (a ∷ []) e g in
    (ls.0.below, layer_kept r.names n (place_of a r) ls.0, filled)
new_operands r (Binary op a b) n e g filled =
    let ls = all_layers r (a ∷ b ∷ []) e g in
    (ls.0.below, ls.1.0.below, layer_kept r.names n (place_of a r) ls.0, layer_kept r.names n (place_of b r) ls.1.0)

near_most : (n : ℕ) → not (nat_le n MOST_REACH) ≡ false → n ≤ MOST_REACH
near_most n e = grind (arith, e)

select_kept : (names : List LayerRule) (n : LayerRule) (s : SelectRule) → IsSelectRule names s → IsSelectRule (names ++ n ∷ []) s
select_kept names n s h = record {
  rule = h.rule;
  there = push_old names n h.rule s.name h.there;
  own = h.own;
  before = h.before;
  layers = (layer_kept names n s.region h.layers.0, layer_kept names n s.other h.layers.1);
}

new_readable : (r : Rules) (f : Form) → IsFilledForm f → IsReadable (length r.names) (numbered r f)
new_readable r (Input key) filled = inl filled
new_readable r (Labels key) filled = tt
new_readable r Empty filled = tt
new_readable r (Binary op a b) filled = tt
new_readable r (Sized a by) filled = tt

-- a name more
named_more : (r : Rules) (name : List ℕ) (f : LayerForm) → is_defined name r ≡ false → AreOperands (r.names ++ record { name = name; form = f } ∷ []) (length r.names) f
    → IsReadable (length r.names) f → reach_by (reaches r.names) f ≤ MOST_REACH → IsFormed r → IsFormed (named r name f)
named_more r name f fresh operands readable near h =
    let n : LayerRule = record { name = name; form = f } in
    record {
      names = map_apart (bytes_eq name) (λ m. m.name) r.names n (same_bytes name) fresh h.names;
      operands = each_more (λ k m. AreOperands (r.names ++ n ∷ []) k m.form) r.names n (λ k m e. operands_kept r.names n k m.form (h.operands k m e)) operands;
      near = subst (λ (l : List ℕ). All (λ m. m ≤ MOST_REACH) l) (sym (reaches_more r.names n)) (All-push (λ m. m ≤ MOST_REACH) (reaches r.names) (reach_by (reaches r.names) f) h.near near);
      readable = each_more (λ k m. IsReadable k m.form) r.names n h.readable readable;
      selects = λ k s e. select_kept r.names n s (h.selects k s e);
      ascending = h.ascending;
      keys = h.keys;
      outputs = λ k o e. layer_kept r.names n o.layer (h.outputs k o e);
      written = h.written;
      connects = λ k c e. joined_kept r.names n c.0 c.1 (h.connects k c e);
      globals = λ k g e. layer_kept r.names n g.0 (h.globals k g e);
      classes = h.classes;
      others = h.others;
      apart = h.apart;
      strings = h.strings;
      more_strings = h.more_strings;
      devices = λ k d e. mos_kept r.names n d (h.devices k d e);
      more = λ k d e. more_kept r.names n d (h.more k d e);
      layouts = h.layouts;
      schematics = h.schematics;
      flat_layouts = h.flat_layouts;
      flat_schematics = h.flat_schematics;
      guesses = h.guesses;
    }

defined_more : (r : Rules) (name : List ℕ) (f : Form) → is_defined name r ≡ false → list_all (λ w. is_defined w r) (operands_of f) ≡ true
    → list_any (λ w. is_labels w r) (operands_of f) ≡ false → IsFilledForm f → is_far r (Define name f) ≡ false → IsFormed r → IsFormed (named r name (numbered r f))
defined_more r name f fresh used plain filled near h =
    named_more r name (numbered r f) fresh (new_operands r f (record { name = name; form = numbered r f }) used plain filled) (new_readable r f filled) (near_most (reach_of r f) near) h

-- a selection more: its name's number is greater than those of all before
ascending_more : (names : List LayerRule) (selects : List SelectRule) (s : SelectRule) → s.name ≡ length names → Each (λ k t. IsSelectRule names t) selects → AreRising IsNamedBefore selects
    → AreRising IsNamedBefore (selects ++ s ∷ [])
ascending_more names selects s last known up = at_rising IsNamedBefore (selects ++ s ∷ []) (λ j k u v lt e f. elim (push_cases selects s v k f) [
  | inl old ↦ elim (push_cases selects s u j e) [
    | inl also ↦ rising_at IsNamedBefore selects j k u v up lt also old
    | inr (at, same) ↦ let in_ = slice_get_within selects k v old in absurd (omega (arith, at, in_, lt))
  ]
  | inr (at, same) ↦ elim (push_cases selects s u j e) [
    | inl old ↦
        let in_ = slice_get_within names u.name (known j u old).rule (known j u old).there in
        let is : v.name ≡ length names = ap (λ (x : SelectRule). x.name) (sym same) ∙ last in
        subst (λ (n : ℕ). u.name < n) (sym is) in_
    | inr (first, too) ↦ absurd (omega (arith, at, first, lt))
  ]
])

chosen_more : (r : Rules) (name : List ℕ) (c : Choice) → is_defined name r ≡ false → AllLayers r (c.region ∷ c.other ∷ []) → IsFormed r → IsFormed (choosing r name c)
chosen_more r name c fresh ls h =
    let key = select_key (length r.names) in
    let n : LayerRule = record { name = name; form = form.Input key } in
    let g = named_more r name (form.Input key) fresh tt (inr refl) (omega arith) h in
    let s = select_rule r c in
    record {
      names = g.names;
      operands = g.operands;
      near = g.near;
      readable = g.readable;
      selects = each_more (λ k t. IsSelectRule (r.names ++ n ∷ []) t) r.selects s g.selects (record {
        rule = n;
        there = get_last r.names n;
        own = refl;
        before = (ls.0.below, ls.1.0.below);
        layers = (layer_kept r.names n (place_of c.region r) ls.0, layer_kept r.names n (place_of c.other r) ls.1.0);
      });
      ascending = ascending_more r.names r.selects s refl h.selects h.ascending;
      keys = g.keys;
      outputs = g.outputs;
      written = g.written;
      connects = g.connects;
      globals = g.globals;
      classes = g.classes;
      others = g.others;
      apart = g.apart;
      strings = g.strings;
      more_strings = g.more_strings;
      devices = g.devices;
      more = g.more;
      layouts = g.layouts;
      schematics = g.schematics;
      flat_layouts = g.flat_layouts;
      flat_schematics = g.flat_schematics;
      guesses = g.guesses;
    }

drawn_more : (r : Rules) (name : List ℕ) (key : LayerKey) → list_any (is_same_key key) (map (λ o. o.key) r.outputs) ≡ false → AllLayers r (name ∷ [])
    → IsStreamKey key → IsFormed r → IsFormed (drawn r name key)
drawn_more r name key fresh ls stream h =
    let o : Output = record { layer = place_of name r; key = key } in
    record {
      names = h.names;
      operands = h.operands;
      near = h.near;
      readable = h.readable;
      selects = h.selects;
      ascending = h.ascending;
      keys = map_apart (is_same_key key) (λ p. p.key) r.outputs o (same_key key) fresh h.keys;
      outputs = each_more (λ k p. IsLayer r.names p.layer) r.outputs o h.outputs ls.0;
      written = each_more (λ k p. IsStreamKey p.key) r.outputs o h.written stream;
      connects = h.connects;
      globals = h.globals;
      classes = h.classes;
      others = h.others;
      apart = h.apart;
      strings = h.strings;
      more_strings = h.more_strings;
      devices = h.devices;
      more = h.more;
      layouts = h.layouts;
      schematics = h.schematics;
      flat_layouts = h.flat_layouts;
      flat_schematics = h.flat_schematics;
      guesses = h.guesses;
    }

connect_more : (r : Rules) (a b : List ℕ) → AreJoined r.names (place_of a r) (place_of b r) → IsFormed r → IsFormed (with_statement r (Connect a b))
connect_more r a b ls h = record {
  names = h.names;
  operands = h.operands;
  near = h.near;
  readable = h.readable;
  selects = h.selects;
  ascending = h.ascending;
  keys = h.keys;
  outputs = h.outputs;
  written = h.written;
  connects = each_more (λ k c. AreJoined r.names c.0 c.1) r.connects (place_of a r, place_of b r) h.connects ls;
  globals = h.globals;
  classes = h.classes;
  others = h.others;
  apart = h.apart;
  strings = h.strings;
  more_strings = h.more_strings;
  devices = h.devices;
  more = h.more;
  layouts = h.layouts;
  schematics = h.schematics;
  flat_layouts = h.flat_layouts;
  flat_schematics = h.flat_schematics;
  guesses = h.guesses;
}

global_more : (r : Rules) (a net : List ℕ) → AllLayers r (a ∷ []) → IsFormed r → IsFormed (with_statement r (Global a net))
global_more r a net ls h = record {
  names = h.names;
  operands = h.operands;
  near = h.near;
  readable = h.readable;
  selects = h.selects;
  ascending = h.ascending;
  keys = h.keys;
  outputs = h.outputs;
  written = h.written;
  connects = h.connects;
  globals = each_more (λ k g. IsLayer r.names g.0) r.globals (place_of a r, net) h.globals ls.0;
  classes = h.classes;
  others = h.others;
  apart = h.apart;
  strings = h.strings;
  more_strings = h.more_strings;
  devices = h.devices;
  more = h.more;
  layouts = h.layouts;
  schematics = h.schematics;
  flat_layouts = h.flat_layouts;
  flat_schematics = h.flat_schematics;
  guesses = h.guesses;
}

-- a class more in one of two lists that have none in common
same_text : (w v : List ℕ) → w ≡ v → bytes_eq w v ≡ true
same_text w v e = (bytes_eq-Decides w v).1 e

class_first : (xs ys : List (List ℕ)) (x : List ℕ) → list_any (bytes_eq x) ys ≡ false → ((j k : ℕ) (w : List ℕ) → slice_get xs j ≡ Some w → slice_get ys k ≡ Some w → ⊥)
    → (j k : ℕ) (w : List ℕ) → slice_get (xs ++ x ∷ []) j ≡ Some w → slice_get ys k ≡ Some w → ⊥
class_first xs ys x none apart j k w e f = elim (push_cases xs x w j e) [
  | inl h ↦ apart j k w h f
  | inr (at, same) ↦ lacks (bytes_eq x) ys k w none f (same_text x w same)
]

class_second : (xs ys : List (List ℕ)) (y : List ℕ) → list_any (bytes_eq y) xs ≡ false → ((j k : ℕ) (w : List ℕ) → slice_get xs j ≡ Some w → slice_get ys k ≡ Some w → ⊥)
    → (j k : ℕ) (w : List ℕ) → slice_get xs j ≡ Some w → slice_get (ys ++ y ∷ []) k ≡ Some w → ⊥
class_second xs ys y none apart j k w e f = elim (push_cases ys y w k f) [
  | inl h ↦ apart j k w e h
  | inr (at, same) ↦ lacks (bytes_eq y) xs j w none e (same_text y w same)
]

extract_more : (r : Rules) (m : Mos) → has_class (folded_bytes m.class) r ≡ false → IsString m.class
    → AllLayers r (m.sd ∷ m.g ∷ m.w ∷ m.ts ∷ m.tg ∷ m.tb ∷ []) → IsFormed r → IsFormed (extracting r m)
extract_more r m fresh filled ls h =
    let both = or_parts (list_any (bytes_eq (folded_bytes m.class)) (mos_classes r)) (list_any (bytes_eq (folded_bytes m.class)) (more_classes r)) fresh in
    let longer : mos_classes (extracting r m) ≡ mos_classes r ++ folded_bytes m.class ∷ [] = map-append (λ (d : MosRule). folded_bytes d.class) r.devices (mos_rule r m ∷ []) in
    record {
      names = h.names;
      operands = h.operands;
      near = h.near;
      readable = h.readable;
      selects = h.selects;
      ascending = h.ascending;
      keys = h.keys;
      outputs = h.outputs;
      written = h.written;
      connects = h.connects;
      globals = h.globals;
      classes = map_apart (bytes_eq (folded_bytes m.class)) (λ d. folded_bytes d.class) r.devices (mos_rule r m) (same_bytes (folded_bytes m.class)) both.0 h.classes;
      others = h.others;
      apart = λ j k w e f. class_first (mos_classes r) (more_classes r) (folded_bytes m.class) both.1 h.apart j k w (subst (λ (l : List (List ℕ)). slice_get l j ≡ Some w) longer e) f;
      strings = each_more (λ k d. is_string d.class ≡ true) r.devices (mos_rule r m) h.strings filled.1;
      more_strings = h.more_strings;
      devices = each_more (λ k d. AreMosLayers r.names d) r.devices (mos_rule r m) h.devices
          (record { sd = ls.0; g = ls.1.0; w = ls.1.1.0; ts = ls.1.1.1.0; tg = ls.1.1.1.1.0; tb = ls.1.1.1.1.1.0 });
      more = h.more;
      layouts = h.layouts;
      schematics = h.schematics;
      flat_layouts = h.flat_layouts;
      flat_schematics = h.flat_schematics;
      guesses = h.guesses;
    }

class_kept : (r : Rules) (m : More) → class_in (further_rule r m) ≡ class_of m
class_kept r (Resistor class n c w ta tw) = refl
class_kept r (Diode class p n ta tc) = refl

further_layers : (r : Rules) (m : More) → AllLayers r (uses_of (Further m)) → AreMoreLayers r.names (further_rule r m)
further_layers r (Resistor class n c w ta tw) ls = (ls.0, ls.1.0, ls.1.1.0, ls.1.1.1.0, ls.1.1.1.1.0)
further_layers r (Diode class p n ta tc) ls = (ls.0, ls.1.0, ls.1.1.0, ls.1.1.1.0)

further_more : (r : Rules) (m : More) → has_class (folded_bytes (class_of m)) r ≡ false → IsString (class_of m) → AllLayers r (uses_of (Further m)) → IsFormed r → IsFormed (going_on r m)
further_more r m fresh filled ls h =
    let w = folded_bytes (class_of m) in
    let d = further_rule r m in
    let both = or_parts (list_any (bytes_eq w) (mos_classes r)) (list_any (bytes_eq w) (more_classes r)) fresh in
    let same : folded_bytes (class_in d) ≡ w = ap folded_bytes (class_kept r m) in
    let longer : more_classes (going_on r m) ≡ more_classes r ++ w ∷ [] =
    map-append (λ (x : MoreRule). folded_bytes (class_in x)) r.more (d ∷ []) ∙ ap (λ (v : List ℕ). more_classes r ++ v ∷ []) same in
    record {
      names = h.names;
      operands = h.operands;
      near = h.near;
      readable = h.readable;
      selects = h.selects;
      ascending = h.ascending;
      keys = h.keys;
      outputs = h.outputs;
      written = h.written;
      connects = h.connects;
      globals = h.globals;
      classes = h.classes;
      others = subst (λ (l : List (List ℕ)). AreApart l) (sym longer) (apart_more (bytes_eq w) (more_classes r) w (same_bytes w) both.1 h.others);
      apart = λ j k v e f. class_second (mos_classes r) (more_classes r) w both.0 h.apart j k v e (subst (λ (l : List (List ℕ)). slice_get l k ≡ Some v) longer f);
      strings = h.strings;
      more_strings = each_more (λ k x. is_string (class_in x) ≡ true) r.more d h.more_strings (subst (λ (v : List ℕ). is_string v ≡ true) (sym (class_kept r m)) filled.1);
      devices = h.devices;
      more = each_more (λ k x. AreMoreLayers r.names x) r.more d h.more (further_layers r m ls);
      layouts = h.layouts;
      schematics = h.schematics;
      flat_layouts = h.flat_layouts;
      flat_schematics = h.flat_schematics;
      guesses = h.guesses;
    }

same_more : (r : Rules) (a b : List ℕ) → is_twice r (Same a b) ≡ false → IsFormed r → IsFormed (paired r a b)
same_more r a b fresh h =
    let apart = or_parts (names_layout r (folded_bytes a)) (names_schematic r (folded_bytes b)) fresh in
    record {
      names = h.names;
      operands = h.operands;
      near = h.near;
      readable = h.readable;
      selects = h.selects;
      ascending = h.ascending;
      keys = h.keys;
      outputs = h.outputs;
      written = h.written;
      connects = h.connects;
      globals = h.globals;
      classes = h.classes;
      others = h.others;
      apart = h.apart;
      strings = h.strings;
      more_strings = h.more_strings;
      devices = h.devices;
      more = h.more;
      layouts = map_apart (bytes_eq (folded_bytes a)) (λ p. folded_bytes p.0) r.same (a, b) (same_bytes (folded_bytes a)) (or_parts _ _ apart.0).0 h.layouts;
      schematics = map_apart (bytes_eq (folded_bytes b)) (λ p. folded_bytes p.1) r.same (a, b) (same_bytes (folded_bytes b)) (or_parts _ _ apart.1).0 h.schematics;
      flat_layouts = h.flat_layouts;
      flat_schematics = h.flat_schematics;
      guesses = h.guesses;
    }

flat_layout_more : (r : Rules) (a : List ℕ) → names_layout r (folded_bytes a) ≡ false → IsFormed r → IsFormed (flattening_layout r a)
flat_layout_more r a fresh h = record {
  names = h.names;
  operands = h.operands;
  near = h.near;
  readable = h.readable;
  selects = h.selects;
  ascending = h.ascending;
  keys = h.keys;
  outputs = h.outputs;
  written = h.written;
  connects = h.connects;
  globals = h.globals;
  classes = h.classes;
  others = h.others;
  apart = h.apart;
  strings = h.strings;
  more_strings = h.more_strings;
  devices = h.devices;
  more = h.more;
  layouts = h.layouts;
  schematics = h.schematics;
  flat_layouts = map_apart (bytes_eq (folded_bytes a)) folded_bytes r.flat_layouts a (same_bytes (folded_bytes a)) (or_parts _ _ fresh).1 h.flat_layouts;
  flat_schematics = h.flat_schematics;
  guesses = h.guesses;
}

flat_schematic_more : (r : Rules) (b : List ℕ) → names_schematic r (folded_bytes b) ≡ false → IsFormed r → IsFormed (flattening_schematic r b)
flat_schematic_more r b fresh h = record {
  names = h.names;
  operands = h.operands;
  near = h.near;
  readable = h.readable;
  selects = h.selects;
  ascending = h.ascending;
  keys = h.keys;
  outputs = h.outputs;
  written = h.written;
  connects = h.connects;
  globals = h.globals;
  classes = h.classes;
  others = h.others;
  apart = h.apart;
  strings = h.strings;
  more_strings = h.more_strings;
  devices = h.devices;
  more = h.more;
  layouts = h.layouts;
  schematics = h.schematics;
  flat_layouts = h.flat_layouts;
  flat_schematics = map_apart (bytes_eq (folded_bytes b)) folded_bytes r.flat_schematics b (same_bytes (folded_bytes b)) (or_parts _ _ fresh).1 h.flat_schematics;
  guesses = h.guesses;
}

unmatched_more : (r : Rules) → IsFormed r → IsFormed (with_statement r FlattenUnmatched)
unmatched_more r h = record {
  names = h.names;
  operands = h.operands;
  near = h.near;
  readable = h.readable;
  selects = h.selects;
  ascending = h.ascending;
  keys = h.keys;
  outputs = h.outputs;
  written = h.written;
  connects = h.connects;
  globals = h.globals;
  classes = h.classes;
  others = h.others;
  apart = h.apart;
  strings = h.strings;
  more_strings = h.more_strings;
  devices = h.devices;
  more = h.more;
  layouts = h.layouts;
  schematics = h.schematics;
  flat_layouts = h.flat_layouts;
  flat_schematics = h.flat_schematics;
  guesses = h.guesses;
}

pins_more : (r : Rules) → IsFormed r → IsFormed (with_statement r SamePins)
pins_more r h = record {
  names = h.names;
  operands = h.operands;
  near = h.near;
  readable = h.readable;
  selects = h.selects;
  ascending = h.ascending;
  keys = h.keys;
  outputs = h.outputs;
  written = h.written;
  connects = h.connects;
  globals = h.globals;
  classes = h.classes;
  others = h.others;
  apart = h.apart;
  strings = h.strings;
  more_strings = h.more_strings;
  devices = h.devices;
  more = h.more;
  layouts = h.layouts;
  schematics = h.schematics;
  flat_layouts = h.flat_layouts;
  flat_schematics = h.flat_schematics;
  guesses = h.guesses;
}

covered_more : (r : Rules) → IsFormed r → IsFormed (with_statement r KeepCovered)
covered_more r h = record {
  names = h.names;
  operands = h.operands;
  near = h.near;
  readable = h.readable;
  selects = h.selects;
  ascending = h.ascending;
  keys = h.keys;
  outputs = h.outputs;
  written = h.written;
  connects = h.connects;
  globals = h.globals;
  classes = h.classes;
  others = h.others;
  apart = h.apart;
  strings = h.strings;
  more_strings = h.more_strings;
  devices = h.devices;
  more = h.more;
  layouts = h.layouts;
  schematics = h.schematics;
  flat_layouts = h.flat_layouts;
  flat_schematics = h.flat_schematics;
  guesses = h.guesses;
}

combine_more : (r : Rules) → IsFormed r → IsFormed (with_statement r Combine)
combine_more r h = record {
  names = h.names;
  operands = h.operands;
  near = h.near;
  readable = h.readable;
  selects = h.selects;
  ascending = h.ascending;
  keys = h.keys;
  outputs = h.outputs;
  written = h.written;
  connects = h.connects;
  globals = h.globals;
  classes = h.classes;
  others = h.others;
  apart = h.apart;
  strings = h.strings;
  more_strings = h.more_strings;
  devices = h.devices;
  more = h.more;
  layouts = h.layouts;
  schematics = h.schematics;
  flat_layouts = h.flat_layouts;
  flat_schematics = h.flat_schematics;
  guesses = h.guesses;
}

guesses_more : (r : Rules) (n : ℕ) → IsFilled (MaxGuesses n) → IsFormed r → IsFormed (with_statement r (MaxGuesses n))
guesses_more r n fits h = record {
  names = h.names;
  operands = h.operands;
  near = h.near;
  readable = h.readable;
  selects = h.selects;
  ascending = h.ascending;
  keys = h.keys;
  outputs = h.outputs;
  written = h.written;
  connects = h.connects;
  globals = h.globals;
  classes = h.classes;
  others = h.others;
  apart = h.apart;
  strings = h.strings;
  more_strings = h.more_strings;
  devices = h.devices;
  more = h.more;
  layouts = h.layouts;
  schematics = h.schematics;
  flat_layouts = h.flat_layouts;
  flat_schematics = h.flat_schematics;
  guesses = fits;
}

passes : (r : Rules) (line : ℕ) (s : Statement) → statement_fault r line s ≡ None
    → (list_all (λ w. is_defined w r) (uses_of s) ≡ true) × (is_far r s ≡ false) × (is_twice r s ≡ false) × (is_misplaced r s ≡ false)
passes r line s e = tests (list_all (λ w. is_defined w r) (uses_of s)) (is_far r s) (is_twice r s) (is_misplaced r s) _ _ _ _ _ _ e

by_tests : (r : Rules) (s : Statement) → list_all (λ w. is_defined w r) (uses_of s) ≡ true → is_far r s ≡ false → is_twice r s ≡ false → is_misplaced r s ≡ false
    → IsFilled s → IsFormed r → IsFormed (with_statement r s)
by_tests r (Define name f) used near fresh plain filled h = defined_more r name f fresh used plain filled.1 near h
by_tests r (Choose name c) used near fresh plain filled h = chosen_more r name c fresh (all_layers r (c.region ∷ c.other ∷ []) used plain) h
by_tests r (Draw name key) used near fresh plain filled h = drawn_more r name key fresh (all_layers r (name ∷ []) used plain) filled h
by_tests r (Connect a b) used near fresh plain filled h =
    let d = and_parts (is_defined a r) (list_all (λ w. is_defined w r) (b ∷ [])) used in
    let e = and_parts (is_defined b r) true d.1 in
    connect_more r a b (record { left = name_below a r d.0; right = name_below b r e.0; plain = plain }) h
by_tests r (Global a net) used near fresh plain filled h = global_more r a net (all_layers r (a ∷ []) used plain) h
by_tests r (Extract m) used near fresh plain filled h = extract_more r m fresh filled (all_layers r (m.sd ∷ m.g ∷ m.w ∷ m.ts ∷ m.tg ∷ m.tb ∷ []) used plain) h
by_tests r (Further m) used near fresh plain filled h = further_more r m fresh filled (all_layers r (uses_of (Further m)) used plain) h
by_tests r (Same a b) used near fresh plain filled h = same_more r a b fresh h
by_tests r (FlattenLayout a) used near fresh plain filled h = flat_layout_more r a fresh h
by_tests r (FlattenSchematic b) used near fresh plain filled h = flat_schematic_more r b fresh h
by_tests r FlattenUnmatched used near fresh plain filled h = unmatched_more r h
by_tests r SamePins used near fresh plain filled h = pins_more r h
by_tests r KeepCovered used near fresh plain filled h = covered_more r h
by_tests r Combine used near fresh plain filled h = combine_more r h
by_tests r (MaxGuesses n) used near fresh plain filled h = guesses_more r n filled h
by_tests r Accepted used near fresh plain filled h = h

pub formed_more : (r : Rules) (line : ℕ) (s : Statement) → statement_fault r line s ≡ None → IsFilled s → IsFormed r → IsFormed (with_statement r s)
formed_more r line s e filled h = let t = passes r line s e in by_tests r s t.0 t.1 t.2 t.3 filled h

none_each : {A : Type 0} (P : ℕ → A → Type 0) → Each P []
none_each P = λ k x e. absurd cc

pub none_formed : IsFormed no_rules
none_formed = record {
  names = tt;
  operands = none_each _;
  near = All-nil _;
  readable = none_each _;
  selects = none_each _;
  ascending = tt;
  keys = tt;
  outputs = none_each _;
  written = none_each _;
  connects = none_each _;
  globals = none_each _;
  classes = tt;
  others = tt;
  apart = λ j k w e f. absurd cc;
  strings = none_each _;
  more_strings = none_each _;
  devices = none_each _;
  more = none_each _;
  layouts = tt;
  schematics = tt;
  flat_layouts = tt;
  flat_schematics = tt;
  guesses = (omega arith, omega arith);
}

connected_step : (b : Bool) (n : ℕ) (rest : Option ℕ) → cond b rest (Some n) ≡ None → (b ≡ true) × (rest ≡ None)
connected_step true n rest e = (refl, e)
connected_step false n rest e = absurd cc

each_front : {A : Type 0} (P : ℕ → A → Type 0) (d : A) (ds : List A) → P 0 d → ((k : ℕ) (x : A) → slice_get ds k ≡ Some x → P (suc k) x) → Each P (d ∷ ds)
each_front P d ds first more zero x e = let same : d ≡ x = cc in subst (λ y. P 0 y) same first
each_front P d ds first more (suc k) x e = more k x e

pub connected_devices : (r : Rules) (ds : List MosRule) (ns : List ℕ) → length ns ≡ length ds → first_loose r ds ns ≡ None → Each (λ k d. is_connected d r ≡ true) ds
connected_devices r [] ns same none = λ k d e. absurd cc
connected_devices r (d ∷ ds) [] same none = absurd (omega (arith, same))
connected_devices r (d ∷ ds) (n ∷ ns) same none =
    let here = connected_step (is_connected d r) n (first_loose r ds ns) none in
    each_front (λ k x. is_connected x r ≡ true) d ds here.0 (connected_devices r ds ns (omega (arith, same)) here.1)

pub connected_more : (r : Rules) (ds : List MoreRule) (ns : List ℕ) → length ns ≡ length ds → first_loose_more r ds ns ≡ None → Each (λ k d. is_more_connected d r ≡ true) ds
connected_more r [] ns same none = λ k d e. absurd cc
connected_more r (d ∷ ds) [] same none = absurd (omega (arith, same))
connected_more r (d ∷ ds) (n ∷ ns) same none =
    let here = connected_step (is_more_connected d r) n (first_loose_more r ds ns) none in
    each_front (λ k x. is_more_connected x r ≡ true) d ds here.0 (connected_more r ds ns (omega (arith, same)) here.1)

none_of : (a b : Option ℕ) → lesser a b ≡ None → (a ≡ None) × (b ≡ None)
none_of None b e = (refl, e)
none_of (Some a) None e = absurd cc
none_of (Some a) (Some b) e = absurd (some_one (nat_le a b) a b e)
  where
    some_one : (t : Bool) (a b : ℕ) → cond t (Some a) (Some b) ≡ None → ⊥
    some_one true a b e = cc
    some_one false a b e = cc

pub sound : (r : Rules) (ns ms : List ℕ) → IsFormed r → length ns ≡ length r.devices → length ms ≡ length r.more → loose_of r ns ms ≡ None → IsSound r
sound r ns ms formed same too none =
    let both = none_of (first_loose r r.devices ns) (first_loose_more r r.more ms) none in
    record { formed = formed; connected = connected_devices r r.devices ns same both.0; more_connected = connected_more r r.more ms too both.1 }
