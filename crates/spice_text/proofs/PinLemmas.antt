-- Pin i of a circuit's row is net i.
use Rattle.std.proofs.Common.{◌≡◌, inl, inr, ℕ, zero, suc, ◌+◌, ◌<◌, Bool, true, false, ◌||◌, not, List, [], ◌∷◌, ◌++◌, map, length, Option, Some, Ok, refl, sym, subst, ap, ◌∙◌, arith, append_assoc, true≢false}
use Rattle.base_laws.proofs.Items.{map_from}
use Rattle.std.proofs.lemmas.Bool.{cases_Bool, or_parts}
use Rattle.std.specs.Prelude.{slice_get, flat_map}
use Rattle.std.specs.Str.{bytes_eq}
use Rattle.std.proofs.lemmas.List.{append-nil}
use Rattle.std.proofs.lemmas.List.Folds.{list_any-append}
use Rattle.std.proofs.lemmas.Slice.Eq.{bytes_eq-Decides}
use Rattle.text_table.specs.Texts.{has_text, with_text, place_of}
use Rattle.plain_netlist.specs.Lists.{IsListed, AreApart}
use Rattle.plain_netlist.specs.Netlist as plain
use Rattle.plain_netlist.specs.Normal as normal
use Rattle.plain_netlist.specs.Chains.{IsChain}
use Rattle.net_model.specs.Tests.{has_twins}
use Rattle.spice_rows.specs.Names.{are_apart}
use Rattle.spice_rows.specs.Sizes.{Limits}
use Rattle.spice_text.specs.Gather.{Circuit, Cards, reading_of}
use Rattle.spice_text.specs.Circuits as circuits
use Rattle.spice_text.specs.Circuits.{all_of}
use Rattle.spice_text.specs.Needs.{first_seen, device_nets, is_pin, pin_in, Passes, Needs, Picks}
use Rattle.spice_text.specs.Means.{call_names, circuit_row, rows_from}
use Rattle.spice_text.proofs.NormalLemmas.{more, row_of, all_numbered}
use Rattle.spice_text.proofs.NeedLemmas.{seen_append, get_listed, get_lt}
use Rattle.spice_text.proofs.OpenedLemmas.{each_opened}
use Rattle.spice_text.proofs.SoundLemmas.{seen_apart}
use Rattle.plain_netlist.proofs.Members.{either_side}

-- ---- no circuit of the cards lists a pin twice

pub pins_apart : (limit : Option Limits) (bytes : List ℕ) (cards : Cards) → reading_of limit bytes ≡ Ok cards → (c : Circuit) → IsListed c (all_of cards) → are_apart c.pins ≡ true
pins_apart limit bytes cards e = each_opened (λ name pins. are_apart pins ≡ true) (λ words name pins named apart. apart) refl limit bytes cards e

-- ---- pins and needed names are apart

twins : (seen ns : List (List ℕ)) → has_twins seen ns ≡ false → AreApart ns × ((n : List ℕ) → IsListed n ns → has_text seen n ≡ false)
twins seen [] f = (record {}, (λ n h. absurd h))
twins seen (n ∷ ns) f =
    let s = or_parts (has_text seen n) (has_twins (seen ++ n ∷ []) ns) f in
    let r = twins (seen ++ n ∷ []) ns s.1 in
    let parted : (m : List ℕ) → IsListed m ns → (has_text seen m ≡ false) × (bytes_eq m n ≡ false) = λ m l.
    let p = or_parts (has_text seen m) (bytes_eq m n || false) (sym (list_any-append (bytes_eq m) seen (n ∷ [])) ∙ r.1 m l) in (p.0, (or_parts (bytes_eq m n) false p.1).0) in (
      ((λ h. true≢false (sym ((bytes_eq-Decides n n).1 refl) ∙ (parted n h).1)), r.0),
      (λ m h. elim h [ inl e ↦ subst (λ (x : List ℕ). has_text seen x ≡ false) (sym e) s.0 | inr l ↦ (parted m l).0 ]),
    )

pub apart_of : (ns : List (List ℕ)) → are_apart ns ≡ true → AreApart ns
apart_of ns t = elim (cases_Bool (has_twins [] ns)) [
  | inl h ↦ absurd (true≢false (sym t ∙ ap (λ (b : Bool). not b) h))
  | inr f ↦ (twins [] ns f).0
]

picked_in : (P : List ℕ → Type 0) (gs names : List (List ℕ)) → Picks P gs names → (n : List ℕ) → IsListed n names → IsListed n gs × P n
picked_in P [] names e n h = absurd (subst (λ (xs : List (List ℕ)). IsListed n xs) e h)
picked_in P (g ∷ gs) names (inl p) n h = elim (subst (λ (xs : List (List ℕ)). IsListed n xs) p.2 h) [
  | inl e ↦ (inl e, subst P (sym e) p.0)
  | inr l ↦ let r = picked_in P gs p.1 p.3 n l in (inr r.0, r.1)
]
picked_in P (g ∷ gs) names (inr p) n h = let r = picked_in P gs names p.1 n h in (inr r.0, r.1)

picked_apart : (P : List ℕ → Type 0) (gs names : List (List ℕ)) → AreApart gs → Picks P gs names → AreApart names
picked_apart P [] names a e = subst (λ (xs : List (List ℕ)). AreApart xs) (sym e) (record {})
picked_apart P (g ∷ gs) names a (inl p) = subst (λ (xs : List (List ℕ)). AreApart xs) (sym p.2) ((λ h. a.0 (picked_in P gs p.1 p.3 g h).0), picked_apart P gs p.1 a.1 p.3)
picked_apart P (g ∷ gs) names a (inr p) = picked_apart P gs names a.1 p.1

both_apart : (xs ys : List (List ℕ)) → AreApart xs → AreApart ys → ((x : List ℕ) → IsListed x xs → IsListed x ys → ⊥) → AreApart (xs ++ ys)
both_apart [] ys a b f = b
both_apart (x ∷ xs) ys a b f = ((λ h. elim (either_side xs ys x h) [ inl l ↦ a.0 l | inr r ↦ f x (inl refl) r ]), both_apart xs ys a.1 b (λ y l r. f y (inr l) r))

needs_free : (cs : List Circuit) (g : List ℕ) (k : ℕ) → Needs cs g k → is_pin cs g k ≡ false
needs_free cs g k d = go d.via d.chain
  where
    go : (via : List ℕ) → IsChain (Passes cs g) k via d.end → is_pin cs g k ≡ false
    go [] c = subst (λ (x : ℕ). is_pin cs g x ≡ false) (sym c) d.listed
    go (b ∷ via) c = c.0.0

pub has_listed : (ns : List (List ℕ)) (g : List ℕ) → IsListed g ns → has_text ns g ≡ true
has_listed [] g h = absurd h
has_listed (n ∷ ns) g (inl e) = let t : bytes_eq g n ≡ true = (bytes_eq-Decides g n).1 e in rw t refl
has_listed (n ∷ ns) g (inr h) = let t = has_listed ns g h in elim (cases_Bool (bytes_eq g n)) [ inl y ↦ rw y refl | inr f ↦ rw f t ]

all_apart : (cs : List Circuit) (gs names : List (List ℕ)) (k : ℕ) (c : Circuit) → slice_get cs k ≡ Some c → are_apart c.pins ≡ true → AreApart gs → Picks (λ g. Needs cs g k) gs names → AreApart (c.pins ++ names)
all_apart cs gs names k c at t a p = both_apart c.pins names (apart_of c.pins t) (picked_apart (λ g. Needs cs g k) gs names a p)
    (λ g l m. true≢false (sym (ap (λ (o : Option Circuit). pin_in g o) at ∙ has_listed c.pins g l) ∙ needs_free cs g k (picked_in (λ x. Needs cs x k) gs names p g m).1))

-- ---- their places

-- what isn't seen yet and isn't the next isn't seen behind it
pub unseen_behind : (seen ns : List (List ℕ)) (n : List ℕ) → (IsListed n ns → ⊥) → ((m : List ℕ) → IsListed m (n ∷ ns) → has_text seen m ≡ false) → (m : List ℕ) → IsListed m ns → has_text (seen ++ n ∷ []) m ≡ false
unseen_behind seen ns n apart f m l =
    let x = f m (inr l) in
    let y : bytes_eq m n ≡ false = elim (cases_Bool (bytes_eq m n)) [ inl t ↦ absurd (apart (subst (λ (k : List ℕ). IsListed k ns) ((bytes_eq-Decides m n).0 t) l)) | inr z ↦ z ] in
    list_any-append (bytes_eq m) seen (n ∷ []) ∙ rw x (rw y refl)

fresh : (seen ns : List (List ℕ)) → AreApart ns → ((n : List ℕ) → IsListed n ns → has_text seen n ≡ false) → first_seen seen ns ≡ seen ++ ns
fresh seen [] a f = sym (append-nil seen)
fresh seen (n ∷ ns) a f =
    let here = f n (inl refl) in
    let w : with_text seen n ≡ seen ++ n ∷ [] = rw here refl in
    ap (λ (s : List (List ℕ)). first_seen s ns) w ∙ fresh (seen ++ n ∷ []) ns a.1 (unseen_behind seen ns n a.0 f) ∙ append_assoc seen (n ∷ []) ns

pub place_at : (ns extra : List (List ℕ)) (i : ℕ) (g : List ℕ) → AreApart ns → slice_get ns i ≡ Some g → place_of (ns ++ extra) g ≡ i
place_at [] extra i g a e = let z : ⊥ = cc in absurd z
place_at (n ∷ ns) extra zero g a e = let s : g ≡ n = cc in let t : bytes_eq g n ≡ true = (bytes_eq-Decides g n).1 s in rw t refl
place_at (n ∷ ns) extra (suc i) g a e = elim (cases_Bool (bytes_eq g n)) [
  | inl t ↦ absurd (a.0 (subst (λ (x : List ℕ). IsListed x ns) ((bytes_eq-Decides g n).0 t) (get_listed ns i g e)))
  | inr f ↦ let r = place_at ns extra i g a.1 e in rw f (let q : 1 + place_of (ns ++ extra) g ≡ suc i = omega arith in q)
]

pins_at : (ns others : List (List ℕ)) (i n : ℕ) → AreApart ns → slice_get (map (place_of (first_seen [] (ns ++ others))) ns) i ≡ Some n → n ≡ i
pins_at ns others i n a h =
    let m = map_from (place_of (first_seen [] (ns ++ others))) ns i n h in
    let x = more ns others in
    let e : first_seen [] (ns ++ others) ≡ ns ++ x.0 = seen_append [] ns others ∙ ap (λ (s : List (List ℕ)). first_seen s others) (fresh [] ns a (λ g l. refl)) ∙ x.1 in
    sym m.2 ∙ ap (λ (s : List (List ℕ)). place_of s m.0) e ∙ place_at ns x.0 i m.0 a m.1

pub row_pins : (names : List (List ℕ)) (needed : ℕ → List (List ℕ)) (k : ℕ) (c : Circuit) → AreApart (c.pins ++ needed k) → (i n : ℕ) → slice_get (circuit_row names needed k c).pins i ≡ Some n → n ≡ i
row_pins names needed k c a i n h =
    let others = flat_map device_nets c.devices ++ flat_map (call_names names needed) c.calls in
    pins_at (c.pins ++ needed k) others i n a
    (subst (λ (s : List (List ℕ)). slice_get (map (place_of (first_seen [] s)) (c.pins ++ needed k)) i ≡ Some n) (sym (append_assoc c.pins (needed k) others)) h)

pub normal_is : (limit : Option Limits) (bytes : List ℕ) (cards : Cards) (needed : ℕ → List (List ℕ)) (n : plain.Netlist) → reading_of limit bytes ≡ Ok cards
    → ((k : ℕ) → k < length (all_of cards) → Picks (λ g. Needs (all_of cards) g k) (first_seen [] cards.globals) (needed k))
    → n.circuits ≡ rows_from (circuits.names_of (all_of cards)) needed 0 (all_of cards) → normal.IsNormalNetlist n
normal_is limit bytes cards needed n r p e = λ k x is.
    let cs = all_of cards in
    let names = circuits.names_of cs in
    let at = row_of names needed 0 k k cs x (omega arith) (sym (ap (λ (xs : List plain.Circuit). slice_get xs k) e) ∙ is) in
    let picks = p k (get_lt cs k at.0 at.1) in
    let apart = all_apart cs (first_seen [] cards.globals) (needed k) k at.0 at.1 (pins_apart limit bytes cards r at.0 (get_listed cs k at.0 at.1)) (seen_apart [] cards.globals (record {})) picks in
    record {
      pins = subst (λ (y : plain.Circuit). (i m : ℕ) → slice_get y.pins i ≡ Some m → m ≡ i) (sym at.2) (row_pins names needed k at.0 apart);
      numbered = all_numbered names needed cs n e k x is;
    }
