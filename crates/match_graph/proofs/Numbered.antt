-- Numbers for what the first round goes by, one node after another.
use Rattle.std.proofs.Common.{◌≡◌, ℕ, zero, suc, ◌+◌, ◌<◌, ◌≤◌, ◌==◌, ◌&&◌, Bool, bytes_eq, false, cond, List, [], ◌∷◌, ◌++◌, length, map, take, slice_get, slice_index, get_or, Option, Some, None, refl, sym, subst, ◌∙◌, ap, ap₂, arith, append_assoc, inl, inr}
use Rattle.base_laws.proofs.Tests.{same_truth}
use Rattle.std.specs.HashMap.{get, hash_map_len}
use Rattle.std.specs.Bool.{Decides}
use Rattle.std.specs.List.{list_any}
use Rattle.std.proofs.lemmas.Bool.{cases_lt, cases_Bool}
use Rattle.std.proofs.lemmas.Option.{same_Some, slice_get_within, get_or_from_slice_get}
use Rattle.std.proofs.lemmas.List.{append-nil, get_or_push, get_or_append_left, length_push, map_more, map_push, take_all}
use Rattle.match_laws.specs.Circuits.{Own as PlainOwn, OfNone, same_own, numbers_from, is_pin, pin_name, OfNet}
use Rattle.match_laws.proofs.Images.{own_decides, listed_any, any_listed}
use Rattle.match_parts.specs.Marks.{AreMarked}
use Rattle.match_graph.proofs.Listed.{numbers_more}
use Rattle.match_graph.specs.declared.kinds.Kinds.{Kinds}
use Rattle.match_graph.specs.declared.kinds.Own.{Own}
use Rattle.match_graph.specs.declared.kinds.Own.TheVariants.{Net, Device, Call}
use Rattle.match_graph.specs.contracts.kinds.OwnPartialEq.TheImpl.{eq-value}
use Rattle.plain_netlist.specs.Netlist.{Circuit}
use Rattle.plain_netlist.specs.Kinds.{same_device_kind}
use Rattle.plain_netlist.specs.declared.kinds.DeviceKind.{DeviceKind}
use Rattle.plain_netlist.specs.declared.kinds.DeviceKind.TheVariants.{Mos4, ResistorWithBulk, Diode}
use Rattle.plain_netlist.specs.contracts.kinds.DeviceKindPartialEq.TheImpl.{eq-value as same}
use Rattle.std.proofs.Math.Bool.{and-true}
use Rattle.match_graph.specs.Kinds.{plain_own, IsNumbering, AreKindsOf, Adds, ArePinNames, name_in, net_own, named_owns, device_own, call_own, circuit_owns}

-- the derived tests
kind_is : (k j : DeviceKind) → same.it k j ≡ same_device_kind k j
kind_is Mos4 Mos4 = refl
kind_is Mos4 ResistorWithBulk = refl
kind_is Mos4 Diode = refl
kind_is ResistorWithBulk Mos4 = refl
kind_is ResistorWithBulk ResistorWithBulk = refl
kind_is ResistorWithBulk Diode = refl
kind_is Diode Mos4 = refl
kind_is Diode ResistorWithBulk = refl
kind_is Diode Diode = refl

same_is : (q r : Own) → eq-value.it q r ≡ same_own (plain_own q) (plain_own r)
same_is (Net a x) (Net b y) = refl
same_is (Device k a l w) (Device j b m v) =
    ap₂ (λ (s t : Bool). s && (bytes_eq a.now b.now && ((l == m) && t))) (kind_is k j) (sym (and-true (w == v)))
same_is (Call a) (Call b) = refl
same_is (Net a x) (Device j b m v) = refl
same_is (Net a x) (Call b) = refl
same_is (Device k a l w) (Net b x) = refl
same_is (Device k a l w) (Call b) = refl
same_is (Call a) (Net b x) = refl
same_is (Call a) (Device j b m v) = refl

pub same_decides : (q r : Own) → Decides (eq-value.it q r) (plain_own q ≡ plain_own r)
same_decides q r = subst (λ (b : Bool). Decides b (plain_own q ≡ plain_own r)) (sym (same_is q r)) (own_decides (plain_own q) (plain_own r))

none-some : (v : ℕ) → None ≡ Some v → ⊥
none-some v e = cc

-- one node more, whose number is known
pub seen : (owns : List PlainOwn) (number : Own → Option ℕ) (count : ℕ) (kinds : List ℕ) (own : Own) (v : ℕ) → IsNumbering owns number count kinds → number own ≡ Some v
    → IsNumbering (owns ++ plain_own own ∷ []) number count (kinds ++ v ∷ [])
seen owns number count kinds own v h e =
    let long = h.long in
    let more = length_push owns (plain_own own) in
    record {
      long = length_push kinds v ∙ (ap (λ (n : ℕ). n + 1) h.long ∙ sym (length_push owns (plain_own own)));
      given = λ i l q is. elim (cases_lt i (length owns)) [
        | inl low ↦ h.given i low q (is ∙ get_or_append_left owns (plain_own own ∷ []) OfNone i low) ∙ ap Some (sym (get_or_append_left kinds (v ∷ []) 0 i (omega arith)))
        | inr high ↦
            let at : i ≡ length owns = omega arith in
            let there : get_or (owns ++ plain_own own ∷ []) i OfNone ≡ plain_own own = get_or_push owns (plain_own own) OfNone i (sym at) in
            h.alike q own (is ∙ there) ∙ (e ∙ ap Some (sym (get_or_push kinds v 0 i (omega arith))))
      ];
      made = λ i l. elim (cases_lt i (length owns)) [
        | inl low ↦ let m = h.made i low in (m.0, m.1 ∙ sym (get_or_append_left owns (plain_own own ∷ []) OfNone i low))
        | inr high ↦ (own, sym (get_or_push owns (plain_own own) OfNone i (omega arith)))
      ];
      low = h.low;
      one = h.one;
      alike = h.alike;
    }

-- one node more, whose number is new
pub grown : (owns : List PlainOwn) (number new : Own → Option ℕ) (count : ℕ) (kinds : List ℕ) (own : Own) → IsNumbering owns number count kinds → number own ≡ None
    → ((q : Own) → new q ≡ cond (eq-value.it own q) (Some count) (number q)) → IsNumbering (owns ++ plain_own own ∷ []) new (count + 1) (kinds ++ count ∷ [])
grown owns number new count kinds own h none is =
    let hit : (q : Own) → plain_own own ≡ plain_own q → new q ≡ Some count
    = λ q e. is q ∙ ap (λ (t : Bool). cond t (Some count) (number q)) ((same_decides own q).1 e) in
    let miss : (q : Own) → eq-value.it own q ≡ false → new q ≡ number q
    = λ q e. is q ∙ ap (λ (t : Bool). cond t (Some count) (number q)) e in
    let kept : (q : Own) (v : ℕ) → number q ≡ Some v → new q ≡ Some v
    = λ q v e. elim (cases_Bool (eq-value.it own q)) [
      | inl t ↦ absurd (none-some v (sym none ∙ (h.alike own q ((same_decides own q).0 t) ∙ e)))
      | inr f ↦ miss q f ∙ e
    ] in
    let mid : IsNumbering owns new (count + 1) kinds = record {
      long = h.long;
      given = λ i l q e. kept q (slice_index kinds i) (h.given i l q e);
      made = h.made;
      low = λ q v e. elim (cases_Bool (eq-value.it own q)) [
        | inl t ↦
            let same : count ≡ v = same_Some _ _ (sym (hit q ((same_decides own q).0 t)) ∙ e) in
            omega arith
        | inr f ↦ let l = h.low q v (sym (miss q f) ∙ e) in omega arith
      ];
      one = λ q r v e g. elim (cases_Bool (eq-value.it own q)) [
        | inl t ↦ elim (cases_Bool (eq-value.it own r)) [
          | inl u ↦ sym ((same_decides own q).0 t) ∙ (same_decides own r).0 u
          | inr f ↦
              let same : count ≡ v = same_Some _ _ (sym (hit q ((same_decides own q).0 t)) ∙ e) in
              let l = h.low r v (sym (miss r f) ∙ g) in
              absurd (omega arith)
        ]
        | inr f ↦ elim (cases_Bool (eq-value.it own r)) [
          | inl u ↦
              let same : count ≡ v = same_Some _ _ (sym (hit r ((same_decides own r).0 u)) ∙ g) in
              let l = h.low q v (sym (miss q f) ∙ e) in
              absurd (omega arith)
          | inr k ↦ h.one q r v (sym (miss q f) ∙ e) (sym (miss r k) ∙ g)
        ]
      ];
      alike = λ q r e.
          let same : eq-value.it own q ≡ eq-value.it own r = same_is own q ∙ (ap (same_own (plain_own own)) e ∙ sym (same_is own r)) in
          is q ∙ (ap₂ (λ (t : Bool) (x : Option ℕ). cond t (Some count) x) same (h.alike q r e) ∙ sym (is r));
    } in
    seen owns new (count + 1) kinds own count mid (hit own refl)

pub nothing : (number : Own → Option ℕ) → ((q : Own) → number q ≡ None) → IsNumbering [] number 0 []
nothing number none = record {
  long = refl;
  given = λ i l. absurd (omega arith);
  made = λ i l. absurd (omega arith);
  low = λ q v e. absurd (none-some v (sym (none q) ∙ e));
  one = λ q r v e g. absurd (none-some v (sym (none q) ∙ e));
  alike = λ q r e. none q ∙ sym (none r);
}

pub kinds_of : (owns : List PlainOwn) (number : Own → Option ℕ) (count : ℕ) (kinds : List ℕ) → IsNumbering owns number count kinds → AreKindsOf kinds owns
kinds_of owns number count kinds h = record {
  long = h.long;
  same = λ i j li lj.
      let a = h.made i li in
      let b = h.made j lj in (
        (λ e. sym a.1 ∙ (h.one a.0 b.0 (slice_index kinds i) (h.given i li a.0 a.1) (h.given j lj b.0 b.1 ∙ ap Some (sym e)) ∙ b.1)),
        (λ e. same_Some _ _ (sym (h.given i li a.0 a.1) ∙ h.given j lj a.0 (a.1 ∙ e))),
      );
}

-- one part after another
pub adds_then : (old mid new : Kinds) (xs ys : List PlainOwn) → Adds eq-value.it old mid xs → Adds eq-value.it mid new ys → Adds eq-value.it old new (xs ++ ys)
adds_then old mid new xs ys f g owns h =
    subst (λ (zs : List PlainOwn). IsNumbering zs (get eq-value.it new.numbers) (hash_map_len new.numbers) new.of_nodes.items) (append_assoc owns xs ys) (g (owns ++ xs) (f owns h))

pub adds_none : (old : Kinds) → Adds eq-value.it old old []
adds_none old owns h = subst (λ (zs : List PlainOwn). IsNumbering zs (get eq-value.it old.numbers) (hash_map_len old.numbers) old.of_nodes.items) (sym (append-nil owns)) h

pub adds_more : (old mid new : Kinds) (xs ys : List PlainOwn) (x : PlainOwn) → Adds eq-value.it old mid xs → Adds eq-value.it mid new (x ∷ []) → ys ≡ xs ++ x ∷ [] → Adds eq-value.it old new ys
adds_more old mid new xs ys x f g e = subst (λ (zs : List PlainOwn). Adds eq-value.it old new zs) (sym e) (adds_then old mid new xs (x ∷ []) f g)

pub moved : (owns : List PlainOwn) (k m : Kinds) (v kind : ℕ) (items : List ℕ) → m ≡ k → kind ≡ v → items ≡ m.of_nodes.items ++ kind ∷ []
    → IsNumbering owns (get eq-value.it k.numbers) (hash_map_len k.numbers) (k.of_nodes.items ++ v ∷ []) → IsNumbering owns (get eq-value.it m.numbers) (hash_map_len m.numbers) items
moved owns k m v kind items e f g h =
    subst (λ (xs : List ℕ). IsNumbering owns (get eq-value.it m.numbers) (hash_map_len m.numbers) xs) (sym g)
    (subst (λ (x : ℕ). IsNumbering owns (get eq-value.it m.numbers) (hash_map_len m.numbers) (m.of_nodes.items ++ x ∷ [])) (sym f)
    (subst (λ (q : Kinds). IsNumbering owns (get eq-value.it q.numbers) (hash_map_len q.numbers) (q.of_nodes.items ++ v ∷ [])) (sym e) h))

-- one row more
pub owns_more : {X : Type 0} (f : X → PlainOwn) (rows : List X) (i : ℕ) (x : X) → slice_get rows i ≡ Some x → map f (take (i + 1) rows) ≡ map f (take i rows) ++ f x ∷ []
owns_more {X} f rows i x g = map_more f rows i x (slice_get_within rows i x g) ∙ ap (λ (y : X). map f (take i rows) ++ f y ∷ []) (get_or_from_slice_get rows i x x g)

pub nets_more : (f : ℕ → PlainOwn) (n : ℕ) → map f (numbers_from 0 (n + 1)) ≡ map f (numbers_from 0 n) ++ f n ∷ []
nets_more f n =
    let e : 0 + n ≡ n = omega arith in
    ap (map f) (numbers_more 0 n ∙ ap (λ (k : ℕ). numbers_from 0 n ++ k ∷ []) e) ∙ map_push f (numbers_from 0 n) n

pub rows_all : {X : Type 0} (f : X → PlainOwn) (rows : List X) (i : ℕ) → length rows ≤ i → map f (take i rows) ≡ map f rows
rows_all f rows i l = ap (map f) (take_all i rows l)

-- a mark is set exactly where the net is listed
pub marked : (pins : List ℕ) (marks : List Bool) (n : ℕ) → AreMarked pins marks → n < length marks → get_or marks n false ≡ list_any (λ p. p == n) pins
marked pins marks n h l = same_truth _ _ (λ t. listed_any n pins ((h n l).0 t)) (λ t. (h n l).1 (any_listed n pins t))

-- equal names make equal nodes
same_nets : (told : Bool) (c : Circuit) (names : List (Option (List ℕ))) (n : ℕ) → n ≤ length c.nets → ArePinNames told c names
    → map (net_own (name_in names) c) (numbers_from 0 n) ≡ map (net_own (pin_name told c) c) (numbers_from 0 n)
same_nets told c names zero l h = refl
same_nets told c names (suc n) l h =
    let e : suc n ≡ n + 1 = omega arith in
    ap (λ (k : ℕ). map (net_own (name_in names) c) (numbers_from 0 k)) e
    ∙ (nets_more (net_own (name_in names) c) n
    ∙ (ap₂ (λ (xs : List PlainOwn) (own : PlainOwn). xs ++ own ∷ []) (same_nets told c names n (omega arith) h) (ap (OfNet (is_pin c n)) (h n (omega arith)))
    ∙ (sym (nets_more (net_own (pin_name told c) c) n) ∙ ap (λ (k : ℕ). map (net_own (pin_name told c) c) (numbers_from 0 k)) (sym e))))

pub owns_named : (told : Bool) (c : Circuit) (names : List (Option (List ℕ))) → ArePinNames told c names → named_owns (name_in names) c ≡ circuit_owns told c
owns_named told c names h = ap (λ (xs : List PlainOwn). xs ++ map device_own c.devices ++ map call_own c.calls) (same_nets told c names (length c.nets) (omega arith) h)
