-- The rows of a proposal have the partners that are sure.
use Rattle.std.proofs.Common.{◌≡◌, inl, inr, ◌∙◌, ◌==◌, ◌<◌, ◌↔◌, ℕ, zero, suc, ◌+◌, Bool, true, false, bytes_eq, List, [], ◌∷◌, ◌++◌, length, map, get_or, Option, Some, None, slice_get, slice_index, refl, sym, ap, subst, arith}
use Rattle.base_laws.proofs.Tests.{same_truth}
use Rattle.base_laws.proofs.Items.{item_at}
use Rattle.std.specs.Bool.{beq}
use Rattle.std.specs.List.{list_any}
use Rattle.std.proofs.lemmas.List.FromFn.{get_or-map-range_with_len}
use Rattle.std.proofs.lemmas.Bool.{and_from, eq-eqb}
use Rattle.std.proofs.lemmas.Option.{slice_get_within}
use Rattle.std.proofs.lemmas.Slice.Eq.{bytes_eq-Decides}
use Rattle.match_laws.specs.Circuits.{IsCorrespondence, IsOneToOne, Pair}
use Rattle.match_types.specs.Plain.{plain_pairing}
use Rattle.match_types.specs.declared.answer.Answer.{Answer}
use Rattle.match_types.specs.declared.answer.Answer.TheVariants as answer
use Rattle.match_types.specs.declared.answer.Pairing.{Pairing as Found}
use Rattle.plain_netlist.specs.Kinds.{same_device_kind}
use Rattle.plain_netlist.specs.Lists.{IsListed}
use Rattle.plain_netlist.specs.Netlist.{CallRow, Circuit, DeviceRow}
use Rattle.plain_netlist.proofs.Rows.{same_kind}
use Rattle.plain_netlist.proofs.Members.{in_left, in_right, listed}
use Rattle.view_cross.specs.Matched.{right_alone}
use Rattle.view_cross.specs.declared.rows.Kind.{Kind}
use Rattle.view_cross.specs.declared.rows.Kind.TheVariants.{Net, Pin, Device, Call}
use Rattle.view_cross.specs.declared.rows.Mark.{Mark}
use Rattle.view_cross.specs.declared.rows.Row.{Row}
use Rattle.net_model.specs.Rows.{plain_circuit}
use Rattle.net_model.specs.declared.netlist.Circuit.{Circuit as Row_circuit}
use Rattle.view_pairs.specs.Added.{AddsPair, rows_in}
use Rattle.view_pairs.specs.Alike.{both, is_alike, pin_marks, same_class, same_pair}
use Rattle.view_pairs.specs.Only.{AreOnlyFirst, in_order, is_given}
use Rattle.view_pairs.specs.Partners.{HasPartner, IsFirst, sure}
use Rattle.view_pairs.specs.Rows.{Asked, asked, entry_row, kind_rows, left_rows, mark_at, proposal_rows}
use Rattle.view_pairs.specs.Sure.{AreAllSure, AreMatchRows, AreMatched, AreNameRows, AreNamed, ArePartnersBy, HaveRow, HaveSure, IsNoMatch}
use Rattle.view_pairs.specs.Wanted.{AreOfPairing, AreWanted, TakesWanted}
use Rattle.view_pairs.specs.declared.partners.Couple.{Couple}
use Rattle.view_pairs.specs.declared.partners.Partner.{Partner}
use Rattle.view_pairs.specs.declared.partners.Partners.{Partners}
use Rattle.view_pairs.specs.Proposals.{AreShown}
use Rattle.view_pairs.specs.declared.pairs.Proposed.{Proposed}
use Rattle.view_pairs.specs.declared.wanted.Wanted.{Wanted}
use Rattle.view_pairs.proofs.Marked.{any_listed, listed_any}
use Rattle.view_pairs.proofs.Keying.{entry_is, one_apart, order_first}
use Rattle.view_pairs.proofs.Shown.{at_place, get_snoc}

-- ---- the row of a node

row_at : (mark : ℕ → Partner → Mark) (kind : Kind) (j k : ℕ) (xs : List (Option Partner)) (p : Partner) → slice_get xs k ≡ Some (Some p)
    → IsListed (entry_row mark kind (j + k) (Some p)) (left_rows mark kind j xs)
row_at mark kind j k [] p h = absurd (let e : None ≡ Some (Some p) = h in cc)
row_at mark kind j zero (x ∷ xs) p h =
    let same : Some p ≡ x = (let e : Some x ≡ Some (Some p) = h in cc) in
    let z : j + 0 ≡ j = omega arith in
    inl (ap (λ (i : ℕ). entry_row mark kind i (Some p)) z ∙ ap (entry_row mark kind j) same)
row_at mark kind j (suc k) (x ∷ xs) p h =
    let z : j + 1 + k ≡ j + suc k = omega arith in
    inr (subst (λ (i : ℕ). IsListed (entry_row mark kind i (Some p)) (left_rows mark kind (j + 1) xs)) z (row_at mark kind (j + 1) k xs p h))

have_row : (q : Asked) (kind : Kind) (x : Partners) (k m : ℕ) (tied : Bool) → HasPartner x.lefts.items k (record { number = m; tied = tied }) → HaveRow (kind_rows q kind x) kind k m
have_row q kind x k m tied h =
    let p : Partner = record { number = m; tied = tied } in
    record {
      row = entry_row (mark_at q kind) kind (0 + k) (Some p);
      listed = in_left (left_rows (mark_at q kind) kind 0 x.lefts.items) (map (right_alone kind) x.free.items) (entry_row (mark_at q kind) kind (0 + k) (Some p))
          (row_at (mark_at q kind) kind 0 k x.lefts.items p h);
      kind_is = refl;
      left_is = ap Some (let z : 0 + k ≡ k = omega arith in z);
      right_is = refl;
    }

wider : (rows all : List Row) (kind : Kind) (k m : ℕ) → ((r : Row) → IsListed r rows → IsListed r all) → HaveRow rows kind k m → HaveRow all kind k m
wider rows all kind k m more h = record { row = h.row; listed = more h.row h.listed; kind_is = h.kind_is; left_is = h.left_is; right_is = h.right_is }

net_row : (q : Asked) (k m : ℕ) (tied : Bool) → HasPartner q.proposal.nets.lefts.items k (record { number = m; tied = tied }) → HaveRow (proposal_rows q) Net k m
net_row q k m tied h =
    wider (kind_rows q Net q.proposal.nets) (proposal_rows q) Net k m
    (λ r i. in_left (kind_rows q Net q.proposal.nets) (kind_rows q Pin q.proposal.pins ++ (kind_rows q Device q.proposal.devices ++ kind_rows q Call q.proposal.calls)) r i)
    (have_row q Net q.proposal.nets k m tied h)

device_row : (q : Asked) (k m : ℕ) (tied : Bool) → HasPartner q.proposal.devices.lefts.items k (record { number = m; tied = tied }) → HaveRow (proposal_rows q) Device k m
device_row q k m tied h =
    let devices = kind_rows q Device q.proposal.devices in
    let calls = kind_rows q Call q.proposal.calls in
    wider devices (proposal_rows q) Device k m
    (λ r i. in_right (kind_rows q Net q.proposal.nets) (kind_rows q Pin q.proposal.pins ++ (devices ++ calls)) r
    (in_right (kind_rows q Pin q.proposal.pins) (devices ++ calls) r (in_left devices calls r i)))
    (have_row q Device q.proposal.devices k m tied h)

call_row : (q : Asked) (k m : ℕ) (tied : Bool) → HasPartner q.proposal.calls.lefts.items k (record { number = m; tied = tied }) → HaveRow (proposal_rows q) Call k m
call_row q k m tied h =
    let devices = kind_rows q Device q.proposal.devices in
    let calls = kind_rows q Call q.proposal.calls in
    wider calls (proposal_rows q) Call k m
    (λ r i. in_right (kind_rows q Net q.proposal.nets) (kind_rows q Pin q.proposal.pins ++ (devices ++ calls)) r
    (in_right (kind_rows q Pin q.proposal.pins) (devices ++ calls) r (in_right devices calls r i)))
    (have_row q Call q.proposal.calls k m tied h)

-- ---- what is of one kind

pin_mark : (c : Circuit) (k : ℕ) → k < length c.nets → get_or (pin_marks c) k false ≡ list_any (λ x. x == k) c.pins
pin_mark c k lt = get_or-map-range_with_len (λ j. list_any (λ x. x == j) c.pins) 0 (length c.nets) k k false lt (let z : 0 + k ≡ k = omega arith in z)

same_beq : (a b : Bool) → a ≡ b → beq a b ≡ true
same_beq true b e = subst (λ (c : Bool). beq true c ≡ true) e refl
same_beq false b e = subst (λ (c : Bool). beq false c ≡ true) e refl

net_alike : (a b : Circuit) (nets : Partners) (k m : ℕ) → k < length a.nets → m < length b.nets → IsListed k a.pins ↔ IsListed m b.pins → is_alike a b nets Net k m ≡ true
net_alike a b nets k m l r pins =
    let same : list_any (λ x. x == k) a.pins ≡ list_any (λ x. x == m) b.pins =
    same_truth (list_any (λ x. x == k) a.pins) (list_any (λ x. x == m) b.pins)
    (λ t. listed_any m b.pins (pins.0 (any_listed k a.pins t))) (λ t. listed_any k a.pins (pins.1 (any_listed m b.pins t))) in
    same_beq (get_or (pin_marks a) k false) (get_or (pin_marks b) m false) (pin_mark a k l ∙ same ∙ sym (pin_mark b m r))

class_alike : (xs ys : List DeviceRow) (k m : ℕ) (d e : DeviceRow) → slice_get xs k ≡ Some d → slice_get ys m ≡ Some e → d.kind ≡ e.kind → d.class ≡ e.class
    → both same_class (slice_get xs k) (slice_get ys m) ≡ true
class_alike xs ys k m d e at there kind same =
    rw at (rw there (and_from (same_device_kind d.kind e.kind) (bytes_eq d.class e.class) ((same_kind d.kind e.kind).1 kind) ((bytes_eq-Decides d.class e.class).1 same)))

pair_alike : (xs ys : List CallRow) (k m : ℕ) (c e : CallRow) → slice_get xs k ≡ Some c → slice_get ys m ≡ Some e → c.circuit ≡ e.circuit
    → both same_pair (slice_get xs k) (slice_get ys m) ≡ true
pair_alike xs ys k m c e at there same = rw at (rw there (eq-eqb c.circuit e.circuit same))

-- ---- a match

module _ (p : Pair) (f : Found) (h : IsCorrespondence p (plain_pairing f)) (w : Wanted) (q : Asked) (of : AreOfPairing f w) (takes : TakesWanted p.left p.right w q.proposal) where
  first_at : (ms : List ℕ) (cs : List Couple) (n m k j : ℕ) → IsOneToOne ms n m → cs ≡ in_order 0 ms → slice_get ms k ≡ Some j → IsFirst (sure k j) cs
  first_at ms cs n m k j one e at = subst (IsFirst (sure k j)) (sym e) (order_first ms k j (one_apart ms n m one) at)

  left_in : (ms : List ℕ) (n m k j : ℕ) → IsOneToOne ms n m → slice_get ms k ≡ Some j → k < n
  left_in ms n m k j one at = let c = one.count in let l = slice_get_within ms k j at in omega arith

  right_in : (ms : List ℕ) (n m k j : ℕ) → IsOneToOne ms n m → slice_get ms k ≡ Some j → j < m
  right_in ms n m k j one at = one.below j (listed ms k j at)

  match_net : ArePartnersBy Net f.nets.items (proposal_rows q)
  match_net k m at =
      let n = length p.left.nets in
      let l = left_in f.nets.items n (length p.right.nets) k m h.nets at in
      let r = right_in f.nets.items n (length p.right.nets) k m h.nets at in
      let pins : IsListed k p.left.pins ↔ IsListed m p.right.pins = subst (λ (j : ℕ). IsListed k p.left.pins ↔ IsListed j p.right.pins) (entry_is f.nets.items k m at) (h.pin k l) in
      net_row q k m false (takes.nets (sure k m) (first_at f.nets.items w.nets.items n (length p.right.nets) k m h.nets of.nets at)
      (net_alike p.left p.right q.proposal.nets k m l r pins) l r)

  match_device : ArePartnersBy Device f.devices.items (proposal_rows q)
  match_device k m at =
      let n = length p.left.devices in
      let l = left_in f.devices.items n (length p.right.devices) k m h.devices at in
      let r = right_in f.devices.items n (length p.right.devices) k m h.devices at in
      let d = item_at p.left.devices k l in
      let e = item_at p.right.devices m r in
      let there : slice_get p.right.devices (slice_index f.devices.items k) ≡ Some e.0 = ap (λ (j : ℕ). slice_get p.right.devices j) (entry_is f.devices.items k m at) ∙ e.1 in
      let image = h.device k d.0 e.0 d.1 there in
      device_row q k m false (takes.devices (sure k m) (first_at f.devices.items w.devices.items n (length p.right.devices) k m h.devices of.devices at)
      (class_alike p.left.devices p.right.devices k m d.0 e.0 d.1 e.1 image.kind image.class) l r)

  match_call : ArePartnersBy Call f.calls.items (proposal_rows q)
  match_call k m at =
      let n = length p.left.calls in
      let l = left_in f.calls.items n (length p.right.calls) k m h.calls at in
      let r = right_in f.calls.items n (length p.right.calls) k m h.calls at in
      let d = item_at p.left.calls k l in
      let e = item_at p.right.calls m r in
      let there : slice_get p.right.calls (slice_index f.calls.items k) ≡ Some e.0 = ap (λ (j : ℕ). slice_get p.right.calls j) (entry_is f.calls.items k m at) ∙ e.1 in
      let image = h.call k d.0 e.0 d.1 there in
      call_row q k m false (takes.calls (sure k m) (first_at f.calls.items w.calls.items n (length p.right.calls) k m h.calls of.calls at)
      (pair_alike p.left.calls p.right.calls k m d.0 e.0 d.1 e.1 image.pair) l r)

match_rows : (a b : Circuit) (f : Found) (w : Wanted) (q : Asked) → AreOfPairing f w → TakesWanted a b w q.proposal → AreMatchRows a b (plain_pairing f) (proposal_rows q)
match_rows a b f w q of takes p left right h =
    let here : TakesWanted p.left p.right w q.proposal = subst (λ (c : Circuit). TakesWanted c p.right w q.proposal) (sym left) (subst (λ (c : Circuit). TakesWanted a c w q.proposal) (sym right) takes) in
    record { nets = match_net p f h w q of here; devices = match_device p f h w q of here; calls = match_call p f h w q of here }

-- ---- any other pair

name_rows : (a b : Circuit) (w : Wanted) (q : Asked) → AreOnlyFirst is_given a.nets b.nets w.nets.items → TakesWanted a b w q.proposal → AreNameRows a b (proposal_rows q)
name_rows a b w q only takes k m o =
    let l = slice_get_within a.nets k o.name o.left.0 in
    let r = slice_get_within b.nets m o.name o.right.0 in
    net_row q k m false (takes.nets (sure k m) (only o.name k m o.given o.left o.right) (net_alike a b q.proposal.nets k m l r o.pins) l r)

pub sure_rows : (a b : Circuit) (x : Answer) (w : Wanted) (q : Asked) → AreWanted a b x w → TakesWanted a b w q.proposal → HaveSure a b x (proposal_rows q)
sure_rows a b (answer.Match f) w q wanted takes = match_rows a b f w q wanted takes
sure_rows a b (answer.Differs e) w q wanted takes = name_rows a b w q wanted takes
sure_rows a b (answer.Undecided gs) w q wanted takes = name_rows a b w q wanted takes
sure_rows a b (answer.Skipped c) w q wanted takes = name_rows a b w q wanted takes

-- ---- all pairs

same_answer : (x y : Answer) → Some x ≡ Some y → x ≡ y
same_answer x y e = cc

same_circuit : (a b : Circuit) → Some a ≡ Some b → a ≡ b
same_circuit a b e = cc

-- one more pair
pub sure_on : (lefts rights : List Circuit) (answers : ℕ → Option Answer) (lists : List (List Row)) (k : ℕ) (a b : Circuit) (x : Answer) (rows : List Row)
    → AreAllSure lefts rights answers lists → length lists ≡ k → slice_get lefts k ≡ Some a → slice_get rights k ≡ Some b → answers k ≡ Some x → HaveSure a b x rows
    → AreAllSure lefts rights answers (lists ++ rows ∷ [])
sure_on lefts rights answers lists k a b x rows old long left right is here j c d y zs l r v h =
    elim (get_snoc lists rows j zs h) [
      | inl o ↦ old j c d y zs l r v o.0
      | inr e ↦
          let at : k ≡ j = sym (e.0 ∙ long) in
          let same_a : a ≡ c = same_circuit a c (sym left ∙ ap (λ (i : ℕ). slice_get lefts i) at ∙ l) in
          let same_b : b ≡ d = same_circuit b d (sym right ∙ ap (λ (i : ℕ). slice_get rights i) at ∙ r) in
          let same_x : x ≡ y = same_answer x y (sym is ∙ ap answers at ∙ v) in
          subst (λ (zs : List Row). HaveSure c d y zs) e.1
          (subst (λ (z : Answer). HaveSure c d z rows) same_x (subst (λ (z : Circuit). HaveSure c z x rows) same_b (subst (λ (z : Circuit). HaveSure z b x rows) same_a here)))
    ]

-- the next pair of two lists
pub pair_sure : (lefts rights : List Row_circuit) (same told : Bool) (answers : ℕ → Option Answer) (old new : Proposed) (k : ℕ) (x : Answer) (a b : Row_circuit)
    → AreShown (map plain_circuit lefts) (map plain_circuit rights) same old.proposals.items (rows_in old) → length old.proposals.items ≡ k
    → AreAllSure (map plain_circuit lefts) (map plain_circuit rights) answers (rows_in old)
    → k < length lefts → k < length rights → a ≡ get_or lefts k a → b ≡ get_or rights k b → answers k ≡ Some x
    → AddsPair told (plain_circuit a) (plain_circuit b) x old new
    → AreAllSure (map plain_circuit lefts) (map plain_circuit rights) answers (rows_in new)
pair_sure lefts rights same told answers old new k x a b shown at sure lt rt left right is adds =
    let ls = map plain_circuit lefts in
    let rs = map plain_circuit rights in
    let rows = proposal_rows (asked told (plain_circuit a) (plain_circuit b) old.proposals.items adds.proposal) in
    subst (λ (lists : List (List Row)). AreAllSure ls rs answers lists) (sym adds.rows)
    (sure_on ls rs answers (rows_in old) k (plain_circuit a) (plain_circuit b) x rows sure (shown.long ∙ at)
    (at_place lefts k a lt left) (at_place rights k b rt right) is adds.sure)

pub none_sure : (lefts rights : List Circuit) (answers : ℕ → Option Answer) → AreAllSure lefts rights answers []
none_sure lefts rights answers k a b x rows l r v h = absurd (let e : None ≡ Some rows = h in cc)

pub all_matched : (lefts rights : List Circuit) (answers : ℕ → Option Answer) (lists : List (List Row)) → AreAllSure lefts rights answers lists → AreMatched lefts rights answers lists
all_matched lefts rights answers lists h k a b f rows l r v at = h k a b (answer.Match f) rows l r v at

by_names : (a b : Circuit) (x : Answer) (rows : List Row) → IsNoMatch x → HaveSure a b x rows → AreNameRows a b rows
by_names a b (answer.Match f) rows other h = absurd other
by_names a b (answer.Differs e) rows other h = h
by_names a b (answer.Undecided gs) rows other h = h
by_names a b (answer.Skipped c) rows other h = h

pub all_named : (lefts rights : List Circuit) (answers : ℕ → Option Answer) (lists : List (List Row)) → AreAllSure lefts rights answers lists → AreNamed lefts rights answers lists
all_named lefts rights answers lists h k a b x rows l r v other at = by_names a b x rows other (h k a b x rows l r v at)
