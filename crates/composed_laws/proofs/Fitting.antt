-- Each pair fits where the answers of the pairs that it calls are right, and a right match is a correspondence.
use Rattle.std.proofs.Common.{◌≡◌, inl, inr, ℕ, zero, suc, ◌<◌, ◌≤◌, ◌==◌, Bool, true, cond, ◌||◌, List, [], ◌∷◌, length, take, get_or, Option, Some, None, slice_get, refl, sym, ◌∙◌, ap, subst, arith}
use Rattle.std.proofs.lemmas.Bool.{cases_Bool}
use Rattle.std.specs.List.{list_any}
use Rattle.std.proofs.lemmas.Bool.Decides.{Decides-eqb}
use Rattle.std.proofs.lemmas.Option.{slice_get-get_or, same_Some, none-some}
use Rattle.round_laws.specs.Nodes.{Side, Layout, Schematic, Node}
use Rattle.plain_netlist.specs.Lists.{IsListed}
use Rattle.round_laws.specs.Web.{End}
use Rattle.plain_netlist.specs.Netlist.{DeviceRow, CallRow, Circuit, Netlist, IsDevice, IsCircuit, IsCall, IsPin, HasNet}
use Rattle.plain_netlist.specs.Devices.{terminal_nets}
use Rattle.plain_netlist.specs.Sound.{IsGood}
use Rattle.plain_netlist.proofs.Once.{one_circuit}
use Rattle.match_laws.specs.Circuits.{Pair, Pairing, IsOneToOne, IsCorrespondence, IsFitting, device_ends}
use Rattle.match_laws.specs.Answer.{Answer, Match, DiffersInRound, DiffersByTree, Undecided, Skipped, equal_names, IsAnswer}
use Rattle.match_laws.proofs.Answer.{matched}
use Rattle.match_laws.proofs.Images.{device_net}
use Rattle.align_laws.specs.Lists.{circuit_or}
use Rattle.align_laws.specs.Partners.{AreSides}
use Rattle.composed_laws.specs.Answered.{pairing_or, right_pins, children_of, is_called, children_in, pair_in, Asked}
use Rattle.composed_laws.proofs.PinLists.{listed_at, one_to_one, same_long}

pub any_listed : (q : ℕ) (rows : List CallRow) → list_any (λ (r : CallRow). r.circuit == q) rows ≡ true → (k : ℕ) × (row : CallRow) × (slice_get rows k ≡ Some row) × (row.circuit ≡ q)
any_listed q [] h = absurd (let z : ⊥ = cc in z)
any_listed q (r ∷ rows) h = elim (cases_Bool (r.circuit == q)) [
  | inl e ↦ (0, r, refl, (Decides-eqb r.circuit q).0 e)
  | inr e ↦ let rest : list_any (λ (s : CallRow). s.circuit == q) rows ≡ true = sym (ap (λ t. t || list_any (λ (s : CallRow). s.circuit == q) rows) e) ∙ h in let z = any_listed q rows rest in (suc z.0, z.1, z.2, z.3)
]

-- an answer that gives right pins is a match
match_of : (c : Circuit) (a : Answer) (pins : List ℕ) → right_pins c (pairing_or a) ≡ Some pins → (f : Pairing) × (a ≡ Match f) × (take (length c.pins) f.nets ≡ pins)
match_of c (Match f) pins e = (f, refl, same_Some _ _ e)
match_of c (DiffersInRound r a m n) pins e = absurd (none-some pins e)
match_of c (DiffersByTree gs) pins e = absurd (none-some pins e)
match_of c (Undecided gs) pins e = absurd (none-some pins e)
match_of c (Skipped q) pins e = absurd (none-some pins e)

-- the answers of the pairs below n in height are right
module _ (left right : Netlist) (height : ℕ → ℕ) (left_good : IsGood left height) (right_height : ℕ → ℕ) (right_good : IsGood right right_height) (asked : Asked) (answers : ℕ → Answer) (sides : AreSides left right) (n : ℕ)
    (each : (k : ℕ) (c d : Circuit) → height k < n → IsCircuit left k c → IsCircuit right k d → IsAnswer (pair_in (asked.told k) left answers c d) (equal_names (pair_in (asked.told k) left answers c d)) asked.limit (answers k)) where
  abbrev kids : ℕ → Option (List ℕ)
  kids = children_of left answers

  -- right pins come of a match
  pub kids_from : (k : ℕ) (c : Circuit) (pins : List ℕ) → IsCircuit left k c → kids k ≡ Some pins → (f : Pairing) × (answers k ≡ Match f) × (take (length c.pins) f.nets ≡ pins)
  kids_from k c pins is kid = match_of c (answers k) pins (sym (ap (λ (x : Circuit). right_pins x (pairing_or (answers k))) (ap circuit_or is)) ∙ kid)

  pub kids_in : (c : Circuit) (q : ℕ) (pins : List ℕ) → children_in left answers c q ≡ Some pins → (kids q ≡ Some pins) × ((k : ℕ) × (row : CallRow) × (slice_get c.calls k ≡ Some row) × (row.circuit ≡ q))
  kids_in c q pins h = elim (cases_Bool (is_called c q)) [
    | inl e ↦ (sym (ap (λ t. cond t (kids q) None) e) ∙ h, any_listed q c.calls e)
    | inr e ↦ let no : None ≡ Some pins = sym (ap (λ t. cond t (kids q) None) e) ∙ h in absurd (let z : ⊥ = cc in z)
  ]

  pins_inside : (n : Netlist) (k : ℕ) (c : Circuit) → ((c i n' : ℕ) → IsPin n c i n' → HasNet n c n') → ((c i n' : ℕ) → IsPin n c i n' → n' ≡ i) → IsCircuit n k c → length c.pins ≤ length c.nets
  pins_inside n k c has first is = by (length c.pins) refl
    where
      by : (m : ℕ) → m ≡ length c.pins → length c.pins ≤ length c.nets
      by zero e = omega arith
      by (suc m) e =
          let at = slice_get-get_or c.pins m 0 (omega arith) in
          let net = has k m (get_or c.pins m 0) (c, is, at) in
          let same : net.0 ≡ c = let a = net.1 in cc in
          let lt : get_or c.pins m 0 < length c.nets = subst (λ (x : Circuit). get_or c.pins m 0 < length x.nets) same net.2 in
          let is_m = first k m (get_or c.pins m 0) (c, is, at) in
          omega arith

  pub left_first : (k : ℕ) (c : Circuit) → IsCircuit left k c → (i n : ℕ) → slice_get c.pins i ≡ Some n → n ≡ i
  left_first k c is i n at = left_good.pins k i n (c, is, at)

  pub right_first : (k : ℕ) (c : Circuit) → IsCircuit right k c → (i n : ℕ) → slice_get c.pins i ≡ Some n → n ≡ i
  right_first k c is i n at = right_good.pins k i n (c, is, at)

  pub left_inside : (k : ℕ) (c : Circuit) → IsCircuit left k c → length c.pins ≤ length c.nets
  left_inside k c is = pins_inside left k c left_good.within.pins left_good.pins is

  pub right_inside : (k : ℕ) (c : Circuit) → IsCircuit right k c → length c.pins ≤ length c.nets
  right_inside k c is = pins_inside right k c right_good.within.pins right_good.pins is

  -- the right pins of a pair with a correspondence
  pub list_of : (ch : ℕ → Option (List ℕ)) (told : Bool) (k : ℕ) (c d : Circuit) (f : Pairing) → IsCircuit left k c → IsCircuit right k d → IsCorrespondence (record { left = c; right = d; children = ch; told = told }) f
      → IsOneToOne (take (length c.pins) f.nets) (length c.pins) (length c.pins) × (length c.pins ≡ length d.pins)
  list_of ch told k c d f is it h =
      let p : Pair = record { left = c; right = d; children = ch; told = told } in (
        one_to_one p f h (left_first k c is) (right_first k d it) (left_inside k c is) (right_inside k d it),
        same_long p f h (left_first k c is) (right_first k d it) (left_inside k c is) (right_inside k d it),
      )

  nets_in : (n : Netlist) → ((c j m : ℕ) (row : DeviceRow) → IsDevice n c j row → IsListed m (terminal_nets row) → HasNet n c m) → (k : ℕ) (c : Circuit) → IsCircuit n k c
      → (j m : ℕ) (row : DeviceRow) → slice_get c.devices j ≡ Some row → IsListed m (terminal_nets row) → m < length c.nets
  nets_in n within k c is j m row at on =
      let h = within k j m row (c, is, at) on in
      let same : h.0 ≡ c = let a = h.1 in cc in
      subst (λ (x : Circuit). m < length x.nets) same h.2

  call_in : (n : Netlist) → ((c k p m : ℕ) (row : CallRow) → IsCall n c k row → slice_get row.nets p ≡ Some m → HasNet n c m) → (k : ℕ) (c : Circuit) → IsCircuit n k c
      → (j : ℕ) (row : CallRow) → slice_get c.calls j ≡ Some row → (m : ℕ) → IsListed m row.nets → m < length c.nets
  call_in n within k c is j row at m i =
      let r = listed_at row.nets m i in
      let there : slice_get row.nets r.0 ≡ Some m = slice_get-get_or row.nets r.0 0 r.1 ∙ ap Some r.2 in
      let h = within k j r.0 m row (c, is, at) there in
      let same : h.0 ≡ c = let a = h.1 in cc in
      subst (λ (x : Circuit). m < length x.nets) same h.2

  ends_in : (n : Netlist) (k : ℕ) (c : Circuit) (side : Side) → ((j m : ℕ) (row : DeviceRow) → slice_get c.devices j ≡ Some row → IsListed m (terminal_nets row) → m < length c.nets)
      → (j : ℕ) (row : DeviceRow) → slice_get c.devices j ≡ Some row → (e : End Node) → IsListed e (device_ends side row) → e.node.number < length c.nets
  ends_in n k c side net j row at e i = net j e.node.number row at (device_net side row e i).listed

  -- the right pins of each pair that circuit k calls are one to one
  abbrev pub AreBelow : Circuit → Type 0
  AreBelow c = (q : ℕ) (pins : List ℕ) → children_in left answers c q ≡ Some pins → (x : Circuit) × (y : Circuit) × IsCircuit left q x × IsCircuit right q y × IsOneToOne pins (length x.pins) (length x.pins) × (length x.pins ≡ length y.pins)

  pub fit_left : (k : ℕ) (c d : Circuit) → IsCircuit left k c → AreBelow c → IsFitting (pair_in (asked.told k) left answers c d) Layout
  fit_left k c d is below = record {
    devices = λ j row at e i. ends_in left k c Layout (nets_in left left_good.within.devices k c is) j row at e i;
    calls = λ j row at m i. call_in left left_good.within.calls k c is j row at m i;
    pins = λ j row at pins h.
        let b = below row.circuit pins h in
        let called = left_good.called k j row (c, is, at) in
        let long : length row.nets ≡ length b.0.pins = called.2 ∙ ap (λ (x : Circuit). length x.pins) (one_circuit left row.circuit called.0 b.0 called.1 b.2) in
        subst (λ z. IsOneToOne pins z z) (sym long) b.4;
  }

  pub fit_right : (k : ℕ) (c d : Circuit) → IsCircuit right k d → AreBelow c → IsFitting (pair_in (asked.told k) left answers c d) Schematic
  fit_right k c d it below = record {
    devices = λ j row at e i. ends_in right k d Schematic (nets_in right right_good.within.devices k d it) j row at e i;
    calls = λ j row at m i. call_in right right_good.within.calls k d it j row at m i;
    pins = λ j row at pins h.
        let b = below row.circuit pins h in
        let called = right_good.called k j row (d, it, at) in
        let long : length row.nets ≡ length b.0.pins = called.2 ∙ (ap (λ (x : Circuit). length x.pins) (one_circuit right row.circuit called.0 b.1 called.1 b.3) ∙ sym b.5) in
        subst (λ z. IsOneToOne pins z z) (sym long) b.4;
  }

  -- matches below m in height are correspondences
  abbrev AreRight : ℕ → Type 0
  AreRight m = (k : ℕ) (c d : Circuit) (f : Pairing) → height k < m → IsCircuit left k c → IsCircuit right k d → answers k ≡ Match f → IsCorrespondence (pair_in (asked.told k) left answers c d) f

  below_of : (m k : ℕ) (c : Circuit) → height k ≤ m → IsCircuit left k c → AreRight m → AreBelow c
  below_of m k c low is right_below q pins h =
      let r = kids_in c q pins h in
      let call : IsCall left k r.1.0 r.1.1 = (c, is, r.1.2) in
      let down = left_good.lower k r.1.0 r.1.1 call in
      let called = left_good.called k r.1.0 r.1.1 call in
      let here : IsCircuit left q called.0 = subst (λ z. IsCircuit left z called.0) r.1.3 called.1 in
      let other = sides.there q called.0 here in
      let f = kids_from q called.0 pins here r.0 in
      let lower : height q < m = let e = ap height r.1.3 in omega arith in
      let one = list_of (children_in left answers called.0) (asked.told q) q called.0 other.0 f.0 here other.1 (right_below q called.0 other.0 f.0 lower here other.1 f.1) in
      (called.0, other.0, here, other.1, subst (λ (l : List ℕ). IsOneToOne l (length called.0.pins) (length called.0.pins)) f.2 one.0, one.1)

  are_right : (m : ℕ) → m ≤ n → AreRight m
  are_right zero small k c d f low is it e = absurd (omega arith)
  are_right (suc m) small k c d f low is it e =
      let below = below_of m k c (omega arith) is (are_right m (omega arith)) in
      matched (pair_in (asked.told k) left answers c d) (equal_names (pair_in (asked.told k) left answers c d)) asked.limit f (fit_left k c d is below) (fit_right k c d it below)
      (subst (λ a. IsAnswer (pair_in (asked.told k) left answers c d) (equal_names (pair_in (asked.told k) left answers c d)) asked.limit a) e (each k c d (omega arith) is it))

  pub corresponds : (k : ℕ) (c d : Circuit) (f : Pairing) → height k < n → IsCircuit left k c → IsCircuit right k d → answers k ≡ Match f → IsCorrespondence (pair_in (asked.told k) left answers c d) f
  corresponds k c d f low is it e = are_right n (omega arith) k c d f low is it e
