-- Lists cut so are pruned.
use Rattle.std.proofs.Common.{◌≡◌, inl, inr, ℕ, zero, suc, ◌<◌, Bool, true, cond, [], ◌∷◌, length, Some, slice_get, refl, sym, ◌∙◌, ap, subst}
use Rattle.base_laws.proofs.Items.{item_at, map_to, map_from}
use Rattle.std.proofs.lemmas.Bool.{cases_Bool}
use Rattle.std.proofs.lemmas.Option.{slice_get_within}
use Rattle.plain_netlist.specs.Netlist.{CallRow, Circuit, Netlist, IsCircuit, IsCall, IsPin}
use Rattle.plain_netlist.specs.Devices.{row_over}
use Rattle.align_laws.specs.Lists.{joined_place, net_at_pin, circuit_or, call_or, given_of, row_of}
use Rattle.align_laws.proofs.Prune.{ArePinsKept, ArePinsBack, IsPruned, ArePruned, from_or, cuts_of, AreDeadGone}
use Rattle.plain_netlist.specs.Sound.{IsGood}
use Rattle.align_laws.specs.Cut.{CutCall, Alignment, held_pin, held_pins, cut_row, cut_call, cut_calls, cut, AreCut}
use Rattle.align_laws.proofs.Pieces.{piece_at, piece_of, place_pin}

one_item : {B : Type 0} (r y : B) (n : ℕ) → slice_get (r ∷ []) n ≡ Some y → (n ≡ 0) × (r ≡ y)
one_item r y zero h = let e : Some r ≡ Some y = h in (refl, cc)
one_item r y (suc n) h = let e : slice_get [] n ≡ Some y = h in absurd cc

module _ (f : Netlist) where
  pub given_is : (c : ℕ) (x : Circuit) → IsCircuit f c x → given_of f c ≡ x
  given_is c x is = ap circuit_or is

  pub row_is : (c k : ℕ) (row : CallRow) → IsCall f c k row → row_of f c k ≡ row
  row_is c k row (x, is, at) = ap call_or (ap (λ (y : Circuit). slice_get y.calls k) (given_is c x is) ∙ at)

  pub call_here : (c k : ℕ) (row : CallRow) → IsCall f c k row → slice_get (given_of f c).calls k ≡ Some row
  call_here c k row (x, is, at) = subst (λ (z : Circuit). slice_get z.calls k ≡ Some row) (sym (given_is c x is)) at

pub cut_is : (f o : Netlist) (w : Alignment) → AreCut f o w → (c : ℕ) (y : Circuit) → w.kept c ≡ true → IsCircuit o (w.number c) y → y ≡ cut f w c
cut_is f o w are c y kept is = let t = are.there c kept in cc

module _ (f : Netlist) (w : Alignment) (height : ℕ → ℕ) (good : IsGood f height) where
  -- held pins
  held_at : (c i n : ℕ) → IsPin f c i n → w.held c n ≡ true → slice_get (held_pins f w c) (joined_place (held_pin f w c) (given_of f c).pins i 0) ≡ Some n
  held_at c i n (x, is, at) h =
      let here : slice_get (given_of f c).pins i ≡ Some n = subst (λ (z : Circuit). slice_get z.pins i ≡ Some n) (sym (given_is f c x is)) at in
      let one : slice_get (held_pin f w c i n) 0 ≡ Some n = subst (λ (t : Bool). slice_get (cond t (n ∷ []) []) 0 ≡ Some n) (sym h) refl in
      piece_at (held_pin f w c) (given_of f c).pins i 0 n n here one

  pub held_of : (c q n : ℕ) (x : Circuit) → IsCircuit f c x → slice_get (held_pins f w c) q ≡ Some n → IsPin f c n n × (w.held c n ≡ true)
  held_of c q n x is at =
      let p = piece_of (held_pin f w c) (given_of f c).pins q n at in
      let here : IsPin f c p.item p.of = (x, is, subst (λ (z : Circuit). slice_get z.pins p.item ≡ Some p.of) (given_is f c x is) p.is) in
      let num = good.pins c p.item p.of here in
      elim (cases_Bool (w.held c p.of)) [
        | inl h ↦
            let there : slice_get (p.of ∷ []) p.number ≡ Some n = subst (λ (t : Bool). slice_get (cond t (p.of ∷ []) []) p.number ≡ Some n) h p.at in
            let e : p.of ≡ n = (one_item p.of n p.number there).1 in (
              subst (λ (m : ℕ). IsPin f c m n) (sym num ∙ e) (subst (λ (m : ℕ). IsPin f c p.item m) e here),
              subst (λ (m : ℕ). w.held c m ≡ true) e h,
            )
        | inr h ↦
            let none : slice_get [] p.number ≡ Some n = subst (λ (t : Bool). slice_get (cond t (p.of ∷ []) []) p.number ≡ Some n) h p.at in
            absurd cc
      ]

module _ (f o : Netlist) (w : Alignment) (are : AreCut f o w) (height : ℕ → ℕ) (good : IsGood f height) (dead : AreDeadGone f w) where
  pin_there : (c q n : ℕ) → w.kept c ≡ true → slice_get (held_pins f w c) q ≡ Some n → IsPin o (w.number c) q (w.new c n)
  pin_there c q n kept at = (cut f w c, are.there c kept, map_to (w.new c) (held_pins f w c) q n at)

  pin_from : (c q m : ℕ) → w.kept c ≡ true → IsPin o (w.number c) q m → (n : ℕ) × (slice_get (held_pins f w c) q ≡ Some n) × (w.new c n ≡ m)
  pin_from c q m kept (y, is, at) = map_from (w.new c) (held_pins f w c) q m (subst (λ (z : Circuit). slice_get z.pins q ≡ Some m) (cut_is f o w are c y kept is) at)

  pins_kept : (c k : ℕ) (row : CallRow) → w.kept c ≡ true → IsCall f c k row → w.kept row.circuit ≡ true → ArePinsKept f o (cuts_of f w) c row (cut_row f w c row)
  pins_kept c k row there call kept p outer inner net pin h =
      let num = good.pins row.circuit p inner pin in
      let up = (are.held c outer there).1 (inr (k, row, p, inner, call, kept, net, pin, h)) in
      let at = held_at f w height good row.circuit p inner pin h in
      let q = joined_place (held_pin f w row.circuit) (given_of f row.circuit).pins p 0 in
      let here : slice_get row.nets inner ≡ Some outer = subst (λ (m : ℕ). slice_get row.nets m ≡ Some outer) (sym num) net in (
        up,
        q,
        map_to (λ p. w.new c (net_at_pin row.nets (λ m. 0) p)) (held_pins f w row.circuit) q inner at ∙ ap (λ (m : ℕ). Some (w.new c m)) (place_pin row.nets (λ m. 0) inner outer here),
        pin_there row.circuit q inner kept at,
      )

  pins_back : (c k : ℕ) (row : CallRow) → w.kept c ≡ true → IsCall f c k row → w.kept row.circuit ≡ true → ArePinsBack f o (cuts_of f w) c row (cut_row f w c row)
  pins_back c k row there call kept q outer inner net pin =
      let n = map_from (λ p. w.new c (net_at_pin row.nets (λ m. 0) p)) (held_pins f w row.circuit) q outer net in
      let m = pin_from row.circuit q inner kept pin in
      let same : m.0 ≡ n.0 = let a = m.1 in let b = n.1 in cc in
      let d = good.called c k row call in
      let is = held_of f w height good row.circuit q n.0 d.0 d.1 n.1 in
      let low : n.0 < length row.nets = subst (λ (l : ℕ). n.0 < l) (sym d.2) (slice_get_within d.0.pins n.0 n.0 (let e : is.0.0 ≡ d.0 = let a = is.0.1 in let b = d.1 in cc in subst (λ (z : Circuit). slice_get z.pins n.0 ≡ Some n.0) e is.0.2)) in
      let x = item_at row.nets n.0 low in
      let up = (are.held c x.0 there).1 (inr (k, row, n.0, n.0, call, kept, x.1, is.0, is.1)) in
      let e : w.new c x.0 ≡ outer = ap (w.new c) (sym (place_pin row.nets (λ m. 0) n.0 x.0 x.1)) ∙ n.2 in
      let back : x.0 ≡ w.old c outer = sym (are.back c x.0 up) ∙ ap (w.old c) e in
      let low_back : n.0 ≡ w.old row.circuit inner = sym (are.back row.circuit n.0 is.1) ∙ ap (w.old row.circuit) (ap (w.new row.circuit) (sym same) ∙ m.2) in (
        n.0,
        x.1 ∙ ap (λ (z : ℕ). Some z) back,
        subst (λ (z : ℕ). IsPin f row.circuit n.0 z) low_back is.0,
      )

  each : (c : ℕ) → w.kept c ≡ true → IsPruned f o (cuts_of f w) c
  each c there =
      let x = are.given c there in
      record {
        target = λ k row call. ap (λ (r : CallRow). r.circuit) (row_is f c k row call);
        device = λ j row dev.
            (cut f w c, are.there c there, map_to (row_over (w.new c)) (given_of f c).devices j row (subst (λ (z : Circuit). slice_get z.devices j ≡ Some row) (sym (given_is f c dev.0 dev.1)) dev.2));
        device_back = λ j other dev.
            let m = map_from (row_over (w.new c)) (given_of f c).devices j other (subst (λ (z : Circuit). slice_get z.devices j ≡ Some other) (cut_is f o w are c dev.0 there dev.1) dev.2) in
            (m.0, (x.0, x.1, subst (λ (z : Circuit). slice_get z.devices j ≡ Some m.0) (given_is f c x.0 x.1) m.1));
        terminal = λ j n row dev on. (are.held c n there).1 (inl (j, row, dev, on));
        call = λ k row call kept.
            let item : CutCall = record { from = k; row = cut_row f w c row } in
            let one : slice_get (cut_call f w c k row) 0 ≡ Some item = subst (λ (t : Bool). slice_get (cond t (item ∷ []) []) 0 ≡ Some item) (sym kept) refl in
            let at = piece_at (cut_call f w c) (given_of f c).calls k 0 row item (call_here f c k row call) one in (
              cut_row f w c row,
              (cut f w c, are.there c there, map_to (λ (r : CutCall). r.row) (cut_calls f w c) (joined_place (cut_call f w c) (given_of f c).calls k 0) item at),
              refl,
              ap from_or at,
              pins_kept c k row there call kept,
            );
        dead = λ k row call no path j r h. dead c k row there call no path j r h;
        call_back = λ e other dev.
            let m = map_from (λ (r : CutCall). r.row) (cut_calls f w c) e other (subst (λ (z : Circuit). slice_get z.calls e ≡ Some other) (cut_is f o w are c dev.0 there dev.1) dev.2) in
            let p = piece_of (cut_call f w c) (given_of f c).calls e m.0 m.1 in
            let call : IsCall f c p.item p.of = (x.0, x.1, subst (λ (z : Circuit). slice_get z.calls p.item ≡ Some p.of) (given_is f c x.0 x.1) p.is) in
            let item : CutCall = record { from = p.item; row = cut_row f w c p.of } in
            elim (cases_Bool (w.kept p.of.circuit)) [
              | inl h ↦
                  let low : slice_get (item ∷ []) p.number ≡ Some m.0 = subst (λ (t : Bool). slice_get (cond t (item ∷ []) []) p.number ≡ Some m.0) h p.at in
                  let i = one_item item m.0 p.number low in
                  let from : p.item ≡ from_or (slice_get (cut_calls f w c) e) = ap (λ (r : CutCall). r.from) i.1 ∙ ap from_or (sym m.1) in
                  let num : joined_place (cut_call f w c) (given_of f c).calls p.item 0 ≡ e = ap (joined_place (cut_call f w c) (given_of f c).calls p.item) (sym i.0) ∙ p.there in
                  let same : cut_row f w c p.of ≡ other = ap (λ (r : CutCall). r.row) i.1 ∙ m.2 in (
                    p.of,
                    subst (λ (n : ℕ). IsCall f c n p.of) from call,
                    h,
                    ap (λ (n : ℕ). joined_place (cut_call f w c) (given_of f c).calls n 0) (sym from) ∙ num,
                    ap (λ (r : CallRow). r.circuit) (sym same),
                    subst (λ (r : CallRow). ArePinsBack f o (cuts_of f w) c p.of r) same (pins_back c p.item p.of there call h),
                  )
              | inr h ↦
                  let none : slice_get [] p.number ≡ Some m.0 = subst (λ (t : Bool). slice_get (cond t (item ∷ []) []) p.number ≡ Some m.0) h p.at in
                  absurd cc
            ];
        net_back = λ n h. are.back c n h;
        pin = λ i n pin h. (joined_place (held_pin f w c) (given_of f c).pins i 0, pin_there c (joined_place (held_pin f w c) (given_of f c).pins i 0) n there (held_at f w height good c i n pin h));
        pin_back = λ q m pin.
            let n = pin_from c q m there pin in
            let is = held_of f w height good c q n.0 x.0 x.1 n.1 in
            (n.0, n.0, is.0, is.1, n.2);
      }

  pub are_pruned : ArePruned f o (cuts_of f w)
  are_pruned = record { each = each; apart = λ c i j n a b. sym (good.pins c i n a) ∙ good.pins c j n b }

pub cut_pruned : (f o : Netlist) (w : Alignment) → AreCut f o w → (height : ℕ → ℕ) → IsGood f height → AreDeadGone f w → ArePruned f o (cuts_of f w)
cut_pruned f o w are height good dead = are_pruned f o w are height good dead
