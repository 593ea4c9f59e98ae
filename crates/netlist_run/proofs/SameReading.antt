-- Cards that say the same are read as the same, but for their lines.
use Rattle.std.proofs.Common.{◌≡◌, ◌⊎◌, inl, inr, ℕ, Bool, true, false, List, [], ◌∷◌, ◌++◌, Option, Some, None, Result, Ok, Err, refl, sym, ap, subst, ◌∙◌}
use Rattle.std.specs.Prelude.{is_some, replicate, if◌then◌else◌}
use Rattle.spice_cards.specs.Cards.{Card}
use Rattle.spice_cards.specs.Tokens.{Token}
use Rattle.spice_rows.specs.Rows.{CallCard, CardRow, Opens, Ends, Globals, Stops, Passed, Device, Call, DeviceCard, card_row}
use Rattle.spice_rows.specs.Sizes.{Limits}
use Rattle.spice_rows.specs.declared.fault.SpiceFault.{SpiceFault}
use Rattle.netlist_turn.specs.KeptLaw.{is_silent, saying, tokens_in}
use Rattle.spice_text.specs.Gather.{Circuit, Cards, changed, closed, or_top, read_on, reading, with_call, with_devices, with_row}
use Rattle.netlist_run.specs.Kept.{EndsLast, is_end}
use Rattle.netlist_run.proofs.SameRows.{IsAlike, IsSilentRow, card_alike, on_line, silent_row}

-- ---- the same but for lines

abbrev pub AreSameCalls : List CallCard → List CallCard → Type 0
AreSameCalls [] [] = Unit {0}
AreSameCalls [] (q ∷ qs) = ⊥
AreSameCalls (r ∷ rs) [] = ⊥
AreSameCalls (r ∷ rs) (q ∷ qs) = (r.nets ≡ q.nets) × (r.circuit ≡ q.circuit) × AreSameCalls rs qs

pub record IsSame (c d : Circuit) : Type 0 where
  pub name : c.name ≡ d.name
  pub pins : c.pins ≡ d.pins
  pub devices : c.devices ≡ d.devices
  pub calls : AreSameCalls c.calls d.calls

abbrev pub AreSame : List Circuit → List Circuit → Type 0
AreSame [] [] = Unit {0}
AreSame [] (d ∷ ds) = ⊥
AreSame (c ∷ cs) [] = ⊥
AreSame (c ∷ cs) (d ∷ ds) = IsSame c d × AreSame cs ds

abbrev pub IsSameSome : Option Circuit → Option Circuit → Type 0
IsSameSome None None = Unit {0}
IsSameSome None (Some d) = ⊥
IsSameSome (Some c) None = ⊥
IsSameSome (Some c) (Some d) = IsSame c d

pub record AreSameCards (x y : Cards) : Type 0 where
  pub circuits : AreSame x.circuits y.circuits
  pub open_one : IsSameSome x.open_one y.open_one
  pub outside : IsSameSome x.outside y.outside
  pub globals : x.globals ≡ y.globals

same_push : (cs ds : List Circuit) (c d : Circuit) → AreSame cs ds → IsSame c d → AreSame (cs ++ c ∷ []) (ds ++ d ∷ [])
same_push [] [] c d h g = (g, tt)
same_push [] (y ∷ ds) c d h g = absurd h
same_push (x ∷ cs) [] c d h g = absurd h
same_push (x ∷ cs) (y ∷ ds) c d h g = (h.0, same_push cs ds c d h.1 g)

pub same_closed : (cs ds : List Circuit) (a b : Option Circuit) → AreSame cs ds → IsSameSome a b → AreSame (closed cs a) (closed ds b)
same_closed cs ds None None h g = h
same_closed cs ds None (Some d) h g = absurd g
same_closed cs ds (Some c) None h g = absurd g
same_closed cs ds (Some c) (Some d) h g = same_push cs ds c d h g

calls_push : (rs qs : List CallCard) (r q : CallCard) → AreSameCalls rs qs → r.nets ≡ q.nets → r.circuit ≡ q.circuit → AreSameCalls (rs ++ r ∷ []) (qs ++ q ∷ [])
calls_push [] [] r q h e f = (e, f, tt)
calls_push [] (y ∷ qs) r q h e f = absurd h
calls_push (x ∷ rs) [] r q h e f = absurd h
calls_push (x ∷ rs) (y ∷ qs) r q h e f = (h.0, h.1, calls_push rs qs r q h.2 e f)

same_top : (m n : ℕ) (a b : Option Circuit) → IsSameSome a b → IsSame (or_top m a) (or_top n b)
same_top m n None None h = record { name = refl; pins = refl; devices = refl; calls = tt }
same_top m n None (Some d) h = absurd h
same_top m n (Some c) None h = absurd h
same_top m n (Some c) (Some d) h = h

same_changed : (x y : Cards) (m n : ℕ) (f g : Circuit → Circuit) (a b : Option Circuit) → AreSameCards x y → IsSameSome a b → ((c d : Circuit) → IsSame c d → IsSame (f c) (g d))
    → AreSameCards (changed x m f a) (changed y n g b)
same_changed x y m n f g None None h s each =
    record { circuits = h.circuits; open_one = h.open_one; outside = each (or_top m x.outside) (or_top n y.outside) (same_top m n x.outside y.outside h.outside); globals = h.globals }
same_changed x y m n f g None (Some d) h s each = absurd s
same_changed x y m n f g (Some c) None h s each = absurd s
same_changed x y m n f g (Some c) (Some d) h s each = record { circuits = h.circuits; open_one = each c d s; outside = h.outside; globals = h.globals }

same_row : (x y : Cards) (m n : ℕ) (row : CardRow) → AreSameCards x y → AreSameCards (with_row x m row) (with_row y n (on_line n row))
same_row x y m n (Opens name pins) h =
    record { circuits = h.circuits; open_one = record { name = refl; pins = refl; devices = refl; calls = tt }; outside = h.outside; globals = h.globals }
same_row x y m n Ends h = record { circuits = same_closed x.circuits y.circuits x.open_one y.open_one h.circuits h.open_one; open_one = tt; outside = h.outside; globals = h.globals }
same_row x y m n (Globals names) h = record { circuits = h.circuits; open_one = h.open_one; outside = h.outside; globals = ap (λ (gs : List (List ℕ)). gs ++ names) h.globals }
same_row x y m n Stops h = h
same_row x y m n Passed h = h
same_row x y m n (Device card copies) h =
    same_changed x y m n (with_devices card copies) (with_devices card copies) x.open_one y.open_one h h.open_one
    (λ c d s. record { name = s.name; pins = s.pins; devices = ap (λ (ds : List DeviceCard). ds ++ replicate copies card) s.devices; calls = s.calls })
same_row x y m n (Call r) h =
    same_changed x y m n (with_call r) (with_call (record r { line = n })) x.open_one y.open_one h h.open_one
    (λ c d s. record { name = s.name; pins = s.pins; devices = s.devices; calls = calls_push c.calls d.calls r (record r { line = n }) s.calls refl refl })

-- ---- reading

pub record ReadsSame (limit : Option Limits) (x y : Cards) (ds : List Card) (z : Cards) : Type 0 where
  pub cards : Cards
  pub read : reading limit y ds ≡ Ok cards
  pub same : AreSameCards z cards

abbrev Outcome : Type 0
Outcome = Result Cards SpiceFault

no_ok : {A : Type 0} (e : SpiceFault) (z : Cards) → (let r : Outcome = Err e in r) ≡ Ok z → A
no_ok e z h = absurd (let q : ⊥ = cc in q)

ok_is : (x z : Cards) → (let r : Outcome = Ok x in r) ≡ Ok z → x ≡ z
ok_is x z h = cc

-- a row on the other line is read on
on_row : (row : CardRow) (x y z : Cards) (m n : ℕ) (ra rb : Cards → Outcome) → AreSameCards x y → read_on x m (Ok row) ra ≡ Ok z
    → ((p q : Cards) → AreSameCards p q → ra p ≡ Ok z → (w : Cards) × (rb q ≡ Ok w) × AreSameCards z w)
    → (w : Cards) × (read_on y n (Ok (on_line n row)) rb ≡ Ok w) × AreSameCards z w
on_row (Opens name pins) x y z m n ra rb h e go = go (with_row x m (Opens name pins)) (with_row y n (Opens name pins)) (same_row x y m n (Opens name pins) h) e
on_row Ends x y z m n ra rb h e go = go (with_row x m Ends) (with_row y n Ends) (same_row x y m n Ends h) e
on_row (Globals names) x y z m n ra rb h e go = go (with_row x m (Globals names)) (with_row y n (Globals names)) (same_row x y m n (Globals names) h) e
on_row Stops x y z m n ra rb h e go = (y, refl, subst (λ (c : Cards). AreSameCards c y) (ok_is x z e) h)
on_row Passed x y z m n ra rb h e go = go (with_row x m Passed) (with_row y n Passed) (same_row x y m n Passed h) e
on_row (Device card copies) x y z m n ra rb h e go = go (with_row x m (Device card copies)) (with_row y n (Device card copies)) (same_row x y m n (Device card copies) h) e
on_row (Call r) x y z m n ra rb h e go = go (with_row x m (Call r)) (with_row y n (Call (record r { line = n }))) (same_row x y m n (Call r) h) e

said_by : (r s : Result CardRow SpiceFault) (x y z : Cards) (m n : ℕ) (ra rb : Cards → Outcome) → AreSameCards x y → IsAlike n r s → read_on x m r ra ≡ Ok z
    → ((p q : Cards) → AreSameCards p q → ra p ≡ Ok z → (w : Cards) × (rb q ≡ Ok w) × AreSameCards z w)
    → (w : Cards) × (read_on y n s rb ≡ Ok w) × AreSameCards z w
said_by (Err x0) s x y z m n ra rb h alike e go = no_ok x0 z e
said_by (Ok row) s x y z m n ra rb h alike e go =
    let on = on_row row x y z m n ra rb h e go in (on.0, ap (λ (t : Result CardRow SpiceFault). read_on y n t rb) alike ∙ on.1, on.2)

same_open : (a b : Option Circuit) → IsSameSome a b → is_some a ≡ is_some b
same_open None None h = refl
same_open None (Some d) h = absurd h
same_open (Some c) None h = absurd h
same_open (Some c) (Some d) h = refl

-- a card that says nothing is passed over, or is the last
silent_on : (r : Result CardRow SpiceFault) (end : Bool) (x z : Cards) (m : ℕ) (ra : Cards → Outcome) → IsSilentRow end r → read_on x m r ra ≡ Ok z → (ra x ≡ Ok z) ⊎ ((end ≡ true) × (x ≡ z))
silent_on (Err e) end x z m ra s h = no_ok e z h
silent_on (Ok Passed) end x z m ra s h = inl h
silent_on (Ok Stops) end x z m ra s h = inr (s, ok_is x z h)
silent_on (Ok Ends) end x z m ra s h = absurd s
silent_on (Ok (Opens name pins)) end x z m ra s h = absurd s
silent_on (Ok (Globals names)) end x z m ra s h = absurd s
silent_on (Ok (Device card copies)) end x z m ra s h = absurd s
silent_on (Ok (Call r)) end x z m ra s h = absurd s

none_said : (ds : List Card) → tokens_in ds ≡ [] → ds ≡ []
none_said [] h = refl
none_said (d ∷ ds) h = absurd (let z : ⊥ = cc in z)

record IsFirst (ts : List Token) (tss : List (List Token)) (ds : List Card) : Type 0 where
  card : Card
  more : List Card
  are : ds ≡ card ∷ more
  tokens : card.tokens ≡ ts
  rest : tokens_in more ≡ tss

first_said : (ds : List Card) (ts : List Token) (tss : List (List Token)) → tokens_in ds ≡ ts ∷ tss → IsFirst ts tss ds
first_said [] ts tss h = absurd (let z : ⊥ = cc in z)
first_said (d ∷ ds) ts tss h = record { card = d; more = ds; are = refl; tokens = cc; rest = cc }

step : (silent : Bool) (limit : Option Limits) (c : Card) (cs ds : List Card) (x y z : Cards) → is_silent c.tokens ≡ silent → AreSameCards x y → EndsLast (c ∷ cs)
    → tokens_in ds ≡ (if silent then saying cs else c.tokens ∷ saying cs) → reading limit x (c ∷ cs) ≡ Ok z
    → ((es : List Card) (p q : Cards) → AreSameCards p q → tokens_in es ≡ saying cs → reading limit p cs ≡ Ok z → ReadsSame limit p q es z)
    → ReadsSame limit x y ds z
step true limit c cs ds x y z silent h last said e go =
    elim (silent_on (card_row limit c.line (is_some x.open_one) c.tokens) (is_end c.tokens) x z c.line (λ next. reading limit next cs) (silent_row limit c.line (is_some x.open_one) c.tokens silent) e) [
      | inl on ↦ go ds x y h said on
      | inr (end, same) ↦
          (let none : cs ≡ [] = last.0 end in
          let left : ds ≡ [] = none_said ds (said ∙ ap (λ (es : List Card). saying es) none) in
          record { cards = y; read = ap (λ (es : List Card). reading limit y es) left; same = subst (λ (k : Cards). AreSameCards k y) same h })
    ]
step false limit c cs ds x y z silent h last said e go =
    let first = first_said ds c.tokens (saying cs) said in
    let d : Card = first.card in
    let n : ℕ = d.line in
    let row_is : card_row limit n (is_some x.open_one) c.tokens ≡ card_row limit n (is_some y.open_one) d.tokens =
    ap (λ (b : Bool). card_row limit n b c.tokens) (same_open x.open_one y.open_one h.open_one) ∙ ap (λ (ts : List Token). card_row limit n (is_some y.open_one) ts) (sym first.tokens) in
    let on = said_by (card_row limit c.line (is_some x.open_one) c.tokens) (card_row limit n (is_some x.open_one) c.tokens) x y z c.line n (λ next. reading limit next cs) (λ next. reading limit next first.more) h
    (card_alike limit c.line n (is_some x.open_one) c.tokens) e (λ p q s k. let r = go first.more p q s first.rest k in (r.cards, r.read, r.same)) in
    record {
      cards = on.0;
      read = ap (λ (es : List Card). reading limit y es) first.are ∙ ap (λ (r : Result CardRow SpiceFault). read_on y n r (λ next. reading limit next first.more)) (sym row_is) ∙ on.1;
      same = on.2;
    }

pub reads_same : (limit : Option Limits) (cs ds : List Card) (x y z : Cards) → AreSameCards x y → EndsLast cs → tokens_in ds ≡ saying cs → reading limit x cs ≡ Ok z → ReadsSame limit x y ds z
reads_same limit [] ds x y z h last said e =
    record { cards = y; read = ap (λ (es : List Card). reading limit y es) (none_said ds said); same = subst (λ (k : Cards). AreSameCards k y) (ok_is x z e) h }
reads_same limit (c ∷ cs) ds x y z h last said e =
    step (is_silent c.tokens) limit c cs ds x y z refl h last said e (λ es p q s t k. reads_same limit cs es p q z s last.1 t k)
