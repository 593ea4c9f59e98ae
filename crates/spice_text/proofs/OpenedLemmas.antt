-- What holds of the name and the pins of each card that opens a circuit holds of those of each circuit of the cards.
use Rattle.std.proofs.Common.{◌≡◌, inl, inr, ℕ, ◌==◌, Bool, true, false, not, List, [], ◌∷◌, Option, Some, None, Result, Ok, Err, IfOk, refl, sym, subst}
use Rattle.std.proofs.lemmas.Bool.{cases_Bool}
use Rattle.std.specs.Prelude.{codes, is_some}
use Rattle.std.specs.List.{list_any}
use Rattle.plain_netlist.specs.Lists.{IsListed}
use Rattle.fixed_num.specs.declared.femto.ValueFault.{ValueFault}
use Rattle.spice_cards.specs.Tokens.{Token, Word, Equals}
use Rattle.spice_cards.specs.Cards.{Card, cards_of, early_more}
use Rattle.spice_cards.specs.Parts.{Param, words_of, behind_words, params_of}
use Rattle.spice_rows.specs.Names.{names_of, are_apart, is_text}
use Rattle.plain_netlist.specs.declared.kinds.DeviceKind.{DeviceKind}
use Rattle.plain_netlist.specs.declared.kinds.DeviceKind.TheVariants.{Mos4, ResistorWithBulk, Diode}
use Rattle.spice_rows.specs.Params.{copies_of, is_one, is_refused}
use Rattle.spice_rows.specs.Sizes.{Limits, sizes_of}
use Rattle.spice_rows.specs.Rows as rows
use Rattle.spice_rows.specs.Rows.{CardRow, DeviceCard, Opens, Ends, Globals, Stops, Passed, Device, Call}
use Rattle.spice_rows.specs.declared.fault.SpiceFault.{SpiceFault}
use Rattle.spice_text.specs.Gather.{Circuit, Cards, no_cards, closed, changed, or_top, with_row, with_devices, with_call, read_on, reading, reading_of, early_or}
use Rattle.spice_text.specs.Circuits.{all_of}
use Rattle.spice_text.proofs.NeedLemmas.{last_or}

-- a card that opens a circuit has names that its words spell, its pins apart
module _ (P : List ℕ → List (List ℕ) → Type 0) (opens : (words : List (List ℕ)) (n : List ℕ) (pins : List (List ℕ)) → names_of words ≡ Some (n ∷ pins) → are_apart pins ≡ true → P n pins)
    (top : P (codes ".TOP") []) where
  abbrev Opened : CardRow → Type 0
  Opened (Opens name pins) = P name pins
  Opened row = Unit {0}

  no_params_opened : (line : ℕ) (ps : List Param) (n : List ℕ) (pins : List (List ℕ)) → P n pins → IfOk (rows.no_params line ps (Opens n pins)) Opened
  no_params_opened line [] n pins t = t
  no_params_opened line (p ∷ ps) n pins t = record {}

  open_opened : (line : ℕ) (open_too : Bool) (names : Option (List (List ℕ))) (ps : List Param) → ((n : List ℕ) (pins : List (List ℕ)) → names ≡ Some (n ∷ pins) → are_apart pins ≡ true → P n pins)
      → IfOk (rows.open_row line open_too names ps) Opened
  open_opened line true names ps h = record {}
  open_opened line false None ps h = record {}
  open_opened line false (Some []) ps h = record {}
  open_opened line false (Some (n ∷ pins)) ps h = elim (cases_Bool (are_apart pins)) [
    | inl t ↦ rw t (no_params_opened line ps n pins (h n pins refl t))
    | inr f ↦ rw f (record {})
  ]

  said_opened : (line copies : ℕ) (card : Option DeviceCard) → IfOk (rows.copies_said line copies card) Opened
  said_opened line copies None = record {}
  said_opened line copies (Some card) = record {}

  device_of_opened : (line copies : ℕ) (kind : DeviceKind) (names : List (List ℕ)) (sizes : Result (List ℕ) ValueFault) → IfOk (rows.device_of line copies kind names sizes) Opened
  device_of_opened line copies kind names (Err e) = record {}
  device_of_opened line copies kind names (Ok s) = said_opened line copies (rows.card_of kind names s)

  device_opened : (limit : Option Limits) (kind : DeviceKind) (line : ℕ) (names : Option (List (List ℕ))) (ps : List Param) → IfOk (rows.device_row limit kind line names ps) Opened
  device_opened limit kind line None ps = record {}
  device_opened limit kind line (Some names) ps = elim (cases_Bool (rows.is_formed kind names ps)) [
    | inl t ↦ rw t (elim (cases_Bool (list_any (is_refused kind) ps)) [ inl t ↦ rw t (record {}) | inr g ↦ rw g (device_of_opened line (copies_of ps) kind names (sizes_of limit kind ps)) ])
    | inr f ↦ rw f (record {})
  ]

  call_opened : (line : ℕ) (names : Option (List (List ℕ))) (ps : List Param) → IfOk (rows.call_row line names ps) Opened
  call_opened line None ps = record {}
  call_opened line (Some []) ps = record {}
  call_opened line (Some (n ∷ ns)) ps = elim (cases_Bool (list_any (λ p. not (is_one p)) ps)) [ inl t ↦ rw t (record {}) | inr f ↦ rw f (record {}) ]

  end_opened : (line : ℕ) (open_too : Bool) (names : Option (List (List ℕ))) (ps : List Param) → IfOk (rows.end_row line open_too names ps) Opened
  end_opened line false names ps = record {}
  end_opened line true None ps = record {}
  end_opened line true (Some []) [] = record {}
  end_opened line true (Some []) (p ∷ ps) = record {}
  end_opened line true (Some (n ∷ [])) [] = record {}
  end_opened line true (Some (n ∷ [])) (p ∷ ps) = record {}
  end_opened line true (Some (n ∷ m ∷ ns)) ps = record {}

  global_opened : (line : ℕ) (names : Option (List (List ℕ))) (ps : List Param) → IfOk (rows.global_row line names ps) Opened
  global_opened line None ps = record {}
  global_opened line (Some []) ps = record {}
  global_opened line (Some (n ∷ ns)) [] = record {}
  global_opened line (Some (n ∷ ns)) (p ∷ ps) = record {}

  stop_opened : (line : ℕ) (words : List (List ℕ)) (ps : List Param) → IfOk (rows.stop_row line words ps) Opened
  stop_opened line [] [] = record {}
  stop_opened line [] (p ∷ ps) = record {}
  stop_opened line (w ∷ ws) ps = record {}

  row_opened : (limit : Option Limits) (line : ℕ) (open_too : Bool) (first : List ℕ) (words : List (List ℕ)) (ps : List Param) → IfOk (rows.row_of limit line open_too first words ps) Opened
  row_opened limit line open_too first words ps = elim (cases_Bool (rows.begin first == 0x4D)) [
    | inl t ↦ rw t (device_opened limit Mos4 line (names_of words) ps)
    | inr f ↦ rw f (elim (cases_Bool (rows.begin first == 0x52)) [
      | inl t ↦ rw t (device_opened limit ResistorWithBulk line (names_of words) ps)
      | inr f ↦ rw f (elim (cases_Bool (rows.begin first == 0x44)) [
        | inl t ↦ rw t (device_opened limit Diode line (names_of words) ps)
        | inr f ↦ rw f (elim (cases_Bool (rows.begin first == 0x58)) [
          | inl t ↦ rw t (call_opened line (names_of words) ps)
          | inr f ↦ rw f (elim (cases_Bool (is_text (codes ".SUBCKT") first)) [
            | inl t ↦ rw t (open_opened line open_too (names_of words) ps (opens words))
            | inr f ↦ rw f (elim (cases_Bool (is_text (codes ".ENDS") first)) [
              | inl t ↦ rw t (end_opened line open_too (names_of words) ps)
              | inr f ↦ rw f (elim (cases_Bool (is_text (codes ".GLOBAL") first)) [
                | inl t ↦ rw t (global_opened line (names_of words) ps)
                | inr f ↦ rw f (stop_opened line words ps)
              ])
            ])
          ])
        ])
      ])
    ])
  ]

  formed_opened : (limit : Option Limits) (line : ℕ) (open_too : Bool) (first : List ℕ) (words : List (List ℕ)) (ps : Option (List Param)) → IfOk (rows.formed_row limit line open_too first words ps) Opened
  formed_opened limit line open_too first words None = record {}
  formed_opened limit line open_too first words (Some ps) = row_opened limit line open_too first words ps

  card_opened : (limit : Option Limits) (line : ℕ) (open_too : Bool) (ts : List Token) → IfOk (rows.card_row limit line open_too ts) Opened
  card_opened limit line open_too [] = record {}
  card_opened limit line open_too (Equals ∷ ts) = record {}
  card_opened limit line open_too (Word first ∷ ts) = elim (cases_Bool (rows.is_passed first)) [
    | inl t ↦ rw t (record {})
    | inr f ↦ rw f (elim (cases_Bool (rows.is_known first)) [
      | inl t ↦ rw t (formed_opened limit line open_too first (words_of ts) (params_of (behind_words ts)))
      | inr g ↦ rw g (record {})
    ])
  ]

  -- ---- so each circuit of the cards

  abbrev AreOpened : List Circuit → Type 0
  AreOpened cs = (c : Circuit) → IsListed c cs → P c.name c.pins

  abbrev IsOneOpened : Option Circuit → Type 0
  IsOneOpened None = Unit {0}
  IsOneOpened (Some c) = P c.name c.pins

  record AllOpened (cards : Cards) : Type 0 where
    pub all_closed : AreOpened cards.circuits
    pub one : IsOneOpened cards.open_one
    pub top_one : IsOneOpened cards.outside

  closed_opened : (cs : List Circuit) (o : Option Circuit) → AreOpened cs → IsOneOpened o → AreOpened (closed cs o)
  closed_opened cs None h o = h
  closed_opened cs (Some c) h o = λ d l. elim (last_or cs d c l) [ inl m ↦ h d m | inr e ↦ subst (λ (x : Circuit). P x.name x.pins) (sym e) o ]

  or_top_opened : (line : ℕ) (o : Option Circuit) → IsOneOpened o → P (or_top line o).name (or_top line o).pins
  or_top_opened line None h = top
  or_top_opened line (Some c) h = h

  changed_opened : (cards : Cards) (line : ℕ) (f : Circuit → Circuit) (o : Option Circuit) → ((c : Circuit) → P c.name c.pins → P (f c).name (f c).pins) → IsOneOpened o → AllOpened cards → AllOpened (changed cards line f o)
  changed_opened cards line f None k s h = record {
    all_closed = h.all_closed;
    one = h.one;
    top_one = k (or_top line cards.outside) (or_top_opened line cards.outside h.top_one);
  }
  changed_opened cards line f (Some c) k s h = record { all_closed = h.all_closed; one = k c s; top_one = h.top_one }

  with_row_opened : (cards : Cards) (line : ℕ) (row : CardRow) → Opened row → AllOpened cards → AllOpened (with_row cards line row)
  with_row_opened cards line (Opens name pins) o h = record { all_closed = h.all_closed; one = o; top_one = h.top_one }
  with_row_opened cards line Ends o h = record { all_closed = closed_opened cards.circuits cards.open_one h.all_closed h.one; one = record {}; top_one = h.top_one }
  with_row_opened cards line (Globals names) o h = record { all_closed = h.all_closed; one = h.one; top_one = h.top_one }
  with_row_opened cards line Stops o h = h
  with_row_opened cards line Passed o h = h
  with_row_opened cards line (Device d copies) o h = changed_opened cards line (with_devices d copies) cards.open_one (λ c x. x) h.one h
  with_row_opened cards line (Call r) o h = changed_opened cards line (with_call r) cards.open_one (λ c x. x) h.one h

  on_opened : (cards : Cards) (line : ℕ) (r : Result CardRow SpiceFault) (rest : Cards → Result Cards SpiceFault) → IfOk r Opened → AllOpened cards → ((next : Cards) → AllOpened next → IfOk (rest next) AllOpened)
      → IfOk (read_on cards line r rest) AllOpened
  on_opened cards line (Err e) rest o h k = record {}
  on_opened cards line (Ok Stops) rest o h k = h
  on_opened cards line (Ok (Opens name pins)) rest o h k = k (with_row cards line (Opens name pins)) (with_row_opened cards line (Opens name pins) o h)
  on_opened cards line (Ok Ends) rest o h k = k (with_row cards line Ends) (with_row_opened cards line Ends o h)
  on_opened cards line (Ok (Globals names)) rest o h k = k (with_row cards line (Globals names)) (with_row_opened cards line (Globals names) o h)
  on_opened cards line (Ok Passed) rest o h k = k cards h
  on_opened cards line (Ok (Device d copies)) rest o h k = k (with_row cards line (Device d copies)) (with_row_opened cards line (Device d copies) o h)
  on_opened cards line (Ok (Call r)) rest o h k = k (with_row cards line (Call r)) (with_row_opened cards line (Call r) o h)

  reading_opened : (limit : Option Limits) (cs : List Card) (cards : Cards) → AllOpened cards → IfOk (reading limit cards cs) AllOpened
  reading_opened limit [] cards h = h
  reading_opened limit (c ∷ cs) cards h = on_opened cards c.line (rows.card_row limit c.line (is_some cards.open_one) c.tokens) (λ next. reading limit next cs) (card_opened limit c.line (is_some cards.open_one) c.tokens) h (λ next a. reading_opened limit cs next a)

  early_opened : (o : Option ℕ) (r : Result Cards SpiceFault) (cards : Cards) → IfOk r AllOpened → early_or o r ≡ Ok cards → AllOpened cards
  early_opened None r cards h e = subst (λ (x : Result Cards SpiceFault). IfOk x AllOpened) e h
  early_opened (Some line) r cards h e = let z : ⊥ = cc in absurd z

  pub each_opened : (limit : Option Limits) (bytes : List ℕ) (cards : Cards) → reading_of limit bytes ≡ Ok cards → (c : Circuit) → IsListed c (all_of cards) → P c.name c.pins
  each_opened limit bytes cards e =
      let none : AllOpened no_cards = record { all_closed = λ c l. absurd l; one = record {}; top_one = record {} } in
      let a = early_opened (early_more bytes) (reading limit no_cards (cards_of bytes)) cards (reading_opened limit (cards_of bytes) no_cards none) e in
      closed_opened cards.circuits cards.outside a.all_closed a.top_one
