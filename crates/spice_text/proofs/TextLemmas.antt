-- The cards of a written text.
use Rattle.std.proofs.Common.{◌≡◌, inl, inr, ℕ, ◌+◌, Bool, true, List, [], ◌∷◌, ◌++◌, map, length, Option, Some, None, Ok, refl, sym, ap, subst, ◌∙◌, append_assoc, arith}
use Rattle.std.specs.Prelude.{codes, slice_get, decimal, if◌then◌else◌}
use Rattle.std.proofs.lemmas.List.{append-nil}
use Rattle.rule_lines.specs.Lines.{lines_of}
use Rattle.plain_netlist.specs.Lists.{IsListed}
use Rattle.plain_netlist.specs.Netlist as plain
use Rattle.net_names.specs.Escapes.{escaped}
use Rattle.spice_cards.specs.Tokens.{Token, Word}
use Rattle.spice_cards.specs.Cards.{cut, is_more, early_more_in}
use Rattle.spice_rows.specs.Names.{are_apart}
use Rattle.spice_rows.specs.Rows.{Opens, Ends as EndsRow, Device, Call, DeviceCard, CallCard}
use Rattle.spice_rows.specs.Sizes.{Limits}
use Rattle.spice_text.specs.Gather.{Circuit, Cards, no_cards, begun, reading, reading_of, early_or}
use Rattle.spice_text.specs.Laws.{IsName}
use Rattle.spice_text.specs.Written.{nets_text, name_in, IsDeviceText, call_text, calls_text, AreTexts, AreOneByOne, IsCircuitText, IsWritten}
use Rattle.spice_text.proofs.ReadLemmas.{line_of, IsLine, Reads, no_text, one_more, one_line}
use Rattle.spice_text.proofs.RowLemmas.{AreNames, name_at, IsCardable, device_card, device_tokens, token_of, device_line, device_said, call_line, call_said, open_line, opens_said, close_line, ends_said}

-- ---- the cards of a netlist

-- a call with its nets and its circuit by name, on a line
abbrev pub call_card : List plain.Circuit → List (List ℕ) → ℕ → plain.CallRow → CallCard
call_card cs nets line r = record { line = line; nets = map (name_at nets) r.nets; circuit = name_in (slice_get cs r.circuit) }

-- calls, one a line
abbrev pub call_cards : List plain.Circuit → List (List ℕ) → ℕ → List plain.CallRow → List CallCard
call_cards cs nets line [] = []
call_cards cs nets line (r ∷ rs) = call_card cs nets line r ∷ call_cards cs nets (line + 1) rs

-- a circuit that begins on this line
abbrev pub circuit_card : List plain.Circuit → ℕ → plain.Circuit → Circuit
circuit_card cs n c = record {
  line = n;
  name = c.name;
  pins = map (name_at c.nets) c.pins;
  devices = map (device_card c.nets) c.devices;
  calls = call_cards cs c.nets (n + 1 + length c.devices) c.calls;
}

-- the line behind it
abbrev pub behind : ℕ → plain.Circuit → ℕ
behind n c = n + 1 + length c.devices + length c.calls + 1

abbrev pub circuit_cards : List plain.Circuit → ℕ → List plain.Circuit → List Circuit
circuit_cards cs n [] = []
circuit_cards cs n (c ∷ more) = circuit_card cs n c ∷ circuit_cards cs (behind n c) more

-- what is asked of a circuit's names, and of its transistors
pub record IsReadable (limit : Option Limits) (cs : List plain.Circuit) (c : plain.Circuit) : Type 0 where
  pub name : IsName c.name
  pub pins : AreNames (map (name_at c.nets) c.pins)
  pub apart : are_apart (map (name_at c.nets) c.pins) ≡ true
  pub devices : (d : plain.DeviceRow) → IsListed d c.devices → IsCardable limit c.nets d
  pub calls : (r : plain.CallRow) → IsListed r c.calls → AreNames (map (name_at c.nets) r.nets) × IsName (name_in (slice_get cs r.circuit))

-- ---- between cards

-- no circuit is open behind these
abbrev pub at_rest : List Circuit → Cards
at_rest cs = record { circuits = cs; open_one = None; outside = None; globals = [] }

-- this one is open behind these
abbrev pub inside : List Circuit → Circuit → Cards
inside cs c = record { circuits = cs; open_one = Some c; outside = None; globals = [] }

abbrev holding : Circuit → List DeviceCard → List CallCard → Circuit
holding c ds rs = record { line = c.line; name = c.name; pins = c.pins; devices = ds; calls = rs }

devices_read : (limit : Option Limits) (nets : List (List ℕ)) (ds : List plain.DeviceRow) (k n m : ℕ) (cs : List Circuit) (c : Circuit) (front all : List DeviceCard) (text : List ℕ)
    → ((d : plain.DeviceRow) → IsListed d ds → IsCardable limit nets d) → AreTexts (IsDeviceText nets) k ds text → m ≡ n + length ds → all ≡ front ++ map (device_card nets) ds
    → Reads limit n m (inside cs (holding c front c.calls)) (inside cs (holding c all c.calls)) text
devices_read limit nets [] k n m cs c front all text good h em ea =
    subst (λ (t : List ℕ). Reads limit n m (inside cs (holding c front c.calls)) (inside cs (holding c all c.calls)) t) (sym h)
    (subst (λ (j : ℕ). Reads limit n j (inside cs (holding c front c.calls)) (inside cs (holding c all c.calls)) []) (let q : n ≡ m = omega arith in q)
    (subst (λ (xs : List DeviceCard). Reads limit n n (inside cs (holding c front c.calls)) (inside cs (holding c xs c.calls)) []) (sym (ea ∙ append-nil front))
    (no_text limit n (inside cs (holding c front c.calls)))))
devices_read limit nets (d ∷ ds) k n m cs c front all text good (a, (x, y, sizes, ea_text), b, behind_it, e) em ea =
    let ok = good d (inl refl) in
    let line : IsLine a (device_tokens nets k d x y) = subst (λ (t : List ℕ). IsLine t (device_tokens nets k d x y)) (sym ea_text) (device_line limit nets k d x y ok sizes) in
    let next = front ++ device_card nets d ∷ [] in
    let one = one_line limit n (inside cs (holding c front c.calls)) (Device (device_card nets d) 1) a (device_tokens nets k d x y) line (device_said limit n true nets k d x y ok sizes) tt in
    let more = devices_read limit nets ds (k + 1) (n + 1) m cs c next all b (λ x i. good x (inr i)) behind_it (omega arith)
    (ea ∙ sym (append_assoc front (device_card nets d ∷ []) (map (device_card nets) ds))) in
    subst (λ (t : List ℕ). Reads limit n m (inside cs (holding c front c.calls)) (inside cs (holding c all c.calls)) t) (sym e)
    (one_more limit n (n + 1) m (inside cs (holding c front c.calls)) (inside cs (holding c next c.calls)) (inside cs (holding c all c.calls)) a b one more)

calls_read : (limit : Option Limits) (pcs : List plain.Circuit) (nets : List (List ℕ)) (rs : List plain.CallRow) (k n m : ℕ) (cs : List Circuit) (c : Circuit) (front all : List CallCard)
    → ((r : plain.CallRow) → IsListed r rs → AreNames (map (name_at nets) r.nets) × IsName (name_in (slice_get pcs r.circuit))) → m ≡ n + length rs → all ≡ front ++ call_cards pcs nets n rs
    → Reads limit n m (inside cs (holding c c.devices front)) (inside cs (holding c c.devices all)) (calls_text pcs nets k rs)
calls_read limit pcs nets [] k n m cs c front all good em ea =
    subst (λ (j : ℕ). Reads limit n j (inside cs (holding c c.devices front)) (inside cs (holding c c.devices all)) []) (let q : n ≡ m = omega arith in q)
    (subst (λ (xs : List CallCard). Reads limit n n (inside cs (holding c c.devices front)) (inside cs (holding c c.devices xs)) []) (sym (ea ∙ append-nil front))
    (no_text limit n (inside cs (holding c c.devices front))))
calls_read limit pcs nets (r ∷ rs) k n m cs c front all good em ea =
    let ok = good r (inl refl) in
    let name = name_in (slice_get pcs r.circuit) in
    let tokens = Word (0x58 ∷ decimal k) ∷ (map token_of (map (name_at nets) r.nets) ++ token_of name ∷ []) in
    let next = front ++ call_card pcs nets n r ∷ [] in
    let one = one_line limit n (inside cs (holding c c.devices front)) (Call (call_card pcs nets n r)) (call_text pcs nets k r) tokens (call_line nets k r.nets name ok.0 ok.1)
    (call_said limit n true k (map (name_at nets) r.nets) name ok.0 ok.1) tt in
    let more = calls_read limit pcs nets rs (k + 1) (n + 1) m cs c next all (λ x i. good x (inr i)) (omega arith)
    (ea ∙ sym (append_assoc front (call_card pcs nets n r ∷ []) (call_cards pcs nets (n + 1) rs))) in
    one_more limit n (n + 1) m (inside cs (holding c c.devices front)) (inside cs (holding c c.devices next)) (inside cs (holding c c.devices all)) (call_text pcs nets k r) (calls_text pcs nets (k + 1) rs) one more

parted : (a b c d rest : List ℕ) → a ++ (b ++ (c ++ (d ++ rest))) ≡ (a ++ (b ++ (c ++ d))) ++ rest
parted a b c d rest = sym (
    append_assoc a (b ++ (c ++ d)) rest
    ∙ ap (λ (t : List ℕ). a ++ t) (append_assoc b (c ++ d) rest ∙ ap (λ (t : List ℕ). b ++ t) (append_assoc c d rest)))

circuit_read : (limit : Option Limits) (pcs : List plain.Circuit) (c : plain.Circuit) (n : ℕ) (cs : List Circuit) (text : List ℕ) → IsReadable limit pcs c → IsCircuitText pcs c text
    → Reads limit n (behind n c) (at_rest cs) (at_rest (cs ++ circuit_card pcs n c ∷ [])) text
circuit_read limit pcs c n cs text ok (devices, written, e) =
    let pins = map (name_at c.nets) c.pins in
    let start = begun n c.name pins in
    let middle = holding start (map (device_card c.nets) c.devices) [] in
    let made = circuit_card pcs n c in
    let opening = codes ".SUBCKT " ++ (escaped c.name ++ (nets_text c.nets c.pins ++ codes "\n")) in
    let closing = codes ".ENDS " ++ (escaped c.name ++ codes "\n") in
    let calls = calls_text pcs c.nets 1 c.calls in
    let after_devices = n + 1 + length c.devices in
    let after_calls = n + 1 + length c.devices + length c.calls in
    let one = one_line limit n (at_rest cs) (Opens c.name pins) opening (Word (codes ".SUBCKT") ∷ map token_of (c.name ∷ pins)) (open_line c.nets c.name c.pins ok.pins ok.name)
    (opens_said limit n c.name pins ok.name ok.pins ok.apart) tt in
    let two = devices_read limit c.nets c.devices 1 (n + 1) after_devices cs start [] (map (device_card c.nets) c.devices) devices ok.devices written refl refl in
    let three = calls_read limit pcs c.nets c.calls 1 after_devices after_calls cs middle [] (call_cards pcs c.nets after_devices c.calls) ok.calls refl refl in
    let four = one_line limit after_calls (inside cs made) EndsRow closing (Word (codes ".ENDS") ∷ map token_of (c.name ∷ [])) (close_line c.name ok.name) (ends_said limit after_calls c.name ok.name) tt in
    let last = one_more limit after_devices after_calls (behind n c) (inside cs middle) (inside cs made) (at_rest (cs ++ made ∷ [])) calls closing three four in
    let rest = one_more limit (n + 1) after_devices (behind n c) (inside cs start) (inside cs middle) (at_rest (cs ++ made ∷ [])) devices (calls ++ closing) two last in
    let whole = one_more limit n (n + 1) (behind n c) (at_rest cs) (inside cs start) (at_rest (cs ++ made ∷ [])) opening (devices ++ (calls ++ closing)) one rest in
    subst (λ (t : List ℕ). Reads limit n (behind n c) (at_rest cs) (at_rest (cs ++ made ∷ [])) t)
    (sym (e ∙ parted (codes ".SUBCKT ") (escaped c.name) (nets_text c.nets c.pins) (codes "\n") (devices ++ (calls ++ closing)))) whole

-- circuits one after another, up to some line
circuits_read : (limit : Option Limits) (pcs xs : List plain.Circuit) (n : ℕ) (cs all : List Circuit) (text : List ℕ) → ((c : plain.Circuit) → IsListed c xs → IsReadable limit pcs c)
    → AreOneByOne (IsCircuitText pcs) xs text → all ≡ cs ++ circuit_cards pcs n xs → (m : ℕ) × Reads limit n m (at_rest cs) (at_rest all) text
circuits_read limit pcs [] n cs all text good h ea = (
  n,
  subst (λ (t : List ℕ). Reads limit n n (at_rest cs) (at_rest all) t) (sym h)
      (subst (λ (xs : List Circuit). Reads limit n n (at_rest cs) (at_rest xs) []) (sym (ea ∙ append-nil cs)) (no_text limit n (at_rest cs))),
)
circuits_read limit pcs (c ∷ xs) n cs all text good (a, one, b, more, e) ea =
    let first = circuit_read limit pcs c n cs a (good c (inl refl)) one in
    let next = cs ++ circuit_card pcs n c ∷ [] in
    let rest = circuits_read limit pcs xs (behind n c) next all b (λ x i. good x (inr i)) more (ea ∙ sym (append_assoc cs (circuit_card pcs n c ∷ []) (circuit_cards pcs (behind n c) xs))) in (
      rest.0,
      subst (λ (t : List ℕ). Reads limit n rest.0 (at_rest cs) (at_rest all) t) (sym e)
          (one_more limit n (behind n c) rest.0 (at_rest cs) (at_rest next) (at_rest all) a b first rest.1),
    )

-- ---- the whole text

stops_read : (limit : Option Limits) (n : ℕ) (cards : Cards) → ((cut n (lines_of (codes ".END\n"))).more ≡ []) × (reading limit cards (cut n (lines_of (codes ".END\n"))).cards ≡ Ok cards)
stops_read limit n cards = (refl, refl)

early_line : (n : ℕ) (text rest : List ℕ) (ts : List Token) → IsLine text ts → early_more_in n (lines_of (text ++ rest)) ≡ None
early_line n text rest ts l =
    let here : Option ℕ = Some n in
    ap (λ (t : List ℕ). early_more_in n (lines_of (t ++ rest))) l.spelled
    ∙ ap (λ (ls : List (List ℕ)). early_more_in n ls) (line_of l.line rest l.shown)
    ∙ ap (λ (t : Bool). if t then early_more_in (n + 1) (lines_of rest) else if is_more l.line then here else None) l.kept
    ∙ ap (λ (t : Bool). if t then here else None) l.starts

early_circuits : (limit : Option Limits) (pcs xs : List plain.Circuit) (text : List ℕ) → ((c : plain.Circuit) → IsListed c xs → IsReadable limit pcs c) → AreOneByOne (IsCircuitText pcs) xs text
    → early_more_in 2 (lines_of (text ++ codes ".END\n")) ≡ None
early_circuits limit pcs [] text good h = ap (λ (t : List ℕ). early_more_in 2 (lines_of (t ++ codes ".END\n"))) h
early_circuits limit pcs (c ∷ xs) text good (a, (devices, written, e), b, more, whole) =
    let ok = good c (inl refl) in
    let opening = codes ".SUBCKT " ++ (escaped c.name ++ (nets_text c.nets c.pins ++ codes "\n")) in
    let behind_it = devices ++ (calls_text pcs c.nets 1 c.calls ++ (codes ".ENDS " ++ (escaped c.name ++ codes "\n"))) in
    let head = e ∙ parted (codes ".SUBCKT ") (escaped c.name) (nets_text c.nets c.pins) (codes "\n") behind_it in
    ap (λ (t : List ℕ). early_more_in 2 (lines_of (t ++ codes ".END\n"))) (whole ∙ ap (λ (t : List ℕ). t ++ b) head)
    ∙ ap (λ (t : List ℕ). early_more_in 2 (lines_of t)) (append_assoc (opening ++ behind_it) b (codes ".END\n") ∙ append_assoc opening behind_it (b ++ codes ".END\n"))
    ∙ early_line 2 opening (behind_it ++ (b ++ codes ".END\n")) (Word (codes ".SUBCKT") ∷ map token_of (c.name ∷ map (name_at c.nets) c.pins)) (open_line c.nets c.name c.pins ok.pins ok.name)

pub text_read : (limit : Option Limits) (nl : plain.Netlist) (text : List ℕ) → ((c : plain.Circuit) → IsListed c nl.circuits → IsReadable limit nl.circuits c) → IsWritten nl text
    → reading_of limit text ≡ Ok (at_rest (circuit_cards nl.circuits 2 nl.circuits))
text_read limit nl text good (circuits, written, e) =
    let all = circuit_cards nl.circuits 2 nl.circuits in
    let body = circuits_read limit nl.circuits nl.circuits 2 [] all circuits good written refl in
    let stop = stops_read limit body.0 (at_rest all) in
    let none = early_circuits limit nl.circuits nl.circuits circuits good written in
    let read = body.1 (codes ".END\n") stop.0 in
    ap (λ (t : List ℕ). reading_of limit t) e
    ∙ ap (λ (o : Option ℕ). early_or o (reading limit no_cards (cut 2 (lines_of (circuits ++ codes ".END\n"))).cards)) none
    ∙ read.1 ∙ stop.1
