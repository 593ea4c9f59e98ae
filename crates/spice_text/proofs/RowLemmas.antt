-- What the lines of a written text are, and what their cards say.
use Rattle.std.proofs.Common.{◌≡◌, inl, inr, ℕ, ◌+◌, ◌*◌, ◌^◌, ◌/◌, ◌<◌, ◌≤◌, Bool, true, false, List, [], ◌∷◌, ◌++◌, map, length, Option, Some, None, Result, Ok, Err, refl, sym, ap, subst, ◌∙◌, append_assoc, arith}
use Rattle.std.specs.Prelude.{decimal, if◌then◌else◌, codes}
use Rattle.std.specs.List.{list_all, list_any}
use Rattle.std.proofs.lemmas.List.{append-nil, length-append, map-append}
use Rattle.fixed_num.specs.Values.{Number}
use Rattle.fixed_num.specs.Microns.{pointed, IsOver}
use Rattle.fixed_num.specs.Scan.{some_raised}
use Rattle.fixed_num.specs.declared.femto.ValueFault.{ValueFault}
use Rattle.fixed_num.proofs.ReadBack.{read_back, area_back}
use Rattle.fixed_num.proofs.Spelling.{complete}
use Rattle.net_names.specs.Escapes.{escaped, unescaped}
use Rattle.net_names.proofs.Spelling.{escaped_read}
use Rattle.plain_netlist.specs.declared.kinds.DeviceKind.{DeviceKind}
use Rattle.plain_netlist.specs.declared.kinds.DeviceKind.TheVariants.{Mos4, ResistorWithBulk, Diode}
use Rattle.plain_netlist.specs.Devices.{Ends as DeviceEnds, NoEnds, Both, IsFormed, nets_of, terminal_nets, ends_over, row_over}
use Rattle.plain_netlist.specs.Lists.{IsListed}
use Rattle.plain_netlist.specs.Netlist as plain
use Rattle.spice_cards.specs.Tokens.{Token, Word, Equals}
use Rattle.spice_cards.specs.Parts.{Param, begins_equals, words_of, behind_words, params_of}
use Rattle.spice_rows.specs.Names.{folded_some, name_of, name_onto, names_of, are_apart}
use Rattle.spice_rows.specs.Kinds.{letter, has_area, in_card_order, card_nets}
use Rattle.spice_rows.specs.Params.{copies_of, is_refused}
use Rattle.spice_rows.specs.Sizes.{Limits, length_limit, area_limit, is_above, value_at, value_of, area_of, and_then, changed, sizes_of}
use Rattle.spice_rows.specs.Rows as rows
use Rattle.spice_rows.specs.Rows.{CardRow, Opens, Passed, Ends as EndsRow, Device, Call, DeviceCard, card_row}
use Rattle.spice_rows.specs.declared.fault.SpiceFault.{SpiceFault}
use Rattle.spice_rows.specs.declared.fault.SpiceFault.TheVariants.{BadLine, UnknownCard}
use Rattle.spice_rows.proofs.DeviceRows.{taken}
use Rattle.net_model.proofs.Shapes.{by_shape}
use Rattle.spice_rows.proofs.Formed.{two_are}
use Rattle.spice_rows.proofs.NameLemmas.{call_is}
use Rattle.spice_rows.proofs.ValueLemmas.{positive, settled_is, within}
use Rattle.spice_text.specs.Cards.{first_size, second_size, front_key, back_key}
use Rattle.spice_text.specs.Laws.{IsName, IsWithinFor}
use Rattle.spice_text.specs.Written.{or_empty, nets_text, IsLengthText, IsAreaText, AreSizes, sizes_text, device_text}
use Rattle.spice_text.proofs.WordLemmas.{is_easy, IsWord, easy_word, escaped_word, Begins, decimal_easy, easy_append, digits_all, Ends, at_end, blank_word, equals_word}
use Rattle.spice_text.proofs.ReadLemmas.{IsLine, first_word}
use Rattle.std.specs.Prelude.{slice_get}

-- ---- names

name_some : (t : List ℕ) → Begins t → name_of t ≡ folded_some (unescaped t)
name_some [] h = absurd h
name_some (b ∷ bs) h = refl

pub name_word : (n : List ℕ) → IsName n → IsWord (escaped n)
name_word n h = escaped_word n h.some h.bytes

pub name_back : (n : List ℕ) → IsName n → name_of (escaped n) ≡ Some n
name_back n h =
    name_some (escaped n) (name_word n h).begins
    ∙ ap folded_some (escaped_read n h.bytes)
    ∙ ap (λ (x : List ℕ). let o : Option (List ℕ) = Some x in o) h.folded

abbrev pub AreNames : List (List ℕ) → Type 0
AreNames [] = Unit {0}
AreNames (n ∷ ns) = IsName n × AreNames ns

pub names_back : (ns : List (List ℕ)) → AreNames ns → names_of (map escaped ns) ≡ Some ns
names_back [] h = refl
names_back (n ∷ ns) h =
    ap (λ (o : Option (List ℕ)). name_onto o (names_of (map escaped ns))) (name_back n h.0)
    ∙ ap (λ (o : Option (List (List ℕ))). name_onto (Some n) o) (names_back ns h.1)

-- names by which there are such
pub names_from : (f : ℕ → List ℕ) (ns : List ℕ) → ((n : ℕ) → IsListed n ns → IsName (f n)) → AreNames (map f ns)
names_from f [] h = tt
names_from f (n ∷ ns) h = (h n (inl refl), names_from f ns (λ m i. h m (inr i)))

names_append : (ns ms : List (List ℕ)) → AreNames ns → AreNames ms → AreNames (ns ++ ms)
names_append [] ms h g = g
names_append (n ∷ ns) ms h g = (h.0, names_append ns ms h.1 g)

abbrev pub name_at : List (List ℕ) → ℕ → List ℕ
name_at nets n = or_empty (slice_get nets n)

abbrev pub token_of : List ℕ → Token
token_of n = Word (escaped n)

-- ---- sizes

-- a size is not above a limit, if there is one
abbrev IsUnder : Option ℕ → ℕ → Type 0
IsUnder None v = Unit {0}
IsUnder (Some limit) v = v ≤ limit

-- nor are those of a device
abbrev pub AreSizesUnder : DeviceKind → Option Limits → plain.DeviceRow → Type 0
AreSizesUnder kind None d = Unit {0}
AreSizesUnder kind (Some limits) d = IsWithinFor kind limits d

under : (limit : Option ℕ) (v d : ℕ) → IsUnder limit v → is_above limit (v * d) d ≡ false
under None v d h = refl
under (Some limit) v d h = within limit d v h

first_under : (limits : Option Limits) (kind : DeviceKind) (d : plain.DeviceRow) → AreSizesUnder kind limits d → IsUnder (length_limit limits) (first_size d)
first_under None kind d h = tt
first_under (Some limits) Mos4 d h = h.0
first_under (Some limits) ResistorWithBulk d h = h.0
first_under (Some limits) Diode d h = h.0

second_under : (limits : Option Limits) (kind : DeviceKind) (d : plain.DeviceRow) → has_area kind ≡ false → AreSizesUnder kind limits d → IsUnder (length_limit limits) (second_size d)
second_under None kind d long h = tt
second_under (Some limits) Mos4 d long h = h.1
second_under (Some limits) ResistorWithBulk d long h = h.1
second_under (Some limits) Diode d long h = absurd cc

area_under : (limits : Option Limits) (d : plain.DeviceRow) → AreSizesUnder Diode limits d → IsUnder (area_limit limits) (second_size d)
area_under None d h = tt
area_under (Some limits) d h = h.1

length_back : (limit : Option ℕ) (v : ℕ) (text : List ℕ) → v < 2 ^ 128 → IsUnder limit v → IsLengthText v text → value_of limit text ≡ Ok v
length_back limit v text fits u (m, h, e) =
    let b = read_back v m fits h in
    ap (λ (t : List ℕ). value_of limit t) e
    ∙ ap (λ (o : Option Number). value_at limit o) (complete (m ++ 0x55 ∷ []) b.number b.read)
    ∙ settled_is limit (b.number.mantissa * 10 ^ b.number.up) (10 ^ b.number.down) v (positive b.number.down) b.worth (under limit v (10 ^ b.number.down) u)

area_text_back : (limit : Option ℕ) (v : ℕ) (text : List ℕ) → v < 2 ^ 128 → IsUnder limit v → IsAreaText v text → area_of limit text ≡ Ok v
area_text_back limit v text fits u (m, h, e) =
    let b = area_back v m fits h in
    ap (λ (t : List ℕ). area_of limit t) e
    ∙ ap (λ (o : Option Number). value_at limit (some_raised 9 o)) (complete (m ++ 0x50 ∷ []) b.number b.read)
    ∙ settled_is limit (b.number.mantissa * 10 ^ (9 + b.number.up)) (10 ^ b.number.down) v (positive b.number.down) b.worth (under limit v (10 ^ b.number.down) u)

pointed_easy : (ds : List ℕ) → list_all is_easy ds ≡ true → list_all is_easy (pointed ds) ≡ true
pointed_easy [] h = refl
pointed_easy (d ∷ ds) h = h

over_word : (tens v unit : ℕ) (text m : List ℕ) → list_all is_easy (unit ∷ []) ≡ true → IsOver tens v m → text ≡ m ++ unit ∷ [] → IsWord text
over_word tens v unit text m letter h e =
    let easy : list_all is_easy m ≡ true = subst (λ (t : List ℕ). list_all is_easy t ≡ true) (sym h.spelled)
    (easy_append (decimal (v / 10 ^ tens)) (pointed h.fraction) (decimal_easy (v / 10 ^ tens)) (pointed_easy h.fraction (digits_all h.fraction h.rest.digits))) in
    let len = length-append m (unit ∷ []) in
    subst IsWord (sym e) (easy_word (m ++ unit ∷ []) (let q : 0 < length (m ++ unit ∷ []) = omega (arith, len) in q) (easy_append m (unit ∷ []) easy letter))

length_word : (v : ℕ) (text : List ℕ) → IsLengthText v text → IsWord text
length_word v text (m, h, e) = over_word 9 v 0x55 text m refl h e

area_word : (v : ℕ) (text : List ℕ) → IsAreaText v text → IsWord text
area_word v text (m, h, e) = over_word 12 v 0x50 text m refl h e

-- both sizes are words
size_words : (kind : DeviceKind) (d : plain.DeviceRow) (x y : List ℕ) → AreSizes kind d x y → IsWord x × IsWord y
size_words Mos4 d x y h = (length_word (first_size d) x h.0, length_word (second_size d) y h.1)
size_words ResistorWithBulk d x y h = (length_word (first_size d) x h.0, length_word (second_size d) y h.1)
size_words Diode d x y h = (area_word (second_size d) x h.0, length_word (first_size d) y h.1)

-- ---- lines of names

pub nets_ends : (nets : List (List ℕ)) (ns : List ℕ) (rest : List ℕ) (ts : List Token) → AreNames (map (name_at nets) ns) → Ends rest ts
    → Ends (nets_text nets ns ++ rest) (map token_of (map (name_at nets) ns) ++ ts)
nets_ends nets [] rest ts h e = e
nets_ends nets (n ∷ ns) rest ts h e =
    subst (λ (t : List ℕ). Ends (0x20 ∷ t) (token_of (name_at nets n) ∷ (map token_of (map (name_at nets) ns) ++ ts))) (sym (append_assoc (escaped (name_at nets n)) (nets_text nets ns) rest))
    (blank_word (escaped (name_at nets n)) (nets_text nets ns ++ rest) (map token_of (map (name_at nets) ns) ++ ts) (name_word (name_at nets n) h.0) (nets_ends nets ns rest ts h.1 e))

-- ---- the line of a device

-- a device with its nets by name
abbrev pub device_card : List (List ℕ) → plain.DeviceRow → DeviceCard
device_card nets d = row_over (name_at nets) d

-- what is asked of a device, of its names and its sizes
pub record IsCardable (limits : Option Limits) (nets : List (List ℕ)) (d : plain.DeviceRow) : Type 0 where
  pub formed : IsFormed d
  pub named : (n : ℕ) → IsListed n (terminal_nets d) → IsName (name_at nets n)
  pub class : IsName d.class
  pub model : rows.is_class d.kind d.class ≡ true
  pub sizes : (first_size d < 2 ^ 128) × (second_size d < 2 ^ 128)
  pub under : AreSizesUnder d.kind limits d

abbrev size_tokens : DeviceKind → List ℕ → List ℕ → List Token
size_tokens kind x y = Word (front_key kind ∷ []) ∷ Equals ∷ Word x ∷ Word (back_key kind ∷ []) ∷ Equals ∷ Word y ∷ []

front_easy : (kind : DeviceKind) → list_all is_easy (front_key kind ∷ []) ≡ true
front_easy Mos4 = refl
front_easy ResistorWithBulk = refl
front_easy Diode = refl

back_easy : (kind : DeviceKind) → list_all is_easy (back_key kind ∷ []) ≡ true
back_easy Mos4 = refl
back_easy ResistorWithBulk = refl
back_easy Diode = refl

-- `K=value` behind a blank
value_ends : (key : ℕ) (v rest : List ℕ) (ts : List Token) → list_all is_easy (key ∷ []) ≡ true → IsWord v → Ends rest ts
    → Ends (0x20 ∷ key ∷ 0x3D ∷ (v ++ rest)) (Word (key ∷ []) ∷ Equals ∷ Word v ∷ ts)
value_ends key v rest ts easy h e =
    blank_word (key ∷ []) (0x3D ∷ (v ++ rest)) (Equals ∷ Word v ∷ ts) (easy_word (key ∷ []) (omega arith) easy) (equals_word v rest ts h e)

sizes_ends : (kind : DeviceKind) (class x y : List ℕ) → IsName class → IsWord x → IsWord y → Ends (sizes_text kind class x y) (token_of class ∷ size_tokens kind x y)
sizes_ends kind class x y hc hx hy =
    let back = 0x20 ∷ back_key kind ∷ 0x3D ∷ (y ++ codes "\n") in
    let last = value_ends (back_key kind) y (0x0A ∷ []) [] (back_easy kind) hy at_end in
    let both = value_ends (front_key kind) x back (Word (back_key kind ∷ []) ∷ Equals ∷ Word y ∷ []) (front_easy kind) hx last in
    blank_word (escaped class) (0x20 ∷ front_key kind ∷ 0x3D ∷ (x ++ back)) (size_tokens kind x y) (name_word class hc) both

abbrev pub device_tokens : List (List ℕ) → ℕ → plain.DeviceRow → List ℕ → List ℕ → List Token
device_tokens nets k d x y =
    Word (letter d.kind ∷ decimal k) ∷ (map token_of (map (name_at nets) (card_nets d)) ++ token_of d.class ∷ size_tokens d.kind x y)

numbered_word : (b k : ℕ) → is_easy b ≡ true → IsWord (b ∷ decimal k)
numbered_word b k h = easy_word (b ∷ decimal k) (omega arith) (rw h (decimal_easy k))

-- a card has the nets of the terminals
card_listed : (kind : DeviceKind) (ends : DeviceEnds ℕ) (others : List ℕ) (n : ℕ) → IsListed n (in_card_order kind ends others) → IsListed n (nets_of ends others)
card_listed Mos4 ends others n h = h
card_listed Diode ends others n h = h
card_listed ResistorWithBulk NoEnds others n h = h
card_listed ResistorWithBulk (Both a b) [] n (inl e) = inr (inl e)
card_listed ResistorWithBulk (Both a b) [] n (inr (inl e)) = inl e
card_listed ResistorWithBulk (Both a b) [] n (inr (inr e)) = absurd e
card_listed ResistorWithBulk (Both a b) (m ∷ ms) n (inl e) = inr (inr (inl e))
card_listed ResistorWithBulk (Both a b) (m ∷ ms) n (inr (inl e)) = inl e
card_listed ResistorWithBulk (Both a b) (m ∷ ms) n (inr (inr (inl e))) = inr (inl e)
card_listed ResistorWithBulk (Both a b) (m ∷ ms) n (inr (inr (inr e))) = inr (inr (inr e))

nets_named : (limits : Option Limits) (nets : List (List ℕ)) (d : plain.DeviceRow) → IsCardable limits nets d → AreNames (map (name_at nets) (card_nets d))
nets_named limits nets d h = names_from (name_at nets) (card_nets d) (λ n i. h.named n (card_listed d.kind d.ends d.others n i))

-- a line that begins with the letter
lettered : (kind : DeviceKind) (k : ℕ) (rest : List ℕ) (ts : List Token) → Ends rest ts → IsLine (letter kind ∷ (decimal k ++ rest)) (Word (letter kind ∷ decimal k) ∷ ts)
lettered Mos4 k rest ts e = first_word 0x4D (decimal k) rest ts refl refl refl (numbered_word 0x4D k refl) e
lettered ResistorWithBulk k rest ts e = first_word 0x52 (decimal k) rest ts refl refl refl (numbered_word 0x52 k refl) e
lettered Diode k rest ts e = first_word 0x44 (decimal k) rest ts refl refl refl (numbered_word 0x44 k refl) e

pub device_line : (limits : Option Limits) (nets : List (List ℕ)) (k : ℕ) (d : plain.DeviceRow) (x y : List ℕ) → IsCardable limits nets d → AreSizes d.kind d x y
    → IsLine (device_text nets k d x y) (device_tokens nets k d x y)
device_line limits nets k d x y h sizes =
    let words = size_words d.kind d x y sizes in
    let t = sizes_text d.kind d.class x y in
    let last = sizes_ends d.kind d.class x y h.class words.0 words.1 in
    let ends = nets_ends nets (card_nets d) t (token_of d.class ∷ size_tokens d.kind x y) (nets_named limits nets d h) last in
    subst (λ (s : List ℕ). IsLine s (device_tokens nets k d x y))
    (ap (λ (s : List ℕ). letter d.kind ∷ s) (sym (append_assoc (decimal k) (nets_text nets (card_nets d)) t)))
    (lettered d.kind k (nets_text nets (card_nets d) ++ t) (map token_of (map (name_at nets) (card_nets d)) ++ token_of d.class ∷ size_tokens d.kind x y) ends)

-- ---- what its card says

abbrev size_params : DeviceKind → List ℕ → List ℕ → List Param
size_params kind x y =
    (let p : Param = record { key = front_key kind ∷ []; value = x } in p) ∷ (let p : Param = record { key = back_key kind ∷ []; value = y } in p) ∷ []

two_lengths : (limits : Option Limits) (kind : DeviceKind) (v w : ℕ) (x y : List ℕ) → has_area kind ≡ false → value_of (length_limit limits) x ≡ Ok v → value_of (length_limit limits) y ≡ Ok w
    → sizes_of limits kind (size_params Mos4 x y) ≡ Ok (v ∷ w ∷ [])
two_lengths limits Mos4 v w x y long e f =
    ap (λ (r : Result ℕ ValueFault). and_then r (λ v. changed limits Mos4 v 0 ((let p : Param = record { key = 0x57 ∷ []; value = y } in p) ∷ []))) e
    ∙ ap (λ (r : Result ℕ ValueFault). and_then r (λ w. let z : Result (List ℕ) ValueFault = Ok (v ∷ w ∷ []) in z)) f
two_lengths limits ResistorWithBulk v w x y long e f =
    ap (λ (r : Result ℕ ValueFault). and_then r (λ v. changed limits ResistorWithBulk v 0 ((let p : Param = record { key = 0x57 ∷ []; value = y } in p) ∷ []))) e
    ∙ ap (λ (r : Result ℕ ValueFault). and_then r (λ w. let z : Result (List ℕ) ValueFault = Ok (v ∷ w ∷ []) in z)) f
two_lengths limits Diode v w x y long e f = absurd cc

area_and_border : (limits : Option Limits) (v w : ℕ) (x y : List ℕ) → area_of (area_limit limits) x ≡ Ok w → value_of (length_limit limits) y ≡ Ok v
    → sizes_of limits Diode (size_params Diode x y) ≡ Ok (v ∷ w ∷ [])
area_and_border limits v w x y e f =
    ap (λ (r : Result ℕ ValueFault). and_then r (λ w. changed limits Diode 0 w ((let p : Param = record { key = 0x50 ∷ []; value = y } in p) ∷ []))) e
    ∙ ap (λ (r : Result ℕ ValueFault). and_then r (λ v. let z : Result (List ℕ) ValueFault = Ok (v ∷ w ∷ []) in z)) f

sizes_back : (limits : Option Limits) (kind : DeviceKind) (d : plain.DeviceRow) (x y : List ℕ) → (first_size d < 2 ^ 128) × (second_size d < 2 ^ 128) → AreSizesUnder kind limits d → AreSizes kind d x y
    → sizes_of limits kind (size_params kind x y) ≡ Ok (first_size d ∷ second_size d ∷ [])
sizes_back limits Mos4 d x y small under sizes =
    two_lengths limits Mos4 (first_size d) (second_size d) x y refl (length_back (length_limit limits) (first_size d) x small.0 (first_under limits Mos4 d under) sizes.0)
    (length_back (length_limit limits) (second_size d) y small.1 (second_under limits Mos4 d refl under) sizes.1)
sizes_back limits ResistorWithBulk d x y small under sizes =
    two_lengths limits ResistorWithBulk (first_size d) (second_size d) x y refl (length_back (length_limit limits) (first_size d) x small.0 (first_under limits ResistorWithBulk d under) sizes.0)
    (length_back (length_limit limits) (second_size d) y small.1 (second_under limits ResistorWithBulk d refl under) sizes.1)
sizes_back limits Diode d x y small under sizes =
    area_and_border limits (first_size d) (second_size d) x y (area_text_back (area_limit limits) (second_size d) x small.1 (area_under limits d under) sizes.0)
    (length_back (length_limit limits) (first_size d) y small.0 (first_under limits Diode d under) sizes.1)

-- the names of a card, with its class
abbrev card_names : List (List ℕ) → plain.DeviceRow → List (List ℕ)
card_names nets d = map (name_at nets) (card_nets d) ++ d.class ∷ []

formed : (nets : List (List ℕ)) (d : plain.DeviceRow) (x y : List ℕ) → IsFormed d → rows.is_class d.kind d.class ≡ true → rows.is_formed d.kind (card_names nets d) (size_params d.kind x y) ≡ true
formed nets d x y h =
    by_shape (λ kind ends others. rows.is_class kind d.class ≡ true → rows.is_formed kind (map (name_at nets) (in_card_order kind ends others) ++ d.class ∷ []) (size_params kind x y) ≡ true)
    (λ a b g k m. rw m refl) (λ a b k m. refl) (λ a c m. refl) d.kind d.ends d.others h.ends h.others

passed : (kind : DeviceKind) (x y : List ℕ) → list_any (is_refused kind) (size_params kind x y) ≡ false
passed Mos4 x y = refl
passed ResistorWithBulk x y = refl
passed Diode x y = refl

said : (nets : List (List ℕ)) (d : plain.DeviceRow) → IsFormed d → rows.card_of d.kind (card_names nets d) d.sizes ≡ Some (device_card nets d)
said nets d h =
    by_shape (λ kind ends others. rows.card_of kind (map (name_at nets) (in_card_order kind ends others) ++ d.class ∷ []) d.sizes
    ≡ Some (record { kind = kind; class = d.class; sizes = d.sizes; ends = ends_over (name_at nets) ends; others = map (name_at nets) others }))
    (λ a b g k. refl) (λ a b k. refl) (λ a c. refl) d.kind d.ends d.others h.ends h.others

-- the words of a card before its parameters
begins_card : (limits : Option Limits) (n : ℕ) (open_too : Bool) (nets : List (List ℕ)) (k : ℕ) (d : plain.DeviceRow) (x y : List ℕ) → IsFormed d
    → card_row limits n open_too (device_tokens nets k d x y) ≡ rows.device_row limits d.kind n (names_of (map escaped (card_names nets d))) (size_params d.kind x y)
begins_card limits n open_too nets k d x y h =
    by_shape (λ kind ends others.
    card_row limits n open_too (Word (letter kind ∷ decimal k) ∷ (map token_of (map (name_at nets) (in_card_order kind ends others)) ++ token_of d.class ∷ size_tokens kind x y))
    ≡ rows.device_row limits kind n (names_of (map escaped (map (name_at nets) (in_card_order kind ends others) ++ d.class ∷ []))) (size_params kind x y))
    (λ a b g k. refl) (λ a b k. refl) (λ a c. refl) d.kind d.ends d.others h.ends h.others

names_known : (limits : Option Limits) (nets : List (List ℕ)) (d : plain.DeviceRow) → IsCardable limits nets d → names_of (map escaped (card_names nets d)) ≡ Some (card_names nets d)
names_known limits nets d h =
    names_back (card_names nets d) (names_append (map (name_at nets) (card_nets d)) (d.class ∷ []) (nets_named limits nets d h) (h.class, tt))

one_copy : (kind : DeviceKind) (x y : List ℕ) → copies_of (size_params kind x y) ≡ 1
one_copy Mos4 x y = refl
one_copy ResistorWithBulk x y = refl
one_copy Diode x y = refl

pub device_said : (limits : Option Limits) (n : ℕ) (open_too : Bool) (nets : List (List ℕ)) (k : ℕ) (d : plain.DeviceRow) (x y : List ℕ) → IsCardable limits nets d → AreSizes d.kind d x y
    → card_row limits n open_too (device_tokens nets k d x y) ≡ Ok (Device (device_card nets d) 1)
device_said limits n open_too nets k d x y h sizes =
    let ps = size_params d.kind x y in
    let names = card_names nets d in
    begins_card limits n open_too nets k d x y h.formed
    ∙ taken limits d.kind n (names_of (map escaped names)) names ps (names_known limits nets d h) (formed nets d x y h.formed h.model) (passed d.kind x y)
    ∙ ap (λ (c : ℕ). rows.device_of n c d.kind names (sizes_of limits d.kind ps)) (one_copy d.kind x y)
    ∙ ap (λ (r : Result (List ℕ) ValueFault). rows.device_of n 1 d.kind names r) (sizes_back limits d.kind d x y h.sizes h.under sizes)
    ∙ ap (λ (ss : List ℕ). rows.copies_said n 1 (rows.card_of d.kind names ss)) (sym (two_are d.sizes h.formed.sizes))
    ∙ ap (λ (o : Option DeviceCard). rows.copies_said n 1 o) (said nets d h.formed)

-- ---- names alone

no_equals : (ns : List (List ℕ)) → begins_equals (map token_of ns) ≡ false
no_equals [] = refl
no_equals (n ∷ ns) = refl

words_back : (ns : List (List ℕ)) → words_of (map token_of ns) ≡ map escaped ns
words_back [] = refl
words_back (n ∷ ns) =
    ap (λ (t : Bool). if t then [] else escaped n ∷ words_of (map token_of ns)) (no_equals ns)
    ∙ ap (λ (ws : List (List ℕ)). escaped n ∷ ws) (words_back ns)

none_behind : (ns : List (List ℕ)) → behind_words (map token_of ns) ≡ []
none_behind [] = refl
none_behind (n ∷ ns) = ap (λ (t : Bool). if t then token_of n ∷ map token_of ns else behind_words (map token_of ns)) (no_equals ns) ∙ none_behind ns

-- a card of names alone
pub named_row : (limit : Option Limits) (n : ℕ) (open_too : Bool) (first : List ℕ) (ns : List (List ℕ)) → rows.is_passed first ≡ false → rows.is_known first ≡ true
    → card_row limit n open_too (Word first ∷ map token_of ns) ≡ rows.row_of limit n open_too first (map escaped ns) []
named_row limit n open_too first ns p k =
    let passed : Result CardRow SpiceFault = Ok Passed in
    let unknown : Result CardRow SpiceFault = Err (UnknownCard n) in
    let formed = rows.formed_row limit n open_too first (words_of (map token_of ns)) (params_of (behind_words (map token_of ns))) in
    ap (λ (t : Bool). if t then passed else if rows.is_known first then formed else unknown) p
    ∙ ap (λ (t : Bool). if t then formed else unknown) k
    ∙ ap (λ (ws : List (List ℕ)). rows.formed_row limit n open_too first ws (params_of (behind_words (map token_of ns)))) (words_back ns)
    ∙ ap (λ (ts : List Token). rows.formed_row limit n open_too first (map escaped ns) (params_of ts)) (none_behind ns)

pub opens_said : (limit : Option Limits) (n : ℕ) (name : List ℕ) (pins : List (List ℕ)) → IsName name → AreNames pins → are_apart pins ≡ true
    → card_row limit n false (Word (codes ".SUBCKT") ∷ map token_of (name ∷ pins)) ≡ Ok (Opens name pins)
opens_said limit n name pins hn hp a =
    let opened : Result CardRow SpiceFault = Ok (Opens name pins) in
    let bad : Result CardRow SpiceFault = Err (BadLine n) in
    named_row limit n false (codes ".SUBCKT") (name ∷ pins) refl refl
    ∙ ap (λ (o : Option (List (List ℕ))). rows.open_row n false o []) (names_back (name ∷ pins) (hn, hp))
    ∙ ap (λ (t : Bool). if t then opened else bad) a

pub ends_said : (limit : Option Limits) (n : ℕ) (name : List ℕ) → IsName name → card_row limit n true (Word (codes ".ENDS") ∷ map token_of (name ∷ [])) ≡ Ok EndsRow
ends_said limit n name hn =
    named_row limit n true (codes ".ENDS") (name ∷ []) refl refl
    ∙ ap (λ (o : Option (List (List ℕ))). rows.end_row n true o []) (names_back (name ∷ []) (hn, tt))

pub call_said : (limit : Option Limits) (n : ℕ) (open_too : Bool) (k : ℕ) (nets : List (List ℕ)) (name : List ℕ) → AreNames nets → IsName name
    → card_row limit n open_too (Word (0x58 ∷ decimal k) ∷ (map token_of nets ++ token_of name ∷ [])) ≡ Ok (Call (record { line = n; nets = nets; circuit = name }))
call_said limit n open_too k nets name hn hc =
    let all = nets ++ name ∷ [] in
    ap (λ (ts : List Token). card_row limit n open_too (Word (0x58 ∷ decimal k) ∷ ts)) (sym (map-append token_of nets (name ∷ [])))
    ∙ named_row limit n open_too (0x58 ∷ decimal k) all refl refl
    ∙ call_is n (names_of (map escaped all)) all nets name [] (names_back all (names_append nets (name ∷ []) hn (hc, tt))) refl refl

-- ---- the other lines

pub call_line : (nets : List (List ℕ)) (k : ℕ) (ns : List ℕ) (name : List ℕ) → AreNames (map (name_at nets) ns) → IsName name
    → IsLine (0x58 ∷ (decimal k ++ (nets_text nets ns ++ (0x20 ∷ (escaped name ++ codes "\n"))))) (Word (0x58 ∷ decimal k) ∷ (map token_of (map (name_at nets) ns) ++ token_of name ∷ []))
call_line nets k ns name hn hc =
    let called = blank_word (escaped name) (0x0A ∷ []) [] (name_word name hc) at_end in
    first_word 0x58 (decimal k) (nets_text nets ns ++ (0x20 ∷ (escaped name ++ codes "\n"))) (map token_of (map (name_at nets) ns) ++ token_of name ∷ []) refl refl refl
    (numbered_word 0x58 k refl) (nets_ends nets ns (0x20 ∷ (escaped name ++ codes "\n")) (token_of name ∷ []) hn called)

pub open_line : (nets : List (List ℕ)) (name : List ℕ) (ns : List ℕ) → AreNames (map (name_at nets) ns) → IsName name
    → IsLine (codes ".SUBCKT " ++ (escaped name ++ (nets_text nets ns ++ codes "\n"))) (Word (codes ".SUBCKT") ∷ map token_of (name ∷ map (name_at nets) ns))
open_line nets name ns hn hc =
    let pins = nets_ends nets ns (0x0A ∷ []) [] hn at_end in
    let named = blank_word (escaped name) (nets_text nets ns ++ codes "\n") (map token_of (map (name_at nets) ns) ++ []) (name_word name hc) pins in
    subst (λ (ts : List Token). IsLine (codes ".SUBCKT " ++ (escaped name ++ (nets_text nets ns ++ codes "\n"))) (Word (codes ".SUBCKT") ∷ token_of name ∷ ts)) (append-nil (map token_of (map (name_at nets) ns)))
    (first_word 0x2E (codes "SUBCKT") (0x20 ∷ (escaped name ++ (nets_text nets ns ++ codes "\n"))) (token_of name ∷ (map token_of (map (name_at nets) ns) ++ [])) refl refl refl
    (easy_word (codes ".SUBCKT") (omega arith) refl) named)

pub close_line : (name : List ℕ) → IsName name → IsLine (codes ".ENDS " ++ (escaped name ++ codes "\n")) (Word (codes ".ENDS") ∷ map token_of (name ∷ []))
close_line name hc =
    first_word 0x2E (codes "ENDS") (0x20 ∷ (escaped name ++ codes "\n")) (token_of name ∷ []) refl refl refl (easy_word (codes ".ENDS") (omega arith) refl)
    (blank_word (escaped name) (0x0A ∷ []) [] (name_word name hc) at_end)
