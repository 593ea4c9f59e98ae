-- A reader in pieces.
use Rattle.std.proofs.Common.{◌≡◌, ◌≢◌, ◌⊎◌, inl, inr, ℕ, ◌+◌, ◌-◌, ◌%◌, ◌≤◌, Bool, true, false, cond, ltb, List, [], ◌∷◌, ◌++◌, length, take, drop, Option, Some, None, Ok, Err, refl, sym, ap, subst, ◌∙◌, append_assoc, append-nil, vec_len, arith}
use Rattle.std.specs.Prelude.{slice_index, ◌==◌, ◌||◌, not}
use Rattle.std.proofs.lemmas.Bool.{ltb-false, le-ltb}
use Rattle.std.proofs.lemmas.List.{take-append-drop, take_all, length-append, length-drop, length-take}
use Rattle.gds_records.specs.Records.{record_bytes, framing, declared_length, is_listed}
use Rattle.gds_elements.specs.declared.library.GdsFault.{GdsFault}
use Rattle.gds_elements.specs.declared.library.GdsFault.TheVariants.{Bad, NoMemory}
use Rattle.gds_elements.specs.declared.stream.Stream.{Stream}
use Rattle.gds_elements.specs.declared.reader.Reader.{Reader}
use Rattle.gds_records.specs.Records.{Records, bytes_of}
use Rattle.gds_elements.specs.Meaning.{library_of}
use Rattle.gds_elements.specs.Faults.{Accepts, FirstFault, IsNextFault, OfFrame, OfRecord}
use Rattle.gds_elements.specs.declared.library.Library as lib
use Rattle.gds_elements.specs.Reading.{Holds, Runs, Stands, library_after, taken_cells}
use Rattle.gds_elements.specs.declared.pieces.Pieces.{Pieces}
use Rattle.gds_elements.specs.Pieces.{Fed, FedTo, Goes, HasFault}
use Rattle.gds_elements.proofs.Unique.{no_fault, one_fault}

abbrev tested : Bool → Bool → Bool → Bool → Bool → Option ℕ
tested a b c d e = cond a (Some 1) (cond (b || not c) (Some 2) (cond d (Some 1) (cond e None (Some 3))))

first_passed : (a b c d e : Bool) (n : ℕ) → tested a b c d e ≡ Some n → n ≢ 1 → a ≡ false
first_passed true b c d e n h other = absurd (other (let m : 1 ≡ n = cc in sym m))
first_passed false b c d e n h other = refl

goes_same : (b c d d' e : Bool) (n : ℕ) → tested false b c d e ≡ Some n → n ≢ 1 → (d ≡ false → d' ≡ false) → tested false b c d' e ≡ Some n
goes_same true c d d' e n h other f = h
goes_same false false d d' e n h other f = h
goes_same false true true d' e n h other f = absurd (other (let m : 1 ≡ n = cc in sym m))
goes_same false true false d' e n h other f = ap (λ (x : Bool). tested false false true x e) (f refl) ∙ h

same_head : (rest more : List ℕ) → 4 ≤ length rest → (declared_length (rest ++ more) ≡ declared_length rest) × (slice_index (rest ++ more) 2 ≡ slice_index rest 2)
same_head [] more h = absurd (omega arith)
same_head (a ∷ []) more h = absurd (omega arith)
same_head (a ∷ b ∷ []) more h = absurd (omega arith)
same_head (a ∷ b ∷ c ∷ []) more h = absurd (omega arith)
same_head (a ∷ b ∷ c ∷ d ∷ xs) more h = (refl, refl)

abbrev tests_of : ℕ → ℕ → ℕ → Option ℕ
tests_of len declared kind = tested (ltb len 4) (ltb declared 4) ((declared % 2) == 0) (ltb len declared) (is_listed kind)

pub framing_more : (rest more : List ℕ) (n : ℕ) → framing rest ≡ Some n → n ≢ 1 → framing (rest ++ more) ≡ Some n
framing_more rest more n h other =
    let d = declared_length rest in
    let first : ltb (length rest) 4 ≡ false = first_passed _ (ltb d 4) ((d % 2) == 0) (ltb (length rest) d) (is_listed (slice_index rest 2)) n h other in
    let long : 4 ≤ length rest = ltb-false _ _ first in
    let head = same_head rest more long in
    let longer : length rest ≤ length (rest ++ more) = omega (arith, length-append rest more) in
    let now : tested false (ltb d 4) ((d % 2) == 0) (ltb (length rest) d) (is_listed (slice_index rest 2)) ≡ Some n =
    ap (λ (x : Bool). tested x (ltb d 4) ((d % 2) == 0) (ltb (length rest) d) (is_listed (slice_index rest 2))) (sym first) ∙ h in
    let then_too = goes_same (ltb d 4) ((d % 2) == 0) (ltb (length rest) d) (ltb (length (rest ++ more)) d) (is_listed (slice_index rest 2)) n now other
    (λ e. let in_it : d ≤ length rest = ltb-false _ _ e in le-ltb _ _ (omega (arith, in_it, longer))) in
    let first' : ltb (length (rest ++ more)) 4 ≡ false = le-ltb _ _ (omega (arith, long, longer)) in
    ap (λ (x : ℕ). tests_of (length (rest ++ more)) x (slice_index (rest ++ more) 2)) head.0
    ∙ ap (λ (k : ℕ). tests_of (length (rest ++ more)) d k) head.1
    ∙ ap (λ (x : Bool). tested x (ltb d 4) ((d % 2) == 0) (ltb (length (rest ++ more)) d) (is_listed (slice_index rest 2))) first'
    ∙ then_too

fault_more : (rs : Records) (rest more : List ℕ) (n : ℕ) → IsNextFault rs rest n → n ≢ 1 → IsNextFault rs (rest ++ more) n
fault_more rs rest more n (OfFrame m e) other = OfFrame m (framing_more rest more m e other)
fault_more rs rest more n (OfRecord m r us p e f) other = OfRecord m r (us ++ more) p (ap (λ (ws : List ℕ). ws ++ more) e ∙ append_assoc (record_bytes r) us more) f

pub has_more : (fed more : List ℕ) (f : GdsFault) → HasFault fed f → HasFault (fed ++ more) f
has_more fed more (Bad number index offset) (h, other) = (
  record {
    before = h.before;
    rest = h.rest ++ more;
    begins = record { whole = ap (λ (ws : List ℕ). ws ++ more) h.begins.whole ∙ append_assoc (bytes_of h.before) h.rest more; passes = h.begins.passes };
    goes_on = h.goes_on;
    index_is = h.index_is;
    offset_is = h.offset_is;
    fault = fault_more h.before h.rest more number h.fault other;
  },
  other,
)
has_more fed more NoMemory h = tt

pub ended_more : (fed more held : List ℕ) (stream : Stream) → stream.ended ≡ true → Goes fed held stream → Goes (fed ++ more) held stream
ended_more fed more held stream e g =
    record {
      records = g.records;
      rest = g.rest ++ more;
      whole = ap (λ (ws : List ℕ). ws ++ more) g.whole ∙ append_assoc (bytes_of g.records) g.rest more;
      stands = g.stands;
      end = inl e;
    }

pub cut_now : (fed held : List ℕ) (stream : Stream) → Goes fed held stream → stream.ended ≡ false → FirstFault fed 1 stream.count stream.offset
cut_now fed held stream g going =
    record {
      before = g.records;
      rest = g.rest;
      begins = record { whole = g.whole; passes = g.stands.passes };
      goes_on = λ e. let bad : true ≡ false = sym e ∙ sym g.stands.ended ∙ going in absurd cc;
      index_is = g.stands.count;
      offset_is = g.stands.offset;
      fault = OfFrame 1 (short g.end);
    }
  where
    short : ((stream.ended ≡ true) ⊎ ((stream.ended ≡ false) × (g.rest ≡ held) × (framing held ≡ Some 1))) → framing g.rest ≡ Some 1
    short (inl e) = absurd (let bad : true ≡ false = sym e ∙ going in cc)
    short (inr h) = ap (λ (ws : List ℕ). framing ws) h.1 ∙ h.2

pub goes_tells : (fed held : List ℕ) (stream : Stream) → Goes fed held stream → (number index offset : ℕ) → number ≢ 1 → FirstFault fed number index offset → ⊥
goes_tells fed held stream g number index offset other h = told g.end
  where
    told : ((stream.ended ≡ true) ⊎ ((stream.ended ≡ false) × (g.rest ≡ held) × (framing held ≡ Some 1))) → ⊥
    told (inl e) = no_fault fed (library_of g.records) number index offset (g.records, g.rest, record { whole = g.whole; passes = g.stands.passes }, sym g.stands.ended ∙ e, refl) h
    told (inr e) = other (one_fault fed number index offset 1 stream.count stream.offset h (cut_now fed held stream g e.0)).0

either : (b : Bool) (held : List ℕ) (rest : List ℕ) → ((b ≡ true) ⊎ (framing rest ≡ Some 1)) → rest ≡ held → (b ≡ true) ⊎ ((b ≡ false) × (rest ≡ held) × (framing held ≡ Some 1))
either true held rest h e = inl refl
either false held rest (inl h) e = absurd cc
either false held rest (inr h) e = inr (refl, e, sym (ap (λ (ws : List ℕ). framing ws) e) ∙ h)

regrouped : (fed piece held rest : List ℕ) (rs : Records) → fed ≡ bytes_of rs ++ rest → rest ≡ held → fed ++ piece ≡ bytes_of rs ++ (held ++ piece)
regrouped fed piece held rest rs e f = ap (λ (ws : List ℕ). ws ++ piece) (e ∙ ap (λ (ws : List ℕ). bytes_of rs ++ ws) f) ∙ append_assoc (bytes_of rs) held piece

-- the records so far, and the bytes held
pub record Going (fed held : List ℕ) (stream : Stream) : Type 0 where
  pub records : Records
  pub whole : fed ≡ bytes_of records ++ held
  pub stands : Stands records stream

pub going_of : (fed held : List ℕ) (stream : Stream) → stream.ended ≡ false → Goes fed held stream → Going fed held stream
going_of fed held stream going g = of g.end
  where
    of : ((stream.ended ≡ true) ⊎ ((stream.ended ≡ false) × (g.rest ≡ held) × (framing held ≡ Some 1))) → Going fed held stream
    of (inl e) = absurd (let bad : true ≡ false = sym e ∙ going in cc)
    of (inr e) = record { records = g.records; whole = g.whole ∙ ap (λ (ws : List ℕ). bytes_of g.records ++ ws) e.1; stands = g.stands }

pub run_goes : (fed piece held rest : List ℕ) (stream new : Stream) (at : ℕ) (g : Going fed held stream) → Runs g.records (held ++ piece) (Ok at) new → drop at (held ++ piece) ≡ rest
    → Goes (fed ++ piece) rest new
run_goes fed piece held rest stream new at g (rs, reached, stands, end) e =
    let all = held ++ piece in
    record {
      records = rs;
      rest = drop at all;
      whole = regrouped fed piece held held g.records g.whole refl
          ∙ ap (λ (ws : List ℕ). bytes_of g.records ++ ws) (sym (take-append-drop at all))
          ∙ sym (append_assoc (bytes_of g.records) (take at all) (drop at all))
          ∙ ap (λ (ws : List ℕ). ws ++ drop at all) (sym reached.bytes_are);
      stands = stands;
      end = either new.ended rest (drop at all) end e;
    }

pub run_faults : (fed piece held : List ℕ) (stream new : Stream) (f : GdsFault) (g : Going fed held stream) → Runs g.records (held ++ piece) (Err f) new → HasFault (fed ++ piece) f
run_faults fed piece held stream new (Bad number index offset) g (rs, at, reached, passes, going, i, o, fault, other) =
    let all = held ++ piece in (
      record {
        before = rs;
        rest = drop at all;
        begins = record {
          whole = regrouped fed piece held held g.records g.whole refl
              ∙ ap (λ (ws : List ℕ). bytes_of g.records ++ ws) (sym (take-append-drop at all))
              ∙ sym (append_assoc (bytes_of g.records) (take at all) (drop at all))
              ∙ ap (λ (ws : List ℕ). ws ++ drop at all) (sym reached.bytes_are);
          passes = passes;
        };
        goes_on = λ e. absurd (let bad : true ≡ false = sym e ∙ going in cc);
        index_is = i;
        offset_is = o;
        fault = fault;
      },
      other,
    )
run_faults fed piece held stream new NoMemory g h = tt

pub accepted_now : (fed held : List ℕ) (stream : Stream) (v : lib.Library) → Goes fed held stream → stream.ended ≡ true → ((rs : Records) → Holds rs stream.kept → library_after (taken_cells stream.kept.taken.value) v ≡ library_of rs)
    → Accepts fed (library_after (taken_cells stream.kept.taken.value) v)
accepted_now fed held stream v g e same = (g.records, g.rest, record { whole = g.whole; passes = g.stands.passes }, sym g.stands.ended ∙ e, sym (same g.records g.stands.kept))

pub no_items : (xs : List ℕ) → length xs ≡ 0 → xs ≡ []
no_items [] e = refl
no_items (x ∷ xs) e = absurd (omega (arith, e))

pub going_bare : (fed held : List ℕ) (stream : Stream) → stream.ended ≡ false → held ≡ [] → Goes fed held stream → Going fed [] stream
going_bare fed held stream going e g = subst (λ (ws : List ℕ). Going fed ws stream) e (going_of fed held stream going g)

-- a piece of which a front was taken
pub record Fronted (piece rest : List ℕ) (old now : Pieces) : Type 0 where
  pub front : List ℕ
  pub split : front ++ rest ≡ piece
  pub reading : (fed : List ℕ) → Fed fed old → Fed (fed ++ front) now
  pub sound : now.fault ≡ None
  pub count : now.stream.count ≤ now.stream.offset
  pub room : now.stream.offset + vec_len now.held + length rest ≤ old.stream.offset + vec_len old.held + length piece
  pub taken : now.stream.kept.taken ≡ old.stream.kept.taken

pub fronted_none : (piece : List ℕ) (s : Pieces) → s.fault ≡ None → s.stream.count ≤ s.stream.offset → Fronted piece piece s s
fronted_none piece s e h = record {
  front = [];
  split = refl;
  reading = λ fed f. subst (λ (ws : List ℕ). Fed ws s) (sym (append-nil fed)) f;
  sound = e;
  count = h;
  room = omega arith;
  taken = refl;
}

pub front_more : (front head tail rest piece : List ℕ) → front ++ rest ≡ piece → head ++ tail ≡ rest → (front ++ head) ++ tail ≡ piece
front_more front head tail rest piece e f = append_assoc front head tail ∙ ap (λ (ws : List ℕ). front ++ ws) f ∙ e

pub fed_more : (fed front head : List ℕ) (s : Pieces) → Fed ((fed ++ front) ++ head) s → Fed (fed ++ (front ++ head)) s
fed_more fed front head s f = subst (λ (ws : List ℕ). Fed ws s) (append_assoc fed front head) f

-- a fault in a front is one in the whole
pub fault_whole : (fed front head tail piece : List ℕ) (f : GdsFault) → (front ++ head) ++ tail ≡ piece → HasFault ((fed ++ front) ++ head) f → HasFault (fed ++ piece) f
fault_whole fed front head tail piece f e h =
    subst (λ (ws : List ℕ). HasFault ws f)
    (ap (λ (ws : List ℕ). ws ++ tail) (append_assoc fed front head) ∙ append_assoc fed (front ++ head) tail ∙ ap (λ (ws : List ℕ). fed ++ ws) e)
    (has_more ((fed ++ front) ++ head) tail f h)

pub whole_front : (front piece : List ℕ) → front ++ [] ≡ piece → front ≡ piece
whole_front front piece e = sym (append-nil front) ∙ e

pub fronted_more : (piece rest : List ℕ) (old now new : Pieces) (count : ℕ) → Fronted piece rest old now → count ≤ length rest
    → ((fed : List ℕ) → Fed fed now → Fed (fed ++ take count rest) new) → new.fault ≡ None → new.stream.count ≤ new.stream.offset
    → new.stream.offset + vec_len new.held ≤ now.stream.offset + vec_len now.held + length (take count rest) → new.stream.kept.taken ≡ now.stream.kept.taken
    → Fronted piece (take (length rest - count) (drop count rest)) old new
fronted_more piece rest old now new count f within reading sound counted room taken =
    let tail : take (length rest - count) (drop count rest) ≡ drop count rest = take_all _ _ (omega (arith, length-drop count rest)) in
    subst (λ (ws : List ℕ). Fronted piece ws old new) (sym tail) record {
      front = f.front ++ take count rest;
      split = front_more f.front (take count rest) (drop count rest) rest piece f.split (take-append-drop count rest);
      reading = λ fed h. fed_more fed f.front (take count rest) new (reading (fed ++ f.front) (f.reading fed h));
      sound = sound;
      count = counted;
      room = omega (arith, f.room, room, length-drop count rest, length-take count rest);
      taken = taken ∙ f.taken;
    }

pub fronted_fault : (piece rest : List ℕ) (old now new : Pieces) (count : ℕ) (fault : GdsFault) (f : Fronted piece rest old now)
    → ((fed : List ℕ) → Fed fed now → HasFault (fed ++ take count rest) fault) → (fed : List ℕ) → Fed fed old → HasFault (fed ++ piece) fault
fronted_fault piece rest old now new count fault f tells fed h =
    fault_whole fed f.front (take count rest) (drop count rest) piece fault (front_more f.front (take count rest) (drop count rest) rest piece f.split (take-append-drop count rest))
    (tells (fed ++ f.front) (f.reading fed h))

-- all of the piece was taken
pub fronted_all : (piece rest : List ℕ) (old now : Pieces) (f : Fronted piece rest old now) → length rest ≡ 0
    → (fed : List ℕ) → Fed fed old → Fed (fed ++ piece) now × ((number index offset : ℕ) → number ≢ 1 → FirstFault (fed ++ piece) number index offset → ⊥)
fronted_all piece rest old now f none fed h =
    let e : f.front ≡ piece = whole_front f.front piece (subst (λ (ws : List ℕ). f.front ++ ws ≡ piece) (no_items rest none) f.split) in
    let g : Fed (fed ++ piece) now = subst (λ (ws : List ℕ). Fed (fed ++ ws) now) e (f.reading fed h) in
    (g, goes_tells (fed ++ piece) now.held.items now.stream (subst (λ (o : Option GdsFault). FedTo (fed ++ piece) now.held.items now.stream o) f.sound g))

-- the same with another of what is held behind the records
pub goes_kept : (fed held : List ℕ) (stream : Stream) (kept : Reader) → ((rs : Records) → Holds rs stream.kept → Holds rs kept) → Goes fed held stream → Goes fed held (record stream { kept = kept })
goes_kept fed held stream kept holds g = record {
  records = g.records;
  rest = g.rest;
  whole = g.whole;
  stands = record {
    place = g.stands.place;
    count = g.stands.count;
    offset = g.stands.offset;
    ended = g.stands.ended;
    passes = g.stands.passes;
    last = g.stands.last;
    kept = holds g.records g.stands.kept;
  };
  end = g.end;
}
