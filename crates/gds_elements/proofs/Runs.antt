-- Records, one after another.
use Rattle.std.proofs.Common.{◌≡◌, inl, inr, ℕ, ◌+◌, ◌-◌, ◌<◌, ◌≤◌, true, false, List, [], ◌++◌, length, take, drop, Ok, Err, sym, ap, ◌∙◌, append_assoc, arith}
use Rattle.std.proofs.lemmas.List.{take_at, take-append-drop, length-append, length-drop}
use Rattle.std.proofs.Math.Seq.{take-add}
use Rattle.gds_records.specs.Records.{Rec, record_bytes}
use Rattle.gds_elements.specs.declared.stream.Stream.{Stream}
use Rattle.gds_elements.specs.declared.library.Library as lib
use Rattle.gds_elements.specs.declared.library.GdsFault.{GdsFault}
use Rattle.gds_elements.specs.declared.library.GdsFault.TheVariants.{Bad, NoMemory}
use Rattle.gds_records.specs.Records.{Records, NoRecords, ◌▸◌, bytes_of}
use Rattle.gds_elements.specs.Meaning as m
use Rattle.gds_elements.specs.Faults.{Accepts, FirstFault, OfFrame, Passes}
use Rattle.gds_grammar.specs.Order.{is_ended}
use Rattle.gds_elements.specs.Reading.{Reached, Runs, Steps, Holds, library_after, library_seen, taken_cells, IsFaultOf}

pub one_more : (before rs : Records) (r : Rec) (bytes : List ℕ) (at end : ℕ) → Reached before rs bytes at → drop at bytes ≡ record_bytes r ++ drop end bytes
    → at < end → end ≤ length bytes → Reached before (rs ▸ r) bytes end
one_more before rs r bytes at end so_far e later within =
    let len : length (record_bytes r) ≡ end - at =
    omega (arith, ap (λ (xs : List ℕ). length xs) e, length-append (record_bytes r) (drop end bytes), length-drop at bytes, length-drop end bytes) in
    let more : take (end - at) (drop at bytes) ≡ record_bytes r = ap (λ (xs : List ℕ). take (end - at) xs) e ∙ take_at (record_bytes r) (drop end bytes) (end - at) len in
    let sum : at + (end - at) ≡ end = omega arith in
    let parts : take end bytes ≡ take at bytes ++ record_bytes r =
    ap (λ (k : ℕ). take k bytes) (sym sum) ∙ take-add at (end - at) bytes ∙ ap (λ (xs : List ℕ). take at bytes ++ xs) more in
    record {
      bytes_are = ap (λ (xs : List ℕ). xs ++ record_bytes r) so_far.bytes_are ∙ append_assoc (bytes_of before) (take at bytes) (record_bytes r) ∙ ap (λ (xs : List ℕ). bytes_of before ++ xs) (sym parts);
    }

whole : (rs : Records) (bytes : List ℕ) (at : ℕ) → Reached NoRecords rs bytes at → bytes ≡ bytes_of rs ++ drop at bytes
whole rs bytes at h = sym (take-append-drop at bytes) ∙ ap (λ (xs : List ℕ). xs ++ drop at bytes) (sym h.bytes_are)

pub is_fault : (bytes : List ℕ) (e : GdsFault) (new : Stream) → Runs NoRecords bytes (Err e) new → IsFaultOf bytes e
is_fault bytes (Bad number index offset) new (rs, at, reached, passes, going, i, o, fault, other) =
    record {
      before = rs;
      rest = drop at bytes;
      begins = record { whole = whole rs bytes at reached; passes = passes };
      goes_on = λ ended. let bad : true ≡ false = sym ended ∙ going in cc;
      index_is = i;
      offset_is = o;
      fault = fault;
    }
is_fault bytes NoMemory new h = tt

pub is_cut : (bytes : List ℕ) (at : ℕ) (new : Stream) → Runs NoRecords bytes (Ok at) new → new.ended ≡ false → FirstFault bytes 1 new.count new.offset
is_cut bytes at new (rs, reached, stands, inl ended) open_yet = absurd (let bad : true ≡ false = sym ended ∙ open_yet in cc)
is_cut bytes at new (rs, reached, stands, inr short) open_yet =
    record {
      before = rs;
      rest = drop at bytes;
      begins = record { whole = whole rs bytes at reached; passes = stands.passes };
      goes_on = λ ended. let bad : true ≡ false = sym ended ∙ sym stands.ended ∙ open_yet in cc;
      index_is = stands.count;
      offset_is = stands.offset;
      fault = OfFrame 1 short;
    }

pub is_accepted : (bytes : List ℕ) (at : ℕ) (new : Stream) (v : lib.Library) → Runs NoRecords bytes (Ok at) new → new.ended ≡ true
    → taken_cells new.kept.taken.value ≡ [] → ((rs : Records) → Holds rs new.kept → library_after (taken_cells new.kept.taken.value) v ≡ m.library_of rs) → Accepts bytes (library_seen v)
is_accepted bytes at new v (rs, reached, stands, end) ended none same =
    let is : library_seen v ≡ m.library_of rs = ap (λ (cs : List m.Cell). library_after cs v) (sym none) ∙ same rs stands.kept in
    (rs, drop at bytes, record { whole = whole rs bytes at reached; passes = stands.passes }, sym stands.ended ∙ ended, sym is)

pub run_fault : (before rs : Records) (bytes : List ℕ) (at : ℕ) (e : GdsFault) (new : Stream) → Reached before rs bytes at → Passes rs → is_ended rs ≡ false → Steps rs bytes at (Err e) new
    → Runs before bytes (Err e) new
run_fault before rs bytes at (Bad number index offset) new reached passes going (i, o, fault, other) = (rs, at, reached, passes, going, i, o, fault, other)
run_fault before rs bytes at NoMemory new reached passes going h = tt
