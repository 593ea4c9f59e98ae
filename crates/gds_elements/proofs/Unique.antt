-- One outcome for each byte list.
use Rattle.std.proofs.Common.{◌≡◌, ℕ, List, [], ◌∷◌, ◌++◌, length, Option, Some, None, sym, ap, subst, ◌∙◌}
use Rattle.std.specs.Prelude.{Result, Ok, Err, IfOk, IfErr}
use Rattle.gds_records.specs.Records.{Rec, IsRecord, record_bytes, framing, Records, NoRecords, ◌▸◌, bytes_of, count_of, AreRecords, followed_by_all}
use Rattle.gds_records.proofs.Frame.{record_framed}
use Rattle.gds_records.proofs.OneReading.{compared, first_same, texts, Same, Before, After}
use Rattle.gds_grammar.specs.Order.{IsEnded}
use Rattle.gds_grammar.proofs.LastRecord.{stops}
use Rattle.gds_elements.specs.Meaning.{Cell, Library, library_of}
use Rattle.gds_elements.specs.Faults.{Passes, fault_of, Accepts, FirstFault, IsNextFault, OfFrame, OfRecord}
use Rattle.gds_elements.specs.declared.library.Library as lib
use Rattle.gds_elements.specs.declared.library.GdsFault.{GdsFault}
use Rattle.gds_elements.specs.declared.library.GdsFault.TheVariants.{Bad, NoMemory}
use Rattle.gds_elements.specs.Reading.{library_after, library_seen, IsFaultOf, OnlyLibrary, OnlyRest, OnlyFault}
use Rattle.gds_elements.proofs.Step.{never_behind_end}

-- what passes, passes up to each of its records
passes_to : (rs : Records) (xs : List Rec) → Passes (followed_by_all rs xs) → Passes rs
passes_to rs [] h = h
passes_to rs (x ∷ xs) h = (passes_to (rs ▸ x) xs h).0

none_not_some : (n : ℕ) (o : Option ℕ) → o ≡ None → o ≡ Some n → ⊥
none_not_some n o e f = let bad : None ≡ Some n = sym e ∙ f in cc

-- nothing that passes goes on behind ENDLIB
no_more : (rs : Records) (x : Rec) (xs : List Rec) → IsEnded rs → Passes (followed_by_all (rs ▸ x) xs) → ⊥
no_more rs x xs ended h =
    let passed = (passes_to (rs ▸ x) xs h).2 in
    never_behind_end rs x (stops rs x.kind ended) passed

-- what passes are records
records_of : (rs : Records) → Passes rs → AreRecords rs
records_of NoRecords h = tt
records_of (before ▸ r) h = (records_of before h.0, h.1)

pub one_library : (bytes : List ℕ) (v w : Library) → Accepts bytes v → Accepts bytes w → v ≡ w
one_library bytes v w (rs, us, b, ended, is) (ss, vs, d, ended', is') =
    elim (compared rs ss us vs (records_of rs b.passes) (records_of ss d.passes) (sym b.whole ∙ d.whole)) [
      | Same e f ↦ sym is ∙ ap (λ (r : Records). library_of r) e ∙ is'
      | Before x xs e f p ↦ absurd (no_more rs x xs ended (subst (λ (r : Records). Passes r) e d.passes))
      | After x xs e f p ↦ absurd (no_more ss x xs ended' (subst (λ (r : Records). Passes r) e b.passes))
    ]

-- what begins with a record that passes has no fault next
sound_next : (rs : Records) (rest : List ℕ) (number : ℕ) (x : Rec) (more : List ℕ) → IsRecord x → fault_of rs x ≡ None → rest ≡ record_bytes x ++ more → IsNextFault rs rest number → ⊥
sound_next rs rest number x more p passed e (OfFrame n f) = none_not_some n (framing rest) (ap (λ (ws : List ℕ). framing ws) e ∙ record_framed x more p) f
sound_next rs rest number x more p passed e (OfRecord n r rs' q f g) =
    let s = first_same r x rs' more q p (sym f ∙ e) in
    none_not_some n (fault_of rs r) (ap (λ (y : Rec). fault_of rs y) s.0 ∙ passed) g

pub no_fault : (bytes : List ℕ) (v : Library) (number index offset : ℕ) → Accepts bytes v → FirstFault bytes number index offset → ⊥
no_fault bytes v number index offset (rs, us, b, ended, is) h =
    elim (compared rs h.before us h.rest (records_of rs b.passes) (records_of h.before h.begins.passes) (sym b.whole ∙ h.begins.whole)) [
      | Same e f ↦ h.goes_on (subst (λ (r : Records). IsEnded r) e ended)
      | Before x xs e f p ↦ no_more rs x xs ended (subst (λ (r : Records). Passes r) e h.begins.passes)
      | After x xs e f p ↦
          let passed = (passes_to (h.before ▸ x) xs (subst (λ (r : Records). Passes r) e b.passes)).2 in
          sound_next h.before h.rest number x (texts xs ++ us) p passed f h.fault
    ]

some_same : (o : Option ℕ) (m n : ℕ) → o ≡ Some m → o ≡ Some n → m ≡ n
some_same o m n e f = let g : Some m ≡ Some n = sym e ∙ f in cc

one_number : (rs : Records) (rest : List ℕ) (m n : ℕ) → IsNextFault rs rest m → IsNextFault rs rest n → m ≡ n
one_number rs rest m n (OfFrame m' e) (OfFrame n' f) = some_same (framing rest) m' n' e f
one_number rs rest m n (OfFrame m' e) (OfRecord n' r more p f g) = absurd (none_not_some m' (framing rest) (ap (λ (ws : List ℕ). framing ws) f ∙ record_framed r more p) e)
one_number rs rest m n (OfRecord m' r more p f g) (OfFrame n' e) = absurd (none_not_some n' (framing rest) (ap (λ (ws : List ℕ). framing ws) f ∙ record_framed r more p) e)
one_number rs rest m n (OfRecord m' r more p f g) (OfRecord n' r' more' p' f' g') =
    let s = first_same r r' more more' p p' (sym f ∙ f') in
    some_same (fault_of rs r) m' n' g (ap (λ (y : Rec). fault_of rs y) s.0 ∙ g')

pub one_fault : (bytes : List ℕ) (m i o n j q : ℕ) → FirstFault bytes m i o → FirstFault bytes n j q → (m ≡ n) × (i ≡ j) × (o ≡ q)
one_fault bytes m i o n j q h k =
    elim (compared h.before k.before h.rest k.rest (records_of h.before h.begins.passes) (records_of k.before k.begins.passes) (sym h.begins.whole ∙ k.begins.whole)) [
      | Same e f ↦
          let there : IsNextFault h.before h.rest n = subst (λ (r : Records). IsNextFault r h.rest n) (sym e) (subst (λ (ws : List ℕ). IsNextFault k.before ws n) (sym f) k.fault) in (
            one_number h.before h.rest m n h.fault there,
            h.index_is ∙ ap (λ (r : Records). count_of r) e ∙ sym k.index_is,
            h.offset_is ∙ ap (λ (r : Records). length (bytes_of r)) e ∙ sym k.offset_is,
          )
      | Before x xs e f p ↦
          let passed = (passes_to (h.before ▸ x) xs (subst (λ (r : Records). Passes r) e k.begins.passes)).2 in
          absurd (sound_next h.before h.rest m x (texts xs ++ k.rest) p passed f h.fault)
      | After x xs e f p ↦
          let passed = (passes_to (k.before ▸ x) xs (subst (λ (r : Records). Passes r) e h.begins.passes)).2 in
          absurd (sound_next k.before k.rest n x (texts xs ++ h.rest) p passed f k.fault)
    ]

pub only_library : (bytes : List ℕ) (v : Library) (result : Result lib.Library GdsFault) → IfOk result (λ w. Accepts bytes (library_seen w)) → IfErr result (λ e. IsFaultOf bytes e)
    → Accepts bytes v → OnlyLibrary v result
only_library bytes v (Ok w) found fault h = one_library bytes (library_seen w) v found h
only_library bytes v (Err (Bad n i o)) found fault h = no_fault bytes v n i o h fault
only_library bytes v (Err NoMemory) found fault h = tt

pub only_rest : (bytes : List ℕ) (taken : List Cell) (v : Library) (result : Result lib.Library GdsFault) → IfOk result (λ w. Accepts bytes (library_after taken w)) → IfErr result (λ e. IsFaultOf bytes e)
    → Accepts bytes v → OnlyRest taken v result
only_rest bytes taken v (Ok w) found fault h = one_library bytes (library_after taken w) v found h
only_rest bytes taken v (Err (Bad n i o)) found fault h = no_fault bytes v n i o h fault
only_rest bytes taken v (Err NoMemory) found fault h = tt

pub only_fault : (bytes : List ℕ) (taken : List Cell) (number index offset : ℕ) (result : Result lib.Library GdsFault) → IfOk result (λ w. Accepts bytes (library_after taken w)) → IfErr result (λ e. IsFaultOf bytes e)
    → FirstFault bytes number index offset → OnlyFault number index offset result
only_fault bytes taken number index offset (Ok w) found fault h = no_fault bytes (library_after taken w) number index offset found h
only_fault bytes taken number index offset (Err (Bad n i o)) found fault h = one_fault bytes n i o number index offset fault h
only_fault bytes taken number index offset (Err NoMemory) found fault h = tt
