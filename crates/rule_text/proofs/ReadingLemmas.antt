-- `reading_of` in other words: lines that pass, and the first that doesn't.
use Rattle.std.proofs.Common.{◌≡◌, ◌⊎◌, inl, inr, ℕ, ◌+◌, List, [], ◌∷◌, ◌++◌, length, Option, Some, None, Result, Ok, Err, refl, sym, ap, ◌∙◌, arith}
use Rattle.std.specs.Prelude.{position}
use Rattle.rule_lines.specs.Lines.{is_no_text, lines_of}
use Rattle.rule_lines.specs.Tokens.{tokens_of}
use Rattle.rule_text.specs.declared.fault.RuleFault.{RuleFault}
use Rattle.rule_text.specs.declared.fault.RuleFault.TheVariants.{UnknownStatement, BadForm, UnknownName, NameTwice, NotConductor, TooManyLayers, NotText, NoMemory}
use Rattle.rule_text.specs.Rules.{Rules, no_rules, fault_of, with_line}
use Rattle.rule_text.specs.Reader.{SaysFirst}
use Rattle.rule_text.specs.Reading.{Answers, Pass, rules_of, device_lines, more_lines, loose_of, loose_line, Means, IsLineFault, IsDeviceFault, IsFirstFault, fault_or, reading, connected_or, closed, text_or, reading_of, MeaningLaw, FaultLaw}

ok_at : (f : Option RuleFault) (rest : Result Rules RuleFault) (q : Rules) → fault_or f rest ≡ Ok q → (f ≡ None) × (rest ≡ Ok q)
ok_at None rest q e = (refl, e)
ok_at (Some k) rest q e = absurd cc

err_at : (f : Option RuleFault) (rest : Result Rules RuleFault) (g : RuleFault) → fault_or f rest ≡ Err g → (f ≡ Some g) ⊎ ((f ≡ None) × (rest ≡ Err g))
err_at None rest g e = inr (refl, e)
err_at (Some k) rest g e = let same : k ≡ g = cc in inl (ap (λ (x : RuleFault). Some x) same)

none_at : (f : Option RuleFault) (rest : Result Rules RuleFault) → f ≡ None → fault_or f rest ≡ rest
none_at f rest e = rw e refl

some_at : (f : Option RuleFault) (g : RuleFault) (rest : Result Rules RuleFault) → f ≡ Some g → fault_or f rest ≡ Err g
some_at f g rest e = rw e refl

ok : (lines : List (List ℕ)) (n : ℕ) (r q : Rules) → reading n r lines ≡ Ok q → Pass n r lines × (q ≡ rules_of r lines)
ok [] n r q e = (tt, cc)
ok (line ∷ lines) n r q e =
    let p = ok_at (fault_of r n (tokens_of line)) (reading (n + 1) (with_line r (tokens_of line)) lines) q e in
    let more = ok lines (n + 1) (with_line r (tokens_of line)) q p.1 in
    ((p.0, more.0), more.1)

pub passed : (lines : List (List ℕ)) (n : ℕ) (r : Rules) → Pass n r lines → reading n r lines ≡ Ok (rules_of r lines)
passed [] n r h = refl
passed (line ∷ lines) n r h = none_at (fault_of r n (tokens_of line)) _ h.0 ∙ passed lines (n + 1) (with_line r (tokens_of line)) h.1

longer : (r : Rules) (line : List ℕ) (lines : List (List ℕ)) (n : ℕ) (fault : RuleFault) → fault_of r n (tokens_of line) ≡ None
    → IsLineFault (n + 1) (with_line r (tokens_of line)) lines fault → IsLineFault n r (line ∷ lines) fault
longer r line lines n fault e f =
    let place : (n + 1) + length f.before ≡ n + length (line ∷ f.before) = omega arith in
    record {
      before = line ∷ f.before;
      line = f.line;
      after = f.after;
      parts = ap (λ (ls : List (List ℕ)). line ∷ ls) f.parts;
      passed = (e, f.passed);
      is = ap (λ (k : ℕ). fault_of (rules_of (with_line r (tokens_of line)) f.before) k (tokens_of f.line)) (sym place) ∙ f.is;
    }

first : (lines : List (List ℕ)) (n : ℕ) (r : Rules) (fault : RuleFault) → reading n r lines ≡ Err fault → IsLineFault n r lines fault
first [] n r fault e = absurd cc
first (line ∷ lines) n r fault e =
    elim (err_at (fault_of r n (tokens_of line)) (reading (n + 1) (with_line r (tokens_of line)) lines) fault e) [
      | inl h ↦
          let place : n + length {A = List ℕ} [] ≡ n = omega arith in
          record { before = []; line = line; after = lines; parts = refl; passed = tt; is = ap (λ (k : ℕ). fault_of r k (tokens_of line)) place ∙ h }
      | inr h ↦ longer r line lines n fault h.0 (first lines (n + 1) (with_line r (tokens_of line)) fault h.1)
    ]

stops : (before : List (List ℕ)) (line : List ℕ) (after : List (List ℕ)) (n : ℕ) (r : Rules) (fault : RuleFault) → Pass n r before
    → fault_of (rules_of r before) (n + length before) (tokens_of line) ≡ Some fault → reading n r (before ++ line ∷ after) ≡ Err fault
stops [] line after n r fault h f =
    let place : n ≡ n + 0 = omega arith in
    some_at (fault_of r n (tokens_of line)) fault _ (ap (λ (k : ℕ). fault_of r k (tokens_of line)) place ∙ f)
stops (l ∷ ls) line after n r fault h f =
    let place : (n + 1) + length ls ≡ n + length (l ∷ ls) = omega arith in
    none_at (fault_of r n (tokens_of l)) _ h.0
    ∙ stops ls line after (n + 1) (with_line r (tokens_of l)) fault h.1
    (ap (λ (k : ℕ). fault_of (rules_of (with_line r (tokens_of l)) ls) k (tokens_of line)) place ∙ f)

-- an answer is one or the other
ok_or_err : (read : Result Rules RuleFault) → ((r : Rules) × (read ≡ Ok r)) ⊎ ((f : RuleFault) × (read ≡ Err f))
ok_or_err (Ok r) = inl (r, refl)
ok_or_err (Err f) = inr (f, refl)

abbrev read_lines : List ℕ → Result Rules RuleFault
read_lines bytes = reading 1 no_rules (lines_of bytes)

abbrev closed_lines : List ℕ → Result Rules RuleFault
closed_lines bytes = closed (device_lines 1 (lines_of bytes)) (more_lines 1 (lines_of bytes)) (read_lines bytes)

text_ok : (at : Option ℕ) (rest : Result Rules RuleFault) (r : Rules) → text_or at rest ≡ Ok r → (at ≡ None) × (rest ≡ Ok r)
text_ok None rest r e = (refl, e)
text_ok (Some k) rest r e = absurd cc

text_err : (at : Option ℕ) (rest : Result Rules RuleFault) (f : RuleFault) → text_or at rest ≡ Err f
    → ((k : ℕ) × (at ≡ Some k) × (f ≡ NotText k)) ⊎ ((at ≡ None) × (rest ≡ Err f))
text_err None rest f e = inr (refl, e)
text_err (Some k) rest f e = let same : f ≡ NotText k = cc in inl (k, refl, same)

loose_ok : (at : Option ℕ) (q r : Rules) → connected_or at q ≡ Ok r → (at ≡ None) × (q ≡ r)
loose_ok None q r e = let same : q ≡ r = cc in (refl, same)
loose_ok (Some k) q r e = absurd cc

loose_err : (at : Option ℕ) (q : Rules) (f : RuleFault) → connected_or at q ≡ Err f → (k : ℕ) × (at ≡ Some k) × (f ≡ NotConductor k)
loose_err None q f e = absurd cc
loose_err (Some k) q f e = let same : f ≡ NotConductor k = cc in (k, refl, same)

pub means : (bytes : List ℕ) (r : Rules) → reading_of bytes ≡ Ok r → Means bytes r
means bytes r e =
    let text = text_ok (position is_no_text bytes) (closed_lines bytes) r e in
    elim (ok_or_err (read_lines bytes)) [
      | inl (q, same) ↦
          let lines = ok (lines_of bytes) 1 no_rules q same in
          let close : connected_or (loose_of q (device_lines 1 (lines_of bytes)) (more_lines 1 (lines_of bytes))) q ≡ Ok r =
          ap (λ (x : Result Rules RuleFault). closed (device_lines 1 (lines_of bytes)) (more_lines 1 (lines_of bytes)) x) (sym same) ∙ text.1 in
          let end = loose_ok (loose_of q (device_lines 1 (lines_of bytes)) (more_lines 1 (lines_of bytes))) q r close in
          record {
            text = text.0;
            passed = lines.0;
            rules = sym end.1 ∙ lines.1;
            connected = ap (λ (x : Rules). loose_line x (lines_of bytes)) (sym end.1) ∙ end.0;
          }
      | inr (f, same) ↦
          let wrong : Err f ≡ Ok r = ap (λ (x : Result Rules RuleFault). closed (device_lines 1 (lines_of bytes)) (more_lines 1 (lines_of bytes)) x) (sym same) ∙ text.1 in absurd cc
    ]

meant : (bytes : List ℕ) (r : Rules) → Means bytes r → reading_of bytes ≡ Ok r
meant bytes r m =
    ap (λ (at : Option ℕ). text_or at (closed_lines bytes)) m.text
    ∙ ap (λ (x : Result Rules RuleFault). closed (device_lines 1 (lines_of bytes)) (more_lines 1 (lines_of bytes)) x) (passed (lines_of bytes) 1 no_rules m.passed ∙ ap (λ (q : Rules). Ok q) (sym m.rules))
    ∙ ap (λ (at : Option ℕ). connected_or at r) m.connected

faulty : (bytes : List ℕ) (f : RuleFault) → reading_of bytes ≡ Err f → IsFirstFault bytes f
faulty bytes f e =
    elim (text_err (position is_no_text bytes) (closed_lines bytes) f e) [
      | inl (k, at, is) ↦ inl (record { offset = k; is = is; first = at })
      | inr (at, rest) ↦ inr (
        at,
        elim (ok_or_err (read_lines bytes)) [
          | inl (q, same) ↦
              let lines = ok (lines_of bytes) 1 no_rules q same in
              let close : connected_or (loose_of q (device_lines 1 (lines_of bytes)) (more_lines 1 (lines_of bytes))) q ≡ Err f =
              ap (λ (x : Result Rules RuleFault). closed (device_lines 1 (lines_of bytes)) (more_lines 1 (lines_of bytes)) x) (sym same) ∙ rest in
              let end = loose_err (loose_of q (device_lines 1 (lines_of bytes)) (more_lines 1 (lines_of bytes))) q f close in
              inr (record {
                passed = lines.0;
                line = end.0;
                is = end.2;
                first = ap (λ (x : Rules). loose_line x (lines_of bytes)) (sym lines.1) ∙ end.1;
              })
          | inr (g, same) ↦
              let wrong : Err g ≡ Err f = ap (λ (x : Result Rules RuleFault). closed (device_lines 1 (lines_of bytes)) (more_lines 1 (lines_of bytes)) x) (sym same) ∙ rest in
              inl (first (lines_of bytes) 1 no_rules f (same ∙ wrong))
        ],
      )
    ]

line_fault : (bytes : List ℕ) (f : RuleFault) → IsLineFault 1 no_rules (lines_of bytes) f → closed_lines bytes ≡ Err f
line_fault bytes f h =
    ap (λ (x : Result Rules RuleFault). closed (device_lines 1 (lines_of bytes)) (more_lines 1 (lines_of bytes)) x)
    (ap (λ (ls : List (List ℕ)). reading 1 no_rules ls) h.parts ∙ stops h.before h.line h.after 1 no_rules f h.passed h.is)

device_fault : (bytes : List ℕ) (f : RuleFault) → IsDeviceFault (lines_of bytes) f → closed_lines bytes ≡ Err f
device_fault bytes f h =
    ap (λ (x : Result Rules RuleFault). closed (device_lines 1 (lines_of bytes)) (more_lines 1 (lines_of bytes)) x) (passed (lines_of bytes) 1 no_rules h.passed)
    ∙ ap (λ (at : Option ℕ). connected_or at (rules_of no_rules (lines_of bytes))) h.first
    ∙ ap (λ (g : RuleFault). Err g) (sym h.is)

fails : (bytes : List ℕ) (f : RuleFault) → IsFirstFault bytes f → reading_of bytes ≡ Err f
fails bytes f (inl h) =
    ap (λ (at : Option ℕ). text_or at (closed_lines bytes)) h.first ∙ ap (λ (g : RuleFault). Err g) (sym h.is)
fails bytes f (inr (at, inl h)) = ap (λ (o : Option ℕ). text_or o (closed_lines bytes)) at ∙ line_fault bytes f h
fails bytes f (inr (at, inr h)) = ap (λ (o : Option ℕ). text_or o (closed_lines bytes)) at ∙ device_fault bytes f h

pub meaning_law : MeaningLaw
meaning_law bytes r = (means bytes r, meant bytes r)

pub fault_law : FaultLaw
fault_law bytes f = (faulty bytes f, fails bytes f)

pub answers : (bytes : List ℕ) (e : RuleFault) → SaysFirst e (reading_of bytes) → Answers bytes e
answers bytes NoMemory h = tt
answers bytes (UnknownStatement line) h = faulty bytes (UnknownStatement line) h
answers bytes (BadForm line) h = faulty bytes (BadForm line) h
answers bytes (UnknownName line) h = faulty bytes (UnknownName line) h
answers bytes (NameTwice line) h = faulty bytes (NameTwice line) h
answers bytes (NotConductor line) h = faulty bytes (NotConductor line) h
answers bytes (TooManyLayers line) h = faulty bytes (TooManyLayers line) h
answers bytes (NotText offset) h = faulty bytes (NotText offset) h
