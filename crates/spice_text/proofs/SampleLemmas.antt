-- The sample has what the laws ask, and its text is what is written of it.
use Rattle.std.proofs.Common.{◌≡◌, ◌≢◌, ℕ, zero, suc, ◌*◌, ◌^◌, ◌<◌, true, false, List, [], ◌∷◌, ◌++◌, length, Some, refl, sym, subst, ◌∙◌, arith, true≢false}
use Rattle.std.proofs.lemmas.Bool.{and_parts}
use Rattle.std.specs.Prelude.{slice_get, slice_index, nat_lt, bytes_eq, codes}
use Rattle.std.specs.Fmt.{digits}
use Rattle.std.specs.List.{list_all}
use Rattle.std.proofs.lemmas.Option.{none-some, same_Some}
use Rattle.std.proofs.lemmas.Slice.Eq.{bytes_eq-Decides}
use Rattle.fixed_num.specs.Microns.{IsMicrons}
use Rattle.net_names.specs.Folding.{folded_bytes}
use Rattle.net_model.specs.Faults as model
use Rattle.plain_netlist.specs.Devices.{IsFormed}
use Rattle.plain_netlist.specs.Lists.{AreApart}
use Rattle.plain_netlist.specs.Netlist.{DeviceRow, CallRow, Circuit, IsCircuit, IsDevice}
use Rattle.plain_netlist.specs.Normal.{appearances, IsNormalCircuit, IsNormalNetlist}
use Rattle.plain_netlist.specs.Sound.{IsGood, IsSoundNetlist, AreCallsFitting, NameClash, CircuitCycle}
use Rattle.plain_netlist.proofs.Heights.{no_fault_in_good}
use Rattle.plain_netlist.proofs.Listing.{apart_at}
use Rattle.plain_netlist.proofs.Numbered.{normal_nets, numbered}
use Rattle.spice_rows.specs.Rows.{is_class}
use Rattle.spice_text.specs.Laws.{IsName, IsWritable, IsWithin, IsWithinFor}
use Rattle.spice_text.specs.Sample.{limits, transistor, cell, call, caller, sample, sample_text, SampleLaw}
use Rattle.spice_text.specs.Written.{circuit_text, device_text, IsWritten}
use Rattle.spice_text.specs.Cards.{first_size, second_size}
use Rattle.spice_text.proofs.AgainLemmas.{written_means}
use Rattle.spice_text.proofs.PinLemmas.{apart_of}
use Rattle.spice_text.proofs.RowLemmas.{AreNames}

differ : (xs ys : List ℕ) → bytes_eq xs ys ≡ false → xs ≡ ys → ⊥
differ xs ys h e = let g : bytes_eq xs ys ≡ true = (bytes_eq-Decides xs ys).1 e in true≢false (sym g ∙ h)

-- the circuits by number
at : (P : ℕ → Circuit → Type 0) → P 0 cell → P 1 caller → (c : ℕ) (x : Circuit) → IsCircuit sample c x → P c x
at P a b zero x h = subst (P 0) (same_Some _ _ h) a
at P a b (suc zero) x h = subst (P 1) (same_Some _ _ h) b
at P a b (suc (suc c)) x h = absurd (none-some x h)

-- the one device
device_at : (P : DeviceRow → Type 0) → P transistor → (t i : ℕ) (d : DeviceRow) → IsDevice sample t i d → P d
device_at P p t i d (x, is, h) = at (λ c x. (i : ℕ) (d : DeviceRow) → slice_get x.devices i ≡ Some d → P d) one (λ i d e. absurd (none-some d e)) t x is i d h
  where
    one : (i : ℕ) (d : DeviceRow) → slice_get (transistor ∷ []) i ≡ Some d → P d
    one zero d e = subst P (same_Some _ _ e) p
    one (suc i) d e = absurd (none-some d e)

-- the one call
call_at : (P : CallRow → Type 0) → P call → (k : ℕ) (r : CallRow) → slice_get (call ∷ []) k ≡ Some r → P r
call_at P p zero r e = subst P (same_Some _ _ e) p
call_at P p (suc k) r e = absurd (none-some r e)

-- ---- sound and in normal form

two_pins : (i n : ℕ) → slice_get (0 ∷ 1 ∷ []) i ≡ Some n → n ≡ i
two_pins zero n h = sym (same_Some _ _ h)
two_pins (suc zero) n h = sym (same_Some _ _ h)
two_pins (suc (suc i)) n h = absurd (none-some n h)

normal : IsNormalNetlist sample
normal = at (λ c x. IsNormalCircuit x)
    (record { pins = two_pins; numbered = numbered 4 0 (appearances cell) refl })
    (record { pins = λ i n h. absurd (none-some n h); numbered = numbered 1 0 (appearances caller) refl })

fitting : AreCallsFitting sample
fitting c k row (x, is, h) = at (λ c x. (k : ℕ) (row : CallRow) → slice_get x.calls k ≡ Some row → Fits row) (λ k row e. absurd (none-some row e)) (call_at Fits (cell, refl, refl)) c x is k row h
  where
    Fits : CallRow → Type 0
    Fits row = (d : Circuit) × IsCircuit sample row.circuit d × (length row.nets ≡ length d.pins)

good : IsGood sample (λ n. n)
good = record {
  within = normal_nets sample normal;
  called = fitting;
  lower = λ c k row (x, is, h). at (λ c x. (k : ℕ) (row : CallRow) → slice_get x.calls k ≡ Some row → row.circuit < c) (λ k row e. absurd (none-some row e)) (call_at (λ row. row.circuit < 1) (omega arith)) c x is k row h;
  pins = λ c i n (x, is, h). (normal c x is).pins i n h;
}

one_of : (xs : List (List ℕ)) → AreApart xs → (a b : ℕ) (name : List ℕ) → slice_get xs a ≡ Some name → slice_get xs b ≡ Some name → a ≡ b
one_of xs h a b name p q = apart_at name xs a b h p q

not_clash : CircuitCycle ≢ NameClash
not_clash e = absurd (let z : ⊥ = cc in z)

sound : IsSoundNetlist sample
sound = record {
  names = λ b c x y is js e. at (λ b x. (c : ℕ) (y : Circuit) → IsCircuit sample c y → x.name ≡ y.name → b ≡ c)
      (at (λ c y. cell.name ≡ y.name → 0 ≡ c) (λ e. refl) (λ e. absurd (differ _ _ refl e)))
      (at (λ c y. caller.name ≡ y.name → 1 ≡ c) (λ e. absurd (differ _ _ refl e)) (λ e. refl)) b x is c y js e;
  net_names = λ c a b x name is. at (λ c x. (a b : ℕ) (name : List ℕ) → slice_get x.nets a ≡ Some name → slice_get x.nets b ≡ Some name → a ≡ b)
      (one_of cell.nets (apart_of cell.nets refl)) (one_of caller.nets (apart_of caller.nets refl)) c x is a b name;
  nets = good.within;
  calls = fitting;
  no_cycle = λ c h. no_fault_in_good sample (λ n. n) CircuitCycle c good not_clash h;
}

-- ---- names and sizes

bytes_below : (xs : List ℕ) → list_all (λ b. nat_lt b 256) xs ≡ true → (k : ℕ) → k < length xs → slice_index xs k < 256
bytes_below [] h k l = absurd (omega arith)
bytes_below (x ∷ xs) h zero l = let t = (and_parts (nat_lt x 256) (list_all (λ b. nat_lt b 256) xs) h).0 in grind (arith, t)
bytes_below (x ∷ xs) h (suc k) l = bytes_below xs (and_parts (nat_lt x 256) (list_all (λ b. nat_lt b 256) xs) h).1 k (omega arith)

name_is : (n : List ℕ) → 0 < length n → list_all (λ b. nat_lt b 256) n ≡ true → folded_bytes n ≡ n → IsName n
name_is n some bytes folded = record { some = some; bytes = bytes_below n bytes; folded = folded }

name_of_place : (names : List (List ℕ)) → AreNames names → (n : ℕ) (name : List ℕ) → slice_get names n ≡ Some name → IsName name
name_of_place [] h n name e = absurd (none-some name e)
name_of_place (x ∷ xs) h zero name e = subst IsName (same_Some _ _ e) h.0
name_of_place (x ∷ xs) h (suc n) name e = name_of_place xs h.1 n name e

writable : IsWritable sample
writable = record {
  circuits = at (λ t c. IsName c.name) (name_is (codes "CELL") (omega arith) refl refl) (name_is (codes "TOP") (omega arith) refl refl);
  nets = λ t n c name is. at (λ t c. (n : ℕ) (name : List ℕ) → slice_get c.nets n ≡ Some name → IsName name)
      (name_of_place cell.nets (name_is (codes "D") (omega arith) refl refl, (name_is (codes "G$2") (omega arith) refl refl, (name_is (codes "S") (omega arith) refl refl, (name_is (codes "B") (omega arith) refl refl, tt)))))
      (name_of_place caller.nets (name_is (codes "N") (omega arith) refl refl, tt)) t c is n name;
  classes = device_at (λ d. IsName d.class) (name_is (codes "NMOS") (omega arith) refl refl);
  models = device_at (λ d. is_class d.kind d.class ≡ true) refl;
  formed = device_at (λ d. IsFormed d) (record { ends = refl; others = refl; sizes = refl });
  sizes = device_at (λ d. (first_size d < 2 ^ 128) × (second_size d < 2 ^ 128)) (omega arith, omega arith);
}

within : IsWithin limits sample
within = device_at (λ d. IsWithinFor d.kind limits d) (omega arith, omega arith)

-- ---- the text

no_last : (front : List ℕ) → [] ≡ front ++ 48 ∷ [] → ⊥
no_last [] e = let z : ⊥ = cc in z
no_last (x ∷ front) e = let z : ⊥ = cc in z

one_micron : IsMicrons (10 ^ 9) (codes "1")
unfolding digits
one_micron = record { fraction = []; spelled = refl; rest = record { digits = refl; worth = refl; last = no_last } }

two_microns : IsMicrons (2 * 10 ^ 9) (codes "2")
unfolding digits
two_microns = record { fraction = []; spelled = refl; rest = record { digits = refl; worth = refl; last = no_last } }

abbrev line : List ℕ
line = device_text cell.nets 1 transistor (codes "1U") (codes "2U")

abbrev first : List ℕ
first = circuit_text sample.circuits cell (line ++ [])

abbrev second : List ℕ
second = circuit_text sample.circuits caller []

written : IsWritten sample sample_text
unfolding digits
written = (
  first ++ (second ++ []),
  (
    first,
    (line ++ [], (line, (codes "1U", codes "2U", ((codes "1", one_micron, refl), (codes "2", two_microns, refl)), refl), [], refl, refl), refl),
    second ++ [],
    (second, ([], refl, refl), [], refl, refl),
    refl,
  ),
  refl,
)

pub sample_law : model.CallListsLaw → SampleLaw
sample_law law = record {
  sound = sound;
  normal = normal;
  writable = writable;
  within = within;
  written = written;
  means = written_means law sample sample_text sound normal writable written;
}
