-- One text more.
use Rattle.std.proofs.Common.{◌≡◌, ℕ, zero, suc, ◌+◌, List, [], ◌∷◌, ◌++◌, map, drop, length, ◌<◌, Option, Some, slice_get, refl, sym, subst, ap, ◌∙◌, append_assoc, arith}
use Rattle.std.proofs.lemmas.List.{append-nil, drop_more}
use Rattle.std.specs.Prelude.{get_or, slice_index}
use Rattle.fixed_num.specs.declared.femto.Femto.{Femto}
use Rattle.plain_netlist.specs.Netlist.{DeviceRow}
use Rattle.spice_text.specs.Written.{AreTexts, AreOneByOne, AreSizes, IsDeviceText, device_nets_text, device_text, sizes_text, Adds, HasWritten}

pub start : (Whole : List ℕ → Type 0) (out : List ℕ) → HasWritten Whole Whole out out
start Whole out = record { text = []; added = sym (append-nil out); whole = λ b r. r }

pub more : {A : Type 0} (P : ℕ → A → List ℕ → Type 0) (k : ℕ) (x : A) (xs : List A) (Whole : List ℕ → Type 0) (before mid after : List ℕ)
    → HasWritten (AreTexts P k (x ∷ xs)) Whole before mid → Adds (P k x) mid after → HasWritten (AreTexts P (k + 1) xs) Whole before after
more P k x xs Whole before mid after h (a, e, p) = record {
  text = h.text ++ a;
  added = e ∙ ap (λ (m : List ℕ). m ++ a) h.added ∙ append_assoc before h.text a;
  whole = λ b r. subst Whole (sym (append_assoc h.text a b)) (h.whole (a ++ b) (a, p, b, r, refl));
}

pub one_more : {A : Type 0} (P : A → List ℕ → Type 0) (x : A) (xs : List A) (Whole : List ℕ → Type 0) (before mid after : List ℕ)
    → HasWritten (AreOneByOne P (x ∷ xs)) Whole before mid → Adds (P x) mid after → HasWritten (AreOneByOne P xs) Whole before after
one_more P x xs Whole before mid after h (a, e, p) = record {
  text = h.text ++ a;
  added = e ∙ ap (λ (m : List ℕ). m ++ a) h.added ∙ append_assoc before h.text a;
  whole = λ b r. subst Whole (sym (append_assoc h.text a b)) (h.whole (a ++ b) (a, p, b, r, refl));
}

pub done : (Rest Whole : List ℕ → Type 0) (before after : List ℕ) → Rest [] → HasWritten Rest Whole before after → Adds Whole before after
done Rest Whole before after r h = (h.text, h.added, subst Whole (append-nil h.text) (h.whole [] r))

pub split : {A B : Type 0} (f : A → B) (xs : List A) (i : ℕ) (x : A) → i < length xs → x ≡ get_or xs i x → map f (drop i xs) ≡ f x ∷ map f (drop (i + 1) xs)
split {A = A} f xs i x l e = ap (λ (ys : List A). map f ys) (drop_more xs i x l) ∙ ap (λ (y : A). f y ∷ map f (drop (i + 1) xs)) (sym e)

-- the item at a place, as it is seen
pub at_place : {A B : Type 0} (f : A → B) (xs : List A) (i : ℕ) (x : A) → i < length xs → x ≡ get_or xs i x → slice_get (map f xs) i ≡ Some (f x)
at_place f [] i x lt e = absurd (omega arith)
at_place {B = B} f (y ∷ ys) zero x lt e = ap (λ z. let o : Option B = Some (f z) in o) (sym e)
at_place f (y ∷ ys) (suc i) x lt e = at_place f ys i x (omega arith) e

-- ---- a device

pub device : (nets : List (List ℕ)) (k : ℕ) (d : DeviceRow) (x y before mid after : List ℕ) → AreSizes d.kind d x y
    → mid ≡ before ++ device_nets_text nets k d → after ≡ mid ++ sizes_text d.kind d.class x y → Adds (IsDeviceText nets k d) before after
device nets k d x y before mid after sizes e f =
    let t = f ∙ ap (λ (m : List ℕ). m ++ sizes_text d.kind d.class x y) e ∙ append_assoc before (device_nets_text nets k d) (sizes_text d.kind d.class x y) in
    (device_text nets k d x y, t, (x, y, sizes, refl))

-- ---- sizes

pub size_is : (ss : List Femto) (k : ℕ) → (get_or ss k (record { 0 = 0 })).0 ≡ slice_index (map (λ (f : Femto). f.0) ss) k
size_is [] k = refl
size_is (s ∷ ss) zero = refl
size_is (s ∷ ss) (suc k) = size_is ss k
