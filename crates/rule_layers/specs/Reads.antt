-- The names that derived names and device rules read.
use Rattle.std.specs.Prelude.{◌≡◌, ◌⊎◌, ◌↔◌, ℕ, ◌<◌, Bool, true, false, List, Some, length}
use Rattle.std.specs.Prelude.{get_or, slice_get}
use Rattle.rule_text.specs.declared.rules.LayerForm.{LayerForm}
use Rattle.rule_text.specs.declared.rules.LayerForm.TheVariants as form
use Rattle.rule_text.specs.declared.rules.LayerRule.{LayerRule}
use Rattle.rule_text.specs.declared.rules.MosRule.{MosRule}
use Rattle.rule_text.specs.declared.rules.MoreRule.{MoreRule}
use Rattle.rule_text.specs.declared.rules.MoreRule.TheVariants as more

-- an operator reads its operands, a sized layer the one that it is made of
abbrev pub Reads : LayerForm → ℕ → Type 0
Reads (form.Input key) k = ⊥
Reads (form.Labels key) k = ⊥
Reads form.Empty k = ⊥
Reads (form.Binary op a b) k = (a ≡ k) ⊎ (b ≡ k)
Reads (form.Sized a by) k = a ≡ k

-- the rule of a transistor reads its six layers
abbrev pub ReadsLayer : MosRule → ℕ → Type 0
ReadsLayer m k = (m.sd ≡ k) ⊎ ((m.g ≡ k) ⊎ ((m.w ≡ k) ⊎ ((m.ts ≡ k) ⊎ ((m.tg ≡ k)
    ⊎ (m.tb ≡ k)))))

-- that of a resistor five, that of a diode four
abbrev pub ReadsFurther : MoreRule → ℕ → Type 0
ReadsFurther (more.Resistor class n c w ta tw) k = (n ≡ k) ⊎ ((c ≡ k) ⊎ ((w ≡ k)
    ⊎ ((ta ≡ k) ⊎ (tw ≡ k))))
ReadsFurther (more.Diode class p n ta tc) k = (p ≡ k) ⊎ ((n ≡ k) ⊎ ((ta ≡ k) ⊎ (tc ≡ k)))

-- one of the first names reads it
pub record IsByName (names : List LayerRule) (count k : ℕ) : Type 0 where
  pub at : ℕ
  pub rule : LayerRule
  pub at_in : at < count
  pub there : slice_get names at ≡ Some rule
  pub reads : Reads rule.form k

-- one of the first device rules of a list reads it
pub record IsBy {A : Type 0} (R : A → ℕ → Type 0) (rules : List A) (count k : ℕ) : Type 0 where
  pub at : ℕ
  pub rule : A
  pub at_in : at < count
  pub there : slice_get rules at ≡ Some rule
  pub reads : R rule k

-- of transistors, and of the other devices
abbrev pub IsByDevice : List MosRule → ℕ → ℕ → Type 0
IsByDevice devices count k = IsBy ReadsLayer devices count k

abbrev pub IsByFurther : List MoreRule → ℕ → ℕ → Type 0
IsByFurther further count k = IsBy ReadsFurther further count k

-- a name or a device rule reads it
abbrev pub IsRead : List LayerRule → List MosRule → List MoreRule → ℕ → Type 0
IsRead names devices further k = IsByName names (length names) k
    ⊎ (IsByDevice devices (length devices) k ⊎ IsByFurther further (length further) k)

-- these numbers are marked, beside those marked before
pub record Marks (R : ℕ → Type 0) (old new : List Bool) : Type 0 where
  pub long : length new ≡ length old
  pub each : (k : ℕ) → k < length old → (get_or new k false ≡ true)
      ↔ ((get_or old k false ≡ true) ⊎ R k)

-- exactly these numbers are marked
abbrev pub AreMarked : (ℕ → Type 0) → List Bool → Type 0
AreMarked R marks = (k : ℕ) → k < length marks → (get_or marks k false ≡ true) ↔ R k

-- a form; an input layer that isn't read has no squares
abbrev pub read_form : Bool → LayerForm → LayerForm
read_form true f = f
read_form false (form.Input key) = form.Empty
read_form false (form.Labels key) = form.Labels key
read_form false form.Empty = form.Empty
read_form false (form.Binary op a b) = form.Binary op a b
read_form false (form.Sized a by) = form.Sized a by

-- the form of a name that is read, or of one that isn't
abbrev pub IsReadAs : Type 0 → LayerForm → LayerForm → Type 0
IsReadAs P f seen = (P × (seen ≡ f)) ⊎ ((P → ⊥) × (seen ≡ read_form false f))

-- the names as derived names and device rules see them
pub record AreRead (names : List LayerRule) (devices : List MosRule) (further : List MoreRule)
    (read : List LayerRule) : Type 0 where
  pub count : length read ≡ length names
  pub each : (k : ℕ) (rule : LayerRule) → slice_get names k ≡ Some rule → (seen : LayerRule)
      × (slice_get read k ≡ Some seen)
      × IsReadAs (IsRead names devices further k) rule.form seen.form
