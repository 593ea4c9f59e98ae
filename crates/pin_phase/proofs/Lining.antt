-- Lines that connect texts to conductors, and the names of globals.
use Rattle.std.proofs.Common.{◌≡◌, ℕ, ◌+◌, ◌<◌, List, [], ◌∷◌, ◌++◌, append_assoc, Option, Some, None, length, map, take, get_or, slice_get, refl, sym, ◌∙◌, ap, if◌then◌else◌}
use Rattle.std.proofs.Math.Seq.{take-length}
use Rattle.std.proofs.lemmas.List.{append-nil, map_push, take_more}
use Rattle.std.specs.List.{flat_map, list_any}
use Rattle.std.specs.Str.{bytes_eq}
use Rattle.geo_base.specs.declared.layer.LayerKey.{LayerKey}
use Rattle.flat_layout.specs.Regions.{Label}
use Rattle.rule_layers.specs.Meaning.{form_texts, globals_behind, globals_of, labels_by, labels_of, rule_texts, texts_of}
use Rattle.rule_text.specs.Rules.{Rules}
use Rattle.rule_text.specs.declared.rules.LayerForm.{LayerForm}
use Rattle.rule_text.specs.declared.rules.LayerForm.TheVariants as form
use Rattle.rule_text.specs.declared.rules.LayerRule.{LayerRule}
use Rattle.text_table.specs.Texts.{with_text}
use Rattle.pin_phase.specs.Lines.{label}
use Rattle.pin_phase.specs.declared.lines.TextLine.{TextLine}

-- the line of a labels name
pub label_more : (r : Rules) (name conductor : ℕ) (rule : LayerRule) (key : LayerKey) (old new : List TextLine) → slice_get r.names name ≡ Some rule → form_texts rule.form ≡ key ∷ []
    → new ≡ old ++ record { key = key; conductor = conductor } ∷ [] → map label new ≡ map label old ++ labels_by conductor (texts_of r name)
label_more r name conductor rule key old new at form e =
    let texts : texts_of r name ≡ key ∷ [] = ap rule_texts at ∙ form in
    ap (map label) e ∙ map_push label old (record { key = key; conductor = conductor }) ∙ ap (λ (ks : List LayerKey). map label old ++ labels_by conductor ks) (sym texts)

-- no line of another
pub label_none : (r : Rules) (name conductor : ℕ) (o : Option LayerRule) (old : List TextLine) → slice_get r.names name ≡ o → rule_texts o ≡ [] → map label old ≡ map label old ++ labels_by conductor (texts_of r name)
label_none r name conductor o old at none =
    let texts : texts_of r name ≡ [] = ap rule_texts at ∙ none in
    sym (append-nil (map label old)) ∙ ap (λ (ks : List LayerKey). map label old ++ labels_by conductor ks) (sym texts)

pub nothing_none : rule_texts None ≡ []
nothing_none = refl

-- a form of another kind has no layer of texts
pub no_labels : (f : LayerForm) → ((key : LayerKey) → f ≡ form.Labels key → ⊥) → form_texts f ≡ []
no_labels (form.Input key) not = refl
no_labels (form.Labels key) not = absurd (not key refl)
no_labels form.Empty not = refl
no_labels (form.Binary op a b) not = refl
no_labels (form.Sized a by) not = refl

-- what a connect line connects to texts
abbrev pub labels_at : Rules → ℕ × ℕ → List Label
labels_at r c = labels_by c.1 (texts_of r c.0) ++ labels_by c.0 (texts_of r c.1)

flat_last : (f : ℕ × ℕ → List Label) (xs : List (ℕ × ℕ)) (x : ℕ × ℕ) → flat_map f (xs ++ x ∷ []) ≡ flat_map f xs ++ f x
flat_last f [] x = append-nil (f x)
flat_last f (y ∷ xs) x = ap (λ (l : List Label). f y ++ l) (flat_last f xs x) ∙ sym (append_assoc (f y) (flat_map f xs) (f x))

pub labels_more : (r : Rules) (lines : List (ℕ × ℕ)) (n : ℕ) (line : ℕ × ℕ) (old mid new : List Label) → n < length lines → line ≡ get_or lines n line → old ≡ flat_map (labels_at r) (take n lines)
    → mid ≡ old ++ labels_by line.1 (texts_of r line.0) → new ≡ mid ++ labels_by line.0 (texts_of r line.1) → new ≡ flat_map (labels_at r) (take (n + 1) lines)
labels_more r lines n line old mid new lt is h one two =
    two ∙ ap (λ (l : List Label). l ++ labels_by line.0 (texts_of r line.1)) (one ∙ ap (λ (l : List Label). l ++ labels_by line.1 (texts_of r line.0)) h)
    ∙ append_assoc (flat_map (labels_at r) (take n lines)) (labels_by line.1 (texts_of r line.0)) (labels_by line.0 (texts_of r line.1))
    ∙ sym (ap (flat_map (labels_at r)) (take_more lines n line lt ∙ ap (λ (c : ℕ × ℕ). take n lines ++ c ∷ []) (sym is)) ∙ flat_last (labels_at r) (take n lines) line)

pub labels_all : (r : Rules) (n : ℕ) (all : List Label) → n ≡ length r.connects → all ≡ flat_map (labels_at r) (take n r.connects) → all ≡ labels_of r
labels_all r n all e h = h ∙ ap (λ (l : List (ℕ × ℕ)). flat_map (labels_at r) l) (ap (λ k. take k r.connects) e ∙ take-length r.connects)

-- a global's line more
behind_last : (seen : List (List ℕ)) (gs : List (ℕ × List ℕ)) (g : ℕ × List ℕ) → globals_behind seen (gs ++ g ∷ []) ≡ with_text (globals_behind seen gs) g.1
behind_last seen [] g = refl
behind_last seen (h ∷ gs) g = behind_last (if list_any (bytes_eq h.1) seen then seen else seen ++ h.1 ∷ []) gs g

pub globals_more : (gs : List (ℕ × List ℕ)) (n : ℕ) (g : ℕ × List ℕ) (text : List ℕ) (old new : List (List ℕ)) → n < length gs → g ≡ get_or gs n g → text ≡ g.1 → old ≡ globals_behind [] (take n gs) → new ≡ with_text old text
    → new ≡ globals_behind [] (take (n + 1) gs)
globals_more gs n g text old new lt is same h e =
    e ∙ ap (λ (t : List ℕ). with_text old t) same ∙ ap (λ (l : List (List ℕ)). with_text l g.1) h
    ∙ sym (ap (globals_behind []) (take_more gs n g lt ∙ ap (λ (c : ℕ × List ℕ). take n gs ++ c ∷ []) (sym is)) ∙ behind_last [] (take n gs) g)

pub globals_all : (r : Rules) (n : ℕ) (names : List (List ℕ)) → n ≡ length r.globals → names ≡ globals_behind [] (take n r.globals) → names ≡ globals_of r
globals_all r n names e h = h ∙ ap (globals_behind []) (ap (λ k. take k r.globals) e ∙ take-length r.globals)
