-- Words of calls, and counts.
use Rattle.std.proofs.Common.{◌≡◌, Bool, true, false, List, [], ◌∷◌, ℕ, zero, suc, Some, None, length, refl, ap, Bor}
use Rattle.std.specs.Prelude.{◌&&◌, not, codes, map, slice_get, slice_index_or, if◌then◌else◌}
use Rattle.std.specs.Global.{Vec}
use Rattle.std.specs.Str.{bytes_eq}
use Rattle.spice_cards.specs.Parts.{Param}
use Rattle.spice_cards.specs.Seen.{words_seen}
use Rattle.netlist_turn.specs.Devices.{stands_for}
use Rattle.netlist_turn.specs.Listed.{is_odd, text_for}
use Rattle.netlist_turn.specs.declared.settings.Settings.{Settings}

pub odd_is : (s : Settings) (keys : List Param) (count : List ℕ) (p : Param) (b : Bool)
    → b ≡ (stands_for (codes "CHECK") keys p && not (bytes_eq (text_for s p) (codes "1")) && not (bytes_eq (text_for s p) count)) → b ≡ is_odd s keys count p
unfolding is_odd
odd_is s keys count p b e = e

pub words_long : (ws : List (Bor (List ℕ))) → length (words_seen ws) ≡ length ws
words_long [] = refl
words_long (w ∷ ws) = ap suc (words_long ws)

-- the word of a place
pub word_there : (ws : List (Bor (List ℕ))) (k : ℕ) (w : Bor (List ℕ)) → slice_get ws k ≡ Some w → slice_index_or (words_seen ws) k [] ≡ w.now
word_there [] k w e = absurd cc
word_there (x ∷ ws) zero w e = let f : x ≡ w = cc in ap (λ (v : Bor (List ℕ)). v.now) f
word_there (x ∷ ws) (suc k) w e = word_there ws k w e

pub word_past : (ws : List (Bor (List ℕ))) (k : ℕ) → slice_get ws k ≡ None → slice_index_or (words_seen ws) k [] ≡ []
word_past [] k e = refl
word_past (x ∷ ws) zero e = absurd cc
word_past (x ∷ ws) (suc k) e = word_past ws k e

pub texts_long : (ts : List (Vec ℕ)) → length (map (λ (n : Vec ℕ). n.items) ts) ≡ length ts
texts_long [] = refl
texts_long (t ∷ ts) = ap suc (texts_long ts)

-- the text of a place
pub text_there : (ts : List (Vec ℕ)) (k : ℕ) (t : Vec ℕ) → slice_get ts k ≡ Some t → slice_index_or (map (λ (n : Vec ℕ). n.items) ts) k [] ≡ t.items
text_there [] k t e = absurd cc
text_there (x ∷ ts) zero t e = let f : x ≡ t = cc in ap (λ (v : Vec ℕ). v.items) f
text_there (x ∷ ts) (suc k) t e = text_there ts k t e

pub text_past : (ts : List (Vec ℕ)) (k : ℕ) → slice_get ts k ≡ None → slice_index_or (map (λ (n : Vec ℕ). n.items) ts) k [] ≡ []
text_past [] k e = refl
text_past (x ∷ ts) zero e = absurd cc
text_past (x ∷ ts) (suc k) e = text_past ts k e

-- neither the nets nor the counts are wrong
pub none_wrong : {A : Type 0} (a b : Bool) (x y z : A) → a ≡ true → b ≡ false → z ≡ (if not a then x else if b then y else z)
none_wrong true true x y z e f = absurd cc
none_wrong true false x y z e f = refl
none_wrong false b x y z e f = absurd cc
