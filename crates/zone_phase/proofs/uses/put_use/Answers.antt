use Rattle.std.proofs.Common.{◌≡◌, ◌<◌, ℕ, List, [], ◌∷◌, ◌++◌, length, get_or, set, ap, ◌∙◌, sym, arith, get_or-set_same, get_or-set_other, length-set}
use Rattle.std.specs.Global.{Vec}
use Rattle.std.proofs.lemmas.List.{length-map, map-set, get_or-map}
use Rattle.zone_phase.specs.declared.uses.Use.{Use}
use Rattle.zone_phase.specs.Uses.{IsPut, lists_of, uses_of}
use Rattle.zone_phase.proofs.uses.put_use.Goals as goal

put : (old : List (Vec Use)) (cell : ℕ) (u : Use) (v w : Vec Use) → cell < length (lists_of old) → v ≡ get_or old cell v → w.items ≡ v.items ++ u ∷ [] → IsPut (lists_of old) (lists_of (set old cell w)) cell u
put old cell u v w lt at e =
    let m : length (lists_of old) ≡ length old = length-map old (λ (x : Vec Use). x.items) in
    let n : length (lists_of (set old cell w)) ≡ length old = length-map (set old cell w) (λ (x : Vec Use). x.items) ∙ length-set old cell w in
    let s : lists_of (set old cell w) ≡ set (lists_of old) cell w.items = map-set (λ (x : Vec Use). x.items) old cell w in
    let r : uses_of (lists_of old) cell ≡ v.items = get_or-map (λ (x : Vec Use). x.items) old cell v [] (omega arith) ∙ ap (λ (x : Vec Use). x.items) (sym at) in
    record {
      count = n ∙ sym m;
      here = ap (λ l. uses_of l cell) s ∙ get_or-set_same (lists_of old) cell w.items [] lt ∙ e ∙ ap (λ l. l ++ u ∷ []) (sym r);
      others = λ k d. ap (λ l. uses_of l k) s ∙ get_or-set_other (lists_of old) cell k w.items [] d;
    }

pub returns : goal.returns
returns c = put c.args.lists.now.items c.args.cell c.args.found c.index_mut.result.now c.push.new.self c.requires c.index_mut.ensures.value (c.in_ok-push.ensures {u = tt}).items
